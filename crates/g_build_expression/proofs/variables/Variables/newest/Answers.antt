use Rattle.std.proofs.Common.{◌≡◌, ◌-◌, length, sym, ap, ◌∙◌, arith}
use Rattle.std.specs.Prelude.{option_copied, slice_get, Some, None}
use Rattle.g_build_def.specs.Writer.{newest, slot_origin}
use Rattle.g_build_expression.proofs.lemmas.Scopes.{newest_of, newest_none}
use Rattle.g_build_expression.proofs.variables.Variables.newest.Goals as goal

pub returns-in-Some : goal.returns-in-Some
returns-in-Some c =
    let count = ap length c.deref.ensures.value in
    let found : slice_get c.self.inside.all.items (length c.deref.result.now - 1) ≡ Some c.in-Some.variable.now =
    ap (λ xs. slice_get xs (length c.deref.result.now - 1)) (sym c.deref.ensures.value) ∙ sym c.last.ensures.value ∙ ap option_copied c.in-Some.is in
    c.value_origin.ensures ∙ newest_of c.self.inside.all.items (length c.deref.result.now - 1) c.in-Some.variable.now (omega (arith, count)) found
    ∙ ap (λ xs. slot_origin (newest xs)) c.self.view_is

pub returns-in-None : goal.returns-in-None
returns-in-None c =
    let count = ap length c.deref.ensures.value in
    let missing : slice_get c.self.inside.all.items (length c.deref.result.now - 1) ≡ None =
    ap (λ xs. slice_get xs (length c.deref.result.now - 1)) (sym c.deref.ensures.value) ∙ sym c.last.ensures.value ∙ ap option_copied c.in-None.is in
    newest_none c.self.inside.all.items (length c.deref.result.now - 1) (omega (arith, count)) missing ∙ ap (λ xs. slot_origin (newest xs)) c.self.view_is
