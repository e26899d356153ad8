use Rattle.std.proofs.Common.{sym, ap, ◌∙◌}
use Rattle.std.specs.Prelude.{option_copied, slice_get}
use Rattle.g_build_def.specs.Writer.{variable_at}
use Rattle.g_build_expression.proofs.lemmas.Scopes.{item_get, at_found, at_missing}
use Rattle.g_build_expression.proofs.variables.Variables.at.Goals as goal

pub returns-in-Some : goal.returns-in-Some
returns-in-Some c =
    let l = c.get.ensures.lookup in
    let found = ap (λ xs. slice_get xs c.args.slot) (sym c.deref.ensures.value) ∙ sym (item_get c.deref.result.now c.args.slot c.get.result l.1 l.3) ∙ ap option_copied c.in-Some.is in
    let m = c.get-in-Some.ensures.lookup in
    let stands =
    c.copied.ensures ∙ item_get c.deref-in-Some.result.now c.in-Some.place.now c.get-in-Some.result m.1 m.3
    ∙ ap (λ xs. slice_get xs c.in-Some.place.now) c.deref-in-Some.ensures.value in
    at_found c.self.inside.all.items c.self.inside.places.items c.args.slot c.in-Some.place.now c.copied.result c.self.invariant.1 found stands
    ∙ ap (λ xs. variable_at xs c.args.slot) c.self.view_is

pub returns-in-None : goal.returns-in-None
returns-in-None c =
    let l = c.get.ensures.lookup in
    let missing = ap (λ xs. slice_get xs c.args.slot) (sym c.deref.ensures.value) ∙ sym (item_get c.deref.result.now c.args.slot c.get.result l.1 l.3) ∙ ap option_copied c.in-None.is in
    at_missing c.self.inside.all.items c.self.inside.places.items c.args.slot c.self.invariant.1 missing ∙ ap (λ xs. variable_at xs c.args.slot) c.self.view_is
