use Rattle.std.proofs.Common.{sym, ap, ◌∙◌, arith}
use Rattle.std.specs.Prelude.{option_copied, slice_get}
use Rattle.g_build_def.specs.Writer.{variable_set}
use Rattle.g_build_expression.proofs.lemmas.Scopes.{item_get, set_keeps, set_at_found, set_at_missing}
use Rattle.g_build_expression.proofs.variables.Variables.set.Goals as goal

pub invariant_of-self : goal.invariant_of-self
invariant_of-self c =
    let h = set_keeps c.self.inside.all.items c.set_held.new.all.items c.self.inside.places.items c.in-Some.place.now c.args.origin c.self.invariant.1 c.set_held.ensures in
    (omega (arith, h.0, c.self.invariant.0), h.1)

pub returns-in-Some : goal.returns-in-Some
returns-in-Some c =
    let l = c.get.ensures.lookup in
    let found = ap (λ xs. slice_get xs c.args.slot) (sym c.deref.ensures.value) ∙ sym (item_get c.deref.result.now c.args.slot c.get.result l.1 l.3) ∙ ap option_copied c.in-Some.is in
    set_at_found c.self.inside.all.items c.set_held.new.all.items c.self.inside.places.items c.args.slot c.in-Some.place.now c.args.origin c.self.invariant.1 found c.set_held.ensures
    ∙ ap (λ xs. variable_set xs c.args.slot c.args.origin) c.self.view_is

pub returns-in-None : goal.returns-in-None
returns-in-None c =
    let l = c.get.ensures.lookup in
    let missing = ap (λ xs. slice_get xs c.args.slot) (sym c.deref.ensures.value) ∙ sym (item_get c.deref.result.now c.args.slot c.get.result l.1 l.3) ∙ ap option_copied c.in-None.is in
    sym c.self.view_is ∙ set_at_missing c.self.inside.all.items c.self.inside.places.items c.args.slot c.args.origin c.self.invariant.1 missing
    ∙ ap (λ xs. variable_set xs c.args.slot c.args.origin) c.self.view_is
