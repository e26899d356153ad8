use Rattle.std.proofs.Common.{◌∙◌, ◌≤◌, ◌<◌, ap, sym, subst, length, get_or, None, Some}
use Rattle.std.specs.Option.{option_map}
use Rattle.std.proofs.lemmas.Option.{slice_get_past, slice_get-get_or}
use Rattle.c_check_scope.proofs.lemmas.Latest.{found}
use Rattle.c_check_scope.proofs.declarations.Declarations.lookup.Goals as goal

pub returns-in_err-index : goal.returns-in_err-index
returns-in_err-index g c = c.from_residual.ensures ∙ found _ c.self.inside.all.items c.args.self.now c.args.name.now c.self.invariant c.self.view_is None c.in_err-index.ensures.value

pub returns-in_err-get : goal.returns-in_err-get
returns-in_err-get g c =
    let xs = c.self.inside.all.items in
    let i = c.in_ok-index.field-0.now in
    let past = subst (λ xs. length xs ≤ i) c.deref.ensures.value c.in_err-get.ensures.lookup.3 in
    c.from_residual-in_err-get.ensures ∙ sym (ap (option_map (λ d. d.meaning)) (slice_get_past xs i past))
    ∙ found _ xs c.args.self.now c.args.name.now c.self.invariant c.self.view_is (Some i) c.in_ok-index.ensures.value

pub returns : goal.returns
returns g c =
    let xs = c.self.inside.all.items in
    let i = c.in_ok-index.field-0.now in
    let d = c.in_ok-get.field-0.now in
    let look = c.in_ok-get.ensures.lookup in
    let same = c.deref.ensures.value in
    let here = look.1 ∙ ap (λ xs. get_or xs i d) same in
    let below = subst (λ xs. i < length xs) same look.3.0 in
    ap (option_map (λ d. d.meaning)) (ap Some here ∙ sym (slice_get-get_or xs i d below))
    ∙ found _ xs c.args.self.now c.args.name.now c.self.invariant c.self.view_is (Some i) c.in_ok-index.ensures.value
