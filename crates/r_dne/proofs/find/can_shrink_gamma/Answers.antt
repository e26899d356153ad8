use Rattle.std.proofs.Common.{not, ◌&&◌, [], refl, sym, ap, ◌∙◌}
use Rattle.g_graph.specs.Plain.{regions_of, regions_in}
use Rattle.g_graph.specs.Signatures.{first_args}
use Rattle.r_edit.specs.Exits.{regions_giving}
use Rattle.r_edit.specs.InPlace.{all_stay}
use Rattle.r_dne.specs.Rule.{used_entries}
use Rattle.r_dne.proofs.Tests.{gamma_is}
use Rattle.r_dne.proofs.find.can_shrink_gamma.Goals as goal

pub returns-then-not-all_stay : goal.returns-then-not-all_stay
returns-then-not-all_stay c =
    let rs = regions_in c.args.node.now in
    let here = sym c.all_stay.ensures ∙ c.if-not-all_stay.true in
    (λ i. not (sym here i && all_stay (used_entries (regions_giving [] rs) 0 (first_args rs)))) ∙ sym (gamma_is c.args.region.now c.args.node.now rs c.requires refl)

pub returns : goal.returns
returns c =
    let rs = regions_of c.deref.result.now in
    let inside = sym (ap regions_in c.node.view_is) ∙ ap regions_of (sym c.deref.ensures.value) in
    let here = sym c.all_stay.ensures ∙ c.if-not-all_stay.false in
    ap not c.all_stay-2.ensures ∙ (λ i. not (sym here i && all_stay (used_entries (regions_giving [] rs) 0 (first_args rs)))) ∙ sym (gamma_is c.args.region.now c.args.node.now rs c.requires inside)
