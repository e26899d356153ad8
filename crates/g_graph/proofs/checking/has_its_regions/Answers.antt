use Rattle.std.proofs.Common.{◌≡◌, sym, ap, ◌∙◌, length, vec_len, arith}
use Rattle.std.specs.Prelude.{◌==◌, not}
use Rattle.g_graph.specs.Plain.{node, regions_of}
use Rattle.g_graph.specs.WellFormed.{has_its_regions}
use Rattle.g_graph.proofs.KindLemmas.{gamma_has_regions, theta_has_region, has_no_regions}
use Rattle.g_graph.proofs.checking.has_its_regions.Goals as goal

pub returns-in-Gamma : goal.returns-in-Gamma
returns-in-Gamma c =
    let n = c.node.inside in
    let size : vec_len n.regions ≡ length n.regions.items = omega (arith, n.regions.ok.0) in
    ap not (c.is_empty.ensures ∙ ap (λ k. k == 0) size) ∙ sym (gamma_has_regions n.id n.inputs.items n.regions.items)
    ∙ ap (λ o. has_its_regions (node n.id o n.inputs.items (regions_of n.regions.items))) (sym c.in-Gamma.is)
    ∙ ap has_its_regions c.node.view_is

pub returns-in-Theta : goal.returns-in-Theta
returns-in-Theta c =
    let n = c.node.inside in
    let size : vec_len n.regions ≡ length n.regions.items = omega (arith, n.regions.ok.0) in
    ap (λ k. k == 1) (c.len.ensures ∙ size) ∙ sym (theta_has_region n.id n.inputs.items n.regions.items)
    ∙ ap (λ o. has_its_regions (node n.id o n.inputs.items (regions_of n.regions.items))) (sym c.in-Theta.is)
    ∙ ap has_its_regions c.node.view_is

pub returns-in_default : goal.returns-in_default
returns-in_default c =
    let n = c.node.inside in
    let size : vec_len n.regions ≡ length n.regions.items = omega (arith, n.regions.ok.0) in
    c.is_empty-in_default.ensures ∙ ap (λ k. k == 0) size ∙ sym (has_no_regions n.id n.op n.inputs.items n.regions.items c.in_default.not-Gamma c.in_default.not-Theta)
    ∙ ap has_its_regions c.node.view_is
