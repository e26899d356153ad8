-- Which exit it is.
use Rattle.std.proofs.Common.{◌≡◌, ◌≢◌, length, sym, ap, ◌∙◌, arith}
use Rattle.std.proofs.lemmas.Bool.Decides.{nat_tests}
use Rattle.g_graph.specs.Plain.{node, regions_of}
use Rattle.r_push.specs.Walk.{exit_of}
use Rattle.r_push.proofs.Exits.{many_choose, one_loops, others_are_shut}
use Rattle.r_push.proofs.exit.exit_of.Goals as goal

pub returns-else-is_empty : goal.returns-else-is_empty
returns-else-is_empty c =
    let x = c.node.inside in
    many_choose x.id x.inputs.items x.regions.items c.len.result (omega (arith, x.regions.ok.0)) (λ e. grind (arith, nat_tests))
    ∙ sym (ap (λ op. exit_of (node x.id op x.inputs.items (regions_of x.regions.items))) c.in-Gamma.is) ∙ ap exit_of c.node.view_is

pub returns-then-len-eq1 : goal.returns-then-len-eq1
returns-then-len-eq1 c =
    let x = c.node.inside in
    let one : length x.regions.items ≡ 1 = grind (arith, nat_tests) in
    sym (one_loops x.id x.inputs.items x.regions.items one)
    ∙ sym (ap (λ op. exit_of (node x.id op x.inputs.items (regions_of x.regions.items))) c.in-Theta.is) ∙ ap exit_of c.node.view_is

pub returns-else-len-eq1 : goal.returns-else-len-eq1
returns-else-len-eq1 c =
    let x = c.node.inside in
    let other : length x.regions.items ≢ 1 = λ e. grind (arith, nat_tests) in
    sym (others_are_shut x.id x.inputs.items x.regions.items other)
    ∙ sym (ap (λ op. exit_of (node x.id op x.inputs.items (regions_of x.regions.items))) c.in-Theta.is) ∙ ap exit_of c.node.view_is
