use Rattle.std.proofs.Common.{◌≡◌, sym, ap, ◌∙◌, arith}
use Rattle.g_graph.specs.declared.op.Op.TheVariants.{Theta}
use Rattle.r_inv.specs.Rule.{moved}
use Rattle.g_graph.specs.Plain.{op_of}
use Rattle.r_inv.proofs.Lists.{theta_none}
use Rattle.r_inv.proofs.find.theta_plan.Goals as goal

pub returns-then-len-ne1-clause-plan : goal.returns-then-len-ne1-clause-plan
returns-then-len-ne1-clause-plan c =
    let n = c.node.inside in
    let is : n.op ≡ Theta = ap op_of c.node.view_is ∙ c.requires in
    sym (theta_none c.args.region.now n.id n.op n.inputs.items n.regions.items is (λ e. c.if-len-ne1.true (omega (arith, c.len.ensures, e, n.regions.ok.0))))
    ∙ ap (moved c.args.region.now) c.node.view_is
