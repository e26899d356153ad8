use Rattle.std.proofs.Common.{◌≡◌, sym, ap, ◌∙◌, arith}
use Rattle.std.specs.Prelude.{is_some}
use Rattle.g_graph.specs.declared.op.Op.TheVariants.{Theta}
use Rattle.g_graph.specs.Plain.{op_of}
use Rattle.r_dne.specs.Rule.{shrunk}
use Rattle.r_dne.proofs.Tests.{theta_none}
use Rattle.r_dne.proofs.find.can_shrink_theta.Goals as goal

pub returns-then-len-ne1 : goal.returns-then-len-ne1
returns-then-len-ne1 c =
    let n = c.node.inside in
    let is : n.op ≡ Theta = ap op_of c.node.view_is ∙ c.requires in
    ap is_some
    (sym (theta_none c.args.region.now n.id n.op n.inputs.items n.regions.items is (λ e. c.if-len-ne1.true (omega (arith, c.len.ensures, e, n.regions.ok.0))))
    ∙ ap (shrunk c.args.region.now) c.node.view_is)
