use Rattle.std.proofs.Common.{sym, ap, ◌∙◌, arith}
use Rattle.r_edit.specs.Variables.{node_looping}
use Rattle.r_edit.proofs.lemmas.InPlace.{not_looping}
use Rattle.r_edit.proofs.variables.VariablesKeptNodeEdit.edit_node.Goals as goal

pub returns-else-len-eq1 : goal.returns-else-len-eq1
returns-else-len-eq1 c =
    let stays = c.args.self.now.stays.now in
    let n = c.node.inside in
    let other = not_looping stays n.id n.op n.inputs.items n.regions.items (λ e. c.if-len-eq1.false (omega (arith, c.len.ensures, e, n.regions.ok.0))) in
    sym c.node.view_is ∙ sym other ∙ ap (node_looping stays) c.node.view_is
