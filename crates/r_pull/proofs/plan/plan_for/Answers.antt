use Rattle.std.proofs.Common.{◌++◌, length, ap, subst₂, ◌∙◌}
use Rattle.g_graph.specs.Plain.{op_of, inputs_in, regions_of, regions_in}
use Rattle.r_pull.specs.Rule.{other_entries}
use Rattle.r_pull.specs.Edit.{AreListsOfAll}
use Rattle.r_pull.proofs.Filled.{plan_is}
use Rattle.r_pull.proofs.plan.plan_for.Goals as goal

pub returns : goal.returns
returns c =
    let entries = c.entries_of.result.now in
    let carried = c.carried-inputs.result.now in
    plan_is c.args.next c.args.id c.args.node.now c.args.user.now c.in_ok-plan.plan entries carried c.entries_of.ensures c.carried-inputs.ensures c.in_ok-plan.ensures.stays
    (c.in_ok-plan.ensures.inputs ∙ ap (λ xs. xs ++ carried) (c.as_slice.ensures ∙ ap inputs_in c.user.view_is))
    (subst₂ (λ op rs. AreListsOfAll (other_entries c.args.id entries) c.args.next (length entries) op carried rs c.in_ok-plan.plan.lists.items) (ap op_of c.node.view_is)
    (ap regions_of c.deref.ensures.value ∙ ap regions_in c.user.view_is) c.in_ok-plan.ensures.lists)
