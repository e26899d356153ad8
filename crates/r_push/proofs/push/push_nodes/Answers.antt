use Rattle.std.proofs.Common.{refl, sym, ap, ◌∙◌}
use Rattle.g_graph.specs.Plain.{nodes_of}
use Rattle.r_push.specs.Edit.{push_index}
use Rattle.r_push.proofs.Indexed.{none-index}
use Rattle.r_push.proofs.push.push_nodes.Goals as goal

pub returns-in-None-clause-ok : goal.returns-in-None-clause-ok
returns-in-None-clause-ok c = (
  none-index c.args.values c.args.id c.args.nodes.now.items
      (ap (λ xs. push_index c.args.values c.args.id 0 (nodes_of xs)) (sym c.deref.ensures.value) ∙ sym c.push_index.ensures ∙ c.in-None.is),
  refl,
)
