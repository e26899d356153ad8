-- The regions stand in the order of the node again.
use Rattle.std.proofs.Common.{ap, ◌∙◌}
use Rattle.g_graph.specs.Plain.{regions_of}
use Rattle.r_pull.proofs.Loops.{regions_in_order}
use Rattle.r_pull.proofs.walker.in_order.Goals as goal

pub returns : goal.returns
returns c = ap regions_of c.reverse.ensures.items ∙ regions_in_order c.args.regions.now.items
