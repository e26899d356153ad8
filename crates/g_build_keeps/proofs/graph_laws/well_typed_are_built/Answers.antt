use Rattle.g_build_keeps.proofs.ProgramGraphs.{well_typed_are_built}
use Rattle.g_build_keeps.proofs.graph_laws.well_typed_are_built.Goals as goal

pub returns : goal.returns
returns c = well_typed_are_built c.leaves_are_in_order.ensures c.formed_is_well_formed.ensures
