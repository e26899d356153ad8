use Rattle.g_build_keeps.proofs.Runs.{starts-as-program}
use Rattle.g_build_keeps.proofs.laws.construction_keeps_programs.Goals as goal

pub returns : goal.returns
returns c p typed few = starts-as-program p typed few c.leaves_are_in_order.ensures c.well_typed_are_built.ensures
