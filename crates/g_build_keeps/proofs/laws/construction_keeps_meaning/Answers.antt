use Rattle.g_build_keeps.proofs.Programs.{graph-has-meaning}
use Rattle.g_build_keeps.proofs.Functions.{bodies-fit}
use Rattle.g_build_keeps.proofs.laws.construction_keeps_meaning.Goals as goal

pub returns : goal.returns
returns c p typed few = graph-has-meaning p (bodies-fit p typed few c.leaves_are_in_order.ensures)
