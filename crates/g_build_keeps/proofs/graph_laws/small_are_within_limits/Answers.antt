use Rattle.g_build_keeps.proofs.ProgramGraphs.{small_are_within_limits}
use Rattle.g_build_keeps.proofs.graph_laws.small_are_within_limits.Goals as goal

pub returns : goal.returns
returns c = small_are_within_limits
