-- The rules that are left are fewer.
use Rattle.std.proofs.Common.{length}
use Rattle.g_pass.proofs.fast.+sweep_each.Given as goal

abbrev pub decreases-sweep_each : goal.decreases-sweep_each
decreases-sweep_each g l = length l.sweeps.now
