-- The rules that are left are fewer.
use Rattle.std.proofs.Common.{length}
use Rattle.g_pass.proofs.fast.+arena_rules.Given as goal

abbrev pub decreases-arena_rules : goal.decreases-arena_rules
decreases-arena_rules l = length l.sweeps.now
