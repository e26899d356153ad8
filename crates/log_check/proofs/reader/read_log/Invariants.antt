use Rattle.std.proofs.Common.{length}
use Rattle.log_check.proofs.ReadSoFar.{HasRead}
use Rattle.log_check.proofs.reader.read_log.Given as goal

-- the functions so far stand in front of what is left
abbrev pub invariant-loop-rest : goal.invariant-loop-rest
invariant-loop-rest l = HasRead l.bytes l.log l.line l.rest

abbrev pub decreases-loop-rest : goal.decreases-loop-rest
decreases-loop-rest l = length l.rest
