-- The ranks of the functions so far are listed.
use Rattle.std.proofs.Common.{◌≡◌, map, take, slice_index}
use Rattle.g_pass_work.proofs.numbering.ranks_of.Given as goal

abbrev pub invariant-loop-function : goal.invariant-loop-function
invariant-loop-function l = l.own.items ≡ map (slice_index l.ranks) (take l.function-index l.functions)
