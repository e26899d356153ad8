-- The stale ones of the functions so far have their numbers.
use Rattle.std.proofs.Common.{◌≡◌, take}
use Rattle.g_pass_work.specs.Renewal.{stale_jobs}
use Rattle.g_pass_work.proofs.numbering.stale_jobs.Given as goal

abbrev pub invariant-loop-function : goal.invariant-loop-function
invariant-loop-function l = l.own.items ≡ stale_jobs l.stale (take l.function-index l.functions)
