-- The stale ones of the functions so far are listed.
use Rattle.std.proofs.Common.{◌≡◌}
use Rattle.g_pass_work.specs.Renewal.{stale_below}
use Rattle.g_pass_work.proofs.numbering.functions_of.Given as goal

abbrev pub invariant-loop-function : goal.invariant-loop-function
invariant-loop-function l = l.functions.items ≡ stale_below l.stale l.function
