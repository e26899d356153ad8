-- The jobs so far have their deps.
use Rattle.std.proofs.Common.{◌≡◌, ◌≤◌, map}
use Rattle.std.specs.List.{range_with_len}
use Rattle.g_pass_work.specs.Renewal.{job_of}
use Rattle.g_pass_work.proofs.numbering.jobs_of.Given as goal

abbrev pub invariant-loop-function : goal.invariant-loop-function
invariant-loop-function l = (l.jobs.items ≡ map (job_of l.stale) (range_with_len 0 l.function)) × (l.count ≡ job_of l.stale l.function) × (l.count ≤ l.function)
