use Rattle.std.proofs.Common.{ℕ, List, length, slice_index, ap, ◌∙◌, arith}
use Rattle.std.proofs.lemmas.List.Elements.{Contains-get_or}
use Rattle.std.proofs.lemmas.List.FromFn.{length-map-range_with_len}
use Rattle.g_pass_work.specs.Renewal.{job_of}
use Rattle.g_pass_work.proofs.Numbers.{stale-more, job-read}
use Rattle.g_pass_work.proofs.numbering.stale_jobs.Goals as goal

pub bounds-jobs-function : goal.bounds-jobs-function
bounds-jobs-function c =
    let stale = c.args.stale.now in
    let here = c.requires.known _ (Contains-get_or c.args.functions.now c.loop-function.function-index 0 c.loop-function-test.true) in
    omega (arith, here, ap (λ (xs : List ℕ). length xs) c.requires.jobs ∙ length-map-range_with_len (job_of stale) 0 (length stale))

pub loop-function-preserved : goal.loop-function-preserved
loop-function-preserved c =
    let stale = c.args.stale.now in
    let functions = c.args.functions.now in
    let i = c.loop-function.function-index in
    let here = c.requires.known _ (Contains-get_or functions i 0 c.loop-function-test.true) in
    stale-more stale functions i c.is_stale.result (slice_index c.args.jobs.now (slice_index functions i)) c.loop-function.own.items c.push_if.new.list.items c.loop-function-test.true
    c.loop-function.invariant c.is_stale.ensures (job-read stale c.args.jobs.now (slice_index functions i) c.requires.jobs here) c.in_ok-push_if.ensures
