use Rattle.std.proofs.Common.{arith}
use Rattle.g_pass_work.proofs.Numbers.{jobs-more, count-more, at-most-one}
use Rattle.g_pass_work.proofs.numbering.jobs_of.Goals as goal

pub loop-function-preserved : goal.loop-function-preserved
loop-function-preserved c =
    let stale = c.args.stale.now in
    let n = c.loop-function.function in
    let b = c.is_stale.result in
    let one = at-most-one b in (
      jobs-more stale n c.loop-function.jobs.items c.push.new.self.items c.loop-function.count c.loop-function.invariant.0 c.loop-function.invariant.1 c.in_ok-push.ensures.items,
      count-more stale n b c.loop-function.count c.counted-count.result c.loop-function.invariant.1 c.is_stale.ensures c.counted-count.ensures,
      omega (arith, c.loop-function.invariant.2, c.counted-count.ensures, one),
    )
