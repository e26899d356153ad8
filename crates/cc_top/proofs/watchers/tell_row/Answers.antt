use Rattle.std.proofs.Common.{rules}
use Rattle.cc_top.proofs.WatcherLemmas.{begun-below, below-all, below-more}
use Rattle.cc_top.proofs.watchers.tell_row.Goals as goal

pub loop-watcher-preserved : goal.loop-watcher-preserved
loop-watcher-preserved g c = below-more _ c.loop-watcher.watcher-index _ _ _ _ (search rules) c.loop-watcher.invariant c.in_ok-tell.ensures.ok

pub returns-in_err-tell-clause-err : goal.returns-in_err-tell-clause-err
returns-in_err-tell-clause-err g c =
    let begun = begun-below _ _ _ _ c.loop-watcher.watcher-index _ _ _ _ (search rules) c.loop-watcher.invariant c.in_err-tell.ensures.err in
    search rules

pub returns-clause-ok : goal.returns-clause-ok
returns-clause-ok g c = below-all _ c.loop-watcher.watcher-index _ _ (search rules) c.loop-watcher.invariant
