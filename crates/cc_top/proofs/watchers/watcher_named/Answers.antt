use Rattle.std.proofs.Common.{◌∙◌, rules}
use Rattle.cc_top.proofs.WatcherLemmas.{found-first, found-later}
use Rattle.cc_top.proofs.watchers.watcher_named.Goals as goal

pub returns-then-is_named : goal.returns-then-is_named
returns-then-is_named g c = found-first _ c.args.watchers.now c.loop-watcher.watcher-index c.watcher-item.result (search rules) (search rules) (search rules) ∙ c.loop-watcher.invariant

pub loop-watcher-preserved : goal.loop-watcher-preserved
loop-watcher-preserved g c = found-later _ c.args.watchers.now c.loop-watcher.watcher-index c.watcher-item.result (search rules) (search rules) (search rules) ∙ c.loop-watcher.invariant
