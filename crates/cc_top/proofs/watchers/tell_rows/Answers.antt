use Rattle.std.proofs.Common.{rules}
use Rattle.cc_top.proofs.WatcherLemmas.{all-same, all-then, begun-next, gained-all, gained-next, gained-none}
use Rattle.cc_top.proofs.watchers.tell_rows.Goals as goal

pub loop-row-init : goal.loop-row-init
loop-row-init g c = all-same _ (gained-none _ _ _) _

pub loop-row-preserved : goal.loop-row-preserved
loop-row-preserved g c =
    all-then _ _ _ (gained-next _ _ _ c.args.rows.now c.loop-row.row-index c.row-item.result (search rules) (search rules)) _ _ _ c.loop-row.invariant c.in_ok-tell_row.ensures.ok

pub returns-in_err-tell_row-clause-err : goal.returns-in_err-tell_row-clause-err
returns-in_err-tell_row-clause-err g c =
    let begun = begun-next _ _ _ c.args.rows.now c.loop-row.row-index c.row-item.result (search rules) (search rules) _ _ _ c.loop-row.invariant c.in_err-tell_row.ensures.err in
    search rules

pub returns-clause-ok : goal.returns-clause-ok
returns-clause-ok g c = gained-all _ _ _ c.args.rows.now c.loop-row.row-index _ _ (search rules) c.loop-row.invariant
