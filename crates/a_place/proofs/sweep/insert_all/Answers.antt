use Rattle.a_place.proofs.Sets.{one_more}
use Rattle.a_place.proofs.sweep.insert_all.Goals as goal

pub loop-number-preserved : goal.loop-number-preserved
loop-number-preserved c = λ q.
    one_more c.args.numbers.now c.loop-number.number-index q _ _ _ c.loop-number-test.true (c.in_ok-insert.ensures.updates.0 q) (c.loop-number.invariant q)
