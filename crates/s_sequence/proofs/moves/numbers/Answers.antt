use Rattle.std.proofs.Common.{◌+◌, ◌-◌}
use Rattle.val_core.specs.Numbers.{numbers_from}
use Rattle.s_sequence.proofs.MoveLemmas.{numbers_more, one_more}
use Rattle.s_sequence.proofs.moves.numbers.Goals as goal

pub loop-i-preserved : goal.loop-i-preserved
loop-i-preserved c =
    let i = c.loop-i.i in
    let n = c.args.count in
    one_more c.loop-i.numbers.items c.push.new.self.items (numbers_from (i + 1) (n - (i + 1))) (numbers_from i (n - i)) (numbers_from 0 n) i c.in_ok-push.ensures.items
    (numbers_more i i n c.loop-i-test.true)
    c.loop-i.invariant
