use Rattle.std.proofs.Common.{◌+◌, ◌-◌, map, ap, ◌∙◌}
use Rattle.s_linear.specs.Linear.{move}
use Rattle.s_linear.specs.Lines.{done}
use Rattle.val_core.specs.Numbers.{numbers_from}
use Rattle.s_sequence.specs.Sequence.{moves}
use Rattle.s_sequence.specs.Writer.{PlainWriter}
use Rattle.s_sequence.proofs.MoveLemmas.{back_more, one_more}
use Rattle.s_sequence.proofs.moves.write_back.Goals as goal

pub loop-i-preserved : goal.loop-i-preserved
loop-i-preserved c =
    let i = c.loop-i.i in
    let n = c.args.count in
    let t = c.args.target in
    let s = c.args.source in
    let e = c.in_ok-push_move.ensures in
    record {
      lines = one_more c.loop-i.w.lines c.push_move.new.self.lines (map done (moves (t + (i + 1)) (numbers_from (s + (i + 1)) (n - (i + 1)))))
          (map done (moves (t + i) (numbers_from (s + i) (n - i))))
          _ (done (move (t + i) (s + i))) (ap (λ (w : PlainWriter). w.lines) e) (back_more t s i n c.loop-i-test.true) c.loop-i.invariant.lines;
      next = ap (λ (w : PlainWriter). w.next) e ∙ c.loop-i.invariant.next;
      label = ap (λ (w : PlainWriter). w.label) e ∙ c.loop-i.invariant.label;
    }
