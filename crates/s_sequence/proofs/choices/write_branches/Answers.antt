use Rattle.std.proofs.Common.{ap, ◌∙◌, ◌+◌, ◌-◌}
use Rattle.s_linear.specs.Lines.{branch_equal}
use Rattle.s_sequence.specs.Writer.{PlainWriter}
use Rattle.s_sequence.specs.Written.{branch_lines}
use Rattle.s_sequence.proofs.MoveLemmas.{one_more}
use Rattle.s_sequence.proofs.BranchLemmas.{branch_more}
use Rattle.s_sequence.proofs.choices.write_branches.Goals as goal

pub loop-number-preserved : goal.loop-number-preserved
loop-number-preserved c =
    let p = c.args.predicate in
    let i = c.loop-number.number in
    let n = c.args.count in
    let first = c.args.first in
    let e = c.in_ok-push.ensures in
    record {
      lines = one_more c.loop-number.w.lines c.push.new.self.lines (branch_lines p (i + 1) first (n - (i + 1))) (branch_lines p i first (n - i)) _
          (branch_equal p i (first + i))
          (ap (λ (w : PlainWriter). w.lines) e) (branch_more p i first n c.loop-number-test.true) c.loop-number.invariant.lines;
      next = ap (λ (w : PlainWriter). w.next) e ∙ c.loop-number.invariant.next;
      label = ap (λ (w : PlainWriter). w.label) e ∙ c.loop-number.invariant.label;
    }
