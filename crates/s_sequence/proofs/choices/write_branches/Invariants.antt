use Rattle.std.proofs.Common.{◌≡◌, ◌-◌, ◌++◌}
use Rattle.s_sequence.specs.Written.{branch_lines}
use Rattle.s_sequence.proofs.choices.write_branches.Given as goal

abbrev pub invariant-loop-number : goal.invariant-loop-number
invariant-loop-number l = record {
  lines : l.w.lines ++ branch_lines l.predicate l.number l.first (l.count - l.number) ≡ l.fn.w.lines ++ branch_lines l.predicate 0 l.first l.count;
  next : l.w.next ≡ l.fn.w.next;
  label : l.w.label ≡ l.fn.w.label;
}
