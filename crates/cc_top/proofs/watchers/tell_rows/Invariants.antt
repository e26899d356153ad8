-- All watchers were given the rows so far.
use Rattle.std.proofs.Common.{take}
use Rattle.cc_top.specs.Watchers.{AllHaveGained}
use Rattle.cc_top.proofs.watchers.tell_rows.Given as goal

abbrev pub invariant-loop-row : goal.invariant-loop-row
invariant-loop-row g l =
    AllHaveGained (λ b. (goal.Watcher-dyn g (b.vtable, b.value)).named b.value) (λ b. (goal.Watcher-dyn g (b.vtable, b.value)).stands_for b.value)
    (λ b. (goal.Watcher-dyn g (b.vtable, b.value)).text_of b.value) (take l.row-index l.rows) l.initial.watchers l.watchers
