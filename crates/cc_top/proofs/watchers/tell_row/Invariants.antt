use Rattle.std.proofs.Common.{◌∷◌, []}
use Rattle.cc_top.specs.Watchers.{HasGained}
use Rattle.cc_top.proofs.WatcherLemmas.{Below}
use Rattle.cc_top.proofs.watchers.tell_row.Given as goal

-- the watchers so far were given the row
abbrev pub invariant-loop-watcher : goal.invariant-loop-watcher
invariant-loop-watcher g l =
    Below
    (HasGained (λ b. (goal.Watcher-dyn g (b.vtable, b.value)).named b.value) (λ b. (goal.Watcher-dyn g (b.vtable, b.value)).stands_for b.value)
    (λ b. (goal.Watcher-dyn g (b.vtable, b.value)).text_of b.value) (l.row ∷ []))
    l.watcher-index l.initial.watchers l.watchers
