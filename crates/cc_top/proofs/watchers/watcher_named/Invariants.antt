use Rattle.std.proofs.Common.{◌≡◌, drop}
use Rattle.cc_top.specs.Watchers.{watcher_named}
use Rattle.cc_top.proofs.watchers.watcher_named.Given as goal

-- the first of the name is not among the watchers so far
abbrev pub invariant-loop-watcher : goal.invariant-loop-watcher
invariant-loop-watcher g l =
    watcher_named (λ b. (goal.Watcher-dyn g (b.vtable, b.value)).named b.value) l.name (drop l.watcher-index l.watchers)
    ≡ watcher_named (λ b. (goal.Watcher-dyn g (b.vtable, b.value)).named b.value) l.name l.watchers
