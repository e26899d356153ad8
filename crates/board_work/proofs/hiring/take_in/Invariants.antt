use Rattle.std.proofs.Common.{suc, List, vec_len}
use Rattle.board_core.specs.declared.event.Event.{Event}
use Rattle.board_core.specs.History.{History}
use Rattle.board_lock.specs.Locks.{lock_of}
use Rattle.board_work.specs.Crews.{IsMember, IsTakingIn}
use Rattle.board_work.specs.Workers.{Each}
use Rattle.board_work.proofs.hiring.take_in.Given as goal

abbrev pub invariant-loop-worker : goal.invariant-loop-worker
invariant-loop-worker g l =
    (board : History g.row.W.Denot) (front : List Event) → IsTakingIn (lock_of l.shared) board front (vec_len l.initial.others) l.initial.seat
    → Each (λ k. IsMember (lock_of l.shared) board (suc k)) l.initial.others.items
    → IsTakingIn (lock_of l.shared) board front (vec_len l.others) l.seat × Each (λ k. IsMember (lock_of l.shared) board (suc k)) l.others.items

abbrev pub decreases-loop-worker : goal.decreases-loop-worker
decreases-loop-worker g l = vec_len l.others
