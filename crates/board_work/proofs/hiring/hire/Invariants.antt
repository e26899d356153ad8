use Rattle.std.proofs.Common.{◌≡◌, ◌+◌, suc, vec_len}
use Rattle.board_core.specs.History.{History}
use Rattle.board_lock.specs.Locks.{lock_of}
use Rattle.board_lock.specs.Seats.{sitting, first_sitting, IsSeatOf}
use Rattle.board_work.specs.Crews.{IsMember, first_with}
use Rattle.board_work.specs.Workers.{Each}
use Rattle.board_work.proofs.hiring.hire.Given as goal

abbrev pub invariant-loop-number : goal.invariant-loop-number
invariant-loop-number g l =
    IsSeatOf (lock_of l.shared) l.first × (vec_len l.workers + 1 ≡ l._number)
    × ((board : History g.row.W.Denot) → sitting l.fn.first ≡ first_sitting board
    → (sitting l.first ≡ first_with board (vec_len l.workers)) × Each (λ k. IsMember (lock_of l.shared) board (suc k)) l.workers.items)
