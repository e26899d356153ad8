use Rattle.std.specs.Arc.{arc_value}
use Rattle.board_lock.specs.Locks.{lock_of}
use Rattle.board_lock.specs.Seats.{sitting}
use Rattle.board_work.specs.Turns.{IsInHand}
use Rattle.board_work.specs.Workers.{IsResting, IsSameSeat, WorksAt}
use Rattle.board_work.proofs.serving.serve.Given as goal

abbrev pub invariant-loop : goal.invariant-loop
invariant-loop g l =
    IsResting (lock_of l.shared) l.position l.worker × IsSameSeat (sitting l.initial.worker.seat) (sitting l.worker.seat)
    × WorksAt l.work l.position l.worker × IsInHand g.W.Work.made arc_value (sitting l.worker.seat) l.hand
