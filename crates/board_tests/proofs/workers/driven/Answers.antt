use Rattle.std.proofs.Common.{◌≡◌, length, arith}
use Rattle.board_lock.specs.Locks.{lock_of}
use Rattle.board_work.proofs.lemmas.Crews.{crew-may-work, crew-stays}
use Rattle.board_tests.proofs.workers.driven.Goals as goal

pub work-answer-requires-clause-may : goal.work-answer-requires-clause-may
work-answer-requires-clause-may g c κs within =
    let crew = c.in_ok-workers.ensures.crew c.args.board c.in_ok-shared.ensures.first in
    crew-may-work (lock_of c.in_ok-shared.shared) c.args.board c.args.task.now c.in_ok-workers.workers.items c.requires.work crew

pub dismiss-requires-clause-crew : goal.dismiss-requires-clause-crew
dismiss-requires-clause-crew g c κs =
    let lock = lock_of c.in_ok-shared.shared in
    let crew = c.in_ok-workers.ensures.crew c.args.board c.in_ok-shared.ensures.first in
    let before = c.in_ok-workers.workers in
    let after = c.work-answer.new.workers in
    let as_many : length after.items ≡ length before.items = omega (arith, c.work-answer.ensures.count, before.ok.0, after.ok.0) in
    (c.args.board, crew-stays lock c.args.board c.args.task.now _ before.items after.items as_many crew c.work-answer.ensures.each)

pub hire-requires-clause-fresh : goal.hire-requires-clause-fresh
hire-requires-clause-fresh g c κs =
    (c.args.board, c.in_ok-shared.ensures.first, omega (arith, c.workers-count.ensures))
