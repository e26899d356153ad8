use Rattle.std.proofs.Common.{◌≡◌, length, arith}
use Rattle.board_lock.specs.Locks.{lock_of}
use Rattle.board_work.proofs.lemmas.Crews.{crew-may-work, crew-stays}
use Rattle.board_work.proofs.Driven.{same-program, all-are-out}
use Rattle.board_work.proofs.jobs.driven.Goals as goal

pub work-answer-requires-clause-may : goal.work-answer-requires-clause-may
work-answer-requires-clause-may g c κs within =
    let crew = c.in_ok-workers.ensures.crew c.args.board c.in_ok-shared.ensures.first in
    crew-may-work (lock_of c.in_ok-shared.shared) c.args.board c.args.task.now c.in_ok-workers.workers.items c.requires.work crew

pub returns-clause-same : goal.returns-clause-same
returns-clause-same g c =
    let lock = lock_of c.in_ok-shared.shared in
    let crew = c.in_ok-workers.ensures.crew c.args.board c.in_ok-shared.ensures.first in
    let before = c.in_ok-workers.workers in
    let after = c.work-answer.new.workers in
    let as_many : length after.items ≡ length before.items = omega (arith, c.work-answer.ensures.count, before.ok.0, after.ok.0) in
    let new = crew-stays lock c.args.board c.args.task.now g.W.Work.made before.items after.items as_many crew c.work-answer.ensures.each in
    same-program g.W.Work.made c.dismiss-closed.result c.args.board (c.dismiss-closed.ensures c.args.board new).program

pub returns-clause-out : goal.returns-clause-out
returns-clause-out g c =
    let lock = lock_of c.in_ok-shared.shared in
    let crew = c.in_ok-workers.ensures.crew c.args.board c.in_ok-shared.ensures.first in
    let before = c.in_ok-workers.workers in
    let after = c.work-answer.new.workers in
    let as_many : length after.items ≡ length before.items = omega (arith, c.work-answer.ensures.count, before.ok.0, after.ok.0) in
    let new = crew-stays lock c.args.board c.args.task.now g.W.Work.made before.items after.items as_many crew c.work-answer.ensures.each in
    all-are-out g.W.Work.made c.results_stay.ensures lock c.args.board c.dismiss-closed.result c.work-answer.new.workers.items new c.in_ok-answer.ensures.finished
    (c.dismiss-closed.ensures c.args.board new)

pub dismiss-closed-requires-clause-crew : goal.dismiss-closed-requires-clause-crew
dismiss-closed-requires-clause-crew g c κs within =
    let lock = lock_of c.in_ok-shared.shared in
    let crew = c.in_ok-workers.ensures.crew c.args.board c.in_ok-shared.ensures.first in
    let before = c.in_ok-workers.workers in
    let after = c.work-answer.new.workers in
    let as_many : length after.items ≡ length before.items = omega (arith, c.work-answer.ensures.count, before.ok.0, after.ok.0) in
    let new = crew-stays lock c.args.board c.args.task.now g.W.Work.made before.items after.items as_many crew c.work-answer.ensures.each in
    (c.args.board, new)

pub hire-requires-clause-fresh : goal.hire-requires-clause-fresh
hire-requires-clause-fresh g c κs within =
    (c.args.board, c.in_ok-shared.ensures.first, omega (arith, c.workers-count.ensures))
