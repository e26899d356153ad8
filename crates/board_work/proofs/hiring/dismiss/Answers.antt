use Rattle.std.proofs.Common.{sym, subst, arith}
use Rattle.board_lock.specs.Locks.{lock_of}
use Rattle.board_lock.specs.Rule.{IsBeginning}
use Rattle.board_lock.specs.Seats.{sitting}
use Rattle.board_work.proofs.HiringLemmas.{taken-out, is-dismissed}
use Rattle.board_work.proofs.hiring.dismiss.Goals as goal

pub remove-requires : goal.remove-requires
remove-requires g c =
    let crew = c.requires.crew in
    omega (arith, crew.1.some, c.args.workers.ok.0)

pub take_in-requires-clause-taking : goal.take_in-requires-clause-taking
take_in-requires-clause-taking g c κs within =
    let crew = c.requires.crew in
    let out = taken-out (lock_of c.args.shared) crew.0 c.args.workers.items c.remove.new.self.items c.remove.result c.seat_of-seat.result c.remove.new.self.len crew.1
    c.remove.ensures.value c.remove.ensures.items c.remove.new.self.ok.0 c.seat_of-seat.ensures in
    (crew.0, (sitting c.remove.result.seat).front, out.0, out.1)

pub close-requires-clause-seat : goal.close-requires-clause-seat
close-requires-clause-seat g c κs within =
    let crew = c.requires.crew in
    let out = taken-out (lock_of c.args.shared) crew.0 c.args.workers.items c.remove.new.self.items c.remove.result c.seat_of-seat.result c.remove.new.self.len crew.1
    c.remove.ensures.value c.remove.ensures.items c.remove.new.self.ok.0 c.seat_of-seat.ensures in
    (c.take_in.ensures crew.0 (sitting c.remove.result.seat).front out.0 out.1).of

pub close-requires-clause-rests : goal.close-requires-clause-rests
close-requires-clause-rests g c κs within =
    let crew = c.requires.crew in
    let out = taken-out (lock_of c.args.shared) crew.0 c.args.workers.items c.remove.new.self.items c.remove.result c.seat_of-seat.result c.remove.new.self.len crew.1
    c.remove.ensures.value c.remove.ensures.items c.remove.new.self.ok.0 c.seat_of-seat.ensures in
    (c.take_in.ensures crew.0 (sitting c.remove.result.seat).front out.0 out.1).turn

pub close-requires-clause-first : goal.close-requires-clause-first
close-requires-clause-first g c κs within =
    let crew = c.requires.crew in
    let out = taken-out (lock_of c.args.shared) crew.0 c.args.workers.items c.remove.new.self.items c.remove.result c.seat_of-seat.result c.remove.new.self.len crew.1
    c.remove.ensures.value c.remove.ensures.items c.remove.new.self.ok.0 c.seat_of-seat.ensures in
    (c.take_in.ensures crew.0 (sitting c.remove.result.seat).front out.0 out.1).number

pub close-requires-clause-all_in : goal.close-requires-clause-all_in
close-requires-clause-all_in g c κs within =
    let crew = c.requires.crew in
    let out = taken-out (lock_of c.args.shared) crew.0 c.args.workers.items c.remove.new.self.items c.remove.result c.seat_of-seat.result c.remove.new.self.len crew.1
    c.remove.ensures.value c.remove.ensures.items c.remove.new.self.ok.0 c.seat_of-seat.ensures in
    let all = (c.take_in.ensures crew.0 (sitting c.remove.result.seat).front out.0 out.1).counted in
    omega (arith, all)

pub returns : goal.returns
returns g c = λ board crew.
    let front = (sitting c.remove.result.seat).front in
    let out = taken-out (lock_of c.args.shared) board c.args.workers.items c.remove.new.self.items c.remove.result c.seat_of-seat.result c.remove.new.self.len crew
    c.remove.ensures.value c.remove.ensures.items c.remove.new.self.ok.0 c.seat_of-seat.ensures in
    let closed = is-dismissed (lock_of c.args.shared) board front g.W.Work.made c.take_in.new.seat c.close.result (c.take_in.ensures board front out.0 out.1) c.close.ensures in
    record { program = closed.0; legal = closed.1; begins = λ d. subst (λ w. IsBeginning (sitting w.seat).front c.close.result.events) (sym (out.2 d)) closed.2 }
