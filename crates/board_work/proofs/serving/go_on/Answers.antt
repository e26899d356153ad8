use Rattle.std.proofs.Common.{[], append-nil, sym, ap, ◌∙◌}
use Rattle.board_lock.specs.Seats.{sitting}
use Rattle.board_work.proofs.SeatLemmas.{hands-in-first}
use Rattle.board_work.proofs.serving.go_on.Goals as goal

pub make-requires-clause-program : goal.make-requires-clause-program
make-requires-clause-program g c κs within =
    let program = c.requires.program in
    (program.0, c.turn.ensures.same.program ∙ program.1, program.2)

pub returns-in-Make-clause-handed_in : goal.returns-in-Make-clause-handed_in
returns-in-Make-clause-handed_in g c =
    hands-in-first c.args.position c.args.hand c.turn.result (sitting c.args.worker.now.seat) (sitting c.turn.new.worker.seat) (sitting c.make.new.worker.seat) c.turn.ensures.turn
    c.make.ensures.later.0 c.make.ensures.later.1

pub returns-in-Sleep-clause-handed_in : goal.returns-in-Sleep-clause-handed_in
returns-in-Sleep-clause-handed_in g c =
    hands-in-first c.args.position c.args.hand c.turn.result (sitting c.args.worker.now.seat) (sitting c.turn.new.worker.seat) (sitting c.turn.new.worker.seat) c.turn.ensures.turn
    [] (sym (append-nil _))

pub returns-in-Done-clause-handed_in : goal.returns-in-Done-clause-handed_in
returns-in-Done-clause-handed_in g c =
    hands-in-first c.args.position c.args.hand c.turn.result (sitting c.args.worker.now.seat) (sitting c.turn.new.worker.seat) (sitting c.end.new.worker.seat) c.turn.ensures.turn
    [] (ap (λ s. (sitting s).own) c.end.ensures.seat ∙ sym (append-nil _))

pub returns-in-Stopped-clause-handed_in : goal.returns-in-Stopped-clause-handed_in
returns-in-Stopped-clause-handed_in g c =
    hands-in-first c.args.position c.args.hand c.turn.result (sitting c.args.worker.now.seat) (sitting c.turn.new.worker.seat) (sitting c.end-in-Stopped.new.worker.seat) c.turn.ensures.turn
    [] (ap (λ s. (sitting s).own) c.end-in-Stopped.ensures.seat ∙ sym (append-nil _))
