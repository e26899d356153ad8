use Rattle.std.proofs.Common.{◌∙◌}
use Rattle.board_lock.specs.Seats.{sitting}
use Rattle.board_work.proofs.SeatLemmas.{same-then}
use Rattle.board_work.proofs.serving.serve.Goals as goal

pub go_on-requires-clause-rests : goal.go_on-requires-clause-rests
go_on-requires-clause-rests g c κs within = c.loop.invariant.0

pub go_on-requires-clause-program : goal.go_on-requires-clause-program
go_on-requires-clause-program g c κs within = c.loop.invariant.2

pub go_on-requires-clause-hand : goal.go_on-requires-clause-hand
go_on-requires-clause-hand g c κs within = c.loop.invariant.3

pub returns-in-None-go_on : goal.returns-in-None-go_on
returns-in-None-go_on g c =
    let ended = c.in-None-go_on.ensures.ends in
    let program = c.loop.invariant.2 in
    record {
      may = record { rests = c.go_on.ensures.rests; idle = ended.idle; program = (program.0, c.go_on.ensures.same.program ∙ program.1, program.2) };
      same = same-then _ _ (sitting c.go_on.new.worker.seat) c.loop.invariant.1 c.go_on.ensures.same;
      ended = ended;
    }

pub loop-preserved : goal.loop-preserved
loop-preserved g c =
    let program = c.loop.invariant.2 in (
      c.go_on.ensures.rests,
      same-then _ _ (sitting c.go_on.new.worker.seat) c.loop.invariant.1 c.go_on.ensures.same,
      (program.0, c.go_on.ensures.same.program ∙ program.1, program.2),
      c.in-Some-go_on.ensures.goes_on,
    )
