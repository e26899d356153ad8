use Rattle.std.proofs.Common.{map, [], ◌∷◌, append-nil, sym, ap, ◌∙◌}
use Rattle.std.specs.Arc.{arc_value}
use Rattle.board_core.specs.declared.event.Event.TheVariants.{Stop}
use Rattle.board_lock.specs.Seats.{sitting}
use Rattle.board_work.proofs.SeatLemmas.{made-result}
use Rattle.board_work.proofs.serving.make.Goals as goal

pub returns-in-Ok-clause-goes_on : goal.returns-in-Ok-clause-goes_on
returns-in-Ok-clause-goes_on g c =
    let program = c.requires.program in (
      c.requires.holds.held,
      made-result g.W.Work.made g.W.Work.jobs (sitting c.args.worker.now.seat) c.args.job _ c.requires.deps c.args.work.now program.0 program.1 program.2 _
          (c.in-Ok.ensures ∙ ap (λ l. g.W.Work.made c.args.work.now c.args.job (map arc_value l)) c.as_slice.ensures.value),
    )

pub returns-in-Ok-clause-later : goal.returns-in-Ok-clause-later
returns-in-Ok-clause-later g c = ([], sym (append-nil _))

pub returns-in-Err-clause-later : goal.returns-in-Err-clause-later
returns-in-Err-clause-later g c = (Stop c.args.position ∷ [], ap (λ s. (sitting s).own) c.end.ensures.seat ∙ c.give_up.ensures.noted)
