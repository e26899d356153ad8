use Rattle.std.proofs.Common.{Ok, Some, refl, inl, inr, [], ◌∷◌, ◌++◌, append-nil, sym, ap, ◌∙◌, subst}
use Rattle.board_core.specs.Board.{HoldsNone}
use Rattle.board_core.specs.History.{state_of}
use Rattle.board_core.specs.declared.event.Event.TheVariants.{Claim, Stop}
use Rattle.board_lock.specs.Rule.{opening}
use Rattle.board_lock.specs.Seats.{sitting}
use Rattle.board_work.proofs.SeatLemmas.{may-claim, is-going, noted-is, at-noted, has-claimed, has-stopped, all-jobs-out, none-on-board}
use Rattle.board_work.proofs.turns.choose.Goals as goal

pub claim-requires-clause-idle : goal.claim-requires-clause-idle
claim-requires-clause-idle g c κs within =
    subst (HoldsNone (state_of g.W.Work.made c.args.board.now)) c.requires.number
    (may-claim g.W.Work.made (sitting c.args.seat.now) c.args.board.now c.requires.board c.events-events.ensures.legal c.own_events_decide.ensures c.requires.idle)

pub note-requires-clause-program : goal.note-requires-clause-program
note-requires-clause-program g c κs within =
    let claims = c.claim.ensures.job c.in-Ok-Job.job (c.in-Ok-Job.is ∙ ap Ok c.in-Ok-Job.field-0-is) in
    c.requires.board.program_is ∙ ap (λ h. Some (opening h)) (sym claims.happens)

pub note-requires-clause-added : goal.note-requires-clause-added
note-requires-clause-added g c κs within =
    let claims = c.claim.ensures.job c.in-Ok-Job.job (c.in-Ok-Job.is ∙ ap Ok c.in-Ok-Job.field-0-is) in
    (Claim c.args.worker c.in-Ok-Job.job, sym c.requires.number, ap (λ h. h.events) claims.happens ∙ ap (λ l. l ++ Claim c.args.worker c.in-Ok-Job.job ∷ []) c.requires.board.front_is)

pub stop-requires-clause-going : goal.stop-requires-clause-going
stop-requires-clause-going g c κs within =
    is-going g.W.Work.made (sitting c.args.seat.now) c.args.board.now c.requires.board c.events-events.ensures.legal c.own_stops_decide.ensures (c.in-Err.ensures.memory refl).going

pub returns-in-Ok-Job-clause-board : goal.returns-in-Ok-Job-clause-board
returns-in-Ok-Job-clause-board g c =
    let claims = c.claim.ensures.job c.in-Ok-Job.job (c.in-Ok-Job.is ∙ ap Ok c.in-Ok-Job.field-0-is) in
    let noted = c.note.ensures.noted in
    let event = Claim c.args.worker c.in-Ok-Job.job in
    let is = noted-is (sitting c.args.seat.now) (sitting c.note.new.seat) c.args.board.now c.claim.new.self event noted.0 c.requires.board claims.happens noted.1 noted.2 in
    at-noted (sitting c.args.seat.now) (sitting c.note.new.seat) c.args.board.now c.claim.new.self event c.requires.board (sym c.requires.number) claims.happens is

pub returns-in-Ok-Job-clause-next : goal.returns-in-Ok-Job-clause-next
returns-in-Ok-Job-clause-next g c =
    let at-job = c.in-Ok-Job.is ∙ ap Ok c.in-Ok-Job.field-0-is in
    let claims = c.claim.ensures.job c.in-Ok-Job.job at-job in
    let noted = c.note.ensures.noted in
    let is = noted-is (sitting c.args.seat.now) (sitting c.note.new.seat) c.args.board.now c.claim.new.self (Claim c.args.worker c.in-Ok-Job.job) noted.0 c.requires.board
    claims.happens noted.1 noted.2 in
    has-claimed g.W.Work.made (sitting c.args.seat.now) c.args.board.now c.requires.board g.W.Work.jobs (sitting c.note.new.seat) c.claim.new.self c.args.worker
    c.in-Ok-Job.job _ c.events-events.ensures.ranked c.events-events.ensures.legal c.own_stops_decide.ensures c.deps_give_answer.ensures claims
    (c.claim.ensures.inside c.in-Ok-Job.job at-job) is

pub returns-in-Ok-Done-clause-next : goal.returns-in-Ok-Done-clause-next
returns-in-Ok-Done-clause-next g c =
    let done = c.in-Ok-Done.is ∙ ap Ok c.in-Ok-Done.field-0-is in (
      c.requires.idle,
      none-on-board g.W.Work.made (sitting c.args.seat.now) c.args.board.now c.requires.board (λ stop. let stopped = c.claim.ensures.stopped.1 stop in absurd (cc)),
      all-jobs-out g.W.Work.made (sitting c.args.seat.now) c.args.board.now c.requires.board (c.claim.ensures.done.0 done),
    )

pub returns-in-Err-clause-next : goal.returns-in-Err-clause-next
returns-in-Err-clause-next g c = has-stopped (sitting c.args.seat.now) (sitting c.stop.new.seat) c.args.worker c.stop.ensures.noted

pub returns-in-Ok-Job-clause-noted : goal.returns-in-Ok-Job-clause-noted
returns-in-Ok-Job-clause-noted g c =
    let claims = c.claim.ensures.job c.in-Ok-Job.job (c.in-Ok-Job.is ∙ ap Ok c.in-Ok-Job.field-0-is) in
    let noted = c.note.ensures.noted in
    let event = Claim c.args.worker c.in-Ok-Job.job in
    let is = noted-is (sitting c.args.seat.now) (sitting c.note.new.seat) c.args.board.now c.claim.new.self event noted.0 c.requires.board claims.happens noted.1 noted.2 in
    (event ∷ [], ap (λ s. s.own) is, refl)

pub returns-in-Ok-Wait-clause-noted : goal.returns-in-Ok-Wait-clause-noted
returns-in-Ok-Wait-clause-noted g c = ([], sym (append-nil _), refl)

pub returns-in-Ok-Done-clause-noted : goal.returns-in-Ok-Done-clause-noted
returns-in-Ok-Done-clause-noted g c = ([], sym (append-nil _), refl)

pub returns-in-Ok-Stopped-clause-noted : goal.returns-in-Ok-Stopped-clause-noted
returns-in-Ok-Stopped-clause-noted g c = ([], sym (append-nil _), inl refl)

pub returns-in-Err-clause-noted : goal.returns-in-Err-clause-noted
returns-in-Err-clause-noted g c = (Stop c.args.worker ∷ [], ap (λ s. s.own) c.stop.ensures.noted, inr refl)
