use Rattle.std.proofs.Common.{◌++◌, sym, ap, ◌∙◌}
use Rattle.board_lock.specs.Seats.{sitting}
use Rattle.board_work.specs.Turns.{handing_in}
use Rattle.board_work.proofs.SeatLemmas.{idle-handed-in}
use Rattle.board_work.proofs.turns.empty_hand.Goals as goal

pub returns-in-Full-clause-idle : goal.returns-in-Full-clause-idle
returns-in-Full-clause-idle g c = idle-handed-in (sitting c.args.seat.now) (sitting c.hand_in.new.seat) c.args.worker c.in-Full.job c.hand_in.ensures.noted

pub returns-in-Full-clause-noted : goal.returns-in-Full-clause-noted
returns-in-Full-clause-noted g c =
    ap (λ s. s.own) c.hand_in.ensures.noted ∙ ap (λ hand. (sitting c.args.seat.now).own ++ handing_in c.args.worker hand) (sym c.in-Full.is)
