use Rattle.board_core.specs.History.{program_of}
use Rattle.board_core.proofs.jobs.history_is_short.Goals as goal

pub returns : goal.returns
returns g c = c.histories_are_short.ensures (program_of g.W.Work.made c.args.board.now) c.args.board.now.events c.events.ensures.legal
