use Rattle.call_order.proofs.LawsLemmas.{callee-ranks-below}
use Rattle.call_order.proofs.laws.callee_ranks_below.Goals as goal

pub returns : goal.returns
returns c = callee-ranks-below
