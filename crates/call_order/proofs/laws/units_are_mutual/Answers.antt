use Rattle.call_order.proofs.LawsLemmas.{units-are-mutual}
use Rattle.call_order.proofs.laws.units_are_mutual.Goals as goal

pub returns : goal.returns
returns c = units-are-mutual
