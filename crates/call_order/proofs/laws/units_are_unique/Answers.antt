use Rattle.call_order.proofs.LawsLemmas.{units-are-unique}
use Rattle.call_order.proofs.laws.units_are_unique.Goals as goal

pub returns : goal.returns
returns c = units-are-unique
