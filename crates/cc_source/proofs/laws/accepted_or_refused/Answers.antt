use Rattle.cc_source.proofs.Decided.{accepted_or_refused}
use Rattle.cc_source.proofs.laws.accepted_or_refused.Goals as goal

pub returns : goal.returns
returns c = accepted_or_refused
