use Rattle.cc_source.proofs.RefusalLaws.{accepted_is_not_refused}
use Rattle.cc_source.proofs.refusal_laws.accepted_sources_are_not_refused.Goals as goal

pub returns : goal.returns
returns c = accepted_is_not_refused c.accepted_is_not_refused.ensures
