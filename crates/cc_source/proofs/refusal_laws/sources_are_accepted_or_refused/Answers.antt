use Rattle.cc_source.proofs.RefusalLaws.{accepted_or_refused}
use Rattle.cc_source.proofs.refusal_laws.sources_are_accepted_or_refused.Goals as goal

pub returns : goal.returns
returns c = accepted_or_refused c.faults_are_first.ensures c.accepted_or_refused.ensures
