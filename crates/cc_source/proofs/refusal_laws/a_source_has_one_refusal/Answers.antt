use Rattle.cc_source.proofs.RefusalLaws.{one_refusal}
use Rattle.cc_source.proofs.refusal_laws.a_source_has_one_refusal.Goals as goal

pub returns : goal.returns
returns c = one_refusal c.the_fault_is_determined.ensures
