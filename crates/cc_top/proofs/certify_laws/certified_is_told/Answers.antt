use Rattle.cc_top.proofs.CertifiedIsTold.{certified_is_told}
use Rattle.cc_top.proofs.certify_laws.certified_is_told.Goals as goal

pub returns : goal.returns
returns c = certified_is_told c.faults_are_first.ensures.none c.accepted_sources_are_not_refused.ensures
