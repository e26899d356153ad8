use Rattle.cc_top.proofs.RunLemmas.{increased-later}
use Rattle.cc_top.proofs.run.run_machine.Goals as goal

pub returns-clause-cause : goal.returns-clause-cause
returns-clause-cause g c = increased-later c.run-stop.result _ _ _ _ _ c.run-stop.ensures.cause c.flush.ensures.faults
