use Rattle.cc_top.proofs.InterpretLaws.{accepted_are_run}
use Rattle.cc_top.proofs.interpret_laws.accepted_are_run.Goals as goal

pub returns : goal.returns
returns c = accepted_are_run c.the_program_is_determined.ensures c.accepted_sources_are_not_refused.ensures
