use Rattle.cc_source.proofs.Determined.{one_program}
use Rattle.cc_source.proofs.laws.the_program_is_determined.Goals as goal

pub returns : goal.returns
returns c = one_program
