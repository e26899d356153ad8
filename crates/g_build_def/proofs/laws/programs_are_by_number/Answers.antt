use Rattle.g_build_def.proofs.lemmas.Programs.{lambdas_stand_at_their_numbers, globals_stand_at_their_numbers, globals_have_their_size}
use Rattle.g_build_def.proofs.laws.programs_are_by_number.Goals as goal

pub returns-clause-lambdas : goal.returns-clause-lambdas
returns-clause-lambdas c = lambdas_stand_at_their_numbers

pub returns-clause-globals : goal.returns-clause-globals
returns-clause-globals c = globals_stand_at_their_numbers

pub returns-clause-sizes : goal.returns-clause-sizes
returns-clause-sizes c = globals_have_their_size
