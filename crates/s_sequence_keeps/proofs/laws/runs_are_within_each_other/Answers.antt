use Rattle.s_sequence_keeps.proofs.Functions.{calls_are_within, programs_are_within}
use Rattle.s_sequence_keeps.proofs.laws.runs_are_within_each_other.Goals as goal

pub returns-clause-calls : goal.returns-clause-calls
returns-clause-calls c = calls_are_within

pub returns-clause-programs : goal.returns-clause-programs
returns-clause-programs c = programs_are_within
