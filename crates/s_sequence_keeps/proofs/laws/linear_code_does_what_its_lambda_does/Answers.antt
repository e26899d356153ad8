use Rattle.s_sequence_keeps.proofs.Functions.{calls_agree, programs_agree}
use Rattle.s_sequence_keeps.proofs.laws.linear_code_does_what_its_lambda_does.Goals as goal

pub returns-clause-calls : goal.returns-clause-calls
returns-clause-calls c = calls_agree

pub returns-clause-programs : goal.returns-clause-programs
returns-clause-programs c = programs_agree
