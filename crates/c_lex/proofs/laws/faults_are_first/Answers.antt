use Rattle.c_lex.proofs.Converse as converse
use Rattle.c_lex.proofs.laws.faults_are_first.Goals as goal

pub returns : goal.returns
returns c = converse.faults_are_first
