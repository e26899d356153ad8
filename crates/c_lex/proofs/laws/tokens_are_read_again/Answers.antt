use Rattle.c_lex.proofs.Again as again
use Rattle.c_lex.proofs.laws.tokens_are_read_again.Goals as goal

pub returns : goal.returns
returns c = again.tokens_are_read_again
