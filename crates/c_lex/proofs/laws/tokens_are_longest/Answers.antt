use Rattle.c_lex.proofs.Converse as converse
use Rattle.c_lex.proofs.laws.tokens_are_longest.Goals as goal

pub returns : goal.returns
returns c = converse.tokens_are_longest
