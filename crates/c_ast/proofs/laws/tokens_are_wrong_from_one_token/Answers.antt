use Rattle.c_ast.proofs.lemmas.GrammarLaws as grammar_laws
use Rattle.c_ast.proofs.laws.tokens_are_wrong_from_one_token.Goals as goal

pub returns : goal.returns
returns c = grammar_laws.one_token
