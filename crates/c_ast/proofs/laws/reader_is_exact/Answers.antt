use Rattle.c_ast.proofs.lemmas.GrammarLaws as grammar_laws
use Rattle.c_ast.proofs.laws.reader_is_exact.Goals as goal

pub returns : goal.returns
returns c = grammar_laws.reader_is_exact
