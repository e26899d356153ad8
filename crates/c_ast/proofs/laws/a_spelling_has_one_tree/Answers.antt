use Rattle.c_ast.proofs.lemmas.GrammarLaws as grammar_laws
use Rattle.c_ast.proofs.laws.a_spelling_has_one_tree.Goals as goal

pub returns : goal.returns
returns c = grammar_laws.one_tree
