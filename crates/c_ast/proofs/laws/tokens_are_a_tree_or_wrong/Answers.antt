use Rattle.c_ast.proofs.lemmas.GrammarLaws as grammar_laws
use Rattle.c_ast.proofs.laws.tokens_are_a_tree_or_wrong.Goals as goal

pub returns : goal.returns
returns c = grammar_laws.tree_or_wrong
