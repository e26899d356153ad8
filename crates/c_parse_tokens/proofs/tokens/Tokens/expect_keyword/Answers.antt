use Rattle.std.proofs.Common.{sym, ◌∙◌}
use Rattle.c_ast.specs.Terminals.{ThisKeyword}
use Rattle.c_parse_tokens.proofs.lemmas.Reads.{token-word, token-fails}
use Rattle.c_parse_tokens.proofs.tokens.Tokens.expect_keyword.Goals as goal

pub returns-then-sees_keyword : goal.returns-then-sees_keyword
returns-then-sees_keyword c = token-word _ _ _ _ (sym c.sees_keyword.ensures ∙ c.if-sees_keyword.true) c.take.ensures

pub returns-else-sees_keyword : goal.returns-else-sees_keyword
returns-else-sees_keyword c = token-fails (ThisKeyword c.args.keyword) _ (sym c.sees_keyword.ensures ∙ c.if-sees_keyword.false)
