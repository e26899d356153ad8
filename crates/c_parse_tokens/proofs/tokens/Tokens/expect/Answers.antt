use Rattle.std.proofs.Common.{sym, ◌∙◌}
use Rattle.c_ast.specs.Terminals.{Mark}
use Rattle.c_parse_tokens.proofs.lemmas.Reads.{token-mark, token-fails}
use Rattle.c_parse_tokens.proofs.tokens.Tokens.expect.Goals as goal

pub returns-then-sees : goal.returns-then-sees
returns-then-sees c = token-mark _ _ _ _ (sym c.sees.ensures ∙ c.if-sees.true) c.take.ensures

pub returns-else-sees : goal.returns-else-sees
returns-else-sees c = token-fails (Mark c.args.punct) _ (sym c.sees.ensures ∙ c.if-sees.false)
