use Rattle.std.proofs.Common.{sym, ◌∙◌}
use Rattle.c_ast.specs.Reader.{read}
use Rattle.c_parse_tokens.proofs.LiteralLemmas.{begun-number}
use Rattle.c_parse_tokens.proofs.literals.number.Goals as goal

pub returns-in-Some : goal.returns-in-Some
returns-in-Some c = begun-number (read c.args.fuel) _ _ _ _ _ (sym c.peek_number.ensures ∙ c.in-Some.is) c.take-span.ensures
