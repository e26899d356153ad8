use Rattle.std.proofs.Common.{Some, sym, ap, ◌∙◌}
use Rattle.std.specs.Option.{option_copied}
use Rattle.c_parse_tokens.proofs.LiteralLemmas.{token-text}
use Rattle.c_parse_tokens.proofs.literals.literal.Goals as goal

pub returns-in_ok-bytes-in-Some : goal.returns-in_ok-bytes-in-Some
returns-in_ok-bytes-in-Some c =
    token-text _ _ _ _ (sym c.peek_literal.ensures ∙ ap option_copied c.in-Some.is ∙ ap Some (sym c.in_ok-bytes-in-Some.ensures)) c.take-span.ensures
