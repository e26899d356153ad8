use Rattle.std.proofs.Common.{Some, sym, ap, ◌∙◌}
use Rattle.std.specs.Option.{option_copied}
use Rattle.c_parse_tokens.proofs.lemmas.Reads.{token-name}
use Rattle.c_parse_tokens.proofs.tokens.Tokens.identifier.Goals as goal

pub returns-in_ok-name-in-Some : goal.returns-in_ok-name-in-Some
returns-in_ok-name-in-Some c =
    token-name _ _ _ _ (sym c.peek_name.ensures ∙ ap option_copied c.in-Some.is ∙ ap Some (sym c.in_ok-name-in-Some.ensures.ok)) c.take.ensures
