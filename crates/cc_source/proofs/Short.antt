-- A source that has tokens is short.
use Rattle.std.proofs.Common.{◌≡◌, ◌^◌, ◌<◌, Bool, true, false, ℕ, List, length, refl, arith}
use Rattle.std.specs.Prelude.{nat_lt, Ok, Err, if◌then◌else◌}
use Rattle.std.proofs.lemmas.Bool.Decides.{nat_tests}
use Rattle.base.specs.Limits.{most_source_bytes}
use Rattle.c_lex.specs.Tokens.{lexed, tokens_from}
use Rattle.c_lex.specs.Trivia.{include_len}
use Rattle.c_lex.specs.declared.fault.LexFault.TheVariants.{LongSource}
use Rattle.c_lex.specs.declared.token.Token.{Token}

pub short_source : (source : List ℕ) (ts : List Token) → lexed source ≡ Ok ts → length source < 2 ^ 32
unfolding lexed
short_source source ts h = by_length (nat_lt most_source_bytes (length source)) refl h
  where
    by_length : (long : Bool) → nat_lt most_source_bytes (length source) ≡ long →
        (if long then Err (LongSource most_source_bytes) else tokens_from 0 0 (include_len source) source) ≡ Ok ts → length source < 2 ^ 32
    by_length true is e = absurd cc
    by_length false is e = grind (arith, nat_tests, is)
