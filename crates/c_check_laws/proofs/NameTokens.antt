-- The tokens of a source that are names are identifiers, and not too long.
use Rattle.std.proofs.Common.{◌≡◌, ℕ, List, length, sym, subst}
use Rattle.std.specs.List.{AllByRecursion}
use Rattle.std.specs.Prelude.{slice_range, Ok}
use Rattle.c_lex.specs.Grammar.{Spells, Reads, done, trivia, token, TokensAreLongest}
use Rattle.c_lex.specs.Tokens.{lexed}
use Rattle.c_lex.specs.declared.token.Token.{Token}
use Rattle.c_lex.specs.declared.token.TokenKind.{TokenKind}
use Rattle.c_lex.specs.declared.token.TokenKind.TheVariants as kind
use Rattle.c_check_laws.specs.NamesLaws.{IsName}

abbrev pub TokenIsNamed : TokenKind → Type 0
TokenIsNamed (kind.Name name) = IsName name
TokenIsNamed k = Unit {0}

abbrev pub AreNamed : List Token → Type 0
AreNamed ts = AllByRecursion (λ (t : Token). TokenIsNamed t.kind) ts

spelled_named : (bytes : List ℕ) (k : TokenKind) → Spells bytes k → TokenIsNamed k
spelled_named bytes (kind.Name name) h = subst IsName (sym h.1) (h.0, h.2)
spelled_named bytes (kind.Keyword k) h = tt
spelled_named bytes (kind.Number value unsigned) h = tt
spelled_named bytes (kind.Char c) h = tt
spelled_named bytes (kind.Text cs) h = tt
spelled_named bytes (kind.Punct p) h = tt

read_named : (source : List ℕ) (to at : ℕ) (ts : List Token) → Reads source to at ts → AreNamed ts
read_named source to at _ (done _ e) = tt
read_named source to at ts (trivia _ end _ less within g rest) = read_named source to end ts rest
read_named source to _ _ (token t ts stands rest) = (spelled_named (slice_range source t.at t.end) t.kind stands.spells, read_named source to t.end ts rest)

pub tokens_named : TokensAreLongest → (source : List ℕ) (ts : List Token) → lexed source ≡ Ok ts → AreNamed ts
tokens_named longest source ts h = read_named source (length source) 0 ts ((longest source ts).0 h).2
