-- The tokens of a source of bytes are in range.
use Rattle.std.proofs.Common.{◌≡◌, ℕ, ◌-◌, ◌^◌, ◌<◌, List, [], ◌∷◌, ◌++◌, length, drop, refl, subst}
use Rattle.std.specs.Prelude.{All, slice_range}
use Rattle.std.proofs.lemmas.List.{take_at}
use Rattle.std.proofs.lemmas.List.Elements.{All-nil, All-cons, All-head, All-tail, All-take, All-drop}
use Rattle.c_lex.specs.Grammar.{Spells, Reads, done, trivia, token, TokensAreLongest}
use Rattle.c_lex.specs.declared.token.Token.{Token}
use Rattle.c_lex.specs.declared.token.TokenKind.{TokenKind}
use Rattle.c_lex.specs.declared.token.TokenKind.TheVariants as kind
use Rattle.c_ast.specs.Spelling.{kinds}
use Rattle.c_check_def.specs.CheckLaws.{IsInRange}
use Rattle.cc_source.specs.SourceLaws.{AreBytes, TokensAreInRange}
use Rattle.cc_source.proofs.Constants.{constant_words}
use Rattle.cc_source.proofs.Characters.{characters_bytes}

-- what stands between quotes
inner_bytes : (bytes : List ℕ) (quote : ℕ) (inner : List ℕ) → bytes ≡ quote ∷ (inner ++ quote ∷ []) → AreBytes bytes → AreBytes inner
inner_bytes bytes quote inner is all =
    let rest = All-tail (λ b. b < 2 ^ 8) quote (inner ++ quote ∷ []) (subst AreBytes is all) in
    subst AreBytes (take_at inner (quote ∷ []) (length inner) refl) (All-take (λ b. b < 2 ^ 8) (length inner) (inner ++ quote ∷ []) rest)

spelled_in_range : (bytes : List ℕ) → AreBytes bytes → (k : TokenKind) → Spells bytes k → IsInRange k
spelled_in_range bytes all (kind.Name name) h = tt
spelled_in_range bytes all (kind.Keyword k) h = tt
spelled_in_range bytes all (kind.Number value unsigned) h = constant_words 0 bytes value unsigned h.1
spelled_in_range bytes all (kind.Char c) h =
    All-head (λ b. b < 2 ^ 8) c [] (characters_bytes 0 h.0 (inner_bytes bytes 39 h.0 h.1 all) (c ∷ []) h.2)
spelled_in_range bytes all (kind.Text cs) h = characters_bytes 0 h.0 (inner_bytes bytes 34 h.0 h.1 all) cs h.2
spelled_in_range bytes all (kind.Punct p) h = tt

read_in_range : (source : List ℕ) → AreBytes source → (to at : ℕ) (ts : List Token) → Reads source to at ts → All IsInRange (kinds ts)
read_in_range source all to at _ (done _ e) = All-nil IsInRange
read_in_range source all to at ts (trivia _ end _ less within g rest) = read_in_range source all to end ts rest
read_in_range source all to _ _ (token t ts stands rest) =
    let bytes = All-take (λ b. b < 2 ^ 8) (t.end - t.at) (drop t.at source) (All-drop (λ b. b < 2 ^ 8) t.at source all) in
    All-cons IsInRange t.kind (kinds ts) (spelled_in_range (slice_range source t.at t.end) bytes t.kind stands.spells) (read_in_range source all to t.end ts rest)

pub tokens_in_range : TokensAreLongest → TokensAreInRange
tokens_in_range longest source all ts h = read_in_range source all (length source) 0 ts ((longest source ts).0 h).2
