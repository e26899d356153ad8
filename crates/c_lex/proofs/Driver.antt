-- From one lexeme to the next.
use Rattle.std.proofs.Common.{◌≡◌, ℕ, zero, suc, ◌+◌, ◌-◌, ◌<◌, ◌≤◌, Bool, true, false, cond, ltb, List, [], ◌∷◌, ◌++◌, length, drop, Result, Ok, Err, refl, sym, ap, ◌∙◌, append_assoc, add-zero, zero-add, arith, inl, inr}
use Rattle.std.specs.Prelude.{IfOk}
use Rattle.std.proofs.lemmas.List.{drop_all, drop-drop, append-nil}
use Rattle.base.specs.Limits.{most_source_bytes, most_tokens}
use Rattle.c_lex.specs.Results.{◌>>=◌, Gives}
use Rattle.std.proofs.lemmas.Bool.{lt-ltb, le-ltb, ltb-true}
use Rattle.c_lex.specs.Trivia.{include_len}
use Rattle.c_lex.specs.Lexemes.{lexeme_at, lexeme_len}
use Rattle.c_lex.specs.Tokens.{tokens_from, counted, tokens_then, lexeme_then, lexed}
use Rattle.c_lex.specs.declared.fault.LexFault.{LexFault}
use Rattle.c_lex.specs.declared.fault.LexFault.TheVariants as fault
use Rattle.c_lex.specs.declared.lexeme.Lexeme.{Lexeme}
use Rattle.c_lex.specs.declared.lexeme.Lexeme.TheVariants as lexeme
use Rattle.c_lex.specs.declared.token.Token.{Token}
use Rattle.c_lex.specs.declared.token.TokenKind.{TokenKind}
use Rattle.c_lex.proofs.Lengths.{chosen, lexeme_fits, IsFitting, found}

pub skipped : (count at k : ℕ) (text : List ℕ) → tokens_from count at k text ≡ tokens_from count (at + k) 0 (drop k text)
skipped count at zero [] = refl
skipped count at (suc k) [] = refl
skipped count at zero (b ∷ bs) = ap (λ a. tokens_from count a 0 (b ∷ bs)) (sym (add-zero at))
skipped count at (suc k) (b ∷ bs) =
    let same : at + 1 + k ≡ at + suc k = omega arith in
    skipped count (at + 1) k bs ∙ ap (λ a. tokens_from count a 0 (drop k bs)) same

step_trivia : (count at n : ℕ) (b : ℕ) (bs : List ℕ) → 0 < n → tokens_from count (at + 1) (n - 1) bs ≡ tokens_from count (at + n) 0 (drop n (b ∷ bs))
step_trivia count at zero b bs h = absurd (omega arith)
step_trivia count at (suc m) b bs h =
    let less : suc m - 1 ≡ m = omega arith in
    let same : at + 1 + m ≡ at + suc m = omega arith in
    ap (λ k. tokens_from count (at + 1) k bs) less ∙ skipped count (at + 1) m bs ∙ ap (λ a. tokens_from count a 0 (drop m bs)) same

pub step : (count at : ℕ) (text : List ℕ) (i : Lexeme) → counted count at (lexeme_at at text) ≡ Ok i → 0 < lexeme_len i → 0 < length text →
    tokens_from count at 0 text ≡ lexeme_then count at (λ c n. tokens_from c (at + n) 0 (drop n text)) i
step count at [] i e pos some = absurd (omega arith)
step count at (b ∷ bs) (lexeme.Trivia n) e pos some =
    ap (λ r. r >>= lexeme_then count at (λ c m. tokens_from c (at + 1) (m - 1) bs)) e ∙ step_trivia count at n b bs pos
step count at (b ∷ bs) (lexeme.Token k n) e pos some =
    ap (λ r. r >>= lexeme_then count at (λ c m. tokens_from c (at + 1) (m - 1) bs)) e ∙ ap (tokens_then (record { kind = k; at = at; end = at + n } ∷ [])) (step_trivia (count + 1) at n b bs pos)

pub stops : (count at : ℕ) (text : List ℕ) (f : LexFault) → counted count at (lexeme_at at text) ≡ Err f → 0 < length text → tokens_from count at 0 text ≡ Err f
stops count at [] f e some = absurd (omega arith)
stops count at (b ∷ bs) f e some = ap (λ r. r >>= lexeme_then count at (λ c m. tokens_from c (at + 1) (m - 1) bs)) e

regroup : (ts : List Token) (t : Token) (o : Result (List Token) LexFault) → tokens_then ts (tokens_then (t ∷ []) o) ≡ tokens_then (ts ++ t ∷ []) o
regroup ts t (Ok more) = ap Ok (sym (append_assoc ts (t ∷ []) more))
regroup ts t (Err f) = refl

-- ---- the count

abbrev refused : LexFault → Result Lexeme LexFault
refused f = Err f

pub counted_gives : (count at : ℕ) (r d : Result Lexeme LexFault) → Gives (λ i. i) r d → Gives (λ i. i) (counted count at r) (counted count at d)
counted_gives count at (Ok (lexeme.Trivia n)) d h = rw h refl
counted_gives count at (Ok (lexeme.Token k n)) d h = rw h (by_test (ltb count most_tokens))
  where
    by_test : (b : Bool) → Gives (λ i. i) (cond b (Ok (lexeme.Token k n)) (Err (fault.ManyTokens at))) (cond b (Ok (lexeme.Token k n)) (Err (fault.ManyTokens at)))
    by_test true = refl
    by_test false = refl
counted_gives count at (Err (fault.BadNumber p)) d h = rw h (by_test (ltb count most_tokens))
  where
    by_test : (b : Bool) → Gives {X = Lexeme} (λ i. i) (cond b (Err (fault.BadNumber p)) (Err (fault.ManyTokens at))) (cond b (Err (fault.BadNumber p)) (Err (fault.ManyTokens at)))
    by_test true = refl
    by_test false = refl
counted_gives count at (Err fault.NoMemory) d h = tt
counted_gives count at (Err (fault.BadByte p)) d h = rw h refl
counted_gives count at (Err (fault.OpenComment p)) d h = rw h refl
counted_gives count at (Err (fault.OpenText p)) d h = rw h refl
counted_gives count at (Err (fault.BadText p)) d h = rw h refl
counted_gives count at (Err (fault.TooWide p)) d h = rw h refl
counted_gives count at (Err (fault.LongName p)) d h = rw h refl
counted_gives count at (Err (fault.Directive p)) d h = rw h refl
counted_gives count at (Err (fault.ManyTokens p)) d h = rw h refl
counted_gives count at (Err (fault.LongSource p)) d h = rw h refl

-- what the count lets pass was there
pub counted_ok : (count at : ℕ) (r : Result Lexeme LexFault) (i : Lexeme) → counted count at r ≡ Ok i → r ≡ Ok i
counted_ok count at (Ok (lexeme.Trivia n)) i e = e
counted_ok count at (Ok (lexeme.Token k n)) i e = by_test (ltb count most_tokens) e
  where
    by_test : (b : Bool) → cond b (Ok (lexeme.Token k n)) (Err (fault.ManyTokens at)) ≡ found i → found (lexeme.Token k n) ≡ found i
    by_test true f = f
    by_test false f = absurd cc
counted_ok count at (Err (fault.BadNumber p)) i e = by_test (ltb count most_tokens) e
  where
    by_test : (b : Bool) → cond b (Err (fault.BadNumber p)) (Err (fault.ManyTokens at)) ≡ found i → refused (fault.BadNumber p) ≡ found i
    by_test true f = f
    by_test false f = absurd cc
counted_ok count at (Err fault.NoMemory) i e = absurd cc
counted_ok count at (Err (fault.BadByte p)) i e = absurd cc
counted_ok count at (Err (fault.OpenComment p)) i e = absurd cc
counted_ok count at (Err (fault.OpenText p)) i e = absurd cc
counted_ok count at (Err (fault.BadText p)) i e = absurd cc
counted_ok count at (Err (fault.TooWide p)) i e = absurd cc
counted_ok count at (Err (fault.LongName p)) i e = absurd cc
counted_ok count at (Err (fault.Directive p)) i e = absurd cc
counted_ok count at (Err (fault.ManyTokens p)) i e = absurd cc
counted_ok count at (Err (fault.LongSource p)) i e = absurd cc

-- what the count lets pass is one more token at most
pub token_counts : (count at : ℕ) (r : Result Lexeme LexFault) (k : TokenKind) (n : ℕ) → counted count at r ≡ Ok (lexeme.Token k n) → r ≡ Ok (lexeme.Token k n) → count < most_tokens
token_counts count at r k n e is =
    elim (chosen (ltb count most_tokens) (Ok (lexeme.Token k n)) (Err (fault.ManyTokens at)) (Ok (lexeme.Token k n)) (ap (counted count at) (sym is) ∙ e)) [
      | inl (less, _) ↦ ltb-true count most_tokens less
      | inr (_, f) ↦ absurd cc
    ]

gives_within : (text : List ℕ) (r d : Result Lexeme LexFault) (at : ℕ) → 0 < length text → Gives (λ i. i) r d → ((i : Lexeme) → d ≡ Ok i → IsFitting i text) → IfOk r (λ i. IsFitting i text)
gives_within text (Ok i) d at some h fits = fits i h
gives_within text (Err e) d at some h fits = tt

pub next_within : (count at : ℕ) (text : List ℕ) (r : Result Lexeme LexFault) → 0 < length text → Gives (λ i. i) r (counted count at (lexeme_at at text)) → IfOk r (λ i. IsFitting i text)
next_within count at text r some h = gives_within text r (counted count at (lexeme_at at text)) at some h (λ i e. lexeme_fits at text i some (counted_ok count at (lexeme_at at text) i e))

-- ---- the loop

pub goes_on_trivia : (ts : List Token) (count at n : ℕ) (text rest : List ℕ) (all : Result (List Token) LexFault) → rest ≡ drop at text →
    counted count at (lexeme_at at rest) ≡ Ok (lexeme.Trivia n) → 0 < n → 0 < length rest → tokens_then ts (tokens_from count at 0 (drop at text)) ≡ all →
    tokens_then ts (tokens_from count (at + n) 0 (drop (at + n) text)) ≡ all
goes_on_trivia ts count at n text rest all is e pos some inv =
    let more : drop n rest ≡ drop (at + n) text = ap (drop n) is ∙ drop-drop n at text in
    let here = step count at rest (lexeme.Trivia n) e pos some in
    ap (λ r. tokens_then ts (tokens_from count (at + n) 0 r)) (sym more) ∙ ap (tokens_then ts) (sym here) ∙ ap (λ r. tokens_then ts (tokens_from count at 0 r)) is ∙ inv

pub goes_on_token : (ts us : List Token) (count at n : ℕ) (k : TokenKind) (text rest : List ℕ) (all : Result (List Token) LexFault) → us ≡ ts ++ record { kind = k; at = at; end = at + n } ∷ [] →
    rest ≡ drop at text → counted count at (lexeme_at at rest) ≡ Ok (lexeme.Token k n) → 0 < n → 0 < length rest → tokens_then ts (tokens_from count at 0 (drop at text)) ≡ all →
    tokens_then us (tokens_from (count + 1) (at + n) 0 (drop (at + n) text)) ≡ all
goes_on_token ts us count at n k text rest all made is e pos some inv =
    let t : Token = record { kind = k; at = at; end = at + n } in
    let more : drop n rest ≡ drop (at + n) text = ap (drop n) is ∙ drop-drop n at text in
    let here = step count at rest (lexeme.Token k n) e pos some in
    ap (λ xs. tokens_then xs (tokens_from (count + 1) (at + n) 0 (drop (at + n) text))) made ∙ sym (regroup ts t (tokens_from (count + 1) (at + n) 0 (drop (at + n) text)))
    ∙ ap (λ r. tokens_then ts (tokens_then (t ∷ []) (tokens_from (count + 1) (at + n) 0 r))) (sym more) ∙ ap (tokens_then ts) (sym here)
    ∙ ap (λ r. tokens_then ts (tokens_from count at 0 r)) is ∙ inv

pub ends : (ts : List Token) (count at : ℕ) (text : List ℕ) (all : Result (List Token) LexFault) → length text ≤ at → tokens_then ts (tokens_from count at 0 (drop at text)) ≡ all → all ≡ Ok ts
ends ts count at text all h inv =
    let rest : drop at text ≡ [] = drop_all at text h in
    sym inv ∙ ap (λ r. tokens_then ts (tokens_from count at 0 r)) rest ∙ ap Ok (append-nil ts)

pub tokens_then_none : (o : Result (List Token) LexFault) → tokens_then [] o ≡ o
tokens_then_none (Ok more) = refl
tokens_then_none (Err f) = refl

pub begins : (source : List ℕ) (ts : List Token) (n : ℕ) → length source ≤ most_source_bytes → ts ≡ [] → n ≡ include_len source →
    tokens_then ts (tokens_from (length ts) n 0 (drop n source)) ≡ lexed source
unfolding lexed
begins source ts n short none is =
    let fits : ltb most_source_bytes (length source) ≡ false = le-ltb most_source_bytes (length source) short in
    let at = zero-add (include_len source) in
    rw (none, is, fits) (tokens_then_none (tokens_from 0 (include_len source) 0 (drop (include_len source) source)) ∙ ap (λ a. tokens_from 0 a 0 (drop (include_len source) source)) (sym at)
    ∙ sym (skipped 0 0 (include_len source) source))

pub too_long : (source : List ℕ) → most_source_bytes < length source → lexed source ≡ Err (fault.LongSource most_source_bytes)
unfolding lexed
too_long source long = let big : ltb most_source_bytes (length source) ≡ true = lt-ltb most_source_bytes (length source) long in rw big refl
