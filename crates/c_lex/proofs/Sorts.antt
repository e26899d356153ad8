-- The sort of a token by its first byte, and the longest runs of each sort.
use Rattle.std.proofs.Common.{◌≡◌, ℕ, zero, suc, ◌+◌, ◌-◌, ◌≤◌, Bool, true, false, cond, not, eqb, ◌&&◌, List, [], ◌∷◌, ◌++◌, length, take, Some, None, refl, sym, ap, ◌∙◌, arith, inl, inr}
use Rattle.std.specs.List.{list_all, prefix_len}
use Rattle.std.proofs.lemmas.Bool.Decides.{nat_tests}
use Rattle.std.proofs.lemmas.Bool.{and_parts, eqb-true, eqb-false}
use Rattle.c_lex.specs.Classes.{is_letter, is_digit}
use Rattle.c_lex.specs.Quoted.{closing_from}
use Rattle.c_lex.specs.Grammar.{IsIdentifier, IsNumber, IsClosed, IsPunctuator, IsToken}
use Rattle.c_lex.proofs.Lengths.{chosen, closing_within}
use Rattle.c_lex.proofs.Tables.{is_mark, punct_first}

-- ---- one sort for each first byte

letter_not_digit : (b : ℕ) → is_letter b ≡ true → is_digit b ≡ true → ⊥
letter_not_digit b l d = grind (arith, nat_tests)

not_both : (x y : Bool) → x ≡ true → (not x && y) ≡ true → ⊥
not_both true y e f = absurd cc
not_both false y e f = absurd cc

right_of : (x y : Bool) → (not x && y) ≡ true → y ≡ true
right_of true y e = absurd cc
right_of false y e = e

mark_no_letter : (b : ℕ) → is_mark b ≡ true → is_letter b ≡ true → ⊥
mark_no_letter b m l = not_both (is_letter b) (not (is_digit b) && (not (eqb b 39) && not (eqb b 34))) l m

mark_no_digit : (b : ℕ) → is_mark b ≡ true → is_digit b ≡ true → ⊥
mark_no_digit b m d =
    not_both (is_digit b) (not (eqb b 39) && not (eqb b 34)) d (right_of (is_letter b) (not (is_digit b) && (not (eqb b 39) && not (eqb b 34))) m)

mark_no_quote : (b : ℕ) → is_mark b ≡ true → b ≡ 39 → ⊥
mark_no_quote b m e = let f = ap is_mark (sym e) ∙ m in cc

mark_no_double : (b : ℕ) → is_mark b ≡ true → b ≡ 34 → ⊥
mark_no_double b m e = let f = ap is_mark (sym e) ∙ m in cc

letter_no_quote : (b : ℕ) → is_letter b ≡ true → b ≡ 39 → ⊥
letter_no_quote b m e = let f = ap is_letter (sym e) ∙ m in cc

letter_no_double : (b : ℕ) → is_letter b ≡ true → b ≡ 34 → ⊥
letter_no_double b m e = let f = ap is_letter (sym e) ∙ m in cc

digit_no_quote : (b : ℕ) → is_digit b ≡ true → b ≡ 39 → ⊥
digit_no_quote b m e = let f = ap is_digit (sym e) ∙ m in cc

digit_no_double : (b : ℕ) → is_digit b ≡ true → b ≡ 34 → ⊥
digit_no_double b m e = let f = ap is_digit (sym e) ∙ m in cc

pub token_identifier : (b : ℕ) (bs : List ℕ) → is_letter b ≡ true → IsToken (b ∷ bs) → IsIdentifier (b ∷ bs)
token_identifier b bs l (inl w) = w
token_identifier b bs l (inr (inl n)) = absurd (letter_not_digit b l n.0)
token_identifier b bs l (inr (inr (inl q))) = absurd (letter_no_quote b l q.0)
token_identifier b bs l (inr (inr (inr (inl q)))) = absurd (letter_no_double b l q.0)
token_identifier b bs l (inr (inr (inr (inr p)))) = absurd (mark_no_letter b (punct_first p.0 b bs p.1) l)

pub token_number : (b : ℕ) (bs : List ℕ) → is_digit b ≡ true → IsToken (b ∷ bs) → IsNumber (b ∷ bs)
token_number b bs d (inl w) = absurd (letter_not_digit b w.0 d)
token_number b bs d (inr (inl n)) = n
token_number b bs d (inr (inr (inl q))) = absurd (digit_no_quote b d q.0)
token_number b bs d (inr (inr (inr (inl q)))) = absurd (digit_no_double b d q.0)
token_number b bs d (inr (inr (inr (inr p)))) = absurd (mark_no_digit b (punct_first p.0 b bs p.1) d)

pub token_quoted : (b : ℕ) (bs : List ℕ) → b ≡ 39 → IsToken (b ∷ bs) → IsClosed 39 bs
token_quoted b bs e (inl w) = absurd (letter_no_quote b w.0 e)
token_quoted b bs e (inr (inl n)) = absurd (digit_no_quote b n.0 e)
token_quoted b bs e (inr (inr (inl q))) = q.1
token_quoted b bs e (inr (inr (inr (inl q)))) = absurd (omega (arith, e, q.0))
token_quoted b bs e (inr (inr (inr (inr p)))) = absurd (mark_no_quote b (punct_first p.0 b bs p.1) e)

pub token_double : (b : ℕ) (bs : List ℕ) → b ≡ 34 → IsToken (b ∷ bs) → IsClosed 34 bs
token_double b bs e (inl w) = absurd (letter_no_double b w.0 e)
token_double b bs e (inr (inl n)) = absurd (digit_no_double b n.0 e)
token_double b bs e (inr (inr (inl q))) = absurd (omega (arith, e, q.0))
token_double b bs e (inr (inr (inr (inl q)))) = q.1
token_double b bs e (inr (inr (inr (inr p)))) = absurd (mark_no_double b (punct_first p.0 b bs p.1) e)

pub token_mark : (b : ℕ) (bs : List ℕ) → is_mark b ≡ true → IsToken (b ∷ bs) → IsPunctuator (b ∷ bs)
token_mark b bs m (inl w) = absurd (mark_no_letter b m w.0)
token_mark b bs m (inr (inl n)) = absurd (mark_no_digit b m n.0)
token_mark b bs m (inr (inr (inl q))) = absurd (mark_no_quote b m q.0)
token_mark b bs m (inr (inr (inr (inl q)))) = absurd (mark_no_double b m q.0)
token_mark b bs m (inr (inr (inr (inr p)))) = p

-- ---- runs

run_all_by : (p : ℕ → Bool) (x : ℕ) (xs : List ℕ) (t : Bool) → list_all p (take (prefix_len p xs) xs) ≡ true → p x ≡ t → list_all p (take (prefix_len p (x ∷ xs)) (x ∷ xs)) ≡ true
run_all_by p x xs true ih e =
    let n : prefix_len p (x ∷ xs) ≡ suc (prefix_len p xs) = ap (λ t. cond t (1 + prefix_len p xs) 0) e ∙ omega arith in
    ap (λ k. list_all p (take k (x ∷ xs))) n ∙ ap (λ t. t && list_all p (take (prefix_len p xs) xs)) e ∙ ih
run_all_by p x xs false ih e =
    let n : prefix_len p (x ∷ xs) ≡ 0 = ap (λ t. cond t (1 + prefix_len p xs) 0) e in
    ap (λ k. list_all p (take k (x ∷ xs))) n

pub run_all : (p : ℕ → Bool) (xs : List ℕ) → list_all p (take (prefix_len p xs) xs) ≡ true
run_all p [] = refl
run_all p (x ∷ xs) = run_all_by p x xs (p x) (run_all p xs) refl

pub run_most : (p : ℕ → Bool) (xs : List ℕ) (m : ℕ) → m ≤ length xs → list_all p (take m xs) ≡ true → m ≤ prefix_len p xs
run_most p xs zero h e = omega arith
run_most p [] (suc m) h e = absurd (omega arith)
run_most p (x ∷ xs) (suc m) h e =
    let both = and_parts (p x) (list_all p (take m xs)) e in
    let n : prefix_len p (x ∷ xs) ≡ 1 + prefix_len p xs = ap (λ t. cond t (1 + prefix_len p xs) 0) both.0 in
    omega (arith, run_most p xs m (omega arith) both.1)

pub run_first : (p : ℕ → Bool) (b : ℕ) (bs : List ℕ) → p b ≡ true → prefix_len p (b ∷ bs) ≡ suc (prefix_len p bs)
run_first p b bs e = ap (λ t. cond t (1 + prefix_len p bs) 0) e ∙ omega arith

-- ---- between quotes

some_is : (a b : ℕ) → Some a ≡ Some b → a ≡ b
some_is a b e = cc

plain_closed : (quote at b c m : ℕ) (cs : List ℕ) → (b ≡ 10 → ⊥) → (b ≡ quote → ⊥) → (b ≡ 92 → ⊥) → ((k : ℕ) → closing_from quote false (at + 1) (c ∷ cs) ≡ Some (at + 1 + k) →
    IsClosed quote (take (suc k) (c ∷ cs))) → closing_from quote false (at + 1) (c ∷ cs) ≡ Some (at + m) → IsClosed quote (take (suc m) (b ∷ c ∷ cs))
plain_closed quote at b c zero cs no_end no_quote no_slash ih e =
    absurd (omega (arith, (closing_within quote false (at + 1) (c ∷ cs) (at + 0) e).0))
plain_closed quote at b c (suc k) cs no_end no_quote no_slash ih e =
    let offset : at + suc k ≡ at + 1 + k = omega arith in
    inl (no_end, no_quote, no_slash, ih k (e ∙ ap Some offset))

escape_closed : (quote at b c m : ℕ) (cs : List ℕ) → b ≡ 92 → (c ≡ 10 → ⊥) → ((k : ℕ) → closing_from quote false (at + 1 + 1) cs ≡ Some (at + 1 + 1 + k) → IsClosed quote (take (suc k) cs)) →
    closing_from quote false (at + 1 + 1) cs ≡ Some (at + m) → IsClosed quote (take (suc m) (b ∷ c ∷ cs))
escape_closed quote at b c zero cs slash no_end ih e = absurd (omega (arith, (closing_within quote false (at + 1 + 1) cs (at + 0) e).0))
escape_closed quote at b c (suc zero) cs slash no_end ih e = absurd (omega (arith, (closing_within quote false (at + 1 + 1) cs (at + 1) e).0))
escape_closed quote at b c (suc (suc k)) cs slash no_end ih e =
    let offset : at + suc (suc k) ≡ at + 1 + 1 + k = omega arith in
    inr (slash, no_end, ih k (e ∙ ap Some offset))

after_closed : (quote at b c m : ℕ) (cs : List ℕ) (t : Bool) → eqb b 92 ≡ t → (b ≡ 10 → ⊥) → (b ≡ quote → ⊥) → ((k : ℕ) → closing_from quote false (at + 1) (c ∷ cs) ≡ Some (at + 1 + k) →
    IsClosed quote (take (suc k) (c ∷ cs))) → ((k : ℕ) → closing_from quote false (at + 1 + 1) cs ≡ Some (at + 1 + 1 + k) → IsClosed quote (take (suc k) cs)) →
    closing_from quote t (at + 1) (c ∷ cs) ≡ Some (at + m) → IsClosed quote (take (suc m) (b ∷ c ∷ cs))
after_closed quote at b c m cs false is no_end no_quote plain escaped e = plain_closed quote at b c m cs no_end no_quote (eqb-false b 92 is) plain e
after_closed quote at b c m cs true is no_end no_quote plain escaped e =
    elim (chosen (eqb c 10) None (closing_from quote false (at + 1 + 1) cs) (Some (at + m)) e) [
      | inl (_, f) ↦ absurd cc
      | inr (goes_on, f) ↦ escape_closed quote at b c m cs (eqb-true b 92 is) (eqb-false c 10 goes_on) escaped f
    ]

one_closed : (quote at b m : ℕ) (text : List ℕ) → eqb b quote ≡ true → Some at ≡ Some (at + m) → IsClosed quote (take (suc m) (b ∷ text))
one_closed quote at b zero text same e = eqb-true b quote same
one_closed quote at b (suc m) text same e = absurd (omega (arith, some_is at (at + suc m) e))

-- the bytes up to and with the closing quote are closed
pub closed_is : (quote at m : ℕ) (text : List ℕ) → closing_from quote false at text ≡ Some (at + m) → IsClosed quote (take (suc m) text)
closed_is quote at m [] e = absurd cc
closed_is quote at m (b ∷ []) e =
    elim (chosen (eqb b 10) None (cond (eqb b quote) (Some at) (closing_from quote (eqb b 92) (at + 1) [])) (Some (at + m)) e) [
      | inl (_, f) ↦ absurd cc
      | inr (_, f) ↦ elim (chosen (eqb b quote) (Some at) (closing_from quote (eqb b 92) (at + 1) []) (Some (at + m)) f) [
        | inl (same, g) ↦ one_closed quote at b m [] same g
        | inr (_, g) ↦ absurd cc
      ]
    ]
closed_is quote at m (b ∷ c ∷ cs) e =
    elim (chosen (eqb b 10) None (cond (eqb b quote) (Some at) (closing_from quote (eqb b 92) (at + 1) (c ∷ cs))) (Some (at + m)) e) [
      | inl (_, f) ↦ absurd cc
      | inr (no_end, f) ↦ elim (chosen (eqb b quote) (Some at) (closing_from quote (eqb b 92) (at + 1) (c ∷ cs)) (Some (at + m)) f) [
        | inl (same, g) ↦ one_closed quote at b m (c ∷ cs) same g
        | inr (no_quote, g) ↦
            after_closed quote at b c m cs (eqb b 92) refl (eqb-false b 10 no_end) (eqb-false b quote no_quote) (λ k f. closed_is quote (at + 1) k (c ∷ cs) f) (λ k f. closed_is quote
            (at + 1 + 1) k cs f) g
      ]
    ]

-- closed bytes are found, whatever follows them
pub closed_found : (quote at k : ℕ) (text more : List ℕ) → (quote ≡ 10 → ⊥) → (quote ≡ 92 → ⊥) → length text ≡ suc k → IsClosed quote text → closing_from quote false at (text ++ more) ≡ Some (at + k)
closed_found quote at k [] more q10 q92 len h = absurd h
closed_found quote at k (b ∷ []) more q10 q92 len h =
    let k_is : k ≡ 0 = omega arith in
    let no_end : eqb b 10 ≡ false = grind (arith, nat_tests) in
    let same : eqb b quote ≡ true = grind (arith, nat_tests) in
    let offset : at ≡ at + k = omega arith in
    ap (λ t. cond t None (cond (eqb b quote) (Some at) (closing_from quote (eqb b 92) (at + 1) more))) no_end ∙ ap (λ t. cond t (Some at) (closing_from quote (eqb b 92) (at + 1) more)) same
    ∙ ap Some offset
closed_found quote at k (b ∷ c ∷ cs) more q10 q92 len (inl h) =
    let no_end : eqb b 10 ≡ false = grind (arith, nat_tests, h.0) in
    let no_quote : eqb b quote ≡ false = grind (arith, nat_tests, h.1) in
    let no_slash : eqb b 92 ≡ false = grind (arith, nat_tests, h.2) in
    let j : ℕ = k - 1 in
    let offset : at + 1 + j ≡ at + k = omega arith in
    let rest = closed_found quote (at + 1) j (c ∷ cs) more q10 q92 (omega arith) h.3 in
    ap (λ t. cond t None (cond (eqb b quote) (Some at) (closing_from quote (eqb b 92) (at + 1) (c ∷ (cs ++ more))))) no_end
    ∙ ap (λ t. cond t (Some at) (closing_from quote (eqb b 92) (at + 1) (c ∷ (cs ++ more)))) no_quote ∙ ap (λ t. closing_from quote t (at + 1) (c ∷ (cs ++ more))) no_slash ∙ rest ∙ ap Some offset
closed_found quote at k (b ∷ c ∷ []) more q10 q92 len (inr h) = absurd h.2
closed_found quote at k (b ∷ c ∷ d ∷ ds) more q10 q92 len (inr h) =
    let no_end : eqb b 10 ≡ false = grind (arith, nat_tests, h.0) in
    let no_quote : eqb b quote ≡ false = grind (arith, nat_tests, h.0) in
    let slash : eqb b 92 ≡ true = grind (arith, nat_tests, h.0) in
    let goes_on : eqb c 10 ≡ false = grind (arith, nat_tests, h.1) in
    let j : ℕ = k - 2 in
    let offset : at + 1 + 1 + j ≡ at + k = omega arith in
    let rest = closed_found quote (at + 1 + 1) j (d ∷ ds) more q10 q92 (omega arith) h.2 in
    let tail : List ℕ = d ∷ (ds ++ more) in
    ap (λ t. cond t None (cond (eqb b quote) (Some at) (closing_from quote (eqb b 92) (at + 1) (c ∷ tail)))) no_end
    ∙ ap (λ t. cond t (Some at) (closing_from quote (eqb b 92) (at + 1) (c ∷ tail))) no_quote ∙ ap (λ t. closing_from quote t (at + 1) (c ∷ tail)) slash
    ∙ ap (λ t. cond t None (closing_from quote false (at + 1 + 1) tail)) goes_on ∙ rest ∙ ap Some offset

-- the closing quote stands where it was found
pub closing_at : (quote at m : ℕ) (taken : Bool) (text : List ℕ) → closing_from quote taken at text ≡ Some (at + m) → take (suc m) text ≡ take m text ++ quote ∷ []
closing_at quote at m taken [] e = absurd cc
closing_at quote at zero taken (b ∷ bs) e =
    elim (chosen (eqb b 10) None (cond taken (closing_from quote false (at + 1) bs) (cond (eqb b quote) (Some at) (closing_from quote (eqb b 92) (at + 1) bs))) (Some (at + 0)) e) [
      | inl (_, f) ↦ absurd cc
      | inr (_, f) ↦ elim (chosen taken (closing_from quote false (at + 1) bs) (cond (eqb b quote) (Some at) (closing_from quote (eqb b 92) (at + 1) bs)) (Some (at + 0)) f) [
        | inl (_, g) ↦ absurd (omega (arith, (closing_within quote false (at + 1) bs (at + 0) g).0))
        | inr (_, g) ↦ elim (chosen (eqb b quote) (Some at) (closing_from quote (eqb b 92) (at + 1) bs) (Some (at + 0)) g) [
          | inl (same, _) ↦ ap (λ x. x ∷ []) (eqb-true b quote same)
          | inr (_, k) ↦ absurd (omega (arith, (closing_within quote (eqb b 92) (at + 1) bs (at + 0) k).0))
        ]
      ]
    ]
closing_at quote at (suc m) taken (b ∷ bs) e =
    let offset : at + suc m ≡ at + 1 + m = omega arith in
    elim (chosen (eqb b 10) None (cond taken (closing_from quote false (at + 1) bs) (cond (eqb b quote) (Some at) (closing_from quote (eqb b 92) (at + 1) bs))) (Some (at + suc m)) e) [
      | inl (_, f) ↦ absurd cc
      | inr (_, f) ↦ elim (chosen taken (closing_from quote false (at + 1) bs) (cond (eqb b quote) (Some at) (closing_from quote (eqb b 92) (at + 1) bs)) (Some (at + suc m)) f) [
        | inl (_, g) ↦ ap (λ (t : List ℕ). b ∷ t) (closing_at quote (at + 1) m false bs (g ∙ ap Some offset))
        | inr (_, g) ↦ elim (chosen (eqb b quote) (Some at) (closing_from quote (eqb b 92) (at + 1) bs) (Some (at + suc m)) g) [
          | inl (_, h) ↦ absurd (omega (arith, some_is at (at + suc m) h))
          | inr (_, h) ↦ ap (λ (t : List ℕ). b ∷ t) (closing_at quote (at + 1) m (eqb b 92) bs (h ∙ ap Some offset))
        ]
      ]
    ]
