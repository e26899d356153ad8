-- The steps of the loops that look for an offset.
use Rattle.std.proofs.Common.{◌≡◌, ℕ, ◌+◌, ◌-◌, ◌*◌, ◌^◌, ◌<◌, ◌≤◌, Bool, false, cond, eqb, List, [], ◌∷◌, length, drop, take, get_or, Some, None, codes, sym, ap, ◌∙◌, arith}
use Rattle.std.specs.Prelude.{nat_eq, fold}
use Rattle.std.specs.List.{starts_with}
use Rattle.std.proofs.lemmas.List.{at_drop_more, at_drop_all, take_rest}
use Rattle.c_lex.specs.Digits.{digit_value}
use Rattle.c_lex.specs.Quoted.{closing_from}
use Rattle.c_lex.specs.Trivia.{comment_end}

-- ---- the closing quote

pub closing_step : (quote : ℕ) (taken : Bool) (i : ℕ) (text : List ℕ) → i < length text →
    closing_from quote taken i (drop i text) ≡ cond (eqb (get_or text i 0) 10) None (cond taken (closing_from quote false (i + 1) (drop (i + 1) text)) (cond (eqb (get_or text i 0) quote)
    (Some i) (closing_from quote (eqb (get_or text i 0) 92) (i + 1) (drop (i + 1) text))))
closing_step quote taken i text h = at_drop_more (closing_from quote taken i) text i 0 h

pub closing_all : (quote : ℕ) (taken : Bool) (i : ℕ) (text : List ℕ) → length text ≤ i → closing_from quote taken i (drop i text) ≡ None
closing_all quote taken i text h = at_drop_all (closing_from quote taken i) text i h

-- ---- the end of a comment

pub comment_step : (i : ℕ) (text : List ℕ) → i < length text →
    comment_end i (drop i text) ≡ cond (starts_with nat_eq (drop i text) (codes "*/")) (Some (i + 2)) (comment_end (i + 1) (drop (i + 1) text))
comment_step i text h =
    at_drop_more (comment_end i) text i 0 h
    ∙ ap (λ (t : List ℕ). cond (starts_with nat_eq t (codes "*/")) (Some (i + 2)) (comment_end (i + 1) (drop (i + 1) text))) (sym (at_drop_more (λ t. t) text i 0 h))

-- no comment ends here, where the slice from `i` on is what was tested
pub comment_goes : (i : ℕ) (text : List ℕ) (r : Bool) → r ≡ starts_with nat_eq (take (length text - i) (drop i text)) (codes "*/") → r ≡ false → i < length text →
    comment_end i (drop i text) ≡ comment_end (i + 1) (drop (i + 1) text)
comment_goes i text r is fails h =
    let tested : starts_with nat_eq (drop i text) (codes "*/") ≡ false = ap (λ (t : List ℕ). starts_with nat_eq t (codes "*/")) (sym (take_rest text i)) ∙ sym is ∙ fails in
    comment_step i text h ∙ ap (λ b. cond b (Some (i + 2)) (comment_end (i + 1) (drop (i + 1) text))) tested

pub comment_all : (i : ℕ) (text : List ℕ) → length text ≤ i → comment_end i (drop i text) ≡ None
comment_all i text h = at_drop_all (comment_end i) text i h

-- ---- the value of digits

abbrev pub value_from : ℕ → ℕ → List ℕ → ℕ
value_from base v digits = fold (λ w d. w * base + digit_value d) v digits

pub value_step : (base v i : ℕ) (digits : List ℕ) → i < length digits → value_from base v (drop i digits) ≡ value_from base (v * base + digit_value (get_or digits i 0)) (drop (i + 1) digits)
value_step base v i digits h = at_drop_more (value_from base v) digits i 0 h

pub value_all : (base v i : ℕ) (digits : List ℕ) → length digits ≤ i → value_from base v (drop i digits) ≡ v
value_all base v i digits h = at_drop_all (value_from base v) digits i h

le_product : (base v : ℕ) → 0 < base → v ≤ v * base
le_product base v h = grind arith

-- digits that follow make no value smaller
pub value_grows : (base v : ℕ) (digits : List ℕ) → 0 < base → v ≤ value_from base v digits
value_grows base v [] h = omega arith
value_grows base v (d ∷ ds) h = omega (arith, value_grows base (v * base + digit_value d) ds h, le_product base v h)

pub value_over : (base v i : ℕ) (digits : List ℕ) → 0 < base → i < length digits → 2 ^ 32 ≤ v * base + digit_value (get_or digits i 0) → 2 ^ 32 ≤ value_from base v (drop i digits)
value_over base v i digits h lt over =
    omega (arith, value_step base v i digits lt, value_grows base (v * base + digit_value (get_or digits i 0)) (drop (i + 1) digits) h)
