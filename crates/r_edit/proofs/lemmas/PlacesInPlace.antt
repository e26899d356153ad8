-- What stays of a list, moved to its front in place.
use Rattle.std.proofs.Common.{◌≡◌, ◌<◌, ◌≤◌, ℕ, zero, suc, ◌+◌, Bool, true, false, cond, List, [], ◌∷◌, ◌++◌, take, drop, length, get_or, refl, sym, ap, ◌∙◌, add-one, arith, append_assoc}
use Rattle.std.specs.Prelude.{slice_set}
use Rattle.std.proofs.lemmas.List.{take_more_set, drop_more, drop-set-lt, drop-drop}
use Rattle.r_edit.proofs.lemmas.Kept.{kept_none}
use Rattle.r_edit.specs.Places.{stays_at, kept, place_after}

pub kept_more : {X : Type 0} (ts : List Bool) (i : ℕ) (x : X) (xs : List X) →
    kept (drop i ts) (x ∷ xs) ≡ cond (stays_at ts i) (x ∷ kept (drop (suc i) ts) xs) (kept (drop (suc i) ts) xs)
kept_more [] zero x xs = ap (λ ys. x ∷ ys) (sym (kept_none xs))
kept_more [] (suc i) x xs = ap (λ ys. x ∷ ys) (sym (kept_none xs))
kept_more (true ∷ ts) zero x xs = refl
kept_more (false ∷ ts) zero x xs = refl
kept_more (t ∷ ts) (suc i) x xs = kept_more ts i x xs

has_item : {X : Type 0} (xs : List X) (i : ℕ) → i < length xs → (x : X) × (x ≡ get_or xs i x)
has_item [] i b = absurd (omega arith)
has_item (x ∷ xs) zero b = (x, refl)
has_item (x ∷ xs) (suc i) b = has_item xs i (omega arith)

module _ {X : Type 0} (ts : List Bool) (whole now : List X) (to i : ℕ) (within : i < length now) (rest : drop i now ≡ drop i whole) where
  pub rest_after : drop (i + 1) now ≡ drop (i + 1) whole
  rest_after = sym (drop-drop 1 i now) ∙ ap (drop 1) rest ∙ drop-drop 1 i whole

  kept_next : (x : X) → x ≡ get_or now i x →
      kept (drop i ts) (drop i whole) ≡ cond (stays_at ts i) (x ∷ kept (drop (i + 1) ts) (drop (i + 1) whole)) (kept (drop (i + 1) ts) (drop (i + 1) whole))
  kept_next x is =
      let next : drop i whole ≡ x ∷ drop (i + 1) whole = sym rest ∙ drop_more now i x within ∙ (λ j. sym is j ∷ rest_after j) in
      ap (kept (drop i ts)) next ∙ rw add-one (kept_more ts i x (drop (suc i) whole))

  pub moved_stays : {W : List X} (x : X) → x ≡ get_or now i x → to ≤ i → stays_at ts i ≡ true → take to now ++ kept (drop i ts) (drop i whole) ≡ W →
      take (to + 1) (slice_set now to x) ++ kept (drop (i + 1) ts) (drop (i + 1) whole) ≡ W
  moved_stays x is b s e =
      let k = kept (drop (i + 1) ts) (drop (i + 1) whole) in
      let at : kept (drop i ts) (drop i whole) ≡ x ∷ k = kept_next x is ∙ ap (λ t. cond t (x ∷ k) k) s in
      ap (λ ys. ys ++ k) (take_more_set now to x (omega (arith, within, b))) ∙ append_assoc (take to now) (x ∷ []) k ∙ ap (λ ys. take to now ++ ys) (sym at) ∙ e

  pub moved_rest : (y : X) → to ≤ i → drop (i + 1) (slice_set now to y) ≡ drop (i + 1) whole
  moved_rest y b = drop-set-lt (i + 1) now to y (omega (arith, b)) ∙ rest_after

  pub goes : {W : List X} → stays_at ts i ≡ false → take to now ++ kept (drop i ts) (drop i whole) ≡ W →
      take to now ++ kept (drop (i + 1) ts) (drop (i + 1) whole) ≡ W
  goes s e =
      let k = kept (drop (i + 1) ts) (drop (i + 1) whole) in
      let x = has_item now i within in
      let at : kept (drop i ts) (drop i whole) ≡ k = kept_next x.0 x.1 ∙ ap (λ t. cond t (x.0 ∷ k) k) s in
      ap (λ ys. take to now ++ ys) (sym at) ∙ e

-- ---- places

pub place_zero : (ts : List Bool) → place_after ts 0 ≡ 0
place_zero [] = refl
place_zero (t ∷ ts) = refl

place_suc : (ts : List Bool) (k : ℕ) → cond (stays_at ts k) 0 1 + place_after ts (suc k) ≡ 1 + place_after ts k
place_suc [] k = omega arith
place_suc (true ∷ ts) zero = omega (arith, place_zero ts)
place_suc (false ∷ ts) zero = omega (arith, place_zero ts)
place_suc (true ∷ ts) (suc k) = omega (arith, place_suc ts k)
place_suc (false ∷ ts) (suc k) = place_suc ts k

pub place_next : (ts : List Bool) (k : ℕ) → cond (stays_at ts k) 0 1 + place_after ts (k + 1) ≡ 1 + place_after ts k
place_next ts k = rw add-one (place_suc ts k)

-- ---- tests

pub stays_get : (ts : List Bool) (i : ℕ) (d : Bool) → i < length ts → stays_at ts i ≡ get_or ts i d
stays_get [] i d b = absurd (omega arith)
stays_get (t ∷ ts) zero d b = refl
stays_get (t ∷ ts) (suc i) d b = stays_get ts i d (omega arith)

pub stays_past : (ts : List Bool) (i : ℕ) → length ts ≤ i → stays_at ts i ≡ true
stays_past [] i b = refl
stays_past (t ∷ ts) zero b = absurd (omega arith)
stays_past (t ∷ ts) (suc i) b = stays_past ts i (omega arith)
