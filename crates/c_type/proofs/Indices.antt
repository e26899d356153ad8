-- The indices of tags.
use Rattle.std.proofs.Common.{◌≡◌, ℕ, zero, suc, ◌<◌, ◌⊎◌, List, [], ◌∷◌, ◌++◌, length, slice_get, slice_set, Some, refl, ap, inl, inr, arith}
use Rattle.std.proofs.lemmas.Option.{slice_get_within}
use Rattle.c_type.specs.Structs.{AreIndexed, Pads, absent}
use Rattle.c_type.specs.declared.structs.Struct.{Struct}

-- ---- the elements of lists

pub get-front : {X : Type 0} (xs : List X) (y x : X) (p : ℕ) → slice_get xs p ≡ Some x → slice_get (xs ++ y ∷ []) p ≡ Some x
get-front [] y x p is = cc
get-front (z ∷ xs) y x zero is = is
get-front (z ∷ xs) y x (suc p) is = get-front xs y x p is

pub get-either : {X : Type 0} (xs : List X) (y x : X) (p : ℕ) → slice_get (xs ++ y ∷ []) p ≡ Some x → (slice_get xs p ≡ Some x) ⊎ ((p ≡ length xs) × (x ≡ y))
get-either [] y x zero is = inr (refl, cc)
get-either [] y x (suc p) is = cc
get-either (z ∷ xs) y x zero is = inl is
get-either (z ∷ xs) y x (suc p) is = next (get-either xs y x p is) where
  next : (slice_get xs p ≡ Some x) ⊎ ((p ≡ length xs) × (x ≡ y)) → (slice_get xs p ≡ Some x) ⊎ ((suc p ≡ length (z ∷ xs)) × (x ≡ y))
  next (inl h) = inl h
  next (inr h) = inr (ap suc h.0, h.1)

pub get-set-same : {X : Type 0} (xs : List X) (i : ℕ) (v : X) → i < length xs → slice_get (slice_set xs i v) i ≡ Some v
get-set-same [] i v h = absurd (omega arith)
get-set-same (x ∷ xs) zero v h = refl
get-set-same (x ∷ xs) (suc i) v h = get-set-same xs i v (omega arith)

pub get-set-other : {X : Type 0} (xs : List X) (i j : ℕ) (v : X) → (i ≡ j → ⊥) → slice_get (slice_set xs i v) j ≡ slice_get xs j
get-set-other [] i j v ne = refl
get-set-other (x ∷ xs) zero zero v ne = absurd (ne refl)
get-set-other (x ∷ xs) zero (suc j) v ne = refl
get-set-other (x ∷ xs) (suc i) zero v ne = refl
get-set-other (x ∷ xs) (suc i) (suc j) v ne = get-set-other xs i j v (λ e. ne (ap suc e))

-- ---- indices of more tags

pub pads-one : (xs ys : List ℕ) → Pads xs ys → Pads xs (ys ++ absent ∷ [])
pads-one xs ys h =
    record {
      kept = λ tag p is. get-front ys absent p tag (h.kept tag p is);
      added = λ tag p is. by_end tag p (get-either ys absent p tag is);
    } where
      by_end : (tag p : ℕ) → (slice_get ys tag ≡ Some p) ⊎ ((tag ≡ length ys) × (p ≡ absent)) → (slice_get xs tag ≡ Some p) ⊎ (p ≡ absent)
      by_end tag p (inl is) = h.added tag p is
      by_end tag p (inr is) = inr is.1

pub indexed-pads : (indices more : List ℕ) (structs : List Struct) → Pads indices more → AreIndexed indices structs → AreIndexed more structs
indexed-pads indices more structs h i =
    record {
      kept = i.kept;
      found = λ tag p s is at. found_in tag p s (h.added tag p is) at;
      indexed = λ p s is. h.kept s.tag p (i.indexed p s is);
      bounded = λ tag p is. bounded_in tag p (h.added tag p is);
      few = i.few;
      ordered = i.ordered;
    } where
      found_in : (tag p : ℕ) (s : Struct) → (slice_get indices tag ≡ Some p) ⊎ (p ≡ absent) → slice_get structs p ≡ Some s → s.tag ≡ tag
      found_in tag p s (inl is) at = i.found tag p s is at
      found_in tag p s (inr e) at = let b = slice_get_within structs p s at in let f = i.few in absurd (omega (arith, b, f, e))

      bounded_in : (tag p : ℕ) → (slice_get indices tag ≡ Some p) ⊎ (p ≡ absent) → (p < length structs) ⊎ (p ≡ absent)
      bounded_in tag p (inl is) = i.bounded tag p is
      bounded_in tag p (inr e) = inr e
