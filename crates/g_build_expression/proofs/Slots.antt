-- Variables by slot, by place, and the newest one.
use Rattle.std.proofs.Common.{◌≡◌, ℕ, zero, suc, ◌+◌, List, [], ◌∷◌, ◌++◌, length, append_assoc, refl, sym, ap, ◌∙◌, arith}
use Rattle.std.specs.Prelude.{Option, None, Some, option_and_then, slice_get}
use Rattle.g_graph.specs.declared.op.Origin.{Origin}
use Rattle.g_build_def.specs.Writer.{SlotOrigin, held, object, hidden, variable_at, variable_set, value_origins, value_kinds, numbered}
use Rattle.g_build_expression.specs.Places.{slot_places, slot_set, held_set}

get_here : {X : Type 0} → (pre xs : List X) (x : X) → slice_get (pre ++ x ∷ xs) (length pre) ≡ Some x
get_here [] xs x = refl
get_here (y ∷ pre) xs x = get_here pre xs x

pub length_more : {X : Type 0} → (pre : List X) (x : X) → length (pre ++ x ∷ []) ≡ suc (length pre)
length_more [] x = refl
length_more (y ∷ pre) x = ap suc (length_more pre x)

-- the same list, with one more in front
shifted : (pre xs : List SlotOrigin) (x : SlotOrigin) (k : ℕ) →
    option_and_then (slice_get ((pre ++ x ∷ []) ++ xs)) (slice_get (slot_places (length (pre ++ x ∷ [])) xs) k)
    ≡ option_and_then (slice_get (pre ++ x ∷ xs)) (slice_get (slot_places (suc (length pre)) xs) k)
shifted pre xs x k =
    ap (λ ys. option_and_then (slice_get ys) (slice_get (slot_places (length (pre ++ x ∷ [])) xs) k)) (append_assoc pre (x ∷ []) xs)
    ∙ ap (λ n. option_and_then (slice_get (pre ++ x ∷ xs)) (slice_get (slot_places n xs) k)) (length_more pre x)

pub at_place : (pre xs : List SlotOrigin) (k : ℕ) → variable_at xs k ≡ option_and_then (slice_get (pre ++ xs)) (slice_get (slot_places (length pre) xs) k)
at_place pre [] k = refl
at_place pre (held o ∷ xs) zero = sym (get_here pre xs (held o))
at_place pre (held o ∷ xs) (suc k) = at_place (pre ++ held o ∷ []) xs k ∙ shifted pre xs (held o) k
at_place pre (object n ∷ xs) zero = sym (get_here pre xs (object n))
at_place pre (object n ∷ xs) (suc k) = at_place (pre ++ object n ∷ []) xs k ∙ shifted pre xs (object n) k
at_place pre (hidden o ∷ xs) k = at_place (pre ++ hidden o ∷ []) xs k ∙ shifted pre xs (hidden o) k

-- ---- a write

-- the write at the place that a slot has
abbrev pub set_found : Option ℕ → List SlotOrigin → Origin → List SlotOrigin
set_found None xs p = xs
set_found (Some i) xs p = held_set xs i p

set_here : (pre xs : List SlotOrigin) (x : SlotOrigin) (p : Origin) → held_set (pre ++ x ∷ xs) (length pre) p ≡ pre ++ slot_set x p ∷ xs
set_here [] xs x p = refl
set_here (y ∷ pre) xs x p = ap (λ ys. y ∷ ys) (set_here pre xs x p)

set_shifted : (pre xs : List SlotOrigin) (x : SlotOrigin) (k : ℕ) (p : Origin) →
    set_found (slice_get (slot_places (length (pre ++ x ∷ [])) xs) k) ((pre ++ x ∷ []) ++ xs) p
    ≡ set_found (slice_get (slot_places (suc (length pre)) xs) k) (pre ++ x ∷ xs) p
set_shifted pre xs x k p =
    ap (λ ys. set_found (slice_get (slot_places (length (pre ++ x ∷ [])) xs) k) ys p) (append_assoc pre (x ∷ []) xs)
    ∙ ap (λ n. set_found (slice_get (slot_places n xs) k) (pre ++ x ∷ xs) p) (length_more pre x)

pub set_place : (pre xs : List SlotOrigin) (k : ℕ) (p : Origin) → pre ++ variable_set xs k p ≡ set_found (slice_get (slot_places (length pre) xs) k) (pre ++ xs) p
set_place pre [] k p = refl
set_place pre (held o ∷ xs) zero p = sym (set_here pre xs (held o) p)
set_place pre (held o ∷ xs) (suc k) p =
    sym (append_assoc pre (held o ∷ []) (variable_set xs k p)) ∙ set_place (pre ++ held o ∷ []) xs k p ∙ set_shifted pre xs (held o) k p
set_place pre (object n ∷ xs) zero p = sym (set_here pre xs (object n) p)
set_place pre (object n ∷ xs) (suc k) p =
    sym (append_assoc pre (object n ∷ []) (variable_set xs k p)) ∙ set_place (pre ++ object n ∷ []) xs k p ∙ set_shifted pre xs (object n) k p
set_place pre (hidden o ∷ xs) k p =
    sym (append_assoc pre (hidden o ∷ []) (variable_set xs k p)) ∙ set_place (pre ++ hidden o ∷ []) xs k p ∙ set_shifted pre xs (hidden o) k p

-- ---- what keeps the places

pub places_append : (n m : ℕ) (xs ys : List SlotOrigin) → m ≡ n + length xs → slot_places n (xs ++ ys) ≡ slot_places n xs ++ slot_places m ys
places_append n m [] ys e = let q : n ≡ m = omega (arith, e) in ap (λ k. slot_places k ys) q
places_append n m (held o ∷ xs) ys e = let q : m ≡ suc n + length xs = omega (arith, e) in ap (λ zs. n ∷ zs) (places_append (suc n) m xs ys q)
places_append n m (object k ∷ xs) ys e = let q : m ≡ suc n + length xs = omega (arith, e) in ap (λ zs. n ∷ zs) (places_append (suc n) m xs ys q)
places_append n m (hidden o ∷ xs) ys e = let q : m ≡ suc n + length xs = omega (arith, e) in places_append (suc n) m xs ys q

pub places_numbered : (n : ℕ) (xs : List SlotOrigin) (f : ℕ → Origin) → slot_places n (numbered xs f) ≡ slot_places n xs
places_numbered n [] f = refl
places_numbered n (held o ∷ xs) f = ap (λ zs. n ∷ zs) (places_numbered (suc n) xs (λ k. f (suc k)))
places_numbered n (object k ∷ xs) f = ap (λ zs. n ∷ zs) (places_numbered (suc n) xs f)
places_numbered n (hidden o ∷ xs) f = places_numbered (suc n) xs (λ k. f (suc k))

pub places_set : (n : ℕ) (xs : List SlotOrigin) (i : ℕ) (p : Origin) → slot_places n (held_set xs i p) ≡ slot_places n xs
places_set n [] i p = refl
places_set n (held o ∷ xs) zero p = refl
places_set n (object k ∷ xs) zero p = refl
places_set n (hidden o ∷ xs) zero p = refl
places_set n (held o ∷ xs) (suc i) p = ap (λ zs. n ∷ zs) (places_set (suc n) xs i p)
places_set n (object k ∷ xs) (suc i) p = ap (λ zs. n ∷ zs) (places_set (suc n) xs i p)
places_set n (hidden o ∷ xs) (suc i) p = places_set (suc n) xs i p

-- ---- values

pub origins_cons : (x : SlotOrigin) (xs : List SlotOrigin) → value_origins (x ∷ xs) ≡ value_origins (x ∷ []) ++ value_origins xs
origins_cons (held o) xs = refl
origins_cons (object n) xs = refl
origins_cons (hidden o) xs = refl

pub kinds_cons : (x : SlotOrigin) (xs : List SlotOrigin) → value_kinds (x ∷ xs) ≡ value_kinds (x ∷ []) ++ value_kinds xs
kinds_cons (held o) xs = refl
kinds_cons (object n) xs = refl
kinds_cons (hidden o) xs = refl
