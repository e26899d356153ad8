-- Checks over lists.
use Rattle.std.specs.Prelude.{◌≡◌, ◌⊎◌, ℕ, zero, suc, Bool, true, false, not, ◌&&◌, List, [], ◌∷◌, map}
use Rattle.std.specs.List.{list_all}
use Rattle.std.proofs.Common.{refl, ap, inl, inr, sym, ◌∙◌}
use Rattle.std.proofs.lemmas.Bool.{and_parts}

-- an element of a list
abbrev pub In : {X : Type 0} → X → List X → Type 0
In x [] = ⊥
In x (y ∷ ys) = (x ≡ y) ⊎ In x ys

-- the n-th of a list that begins with x, or its last
abbrev pub nth : {X : Type 0} → X → List X → ℕ → X
nth x xs zero = x
nth x [] (suc n) = x
nth x (y ∷ xs) (suc n) = nth y xs n

pub in_nth : {X : Type 0} (x : X) (xs : List X) (n : ℕ) → In (nth x xs n) (x ∷ xs)
in_nth x xs zero = inl refl
in_nth x [] (suc n) = inl refl
in_nth x (y ∷ xs) (suc n) = inr (in_nth y xs n)

pub in_map : {X Y : Type 0} (f : X → Y) (x : X) (xs : List X) → In x xs → In (f x) (map f xs)
in_map f x [] i = i
in_map f x (y ∷ ys) (inl e) = inl (ap f e)
in_map f x (y ∷ ys) (inr i) = inr (in_map f x ys i)

pub all_in : {X : Type 0} (p : X → Bool) (x : X) (xs : List X) → In x xs → list_all p xs ≡ true → p x ≡ true
all_in p x [] i h = absurd i
all_in p x (y ∷ ys) (inl e) h = ap p e ∙ (and_parts (p y) (list_all p ys) h).0
all_in p x (y ∷ ys) (inr i) h = all_in p x ys i (and_parts (p y) (list_all p ys) h).1

-- x before xs if the test holds
abbrev joined : {X : Type 0} → Bool → X → List X → List X
joined true x xs = x ∷ xs
joined false x xs = xs

-- the elements that pass a test
abbrev pub kept : {X : Type 0} → (X → Bool) → List X → List X
kept p [] = []
kept p (x ∷ xs) = joined (p x) x (kept p xs)

joined_in : {X : Type 0} (x y : X) (ys zs : List X) (b : Bool) → (In x ys → In x zs) → (x ≡ y) ⊎ In x ys → ((x ≡ y) → b ≡ true) → In x (joined b y zs)
joined_in x y ys zs true go (inl e) h = inl e
joined_in x y ys zs true go (inr i) h = inr (go i)
joined_in x y ys zs false go (inl e) h = absurd (cc (h e))
joined_in x y ys zs false go (inr i) h = go i

pub in_kept : {X : Type 0} (p : X → Bool) (x : X) (xs : List X) → p x ≡ true → In x xs → In x (kept p xs)
in_kept p x [] h i = i
in_kept p x (y ∷ ys) h i = joined_in x y ys (kept p ys) (p y) (in_kept p x ys h) i (λ e. sym (ap p e) ∙ h)

-- what holds of all that pass a test
pub all_kept : {X : Type 0} (p q : X → Bool) (x : X) (xs : List X) → In x xs → q x ≡ true → list_all p (kept q xs) ≡ true → p x ≡ true
all_kept p q x xs i h a = all_in p x (kept q xs) (in_kept q x xs h i) a

pub conj3 : (a b c : Bool) → (a && b && c) ≡ true → (a ≡ true) × (b ≡ true) × (c ≡ true)
conj3 a b c h =
    let g = (and_parts (a && b) c h).0 in ((and_parts a b g).0, (and_parts a b g).1, (and_parts (a && b) c h).1)

pub conj5 : (a b c d e : Bool) → (a && b && c && d && e) ≡ true → (a ≡ true) × (b ≡ true) × (c ≡ true) × (d ≡ true) × (e ≡ true)
conj5 a b c d e h =
    let f = (and_parts (a && b && c && d) e h).0 in
    let g = (and_parts (a && b && c) d f).0 in
    let i = (and_parts (a && b) c g).0 in
    ((and_parts a b i).0, (and_parts a b i).1, (and_parts (a && b) c g).1, (and_parts (a && b && c) d f).1, (and_parts (a && b && c && d) e h).1)

pub refuted : (a : Bool) → (a ≡ true → ⊥) → not a ≡ true
refuted true h = absurd (h refl)
refuted false h = refl
