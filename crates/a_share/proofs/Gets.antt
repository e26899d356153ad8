-- Elements of a list that was set at an index.
use Rattle.std.proofs.Common.{◌≡◌, ◌≢◌, ◌<◌, ℕ, zero, suc, List, [], ◌∷◌, ◌++◌, map, length, slice_get, get_or, set, take, drop, ◌+◌, add-one, drop-cons, Some, refl, ap, sym, ◌∙◌, arith}
use Rattle.std.proofs.lemmas.List.{map-set, get_or-map}

pub get_set_same : {X : Type 0} (xs : List X) (i : ℕ) (y : X) → i < length xs → slice_get (set xs i y) i ≡ Some y
get_set_same [] i y h = absurd (omega arith)
get_set_same (x ∷ xs) zero y h = refl
get_set_same (x ∷ xs) (suc i) y h = get_set_same xs i y (omega arith)

pub get_set_other : {X : Type 0} (xs : List X) (i j : ℕ) (y : X) → j ≢ i → slice_get (set xs i y) j ≡ slice_get xs j
get_set_other [] i j y h = refl
get_set_other (x ∷ xs) zero zero y h = absurd (h refl)
get_set_other (x ∷ xs) zero (suc j) y h = refl
get_set_other (x ∷ xs) (suc i) zero y h = refl
get_set_other (x ∷ xs) (suc i) (suc j) y h = get_set_other xs i j y (λ e. h (ap suc e))

-- a list of lists whose parts are seen through a view
pub put_at : {X : Type 0} (f : X → List ℕ) (xs : List X) (i n : ℕ) (before after : X) → i < length xs → before ≡ get_or xs i before
    → f after ≡ f before ++ n ∷ [] → map f (set xs i after) ≡ set (map f xs) i (get_or (map f xs) i [] ++ n ∷ [])
put_at f xs i n before after h b a =
    map-set f xs i after ∙ ap (set (map f xs) i) (a ∙ ap (λ z. z ++ n ∷ []) (ap f b ∙ sym (get_or-map f xs i before [] h)))

pub view_at : {X : Type 0} (f : X → List ℕ) (xs : List X) (ys : List (List ℕ)) (i : ℕ) (x : X) → i < length xs → x ≡ get_or xs i x → map f xs ≡ ys
    → get_or ys i [] ≡ f x
view_at f xs ys i x h e v = ap (λ z. get_or z i []) (sym v) ∙ get_or-map f xs i x [] h ∙ ap f (sym e)

-- a list from an index on
pub drop_at : (xs : List ℕ) (k : ℕ) (x : ℕ) → k < length xs → x ≡ get_or xs k x → drop k xs ≡ x ∷ drop (k + 1) xs
drop_at xs k x h e = rw (add-one k, drop-cons xs k x) (ap (λ z. z ∷ drop (suc k) xs) (sym e))

-- a list that was added to
pub take_added : (xs ys zs : List ℕ) → zs ≡ xs ++ ys → take (length xs) zs ≡ xs
take_added xs ys zs e = ap (take (length xs)) e ∙ added xs
  where
    added : (xs : List ℕ) → take (length xs) (xs ++ ys) ≡ xs
    added [] = nothing ys
      where
        nothing : (ys : List ℕ) → take 0 ys ≡ []
        nothing [] = refl
        nothing (y ∷ ys) = refl
    added (x ∷ xs) = ap (λ z. x ∷ z) (added xs)

pub drop_added : (xs ys zs : List ℕ) → zs ≡ xs ++ ys → drop (length xs) zs ≡ ys
drop_added xs ys zs e = ap (drop (length xs)) e ∙ added xs
  where
    added : (xs : List ℕ) → drop (length xs) (xs ++ ys) ≡ ys
    added [] = refl
    added (x ∷ xs) = added xs
