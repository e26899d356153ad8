-- Lists of which the first elements are changed, as a loop does it in place.
use Rattle.std.specs.Prelude.{slice_index_or, slice_set}
use Rattle.std.proofs.Common.{◌≡◌, ◌≤◌, ◌<◌, ◌^◌, ℕ, zero, suc, nat_lt, true, Bool, List, [], ◌∷◌, ◌++◌, map, length, take, drop, refl, sym, ap, ◌∙◌, subst, arith}
use Rattle.std.proofs.lemmas.Bool.{and_parts}
use Rattle.std.proofs.lemmas.Bool.Decides.{nat_tests}
use Rattle.std.proofs.lemmas.List.{length-map}
use Rattle.g_graph.specs.Plain.{RegionTree, region_then, regions_of, args_of}
use Rattle.g_graph.proofs.lemmas.Listed.{regions_of_same}
use Rattle.r_push.specs.Edit.{longer, all_longer, with_lists, lengthened, all_lengthened}
use Rattle.r_push.specs.Rule.{can_all_count}

module _ {X : Type 0} (f : X → X) where
  front-index : (i : ℕ) (xs : List X) (d : X) → slice_index_or (take i (map f xs) ++ drop i xs) i d ≡ slice_index_or xs i d
  front-index zero xs d = refl
  front-index (suc i) [] d = refl
  front-index (suc i) (x ∷ xs) d = front-index i xs d

  set-step : (i : ℕ) (xs : List X) (y v : X) → i < length xs → y ≡ slice_index_or xs i y → v ≡ f y → slice_set (take i (map f xs) ++ drop i xs) i v ≡ take (suc i) (map f xs) ++ drop (suc i) xs
  set-step i [] y v h e d = absurd (omega (arith, h))
  set-step zero (x ∷ xs) y v h e d = ap (λ z. z ∷ xs) (d ∙ ap f e)
  set-step (suc i) (x ∷ xs) y v h e d = ap (λ zs. f x ∷ zs) (set-step i xs y v (omega (arith, h)) e d)

  all-done : (i : ℕ) (xs : List X) → length xs ≤ i → take i (map f xs) ++ drop i xs ≡ map f xs
  all-done zero [] h = refl
  all-done (suc i) [] h = refl
  all-done zero (x ∷ xs) h = absurd (omega (arith, h))
  all-done (suc i) (x ∷ xs) h = ap (λ zs. f x ∷ zs) (all-done i xs (omega (arith, h)))

  index-map : (xs : List X) (i : ℕ) (d e : X) → i < length xs → slice_index_or (map f xs) i d ≡ f (slice_index_or xs i e)
  index-map [] i d e h = absurd (omega (arith, h))
  index-map (x ∷ xs) zero d e h = refl
  index-map (x ∷ xs) (suc i) d e h = index-map xs i d e (omega (arith, h))

module _ {X : Type 0} where
  drop-index : (zs : List X) (i : ℕ) (d : X) → slice_index_or (drop i zs) 0 d ≡ slice_index_or zs i d
  drop-index zs zero d = refl
  drop-index [] (suc i) d = refl
  drop-index (z ∷ zs) (suc i) d = drop-index zs i d

  drop-one : (zs : List X) (i : ℕ) → drop (suc i) zs ≡ drop 1 (drop i zs)
  drop-one [] zero = refl
  drop-one [] (suc i) = refl
  drop-one (z ∷ zs) zero = refl
  drop-one (z ∷ zs) (suc i) = drop-one zs i

  drop-set : (zs : List X) (i : ℕ) (v : X) → drop (suc i) (slice_set zs i v) ≡ drop (suc i) zs
  drop-set [] zero v = refl
  drop-set [] (suc i) v = refl
  drop-set (z ∷ zs) zero v = refl
  drop-set (z ∷ zs) (suc i) v = drop-set zs i v

  length-set : (zs : List X) (i : ℕ) (v : X) → length (slice_set zs i v) ≡ length zs
  length-set [] zero v = refl
  length-set [] (suc i) v = refl
  length-set (z ∷ zs) zero v = refl
  length-set (z ∷ zs) (suc i) v = ap suc (length-set zs i v)

-- ---- the loop over the regions

abbrev pub CarriedTo : (n : ℕ) (loops : Bool) (i : ℕ) (old regions lists : List RegionTree) → Type 0
CarriedTo n loops i old regions lists =
    (regions ≡ take i (map (lengthened n loops) old) ++ drop i old) × (drop i lists ≡ drop i (map (longer loops) old)) × (length lists ≡ length old)

pub region-now : (n : ℕ) (loops : Bool) (i : ℕ) (old regions lists : List RegionTree) (r : RegionTree) → CarriedTo n loops i old regions lists → r ≡ slice_index_or regions i r → r ≡
    slice_index_or old i r
region-now n loops i old regions lists r inv e = e ∙ ap (λ zs. slice_index_or zs i r) inv.0 ∙ front-index (lengthened n loops) i old r

pub carried-more : (n : ℕ) (loops : Bool) (i : ℕ) (old regions lists : List RegionTree) (r s t none : RegionTree) → CarriedTo n loops i old regions lists → i < length old →
    r ≡ slice_index_or regions i r → s ≡ slice_index_or lists i s → t ≡ with_lists n s r → CarriedTo n loops (suc i) old (slice_set regions i t) (slice_set lists i none)
carried-more n loops i old regions lists r s t none inv h e d v =
    let here = region-now n loops i old regions lists r inv e in
    let spare : s ≡ longer loops r =
    d ∙ sym (drop-index lists i s) ∙ ap (λ zs. slice_index_or zs 0 s) inv.1 ∙ drop-index (map (longer loops) old) i s ∙ index-map (longer loops) old i s r h ∙ ap (longer loops) (sym here) in (
      ap (λ zs. slice_set zs i t) inv.0 ∙ set-step (lengthened n loops) i old r t h here (v ∙ ap (λ z. with_lists n z r) spare),
      drop-set lists i none ∙ drop-one lists i ∙ ap (drop 1) inv.1 ∙ sym (drop-one (map (longer loops) old) i),
      length-set lists i none ∙ inv.2,
    )

regions-done : (n : ℕ) (loops : Bool) (rs : List RegionTree) → regions_of (map (lengthened n loops) rs) ≡ all_lengthened n loops (regions_of rs)
regions-done n loops [] = refl
regions-done n loops (r ∷ rs) = ap (λ ss. region_then (lengthened n loops r) ss) (regions-done n loops rs)

pub carried-all : (n : ℕ) (loops : Bool) (i : ℕ) (old regions lists : List RegionTree) → CarriedTo n loops i old regions lists → length old ≤ i →
    regions_of regions ≡ all_lengthened n loops (regions_of old)
carried-all n loops i old regions lists inv h = ap regions_of (inv.0 ∙ all-done (lengthened n loops) i old h) ∙ regions-done n loops old

pub count-at : (xs : List RegionTree) (i : ℕ) (r : RegionTree) → can_all_count (regions_of xs) ≡ true → i < length xs → r ≡ slice_index_or xs i r → length (args_of r) < 2 ^ 32
count-at [] i r t h e = absurd (omega (arith, h))
count-at (x ∷ xs) zero r t h e =
    let both = and_parts (nat_lt (length (args_of x)) (2 ^ 32)) (can_all_count (regions_of xs)) t in
    let first : length (args_of x) < 2 ^ 32 = grind (arith, nat_tests, both.0) in
    subst (λ z. length (args_of z) < 2 ^ 32) (sym e) first
count-at (x ∷ xs) (suc i) r t h e =
    count-at xs i r (and_parts (nat_lt (length (args_of x)) (2 ^ 32)) (can_all_count (regions_of xs)) t).1 (omega (arith, h)) e

-- ---- lists and trees

pub longer-map : (loops : Bool) (xs : List RegionTree) → regions_of (map (longer loops) xs) ≡ all_longer loops (regions_of xs)
longer-map loops [] = refl
longer-map loops (x ∷ xs) = ap (λ ss. region_then (longer loops x) ss) (longer-map loops xs)

pub lists-are : (loops : Bool) (lists xs : List RegionTree) → regions_of lists ≡ all_longer loops (regions_of xs) → lists ≡ map (longer loops) xs
lists-are loops lists xs e = regions_of_same lists (map (longer loops) xs) (e ∙ sym (longer-map loops xs))

take-all : {X : Type 0} (i : ℕ) (xs : List X) → length xs ≤ i → take i xs ≡ xs
take-all zero [] h = refl
take-all (suc i) [] h = refl
take-all zero (x ∷ xs) h = absurd (omega (arith, h))
take-all (suc i) (x ∷ xs) h = ap (λ zs. x ∷ zs) (take-all i xs (omega (arith, h)))

pub lists-done : (loops : Bool) (i : ℕ) (lists xs : List RegionTree) → lists ≡ map (longer loops) (take i xs) → length xs ≤ i → regions_of lists ≡ all_longer loops (regions_of xs)
lists-done loops i lists xs e h = ap regions_of (e ∙ ap (map (longer loops)) (take-all i xs h)) ∙ longer-map loops xs

pub lists-begin : (n : ℕ) (loops : Bool) (old lists : List RegionTree) → regions_of lists ≡ all_longer loops (regions_of old) → CarriedTo n loops 0 old old lists
lists-begin n loops old lists e = let same = lists-are loops lists old e in (refl, same, ap length same ∙ length-map old (longer loops))
