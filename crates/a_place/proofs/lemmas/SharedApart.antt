-- Names that clash have different places, and no long name a place that calls lose.
use Rattle.std.proofs.Common.{◌≡◌, ◌<◌, ◌≤◌, ◌⊎◌, ◌≢◌, ℕ, Bool, true, false, not, ◌&&◌, List, [], ◌∷◌, get_or, refl, sym, ap, ◌∙◌, inl, inr, arith, eqb-true}
use Rattle.std.specs.Prelude.{◌==◌, ◌||◌, nat_lt}
use Rattle.std.proofs.lemmas.Bool.{or_cases, or_parts, and_parts, eqb-false, cases_Bool, or_left, or_right}
use Rattle.std.proofs.lemmas.Bool.Decides.{nat_tests}
use Rattle.g_graph.specs.WellFormed.{some_of}
use Rattle.s_linear.specs.Linear.{LinearFunction}
use Rattle.a_place.specs.Places.{among, above, Given, place_in}
use Rattle.a_place.specs.Share.{Site, does, tests, sites, all_names, writes, meets, clash_at, clash, is_long, is_lost, held, fits, candidates, first_of, next_place, place_for, given, in_order, all_given, counted_for, count_of, shared}
use Rattle.a_place.specs.ShareLaws.{shared_place, SharedPlacesAreCounted}
use Rattle.a_place.proofs.lemmas.Order.{in_order_all, below_above, get_numbers}

-- ---- the place that a name gets

held_below : (params : ℕ) (ss : List Site) (x : ℕ) (gs : List Given) (p : ℕ) → held params ss x gs p ≡ true → p < next_place gs
held_below params ss x [] p e = cc
held_below params ss x (g ∷ gs) p e =
    elim (or_cases ((g.place == p) && clash params ss g.name x) (held params ss x gs p) e) [
      | inl here ↦
          let same : g.place ≡ p = eqb-true g.place p (and_parts (g.place == p) (clash params ss g.name x) here).0 in omega arith
      | inr there ↦ let h : p < next_place gs = held_below params ss x gs p there in omega arith
    ]

first_passes : (test : ℕ → Bool) (ps : List ℕ) (n : ℕ) → (test (first_of test ps n) ≡ true) ⊎ (first_of test ps n ≡ n)
first_passes test [] n = inr refl
first_passes test (p ∷ ps) n =
    elim (cases_Bool (test p)) [
      | inl passes ↦ rw passes (inl passes)
      | inr fails ↦ rw fails (first_passes test ps n)
    ]

not_true : (b : Bool) → not b ≡ true → b ≡ false
not_true true e = sym e
not_true false e = refl

pub not_first : (a b : Bool) → (a && b) ≡ false → b ≡ true → a ≡ false
not_first true b e f = sym f ∙ e
not_first false b e f = refl

not_second : (a b : Bool) → (a && b) ≡ false → a ≡ true → b ≡ false
not_second true b e f = e
not_second false b e f = cc

pub place_free : (params : ℕ) (ss : List Site) (x : ℕ) (gs : List Given) → held params ss x gs (place_for params ss x gs) ≡ false
place_free params ss x gs =
    let p = place_for params ss x gs in
    elim (first_passes (fits params ss x gs) (candidates ss x gs) (next_place gs)) [
      | inl passes ↦ not_true (held params ss x gs p) (and_parts (not (is_long ss x && is_lost p)) (not (held params ss x gs p)) passes).1
      | inr next ↦
          elim (cases_Bool (held params ss x gs p)) [
            | inr free ↦ free
            | inl taken ↦ let h : p < next_place gs = held_below params ss x gs p taken in absurd (omega arith)
          ]
    ]

next_is_word : (gs : List Given) → 31 ≤ next_place gs
next_is_word [] = omega arith
next_is_word (g ∷ gs) = let h : 31 ≤ next_place gs = next_is_word gs in omega arith

word_is_kept : (p : ℕ) → 31 ≤ p → is_lost p ≡ false
word_is_kept p h = grind (arith, nat_tests)

place_kept : (params : ℕ) (ss : List Site) (x : ℕ) (gs : List Given) → is_long ss x ≡ true → is_lost (place_for params ss x gs) ≡ false
place_kept params ss x gs long =
    let p = place_for params ss x gs in
    elim (first_passes (fits params ss x gs) (candidates ss x gs) (next_place gs)) [
      | inl passes ↦
          not_second (is_long ss x) (is_lost p)
          (not_true (is_long ss x && is_lost p) (and_parts (not (is_long ss x && is_lost p)) (not (held params ss x gs p)) passes).0) long
      | inr next ↦ word_is_kept p (let h : 31 ≤ next_place gs = next_is_word gs in omega arith)
    ]

-- ---- each name in turn

abbrev named : ℕ → List Given → Bool
named x gs = some_of (λ g. g.name == x) gs

not_held : (params : ℕ) (ss : List Site) (x y p : ℕ) (gs : List Given) → held params ss x gs p ≡ false → named y gs ≡ true
    → clash params ss y x ≡ true → place_in gs y ≢ p
not_held params ss x y p [] free n o = cc
not_held params ss x y p (g ∷ gs) free n o =
    let parts = or_parts ((g.place == p) && clash params ss g.name x) (held params ss x gs p) free in
    let here : ((g.place == p) && clash params ss g.name x) ≡ false = parts.0 in
    let rest : held params ss x gs p ≡ false = parts.1 in
    elim (cases_Bool (g.name == y)) [
      | inl same ↦
          let name : g.name ≡ y = eqb-true g.name y same in
          let o' : clash params ss g.name x ≡ true = ap (λ z. clash params ss z x) name ∙ o in
          let other : (g.place == p) ≡ false = not_first (g.place == p) (clash params ss g.name x) here o' in
          rw same (eqb-false g.place p other)
      | inr other ↦
          let later : named y gs ≡ true = rw other at n in
          rw other (not_held params ss x y p gs rest later o)
    ]

swap_or : (a b : Bool) → (a || b) ≡ (b || a)
swap_or true true = refl
swap_or true false = refl
swap_or false true = refl
swap_or false false = refl

swap_and : (a b : Bool) → (a && b) ≡ (b && a)
swap_and true true = refl
swap_and true false = refl
swap_and false true = refl
swap_and false false = refl

clash_at_swaps : (x y : ℕ) (s : Site) → clash_at x y s ≡ clash_at y x s
clash_at_swaps x y (does d i N) = swap_or (writes i x && meets i N y) (writes i y && meets i N x)
clash_at_swaps x y (tests d p) = refl

pub some_swaps : (x y : ℕ) (ss : List Site) → some_of (clash_at x y) ss ≡ some_of (clash_at y x) ss
some_swaps x y [] = refl
some_swaps x y (s ∷ ss) = rw (clash_at_swaps x y s, some_swaps x y ss) refl

clash_swaps : (params : ℕ) (ss : List Site) (x y : ℕ) → clash params ss x y ≡ true → clash params ss y x ≡ true
clash_swaps params ss x y e =
    let p : (nat_lt y params && nat_lt x params) ≡ (nat_lt x params && nat_lt y params) = swap_and (nat_lt y params) (nat_lt x params) in
    let s : some_of (clash_at y x) ss ≡ some_of (clash_at x y) ss = some_swaps y x ss in
    rw (p, s) e

-- names that clash have different places
record IsApart (params : ℕ) (ss : List Site) (gs : List Given) : Type 0 where
  differ : (x y : ℕ) → x ≢ y → named x gs ≡ true → named y gs ≡ true → clash params ss x y ≡ true → place_in gs x ≢ place_in gs y

abbrev next : (params : ℕ) (ss : List Site) (z : ℕ) (gs : List Given) → Given
next params ss z gs = record { name = z; place = place_for params ss z gs }

-- the latest name against an earlier one
latest : (params : ℕ) (ss : List Site) (z y : ℕ) (gs : List Given) → named y gs ≡ true → clash params ss z y ≡ true
    → place_for params ss z gs ≢ place_in gs y
latest params ss z y gs n o e =
    not_held params ss z y (place_for params ss z gs) gs (place_free params ss z gs) n (clash_swaps params ss z y o) (sym e)

apart_next : (params : ℕ) (ss : List Site) (z : ℕ) (gs : List Given) → IsApart params ss gs → IsApart params ss (next params ss z gs ∷ gs)
apart_next params ss z gs a = record {
  differ = λ x y ne nx ny o.
      elim (cases_Bool (z == x)) [
        | inl zx ↦
            let ex : z ≡ x = eqb-true z x zx in
            elim (cases_Bool (z == y)) [
              | inl zy ↦ absurd (ne (sym ex ∙ eqb-true z y zy))
              | inr zy ↦
                  let later : named y gs ≡ true = rw zy at ny in
                  rw (zx, zy) (latest params ss z y gs later (ap (λ w. clash params ss w y) ex ∙ o))
            ]
        | inr zx ↦
            let before : named x gs ≡ true = rw zx at nx in
            elim (cases_Bool (z == y)) [
              | inl zy ↦
                  let ey : z ≡ y = eqb-true z y zy in
                  rw (zx, zy)
                  (λ e. latest params ss z x gs before (clash_swaps params ss x z (ap (λ w. clash params ss x w) ey ∙ o)) (sym e))
              | inr zy ↦
                  let later : named y gs ≡ true = rw zy at ny in
                  rw (zx, zy) (a.differ x y ne before later o)
            ]
      ];
}

apart_given : (params : ℕ) (ss : List Site) (xs : List ℕ) (gs : List Given) → IsApart params ss gs → IsApart params ss (given params ss xs gs)
apart_given params ss [] gs a = a
apart_given params ss (x ∷ xs) gs a = apart_given params ss xs (next params ss x gs ∷ gs) (apart_next params ss x gs a)

-- long names have places that calls keep
record AreKept (ss : List Site) (gs : List Given) : Type 0 where
  kept : (x : ℕ) → named x gs ≡ true → is_long ss x ≡ true → is_lost (place_in gs x) ≡ false

kept_next : (params : ℕ) (ss : List Site) (z : ℕ) (gs : List Given) → AreKept ss gs → AreKept ss (next params ss z gs ∷ gs)
kept_next params ss z gs a = record {
  kept = λ x n long.
      elim (cases_Bool (z == x)) [
        | inl zx ↦ rw zx (place_kept params ss z gs (ap (is_long ss) (eqb-true z x zx) ∙ long))
        | inr zx ↦ let before : named x gs ≡ true = rw zx at n in rw zx (a.kept x before long)
      ];
}

kept_given : (params : ℕ) (ss : List Site) (xs : List ℕ) (gs : List Given) → AreKept ss gs → AreKept ss (given params ss xs gs)
kept_given params ss [] gs a = a
kept_given params ss (x ∷ xs) gs a = kept_given params ss xs (next params ss x gs ∷ gs) (kept_next params ss x gs a)

-- ---- the names of a function

still_named : (params : ℕ) (ss : List Site) (y : ℕ) (xs : List ℕ) (gs : List Given) → named y gs ≡ true → named y (given params ss xs gs) ≡ true
still_named params ss y [] gs n = n
still_named params ss y (x ∷ xs) gs n = still_named params ss y xs (next params ss x gs ∷ gs) (or_right (x == y) (named y gs) n)

all_named : (params : ℕ) (ss : List Site) (y : ℕ) (xs : List ℕ) (gs : List Given) → among y xs ≡ true → named y (given params ss xs gs) ≡ true
all_named params ss y [] gs e = cc
all_named params ss y (x ∷ xs) gs e =
    elim (or_cases (x == y) (among y xs) e) [
      | inl here ↦ still_named params ss y xs (next params ss x gs ∷ gs) (or_left (x == y) (named y gs) here)
      | inr there ↦ all_named params ss y xs (next params ss x gs ∷ gs) there
    ]

abbrev given_of : LinearFunction → List Given
given_of f = all_given f.params (sites f) (all_names f)

name_given : (f : LinearFunction) (x : ℕ) → among x (all_names f) ≡ true → named x (given_of f) ≡ true
name_given f x e = all_named f.params (sites f) x (in_order (sites f) (all_names f)) [] (in_order_all (sites f) (all_names f) x e)

place_of : (f : LinearFunction) (x : ℕ) → among x (all_names f) ≡ true → get_or (shared f).of x 0 ≡ place_in (given_of f) x
place_of f x e =
    get_numbers (place_in (given_of f)) 0 (above (all_names f)) x 0 (below_above x (all_names f) e)
    ∙ ap (place_in (given_of f)) (omega arith)

none_apart : (params : ℕ) (ss : List Site) → IsApart params ss []
none_apart params ss = record { differ = λ x y ne nx. absurd (cc) }

none_kept : (ss : List Site) → AreKept ss []
none_kept ss = record { kept = λ x n. absurd (cc) }

pub clashing_names_differ : (f : LinearFunction) (x y : ℕ) → among x (all_names f) ≡ true → among y (all_names f) ≡ true → x ≢ y
    → clash f.params (sites f) x y ≡ true → shared_place f x ≢ shared_place f y
clashing_names_differ f x y nx ny ne o =
    let all = apart_given f.params (sites f) (in_order (sites f) (all_names f)) [] (none_apart f.params (sites f)) in
    rw (place_of f x nx, place_of f y ny) (all.differ x y ne (name_given f x nx) (name_given f y ny) o)

pub long_names_kept : (f : LinearFunction) (x : ℕ) → among x (all_names f) ≡ true → is_long (sites f) x ≡ true → is_lost (shared_place f x) ≡ false
long_names_kept f x n long =
    let all = kept_given f.params (sites f) (in_order (sites f) (all_names f)) [] (none_kept (sites f)) in
    rw (place_of f x n) (all.kept x (name_given f x n) long)

counted_place : (x : ℕ) (gs : List Given) → named x gs ≡ true → counted_for (place_in gs x) ≤ count_of gs
counted_place x [] n = cc
counted_place x (g ∷ gs) n =
    elim (cases_Bool (g.name == x)) [
      | inl same ↦ rw same (omega arith)
      | inr other ↦
          let later : named x gs ≡ true = rw other at n in
          let h : counted_for (place_in gs x) ≤ count_of gs = counted_place x gs later in
          rw other (omega arith)
    ]

pub shared_places_are_counted : SharedPlacesAreCounted
shared_places_are_counted f x n =
    rw (place_of f x n) (counted_place x (given_of f) (name_given f x n))
