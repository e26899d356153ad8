-- Names whose intervals overlap have different places, and each place is below the count.
use Rattle.std.proofs.Common.{◌≡◌, ◌<◌, ◌⊎◌, ◌≢◌, ℕ, zero, suc, ◌+◌, Bool, true, false, ◌&&◌, List, [], ◌∷◌, get_or, refl, sym, ap, ◌∙◌, inl, inr, arith, eqb-true}
use Rattle.std.specs.Prelude.{◌==◌}
use Rattle.std.proofs.lemmas.Bool.{or_cases, or_parts, and_parts, eqb-false, cases_Bool, or_left, or_right}
use Rattle.std.proofs.lemmas.Bool.Decides.{nat_tests}
use Rattle.g_graph.specs.WellFormed.{some_of}
use Rattle.s_linear.specs.Lines.{Line}
use Rattle.a_place.specs.Places.{among, occurs, overlap, name_count, in_order, Given, held, least, count_of, place_for, given, place_in, all_given, places}
use Rattle.a_place.specs.Laws.{IsAliveAt, OverlappingNamesDiffer, PlacesAreBelowCount}
use Rattle.a_place.proofs.Order.{in_order_all, get_numbers}
use Rattle.a_place.proofs.lemmas.Names.{below_name_count}

-- ---- the least place is free

held_below : (lines : List Line) (x : ℕ) (gs : List Given) (p : ℕ) → held lines x gs p ≡ true → p < count_of gs
held_below lines x [] p e = cc
held_below lines x (g ∷ gs) p e =
    elim (or_cases ((g.place == p) && overlap lines g.name x) (held lines x gs p) e) [
      | inl here ↦
          let same : g.place ≡ p = eqb-true g.place p (and_parts (g.place == p) (overlap lines g.name x) here).0 in omega arith
      | inr there ↦ let h : p < count_of gs = held_below lines x gs p there in omega arith
    ]

least_fails : (test : ℕ → Bool) (from n : ℕ) → (test (least test from n) ≡ false) ⊎ (least test from n ≡ from + n)
least_fails test from zero = inr (omega arith)
least_fails test from (suc n) =
    elim (cases_Bool (test from)) [
      | inr free ↦ rw free (inl free)
      | inl taken ↦
          rw taken
          (elim (least_fails test (suc from) n) [
            | inl free ↦ inl free
            | inr end ↦ inr (end ∙ omega arith)
          ])
    ]

pub place_free : (lines : List Line) (x : ℕ) (gs : List Given) → held lines x gs (place_for lines x gs) ≡ false
place_free lines x gs =
    elim (least_fails (held lines x gs) 0 (count_of gs)) [
      | inl free ↦ free
      | inr end ↦
          elim (cases_Bool (held lines x gs (place_for lines x gs))) [
            | inr free ↦ free
            | inl taken ↦
                let h : place_for lines x gs < count_of gs = held_below lines x gs (place_for lines x gs) taken in
                absurd (omega arith)
          ]
    ]

-- ---- each name in turn

abbrev named : ℕ → List Given → Bool
named x gs = some_of (λ g. g.name == x) gs

pub not_first : (a b : Bool) → (a && b) ≡ false → b ≡ true → a ≡ false
not_first true b e f = sym f ∙ e
not_first false b e f = refl

not_held : (lines : List Line) (x y p : ℕ) (gs : List Given) → held lines x gs p ≡ false → named y gs ≡ true → overlap lines y x ≡ true
    → place_in gs y ≢ p
not_held lines x y p [] free n o = cc
not_held lines x y p (g ∷ gs) free n o =
    let parts = or_parts ((g.place == p) && overlap lines g.name x) (held lines x gs p) free in
    let here : ((g.place == p) && overlap lines g.name x) ≡ false = parts.0 in
    let rest : held lines x gs p ≡ false = parts.1 in
    elim (cases_Bool (g.name == y)) [
      | inl same ↦
          let name : g.name ≡ y = eqb-true g.name y same in
          let o' : overlap lines g.name x ≡ true = ap (λ z. overlap lines z x) name ∙ o in
          let other : (g.place == p) ≡ false = not_first (g.place == p) (overlap lines g.name x) here o' in
          rw same (eqb-false g.place p other)
      | inr other ↦
          let later : named y gs ≡ true = rw other at n in
          rw other (not_held lines x y p gs rest later o)
    ]

-- names whose intervals overlap have different places
record IsApart (lines : List Line) (gs : List Given) : Type 0 where
  differ : (x y : ℕ) → x ≢ y → named x gs ≡ true → named y gs ≡ true → overlap lines x y ≡ true → place_in gs x ≢ place_in gs y

overlap_sym : (lines : List Line) (x y : ℕ) → overlap lines x y ≡ true → overlap lines y x ≡ true
overlap_sym lines x y e = grind (arith, nat_tests)

abbrev next : (lines : List Line) (z : ℕ) (gs : List Given) → Given
next lines z gs = record { name = z; place = place_for lines z gs }

-- the latest name against an earlier one
latest : (lines : List Line) (z y : ℕ) (gs : List Given) → named y gs ≡ true → overlap lines z y ≡ true
    → place_for lines z gs ≢ place_in gs y
latest lines z y gs n o e =
    not_held lines z y (place_for lines z gs) gs (place_free lines z gs) n (overlap_sym lines z y o) (sym e)

apart_next : (lines : List Line) (z : ℕ) (gs : List Given) → IsApart lines gs → IsApart lines (next lines z gs ∷ gs)
apart_next lines z gs a = record {
  differ = λ x y ne nx ny o.
      elim (cases_Bool (z == x)) [
        | inl zx ↦
            let ex : z ≡ x = eqb-true z x zx in
            elim (cases_Bool (z == y)) [
              | inl zy ↦ absurd (ne (sym ex ∙ eqb-true z y zy))
              | inr zy ↦
                  let later : named y gs ≡ true = rw zy at ny in
                  rw (zx, zy) (latest lines z y gs later (ap (λ w. overlap lines w y) ex ∙ o))
            ]
        | inr zx ↦
            let before : named x gs ≡ true = rw zx at nx in
            elim (cases_Bool (z == y)) [
              | inl zy ↦
                  let ey : z ≡ y = eqb-true z y zy in
                  rw (zx, zy) (λ e. latest lines z x gs before (overlap_sym lines x z (ap (λ w. overlap lines x w) ey ∙ o)) (sym e))
              | inr zy ↦
                  let later : named y gs ≡ true = rw zy at ny in
                  rw (zx, zy) (a.differ x y ne before later o)
            ]
      ];
}

apart_given : (lines : List Line) (xs : List ℕ) (gs : List Given) → IsApart lines gs → IsApart lines (given lines xs gs)
apart_given lines [] gs a = a
apart_given lines (x ∷ xs) gs a = apart_given lines xs (next lines x gs ∷ gs) (apart_next lines x gs a)

still_named : (lines : List Line) (y : ℕ) (xs : List ℕ) (gs : List Given) → named y gs ≡ true → named y (given lines xs gs) ≡ true
still_named lines y [] gs n = n
still_named lines y (x ∷ xs) gs n = still_named lines y xs (next lines x gs ∷ gs) (or_right (x == y) (named y gs) n)

all_named : (lines : List Line) (y : ℕ) (xs : List ℕ) (gs : List Given) → among y xs ≡ true → named y (given lines xs gs) ≡ true
all_named lines y [] gs e = cc
all_named lines y (x ∷ xs) gs e =
    elim (or_cases (x == y) (among y xs) e) [
      | inl here ↦ still_named lines y xs (next lines x gs ∷ gs) (or_left (x == y) (named y gs) here)
      | inr there ↦ all_named lines y xs (next lines x gs ∷ gs) there
    ]

occurring_named : (lines : List Line) (x : ℕ) → some_of (occurs x) lines ≡ true → named x (all_given lines) ≡ true
occurring_named lines x e = all_named lines x (in_order lines) [] (in_order_all x lines e)

place_of : (lines : List Line) (x : ℕ) → some_of (occurs x) lines ≡ true → get_or (places lines).of x 0 ≡ place_in (all_given lines) x
place_of lines x e =
    get_numbers (place_in (all_given lines)) 0 (name_count lines) x 0 (below_name_count x lines e)
    ∙ ap (place_in (all_given lines)) (omega arith)

below_count : (x : ℕ) (gs : List Given) → named x gs ≡ true → place_in gs x < count_of gs
below_count x [] n = cc
below_count x (g ∷ gs) n =
    elim (cases_Bool (g.name == x)) [
      | inl same ↦ rw same (omega arith)
      | inr other ↦
          let later : named x gs ≡ true = rw other at n in
          let h : place_in gs x < count_of gs = below_count x gs later in
          rw other (omega arith)
    ]

pub places_are_below_count : PlacesAreBelowCount
places_are_below_count lines x o =
    rw (place_of lines x o) (below_count x (all_given lines) (occurring_named lines x o))

no_names : (lines : List Line) → IsApart lines []
no_names lines = record { differ = λ x y ne nx. absurd (cc) }

alive_overlap : (lines : List Line) (x y i : ℕ) → IsAliveAt lines x i → IsAliveAt lines y i → overlap lines x y ≡ true
alive_overlap lines x y i a b = grind (arith, nat_tests)

pub overlapping_names_differ : OverlappingNamesDiffer
overlapping_names_differ lines x y i ne a b =
    let all = apart_given lines (in_order lines) [] (no_names lines) in
    rw (place_of lines x a.occurs_there, place_of lines y b.occurs_there)
    (all.differ x y ne (occurring_named lines x a.occurs_there) (occurring_named lines y b.occurs_there) (alive_overlap lines x y i a b))
