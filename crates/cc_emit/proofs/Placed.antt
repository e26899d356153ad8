-- Each name of lines has a place.
use Rattle.std.proofs.Common.{◌≡◌, ℕ, suc, ◌-◌, ◌<◌, ◌≤◌, ◌==◌, refl, sym, subst, ◌∙◌, Bool, true, false, List, [], ◌∷◌, length, slice_index, arith, inl, inr}
use Rattle.std.proofs.lemmas.Bool.{cases_lt, and_from, lt-ltb, le-ltb, le-leb, or_left, or_right}
use Rattle.std.proofs.lemmas.Bool.Decides.{nat_tests}
use Rattle.std.proofs.lemmas.List.{length-map}
use Rattle.std.specs.Prelude.{◌||◌, nat_le, is_some, slice_get}
use Rattle.g_graph.specs.WellFormed.{all_of, some_of}
use Rattle.val_core.proofs.lemmas.Numbers.{length_numbers}
use Rattle.s_linear.specs.Frame.{counted_for}
use Rattle.s_linear.specs.Lines.{Line, line_names, lines}
use Rattle.s_linear.specs.declared.frame.CodeForm.TheVariants.{Plain, Tight}
use Rattle.val_core.specs.Numbers.{numbers_from}
use Rattle.a_place.specs.Laws.{PlacesAreBelowCount}
use Rattle.a_place.specs.ShareLaws.{SharedPlacesAreCounted}
use Rattle.a_place.proofs.lemmas.Names.{below_name_count}
use Rattle.a_place.specs.Places.{occurs, name_count, all_given, place_in, places}
use Rattle.s_select.specs.Conditions.{has_place}
use Rattle.s_select.specs.Conditions as condition
use Rattle.cc_emit.specs.Laws.{NamesHavePlaces}
use Rattle.cc_emit.proofs.Shared.{there, shared_names_have_places}

pub or_cases : (a b : Bool) (P : Type 0) → (a || b) ≡ true → (a ≡ true → P) → (b ≡ true → P) → P
or_cases true b P h f g = f refl
or_cases false b P h f g = g h

-- without temporaries a place is counted with those before it
counted_within : (p n : ℕ) → p < n → nat_le (counted_for 0 p) n ≡ true
counted_within p n below = elim (cases_lt p 11) [
  | inl low ↦ le-leb (counted_for 0 p) n (subst (λ k. k ≤ n) (sym (counted-low p low)) below)
  | inr high ↦ le-leb (counted_for 0 p) n (subst (λ k. k ≤ n) (sym (counted-high p high)) (omega (arith, below)))
]
  where
    counted-low : (p : ℕ) → p < 11 → counted_for 0 p ≡ suc p
    counted-low p low = rw (lt-ltb p 11 low) refl

    counted-high : (p : ℕ) → 11 ≤ p → counted_for 0 p ≡ suc (p - 0)
    counted-high p high = rw (le-ltb p 11 high) refl

-- ---- each name

name_has_place : PlacesAreBelowCount → (all : List Line) (x : ℕ) → some_of (occurs x) all ≡ true → has_place (places all) x ≡ true
name_has_place below all x h =
    let count : length (places all).of ≡ name_count all = length-map (numbers_from 0 (name_count all)) (place_in (all_given all)) ∙ length_numbers 0 (name_count all) in
    let inside : x < length (places all).of = omega (arith, count, below_name_count x all h) in
    and_from (is_some (slice_get (places all).of x)) (nat_le (counted_for 0 (slice_index (places all).of x)) (places all).count)
    (there (places all).of x inside) (counted_within (slice_index (places all).of x) (places all).count (below all x h))

-- names that each occur
names_all : PlacesAreBelowCount → (all : List Line) (xs : List ℕ) → ((x : ℕ) → some_of (λ y. y == x) xs ≡ true → some_of (occurs x) all ≡ true)
    → all_of (has_place (places all)) xs ≡ true
names_all below all [] h = refl
names_all below all (x ∷ xs) h =
    and_from (has_place (places all) x) (all_of (has_place (places all)) xs)
    (name_has_place below all x (h x (or_left (x == x) (some_of (λ y. y == x) xs) (grind (arith, nat_tests)))))
    (names_all below all xs (λ y e. h y (or_right (x == y) (some_of (λ z. z == y) xs) e)))

-- lines whose names each occur
lines_all : PlacesAreBelowCount → (all ls : List Line) → ((x : ℕ) → some_of (occurs x) ls ≡ true → some_of (occurs x) all ≡ true)
    → all_of (condition.names_have_places (places all)) ls ≡ true
lines_all below all [] h = refl
lines_all below all (line ∷ ls) h =
    and_from (condition.names_have_places (places all) line) (all_of (condition.names_have_places (places all)) ls)
    (names_all below all (line_names line) (λ x e. h x (or_left (occurs x line) (some_of (occurs x) ls) e)))
    (lines_all below all ls (λ x e. h x (or_right (occurs x line) (some_of (occurs x) ls) e)))

pub names_have_places : PlacesAreBelowCount → SharedPlacesAreCounted → NamesHavePlaces
names_have_places below counted Plain f = lines_all below (lines f) (lines f) (λ x h. h)
names_have_places below counted Tight f = shared_names_have_places counted f
