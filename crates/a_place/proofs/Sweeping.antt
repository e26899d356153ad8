-- One step of the sweep: what is free, what a name gets, and what is free after a position.
use Rattle.std.proofs.Common.{◌≡◌, ◌<◌, ◌≤◌, ℕ, zero, suc, ◌+◌, Bool, true, false, ◌&&◌, ◌||◌, not, List, [], ◌∷◌, ◌++◌, refl, ap, sym, ◌∙◌, inl, inr, arith, eqb-true}
use Rattle.std.specs.Prelude.{◌==◌, nat_lt, nat_le}
use Rattle.std.proofs.lemmas.Bool.{or_cases, and_parts, and_right, or_parts, cases_Bool}
use Rattle.std.proofs.lemmas.Bool.Decides.{nat_tests}
use Rattle.s_linear.specs.Lines.{Line}
use Rattle.a_place.specs.Places.{first, last, overlap, Given, held, least, count_of, place_for, given}
use Rattle.a_place.specs.Sweep.{held_at, ends_at, AllStarted, AllFree}
use Rattle.a_place.proofs.lemmas.Apart.{not_first}

-- ---- the least place that is not held

pub least_is : (test : ℕ → Bool) (from n m : ℕ) → from ≤ m → m < from + n → ((q : ℕ) → from ≤ q → q < m → test q ≡ true) → test m ≡ false
    → least test from n ≡ m
least_is test from zero m low high before e = absurd (omega arith)
least_is test from (suc n) m low high before e =
    elim (cases_Bool (from == m)) [
      | inl here ↦
          let same : from ≡ m = eqb-true from m here in
          let free : test from ≡ false = ap test same ∙ e in
          rw free same
      | inr later ↦
          let more : suc from ≤ m = grind (arith, nat_tests) in
          let taken : test from ≡ true = before from (omega arith) (omega arith) in
          rw taken (least_is test (suc from) n m more (omega arith) (λ q a b. before q (omega arith) b) e)
    ]

pub least_none : (test : ℕ → Bool) (from n : ℕ) → ((q : ℕ) → from ≤ q → q < from + n → test q ≡ true) → least test from n ≡ from + n
least_none test from zero all = omega arith
least_none test from (suc n) all =
    let taken : test from ≡ true = all from (omega arith) (omega arith) in
    rw taken (least_none test (suc from) n (λ q a b. all q (omega arith) (omega arith)) ∙ omega arith)

-- ---- of the names that start no later, those that overlap a name that starts are those that do not end before

overlaps : (lines : List Line) (x y i : ℕ) → first x lines ≡ i → i ≤ last x lines → first y lines ≤ i → overlap lines y x ≡ nat_le i (last y lines)
overlaps lines x y i s e f =
    elim (cases_Bool (nat_le i (last y lines))) [
      | inl holds ↦ rw holds (grind (arith, nat_tests))
      | inr fails ↦ rw fails (grind (arith, nat_tests))
    ]

pub held_now : (lines : List Line) (x i : ℕ) (gs : List Given) (p : ℕ) → first x lines ≡ i → i ≤ last x lines → AllStarted lines i gs
    → held lines x gs p ≡ held_at lines i gs p
held_now lines x i [] p s e a = refl
held_now lines x i (g ∷ gs) p s e a = λ j. ((g.place == p) && overlaps lines x g.name i s e a.0 j) || held_now lines x i gs p s e a.1 j

-- a place that was free for a name that lasts to a position is held there by no earlier name
none_held : (lines : List Line) (x i : ℕ) (gs : List Given) (p : ℕ) → first x lines ≤ i → i ≤ last x lines → AllStarted lines i gs
    → held lines x gs p ≡ false → held_at lines i gs p ≡ false
none_held lines x i [] p s e a free = refl
none_held lines x i (g ∷ gs) p s e a free =
    let parts = or_parts ((g.place == p) && overlap lines g.name x) (held lines x gs p) free in
    let here : ((g.place == p) && overlap lines g.name x) ≡ false = parts.0 in
    let rest : held lines x gs p ≡ false = parts.1 in
    let later : held_at lines i gs p ≡ false = none_held lines x i gs p s e a.1 rest in
    let before : first g.name lines ≤ i = a.0 in
    let head : ((g.place == p) && nat_le i (last g.name lines)) ≡ false =
    elim (cases_Bool (nat_le i (last g.name lines))) [
      | inl holds ↦
          let meets : overlap lines g.name x ≡ true = grind (arith, nat_tests) in
          let other : (g.place == p) ≡ false = not_first (g.place == p) (overlap lines g.name x) here meets in rw other refl
      | inr fails ↦ and_right (g.place == p) (nat_le i (last g.name lines)) fails
    ] in
    rw (head, later) refl

-- ---- after a position

split_or : (b t u e k : Bool) → ((b && (t || u)) || (e || k)) ≡ (((b && t) || e) || ((b && u) || k))
split_or true true u e k = refl
split_or true false true true k = refl
split_or true false true false k = refl
split_or true false false e k = refl
split_or false t u e k = refl

last_after : (i l : ℕ) → nat_le i l ≡ ((l == i) || nat_le (suc i) l)
last_after i l = grind (arith, nat_tests)

-- held at a position is held at the next one, or by a name that ends
held_after : (lines : List Line) (i : ℕ) (gs : List Given) (p : ℕ) → held_at lines i gs p ≡ (ends_at lines i gs p || held_at lines (suc i) gs p)
held_after lines i [] p = refl
held_after lines i (g ∷ gs) p =
    let l : ℕ = last g.name lines in
    rw (last_after i l, held_after lines i gs p) (split_or (g.place == p) (l == i) (nat_le (suc i) l) (ends_at lines i gs p) (held_at lines (suc i) gs p))

-- the place of a name that lasts to a position is held there by no earlier name
none_at : (lines : List Line) (i : ℕ) (g : Given) (gs : List Given) (p : ℕ) → AllStarted lines i (g ∷ gs) → held lines g.name gs g.place ≡ false
    → (g.place == p) ≡ true → i ≤ last g.name lines → held_at lines i gs p ≡ false
none_at lines i g gs p a f same e =
    none_held lines g.name i gs p a.0 e a.1 (ap (held lines g.name gs) (sym (eqb-true g.place p same)) ∙ f)

goes_on : (lines : List Line) (i : ℕ) (g : Given) (gs : List Given) (p : ℕ) → AllStarted lines i (g ∷ gs) → held lines g.name gs g.place ≡ false
    → (g.place == p) ≡ true → i ≤ last g.name lines → held_at lines (suc i) gs p ≡ false
goes_on lines i g gs p a f same e =
    (or_parts (ends_at lines i gs p) (held_at lines (suc i) gs p) (sym (held_after lines i gs p) ∙ none_at lines i g gs p a f same e)).1

-- a place whose name ends is held by no other name that goes on
ends_free : (lines : List Line) (i : ℕ) (gs : List Given) (p : ℕ) → AllStarted lines i gs → AllFree lines gs → ends_at lines i gs p ≡ true
    → held_at lines (suc i) gs p ≡ false
ends_free lines i [] p a f e = refl
ends_free lines i (g ∷ gs) p a f e =
    let place = g.place == p in
    let goes = nat_le (suc i) (last g.name lines) in
    elim (or_cases (place && (last g.name lines == i)) (ends_at lines i gs p) e) [
      | inl here ↦
          let parts = and_parts place (last g.name lines == i) here in
          let same : last g.name lines ≡ i = eqb-true (last g.name lines) i parts.1 in
          let stops : goes ≡ false = grind (arith, nat_tests) in
          rw (and_right place goes stops) (goes_on lines i g gs p a f.0 parts.0 (omega arith))
      | inr there ↦
          let head : (place && goes) ≡ false =
          elim (cases_Bool (place && goes)) [
            | inr fails ↦ fails
            | inl holds ↦
                let parts = and_parts place goes holds in
                let later : suc i ≤ last g.name lines = grind (arith, nat_tests, parts.1) in
                let none : held_at lines i gs p ≡ false = none_at lines i g gs p a f.0 parts.0 (omega arith) in
                let never : ends_at lines i gs p ≡ false = (or_parts (ends_at lines i gs p) (held_at lines (suc i) gs p) (sym (held_after lines i gs p) ∙ none)).0 in
                let wrong : true ≡ false = sym there ∙ never in cc
          ] in
          rw head (ends_free lines i gs p a.1 f.1 there)
    ]

ends_below : (lines : List Line) (i : ℕ) (gs : List Given) (p : ℕ) → ends_at lines i gs p ≡ true → p < count_of gs
ends_below lines i [] p e = cc
ends_below lines i (g ∷ gs) p e =
    elim (or_cases ((g.place == p) && (last g.name lines == i)) (ends_at lines i gs p) e) [
      | inl here ↦
          let same : g.place ≡ p = eqb-true g.place p (and_parts (g.place == p) (last g.name lines == i) here).0 in omega arith
      | inr there ↦ let h : p < count_of gs = ends_below lines i gs p there in omega arith
    ]

-- what is free after a position: what was, and the places of the names that end there
pub free_after : (lines : List Line) (i : ℕ) (gs : List Given) (p : ℕ) → AllStarted lines i gs → AllFree lines gs
    → (ends_at lines i gs p || (nat_lt p (count_of gs) && not (held_at lines i gs p))) ≡ (nat_lt p (count_of gs) && not (held_at lines (suc i) gs p))
free_after lines i gs p a f =
    elim (cases_Bool (ends_at lines i gs p)) [
      | inl ends ↦
          let h : p < count_of gs = ends_below lines i gs p ends in
          let below : nat_lt p (count_of gs) ≡ true = grind (arith, nat_tests) in
          rw (ends, below, ends_free lines i gs p a f ends) refl
      | inr goes ↦ rw (held_after lines i gs p, goes) refl
    ]

pub started_after : (lines : List Line) (i : ℕ) (gs : List Given) → AllStarted lines i gs → AllStarted lines (suc i) gs
started_after lines i [] a = tt
started_after lines i (g ∷ gs) a = (omega arith, started_after lines i gs a.1)

-- ---- what is given, position by position

pub given_append : (lines : List Line) (xs ys : List ℕ) (gs : List Given) → given lines (xs ++ ys) gs ≡ given lines ys (given lines xs gs)
given_append lines [] ys gs = refl
given_append lines (x ∷ xs) ys gs = given_append lines xs ys (record { name = x; place = place_for lines x gs } ∷ gs)
