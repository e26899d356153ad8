-- Each name of the lines of a function has a shared place.
use Rattle.std.proofs.Common.{◌≡◌, ℕ, zero, suc, ◌-◌, ◌<◌, ◌≤◌, ◌==◌, true, false, Bool, List, [], ◌∷◌, ◌++◌, map, length, refl, sym, subst, ◌∙◌, arith, inl, inr, eq-eqb, flat_map}
use Rattle.std.specs.Prelude.{◌||◌, nat_le, is_some, slice_get}
use Rattle.std.proofs.lemmas.Bool.{cases_lt, and_from, or_left, or_right, lt-ltb, le-ltb, le-leb}
use Rattle.std.proofs.lemmas.List.{length-map}
use Rattle.g_graph.specs.WellFormed.{all_of}
use Rattle.val_core.proofs.lemmas.Numbers.{length_numbers}
use Rattle.val_core.specs.Numbers.{numbers_from}
use Rattle.s_linear.specs.Frame.{counted_for}
use Rattle.s_linear.specs.Linear.{Instr, Step, plain, choice, loop, Code, no_steps, step_then, Codes, no_codes, code_then, LinearFunction}
use Rattle.s_linear.specs.Lines.{done, counted, instr_names, lines}
use Rattle.s_linear.proofs.lemmas.Passing.{StepPasses, CodePasses, CodesPass, lines_pass}
use Rattle.a_place.specs.Places.{among, above, place_in}
use Rattle.a_place.proofs.lemmas.Names.{above_all}
use Rattle.a_place.specs.Share.{sites, predicate_names, step_names, code_names, codes_names, all_names, all_given, shared}
use Rattle.a_place.specs.Share as share
use Rattle.a_place.specs.ShareLaws.{shared_place, SharedPlacesAreCounted}
use Rattle.s_select.specs.Conditions.{has_place, names_have_places}

pub there : (xs : List ℕ) (k : ℕ) → k < length xs → is_some (slice_get xs k) ≡ true
there [] k h = absurd (omega arith)
there (x ∷ xs) zero h = refl
there (x ∷ xs) (suc k) h = there xs k (omega arith)

-- what is counted for a place where four are temporaries
counted_same : (p : ℕ) → counted_for 4 p ≤ share.counted_for p
counted_same p = elim (cases_lt p 11) [
  | inl low ↦ subst (λ n. n ≤ share.counted_for p) (sym (low-is low)) (subst (λ n. suc p ≤ n) (sym (low-was low)) (omega arith))
  | inr more ↦ elim (cases_lt p 15) [
    | inl middle ↦ subst (λ n. n ≤ share.counted_for p) (sym (middle-is more middle)) (omega arith)
    | inr high ↦ subst (λ n. n ≤ share.counted_for p) (sym (high-is more high)) (subst (λ n. suc (p - 4) ≤ n) (sym (high-was more high)) (omega (arith, high)))
  ]
]
  where
    low-is : p < 11 → counted_for 4 p ≡ suc p
    low-is low = rw (lt-ltb p 11 low) refl

    low-was : p < 11 → share.counted_for p ≡ suc p
    low-was low = rw (lt-ltb p 11 low) refl

    middle-is : 11 ≤ p → p < 15 → counted_for 4 p ≡ 0
    middle-is more middle = rw (le-ltb p 11 more, lt-ltb p 15 middle) refl

    high-is : 11 ≤ p → 15 ≤ p → counted_for 4 p ≡ suc (p - 4)
    high-is more high = rw (le-ltb p 11 more, le-ltb p 15 high) refl

    high-was : 11 ≤ p → 15 ≤ p → share.counted_for p ≡ p - 3
    high-was more high = rw (le-ltb p 11 more, le-ltb p 15 high) refl

module _ (counted_places : SharedPlacesAreCounted) (f : LinearFunction) where
  abbrev names : List ℕ
  names = all_names f

  abbrev Has : ℕ → Type 0
  Has x = has_place (shared f) x ≡ true

  has : (x : ℕ) → among x names ≡ true → Has x
  has x e =
      let size : length (shared f).of ≡ above names =
      length-map (numbers_from 0 (above names)) (place_in (all_given f.params (sites f) names)) ∙ length_numbers 0 (above names) in
      let below = above_all x names e in
      let enough = counted_places f x e in
      let same = counted_same (shared_place f x) in
      and_from (is_some (slice_get (shared f).of x)) (nat_le (counted_for 4 (shared_place f x)) (shared f).count)
      (there (shared f).of x (omega (arith, size, below))) (le-leb (counted_for 4 (shared_place f x)) (shared f).count (omega (arith, enough, same)))

  abbrev Within : List ℕ → Type 0
  Within xs = (x : ℕ) → among x xs ≡ true → among x names ≡ true

  among_left : (x : ℕ) (xs ys : List ℕ) → among x xs ≡ true → among x (xs ++ ys) ≡ true
  among_left x [] ys e = cc
  among_left x (y ∷ xs) ys e = more (y == x) (among x xs) (among x (xs ++ ys)) (among_left x xs ys) e
    where
      more : (a b c : Bool) → (b ≡ true → c ≡ true) → (a || b) ≡ true → (a || c) ≡ true
      more true b c h e = refl
      more false b c h e = h e

  among_right : (x : ℕ) (xs ys : List ℕ) → among x ys ≡ true → among x (xs ++ ys) ≡ true
  among_right x [] ys e = e
  among_right x (y ∷ xs) ys e = or_right (y == x) (among x (xs ++ ys)) (among_right x xs ys e)

  left : (xs ys : List ℕ) → Within (xs ++ ys) → Within xs
  left xs ys h x e = h x (among_left x xs ys e)

  right : (xs ys : List ℕ) → Within (xs ++ ys) → Within ys
  right xs ys h x e = h x (among_right x xs ys e)

  head_in : (p : ℕ) (xs : List ℕ) → Within (p ∷ xs) → among p names ≡ true
  head_in p xs h = h p (or_left (p == p) (among p xs) (eq-eqb p p refl))

  tail_in : (p : ℕ) (xs : List ℕ) → Within (p ∷ xs) → Within xs
  tail_in p xs h x e = h x (or_right (p == x) (among x xs) e)

  names_pass : (xs : List ℕ) → Within xs → all_of (has_place (shared f)) xs ≡ true
  names_pass [] h = refl
  names_pass (x ∷ xs) h =
      and_from (has_place (shared f) x) (all_of (has_place (shared f)) xs) (has x (head_in x xs h)) (names_pass xs (tail_in x xs h))

  one : (p : ℕ) → among p names ≡ true → all_of (has_place (shared f)) (p ∷ []) ≡ true
  one p e = and_from (has_place (shared f) p) true (has p e) refl

  instrs_pass : (is : List Instr) → Within (flat_map instr_names is) → all_of (names_have_places (shared f)) (map done is) ≡ true
  instrs_pass [] h = refl
  instrs_pass (i ∷ is) h =
      and_from (all_of (has_place (shared f)) (instr_names i)) (all_of (names_have_places (shared f)) (map done is))
      (names_pass (instr_names i) (left (instr_names i) (flat_map instr_names is) h)) (instrs_pass is (right (instr_names i) (flat_map instr_names is) h))

  predicate_in : (p : ℕ) (cs : Codes) → 1 < counted cs → Within (predicate_names p cs) → among p names ≡ true
  predicate_in p cs two h = h p (rw (le-leb 2 (counted cs) two) (or_left (p == p) (among p []) (eq-eqb p p refl)))

  mutual
    step_passes : (s : Step) → Within (step_names s) → StepPasses (names_have_places (shared f)) s
    step_passes (plain i) h = names_pass (instr_names i) h
    step_passes (choice p cs) h =
        let within = left (predicate_names p cs) (codes_names cs) h in (
          (λ two. ((λ r l. one p (predicate_in p cs two within)), (λ l. one p (predicate_in p cs two within)))),
          codes_pass cs (right (predicate_names p cs) (codes_names cs) h),
        )
    step_passes (loop enter body p back) h =
        let first = left (flat_map instr_names enter ++ code_names body) (p ∷ flat_map instr_names back) h in
        let last = right (flat_map instr_names enter ++ code_names body) (p ∷ flat_map instr_names back) h in (
          instrs_pass enter (left (flat_map instr_names enter) (code_names body) first),
          code_passes body (right (flat_map instr_names enter) (code_names body) first),
          (λ l. one p (head_in p (flat_map instr_names back) last)),
          instrs_pass back (tail_in p (flat_map instr_names back) last),
        )

    code_passes : (c : Code) → Within (code_names c) → CodePasses (names_have_places (shared f)) c
    code_passes no_steps h = tt
    code_passes (step_then s c) h =
        (step_passes s (left (step_names s) (code_names c) h), code_passes c (right (step_names s) (code_names c) h))

    codes_pass : (cs : Codes) → Within (codes_names cs) → CodesPass (names_have_places (shared f)) cs
    codes_pass no_codes h = tt
    codes_pass (code_then c cs) h =
        (code_passes c (left (code_names c) (codes_names cs) h), codes_pass cs (right (code_names c) (codes_names cs) h))

  all_within : Within names
  all_within x e = e

  pub shared_names_have_places : all_of (names_have_places (shared f)) (lines f) ≡ true
  shared_names_have_places =
      let rest = right (numbers_from 0 f.params) (f.value ∷ code_names f.code) all_within in
      lines_pass (names_have_places (shared f)) (λ l. refl) (λ l. refl) f
      (names_pass (numbers_from 0 f.params) (left (numbers_from 0 f.params) (f.value ∷ code_names f.code) all_within))
      (code_passes f.code (tail_in f.value (code_names f.code) rest)) (one f.value (head_in f.value (code_names f.code) rest))
