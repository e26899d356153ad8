-- A place fits by what is counted where it fits by the definition.
use Rattle.std.proofs.Common.{◌≡◌, ◌≢◌, ◌+◌, ◌<◌, ℕ, zero, suc, Bool, true, false, not, ◌&&◌, if◌then◌else◌, List, [], ◌∷◌, ◌++◌, length, take, filter, flat_map, get_or, refl, sym, ap, ◌∙◌, inl, inr, arith, eqb-true, eq-eqb, Some, None}
use Rattle.std.specs.Prelude.{◌==◌, ◌||◌, nat_lt, slice_index_or}
use Rattle.std.proofs.lemmas.Bool.{cases_Bool, or_cases, or_left, or_right}
use Rattle.std.proofs.lemmas.Bool.Decides.{nat_tests}
use Rattle.std.proofs.lemmas.List.{take_more}
use Rattle.g_graph.specs.WellFormed.{some_of}
use Rattle.val_core.specs.Numbers.{numbers_from}
use Rattle.s_linear.specs.Lines.{Line}
use Rattle.a_place.specs.Places.{among, Given}
use Rattle.a_place.specs.Share.{Site, clash_at, clash, is_long, is_lost, held, fits, places_of, partners, candidates, first_of, next_place, place_for, given}
use Rattle.a_place.specs.Marks.{Mark, sites_at}
use Rattle.a_share.specs.Walk.{count_if, has}
use Rattle.a_share.specs.Walked.{IsWalkOf}
use Rattle.a_share.specs.Held.{total}
use Rattle.a_share.specs.Tables.{does_write, positions}
use Rattle.a_share.specs.Facts.{segments_of, writes_of, copied_of, line_number, name_number, AreUsable, AreFacts}
use Rattle.a_share.specs.Giving.{is_place, as_list, shared_places, place_given, names_at, met, fits_given, candidates_given, chosen, given_by}
use Rattle.a_share.specs.declared.facts.Facts.{Facts}
use Rattle.a_place.proofs.lemmas.SharedApart.{some_swaps}
use Rattle.a_share.proofs.Totals.{bit, over, total_add, total_same, total_swap, count_total, count_swap, more_is_other, none_more}
use Rattle.a_share.proofs.Meeting.{copy_at, clash_line, meet_total, copies_total, no_clash, met_is}
use Rattle.a_share.proofs.Long.{long_same}
use Rattle.a_share.proofs.Partners.{partners_same}
use Rattle.a_share.proofs.Depths.{flat_same}
use Rattle.a_share.proofs.Distinct.{AreDistinct}

-- ---- lists of given places

-- each name is given once
abbrev pub AreApart : List Given → Type 0
AreApart [] = Unit {0}
AreApart (g ∷ gs) = (place_given gs g.name ≡ None) × AreApart gs

abbrev pub AreBelow : (count : ℕ) → List Given → Type 0
AreBelow n [] = Unit {0}
AreBelow n (g ∷ gs) = (g.name < n) × AreBelow n gs

-- what is true of names that are among some
total_same_on : (f g : ℕ → ℕ) (ys : List ℕ) → ((y : ℕ) → among y ys ≡ true → f y ≡ g y) → total f ys ≡ total g ys
total_same_on f g [] h = refl
total_same_on f g (y ∷ ys) h =
    let here : f y ≡ g y = h y (or_left (y == y) (among y ys) (eq-eqb y y refl)) in
    let rest : total f ys ≡ total g ys = total_same_on f g ys (λ z e. h z (or_right (y == z) (among z ys) e)) in omega arith

-- a name of a place was given
named_there : (p y n : ℕ) (gs : List Given) → AreBelow n gs → among y (names_at p gs) ≡ true → y < n
named_there p y n [] b e = cc
named_there p y n (g ∷ gs) b e =
    elim (cases_Bool (g.place == p)) [
      | inl here ↦
          let f : ((g.name == y) || among y (names_at p gs)) ≡ true = rw here at e in
          elim (or_cases (g.name == y) (among y (names_at p gs)) f) [
            | inl same ↦ let s : g.name ≡ y = eqb-true g.name y same in let l : g.name < n = b.0 in omega arith
            | inr later ↦ named_there p y n gs b.1 later
          ]
      | inr other ↦ let f : among y (names_at p gs) ≡ true = rw other at e in named_there p y n gs b.1 f
    ]

given_there : (p y : ℕ) (gs : List Given) → place_given gs y ≡ None → among y (names_at p gs) ≡ true → ⊥
given_there p y [] g e = cc
given_there p y (g ∷ gs) n e =
    elim (cases_Bool (g.name == y)) [
      | inl same ↦ let f : Some g.place ≡ None = rw same at n in cc
      | inr other ↦
          let m : place_given gs y ≡ None = rw other at n in
          elim (cases_Bool (g.place == p)) [
            | inl here ↦ let f : ((g.name == y) || among y (names_at p gs)) ≡ true = rw here at e in let h : among y (names_at p gs) ≡ true = rw other at f in given_there p y gs m h
            | inr there ↦ let h : among y (names_at p gs) ≡ true = rw there at e in given_there p y gs m h
          ]
    ]

-- how often a name is among those of a place
place_counted : (p z : ℕ) (gs : List Given) → AreApart gs → count_if (λ y. y == z) (names_at p gs) ≡ bit (is_place p (place_given gs z))
place_counted p z [] a = refl
place_counted p z (g ∷ gs) a =
    let rest : count_if (λ y. y == z) (names_at p gs) ≡ bit (is_place p (place_given gs z)) = place_counted p z gs a.1 in
    elim (cases_Bool (g.name == z)) [
      | inl same ↦
          let gone : place_given gs z ≡ None = ap (place_given gs) (sym (eqb-true g.name z same)) ∙ a.0 in
          let none : count_if (λ y. y == z) (names_at p gs) ≡ 0 = rest ∙ ap (λ o. bit (is_place p o)) gone in
          elim (cases_Bool (g.place == p)) [
            | inl here ↦ simp (here, same) (omega arith)
            | inr other ↦ simp (other, same) none
          ]
      | inr apart ↦
          elim (cases_Bool (g.place == p)) [
            | inl here ↦ simp (here, apart) (omega arith)
            | inr other ↦ simp (other, apart) rest
          ]
    ]

-- names counted by the place that each has
having_counted : (p : ℕ) (gs : List Given) (zs : List ℕ) → AreApart gs
    → count_if (λ z. is_place p (place_given gs z)) zs ≡ total (λ y. count_if (λ z. y == z) zs) (names_at p gs)
having_counted p gs zs a =
    count_total (λ z. is_place p (place_given gs z)) zs
    ∙ (sym (total_same (λ z. count_if (λ y. y == z) (names_at p gs)) (λ z. bit (is_place p (place_given gs z))) zs (λ z. place_counted p z gs a))
    ∙ count_swap (λ z y. y == z) zs (names_at p gs))

-- where nothing is counted, nothing passes
none_counted : (f : ℕ → ℕ) (test : ℕ → Bool) (ys : List ℕ) → ((y : ℕ) → (f y == 0) ≡ not (test y)) → (total f ys == 0) ≡ not (some_of test ys)
none_counted f test [] h = refl
none_counted f test (y ∷ ys) h = at_first (f y) (total f ys) (test y) (some_of test ys) (h y) (none_counted f test ys h)
  where
    at_first : (n m : ℕ) (b c : Bool) → (n == 0) ≡ not b → (m == 0) ≡ not c → (n + m == 0) ≡ not (b || c)
    at_first zero m true c e f = cc
    at_first zero m false c e f = none_more m (not c) f
    at_first (suc n) m true c e f = let x : (suc n + m == 0) ≡ false = grind (arith, nat_tests) in x
    at_first (suc n) m false c e f = let x : (suc n == 0) ≡ false = grind (arith, nat_tests) in absurd (let y : false ≡ true = sym x ∙ e in cc)

regroup : (zs : List ℕ) → zs ++ shared_places ≡ zs ++ numbers_from 11 4 ++ numbers_from 0 11 ++ numbers_from 15 16
regroup [] = refl
regroup (z ∷ zs) = ap (λ l. z ∷ l) (regroup zs)

-- ---- a place is held

held_is : (params : ℕ) (ss : List Site) (x : ℕ) (gs : List Given) (p : ℕ) → held params ss x gs p ≡ some_of (λ y. clash params ss y x) (names_at p gs)
held_is params ss x [] p = refl
held_is params ss x (g ∷ gs) p =
    elim (cases_Bool (g.place == p)) [
      | inl here ↦ rw here (ap (λ b. clash params ss g.name x || b) (held_is params ss x gs p))
      | inr other ↦ rw other (held_is params ss x gs p)
    ]

clash_parts : (params : ℕ) (ss : List Site) (x : ℕ) (ys : List ℕ)
    → some_of (λ y. clash params ss y x) ys ≡ ((nat_lt x params && some_of (λ y. nat_lt y params) ys) || some_of (λ y. some_of (clash_at x y) ss) ys)
clash_parts params ss x [] = none (nat_lt x params)
  where
    none : (b : Bool) → false ≡ ((b && false) || false)
    none true = refl
    none false = refl
clash_parts params ss x (y ∷ ys) =
    ap (λ b. clash params ss y x || b) (clash_parts params ss x ys)
    ∙ (ap (λ b. ((nat_lt y params && nat_lt x params) || b) || ((nat_lt x params && some_of (λ y. nat_lt y params) ys) || some_of (λ y. some_of (clash_at x y) ss) ys))
    (some_swaps y x ss)
    ∙ turned (nat_lt y params) (nat_lt x params) (some_of (clash_at x y) ss) (some_of (λ y. nat_lt y params) ys) (some_of (λ y. some_of (clash_at x y) ss) ys))
  where
    turned : (a b c d e : Bool) → (((a && b) || c) || ((b && d) || e)) ≡ ((b && (a || d)) || (c || e))
    turned true true c d e = refl
    turned true false true d e = refl
    turned true false false d e = refl
    turned false true true true e = refl
    turned false true true false e = refl
    turned false true false d e = refl
    turned false false true d e = refl
    turned false false false d e = refl

module _ (ls : List Line) (ms : List Mark) (F : Facts) (params : ℕ) (same : length ls ≡ length ms) (usable : AreUsable F) (facts : AreFacts ls F) (walk : IsWalkOf ls ms F.walk) (lines : line_number F ≡ length ls) (param : F.params ≡ params) (depths : length ls ≡ length F.walk.depths.items) (copies : length ls ≡ length F.walk.copies.items) where
  abbrev ss : List Site
  ss = sites_at ls ms

  meets_one : (x y : ℕ) → x < name_number F → y < name_number F → x ≢ y
      → total (λ i. count_if (has i) (segments_of F y)) (writes_of F x) + total (λ s. count_if (λ i. has i s) (writes_of F y)) (segments_of F x)
      ≡ over (copy_at x y) ls ms + over (clash_line x y) ls ms
  meets_one x y a b ne =
      ap (λ ws. total (λ i. count_if (has i) (segments_of F y)) ws + total (λ s. count_if (λ i. has i s) (writes_of F y)) (segments_of F x)) (facts.writes x a)
      ∙ (ap (λ ws. total (λ i. count_if (has i) (segments_of F y)) (positions (does_write x) 0 ls) + total (λ s. count_if (λ i. has i s) ws) (segments_of F x)) (facts.writes y b)
      ∙ (meet_total ls ms same x y (segments_of F x) (segments_of F y) (walk.need x a) (walk.need y b) ∙ met_is x y ne ls ms))

  copies_one : (x y : ℕ) → x < name_number F → count_if (λ z. y == z) (copied_of F x) ≡ over (copy_at x y) ls ms
  copies_one x y a = ap (count_if (λ z. y == z)) (facts.copied x a) ∙ copies_total x y ls ms F.walk.copies.items same copies walk.copies

  met_all : (x : ℕ) (ys : List ℕ) → x < name_number F → ((y : ℕ) → among y ys ≡ true → (y < name_number F) × (x ≢ y))
      → met F x ys ≡ total (λ y. count_if (λ z. y == z) (copied_of F x)) ys + total (λ y. over (clash_line x y) ls ms) ys
  met_all x ys a h =
      let M : ℕ → ℕ = λ y. total (λ i. count_if (has i) (segments_of F y)) (writes_of F x) in
      let N : ℕ → ℕ = λ y. total (λ s. count_if (λ i. has i s) (writes_of F y)) (segments_of F x) in
      let C : ℕ → ℕ = λ y. count_if (λ z. y == z) (copied_of F x) in
      let K : ℕ → ℕ = λ y. over (clash_line x y) ls ms in
      let first : total (λ i. total (λ y. count_if (has i) (segments_of F y)) ys) (writes_of F x) ≡ total M ys =
      total_swap (λ i y. count_if (has i) (segments_of F y)) (writes_of F x) ys in
      let second : total (λ s. total (λ y. count_if (λ i. has i s) (writes_of F y)) ys) (segments_of F x) ≡ total N ys =
      total_swap (λ s y. count_if (λ i. has i s) (writes_of F y)) (segments_of F x) ys in
      let all : total (λ y. M y + N y) ys ≡ total M ys + total N ys = total_add M N ys in
      let each : total (λ y. M y + N y) ys ≡ total (λ y. C y + K y) ys =
      total_same_on (λ y. M y + N y) (λ y. C y + K y) ys
      (λ y e. meets_one x y a (h y e).0 (h y e).1 ∙ ap (λ n. n + over (clash_line x y) ls ms) (sym (copies_one x y a))) in
      let parts : total (λ y. C y + K y) ys ≡ total C ys + total K ys = total_add C K ys in
      omega arith

  fits_same : (x p : ℕ) (gs : List Given) → x < name_number F → AreApart gs → AreBelow (name_number F) gs → place_given gs x ≡ None
      → fits_given F x gs p ≡ fits params ss x gs p
  fits_same x p gs a apart below new =
      let ys : List ℕ = names_at p gs in
      let K : ℕ → ℕ = λ y. over (clash_line x y) ls ms in
      let C : ℕ → ℕ = λ y. count_if (λ z. y == z) (copied_of F x) in
      let others : (y : ℕ) → among y ys ≡ true → (y < name_number F) × (x ≢ y) =
      λ y e. (named_there p y (name_number F) gs below e, λ s. given_there p y gs (ap (place_given gs) (sym s) ∙ new) e) in
      let equal : (met F x ys == count_if (λ y. is_place p (place_given gs y)) (copied_of F x)) ≡ not (some_of (λ y. some_of (clash_at x y) ss) ys) =
      ap (λ n. met F x ys == n) (having_counted p gs (copied_of F x) apart)
      ∙ (ap (λ n. n == total C ys) (met_all x ys a others)
      ∙ (more_is_other (total C ys) (total K ys) ∙ none_counted K (λ y. some_of (clash_at x y) ss) ys (λ y. no_clash x y ls ms))) in
      let long : slice_index_or F.long.items x false ≡ is_long ss x =
      facts.long x a ∙ long_same x ls ms (segments_of F x) same (walk.need x a) (λ k d l. rw (sym lines) (usable.walk.within x a k d l)) in
      ap (λ b. not (b && is_lost p) && (not (nat_lt x F.params && some_of (λ y. nat_lt y F.params) ys) && (met F x ys == count_if (λ y. is_place p (place_given gs y)) (copied_of F x)))) long
      ∙ (ap (λ b. not (is_long ss x && is_lost p) && (not (nat_lt x F.params && some_of (λ y. nat_lt y F.params) ys) && b)) equal
      ∙ (ap (λ n. not (is_long ss x && is_lost p) && (not (nat_lt x n && some_of (λ y. nat_lt y n) ys) && not (some_of (λ y. some_of (clash_at x y) ss) ys))) param
      ∙ (ap (λ b. not (is_long ss x && is_lost p) && b) (neither (nat_lt x params && some_of (λ y. nat_lt y params) ys) (some_of (λ y. some_of (clash_at x y) ss) ys)
      ∙ ap not (sym (held_is params ss x gs p ∙ clash_parts params ss x ys))))))
    where
      neither : (a b : Bool) → (not a && not b) ≡ not (a || b)
      neither true b = refl
      neither false b = refl

  -- ---- the place chosen

  first_same : (s t : ℕ → Bool) (ps : List ℕ) (n : ℕ) → ((p : ℕ) → s p ≡ t p) → first_of s ps n ≡ first_of t ps n
  first_same s t [] n h = refl
  first_same s t (p ∷ ps) n h = rw (h p) (ap (λ z. if t p then p else z) (first_same s t ps n h))

  places_same : (gs : List Given) (y : ℕ) → AreApart gs → as_list (place_given gs y) ≡ places_of gs y
  places_same [] y a = refl
  places_same (g ∷ gs) y a =
      elim (cases_Bool (g.name == y)) [
        | inl same ↦
            let gone : place_given gs y ≡ None = ap (place_given gs) (sym (eqb-true g.name y same)) ∙ a.0 in
            rw same (ap (λ z. g.place ∷ z) (sym (ap as_list gone) ∙ places_same gs y a.1))
        | inr other ↦ rw other (places_same gs y a.1)
      ]

  candidates_same : (x : ℕ) (gs : List Given) → x < name_number F → AreApart gs → candidates_given F x gs ≡ candidates ss x gs
  candidates_same x gs a apart =
      ap (λ z. filter (λ p. nat_lt p 31) z ++ shared_places)
      (ap (flat_map (λ y. as_list (place_given gs y))) (facts.partners x a ∙ partners_same x ls ms F.walk.depths.items same depths walk.depths)
      ∙ flat_same (λ y. as_list (place_given gs y)) (places_of gs) (partners ss x) (λ y. places_same gs y apart))
      ∙ regroup (filter (λ p. nat_lt p 31) (flat_map (places_of gs) (partners ss x)))

  chosen_same : (x : ℕ) (gs : List Given) → x < name_number F → AreApart gs → AreBelow (name_number F) gs → place_given gs x ≡ None
      → chosen F x gs ≡ place_for params ss x gs
  chosen_same x gs a apart below new =
      ap (λ ps. first_of (fits_given F x gs) ps (next_place gs)) (candidates_same x gs a apart)
      ∙ first_same (fits_given F x gs) (fits params ss x gs) (candidates ss x gs) (next_place gs) (λ p. fits_same x p gs a apart below new)

  abbrev AreNew : List ℕ → List Given → Type 0
  AreNew xs gs = (x : ℕ) → among x xs ≡ true → (place_given gs x ≡ None) × (x < name_number F)

  pub given_same : (xs : List ℕ) (gs : List Given) → AreDistinct xs → AreNew xs gs → AreApart gs → AreBelow (name_number F) gs
      → given_by F xs gs ≡ given params ss xs gs
  given_same [] gs d n a b = refl
  given_same (x ∷ xs) gs d n a b =
      let new = n x (or_left (x == x) (among x xs) (eq-eqb x x refl)) in
      let p : chosen F x gs ≡ place_for params ss x gs = chosen_same x gs new.1 a b new.0 in
      let next : List Given = record { name = x; place = chosen F x gs } ∷ gs in
      given_same xs next d.1 (λ y e. (later x y xs gs d.0 e (n y (or_right (x == y) (among y xs) e)).0, (n y (or_right (x == y) (among y xs) e)).1)) (new.0, a) (new.1, b)
      ∙ ap (λ q. given params ss xs (record { name = x; place = q } ∷ gs)) p
    where
      later : (x y : ℕ) (xs : List ℕ) (gs : List Given) → among x xs ≡ false → among y xs ≡ true → place_given gs y ≡ None
          → place_given (record { name = x; place = chosen F x gs } ∷ gs) y ≡ None
      later x y xs gs d e n =
          elim (cases_Bool (x == y)) [
            | inl same ↦ let f : among x xs ≡ true = ap (λ z. among z xs) (eqb-true x y same) ∙ e in absurd (let g : true ≡ false = sym f ∙ d in cc)
            | inr other ↦ rw other n
          ]

-- ---- one name after the other

given_append : (F : Facts) (xs ys : List ℕ) (gs : List Given) → given_by F (xs ++ ys) gs ≡ given_by F ys (given_by F xs gs)
given_append F [] ys gs = refl
given_append F (x ∷ xs) ys gs = given_append F xs ys (record { name = x; place = chosen F x gs } ∷ gs)

abbrev next_given : Facts → ℕ → List Given → List Given
next_given F x gs = record { name = x; place = chosen F x gs } ∷ gs

pub given_more : (F : Facts) (xs : List ℕ) (k x : ℕ) (gs : List Given) → k < length xs → x ≡ get_or xs k 0
    → given_by F (take (k + 1) xs) gs ≡ record { name = x; place = chosen F x (given_by F (take k xs) gs) } ∷ given_by F (take k xs) gs
given_more F xs k x gs h e =
    ap (λ z. given_by F z gs) (take_more xs k 0 h)
    ∙ (given_append F (take k xs) (get_or xs k 0 ∷ []) gs
    ∙ ap (λ y. next_given F y (given_by F (take k xs) gs)) (sym e))
