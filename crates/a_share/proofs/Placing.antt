-- What is counted of places, and what is given.
use Rattle.std.proofs.Common.{◌≡◌, ◌≢◌, ◌+◌, ◌<◌, ◌≤◌, ℕ, zero, suc, Bool, true, false, not, ◌&&◌, if◌then◌else◌, List, [], ◌∷◌, ◌++◌, length, map, filter, flat_map, get_or, set, replicate, max, refl, sym, ap, ◌∙◌, subst, inl, inr, arith, eqb-true, eq-eqb, Some, None, Option}
use Rattle.std.specs.Prelude.{◌==◌, ◌||◌, nat_lt, nat_le, slice_get, slice_index_or, unwrap_or}
use Rattle.std.specs.List.{All}
use Rattle.std.proofs.lemmas.Bool.{cases_Bool, cases_lt, and_parts, lt-ltb, le-ltb, ltb-true, eqb-false}
use Rattle.std.proofs.lemmas.Bool.Decides.{nat_tests}
use Rattle.std.proofs.lemmas.List.{get_or-set_same, get_or-set_other, get_or_past, get_or-map, length-map, set_past, ext_get_or}
use Rattle.std.proofs.lemmas.Option.{slice_get_cases}
use Rattle.g_graph.specs.WellFormed.{some_of, all_of}
use Rattle.val_core.specs.Numbers.{numbers_from}
use Rattle.val_core.proofs.lemmas.Numbers.{length_numbers}
use Rattle.a_place.specs.Places.{Given, place_in}
use Rattle.a_place.specs.Share.{is_lost, first_of, next_place, count_of, counted_for}
use Rattle.a_share.specs.Walk.{count_if, has}
use Rattle.a_share.specs.Sums.{is_in}
use Rattle.a_share.specs.Counts.{between}
use Rattle.a_share.specs.Sound.{IsWithin}
use Rattle.a_share.specs.Held.{total, IsHeld, AddsTo, needed_after, written_in, meetings}
use Rattle.a_share.specs.Facts.{segments_of, writes_of, partners_of, copied_of, line_number, name_number, AreUsable}
use Rattle.a_share.specs.Giving.{IsReady, place_at, is_place, as_list, having, fits_where, fits_at, shared_places, candidates_at, place_given, names_at, met, fits_given, candidates_given, chosen, Holds, IsGiving}
use Rattle.a_share.specs.declared.facts.Facts.{Facts}
use Rattle.a_share.specs.declared.held.Held.{Held}
use Rattle.a_share.specs.declared.giving.Giving.{Giving}
use Rattle.a_share.specs.declared.walk.Segment.{Segment}
use Rattle.a_place.proofs.lemmas.Order.{get_numbers}
use Rattle.a_share.proofs.Totals.{total_add, total_same, count_same}

-- ---- what holds of all

all_first : {X : Type 0} (P : X → Type 0) (x : X) (xs : List X) → All P (x ∷ xs) → P x
all_first P x xs a = a 0 x (omega arith)

all_rest : {X : Type 0} (P : X → Type 0) (x : X) (xs : List X) → All P (x ∷ xs) → All P xs
all_rest P x xs a k d h = a (suc k) d (omega arith)

total_on : {X : Type 0} (P : X → Type 0) (f g : X → ℕ) (xs : List X) → All P xs → ((x : X) → P x → f x ≡ g x) → total f xs ≡ total g xs
total_on P f g [] a h = refl
total_on P f g (x ∷ xs) a h =
    let here : f x ≡ g x = h x (all_first P x xs a) in
    let rest : total f xs ≡ total g xs = total_on P f g xs (all_rest P x xs a) h in omega arith

count_on : {X : Type 0} (P : X → Type 0) (s t : X → Bool) (xs : List X) → All P xs → ((x : X) → P x → s x ≡ t x) → count_if s xs ≡ count_if t xs
count_on P s t [] a h = refl
count_on P s t (x ∷ xs) a h =
    let rest : count_if s xs ≡ count_if t xs = count_on P s t xs (all_rest P x xs a) h in
    rw (h x (all_first P x xs a)) (omega arith)

flat_on : {X Y : Type 0} (P : X → Type 0) (F G : X → List Y) (xs : List X) → All P xs → ((x : X) → P x → F x ≡ G x) → flat_map F xs ≡ flat_map G xs
flat_on P F G [] a h = refl
flat_on P F G (x ∷ xs) a h = ap (λ z. z ++ flat_map F xs) (h x (all_first P x xs a)) ∙ ap (λ z. G x ++ z) (flat_on P F G xs (all_rest P x xs a) h)

-- ---- segments at a position

-- of a segment: it begins by a position where it has it or ends before it
begun_by : (i first last : ℕ) → first ≤ last
    → (if is_in 0 (i + 1) first then 1 else 0) ≡ (if nat_le first i && nat_le i last then 1 else 0) + (if is_in 0 i last then 1 else 0)
begun_by i first last h =
    let z : nat_le 0 first ≡ true = grind (arith, nat_tests) in
    let y : nat_le 0 last ≡ true = grind (arith, nat_tests) in
    elim (cases_lt i first) [
      | inl later ↦
          let a : nat_lt first (i + 1) ≡ false = grind (arith, nat_tests) in
          let b : nat_le first i ≡ false = grind (arith, nat_tests) in
          let c : nat_lt last i ≡ false = grind (arith, nat_tests) in
          simp (z, y, a, b, c)
      | inr begun ↦
          let a : nat_lt first (i + 1) ≡ true = grind (arith, nat_tests) in
          let b : nat_le first i ≡ true = grind (arith, nat_tests) in
          elim (cases_lt last i) [
            | inl ended ↦
                let c : nat_lt last i ≡ true = grind (arith, nat_tests) in
                let d : nat_le i last ≡ false = grind (arith, nat_tests) in
                simp (z, y, a, b, c, d)
            | inr on ↦
                let c : nat_lt last i ≡ false = grind (arith, nat_tests) in
                let d : nat_le i last ≡ true = grind (arith, nat_tests) in
                simp (z, y, a, b, c, d)
          ]
    ]

begun_all : (i n : ℕ) (ss : List Segment) → All (IsWithin n) ss
    → count_if (λ s. is_in 0 (i + 1) s.first) ss ≡ count_if (has i) ss + count_if (λ s. is_in 0 i s.last) ss
begun_all i n [] a = refl
begun_all i n (s ∷ ss) a =
    let within : IsWithin n s = all_first (IsWithin n) s ss a in
    let here : (if is_in 0 (i + 1) s.first then 1 else 0) ≡ (if nat_le s.first i && nat_le i s.last then 1 else 0) + (if is_in 0 i s.last then 1 else 0) =
    begun_by i s.first s.last within.ordered in
    let rest : count_if (λ s. is_in 0 (i + 1) s.first) ss ≡ count_if (has i) ss + count_if (λ s. is_in 0 i s.last) ss = begun_all i n ss (all_rest (IsWithin n) s ss a) in
    omega arith

in_segment : (s : Segment) (i : ℕ) → is_in s.first (s.last + 1) i ≡ has i s
in_segment s i =
    let e : nat_lt i (s.last + 1) ≡ nat_le i s.last = less_or_same i s.last in ap (λ b. nat_le s.first i && b) e
  where
    less_or_same : (i n : ℕ) → nat_lt i (n + 1) ≡ nat_le i n
    less_or_same i n =
        elim (cases_lt n i) [
          | inl less ↦ let a : nat_lt i (n + 1) ≡ false = grind (arith, nat_tests) in let b : nat_le i n ≡ false = grind (arith, nat_tests) in a ∙ sym b
          | inr more ↦ let a : nat_lt i (n + 1) ≡ true = grind (arith, nat_tests) in let b : nat_le i n ≡ true = grind (arith, nat_tests) in a ∙ sym b
        ]

module _ (F : Facts) (usable : AreUsable F) where
  -- names from the count on have no segments
  within : (y : ℕ) → All (IsWithin (line_number F)) (segments_of F y)
  within y =
      elim (cases_lt y (name_number F)) [
        | inl less ↦ usable.walk.within y less
        | inr past ↦
            let none : segments_of F y ≡ [] =
            get_or_past (map (λ v. v.items) F.walk.segments.items) y [] (rw length-map (omega (arith, F.walk.segments.ok.0))) in
            λ k d h. absurd (let e : length (segments_of F y) ≡ 0 = ap length none in omega arith)
      ]

  needed_total : (h : Held) (ys : List ℕ) (i : ℕ) → i < line_number F → Holds F ys h → needed_after h i ≡ total (λ y. count_if (has i) (segments_of F y)) ys
  needed_total h ys i l c =
      let A : ℕ → ℕ = λ y. count_if (λ s. is_in 0 (i + 1) s.first) (segments_of F y) in
      let B : ℕ → ℕ = λ y. count_if (λ s. is_in 0 i s.last) (segments_of F y) in
      let C : ℕ → ℕ = λ y. count_if (has i) (segments_of F y) in
      let a : between h.firsts 0 (i + 1) ≡ total A ys = c.firsts 0 (i + 1) (omega arith) (omega arith) in
      let b : between h.lasts 0 i ≡ total B ys = c.lasts 0 i (omega arith) (omega arith) in
      let s : total A ys ≡ total (λ y. C y + B y) ys = total_same A (λ y. C y + B y) ys (λ y. begun_all i (line_number F) (segments_of F y) (within y)) in
      let t : total (λ y. C y + B y) ys ≡ total C ys + total B ys = total_add C B ys in
      omega arith

  written_total : (h : Held) (ys : List ℕ) (s : Segment) → IsWithin (line_number F) s → Holds F ys h → written_in h s ≡ total (λ y. count_if (λ i. has i s) (writes_of F y)) ys
  written_total h ys s w c =
      let low : s.first ≤ s.last = w.ordered in
      let high : s.last < line_number F = w.inside in
      c.writes s.first (s.last + 1) (omega arith) (omega arith)
      ∙ total_same (λ y. count_if (is_in s.first (s.last + 1)) (writes_of F y)) (λ y. count_if (λ i. has i s) (writes_of F y)) ys
      (λ y. count_same (is_in s.first (s.last + 1)) (λ i. has i s) (writes_of F y) (in_segment s))

  meetings_total : (x : ℕ) (h : Held) (ys : List ℕ) → x < name_number F → Holds F ys h → meetings h (segments_of F x) (writes_of F x) ≡ met F x ys
  meetings_total x h ys l c =
      let a = total_on (λ i. i < line_number F) (needed_after h) (λ i. total (λ y. count_if (has i) (segments_of F y)) ys) (writes_of F x) (usable.writes x l)
      (λ i k. needed_total h ys i k c) in
      let b = total_on (IsWithin (line_number F)) (written_in h) (λ s. total (λ y. count_if (λ i. has i s) (writes_of F y)) ys) (segments_of F x) (within x)
      (λ s k. written_total h ys s k c) in
      ap (λ n. n + total (written_in h) (segments_of F x)) a ∙ ap (λ n. total (λ i. total (λ y. count_if (has i) (segments_of F y)) ys) (writes_of F x) + n) b

  module _ (g : Giving) (gs : List Given) (ready : IsReady F g) (giving : IsGiving F gs g) (x : ℕ) (name : x < name_number F) where
    fits_by : (p : ℕ) (it : Held) → slice_get g.held.items p ≡ Some it → Holds F (names_at p gs) it → fits_at F x g p ≡ fits_given F x gs p
    fits_by p it there holds =
        let ys : List ℕ = names_at p gs in
        let copies : having g p (copied_of F x) ≡ count_if (λ y. is_place p (place_given gs y)) (copied_of F x) =
        count_on (λ y. y < name_number F) (λ y. is_place p (place_at g y)) (λ y. is_place p (place_given gs y)) (copied_of F x) (usable.copied x name)
        (λ y l. ap (is_place p) (giving.of y l)) in
        ap (fits_where F x g p) there
        ∙ (ap (λ b. not (slice_index_or F.long.items x false && is_lost p) && (not (nat_lt x F.params && b) && (meetings it (segments_of F x) (writes_of F x) == having g p (copied_of F x)))) holds.param
        ∙ (ap (λ n. not (slice_index_or F.long.items x false && is_lost p) && (not (nat_lt x F.params && some_of (λ y. nat_lt y F.params) ys) && (n == having g p (copied_of F x)))) (meetings_total x it ys name holds)
        ∙ ap (λ n. not (slice_index_or F.long.items x false && is_lost p) && (not (nat_lt x F.params && some_of (λ y. nat_lt y F.params) ys) && (met F x ys == n))) copies))

    fits_found : (p : ℕ) → p < 31 → fits_at F x g p ≡ fits_given F x gs p
    fits_found p h =
        elim (slice_get_cases g.held.items p).1 [
          | inl some ↦ fits_by p some.0 some.2 (subst (Holds F (names_at p gs)) some.3 (giving.held p some.0 h))
          | inr past ↦ let l : length g.held.items ≤ p = past.0 in absurd (omega (arith, ready.held, g.held.ok.0))
        ]

    candidates_found : candidates_at F x g ≡ candidates_given F x gs
    candidates_found =
        ap (λ z. filter (λ p. nat_lt p 31) z ++ shared_places)
        (flat_on (λ y. y < name_number F) (λ y. as_list (place_at g y)) (λ y. as_list (place_given gs y)) (partners_of F x) (usable.partners x name) (λ y l. ap as_list (giving.of y l)))

-- ---- the first that fits

first_on : (s t : ℕ → Bool) (ps : List ℕ) (n : ℕ) → all_of (λ p. nat_lt p 31) ps ≡ true → ((p : ℕ) → p < 31 → s p ≡ t p) → first_of s ps n ≡ first_of t ps n
first_on s t [] n a h = refl
first_on s t (p ∷ ps) n a h =
    let parts = and_parts (nat_lt p 31) (all_of (λ p. nat_lt p 31) ps) a in
    rw (h p (ltb-true p 31 parts.0)) (ap (λ z. if t p then p else z) (first_on s t ps n parts.1 h))

all_shared : (zs : List ℕ) → all_of (λ p. nat_lt p 31) (filter (λ p. nat_lt p 31) zs ++ shared_places) ≡ true
all_shared [] = refl
all_shared (z ∷ zs) =
    elim (cases_Bool (nat_lt z 31)) [
      | inl below ↦ rw below (rw below (all_shared zs))
      | inr past ↦ rw past (all_shared zs)
    ]

pub chosen_found : (F : Facts) (usable : AreUsable F) (g : Giving) (gs : List Given) → IsReady F g → IsGiving F gs g → (x : ℕ) → x < name_number F
    → first_of (fits_at F x g) (candidates_at F x g) g.next ≡ chosen F x gs
chosen_found F usable g gs ready giving x name =
    first_on (fits_at F x g) (fits_given F x gs) (candidates_at F x g) g.next (all_shared (flat_map (λ y. as_list (place_at g y)) (partners_of F x)))
    (λ p h. fits_found F usable g gs ready giving x name p h)
    ∙ (ap (λ ps. first_of (fits_given F x gs) ps g.next) (candidates_found F usable g gs ready giving x name)
    ∙ ap (first_of (fits_given F x gs) (candidates_given F x gs)) giving.next)

-- ---- a name has its place

pub holds_more : (F : Facts) (x : ℕ) (ys : List ℕ) (old new : Held) → Holds F ys old
    → AddsTo (line_number F) (segments_of F x) (writes_of F x) (nat_lt x F.params) old new → Holds F (x ∷ ys) new
holds_more F x ys old new h a = record {
  firsts = λ l r p q. let w : between old.firsts l r ≡ total (λ y. count_if (λ s. is_in l r s.first) (segments_of F y)) ys = h.firsts l r p q in
      let m : between new.firsts l r ≡ count_if (λ s. is_in l r s.first) (segments_of F x) + between old.firsts l r = a.firsts l r p q in omega arith;
  lasts = λ l r p q. let w : between old.lasts l r ≡ total (λ y. count_if (λ s. is_in l r s.last) (segments_of F y)) ys = h.lasts l r p q in
      let m : between new.lasts l r ≡ count_if (λ s. is_in l r s.last) (segments_of F x) + between old.lasts l r = a.lasts l r p q in omega arith;
  writes = λ l r p q. let w : between old.writes l r ≡ total (λ y. count_if (is_in l r) (writes_of F y)) ys = h.writes l r p q in
      let m : between new.writes l r ≡ count_if (is_in l r) (writes_of F x) + between old.writes l r = a.writes l r p q in omega arith;
  param = a.param ∙ (ap (λ b. b || nat_lt x F.params) h.param ∙ turned (some_of (λ y. nat_lt y F.params) ys) (nat_lt x F.params));
}
  where
    turned : (a b : Bool) → (a || b) ≡ (b || a)
    turned true true = refl
    turned true false = refl
    turned false true = refl
    turned false false = refl

pub of_more : (F : Facts) (g : Giving) (gs : List Given) (os : List (Option ℕ)) (x p : ℕ) → length g.of.items ≡ name_number F → x < name_number F → IsGiving F gs g
    → os ≡ set g.of.items x (Some p) → (y : ℕ) → y < name_number F → get_or os y None ≡ place_given (record { name = x; place = p } ∷ gs) y
of_more F g gs os x p n l i e y h =
    let now : get_or (set g.of.items x (Some p)) y None ≡ place_given (record { name = x; place = p } ∷ gs) y =
    elim (cases_Bool (x == y)) [
      | inl same ↦
          let s : x ≡ y = eqb-true x y same in
          rw same (rw (sym s) (get_or-set_same g.of.items x (Some p) None (omega arith)))
      | inr other ↦
          let apart : y ≢ x = (λ s. absurd (let t : (x == y) ≡ true = eq-eqb x y (sym s) in let f : true ≡ false = sym t ∙ other in cc)) in
          rw other (get_or-set_other g.of.items x y (Some p) None apart ∙ i.of y h)
    ] in
    ap (λ z. get_or z y None) e ∙ now

next_is_word : (gs : List Given) → 31 ≤ next_place gs
next_is_word [] = omega arith
next_is_word (g ∷ gs) = let h : 31 ≤ next_place gs = next_is_word gs in omega arith

-- the place was below 31, or is the next place
pub next_kept : (x p : ℕ) (gs : List Given) → p < 31 → next_place gs ≡ next_place (record { name = x; place = p } ∷ gs)
next_kept x p gs h = let w : 31 ≤ next_place gs = next_is_word gs in omega arith

first_or_next : (s : ℕ → Bool) (ps : List ℕ) (n : ℕ) → all_of (λ p. nat_lt p 31) ps ≡ true → 31 ≤ first_of s ps n → first_of s ps n ≡ n
first_or_next s [] n a h = refl
first_or_next s (p ∷ ps) n a h =
    let parts = and_parts (nat_lt p 31) (all_of (λ p. nat_lt p 31) ps) a in
    let below : p < 31 = ltb-true p 31 parts.0 in
    elim (cases_Bool (s p)) [
      | inl passes ↦ let f : 31 ≤ p = rw passes at h in absurd (omega arith)
      | inr fails ↦ let f : 31 ≤ first_of s ps n = rw fails at h in rw fails (first_or_next s ps n parts.1 f)
    ]

pub next_more : (F : Facts) (x : ℕ) (gs : List Given) → 31 ≤ chosen F x gs → suc (chosen F x gs) ≡ next_place (record { name = x; place = chosen F x gs } ∷ gs)
next_more F x gs h =
    let e : chosen F x gs ≡ next_place gs = first_or_next (fits_given F x gs) (candidates_given F x gs) (next_place gs) (all_shared (flat_map (λ y. as_list (place_given gs y)) (partners_of F x))) h in
    omega arith

-- the names of a place below 31, where x has p
pub names_here : (x p q : ℕ) (gs : List Given) → p ≡ q → names_at q (record { name = x; place = p } ∷ gs) ≡ x ∷ names_at q gs
names_here x p q gs e = let t : (p == q) ≡ true = eq-eqb p q e in rw t refl

pub names_there : (x p q : ℕ) (gs : List Given) → p ≢ q → names_at q (record { name = x; place = p } ∷ gs) ≡ names_at q gs
names_there x p q gs e = let t : (p == q) ≡ false = grind (arith, nat_tests) in rw t refl

-- ---- places that were tried

abbrev pub AreTried : (test : ℕ → Bool) → List Bool → Type 0
AreTried test tried = (q : ℕ) → get_or tried q false ≡ true → test q ≡ false

pub none_tried : (test : ℕ → Bool) (n : ℕ) → AreTried test (replicate n false)
none_tried test zero q e = cc
none_tried test (suc n) zero e = cc
none_tried test (suc n) (suc q) e = none_tried (λ k. test (suc k)) n q e

-- what a trial that fails says
pub tried_more : (test : ℕ → Bool) (old new : List Bool) (p : ℕ) (r : Bool) → length old ≡ 31 → new ≡ set old p true → r ≡ (nat_lt p 31 && (not (get_or old p false) && test p)) → r ≡ false
    → AreTried test old → AreTried test new × (nat_lt p 31 ≡ true → test p ≡ false)
tried_more test old new p r l e f g t =
    elim (cases_lt p 31) [
      | inl below ↦
          let lt : nat_lt p 31 ≡ true = lt-ltb p 31 below in
          let h : (not (get_or old p false) && test p) ≡ false = sym (ap (λ b. b && (not (get_or old p false) && test p)) lt) ∙ (sym f ∙ g) in
          let fails : test p ≡ false = failing (get_or old p false) (test p) (t p) h in (
            (λ q s.
                elim (cases_Bool (p == q)) [
                  | inl same ↦ ap test (sym (eqb-true p q same)) ∙ fails
                  | inr other ↦
                      let apart : q ≢ p = (λ u. absurd (let v : (p == q) ≡ true = eq-eqb p q (sym u) in let w : true ≡ false = sym v ∙ other in cc)) in
                      t q (sym (get_or-set_other old p q true false apart) ∙ (ap (λ z. get_or z q false) (sym e) ∙ s))
                ]),
            λ u. fails,
          )
      | inr past ↦
          let no : nat_lt p 31 ≡ false = le-ltb p 31 past in
          let same : new ≡ old = e ∙ set_past old p true (omega arith) in
          ((λ q s. t q (ap (λ z. get_or z q false) (sym same) ∙ s)), λ u. absurd (let w : true ≡ false = sym u ∙ no in cc))
    ]
  where
    failing : (a b : Bool) → (a ≡ true → b ≡ false) → (not a && b) ≡ false → b ≡ false
    failing true b h e = h refl
    failing false b h e = e

pub trial_passes : (a b c : Bool) → true ≡ (a && (not b && c)) → (a ≡ true) × (c ≡ true)
trial_passes true true c e = cc
trial_passes true false c e = (refl, sym e)
trial_passes false b c e = cc

-- ---- what is known of a place

pub segments_within : (F : Facts) (x n : ℕ) (segs : List Segment) → AreUsable F → x < name_number F → n ≡ line_number F → segs ≡ segments_of F x → All (IsWithin n) segs
segments_within F x n segs u l e s = subst (All (IsWithin n)) (sym s) (subst (λ m. All (IsWithin m) (segments_of F x)) (sym e) (u.walk.within x l))

pub fits_made : (F : Facts) (x : ℕ) (g : Giving) (p : ℕ) (h : Held) (segs : List Segment) (ws : List ℕ) (n : ℕ) → slice_get g.held.items p ≡ Some h
    → (slice_index_or F.long.items x false && is_lost p) ≡ false → (nat_lt x F.params && h.has_param) ≡ false → segs ≡ segments_of F x → ws ≡ writes_of F x
    → n ≡ having g p (copied_of F x) → (meetings h segs ws == n) ≡ fits_at F x g p
fits_made F x g p h segs ws n at kept apart s w c =
    ap (λ z. meetings h z ws == n) s
    ∙ (ap (λ z. meetings h (segments_of F x) z == n) w
    ∙ (ap (λ z. meetings h (segments_of F x) (writes_of F x) == z) c
    ∙ sym (ap (fits_where F x g p) at
    ∙ (ap (λ b. not b && (not (nat_lt x F.params && h.has_param) && (meetings h (segments_of F x) (writes_of F x) == having g p (copied_of F x)))) kept
    ∙ ap (λ b. not b && (meetings h (segments_of F x) (writes_of F x) == having g p (copied_of F x))) apart))))

-- ---- after a name was given its place

module _ (F : Facts) (g new : Giving) (gs : List Given) (x p : ℕ) (ready : IsReady F g) (giving : IsGiving F gs g) (name : x < name_number F) (chosen_is : p ≡ chosen F x gs) (of : new.of.items ≡ set g.of.items x (Some p)) (count : new.count ≡ max g.count (counted_for p)) where
  abbrev more : List Given
  more = record { name = x; place = p } ∷ gs

  of_new : (y : ℕ) → y < name_number F → place_at new y ≡ place_given more y
  of_new = of_more F g gs new.of.items x p (omega (arith, ready.of, g.of.ok.0)) name giving of

  count_new : new.count ≡ count_of more
  count_new = count ∙ (let e : g.count ≡ count_of gs = giving.count in omega arith)

  -- a place that names share
  held_new : (h : Held) → p < 31 → new.held.items ≡ set g.held.items p h → Holds F (x ∷ names_at p gs) h
      → (q : ℕ) (d : Held) → q < 31 → Holds F (names_at q more) (get_or new.held.items q d)
  held_new h l e holds q d m =
      elim (cases_Bool (p == q)) [
        | inl same ↦
            let s : p ≡ q = eqb-true p q same in
            let it : get_or new.held.items q d ≡ h =
            ap (λ z. get_or z q d) e ∙ (ap (λ k. get_or (set g.held.items p h) k d) (sym s) ∙ get_or-set_same g.held.items p h d (omega (arith, ready.held, g.held.ok.0))) in
            let names : names_at q more ≡ x ∷ names_at p gs = names_here x p q gs s ∙ ap (λ k. x ∷ names_at k gs) (sym s) in
            subst (λ ys. Holds F ys (get_or new.held.items q d)) (sym names) (subst (Holds F (x ∷ names_at p gs)) (sym it) holds)
        | inr other ↦
            let apart : p ≢ q = eqb-false p q other in
            let it : get_or new.held.items q d ≡ get_or g.held.items q d = ap (λ z. get_or z q d) e ∙ get_or-set_other g.held.items p q h d (λ s. apart (sym s)) in
            subst (λ ys. Holds F ys (get_or new.held.items q d)) (sym (names_there x p q gs apart)) (subst (Holds F (names_at q gs)) (sym it) (giving.held q d m))
      ]

  pub given_shared : (h : Held) → p < 31 → new.held.items ≡ set g.held.items p h → Holds F (x ∷ names_at p gs) h → new.next ≡ g.next
      → IsGiving F (record { name = x; place = chosen F x gs } ∷ gs) new
  given_shared h l e holds n =
      subst (λ q. IsGiving F (record { name = x; place = q } ∷ gs) new) chosen_is
      (record { of = of_new; held = held_new h l e holds; next = n ∙ (giving.next ∙ next_kept x p gs l); count = count_new })

  -- a place of its own
  held_same : 31 ≤ p → new.held.items ≡ g.held.items → (q : ℕ) (d : Held) → q < 31 → Holds F (names_at q more) (get_or new.held.items q d)
  held_same l e q d m =
      let apart : p ≢ q = (λ s. absurd (omega arith)) in
      subst (λ ys. Holds F ys (get_or new.held.items q d)) (sym (names_there x p q gs apart))
      (subst (Holds F (names_at q gs)) (sym (ap (λ z. get_or z q d) e)) (giving.held q d m))

  pub given_alone : 31 ≤ p → new.held.items ≡ g.held.items → new.next ≡ p + 1 → IsGiving F (record { name = x; place = chosen F x gs } ∷ gs) new
  given_alone l e n =
      let more_is : suc (chosen F x gs) ≡ next_place (record { name = x; place = chosen F x gs } ∷ gs) = next_more F x gs (let c : p ≡ chosen F x gs = chosen_is in omega arith) in
      let next : new.next ≡ next_place more =
      n ∙ ((let c : p ≡ chosen F x gs = chosen_is in let s : p + 1 ≡ suc (chosen F x gs) = omega arith in s) ∙ (more_is ∙ ap (λ q. next_place (record { name = x; place = q } ∷ gs)) (sym chosen_is))) in
      subst (λ q. IsGiving F (record { name = x; place = q } ∷ gs) new) chosen_is
      (record { of = of_new; held = held_same l e; next = next; count = count_new })

-- one of the counts is another
pub ready_set : (F : Facts) (g : Giving) (hs : List Held) (p : ℕ) (h : Held) → IsReady F g → p < 31 → hs ≡ set g.held.items p h → IsHeld (line_number F) h
    → (q : ℕ) (d : Held) → q < 31 → IsHeld (line_number F) (get_or hs q d)
ready_set F g hs p h ready l e held q d m =
    elim (cases_Bool (p == q)) [
      | inl same ↦
          let s : p ≡ q = eqb-true p q same in
          let it : get_or hs q d ≡ h =
          ap (λ z. get_or z q d) e ∙ (ap (λ k. get_or (set g.held.items p h) k d) (sym s) ∙ get_or-set_same g.held.items p h d (omega (arith, ready.held, g.held.ok.0))) in
          subst (IsHeld (line_number F)) (sym it) held
      | inr other ↦
          let apart : p ≢ q = eqb-false p q other in
          let it : get_or hs q d ≡ get_or g.held.items q d = ap (λ z. get_or z q d) e ∙ get_or-set_other g.held.items p q h d (λ s. apart (sym s)) in
          subst (IsHeld (line_number F)) (sym it) (ready.each q d m)
    ]

-- ---- the places of all names

place_or_none : (gs : List Given) (x : ℕ) → unwrap_or (place_given gs x) 0 ≡ place_in gs x
place_or_none [] x = refl
place_or_none (g ∷ gs) x =
    elim (cases_Bool (g.name == x)) [
      | inl same ↦ rw same refl
      | inr other ↦ rw other (place_or_none gs x)
    ]

pub places_given : (F : Facts) (g : Giving) (gs : List Given) → IsReady F g → IsGiving F gs g
    → map (λ o. unwrap_or o 0) g.of.items ≡ map (place_in gs) (numbers_from 0 (name_number F))
places_given F g gs ready giving =
    let os : List (Option ℕ) = g.of.items in
    let size : length os ≡ name_number F = omega (arith, ready.of, g.of.ok.0) in
    ext_get_or 0 (map (λ o. unwrap_or o 0) os) (map (place_in gs) (numbers_from 0 (name_number F)))
    (length-map os (λ o. unwrap_or o 0) ∙ (size ∙ sym (length-map (numbers_from 0 (name_number F)) (place_in gs) ∙ length_numbers 0 (name_number F))))
    (λ k h.
    let inside : k < length os = rw (length-map os (λ o. unwrap_or o 0)) at h in
    let below : k < name_number F = omega arith in
    get_or-map (λ o. unwrap_or o 0) os k None 0 inside
    ∙ (ap (λ o. unwrap_or o 0) (giving.of k below)
    ∙ (place_or_none gs k ∙ sym (get_numbers (place_in gs) 0 (name_number F) k 0 below ∙ (let z : 0 + k ≡ k = omega arith in ap (place_in gs) z)))))
