-- What the walk back finds, name by name.
use Rattle.std.proofs.Common.{◌≡◌, ◌<◌, ◌≤◌, ℕ, zero, suc, ◌+◌, ◌-◌, Bool, true, false, not, cond, if◌then◌else◌, List, [], ◌∷◌, ◌++◌, length, length-append, replicate, get_or, vec_len, slice_get, Option, Some, None, refl, sym, ap, ◌∙◌, subst, inl, inr, arith}
use Rattle.std.specs.Prelude.{◌==◌, ◌%◌, nat_lt, nat_le, min, Contains, IsTrue}
use Rattle.std.specs.List.{All}
use Rattle.std.specs.List.Sorted.{IsPermutation}
use Rattle.std.proofs.lemmas.Bool.{cases_Bool, and_from}
use Rattle.std.proofs.lemmas.List.{length-replicate}
use Rattle.g_graph.specs.WellFormed.{all_of}
use Rattle.std.proofs.lemmas.Bool.Decides.{nat_tests}
use Rattle.std.proofs.lemmas.List.Recursion.{is_count_by}
use Rattle.std.proofs.lemmas.List.Sorted.{sum_by-IsPermutation}
use Rattle.s_linear.specs.Linear.{Instr, move, LinearFunction}
use Rattle.s_linear.specs.Lines.{Line, leave, done, names_below, line_names, code_lines, lines}
use Rattle.a_place.specs.Places.{among, above, name_count}
use Rattle.a_place.specs.Share.{writes}
use Rattle.a_place.specs.Marks.{Mark}
use Rattle.a_share.specs.Bounds.{differ, odd_of, bounds_of, need_at, AreBelow}
use Rattle.a_share.specs.Pairs.{segment_of, pairs, IsMadeOf}
use Rattle.a_share.specs.Sound.{IsWithin, segments_in}
use Rattle.a_share.specs.Walk.{has, count_if, AreNeedOf, AreDepthsOf, AreCopiesOf}
use Rattle.a_share.specs.Walked.{IsWalkOf}
use Rattle.a_share.specs.Walking.{IsHeldAt, AreHeld, AreFresh, AreWalked, leave_of}
use Rattle.a_share.specs.declared.needs.Needs.{Needs}
use Rattle.a_share.specs.declared.walk.Segment.{Segment}
use Rattle.a_share.specs.declared.walk.Walk.{Walk}
use Rattle.a_share.proofs.Moving.{get_within}
use Rattle.a_share.proofs.Paired.{Ascends, ascends_sorted, paired_need, paired_begun}
use Rattle.a_share.proofs.Standing.{line_or}

-- ---- the same numbers in another order

abbrev passes : (ℕ → Bool) → List ℕ → ℕ
passes test [] = 0
passes test (x ∷ xs) = cond (test x) (1 + passes test xs) (passes test xs)

passes_alike : (test : ℕ → Bool) (xs ys : List ℕ) → IsPermutation xs ys → passes test ys ≡ passes test xs
passes_alike test xs ys p =
    is_count_by (passes test) test refl (λ x zs. refl) ys ∙ sum_by-IsPermutation (λ x. cond (test x) 1 0) xs ys p ∙ sym (is_count_by (passes test) test refl (λ x zs. refl) xs)

odd_suc : (n : ℕ) → (((1 + n) % 2) == 1) ≡ not ((n % 2) == 1)
odd_suc n = grind (arith, nat_tests)

odd_passes : (test : ℕ → Bool) (xs : List ℕ) → odd_of test xs ≡ ((passes test xs % 2) == 1)
odd_passes test [] = refl
odd_passes test (x ∷ xs) = by_test (test x) (odd_passes test xs)
  where
    by_test : (b : Bool) → odd_of test xs ≡ ((passes test xs % 2) == 1) → differ b (odd_of test xs) ≡ ((cond b (1 + passes test xs) (passes test xs) % 2) == 1)
    by_test true e = ap not e ∙ sym (odd_suc (passes test xs))
    by_test false e = e

pub odd_alike : (test : ℕ → Bool) (xs ys : List ℕ) → IsPermutation xs ys → odd_of test ys ≡ odd_of test xs
odd_alike test xs ys p = odd_passes test ys ∙ ap (λ n. (n % 2) == 1) (passes_alike test xs ys p) ∙ sym (odd_passes test xs)

among_passes : (x : ℕ) (xs : List ℕ) → among x xs ≡ false → passes (λ y. y == x) xs ≡ 0
among_passes x [] h = refl
among_passes x (y ∷ xs) h =
    elim (cases_Bool (y == x)) [
      | inl same ↦ absurd (let e = rw same at h in cc)
      | inr other ↦ rw other (among_passes x xs (rw other at h))
    ]

passes_among : (x : ℕ) (xs : List ℕ) → passes (λ y. y == x) xs ≡ 0 → among x xs ≡ false
passes_among x [] h = refl
passes_among x (y ∷ xs) h =
    elim (cases_Bool (y == x)) [
      | inl same ↦ absurd (let e : 1 + passes (λ y. y == x) xs ≡ 0 = (rw same at h) in omega arith)
      | inr other ↦ rw other (passes_among x xs (rw other at h))
    ]

among_alike : (x : ℕ) (xs ys : List ℕ) → IsPermutation xs ys → among x ys ≡ false → among x xs ≡ false
among_alike x xs ys p h = passes_among x xs (sym (passes_alike (λ y. y == x) xs ys p) ∙ among_passes x ys h)

-- ---- lines by number

abbrev mark_or : Mark → Option Mark → Mark
mark_or m None = m
mark_or m (Some n) = n

pub held_index : (w : Needs) (a i : ℕ) (ls : List Line) (ms : List Mark) (l : Line) → AreHeld w a ls ms → slice_get ls i ≡ Some l
    → (m : Mark) × (slice_get ms i ≡ Some m) × IsHeldAt w (a + i) l m
held_index w a i [] ms l h e = absurd cc
held_index w a i (k ∷ ls) [] l h e = absurd h
held_index w a zero (k ∷ ls) (m ∷ ms) l h e =
    let same : k ≡ l = ap (line_or k) e in
    (m, refl, subst (λ z. IsHeldAt w z l m) (let t : a ≡ a + 0 = omega arith in t) (subst (λ z. IsHeldAt w a z m) same h.0))
held_index w a (suc i) (k ∷ ls) (m ∷ ms) l h e =
    let r = held_index w (suc a) i ls ms l h.1 e in
    (r.0, r.1, subst (λ z. IsHeldAt w z l r.0) (let t : suc a + i ≡ a + suc i = omega arith in t) r.2)

held_mark : (w : Needs) (i : ℕ) (ls : List Line) (ms : List Mark) (l : Line) (m : Mark) → AreHeld w 0 ls ms → slice_get ls i ≡ Some l → slice_get ms i ≡ Some m
    → IsHeldAt w i l m
held_mark w i ls ms l m h e f =
    let r = held_index w 0 i ls ms l h e in
    let same : r.0 ≡ m = sym (ap (mark_or m) r.1) ∙ ap (mark_or m) f in
    subst (λ z. IsHeldAt w z l m) (let t : 0 + i ≡ i = omega arith in t) (subst (λ z. IsHeldAt w (0 + i) l z) same r.2)

-- a segment of some is counted
counted_one : (test : Segment → Bool) (ss : List Segment) (s : Segment) (k : ℕ) → k < length ss → get_or ss k s ≡ s → test s ≡ true → 1 ≤ count_if test ss
counted_one test [] s k l e t = absurd (omega arith)
counted_one test (r ∷ ss) s zero l e t =
    let here : test r ≡ true = ap test e ∙ t in rw here (omega arith)
counted_one test (r ∷ ss) s (suc k) l e t =
    let rest : 1 ≤ count_if test ss = counted_one test ss s k (omega arith) e t in omega arith

pub need_of : (w : Needs) (ls : List Line) (ms : List Mark) (x : ℕ) (segments : List Segment) → AreWalked w ls ms
    → IsMadeOf (length ls) (bounds_of w.toggles x) segments → AreNeedOf ls ms x segments
need_of w ls ms x segments all made = record { needed = needed; begun = begun }
  where
    up : Ascends made.sorted
    up = ascends_sorted made.sorted made.ascending

    even : odd_of (nat_le 0) made.sorted ≡ false
    even = odd_alike (nat_le 0) (bounds_of w.toggles x) made.sorted made.same ∙ all.even x

    counts : (i : ℕ) → i < length ls → count_if (has i) segments ≡ (if need_at w.toggles x (suc i) then 1 else 0)
    counts i h =
        ap (count_if (has i)) made.pairs_of ∙ paired_need (length ls) i made.sorted up even h
        ∙ ap (λ z. if z then 1 else 0) (odd_alike (nat_le (suc i)) (bounds_of w.toggles x) made.sorted made.same)

    needed : (i : ℕ) (instr : Instr) (m : Mark) → slice_get ls i ≡ Some (done instr) → slice_get ms i ≡ Some m
        → count_if (has i) segments ≡ (if m.after x then 1 else 0)
    needed i instr m e f =
        counts i (get_within ls i (done instr) e)
        ∙ ap (λ z. if z then 1 else 0) ((held_mark w i ls ms (done instr) m all.held e f).after instr refl x)

    begun : (s : Segment) (i : ℕ) (instr : Instr) → Contains segments s → s.first < i → i ≤ s.last → slice_get ls i ≡ Some (done instr) → writes instr x ≡ false
    begun s i instr c low high e =
        elim (cases_Bool (writes instr x)) [
          | inr other ↦ other
          | inl wrote ↦
              (let r = held_index w 0 i ls ms (done instr) all.held e in
              let m = r.0 in
              let h = held_mark w i ls ms (done instr) m all.held e r.1 in
              let within : has i s ≡ true = (let one : nat_le s.first i ≡ true = grind (arith, nat_tests) in let two : nat_le i s.last ≡ true = grind (arith, nat_tests) in rw (one, two) refl) in
              let some : 1 ≤ count_if (has i) segments = counted_one (has i) segments s c.0 c.1 c.2 within in
              elim (cases_Bool (m.after x)) [
                | inr none ↦
                    (let zero' : count_if (has i) segments ≡ 0 = needed i instr m e r.1 ∙ ap (λ z. if z then 1 else 0) none in
                    absurd (omega arith))
                | inl after ↦
                    (let bound : among i (bounds_of w.toggles x) ≡ true = h.cut instr refl x wrote after in
                    let none : among i made.sorted ≡ false =
                    paired_begun (length ls) made.sorted s i up (subst (λ z. Contains z s) made.pairs_of c) low high in
                    absurd (let t = sym bound ∙ among_alike i (bounds_of w.toggles x) made.sorted made.same none in cc))
              ])
        ]

pub depths_of : (w : Needs) (ls : List Line) (ms : List Mark) → AreWalked w ls ms → AreDepthsOf ls ms w.depths.items
depths_of w ls ms all i l m e f h = (held_mark w i ls ms l m all.held e f).depth h

pub copies_of : (w : Needs) (ls : List Line) (ms : List Mark) → AreWalked w ls ms → AreCopiesOf ls ms w.copies.items
copies_of w ls ms all i t a m e f = (held_mark w i ls ms (done (move t a)) m all.held e f).copy t a refl

-- ---- segments are within the lines

one_within : (e : ℕ) (x y : ℕ) → All (IsWithin e) (segment_of e x y)
one_within e x y =
    elim (cases_Bool (nat_lt x (min y e))) [
      | inl there ↦ (let less : x < min y e = grind (arith, nat_tests) in rw there (single less))
      | inr none ↦ rw none (λ k d h. absurd (omega arith))
    ]
  where
    single : x < min y e → All (IsWithin e) (record { first = x; last = min y e - 1 } ∷ [])
    single less zero d h = record { ordered = omega arith; inside = omega arith }
    single less (suc k) d h = absurd (omega arith)

all_append : (e : ℕ) (xs ys : List Segment) → All (IsWithin e) xs → All (IsWithin e) ys → All (IsWithin e) (xs ++ ys)
all_append e [] ys p q k d h = q k d h
all_append e (x ∷ xs) ys p q zero d h = p 0 d (omega arith)
all_append e (x ∷ xs) ys p q (suc k) d h = all_append e xs ys (λ j b l. p (suc j) b (omega arith)) q k d (omega arith)

pairs_within : (e : ℕ) (ts : List ℕ) → All (IsWithin e) (pairs e ts)
pairs_within e [] = λ k d h. absurd (omega arith)
pairs_within e (x ∷ []) = λ k d h. absurd (omega arith)
pairs_within e (x ∷ y ∷ ts) = all_append e (segment_of e x y) (pairs e ts) (one_within e x y) (pairs_within e ts)

pub made_within : (e : ℕ) (bounds : List ℕ) (segments : List Segment) → IsMadeOf e bounds segments → All (IsWithin e) segments
made_within e bounds segments made = subst (λ z. All (IsWithin e) z) (sym made.pairs_of) (pairs_within e made.sorted)

-- ---- the state before the walk, and after it

abbrev no_bounds : ℕ → List (List ℕ)
no_bounds n = replicate n []

names_above : (n : ℕ) (xs : List ℕ) → above xs ≤ n → AreBelow n xs
names_above n [] h = refl
names_above n (x ∷ xs) h =
    let low : nat_lt x n ≡ true = grind (arith, nat_tests) in
    let rest : above xs ≤ n = omega arith in rw low (names_above n xs rest)

names_counted : (n : ℕ) (ls : List Line) → name_count ls ≤ n → IsTrue (all_of (names_below n) ls)
names_counted n [] h = refl
names_counted n (l ∷ ls) h =
    let here : above (line_names l) ≤ n = omega arith in
    let rest : name_count ls ≤ n = omega arith in and_from _ _ (names_above n (line_names l) here) (names_counted n ls rest)

none_in : (n x : ℕ) → bounds_of (no_bounds n) x ≡ []
none_in zero x = refl
none_in (suc n) zero = refl
none_in (suc n) (suc x) = none_in n x

pub fresh_of : (w : Needs) (ls : List Line) (count : ℕ) → w.toggles ≡ replicate count [] → w.changed.items ≡ [] → w.depths.items ≡ replicate (length ls) 0
    → w.copies.items ≡ replicate (length ls) false → name_count ls ≤ count → AreFresh w ls
fresh_of w ls count t c d p n = record {
  toggles = λ x. ap (λ z. bounds_of z x) t ∙ none_in count x;
  changed = c;
  depths = d;
  copies = p;
  names = subst (λ z. IsTrue (all_of (names_below z) ls)) (sym (ap length t ∙ length-replicate count [])) (names_counted count ls n);
}

last_there : (l : Line) (ls : List Line) → slice_get (ls ++ l ∷ []) (length ls) ≡ Some l
last_there l [] = refl
last_there l (k ∷ ls) = last_there l ls

pub value_last : (f : LinearFunction) → leave_of (slice_get (lines f) (length (lines f) - 1)) ≡ Some f.value
value_last f =
    let size = length-append (code_lines 0 f.code) (leave f.value ∷ []) in
    let at : length (lines f) - 1 ≡ suc (length (code_lines 0 f.code)) = omega (arith, size) in
    ap (λ z. leave_of (slice_get (lines f) z)) at ∙ ap leave_of (last_there (leave f.value) (code_lines 0 f.code))

pub walk_of : (ls : List Line) (ms : List Mark) (needs : Needs) (w : Walk) (count : ℕ) → AreWalked needs ls ms → vec_len w.segments ≡ count
    → ((x : ℕ) → x < count → IsMadeOf (length ls) (bounds_of needs.toggles x) (segments_in w x)) → w.depths ≡ needs.depths → w.copies ≡ needs.copies → IsWalkOf ls ms w
walk_of ls ms needs w count all size made d c = record {
  need = λ x h. need_of needs ls ms x (segments_in w x) all (made x (subst (λ n. x < n) size h));
  depths = subst (λ z. AreDepthsOf ls ms z.items) (sym d) (depths_of needs ls ms all);
  copies = subst (λ z. AreCopiesOf ls ms z.items) (sym c) (copies_of needs ls ms all);
}
