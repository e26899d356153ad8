-- How often two names meet, but for moves between them, is how often they clash.
use Rattle.std.proofs.Common.{◌≡◌, ◌≢◌, ◌+◌, ℕ, suc, Bool, true, false, not, ◌&&◌, if◌then◌else◌, List, [], ◌∷◌, ◌++◌, length, refl, sym, ap, ◌∙◌, Some, inl, inr, arith, eqb-true, eq-eqb}
use Rattle.std.specs.Prelude.{◌==◌, ◌||◌, slice_get}
use Rattle.std.proofs.lemmas.Bool.{cases_Bool}
use Rattle.std.proofs.lemmas.Bool.Decides.{nat_tests}
use Rattle.g_graph.specs.WellFormed.{some_of}
use Rattle.s_linear.specs.Linear.{const, undef, object_address, global_address, binary, unary, load, store, clear, equal_pointers, move, call, put, get, exit}
use Rattle.s_linear.specs.Lines.{Line, enter, leave, done, branch_not_zero, branch_zero, branch_equal, jump, label}
use Rattle.a_place.specs.Share.{Names, Site, writes, meets, clash_at}
use Rattle.a_place.specs.Marks.{Mark, site_of, sites_at}
use Rattle.a_share.specs.Walk.{count_if, has, AreNeedOf, AreCopiesOf}
use Rattle.a_share.specs.Held.{total}
use Rattle.a_share.specs.Tables.{does_write, positions, ends_of, copied_in}
use Rattle.a_share.specs.declared.walk.Segment.{Segment}
use Rattle.a_share.proofs.Totals.{bit, over, over_add, over_same, over_positions, count_swap, count_append, none_more}

-- ---- what is counted at each line

abbrev pub need_at : (x y : ℕ) → Line → Mark → ℕ
need_at x y l m = if does_write x l then bit (m.after y) else 0

abbrev pub is_copy : Line → Mark → Bool
is_copy (done (move t a)) m = not (t == a) && m.after a
is_copy l m = false

abbrev pub copy_at : (x y : ℕ) → Line → Mark → ℕ
copy_at x y l m = if is_copy l m then count_if (λ z. y == z) (ends_of x l) else 0

abbrev pub clash_line : (x y : ℕ) → Line → Mark → ℕ
clash_line x y (done i) m = bit (writes i x && meets i m.after y) + bit (writes i y && meets i m.after x)
clash_line x y l m = 0

-- ---- one line

-- an instruction that writes no other and moves nothing
plain_line : (a b n o : Bool) → (a && b) ≡ false → (if a then bit o else 0) + (if b then bit n else 0) ≡ 0 + (bit (a && (o && (not b && true))) + bit (b && (n && (not a && true))))
plain_line true true n o e = cc
plain_line true false n true e = refl
plain_line true false n false e = refl
plain_line false true true o e = refl
plain_line false true false o e = refl
plain_line false false n o e = refl

apart_names : (t x y : ℕ) → x ≢ y → ((t == x || false) && (t == y || false)) ≡ false
apart_names t x y ne =
    elim (cases_Bool (t == x)) [
      | inl a ↦
          elim (cases_Bool (t == y)) [
            | inl b ↦ absurd (ne (sym (eqb-true t x a) ∙ eqb-true t y b))
            | inr b ↦ rw (a, b) refl
          ]
      | inr a ↦ rw a refl
    ]

differs : (a b : ℕ) → a ≢ b → (a == b) ≡ false
differs a b ne = grind (arith, nat_tests)

none_copied : (c : Bool) (n : ℕ) → n ≡ 0 → (if c then n else 0) ≡ 0
none_copied true n e = e
none_copied false n e = refl

module _ (t a x y : ℕ) (N : Names) (ne : x ≢ y) where
  abbrev m : Mark
  m = record { depth = 0; after = N }

  abbrev L : ℕ
  L = (if t == x || false then bit (N y) else 0) + (if t == y || false then bit (N x) else 0)

  abbrev K : ℕ
  K = clash_line x y (done (move t a)) m

  abbrev Same : Type 0
  Same = L ≡ copy_at x y (done (move t a)) m + K

  by_copy : (c : ℕ) → copy_at x y (done (move t a)) m ≡ c → L ≡ c + K → Same
  by_copy c e h = h ∙ ap (λ z. z + K) (sym e)

  no_copy : count_if (λ z. y == z) (ends_of x (done (move t a))) ≡ 0 → L ≡ 0 + K → Same
  no_copy e h = by_copy 0 (none_copied (not (t == a) && N a) (count_if (λ z. y == z) (ends_of x (done (move t a)))) e) h

  from_other : (t == x) ≡ true → (a == y) ≡ true → Same
  from_other tx ay =
      let e : t ≡ x = eqb-true t x tx in
      let f : a ≡ y = eqb-true a y ay in
      let ty : (t == y) ≡ false = differs t y (λ g. ne (sym e ∙ g)) in
      let ax : (a == x) ≡ false = differs a x (λ g. ne (sym g ∙ f)) in
      let ta : (t == a) ≡ false = differs t a (λ g. ne (sym e ∙ (g ∙ f))) in
      let ya : (y == a) ≡ true = eq-eqb y a (sym f) in
      elim (cases_Bool (N y)) [
        | inl n ↦ let na : N a ≡ true = ap N f ∙ n in by_copy 1 (simp (tx, ax, ta, ya, na)) (simp (tx, ay, ty, n))
        | inr n ↦ let na : N a ≡ false = ap N f ∙ n in by_copy 0 (simp (ta, na)) (simp (tx, ay, ty, n))
      ]

  from_none : (t == x) ≡ true → (a == y) ≡ false → Same
  from_none tx ay =
      let e : t ≡ x = eqb-true t x tx in
      let ty : (t == y) ≡ false = differs t y (λ g. ne (sym e ∙ g)) in
      let ya : (y == a) ≡ false = differs y a (λ g. absurd (let h : (a == y) ≡ true = eq-eqb a y (sym g) in cc)) in
      let yt : (y == t) ≡ false = differs y t (λ g. ne (sym e ∙ sym g)) in
      let none : count_if (λ z. y == z) (ends_of x (done (move t a))) ≡ 0 =
      elim (cases_Bool (a == x)) [ inl ax ↦ simp (tx, ax, ya, yt) | inr ax ↦ simp (tx, ax, ya) ] in
      elim (cases_Bool (N y)) [
        | inl n ↦ no_copy none (simp (tx, ay, ty, n))
        | inr n ↦ no_copy none (simp (tx, ay, ty, n))
      ]

  to_other : (t == x) ≡ false → (t == y) ≡ true → (a == x) ≡ true → Same
  to_other tx ty ax =
      let e : t ≡ y = eqb-true t y ty in
      let f : a ≡ x = eqb-true a x ax in
      let ta : (t == a) ≡ false = differs t a (λ g. ne (sym f ∙ (sym g ∙ e))) in
      let yt : (y == t) ≡ true = eq-eqb y t (sym e) in
      elim (cases_Bool (N x)) [
        | inl n ↦ let na : N a ≡ true = ap N f ∙ n in by_copy 1 (simp (tx, ax, ta, yt, na)) (simp (tx, ty, ax, n))
        | inr n ↦ let na : N a ≡ false = ap N f ∙ n in by_copy 0 (simp (ta, na)) (simp (tx, ty, ax, n))
      ]

  to_none : (t == x) ≡ false → (t == y) ≡ true → (a == x) ≡ false → Same
  to_none tx ty ax =
      elim (cases_Bool (N x)) [
        | inl n ↦ no_copy (simp (tx, ax)) (simp (tx, ty, ax, n))
        | inr n ↦ no_copy (simp (tx, ax)) (simp (tx, ty, ax, n))
      ]

  no_end : (t == x) ≡ false → (t == y) ≡ false → Same
  no_end tx ty =
      let yt : (y == t) ≡ false = differs y t (λ g. absurd (let h : (t == y) ≡ true = eq-eqb t y (sym g) in cc)) in
      let none : count_if (λ z. y == z) (ends_of x (done (move t a))) ≡ 0 =
      elim (cases_Bool (a == x)) [ inl ax ↦ simp (tx, ax, yt) | inr ax ↦ simp (tx, ax) ] in
      no_copy none (simp (tx, ty))

  move_line : Same
  move_line =
      elim (cases_Bool (t == x)) [
        | inl tx ↦ elim (cases_Bool (a == y)) [ inl ay ↦ from_other tx ay | inr ay ↦ from_none tx ay ]
        | inr tx ↦
            elim (cases_Bool (t == y)) [
              | inl ty ↦ elim (cases_Bool (a == x)) [ inl ax ↦ to_other tx ty ax | inr ax ↦ to_none tx ty ax ]
              | inr ty ↦ no_end tx ty
            ]
      ]

pub one_line : (x y : ℕ) → x ≢ y → (l : Line) (m : Mark) → need_at x y l m + need_at y x l m ≡ copy_at x y l m + clash_line x y l m
one_line x y ne (done (move t a)) m = move_line t a x y m.after ne
one_line x y ne (done (const t w)) m = plain_line (t == x || false) (t == y || false) (m.after x) (m.after y) (apart_names t x y ne)
one_line x y ne (done (undef t)) m = plain_line (t == x || false) (t == y || false) (m.after x) (m.after y) (apart_names t x y ne)
one_line x y ne (done (object_address t k)) m = plain_line (t == x || false) (t == y || false) (m.after x) (m.after y) (apart_names t x y ne)
one_line x y ne (done (global_address t k)) m = plain_line (t == x || false) (t == y || false) (m.after x) (m.after y) (apart_names t x y ne)
one_line x y ne (done (binary o t a b)) m = plain_line (t == x || false) (t == y || false) (m.after x) (m.after y) (apart_names t x y ne)
one_line x y ne (done (unary o t a)) m = plain_line (t == x || false) (t == y || false) (m.after x) (m.after y) (apart_names t x y ne)
one_line x y ne (done (load w t a)) m = plain_line (t == x || false) (t == y || false) (m.after x) (m.after y) (apart_names t x y ne)
one_line x y ne (done (equal_pointers t a b)) m = plain_line (t == x || false) (t == y || false) (m.after x) (m.after y) (apart_names t x y ne)
one_line x y ne (done (call g t xs)) m = plain_line (t == x || false) (t == y || false) (m.after x) (m.after y) (apart_names t x y ne)
one_line x y ne (done (get t)) m = plain_line (t == x || false) (t == y || false) (m.after x) (m.after y) (apart_names t x y ne)
one_line x y ne (done (store w a v)) m = refl
one_line x y ne (done (clear k)) m = refl
one_line x y ne (done (put a)) m = refl
one_line x y ne (done (exit a)) m = refl
one_line x y ne (enter xs) m = refl
one_line x y ne (leave v) m = refl
one_line x y ne (branch_not_zero p n) m = refl
one_line x y ne (branch_zero p n) m = refl
one_line x y ne (branch_equal p r n) m = refl
one_line x y ne (jump n) m = refl
one_line x y ne (label n) m = refl

-- ---- all lines

module _ (ls : List Line) (ms : List Mark) (same : length ls ≡ length ms) where
  -- each write of x after which y is needed
  pub needs : (x y : ℕ) (ss : List Segment) → AreNeedOf ls ms y ss → total (λ i. count_if (has i) ss) (positions (does_write x) 0 ls) ≡ over (need_at x y) ls ms
  needs x y ss n =
      over_positions (does_write x) (λ i. count_if (has i) ss) (λ l m. bit (m.after y)) 0 ls ms same
      (λ k l m p q t. ap (λ j. count_if (has j) ss) (omega arith) ∙ at_line k l m p q t)
    where
      at_line : (k : ℕ) (l : Line) (m : Mark) → slice_get ls k ≡ Some l → slice_get ms k ≡ Some m → does_write x l ≡ true → count_if (has k) ss ≡ bit (m.after y)
      at_line k (done i) m p q t = n.needed k i m p q
      at_line k (enter xs) m p q t = cc
      at_line k (leave v) m p q t = cc
      at_line k (branch_not_zero v l) m p q t = cc
      at_line k (branch_zero v l) m p q t = cc
      at_line k (branch_equal v r l) m p q t = cc
      at_line k (jump l) m p q t = cc
      at_line k (label l) m p q t = cc

  pub meet_total : (x y : ℕ) (sx sy : List Segment) → AreNeedOf ls ms x sx → AreNeedOf ls ms y sy
      → total (λ i. count_if (has i) sy) (positions (does_write x) 0 ls) + total (λ s. count_if (λ i. has i s) (positions (does_write y) 0 ls)) sx
      ≡ over (λ l m. need_at x y l m + need_at y x l m) ls ms
  meet_total x y sx sy nx ny =
      let first = needs x y sy ny in
      let second = count_swap (λ s i. has i s) sx (positions (does_write y) 0 ls) ∙ needs y x sx nx in
      ap (λ z. z + total (λ s. count_if (λ i. has i s) (positions (does_write y) 0 ls)) sx) first
      ∙ (ap (λ z. over (need_at x y) ls ms + z) second ∙ sym (over_add (need_at x y) (need_at y x) ls ms))

-- the copies with a name
pub copies_total : (x y : ℕ) (ls : List Line) (ms : List Mark) (cs : List Bool) → length ls ≡ length ms → length ls ≡ length cs
    → AreCopiesOf ls ms cs → count_if (λ z. y == z) (copied_in x ls cs) ≡ over (copy_at x y) ls ms
copies_total x y [] ms cs e f c = refl
copies_total x y (l ∷ ls) [] cs e f c = cc
copies_total x y (l ∷ ls) (m ∷ ms) [] e f c = cc
copies_total x y (l ∷ ls) (m ∷ ms) (b ∷ cs) e f c =
    let rest : count_if (λ z. y == z) (copied_in x ls cs) ≡ over (copy_at x y) ls ms =
    copies_total x y ls ms cs (omega arith) (omega arith) (λ i t a n p q. c (suc i) t a n p q) in
    count_append (λ z. y == z) (if b then ends_of x l else []) (copied_in x ls cs)
    ∙ (ap (λ z. count_if (λ z. y == z) (if b then ends_of x l else []) + z) rest
    ∙ ap (λ z. z + over (copy_at x y) ls ms) (here l b (λ t a p. c 0 t a m p refl)))
  where
    no_ends : (b : Bool) → count_if (λ z. y == z) (if b then [] else []) ≡ 0
    no_ends true = refl
    no_ends false = refl

    chosen : (b d : Bool) (xs : List ℕ) → b ≡ d → count_if (λ z. y == z) (if b then xs else []) ≡ (if d then count_if (λ z. y == z) xs else 0)
    chosen true d xs h = rw (sym h) refl
    chosen false d xs h = rw (sym h) refl

    some_inside : (b d : Bool) → Some b ≡ Some d → b ≡ d
    some_inside b d h = cc

    here : (l : Line) (b : Bool) → ((t a : ℕ) → Some l ≡ Some (done (move t a)) → Some b ≡ Some (not (t == a) && m.after a))
        → count_if (λ z. y == z) (if b then ends_of x l else []) ≡ copy_at x y l m
    here (done (move t a)) b h = chosen b (not (t == a) && m.after a) (ends_of x (done (move t a))) (some_inside b (not (t == a) && m.after a) (h t a refl))
    here (done (const t w)) b h = no_ends b
    here (done (undef t)) b h = no_ends b
    here (done (object_address t k)) b h = no_ends b
    here (done (global_address t k)) b h = no_ends b
    here (done (binary o t a c)) b h = no_ends b
    here (done (unary o t a)) b h = no_ends b
    here (done (load w t a)) b h = no_ends b
    here (done (store w a v)) b h = no_ends b
    here (done (clear k)) b h = no_ends b
    here (done (equal_pointers t a c)) b h = no_ends b
    here (done (call g t xs)) b h = no_ends b
    here (done (put a)) b h = no_ends b
    here (done (get t)) b h = no_ends b
    here (done (exit a)) b h = no_ends b
    here (enter xs) b h = no_ends b
    here (leave v) b h = no_ends b
    here (branch_not_zero p n) b h = no_ends b
    here (branch_zero p n) b h = no_ends b
    here (branch_equal p r n) b h = no_ends b
    here (jump n) b h = no_ends b
    here (label n) b h = no_ends b

-- two names clash nowhere where nothing is counted
pub no_clash : (x y : ℕ) (ls : List Line) (ms : List Mark) → (over (clash_line x y) ls ms == 0) ≡ not (some_of (clash_at x y) (sites_at ls ms))
no_clash x y [] ms = refl
no_clash x y (l ∷ ls) [] = refl
no_clash x y (l ∷ ls) (m ∷ ms) = at_line l (over (clash_line x y) ls ms) (sites_at ls ms) (no_clash x y ls ms)
  where
    two_bits : (a b : Bool) (n : ℕ) (c : Bool) → (n == 0) ≡ not c → (bit a + bit b + n == 0) ≡ not ((a || b) || c)
    two_bits true true n c e = let z : (1 + 1 + n == 0) ≡ false = grind (arith, nat_tests) in z
    two_bits true false n c e = let z : (1 + 0 + n == 0) ≡ false = grind (arith, nat_tests) in z
    two_bits false true n c e = let z : (0 + 1 + n == 0) ≡ false = grind (arith, nat_tests) in z
    two_bits false false n c e = none_more n (not c) e

    at_line : (l : Line) (n : ℕ) (ss : List Site) → (n == 0) ≡ not (some_of (clash_at x y) ss)
        → (clash_line x y l m + n == 0) ≡ not (some_of (clash_at x y) (site_of l m ++ ss))
    at_line (done i) n ss rest = two_bits (writes i x && meets i m.after y) (writes i y && meets i m.after x) n (some_of (clash_at x y) ss) rest
    at_line (enter xs) n ss rest = none_more n (not (some_of (clash_at x y) ss)) rest
    at_line (leave v) n ss rest = none_more n (not (some_of (clash_at x y) ss)) rest
    at_line (branch_not_zero p k) n ss rest = none_more n (not (some_of (clash_at x y) ss)) rest
    at_line (branch_zero p k) n ss rest = none_more n (not (some_of (clash_at x y) ss)) rest
    at_line (branch_equal p r k) n ss rest = none_more n (not (some_of (clash_at x y) ss)) rest
    at_line (jump k) n ss rest = none_more n (not (some_of (clash_at x y) ss)) rest
    at_line (label k) n ss rest = none_more n (not (some_of (clash_at x y) ss)) rest

-- what meets is what is copied and what clashes
pub met_is : (x y : ℕ) → x ≢ y → (ls : List Line) (ms : List Mark)
    → over (λ l m. need_at x y l m + need_at y x l m) ls ms ≡ over (copy_at x y) ls ms + over (clash_line x y) ls ms
met_is x y ne ls ms =
    over_same (λ l m. need_at x y l m + need_at y x l m) (λ l m. copy_at x y l m + clash_line x y l m) ls ms (one_line x y ne)
    ∙ over_add (copy_at x y) (clash_line x y) ls ms
