-- The depths of names by lines are those by sites.
use Rattle.std.proofs.Common.{◌≡◌, ◌≢◌, ◌+◌, ◌<◌, ◌≤◌, ℕ, zero, suc, Bool, true, false, ◌&&◌, if◌then◌else◌, List, [], ◌∷◌, ◌++◌, length, map, filter, flat_map, get_or, max, refl, sym, ap, ◌∙◌, inl, inr, arith, Some, None, Option}
use Rattle.std.specs.Prelude.{◌==◌, ◌||◌}
use Rattle.std.proofs.lemmas.Bool.{cases_Bool, and_right}
use Rattle.std.proofs.lemmas.Bool.Decides.{nat_tests}
use Rattle.val_core.specs.Numbers.{numbers_from}
use Rattle.s_linear.specs.Linear.{Instr}
use Rattle.s_linear.specs.Lines.{Line, enter, leave, done, branch_not_zero, branch_zero, branch_equal, jump, label, line_names}
use Rattle.a_place.specs.Places.{among, occurs, above}
use Rattle.a_place.specs.Share.{Site, does, tests, greatest, depth_of_site, stands_at, depth_of, down_from, in_order}
use Rattle.a_place.specs.Marks.{Mark, sites_at}
use Rattle.a_share.specs.Walk.{AreDepthsOf}
use Rattle.a_share.specs.Tables.{deeper, depth_in, has_depth, at_depth, levels, down, by_depth}
use Rattle.a_place.proofs.lemmas.Marked.{AreFlat}
use Rattle.a_share.proofs.Occurs.{stands_in}

-- ---- the depth of a name

abbrev if_some : Bool → ℕ → Option ℕ
if_some b d = if b then Some d else None

-- what the lines say of a name: its depth, where it stands there
record HasDepth (x : ℕ) (ls : List Line) (ms : List Mark) (ds : List ℕ) : Type 0 where
  found : depth_in x ls ds ≡ if_some (stands_in x ls) (depth_of (sites_at ls ms) x)
  none : stands_in x ls ≡ false → depth_of (sites_at ls ms) x ≡ 0

some_names : (x : ℕ) (l : Line) → occurs x l ≡ true → line_names l ≢ []
some_names x l e f = absurd (let n : true ≡ false = sym e ∙ ap (among x) f in cc)

-- one site more
site_more : (x d : ℕ) (b c : Bool) (s : Site) (ss : List Site) (o : Option ℕ) → stands_at x s ≡ b → (b ≡ true → depth_of_site s ≡ d) → o ≡ if_some c (depth_of ss x) → (c ≡ false → depth_of ss x ≡ 0)
    → (deeper (if_some b d) o ≡ if_some (b || c) (depth_of (s ∷ ss) x)) × ((b || c) ≡ false → depth_of (s ∷ ss) x ≡ 0)
site_more x d true true s ss o e f g h = (
  rw (g, e) (ap (λ z. Some (max z (depth_of ss x))) (sym (f refl))),
  λ n. cc,
)
site_more x d true false s ss o e f g h =
    let none : depth_of ss x ≡ 0 = h refl in
    let at : depth_of_site s ≡ d = f refl in
    (rw (g, e) (ap Some (omega arith)), λ n. cc)
site_more x d false true s ss o e f g h = (rw (g, e) refl, λ n. cc)
site_more x d false false s ss o e f g h = (g, λ n. rw e (h refl))

-- a line that stands in no loop
outer_more : (x d : ℕ) (b c : Bool) (ss : List Site) (o : Option ℕ) → (b ≡ true → d ≡ 0) → o ≡ if_some c (depth_of ss x) → (c ≡ false → depth_of ss x ≡ 0)
    → (deeper (if_some b d) o ≡ if_some (b || c) (depth_of ss x)) × ((b || c) ≡ false → depth_of ss x ≡ 0)
outer_more x d true true ss o f g h = let z : d ≡ 0 = f refl in (rw (g, z) (ap Some (omega arith)), λ n. cc)
outer_more x d true false ss o f g h = let z : d ≡ 0 = f refl in let none : depth_of ss x ≡ 0 = h refl in (rw g (ap Some (omega arith)), λ n. cc)
outer_more x d false c ss o f g h = (g, h)

or_none : (b : Bool) → (b || false) ≡ b
or_none true = refl
or_none false = refl

-- where the line has a name, its depth is the mark's
abbrev DepthIs : Line → ℕ → Mark → Type 0
DepthIs l d m = line_names l ≢ [] → Some d ≡ Some m.depth

module _ (x d : ℕ) (m : Mark) (ls : List Line) (ms : List Mark) (ds : List ℕ) (h : HasDepth x ls ms ds) where
  abbrev ss : List Site
  ss = sites_at ls ms

  depth_there : (l : Line) → DepthIs l d m → occurs x l ≡ true → d ≡ m.depth
  depth_there l e here = let s : Some d ≡ Some m.depth = e (some_names x l here) in cc

  instr_more : (i : Instr) → DepthIs (done i) d m → HasDepth x (done i ∷ ls) (m ∷ ms) (d ∷ ds)
  instr_more i e =
      let r = site_more x d (occurs x (done i)) (stands_in x ls) (does m.depth i m.after) ss (depth_in x ls ds) refl (λ here. sym (depth_there (done i) e here)) h.found h.none in
      record { found = r.0; none = r.1 }

  -- of a branch by its predicate
  tests_more : (p : ℕ) → Some d ≡ Some m.depth
      → (deeper (if_some (p == x || false) d) (depth_in x ls ds) ≡ if_some ((p == x || false) || stands_in x ls) (depth_of (tests m.depth p ∷ ss) x))
      × (((p == x || false) || stands_in x ls) ≡ false → depth_of (tests m.depth p ∷ ss) x ≡ 0)
  tests_more p e =
      let at : d ≡ m.depth = cc in
      site_more x d (p == x || false) (stands_in x ls) (tests m.depth p) ss (depth_in x ls ds) (sym (or_none (p == x))) (λ here. sym at) h.found h.none

  outer_line : (b : Bool) → (b ≡ true → d ≡ 0)
      → (deeper (if_some b d) (depth_in x ls ds) ≡ if_some (b || stands_in x ls) (depth_of ss x)) × ((b || stands_in x ls) ≡ false → depth_of ss x ≡ 0)
  outer_line b z = outer_more x d b (stands_in x ls) ss (depth_in x ls ds) z h.found h.none

depth_begun : (x : ℕ) (l : Line) (m : Mark) (d : ℕ) (ls : List Line) (ms : List Mark) (ds : List ℕ) → DepthIs l d m → AreFlat (l ∷ ls) (m ∷ ms)
    → HasDepth x ls ms ds → HasDepth x (l ∷ ls) (m ∷ ms) (d ∷ ds)
depth_begun x (done i) m d ls ms ds e f h = instr_more x d m ls ms ds h i e
depth_begun x (branch_not_zero p n) m d ls ms ds e f h = let r = tests_more x d m ls ms ds h p (e (λ n. cc)) in record { found = r.0; none = r.1 }
depth_begun x (branch_zero p n) m d ls ms ds e f h = let r = tests_more x d m ls ms ds h p (e (λ n. cc)) in record { found = r.0; none = r.1 }
depth_begun x (branch_equal p k n) m d ls ms ds e f h = let r = tests_more x d m ls ms ds h p (e (λ n. cc)) in record { found = r.0; none = r.1 }
depth_begun x (jump n) m d ls ms ds e f h = record { found = h.found; none = h.none }
depth_begun x (label n) m d ls ms ds e f h = record { found = h.found; none = h.none }
depth_begun x (enter xs) m d ls ms ds e f h =
    let r = outer_line x d m ls ms ds h (among x xs) (λ here. depth_there x d m ls ms ds h (enter xs) e here ∙ f.0) in record { found = r.0; none = r.1 }
depth_begun x (leave v) m d ls ms ds e f h =
    let r = outer_line x d m ls ms ds h (v == x || false) (λ here. depth_there x d m ls ms ds h (leave v) e here ∙ f.0) in record { found = r.0; none = r.1 }

depth_found : (x : ℕ) (ls : List Line) (ms : List Mark) (ds : List ℕ) → length ls ≡ length ms → length ls ≡ length ds → AreDepthsOf ls ms ds → AreFlat ls ms → HasDepth x ls ms ds
depth_found x [] [] ds e f a g = record { found = refl; none = λ n. refl }
depth_found x [] (m ∷ ms) ds e f a g = cc
depth_found x (l ∷ ls) [] ds e f a g = cc
depth_found x (l ∷ ls) (m ∷ ms) [] e f a g = cc
depth_found x (l ∷ ls) (m ∷ ms) (d ∷ ds) e f a g =
    depth_begun x l m d ls ms ds (a 0 l m refl refl) g (depth_found x ls ms ds (omega arith) (omega arith) (λ i k n p q. a (suc i) k n p q) g.1)

pub depth_is : (x : ℕ) (ls : List Line) (ms : List Mark) (ds : List ℕ) → length ls ≡ length ms → length ls ≡ length ds → AreDepthsOf ls ms ds → AreFlat ls ms
    → depth_in x ls ds ≡ (if stands_in x ls then Some (depth_of (sites_at ls ms) x) else None)
depth_is x ls ms ds e f a g = (depth_found x ls ms ds e f a g).found

-- ---- lists by depth

pub flat_none : (F : ℕ → List ℕ) (n m : ℕ) → ((d : ℕ) → n ≤ d → F d ≡ []) → flat_map F (down (m + n)) ≡ flat_map F (down n)
flat_none F n zero h = let e : 0 + n ≡ n = omega arith in ap (λ k. flat_map F (down k)) e
flat_none F n (suc m) h =
    let e : suc m + n ≡ suc (m + n) = omega arith in
    ap (λ k. flat_map F (down k)) e ∙ (ap (λ z. z ++ flat_map F (down (m + n))) (h (m + n) (omega arith)) ∙ flat_none F n m h)

-- from two bounds above which there is nothing
pub flat_bounds : (F : ℕ → List ℕ) (n m : ℕ) → ((d : ℕ) → n ≤ d → F d ≡ []) → ((d : ℕ) → m ≤ d → F d ≡ []) → flat_map F (down n) ≡ flat_map F (down m)
flat_bounds F n m a b =
    let e : m + n ≡ n + m = omega arith in
    sym (flat_none F n m a) ∙ (ap (λ k. flat_map F (down k)) e ∙ flat_none F m n b)

pub flat_same : {X Y : Type 0} (F G : X → List Y) (xs : List X) → ((x : X) → F x ≡ G x) → flat_map F xs ≡ flat_map G xs
flat_same F G [] h = refl
flat_same F G (x ∷ xs) h = ap (λ z. z ++ flat_map F xs) (h x) ∙ ap (λ z. G x ++ z) (flat_same F G xs h)

pub down_is : (n : ℕ) → down_from n ≡ down (suc n)
down_is zero = refl
down_is (suc n) = ap (λ z. suc n ∷ z) (down_is n)

-- no place has a depth from the levels on
pub past_levels : (d i : ℕ) (os : List (Option ℕ)) → levels os ≤ d → at_depth d i os ≡ []
past_levels d i [] h = refl
past_levels d i (None ∷ os) h = past_levels d (suc i) os h
past_levels d i (Some e ∷ os) h =
    let other : (e == d) ≡ false = grind (arith, nat_tests) in
    rw other (past_levels d (suc i) os (omega arith))

-- the places of a depth are the numbers that pass a test
pub at_depth_filter : (d i : ℕ) (test : ℕ → Bool) (os : List (Option ℕ)) → ((k : ℕ) → k < length os → has_depth d (get_or os k None) ≡ test (i + k))
    → at_depth d i os ≡ filter test (numbers_from i (length os))
at_depth_filter d i test [] h = refl
at_depth_filter d i test (o ∷ os) h =
    let here : has_depth d o ≡ test i = h 0 (omega arith) ∙ ap test (omega arith) in
    let rest : at_depth d (suc i) os ≡ filter test (numbers_from (suc i) (length os)) =
    at_depth_filter d (suc i) test os (λ k l. h (suc k) (omega arith) ∙ ap test (omega arith)) in
    elim (cases_Bool (test i)) [
      | inl passes ↦ rw (here, passes) (ap (λ z. i ∷ z) rest)
      | inr fails ↦ rw (here, fails) rest
    ]

pub filter_none : (test : ℕ → Bool) (xs : List ℕ) → ((x : ℕ) → test x ≡ false) → filter test xs ≡ []
filter_none test [] h = refl
filter_none test (x ∷ xs) h = rw (h x) (filter_none test xs h)

depth_within : (x : ℕ) (ss : List Site) → depth_of ss x ≤ greatest (map depth_of_site ss)
depth_within x [] = omega arith
depth_within x (s ∷ ss) =
    let h : depth_of ss x ≤ greatest (map depth_of_site ss) = depth_within x ss in
    elim (cases_Bool (stands_at x s)) [
      | inl here ↦ rw here (omega arith)
      | inr other ↦ rw other (omega arith)
    ]

-- Names in order of depth, by what the depths of each say.
pub order_is : (ss : List Site) (names : List ℕ) (os : List (Option ℕ)) → length os ≡ above names
    → ((k : ℕ) → k < length os → get_or os k None ≡ (if among k names then Some (depth_of ss k) else None))
    → by_depth os ≡ in_order ss names
order_is ss names os e h =
    let G : ℕ = greatest (map depth_of_site ss) in
    let test : ℕ → ℕ → Bool = λ d x. among x names && (depth_of ss x == d) in
    let one : (d : ℕ) → at_depth d 0 os ≡ filter (test d) (numbers_from 0 (above names)) =
    λ d. at_depth_filter d 0 (test d) os (λ k l. ap (has_depth d) (h k l) ∙ by_test (among k names) (depth_of ss k) d ∙ (let z : k ≡ 0 + k = omega arith in ap (test d) z))
    ∙ ap (λ n. filter (test d) (numbers_from 0 n)) e in
    flat_bounds (λ d. at_depth d 0 os) (levels os) (suc G) (λ d l. past_levels d 0 os l)
    (λ d l. one d ∙ filter_none (test d) (numbers_from 0 (above names)) (λ x. deep x d l))
    ∙ (ap (flat_map (λ d. at_depth d 0 os)) (sym (down_is G)) ∙ flat_same (λ d. at_depth d 0 os) (λ d. filter (test d) (numbers_from 0 (above names))) (down_from G) one)
  where
    by_test : (b : Bool) (e d : ℕ) → has_depth d (if b then Some e else None) ≡ (b && (e == d))
    by_test true e d = refl
    by_test false e d = refl

    deep : (x d : ℕ) → suc (greatest (map depth_of_site ss)) ≤ d → (among x names && (depth_of ss x == d)) ≡ false
    deep x d l =
        let most : depth_of ss x ≤ greatest (map depth_of_site ss) = depth_within x ss in
        let other : (depth_of ss x == d) ≡ false = grind (arith, nat_tests) in
        and_right (among x names) (depth_of ss x == d) other
