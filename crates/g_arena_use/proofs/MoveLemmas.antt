-- Uses that move to another origin, one after another and all at once, and those that follow what goes.
use Rattle.std.proofs.Common.{◌≡◌, ℕ, ◌+◌, ◌-◌, ◌<◌, Bool, true, false, ◌&&◌, ◌||◌, cond, eqb, ltb, List, [], ◌∷◌, map, refl, ap, sym, ◌∙◌, subst, arith, true≢false}
use Rattle.std.proofs.lemmas.Bool.{eqb-true, eqb-false, eq-eqb, ne_eqb, ltb-true, ltb-false, lt-ltb, le-ltb, or_parts}
use Rattle.g_graph.specs.declared.op.Origin.{Origin}
use Rattle.g_graph.specs.declared.op.Origin.TheVariants.{Arg, Out}
use Rattle.g_graph.specs.Scope.{same_origin}
use Rattle.g_graph.specs.WellFormed.{some_of}
use Rattle.g_arena_def.specs.declared.place.Place.{Place}
use Rattle.g_arena_def.specs.Flat.{same_place}
use Rattle.g_arena_def.specs.Reads.{times}
use Rattle.g_arena_def.specs.Edits.{first_with, output_less, argument_less}
use Rattle.g_arena_use.specs.declared.use_index.Use.{Use}
use Rattle.g_arena_use.specs.UseCells.{IsNamed}
use Rattle.g_arena_use.specs.Lists.{PlainList, PlainUses, times_in, uses_of, has_use, use_moved, renamed_in, all_renamed, moved}
use Rattle.g_arena_use.proofs.SiteLemmas.{picks, skips}

-- ---- one use moves

times_moved : (o to : Origin) (xs : List Origin) → same_origin o to ≡ false → some_of (same_origin o) xs ≡ true → times o (first_with o to xs) + 1 ≡ times o xs
times_moved o to [] n e = absurd (true≢false (sym e))
times_moved o to (x ∷ xs) n e = by_test (same_origin o x) refl (λ h. times_moved o to xs n h) e
  where
    by_test : (t : Bool) → same_origin o x ≡ t → (some_of (same_origin o) xs ≡ true → times o (first_with o to xs) + 1 ≡ times o xs) → (t || some_of (same_origin o) xs) ≡ true → times o (cond t (to ∷ xs) (x ∷ first_with o to xs)) + 1 ≡ cond t 1 0 + times o xs
    by_test true q ih e = let z : 0 + times o xs + 1 ≡ 1 + times o xs = omega arith in ap (λ b. cond b 1 0 + times o xs + 1) n ∙ z
    by_test false q ih e =
        let z : 0 + times o (first_with o to xs) + 1 ≡ 0 + times o xs = omega (arith, ih e) in
        ap (λ b. cond b 1 0 + times o (first_with o to xs) + 1) q ∙ z

times_none : (o : Origin) (xs : List Origin) → some_of (same_origin o) xs ≡ false → times o xs ≡ 0
times_none o [] e = refl
times_none o (x ∷ xs) e = let p = or_parts (same_origin o x) (some_of (same_origin o) xs) e in ap (λ b. cond b 1 0 + times o xs) p.0 ∙ omega (arith, times_none o xs p.1)

not_in : (u : Use) (l : PlainList) → has_use u l ≡ false → times_in u l ≡ 0
not_in u l e = by_place (same_place u.home l.home) e
  where
    by_place : (t : Bool) → (t && some_of (same_origin u.of) l.origins) ≡ false → cond t (times u.of l.origins) 0 ≡ 0
    by_place true e = times_none u.of l.origins e
    by_place false e = refl

both_true : (a b : Bool) → (a && b) ≡ true → (a ≡ true) × (b ≡ true)
both_true true b h = (refl, h)
both_true false b h = absurd (true≢false (sym h))

pub one_less : (u : Use) (to : Origin) (ls : List PlainList) → same_origin u.of to ≡ false → 0 < uses_of u ls → uses_of u (use_moved u to ls) + 1 ≡ uses_of u ls
one_less u to [] n lt = absurd (omega arith)
one_less u to (l ∷ ls) n lt = by_test (has_use u l) refl (λ h. one_less u to ls n h)
  where
    by_test : (t : Bool) → has_use u l ≡ t → (0 < uses_of u ls → uses_of u (use_moved u to ls) + 1 ≡ uses_of u ls) → uses_of u (cond t (record l { origins = first_with u.of to l.origins } ∷ ls) (l ∷ use_moved u to ls)) + 1 ≡ times_in u l + uses_of u ls
    by_test true e ih =
        let b = both_true _ _ e in
        let less : cond (same_place u.home l.home) (times u.of (first_with u.of to l.origins)) 0 + 1 ≡ cond (same_place u.home l.home) (times u.of l.origins) 0 =
        ap (λ t. cond t (times u.of (first_with u.of to l.origins)) 0 + 1) b.0 ∙ times_moved u.of to l.origins n b.1 ∙ sym (ap (λ t. cond t (times u.of l.origins) 0) b.0) in
        omega (arith, less)
    by_test false e ih = let z : times_in u l ≡ 0 = not_in u l e in let some : 0 < uses_of u ls = omega (arith, z, lt) in let h = ih some in omega (arith, z, h)

-- ---- all of them

renamed_first : (o to : Origin) (xs : List Origin) → same_origin o to ≡ false → map (moved o to) (first_with o to xs) ≡ map (moved o to) xs
renamed_first o to [] n = refl
renamed_first o to (x ∷ xs) n = by_test (same_origin o x) refl (renamed_first o to xs n)
  where
    by_test : (t : Bool) → same_origin o x ≡ t → map (moved o to) (first_with o to xs) ≡ map (moved o to) xs → map (moved o to) (cond t (to ∷ xs) (x ∷ first_with o to xs)) ≡ moved o to x ∷ map (moved o to) xs
    by_test true e ih = ap (λ y. y ∷ map (moved o to) xs) (skips (same_origin o to) to to n ∙ sym (picks (same_origin o x) to x e))
    by_test false e ih = ap (λ ys. moved o to x ∷ ys) ih

pub same_renamed : (u : Use) (to : Origin) (ls : List PlainList) → same_origin u.of to ≡ false → all_renamed u.home (moved u.of to) (use_moved u to ls) ≡ all_renamed u.home (moved u.of to) ls
same_renamed u to [] n = refl
same_renamed u to (l ∷ ls) n = by_test (has_use u l) refl (same_renamed u to ls n)
  where
    at_place : (t : Bool) → same_place u.home l.home ≡ t → has_use u l ≡ true → renamed_in u.home (moved u.of to) (record l { origins = first_with u.of to l.origins }) ≡ renamed_in u.home (moved u.of to) l
    at_place true e h =
        picks (same_place u.home l.home) (record l { origins = map (moved u.of to) (first_with u.of to l.origins) }) (record l { origins = first_with u.of to l.origins }) e
        ∙ ap (λ (xs : List Origin). record { home = l.home; origins = xs }) (renamed_first u.of to l.origins n)
        ∙ sym (picks (same_place u.home l.home) (record l { origins = map (moved u.of to) l.origins }) l e)
    at_place false e h = absurd (true≢false (sym (both_true _ _ h).0 ∙ e))

    by_test : (t : Bool) → has_use u l ≡ t → all_renamed u.home (moved u.of to) (use_moved u to ls) ≡ all_renamed u.home (moved u.of to) ls → all_renamed u.home (moved u.of to) (cond t (record l { origins = first_with u.of to l.origins } ∷ ls) (l ∷ use_moved u to ls)) ≡ renamed_in u.home (moved u.of to) l ∷ all_renamed u.home (moved u.of to) ls
    by_test true h ih = ap (λ k. k ∷ all_renamed u.home (moved u.of to) ls) (at_place (same_place u.home l.home) refl h)
    by_test false h ih = ap (λ ks. renamed_in u.home (moved u.of to) l ∷ ks) ih

none_renamed : (o to : Origin) (xs : List Origin) → times o xs ≡ 0 → map (moved o to) xs ≡ xs
none_renamed o to [] e = refl
none_renamed o to (x ∷ xs) e = by_test (same_origin o x) refl (λ h. none_renamed o to xs h) e
  where
    by_test : (t : Bool) → same_origin o x ≡ t → (times o xs ≡ 0 → map (moved o to) xs ≡ xs) → cond t 1 0 + times o xs ≡ 0 → moved o to x ∷ map (moved o to) xs ≡ x ∷ xs
    by_test true q ih e = absurd (omega (arith, e))
    by_test false q ih e = let h = ih (omega (arith, e)) in let g = skips (same_origin o x) to x q in λ i. g i ∷ h i

pub all_same : (u : Use) (to : Origin) (ls : List PlainList) → uses_of u ls ≡ 0 → all_renamed u.home (moved u.of to) ls ≡ ls
all_same u to [] e = refl
all_same u to (l ∷ ls) e = by_place (same_place u.home l.home) (all_same u to ls (omega (arith, e))) (omega (arith, e))
  where
    by_place : (t : Bool) → all_renamed u.home (moved u.of to) ls ≡ ls → cond t (times u.of l.origins) 0 ≡ 0 → cond t (record l { origins = map (moved u.of to) l.origins }) l ∷ all_renamed u.home (moved u.of to) ls ≡ l ∷ ls
    by_place true r h = let g = none_renamed u.of to l.origins h in λ i. record { home = l.home; origins = g i } ∷ r i
    by_place false r h = ap (λ ks. l ∷ ks) r

-- ---- one renaming after another

map_after : (f g h : Origin → Origin) → ((o : Origin) → f (g o) ≡ h o) → (xs : List Origin) → map f (map g xs) ≡ map h xs
map_after f g h e [] = refl
map_after f g h e (x ∷ xs) = let a = e x in let b = map_after f g h e xs in λ i. a i ∷ b i

map_same : (f : Origin → Origin) → ((o : Origin) → f o ≡ o) → (xs : List Origin) → map f xs ≡ xs
map_same f e [] = refl
map_same f e (x ∷ xs) = let a = e x in let b = map_same f e xs in λ i. a i ∷ b i

pub renamed_after : (p : Place) (f g h : Origin → Origin) → ((o : Origin) → f (g o) ≡ h o) → (ls : List PlainList) → all_renamed p f (all_renamed p g ls) ≡ all_renamed p h ls
renamed_after p f g h e [] = refl
renamed_after p f g h e (l ∷ ls) = let r = renamed_after p f g h e ls in let a = by_place (same_place p l.home) refl in λ i. a i ∷ r i
  where
    by_place : (t : Bool) → same_place p l.home ≡ t → renamed_in p f (renamed_in p g l) ≡ renamed_in p h l
    by_place true q =
        ap (renamed_in p f) (picks (same_place p l.home) (record l { origins = map g l.origins }) l q)
        ∙ picks (same_place p l.home) (record l { origins = map f (map g l.origins) }) (record l { origins = map g l.origins }) q
        ∙ ap (λ (xs : List Origin). record { home = l.home; origins = xs }) (map_after f g h e l.origins)
        ∙ sym (picks (same_place p l.home) (record l { origins = map h l.origins }) l q)
    by_place false q =
        ap (renamed_in p f) (skips (same_place p l.home) (record l { origins = map g l.origins }) l q)
        ∙ skips (same_place p l.home) (record l { origins = map f l.origins }) l q
        ∙ sym (skips (same_place p l.home) (record l { origins = map h l.origins }) l q)

pub renamed_same : (p : Place) (f : Origin → Origin) → ((o : Origin) → f o ≡ o) → (ls : List PlainList) → all_renamed p f ls ≡ ls
renamed_same p f e [] = refl
renamed_same p f e (l ∷ ls) = let r = renamed_same p f e ls in let a = by_place (same_place p l.home) in λ i. a i ∷ r i
  where
    by_place : (t : Bool) → cond t (record l { origins = map f l.origins }) l ≡ l
    by_place true = ap (λ (xs : List Origin). record { home = l.home; origins = xs }) (map_same f e l.origins)
    by_place false = refl

-- ---- what follows

between_none : (k q : ℕ) → (ltb k q && ltb q (k + 1)) ≡ false
between_none k q = by_test (ltb k q) refl
  where
    by_test : (t : Bool) → ltb k q ≡ t → (t && ltb q (k + 1)) ≡ false
    by_test true e = le-ltb q (k + 1) (omega (arith, ltb-true k q e))
    by_test false e = refl

-- whether an index is among the later ones, before and behind one more
abbrev moves : (k m q : ℕ) → Bool
moves k m q = ltb k q && ltb q m

moves_more : (k m q : ℕ) → k < m → eqb m q ≡ false → moves k m q ≡ moves k (m + 1) q
moves_more k m q lt ne = by_test (ltb q m) refl
  where
    by_test : (t : Bool) → ltb q m ≡ t → (ltb k q && ltb q m) ≡ (ltb k q && ltb q (m + 1))
    by_test true e = ap (λ b. ltb k q && b) (e ∙ sym (lt-ltb q (m + 1) (omega (arith, ltb-true q m e))))
    by_test false e = ap (λ b. ltb k q && b) (e ∙ sym (le-ltb q (m + 1) (let d = eqb-false m q ne in omega (arith, ltb-false q m e, d))))

moves_here : (k m q : ℕ) → k < m → eqb m q ≡ true → (moves k m q ≡ false) × (moves k (m + 1) q ≡ true)
moves_here k m q lt e =
    let z : m ≡ q = eqb-true m q e in
    (by_low (ltb k q), (λ i. (lt-ltb k q (omega (arith, z, lt))) i && (lt-ltb q (m + 1) (omega (arith, z))) i))
  where
    by_low : (t : Bool) → (t && ltb q m) ≡ false
    by_low true = le-ltb q m (let z : m ≡ q = eqb-true m q e in omega (arith, z))
    by_low false = refl

not_moved : (k m q : ℕ) → moves k m q ≡ true → eqb m (q - 1) ≡ false
not_moved k m q e =
    let low : ltb q m ≡ true = (both_true (ltb k q) (ltb q m) e).1 in
    let high : ltb k q ≡ true = (both_true (ltb k q) (ltb q m) e).0 in
    let a : q < m = ltb-true q m low in
    let b : k < q = ltb-true k q high in
    ne_eqb m (q - 1) (λ (z : m ≡ q - 1). omega (arith, a, b, z))

pub argument_none : (k : ℕ) (o : Origin) → argument_less k (k + 1) o ≡ o
argument_none k (Arg q) = skips (moves k (k + 1) q) (Arg (q - 1)) (Arg q) (between_none k q)
argument_none k (Out n q) = refl

pub argument_more : (k m : ℕ) → k < m → (o : Origin) → moved (Arg m) (Arg (m - 1)) (argument_less k m o) ≡ argument_less k (m + 1) o
argument_more k m lt (Out n q) = refl
argument_more k m lt (Arg q) = by_same (eqb m q) refl
  where
    by_moves : (t : Bool) → moves k m q ≡ t → eqb m q ≡ false → moved (Arg m) (Arg (m - 1)) (cond t (Arg (q - 1)) (Arg q)) ≡ cond t (Arg (q - 1)) (Arg q)
    by_moves true e n = skips (eqb m (q - 1)) (Arg (m - 1)) (Arg (q - 1)) (not_moved k m q e)
    by_moves false e n = skips (eqb m q) (Arg (m - 1)) (Arg q) n

    by_same : (t : Bool) → eqb m q ≡ t → moved (Arg m) (Arg (m - 1)) (cond (moves k m q) (Arg (q - 1)) (Arg q)) ≡ cond (moves k (m + 1) q) (Arg (q - 1)) (Arg q)
    by_same true e =
        let h = moves_here k m q lt e in
        ap (λ b. moved (Arg m) (Arg (m - 1)) (cond b (Arg (q - 1)) (Arg q))) h.0 ∙ picks (eqb m q) (Arg (m - 1)) (Arg q) e
        ∙ ap (λ n. Arg (n - 1)) (eqb-true m q e) ∙ sym (picks (moves k (m + 1) q) (Arg (q - 1)) (Arg q) h.1)
    by_same false e = by_moves (moves k m q) refl e ∙ ap (λ b. cond b (Arg (q - 1)) (Arg q)) (moves_more k m q lt e)

pub output_none : (n k : ℕ) (o : Origin) → output_less n k (k + 1) o ≡ o
output_none n k (Arg q) = refl
output_none n k (Out a q) = by_node (eqb a n)
  where
    by_node : (t : Bool) → cond (t && moves k (k + 1) q) (Out a (q - 1)) (Out a q) ≡ Out a q
    by_node true = skips (moves k (k + 1) q) (Out a (q - 1)) (Out a q) (between_none k q)
    by_node false = refl

pub output_more : (n k m : ℕ) → k < m → (o : Origin) → moved (Out n m) (Out n (m - 1)) (output_less n k m o) ≡ output_less n k (m + 1) o
output_more n k m lt (Arg q) = refl
output_more n k m lt (Out a q) = by_node (eqb a n) refl
  where
    by_moves : (t : Bool) → moves k m q ≡ t → eqb m q ≡ false → moved (Out n m) (Out n (m - 1)) (cond t (Out a (q - 1)) (Out a q)) ≡ cond t (Out a (q - 1)) (Out a q)
    by_moves true e d = skips (eqb n a && eqb m (q - 1)) (Out n (m - 1)) (Out a (q - 1)) (by_left (eqb n a))
      where
        by_left : (t : Bool) → (t && eqb m (q - 1)) ≡ false
        by_left true = not_moved k m q e
        by_left false = refl
    by_moves false e d = skips (eqb n a && eqb m q) (Out n (m - 1)) (Out a q) (by_left (eqb n a))
      where
        by_left : (t : Bool) → (t && eqb m q) ≡ false
        by_left true = d
        by_left false = refl

    by_same : (t : Bool) → eqb a n ≡ true → eqb m q ≡ t → moved (Out n m) (Out n (m - 1)) (cond (moves k m q) (Out a (q - 1)) (Out a q)) ≡ cond (moves k (m + 1) q) (Out a (q - 1)) (Out a q)
    by_same true d e =
        let h = moves_here k m q lt e in
        let z : n ≡ a = sym (eqb-true a n d) in
        ap (λ b. moved (Out n m) (Out n (m - 1)) (cond b (Out a (q - 1)) (Out a q))) h.0
        ∙ picks (eqb n a && eqb m q) (Out n (m - 1)) (Out a q) (λ i. (eq-eqb n a z) i && e i)
        ∙ (λ i. Out (z i) (eqb-true m q e i - 1)) ∙ sym (picks (moves k (m + 1) q) (Out a (q - 1)) (Out a q) h.1)
    by_same false d e = by_moves (moves k m q) refl e ∙ ap (λ b. cond b (Out a (q - 1)) (Out a q)) (moves_more k m q lt e)

    by_node : (t : Bool) → eqb a n ≡ t → moved (Out n m) (Out n (m - 1)) (cond (t && moves k m q) (Out a (q - 1)) (Out a q)) ≡ cond (t && moves k (m + 1) q) (Out a (q - 1)) (Out a q)
    by_node true d = by_same (eqb m q) d refl
    by_node false d = skips (eqb n a && eqb m q) (Out n (m - 1)) (Out a q) (ap (λ b. b && eqb m q) (ne_eqb n a (λ z. eqb-false a n d (sym z))))

pub argument_other : (q : ℕ) → 0 < q → same_origin (Arg q) (Arg (q - 1)) ≡ false
argument_other q lt = ne_eqb q (q - 1) (λ (z : q ≡ q - 1). omega (arith, lt, z))

pub output_other : (n q : ℕ) → 0 < q → same_origin (Out n q) (Out n (q - 1)) ≡ false
output_other n q lt = by_left (eqb n n)
  where
    by_left : (t : Bool) → (t && eqb q (q - 1)) ≡ false
    by_left true = argument_other q lt
    by_left false = refl

-- ---- the lists with their names

pub moved_more : (u v w : PlainUses) (used : Use) (to : Origin) → same_origin used.of to ≡ false
    → (v.names ≡ u.names) × (v.room ≡ u.room) × (all_renamed used.home (moved used.of to) v.lists ≡ all_renamed used.home (moved used.of to) u.lists)
    → w ≡ record v { lists = use_moved used to v.lists }
    → (w.names ≡ u.names) × (w.room ≡ u.room) × (all_renamed used.home (moved used.of to) w.lists ≡ all_renamed used.home (moved used.of to) u.lists)
moved_more u v w used to n h e = (
  ap (λ (r : PlainUses). r.names) e ∙ h.0,
  ap (λ (r : PlainUses). r.room) e ∙ h.1,
  ap (λ (r : PlainUses). all_renamed used.home (moved used.of to) r.lists) e ∙ same_renamed used to v.lists n ∙ h.2,
)

pub moved_less : (v w : PlainUses) (used : Use) (to : Origin) → same_origin used.of to ≡ false → 0 < uses_of used v.lists → w ≡ record v { lists = use_moved used to v.lists }
    → uses_of used w.lists < uses_of used v.lists
moved_less v w used to n lt e =
    let same : uses_of used w.lists ≡ uses_of used (use_moved used to v.lists) = ap (λ (r : PlainUses). uses_of used r.lists) e in
    omega (arith, one_less used to v.lists n lt, same)

pub moved_all : (u v : PlainUses) (used : Use) (to : Origin)
    → (v.names ≡ u.names) × (v.room ≡ u.room) × (all_renamed used.home (moved used.of to) v.lists ≡ all_renamed used.home (moved used.of to) u.lists)
    → uses_of used v.lists ≡ 0 → v ≡ record u { lists = all_renamed used.home (moved used.of to) u.lists }
moved_all u v used to h none =
    let same : v.lists ≡ all_renamed used.home (moved used.of to) u.lists = sym (all_same used to v.lists none) ∙ h.2 in
    λ i. record { names = h.0 i; lists = same i; room = h.1 i }

pub follow_none : (u : PlainUses) (p : Place) (f : Origin → Origin) → ((o : Origin) → f o ≡ o) → u ≡ record u { lists = all_renamed p f u.lists }
follow_none u p f e = let same : u.lists ≡ all_renamed p f u.lists = sym (renamed_same p f e u.lists) in λ i. record { names = u.names; lists = same i; room = u.room }

pub follow_more : (u v w : PlainUses) (p : Place) (f g h : Origin → Origin) → ((o : Origin) → f (g o) ≡ h o) → v ≡ record u { lists = all_renamed p g u.lists } → w ≡ record v { lists = all_renamed p f v.lists }
    → w ≡ record u { lists = all_renamed p h u.lists }
follow_more u v w p f g h e a b =
    let same : all_renamed p f (all_renamed p g u.lists) ≡ all_renamed p h u.lists = renamed_after p f g h e u.lists in
    b ∙ ap (λ (r : PlainUses). record r { lists = all_renamed p f r.lists }) a ∙ (λ i. record { names = u.names; lists = same i; room = u.room })

pub follow_named : (u v : PlainUses) (lists : List PlainList) (x : Use) → v ≡ record u { lists = lists } → IsNamed x u.names → IsNamed x v.names
follow_named u v lists x e h = let P : PlainUses → Type 0 = λ r. IsNamed x r.names in subst P (sym e) h
