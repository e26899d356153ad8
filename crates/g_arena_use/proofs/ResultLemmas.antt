-- Changes of the results of a region as changes of the nodes that are seen.
use Rattle.std.proofs.Common.{◌≡◌, ℕ, zero, suc, ◌+◌, ◌<◌, Bool, true, false, ◌&&◌, ◌||◌, cond, eqb, Option, Some, None, option_map, List, [], ◌∷◌, length, map, refl, ap, sym, ◌∙◌, subst, arith, true≢false}
use Rattle.std.specs.Prelude.{slice_get}
use Rattle.std.proofs.lemmas.Bool.{eqb-true, eqb-false, eq-eqb, or_parts}
use Rattle.std.proofs.lemmas.Option.{same_Some}
use Rattle.cell_lists.specs.Lists.{is_in, AreDistinct}
use Rattle.g_graph.specs.declared.op.Kind.{Kind}
use Rattle.g_graph.specs.declared.op.Origin.{Origin}
use Rattle.g_graph.specs.Scope.{same_origin}
use Rattle.g_graph.specs.WellFormed.{some_of}
use Rattle.g_arena_def.specs.declared.place.Place.{Place}
use Rattle.g_arena_def.specs.Flat.{FlatRegion, FlatNode, same_node, same_place}
use Rattle.g_arena_def.specs.Edits.{node_with, at_with, first_with}
use Rattle.g_arena_use.specs.declared.use_index.Use.{Use}
use Rattle.g_arena_use.specs.Lists.{PlainList, origins_at, has_use, use_moved, renamed_in, all_renamed}
use Rattle.g_arena_use.specs.Plain.{PlainSlot, is_live, slot_at, live_slot, numbers_of}
use Rattle.g_arena_use.specs.Seen.{regions_seen, slot_seen, nodes_seen, homes_of}
use Rattle.g_arena_use.proofs.SeenLemmas.{apart, picks, skips}
use Rattle.g_arena_use.proofs.UseLemmas.{place_true}
use Rattle.g_arena_use.proofs.EditLemmas.{list_edited}

node_self : (q : Option ℕ) → same_node q q ≡ true
node_self None = refl
node_self (Some n) = eq-eqb n n refl

pub place_self : (q : Place) → same_place q q ≡ true
place_self q = λ i. node_self q.node i && eq-eqb q.region q.region refl i

-- one list alone has a place
pub record IsOnly (p : Place) (j : ℕ) (ls : List PlainList) : Type 0 where
  pub there : slice_get (homes_of ls) j ≡ Some p
  pub alone : (k : ℕ) → slice_get (homes_of ls) k ≡ Some p → k ≡ j

later_only : (p : Place) (j : ℕ) (l : PlainList) (ls : List PlainList) → IsOnly p (suc j) (l ∷ ls) → IsOnly p j ls
later_only p j l ls o = record { there = o.there; alone = λ k e. let z : suc k ≡ suc j = o.alone (suc k) e in omega (arith, z) }

other_first : (p : Place) (j : ℕ) (l : PlainList) (ls : List PlainList) → IsOnly p (suc j) (l ∷ ls) → same_place p l.home ≡ false
other_first p j l ls o = by (same_place p l.home) refl
  where
    by : (t : Bool) → same_place p l.home ≡ t → same_place p l.home ≡ false
    by true e = absurd (let z : 0 ≡ suc j = o.alone 0 (ap Some (sym (place_true p l.home e))) in omega (arith, z))
    by false e = e

own_first : (p : Place) (l : PlainList) (ls : List PlainList) → IsOnly p 0 (l ∷ ls) → same_place p l.home ≡ true
own_first p l ls o = ap (same_place p) (same_Some l.home p o.there) ∙ place_self p

none_renamed : (p : Place) (f : Origin → Origin) (ls : List PlainList) → ((k : ℕ) → slice_get (homes_of ls) k ≡ Some p → ⊥) → all_renamed p f ls ≡ ls
none_renamed p f [] h = refl
none_renamed p f (l ∷ ls) h = by (none_renamed p f ls (λ k e. h (suc k) e)) (same_place p l.home) refl
  where
    by : all_renamed p f ls ≡ ls → (t : Bool) → same_place p l.home ≡ t → renamed_in p f l ∷ all_renamed p f ls ≡ l ∷ ls
    by rest true e = absurd (h 0 (ap Some (sym (place_true p l.home e))))
    by rest false e = let s = skips (same_place p l.home) (record l { origins = map f l.origins }) l e in λ i. s i ∷ rest i

pub renamed_one : (p : Place) (f : Origin → Origin) (j : ℕ) (ls : List PlainList) → IsOnly p j ls → all_renamed p f ls ≡ at_with j (list_edited (map f)) ls
renamed_one p f j [] o = absurd (apart p o.there)
renamed_one p f zero (l ∷ ls) o =
    let s = picks (same_place p l.home) (record l { origins = map f l.origins }) l (own_first p l ls o) in
    let r = none_renamed p f ls (λ k e. let z : suc k ≡ 0 = o.alone (suc k) e in omega (arith, z)) in
    λ i. s i ∷ r i
renamed_one p f (suc j) (l ∷ ls) o =
    let s = skips (same_place p l.home) (record l { origins = map f l.origins }) l (other_first p j l ls o) in
    let r = renamed_one p f j ls (later_only p j l ls o) in
    λ i. s i ∷ r i

first_none : (from to : Origin) (xs : List Origin) → some_of (same_origin from) xs ≡ false → first_with from to xs ≡ xs
first_none from to [] h = refl
first_none from to (x ∷ xs) h =
    let p = or_parts (same_origin from x) (some_of (same_origin from) xs) h in
    skips (same_origin from x) (to ∷ xs) (x ∷ first_with from to xs) p.0 ∙ ap (λ ys. x ∷ ys) (first_none from to xs p.1)

none_moved : (u : Use) (to : Origin) (ls : List PlainList) → ((k : ℕ) → slice_get (homes_of ls) k ≡ Some u.home → ⊥) → use_moved u to ls ≡ ls
none_moved u to [] h = refl
none_moved u to (l ∷ ls) h = by (none_moved u to ls (λ k f. h (suc k) f)) (same_place u.home l.home) refl
  where
    by : use_moved u to ls ≡ ls → (t : Bool) → same_place u.home l.home ≡ t → cond (t && some_of (same_origin u.of) l.origins) (record l { origins = first_with u.of to l.origins } ∷ ls) (l ∷ use_moved u to ls) ≡ l ∷ ls
    by rest true e = absurd (h 0 (ap Some (sym (place_true u.home l.home e))))
    by rest false e = ap (λ r. l ∷ r) rest

pub moved_one : (u : Use) (to : Origin) (j : ℕ) (ls : List PlainList) → IsOnly u.home j ls → use_moved u to ls ≡ at_with j (list_edited (first_with u.of to)) ls
moved_one u to j [] o = absurd (apart u.home o.there)
moved_one u to zero (l ∷ ls) o =
    ap (λ b. cond (b && some_of (same_origin u.of) l.origins) (record l { origins = first_with u.of to l.origins } ∷ ls) (l ∷ use_moved u to ls)) (own_first u.home l ls o)
    ∙ by (some_of (same_origin u.of) l.origins) refl
  where
    by : (t : Bool) → some_of (same_origin u.of) l.origins ≡ t → cond t (record l { origins = first_with u.of to l.origins } ∷ ls) (l ∷ use_moved u to ls) ≡ list_edited (first_with u.of to) l ∷ ls
    by true e = refl
    by false e =
        let s : l ≡ list_edited (first_with u.of to) l = ap (λ (os : List Origin). record { home = l.home; origins = os }) (sym (first_none u.of to l.origins e)) in
        let r = none_moved u to ls (λ k f. let z : suc k ≡ 0 = o.alone (suc k) f in omega (arith, z)) in
        λ i. s i ∷ r i
moved_one u to (suc j) (l ∷ ls) o =
    skips (has_use u l) (record l { origins = first_with u.of to l.origins } ∷ ls) (l ∷ use_moved u to ls) (ap (λ b. b && some_of (same_origin u.of) l.origins) (other_first u.home j l ls o))
    ∙ ap (λ r. l ∷ r) (moved_one u to j ls (later_only u.home j l ls o))

-- ---- one list changes

pub origins_same : (g : List Origin → List Origin) (j k : ℕ) (ls : List PlainList) → (j ≡ k → ⊥) → origins_at (at_with j (list_edited g) ls) k ≡ origins_at ls k
origins_same g j k [] n = refl
origins_same g zero zero (l ∷ ls) n = absurd (n refl)
origins_same g zero (suc k) (l ∷ ls) n = refl
origins_same g (suc j) zero (l ∷ ls) n = refl
origins_same g (suc j) (suc k) (l ∷ ls) n = origins_same g j k ls (λ e. n (ap suc e))

pub origins_edited : (g : List Origin → List Origin) (j : ℕ) (ls : List PlainList) → j < length ls → origins_at (at_with j (list_edited g) ls) j ≡ g (origins_at ls j)
origins_edited g j [] lt = absurd (omega arith)
origins_edited g zero (l ∷ ls) lt = refl
origins_edited g (suc j) (l ∷ ls) lt = origins_edited g j ls (omega arith)

abbrev pub results_edited : (List Origin → List Origin) → FlatRegion → FlatRegion
results_edited g r = record r { results = g r.results }

regions_same : (g : List Origin → List Origin) (j first : ℕ) (kss : List (List Kind)) (ls : List PlainList) → ((r : ℕ) → r < length kss → first + r ≡ j → ⊥)
    → regions_seen (at_with j (list_edited g) ls) first kss ≡ regions_seen ls first kss
regions_same g j first [] ls n = refl
regions_same g j first (ks ∷ kss) ls n =
    let h = origins_same g j first ls (λ e. n 0 (omega arith) (omega (arith, e))) in
    let r = regions_same g j (suc first) kss ls (λ r lt e. n (suc r) (omega (arith, lt)) (omega (arith, e))) in
    λ i. record { args = ks; results = h i } ∷ r i

regions_edited : (g : List Origin → List Origin) (j first r : ℕ) (kss : List (List Kind)) (ls : List PlainList) → first + r ≡ j → r < length kss → j < length ls
    → regions_seen (at_with j (list_edited g) ls) first kss ≡ at_with r (results_edited g) (regions_seen ls first kss)
regions_edited g j first r [] ls e lt fits = absurd (omega (arith, lt))
regions_edited g j first zero (ks ∷ kss) ls e lt fits =
    let z : first ≡ j = omega (arith, e) in
    let h = ap (origins_at (at_with j (list_edited g) ls)) z ∙ origins_edited g j ls fits ∙ ap (λ k. g (origins_at ls k)) (sym z) in
    let r = regions_same g j (suc first) kss ls (λ r l f. omega (arith, f, e)) in
    λ i. record { args = ks; results = h i } ∷ r i
regions_edited g j first (suc r) (ks ∷ kss) ls e lt fits =
    let h = origins_same g j first ls (λ z. omega (arith, z, e)) in
    let t = regions_edited g j (suc first) r kss ls (omega (arith, e)) (omega (arith, lt)) fits in
    λ i. record { args = ks; results = h i } ∷ t i

abbrev pub region_edited : (r : ℕ) → (List Origin → List Origin) → FlatNode → FlatNode
region_edited r g x = record x { regions = at_with r (results_edited g) x.regions }

-- no node has the region
pub results_outside : (g : List Origin → List Origin) (j : ℕ) (xs ls : List PlainList) (ss : List PlainSlot)
    → ((i r : ℕ) (s : PlainSlot) → slice_get ss i ≡ Some s → r < length s.regions → s.results + r ≡ j → ⊥)
    → nodes_seen xs (at_with j (list_edited g) ls) ss ≡ nodes_seen xs ls ss
results_outside g j xs ls [] n = refl
results_outside g j [] ls (s ∷ ss) n = refl
results_outside g j (x ∷ xs) ls (s ∷ ss) n =
    let h = regions_same g j s.results s.regions ls (λ r lt e. n 0 r s refl lt e) in
    let t = results_outside g j xs ls ss (λ i r q f lt e. n (suc i) r q f lt e) in
    λ i. cond (is_live s) (record (slot_seen x.origins ls s) { regions = h i } ∷ t i) (t i)

-- a node has it
pub results_inside : (g : List Origin → List Origin) (j n i r : ℕ) (xs ls : List PlainList) (ss : List PlainSlot) → length xs ≡ length ss → AreDistinct (numbers_of ss)
    → live_slot n ss ≡ Some i → (slot_at ss i).results + r ≡ j → r < length (slot_at ss i).regions → j < length ls
    → ((k q : ℕ) (s : PlainSlot) → slice_get ss k ≡ Some s → q < length s.regions → s.results + q ≡ j → s.id ≡ n)
    → nodes_seen xs (at_with j (list_edited g) ls) ss ≡ node_with n (region_edited r g) (nodes_seen xs ls ss)
results_inside g j n i r xs ls [] e d h q lt fits only = absurd (apart i h)
results_inside g j n i r [] ls (s ∷ ss) e d h q lt fits only = absurd (omega (arith, e))
results_inside g j n i r (x ∷ xs) ls (s ∷ ss) e d h q lt fits only =
    by_own (λ k f own few. results_inside g j n k r xs ls ss (omega (arith, e)) d.1 f own few fits (λ m p u w c y. only (suc m) p u w c y)) (eqb s.id n) refl
  where
    here_live : (t : Bool) → cond t (Some 0) None ≡ Some i → (t ≡ true) × (i ≡ 0)
    here_live true f = (refl, sym (same_Some 0 i f))
    here_live false f = absurd (apart i f)

    one_more : (o : Option ℕ) → option_map suc o ≡ Some i → (k : ℕ) × (o ≡ Some k) × (i ≡ suc k)
    one_more None f = absurd (apart i f)
    one_more (Some k) f = (k, refl, sym (same_Some _ _ f))

    in_list : (ts : List PlainSlot) (k : ℕ) (t : PlainSlot) → slice_get ts k ≡ Some t → is_in t.id (numbers_of ts) ≡ true
    in_list [] k t f = absurd (apart t f)
    in_list (u ∷ ts) zero t f = ap (λ b. b || is_in t.id (numbers_of ts)) (eq-eqb t.id u.id (ap (λ (v : PlainSlot). v.id) (sym (same_Some u t f))))
    in_list (u ∷ ts) (suc k) t f = ap (λ b. eqb t.id u.id || b) (in_list ts k t f) ∙ or_true (eqb t.id u.id)
      where
        or_true : (b : Bool) → (b || true) ≡ true
        or_true true = refl
        or_true false = refl

    at_head : (eqb s.id n ≡ true) → (is_live s ≡ true) → (i ≡ 0) → nodes_seen (x ∷ xs) (at_with j (list_edited g) ls) (s ∷ ss) ≡ node_with n (region_edited r g) (nodes_seen (x ∷ xs) ls (s ∷ ss))
    at_head b l z =
        let own : s.results + r ≡ j = ap (λ k. (slot_at (s ∷ ss) k).results + r) (sym z) ∙ q in
        let few : r < length s.regions = (let P : ℕ → Type 0 = λ k. r < length (slot_at (s ∷ ss) k).regions in subst P z lt) in
        let rs = regions_edited g j s.results r s.regions ls own few fits in
        let P : ℕ → Type 0 = λ m. is_in m (numbers_of ss) ≡ false in
        let rest = results_outside g j xs ls ss (λ k p t f w c. true≢false (sym (in_list ss k t f) ∙ subst P (eqb-true s.id n b ∙ sym (only (suc k) p t f w c)) d.0)) in
        picks (is_live s) (slot_seen x.origins (at_with j (list_edited g) ls) s ∷ nodes_seen xs (at_with j (list_edited g) ls) ss) (nodes_seen xs (at_with j (list_edited g) ls) ss) l
        ∙ (λ k. record (slot_seen x.origins ls s) { regions = rs k } ∷ rest k)
        ∙ sym (picks (eqb s.id n) (region_edited r g (slot_seen x.origins ls s) ∷ nodes_seen xs ls ss) (slot_seen x.origins ls s ∷ node_with n (region_edited r g) (nodes_seen xs ls ss)) b)
        ∙ ap (node_with n (region_edited r g)) (sym (picks (is_live s) (slot_seen x.origins ls s ∷ nodes_seen xs ls ss) (nodes_seen xs ls ss) l))

    at_rest : (k : ℕ) → nodes_seen xs (at_with j (list_edited g) ls) ss ≡ node_with n (region_edited r g) (nodes_seen xs ls ss) → (eqb s.id n ≡ false) → nodes_seen (x ∷ xs) (at_with j (list_edited g) ls) (s ∷ ss) ≡ node_with n (region_edited r g) (nodes_seen (x ∷ xs) ls (s ∷ ss))
    at_rest k t b =
        let same = regions_same g j s.results s.regions ls (λ p c y. eqb-false s.id n b (only 0 p s refl c y)) in
        by_live t same (is_live s)
      where
        by_live : nodes_seen xs (at_with j (list_edited g) ls) ss ≡ node_with n (region_edited r g) (nodes_seen xs ls ss) → regions_seen (at_with j (list_edited g) ls) s.results s.regions ≡ regions_seen ls s.results s.regions → (v : Bool)
            → cond v (slot_seen x.origins (at_with j (list_edited g) ls) s ∷ nodes_seen xs (at_with j (list_edited g) ls) ss) (nodes_seen xs (at_with j (list_edited g) ls) ss)
            ≡ node_with n (region_edited r g) (cond v (slot_seen x.origins ls s ∷ nodes_seen xs ls ss) (nodes_seen xs ls ss))
        by_live t same true =
            (λ k. record (slot_seen x.origins ls s) { regions = same k } ∷ t k)
            ∙ sym (skips (eqb s.id n) (region_edited r g (slot_seen x.origins ls s) ∷ nodes_seen xs ls ss) (slot_seen x.origins ls s ∷ node_with n (region_edited r g) (nodes_seen xs ls ss)) b)
        by_live t same false = t

    by_own : ((k : ℕ) → live_slot n ss ≡ Some k → (slot_at ss k).results + r ≡ j → r < length (slot_at ss k).regions → nodes_seen xs (at_with j (list_edited g) ls) ss ≡ node_with n (region_edited r g) (nodes_seen xs ls ss))
        → (b : Bool) → eqb s.id n ≡ b → nodes_seen (x ∷ xs) (at_with j (list_edited g) ls) (s ∷ ss) ≡ node_with n (region_edited r g) (nodes_seen (x ∷ xs) ls (s ∷ ss))
    by_own ih true b =
        let f = here_live (is_live s) (sym (picks (eqb s.id n) (cond (is_live s) (Some 0) None) (option_map suc (live_slot n ss)) b) ∙ h) in
        at_head b f.0 f.1
    by_own ih false b =
        let f = one_more (live_slot n ss) (sym (skips (eqb s.id n) (cond (is_live s) (Some 0) None) (option_map suc (live_slot n ss)) b) ∙ h) in
        let own : (slot_at ss f.0).results + r ≡ j = ap (λ m. (slot_at (s ∷ ss) m).results + r) (sym f.2) ∙ q in
        let few : r < length (slot_at ss f.0).regions = (let P : ℕ → Type 0 = λ m. r < length (slot_at (s ∷ ss) m).regions in subst P f.2 lt) in
        at_rest f.0 (ih f.0 f.1 own few) b
