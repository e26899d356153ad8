-- What is stored of a list of nodes is indexed, and the nodes that are seen of it are those of the list.
use Rattle.std.proofs.Common.{◌≡◌, ℕ, zero, suc, ◌+◌, ◌-◌, ◌^◌, ◌<◌, ◌≤◌, Bool, true, false, ◌&&◌, ◌||◌, not, cond, eqb, ltb, Option, Some, None, List, [], ◌∷◌, ◌++◌, ◌⊎◌, inl, inr, length, map, refl, ap, sym, ◌∙◌, subst, append_assoc, length-append, arith, true≢false}
use Rattle.std.specs.Prelude.{IsSome, option_and_then, slice_get}
use Rattle.std.proofs.lemmas.Bool.{eqb-true, ltb-true, ltb-false}
use Rattle.std.proofs.lemmas.List.{length-map, append-nil, get_or_at}
use Rattle.std.proofs.lemmas.Option.{same_Some}
use Rattle.cell_lists.specs.Lists.{is_in, AreDistinct}
use Rattle.g_graph.specs.declared.op.Kind.{Kind}
use Rattle.g_graph.specs.declared.op.Origin.{Origin}
use Rattle.g_graph.specs.declared.op.Origin.TheVariants.{Arg, Out}
use Rattle.g_graph.specs.Plain.{RegionTree, region, NodeTree, node, NodeTrees, no_nodes, node_then, RegionTrees, no_regions, region_then, PlainLambda}
use Rattle.g_graph.specs.Ids.{region_ids, node_ids, nodes_ids, regions_ids}
use Rattle.g_graph.specs.WellFormed.{some_of, all_of, distinct, body_fits, numbers_fit, every_region, region_fits, leaves_fit, IsWellFormed}
use Rattle.g_arena_def.specs.declared.place.Place.{Place}
use Rattle.g_arena_def.specs.Flat.{FlatRegion, FlatNode, body_place, place_in, same_place, in_region, in_nodes, in_node, in_regions}
use Rattle.g_arena_use.specs.declared.use_index.Use.{Use}
use Rattle.g_arena_use.specs.UseCells.{IsNamed}
use Rattle.g_arena_use.specs.Lists.{PlainList, PlainUses, no_list, origins_at, use_in}
use Rattle.g_arena_use.specs.Plain.{PlainSlot, all_live, slot_at, numbers_of, live_slot, args_of, output_in, kind_at}
use Rattle.g_arena_use.specs.Seen.{homes_of, regions_seen, nodes_seen}
use Rattle.g_arena_use.specs.Indexed.{IsOfSlot, AreIndexed}
use Rattle.g_arena_use.proofs.SeenLemmas.{apart, same_slot, slot_is}
use Rattle.g_arena_use.proofs.UseLemmas.{place_true}
use Rattle.g_arena_use.proofs.ReadLemmas.{slot_there, get_within, some_within}
use Rattle.g_arena.specs.Stores as store
use Rattle.g_arena.specs.Stores.{ids_of, slot_of, slots_of, inputs_list, lists_of, results_of, body_list, AreRows, AreCovered, AreStored, AreReady, AreMade, AreParts}

-- ---- the slots

pub slots_numbers : (k : ℕ) (xs : List FlatNode) → numbers_of (slots_of k xs) ≡ ids_of xs
slots_numbers k [] = refl
slots_numbers k (x ∷ xs) = ap (λ ns. x.id ∷ ns) (slots_numbers (k + length x.regions) xs)

pub slots_live : (k : ℕ) (xs : List FlatNode) → all_live (slots_of k xs) ≡ true
slots_live k [] = refl
slots_live k (x ∷ xs) = slots_live (k + length x.regions) xs

slots_homes : (k : ℕ) (xs : List FlatNode) → homes_of (map inputs_list xs) ≡ map (λ (s : PlainSlot). s.home) (slots_of k xs)
slots_homes k [] = refl
slots_homes k (x ∷ xs) = ap (λ ps. x.home ∷ ps) (slots_homes (k + length x.regions) xs)

slots_there : (k : ℕ) (xs : List FlatNode) (i : ℕ) → (slot_at (slots_of k xs) i).gone ≡ None
slots_there k [] i = refl
slots_there k (x ∷ xs) zero = refl
slots_there k (x ∷ xs) (suc i) = slots_there (k + length x.regions) xs i

slot_back : (k : ℕ) (xs : List FlatNode) (i : ℕ) (s : PlainSlot) → slice_get (slots_of k xs) i ≡ Some s → (x : FlatNode) × (slice_get xs i ≡ Some x) × (s.home ≡ x.home) × (s.gone ≡ None)
slot_back k [] i s e = absurd (apart s e)
slot_back k (x ∷ xs) zero s e = let q : slot_of k x ≡ s = same_Some _ _ e in (x, refl, sym (ap (λ (y : PlainSlot). y.home) q), sym (ap (λ (y : PlainSlot). y.gone) q))
slot_back k (x ∷ xs) (suc i) s e = slot_back (k + length x.regions) xs i s e

-- ---- the lists of results

lists_long : (n k : ℕ) (rs : List FlatRegion) → length (lists_of n k rs) ≡ length rs
lists_long n k [] = refl
lists_long n k (r ∷ rs) = ap suc (lists_long n (suc k) rs)

-- the list at an index is the one behind those in front
behind : (front rest : List PlainList) (k : ℕ) → slice_get (homes_of (front ++ rest)) (length front + k) ≡ slice_get (homes_of rest) k
behind [] rest k = ap (slice_get (homes_of rest)) (omega arith)
behind (l ∷ front) rest k = ap (slice_get (l.home ∷ homes_of (front ++ rest))) (let z : length (l ∷ front) + k ≡ suc (length front + k) = omega arith in z) ∙ behind front rest k

lists_place : (n j : ℕ) (rs : List FlatRegion) (rest : List PlainList) (k : ℕ) → k < length rs → slice_get (homes_of (lists_of n j rs ++ rest)) k ≡ Some (place_in n (j + k))
lists_place n j [] rest k lt = absurd (omega (arith, lt))
lists_place n j (r ∷ rs) rest zero lt = ap (λ m. Some (place_in n m)) (omega arith)
lists_place n j (r ∷ rs) rest (suc k) lt = lists_place n (suc j) rs rest k (omega (arith, lt)) ∙ ap (λ m. Some (place_in n m)) (omega arith)

-- what stands in front of the lists of the later nodes
abbrev with_lists : List PlainList → FlatNode → List PlainList
with_lists front x = front ++ lists_of x.id 0 x.regions

front_long : (front : List PlainList) (x : FlatNode) → length (with_lists front x) ≡ length front + length x.regions
front_long front x = omega (arith, length-append front (lists_of x.id 0 x.regions), lists_long x.id 0 x.regions)

front_more : (front : List PlainList) (x : FlatNode) (xs : List FlatNode) → with_lists front x ++ results_of xs ≡ front ++ results_of (x ∷ xs)
front_more front x xs = append_assoc front (lists_of x.id 0 x.regions) (results_of xs)

results_placed : (front : List PlainList) (xs : List FlatNode) (i k : ℕ) (s : PlainSlot) → slice_get (slots_of (length front) xs) i ≡ Some s → k < length s.regions
    → slice_get (homes_of (front ++ results_of xs)) (s.results + k) ≡ Some (place_in s.id k)
results_placed front [] i k s e lt = absurd (apart s e)
results_placed front (x ∷ xs) zero k s e lt =
    let q : slot_of (length front) x ≡ s = same_Some _ _ e in
    let few : k < length x.regions = omega (arith, lt, ap (λ (y : PlainSlot). length y.regions) q, length-map x.regions (λ (r : FlatRegion). r.args)) in
    ap (λ (y : PlainSlot). slice_get (homes_of (front ++ results_of (x ∷ xs))) (y.results + k)) (sym q)
    ∙ behind front (results_of (x ∷ xs)) k
    ∙ lists_place x.id 0 x.regions (results_of xs) k few
    ∙ ap (λ m. Some (place_in x.id m)) (omega arith)
    ∙ ap (λ (y : PlainSlot). Some (place_in y.id k)) q
results_placed front (x ∷ xs) (suc i) k s e lt =
    let n = front_long front x in
    ap (λ ls. slice_get (homes_of ls) (s.results + k)) (sym (front_more front x xs))
    ∙ results_placed (with_lists front x) xs i k s (ap (λ m. slice_get (slots_of m xs) i) n ∙ e) lt

results_only : (front : List PlainList) (xs : List FlatNode) (k : ℕ) → length front ≤ k → k < length (front ++ results_of xs) → IsOfSlot k (slots_of (length front) xs)
results_only front [] k le lt = absurd (omega (arith, le, lt, ap length (append-nil front)))
results_only front (x ∷ xs) k le lt = by (ltb k (length front + length x.regions)) refl (λ f g. results_only (with_lists front x) xs k f g)
  where
    by : (t : Bool) → ltb k (length front + length x.regions) ≡ t → (length (with_lists front x) ≤ k → k < length (with_lists front x ++ results_of xs) → IsOfSlot k (slots_of (length (with_lists front x)) xs))
        → IsOfSlot k (slots_of (length front) (x ∷ xs))
    by true e go = record {
      at = 0;
      slot = slot_of (length front) x;
      region = k - length front;
      there = refl;
      inside = omega (arith, le, ltb-true k (length front + length x.regions) e, length-map x.regions (λ (r : FlatRegion). r.args));
      own = omega (arith, le);
    }
    by false e go =
        let n = front_long front x in
        let r = go (omega (arith, n, ltb-false k (length front + length x.regions) e)) (omega (arith, lt, ap length (front_more front x xs))) in
        let there : slice_get (slots_of (length front + length x.regions) xs) r.at ≡ Some r.slot = ap (λ m. slice_get (slots_of m xs) r.at) (sym n) ∙ r.there in
        record { at = suc r.at; slot = r.slot; region = r.region; there = there; inside = r.inside; own = r.own }

-- ---- what is seen

regions_made : (front : List PlainList) (n j : ℕ) (rs : List FlatRegion) (rest : List PlainList) → regions_seen (front ++ (lists_of n j rs ++ rest)) (length front) (store.args_of rs) ≡ rs
regions_made front n j [] rest = refl
regions_made front n j (r ∷ rs) rest =
    let l : PlainList = record { home = place_in n j; origins = r.results } in
    let here : origins_at (front ++ (lists_of n j (r ∷ rs) ++ rest)) (length front) ≡ r.results = ap (λ (y : PlainList). y.origins) (get_or_at front l (lists_of n (suc j) rs ++ rest) no_list (length front) refl) in
    let more : (front ++ l ∷ []) ++ (lists_of n (suc j) rs ++ rest) ≡ front ++ (lists_of n j (r ∷ rs) ++ rest) = append_assoc front (l ∷ []) (lists_of n (suc j) rs ++ rest) in
    let long : length (front ++ l ∷ []) ≡ suc (length front) = omega (arith, length-append front (l ∷ [])) in
    let tail : regions_seen (front ++ (lists_of n j (r ∷ rs) ++ rest)) (suc (length front)) (store.args_of rs) ≡ rs = (λ i. regions_seen (sym more i) (sym long i) (store.args_of rs)) ∙ regions_made (front ++ l ∷ []) n (suc j) rs rest in
    λ i. record { args = r.args; results = here i } ∷ tail i

seen_made : (front : List PlainList) (xs : List FlatNode) → nodes_seen (map inputs_list xs) (front ++ results_of xs) (slots_of (length front) xs) ≡ xs
seen_made front [] = refl
seen_made front (x ∷ xs) =
    let rs : regions_seen (front ++ results_of (x ∷ xs)) (length front) (store.args_of x.regions) ≡ x.regions = regions_made front x.id 0 x.regions (results_of xs) in
    let n = front_long front x in
    let rest : nodes_seen (map inputs_list xs) (front ++ results_of (x ∷ xs)) (slots_of (length front + length x.regions) xs) ≡ xs =
    (λ i. nodes_seen (map inputs_list xs) (sym (front_more front x xs) i) (slots_of (sym n i) xs)) ∙ seen_made (with_lists front x) xs in
    λ i. record { id = x.id; op = x.op; inputs = x.inputs; outputs = x.outputs; regions = rs i; home = x.home } ∷ rest i

-- ---- each use has a name

pub covers : (args : List Kind) (ss : List PlainSlot) (ls : List PlainList) (names : List Use) → AreCovered args ss ls names → (p : Place) (o : Origin) → IsSome (kind_at args p o ss) → IsNamed (use_in p o) names
covers args ss ls names c p (Out n q) h = by (live_slot n ss) refl h
  where
    by_home : (i : ℕ) → live_slot n ss ≡ Some i → (t : Bool) → same_place (slot_at ss i).home p ≡ t → IsSome (cond t (slice_get (slot_at ss i).outputs q) None) → IsNamed (use_in p (Out n q)) names
    by_home i l true e g =
        let s = slot_is n ss i l in
        let P : Place → Type 0 = λ r. IsNamed (use_in r (Out n q)) names in
        let Q : ℕ → Type 0 = λ m. IsNamed (use_in (slot_at ss i).home (Out m q)) names in
        subst P (place_true (slot_at ss i).home p e) (subst Q s.own ((c.slots i (slot_at ss i) (slot_there ss i s.inside)).outputs q (some_within (slot_at ss i).outputs q g)))
    by_home i l false e g = absurd (true≢false (sym g))

    by : (o : Option ℕ) → live_slot n ss ≡ o → IsSome (option_and_then (λ i. output_in p q (slot_at ss i)) o) → IsNamed (use_in p (Out n q)) names
    by None l g = absurd (true≢false (sym g))
    by (Some i) l g = by_home i l (same_place (slot_at ss i).home p) refl g
covers args ss ls names c p (Arg k) h = by_node p.node p.region h
  where
    by_body : (r : ℕ) (t : Bool) → eqb r 0 ≡ t → IsSome (option_and_then (λ (ks : List Kind). slice_get ks k) (cond t (Some args) None)) → IsNamed (use_in (record { node = None; region = r }) (Arg k)) names
    by_body r true e g =
        let P : ℕ → Type 0 = λ m. IsNamed (use_in (record { node = None; region = m }) (Arg k)) names in
        subst P (sym (eqb-true r 0 e)) (c.body k (some_within args k g))
    by_body r false e g = absurd (true≢false (sym g))

    by_args : (n r i : ℕ) → live_slot n ss ≡ Some i → (o : Option (List Kind)) → slice_get (slot_at ss i).regions r ≡ o → IsSome (option_and_then (λ (ks : List Kind). slice_get ks k) o) → IsNamed (use_in (place_in n r) (Arg k)) names
    by_args n r i l None e g = absurd (true≢false (sym g))
    by_args n r i l (Some ks) e g =
        let s = slot_is n ss i l in
        let P : ℕ → Type 0 = λ m. IsNamed (use_in (place_in m r) (Arg k)) names in
        subst P s.own ((c.slots i (slot_at ss i) (slot_there ss i s.inside)).args r k ks e (some_within ks k g))

    by_slot : (n r : ℕ) (o : Option ℕ) → live_slot n ss ≡ o → IsSome (option_and_then (λ (ks : List Kind). slice_get ks k) (option_and_then (λ i. slice_get (slot_at ss i).regions r) o)) → IsNamed (use_in (place_in n r) (Arg k)) names
    by_slot n r None l g = absurd (true≢false (sym g))
    by_slot n r (Some i) l g = by_args n r i l (slice_get (slot_at ss i).regions r) refl g

    by_node : (o : Option ℕ) (r : ℕ) → IsSome (option_and_then (λ (ks : List Kind). slice_get ks k) (args_of args o r ss)) → IsNamed (use_in (record { node = o; region = r }) (Arg k)) names
    by_node None r g = by_body r (eqb r 0) refl g
    by_node (Some n) r g = by_slot n r (live_slot n ss) refl g

pub named_by : (args : List Kind) (ss ss' : List PlainSlot) (ls : List PlainList) (names : List Use) (us : PlainUses) → AreCovered args ss' ls names → ss' ≡ ss → us.names ≡ names
    → (p : Place) (o : Origin) → IsSome (kind_at args p o ss) → IsNamed (use_in p o) us.names
named_by args ss ss' ls names us c e n p o k =
    let P : List Use → Type 0 = λ ns. IsNamed (use_in p o) ns in
    let Q : List PlainSlot → Type 0 = λ ts. IsSome (kind_at args p o ts) in
    subst P (sym n) (covers args ss' ls names c p o (subst Q (sym e) k))

-- ---- the whole

pub ready : (os : List Origin) (xs : List FlatNode) (ss : List PlainSlot) (keys : List ℕ) (us ls : List PlainList) → AreDistinct (ids_of xs) → AreStored os xs ss keys us ls → AreReady ss keys
ready os xs ss keys us ls d s = record {
  keys = s.keys ∙ sym (slots_numbers 1 xs) ∙ ap numbers_of (sym s.slots);
  once = (let P : List ℕ → Type 0 = λ ns. AreDistinct ns in subst P (sym (slots_numbers 1 xs) ∙ ap numbers_of (sym s.slots)) d);
  live = ap all_live s.slots ∙ slots_live 1 xs;
  short = s.short;
}

module _ (args : List Kind) (os : List Origin) (xs : List FlatNode) (rows : AreRows xs) (us ls : PlainUses) where
  no_body : (k : ℕ) (p : Place) → slice_get (homes_of (body_list os ∷ results_of xs)) k ≡ Some p → 1 ≤ k → p ≡ body_place → ⊥
  no_body k p f le z =
      let o = results_only (body_list os ∷ []) xs k le (omega (arith, get_within (homes_of (body_list os ∷ results_of xs)) k p f, length-map (body_list os ∷ results_of xs) (λ (l : PlainList). l.home))) in
      let g = results_placed (body_list os ∷ []) xs o.at o.region o.slot o.there o.inside in
      apart o.slot.id (sym (ap (λ (q : Place). q.node) (same_Some (place_in o.slot.id o.region) body_place (sym g ∙ ap (slice_get (homes_of (body_list os ∷ results_of xs))) (sym o.own) ∙ f ∙ ap Some z))))

  lists_apart : AreDistinct (numbers_of (slots_of 1 xs)) → (j k : ℕ) (p : Place) → slice_get (homes_of (body_list os ∷ results_of xs)) j ≡ Some p → slice_get (homes_of (body_list os ∷ results_of xs)) k ≡ Some p → j ≡ k
  lists_apart d zero zero p e f = refl
  lists_apart d zero (suc k) p e f = absurd (no_body (suc k) p f (omega arith) (sym (same_Some body_place p e)))
  lists_apart d (suc j) zero p e f = absurd (no_body (suc j) p e (omega arith) (sym (same_Some body_place p f)))
  lists_apart d (suc j) (suc k) p e f =
      let a = results_only (body_list os ∷ []) xs (suc j) (omega arith) (omega (arith, get_within (homes_of (body_list os ∷ results_of xs)) (suc j) p e, length-map (body_list os ∷ results_of xs) (λ (l : PlainList). l.home))) in
      let b = results_only (body_list os ∷ []) xs (suc k) (omega arith) (omega (arith, get_within (homes_of (body_list os ∷ results_of xs)) (suc k) p f, length-map (body_list os ∷ results_of xs) (λ (l : PlainList). l.home))) in
      let ga = results_placed (body_list os ∷ []) xs a.at a.region a.slot a.there a.inside in
      let gb = results_placed (body_list os ∷ []) xs b.at b.region b.slot b.there b.inside in
      let z : place_in a.slot.id a.region ≡ place_in b.slot.id b.region =
      same_Some _ _ (sym ga ∙ ap (slice_get (homes_of (body_list os ∷ results_of xs))) (sym a.own) ∙ e ∙ sym f ∙ ap (slice_get (homes_of (body_list os ∷ results_of xs))) b.own ∙ gb) in
      let n : a.slot.id ≡ b.slot.id = same_Some _ _ (ap (λ (q : Place). q.node) z) in
      let r : a.region ≡ b.region = ap (λ (q : Place). q.region) z in
      let sa = at_is (slots_of 1 xs) a.at a.slot a.there in
      let sb = at_is (slots_of 1 xs) b.at b.slot b.there in
      let i : a.at ≡ b.at = same_slot (slots_of 1 xs) a.at b.at d (get_within (slots_of 1 xs) a.at a.slot a.there) (get_within (slots_of 1 xs) b.at b.slot b.there) (ap (λ (y : PlainSlot). y.id) sa ∙ n ∙ ap (λ (y : PlainSlot). y.id) (sym sb)) in
      let w : a.slot.results ≡ b.slot.results = ap (λ (y : PlainSlot). y.results) (sym sa) ∙ ap (λ m. (slot_at (slots_of 1 xs) m).results) i ∙ ap (λ (y : PlainSlot). y.results) sb in
      a.own ∙ (λ m. w m + r m) ∙ sym b.own
    where
      at_is : (ss : List PlainSlot) (i : ℕ) (s : PlainSlot) → slice_get ss i ≡ Some s → slot_at ss i ≡ s
      at_is [] i s e = absurd (apart s e)
      at_is (x ∷ ss) zero s e = same_Some x s e
      at_is (x ∷ ss) (suc i) s e = at_is ss i s e

  all_indexed : us.lists ≡ map inputs_list xs → ls.lists ≡ body_list os ∷ results_of xs → length args < 2 ^ 32
      → ((p : Place) (o : Origin) → IsSome (kind_at args p o (slots_of 1 xs)) → IsNamed (use_in p o) us.names)
      → ((p : Place) (o : Origin) → IsSome (kind_at args p o (slots_of 1 xs)) → IsNamed (use_in p o) ls.names)
      → us.room + ls.room < 2 ^ 64 → AreIndexed args (slots_of 1 xs) us ls
  all_indexed eu el short nu nl room = record {
    once = once;
    homes = λ i s e n. (let b = slot_back 1 xs i s e in ap (λ (p : Place). p.region) b.2 ∙ rows.homes i b.0 b.1 (sym (ap (λ (p : Place). p.node) b.2) ∙ n));
    inputs = record {
      homes = ap homes_of eu ∙ slots_homes 1 xs;
      left = λ k r g. absurd (apart r (sym (slots_there 1 xs k) ∙ g));
    };
    results = record {
      body = ap (λ l. slice_get (homes_of l) 0) el;
      slots = λ i k s e lt. ap (λ l. slice_get (homes_of l) (s.results + k)) el ∙ results_placed (body_list os ∷ []) xs i k s e lt;
      only = λ k lt. by_only k (omega (arith, lt, ap length el)) (eqb k 0) refl;
      apart = λ j k p e f. lists_apart once j k p (ap (λ l. slice_get (homes_of l) j) (sym el) ∙ e) (ap (λ l. slice_get (homes_of l) k) (sym el) ∙ f);
      left = λ i k r s e g lt. absurd (apart r (sym (slot_back 1 xs i s e).3 ∙ g));
    };
    named_inputs = nu;
    named_results = nl;
    short = short;
    room = room;
  }
    where
      once : AreDistinct (numbers_of (slots_of 1 xs))
      once = let P : List ℕ → Type 0 = λ ns. AreDistinct ns in subst P (sym (slots_numbers 1 xs)) rows.once

      by_only : (k : ℕ) → k < length (body_list os ∷ results_of xs) → (t : Bool) → eqb k 0 ≡ t → (k ≡ 0) ⊎ IsOfSlot k (slots_of 1 xs)
      by_only k lt true e = inl (eqb-true k 0 e)
      by_only zero lt false e = inl refl
      by_only (suc k) lt false e = inr (results_only (body_list os ∷ []) xs (suc k) (omega arith) lt)

pub parts : (body : FlatRegion) (xs : List FlatNode) (ss : List PlainSlot) (keys : List ℕ) (us ls : List PlainList) (args args' : List Kind) (ss' : List PlainSlot) (inputs results : PlainUses)
    → AreRows xs → AreStored body.results xs ss keys us ls → args ≡ body.args → length args < 2 ^ 32 → AreMade args ss us ls args' ss' inputs results → AreParts body xs args' ss' inputs results
parts body xs ss keys us ls args args' ss' inputs results rows s ea short m =
    let es : ss' ≡ slots_of 1 xs = m.nodes ∙ s.slots in
    let eu : inputs.lists ≡ map inputs_list xs = m.inputs ∙ s.inputs in
    let el : results.lists ≡ body_list body.results ∷ results_of xs = m.results ∙ s.results in
    let P : List PlainSlot → Type 0 = λ ts. (p : Place) (o : Origin) → IsSome (kind_at args p o ts) → IsNamed (use_in p o) inputs.names in
    let Q : List PlainSlot → Type 0 = λ ts. (p : Place) (o : Origin) → IsSome (kind_at args p o ts) → IsNamed (use_in p o) results.names in
    let a = all_indexed args body.results xs rows inputs results eu el short (subst P s.slots m.named_inputs) (subst Q s.slots m.named_results) m.room in
    let R : List PlainSlot → Type 0 = λ ts. AreIndexed args ts inputs results in
    let S : List Kind → Type 0 = λ ks. AreIndexed ks ss' inputs results in
    record {
      indexed = subst S (sym m.args) (subst R (sym es) a);
      gone = λ k r g. absurd (apart r (sym (slots_there 1 xs k) ∙ ap (λ ts. (slot_at ts k).gone) (sym es) ∙ g));
      args = m.args ∙ ea;
      results = ap (λ l. origins_at l 0) el;
      seen = (λ i. nodes_seen (eu i) (el i) (es i)) ∙ seen_made (body_list body.results ∷ []) xs;
    }

-- ---- the rows of a lambda

abbrev row_id : FlatNode → ℕ
row_id x = x.id

ids_append : (xs ys : List FlatNode) → map row_id (xs ++ ys) ≡ map row_id xs ++ map row_id ys
ids_append [] ys = refl
ids_append (x ∷ xs) ys = ap (λ ns. x.id ∷ ns) (ids_append xs ys)

mutual
  nodes_numbers : (p : Place) (xs : NodeTrees) → map row_id (in_nodes p xs) ≡ nodes_ids xs
  nodes_numbers p no_nodes = refl
  nodes_numbers p (node_then x xs) = let a = node_numbers p x in let b = nodes_numbers p xs in ids_append (in_node p x) (in_nodes p xs) ∙ (λ i. a i ++ b i)

  node_numbers : (p : Place) (x : NodeTree) → map row_id (in_node p x) ≡ node_ids x
  node_numbers p (node id op inputs rs) = ap (λ ns. id ∷ ns) (regions_numbers id 0 rs)

  regions_numbers : (n k : ℕ) (rs : RegionTrees) → map row_id (in_regions n k rs) ≡ regions_ids rs
  regions_numbers n k no_regions = refl
  regions_numbers n k (region_then (region args nodes results) rs) =
      let a = nodes_numbers (place_in n k) nodes in
      let b = regions_numbers n (suc k) rs in
      ids_append (in_nodes (place_in n k) nodes) (in_regions n (suc k) rs) ∙ (λ i. a i ++ b i)

abbrev IsHome : Place → Type 0
IsHome p = p.node ≡ None → p.region ≡ 0

abbrev AreHomes : List FlatNode → Type 0
AreHomes [] = Unit {0}
AreHomes (x ∷ xs) = IsHome x.home × AreHomes xs

homes_append : (xs ys : List FlatNode) → AreHomes xs → AreHomes ys → AreHomes (xs ++ ys)
homes_append [] ys a b = b
homes_append (x ∷ xs) ys a b = (a.0, homes_append xs ys a.1 b)

inner_home : (n k : ℕ) → IsHome (place_in n k)
inner_home n k e = absurd (apart n (sym e))

mutual
  nodes_home : (p : Place) (xs : NodeTrees) → IsHome p → AreHomes (in_nodes p xs)
  nodes_home p no_nodes h = tt
  nodes_home p (node_then x xs) h = let a = node_home p x h in let b = nodes_home p xs h in homes_append (in_node p x) (in_nodes p xs) a b

  node_home : (p : Place) (x : NodeTree) → IsHome p → AreHomes (in_node p x)
  node_home p (node id op inputs rs) h = (h, regions_home id 0 rs)

  regions_home : (n k : ℕ) (rs : RegionTrees) → AreHomes (in_regions n k rs)
  regions_home n k no_regions = tt
  regions_home n k (region_then (region args nodes results) rs) =
      let a = nodes_home (place_in n k) nodes (inner_home n k) in
      let b = regions_home n (suc k) rs in
      homes_append (in_nodes (place_in n k) nodes) (in_regions n (suc k) rs) a b

home_at : (xs : List FlatNode) → AreHomes xs → (i : ℕ) (x : FlatNode) → slice_get xs i ≡ Some x → IsHome x.home
home_at [] h i x e = absurd (apart x e)
home_at (y ∷ xs) h zero x e = let P : FlatNode → Type 0 = λ z. IsHome z.home in subst P (same_Some y x e) h.0
home_at (y ∷ xs) h (suc i) x e = home_at xs h.1 i x e

none_of : (n : ℕ) (ns : List ℕ) → not (some_of (λ m. eqb n m) ns) ≡ true → is_in n ns ≡ false
none_of n [] h = refl
none_of n (m ∷ ns) h = by (eqb n m) h (none_of n ns)
  where
    by : (t : Bool) → not (t || some_of (λ m. eqb n m) ns) ≡ true → (not (some_of (λ m. eqb n m) ns) ≡ true → is_in n ns ≡ false) → (t || is_in n ns) ≡ false
    by true g go = absurd (true≢false (sym g))
    by false g go = go g

both : (a b : Bool) → (a && b) ≡ true → (a ≡ true) × (b ≡ true)
both true b h = (refl, h)
both false b h = absurd (true≢false (sym h))

once : (ns : List ℕ) → distinct ns ≡ true → AreDistinct ns
once [] h = tt
once (n ∷ ns) h = let b = both (not (some_of (λ m. eqb n m) ns)) (distinct ns) h in (none_of n ns b.0, once ns b.1)

pub rows_are : (l : PlainLambda) → IsWellFormed l → AreRows (in_region body_place l.body)
rows_are l w = by l.body (both (distinct (region_ids l.body)) (all_of (λ n. ltb n l.next) (region_ids l.body)) numbers).0
  where
    numbers : numbers_fit l ≡ true
    numbers =
        let rest : Bool = all_of (λ o. leaves_fit o.size 0 o.leaves) l.objects in
        let regions : Bool = every_region (region_fits (length l.objects)) l.body in
        (both (body_fits l) (numbers_fit l) (both (body_fits l && numbers_fit l) regions (both (body_fits l && numbers_fit l && regions) rest w).0).0).1

    by : (r : RegionTree) → distinct (region_ids r) ≡ true → AreRows (in_region body_place r)
    by (region args nodes results) d = record {
      once = (let P : List ℕ → Type 0 = λ ns. AreDistinct ns in subst P (sym (nodes_numbers body_place nodes)) (once (nodes_ids nodes) d));
      homes = home_at (in_nodes body_place nodes) (nodes_home body_place nodes (λ e. refl));
    }
