-- What is asked of a list of nodes, and of the lambda.
use Rattle.std.proofs.Common.{◌≡◌, ◌≤◌, ◌+◌, ◌⊎◌, inl, inr, ℕ, zero, suc, ◌==◌, ◌||◌, Bool, true, false, Option, None, Some, option_and_then, List, [], ◌∷◌, ◌++◌, refl, sym, ap, subst, ◌∙◌, arith}
use Rattle.std.specs.Prelude.{slice_get, if◌then◌else◌}
use Rattle.std.proofs.lemmas.Bool.{or_parts, or_from}
use Rattle.g_graph.specs.declared.op.Origin.{Origin}
use Rattle.g_graph.specs.Plain.{RegionTree, region, node, NodeTrees, no_nodes, node_then, RegionTrees, no_regions, region_then, PlainLambda}
use Rattle.g_graph.specs.Ids.{region_ids, nodes_ids, regions_ids}
use Rattle.g_graph.specs.Signatures.{outputs_of}
use Rattle.g_graph.specs.Scope.{same_origin}
use Rattle.g_graph.specs.WellFormed.{some_of, kinds_of}
use Rattle.g_graph.specs.Nodes.{nodes_use, is_used}
use Rattle.g_graph.proofs.lemmas.Indexes.{same_origin_self}
use Rattle.g_graph.proofs.lemmas.Moved.{same_origin_true}
use Rattle.g_graph.proofs.lemmas.Unique.{times_append, times_cons, times as number_times}
use Rattle.g_arena_def.specs.declared.place.Place.{Place}
use Rattle.g_arena_def.specs.Flat.{FlatRegion, FlatNode, Flat, place_in, region_flat, regions_flat, in_region, in_nodes, in_regions, flat_of, same_place}
use Rattle.g_arena_def.specs.Reads.{found, region_at, times, input_uses, result_uses, uses_in}
use Rattle.r_edit.specs.Uses.{nodes_read, is_read}
use Rattle.r_sweep.proofs.lemmas.Outside.{none_both, AreApart, IsNone, none_of_both, none_of_rest, outside_apart, place_apart, nodes_outside, regions_apart, later_apart, earlier_apart}
use Rattle.r_sweep.proofs.lemmas.Around.{Around, with_nodes, found_past, found_here}
use Rattle.r_sweep.proofs.lemmas.Inputs.{same_place_self}
use Rattle.r_sweep.proofs.lemmas.Blocks.{Within, place, node_now, here_once, not_before, not_after, not_nested, place_other, start_laid}

-- ---- uses in a region

-- how many inputs of these nodes come from an origin; and uses in a region
abbrev pub nodes_times : Origin → NodeTrees → ℕ
nodes_times o no_nodes = 0
nodes_times o (node_then (node id op inputs rs) ns) = times o inputs + nodes_times o ns

abbrev pub region_times : Origin → RegionTree → ℕ
region_times o (region args nodes results) = nodes_times o nodes + times o results

pub input_both : (p : Place) (o : Origin) (xs ys : List FlatNode) → input_uses p o (xs ++ ys) ≡ input_uses p o xs + input_uses p o ys
input_both p o [] ys = omega arith
input_both p o (x ∷ xs) ys = omega (arith, input_both p o xs ys)

pub input_none : (p : Place) (o : Origin) (xs : List FlatNode) → AreApart p xs → input_uses p o xs ≡ 0
input_none p o [] h = refl
input_none p o (x ∷ xs) h = ap (λ t. (if t then times o x.inputs else 0) + input_uses p o xs) h.0 ∙ omega (arith, input_none p o xs h.1)

input_nodes : (p : Place) (o : Origin) (ns : NodeTrees) → IsNone p.node (nodes_ids ns) → input_uses p o (in_nodes p ns) ≡ nodes_times o ns
input_nodes p o no_nodes h = refl
input_nodes p o (node_then (node id op inputs rs) xs) h =
    let both = none_of_both p.node (id ∷ regions_ids rs) (nodes_ids xs) h in
    let own = none_of_rest p.node id (regions_ids rs) both.0 in
    let first : (if same_place p p then times o inputs else 0) ≡ times o inputs = ap (λ t. if t then times o inputs else 0) (same_place_self p) in
    omega (
      arith,
      input_both p o (in_regions id 0 rs) (in_nodes p xs),
      input_none p o (in_regions id 0 rs) (regions_apart p id 0 rs own.0 own.1),
      input_nodes p o xs both.1,
      first,
    )

-- the region of an index among these
abbrev pub nth_region : (index : ℕ) → RegionTrees → Option RegionTree
nth_region k no_regions = None
nth_region zero (region_then r rs) = Some r
nth_region (suc k) (region_then r rs) = nth_region k rs

abbrev pub times_in : Origin → Option RegionTree → ℕ
times_in o None = 0
times_in o (Some r) = region_times o r

abbrev pub inner_times : Origin → Option RegionTree → ℕ
inner_times o None = 0
inner_times o (Some (region args ns results)) = nodes_times o ns

inner_uses : (n k j : ℕ) (o : Origin) (rs : RegionTrees) → number_times n (regions_ids rs) ≡ 0 → input_uses (place_in n (j + k)) o (in_regions n j rs) ≡ inner_times o (nth_region k rs)
inner_uses n k j o no_regions e = refl
inner_uses n zero j o (region_then (region args ns results) rs) e =
    let both = none_both n (nodes_ids ns) (regions_ids rs) e in
    let here : j + 0 ≡ j = omega arith in
    ap (λ m. input_uses (place_in n m) o (in_nodes (place_in n j) ns ++ in_regions n (suc j) rs)) here
    ∙ omega (
      arith,
      input_both (place_in n j) o (in_nodes (place_in n j) ns) (in_regions n (suc j) rs),
      input_nodes (place_in n j) o ns both.0,
      input_none (place_in n j) o (in_regions n (suc j) rs) (later_apart n j (suc j) rs (omega arith) both.1),
    )
inner_uses n (suc k) j o (region_then (region args ns results) rs) e =
    let both = none_both n (nodes_ids ns) (regions_ids rs) e in
    let p = place_in n (j + suc k) in
    let later : j + suc k ≡ suc j + k = omega arith in
    let rest : input_uses p o (in_regions n (suc j) rs) ≡ inner_times o (nth_region k rs) = ap (λ m. input_uses (place_in n m) o (in_regions n (suc j) rs)) later ∙ inner_uses n k (suc j) o rs both.1 in
    input_both p o (in_nodes (place_in n j) ns) (in_regions n (suc j) rs) ∙ omega (arith, rest, input_none p o (in_nodes (place_in n j) ns) (earlier_apart n (j + suc k) j args ns results (omega arith) both.0))

nth_record : (k : ℕ) (o : Origin) (rs : RegionTrees) → inner_times o (nth_region k rs) + result_uses o (slice_get (regions_flat rs) k) ≡ times_in o (nth_region k rs)
nth_record k o no_regions = refl
nth_record zero o (region_then (region args ns results) rs) = refl
nth_record (suc k) o (region_then r rs) = nth_record k o rs

-- in the region that holds node n
pub uses_here : (n : ℕ) (l : PlainLambda) (z : Around n l) (o : Origin) → uses_in z.place o (flat_of l) ≡ region_times o z.here
uses_here n l z o = by z.here refl
  where
    by : (h : RegionTree) → z.here ≡ h → uses_in z.place o (flat_of l) ≡ region_times o z.here
    by (region args ns results) is =
        let r : FlatRegion = record { args = args; results = results } in
        let start : flat_of l ≡ with_nodes l (z.body r) (z.before r ++ (in_nodes z.place ns ++ z.after)) =
        ap (λ b. flat_of (record l { body = b })) (sym z.is) ∙ z.flat_is z.here (record { args = refl; results = refl })
        ∙ ap (λ h. with_nodes l (z.body (region_flat h)) (z.before (region_flat h) ++ (in_region z.place h ++ z.after))) is in
        let own = subst (λ h. IsNone z.place.node (region_ids h)) is z.own in
        ap (uses_in z.place o) start
        ∙ omega (
          arith,
          input_both z.place o (z.before r) (in_nodes z.place ns ++ z.after),
          input_both z.place o (in_nodes z.place ns) z.after,
          input_none z.place o (z.before r) (z.apart r).0,
          input_none z.place o z.after (z.apart r).1,
          input_nodes z.place o ns own,
          ap (result_uses o) (z.gets r (in_nodes z.place ns ++ z.after)),
        )
        ∙ sym (ap (region_times o) is)

module _ (n : ℕ) (l : PlainLambda) (w : Within n l) where
  abbrev start_record : FlatRegion
  start_record = record { args = w.args; results = w.results }

  abbrev pub start_node : FlatNode
  start_node = node_now n l w (kinds_of (outputs_of w.op w.regions)) w.inputs w.regions

  abbrev start_rest : List FlatNode
  start_rest = in_regions n 0 w.regions ++ (in_nodes (place n l w) w.after ++ w.around.after)

  -- the node is found
  pub node_is_found : found n (flat_of l).nodes ≡ Some start_node
  node_is_found =
      let p = place n l w in
      ap (λ (a : Flat). found n a.nodes) (start_laid n l w)
      ∙ found_past n (w.around.before start_record) (in_nodes p w.before ++ (start_node ∷ start_rest)) (w.around.outside n (here_once n l w) start_record).0
      ∙ found_past n (in_nodes p w.before) (start_node ∷ start_rest) (nodes_outside n p w.before (not_before n l w) (place_other n l w)) ∙ found_here n start_node start_rest refl

  -- uses in its regions: inputs, and with results
  pub inputs_below : (j : ℕ) (o : Origin) → input_uses (place_in n j) o (flat_of l).nodes ≡ inner_times o (nth_region j w.regions)
  inputs_below j o =
      let p = place n l w in
      let q = place_in n j in
      let first : j ≡ 0 + j = omega arith in
      let out = w.around.outside n (here_once n l w) start_record in
      ap (λ (a : Flat). input_uses q o a.nodes) (start_laid n l w)
      ∙ omega (
        arith,
        input_both q o (w.around.before start_record) (in_nodes p w.before ++ (start_node ∷ start_rest)),
        input_both q o (in_nodes p w.before) (start_node ∷ start_rest),
        input_both q o (in_regions n 0 w.regions) (in_nodes p w.after ++ w.around.after),
        input_both q o (in_nodes p w.after) w.around.after,
        input_none q o (w.around.before start_record) (outside_apart n j (w.around.before start_record) out.0),
        input_none q o (in_nodes p w.before) (outside_apart n j (in_nodes p w.before) (nodes_outside n p w.before (not_before n l w) (place_other n l w))),
        input_none q o (in_nodes p w.after) (outside_apart n j (in_nodes p w.after) (nodes_outside n p w.after (not_after n l w) (place_other n l w))),
        input_none q o w.around.after (outside_apart n j w.around.after out.1),
        ap (λ t. if t then times o w.inputs else 0) (place_apart n j p (place_other n l w)),
        ap (λ m. input_uses (place_in n m) o (in_regions n 0 w.regions)) first ∙ inner_uses n j 0 o w.regions (not_nested n l w),
      )

  pub uses_below : (j : ℕ) (o : Origin) → uses_in (place_in n j) o (flat_of l) ≡ times_in o (nth_region j w.regions)
  uses_below j o =
      let at : region_at (place_in n j) (flat_of l) ≡ slice_get (regions_flat w.regions) j = ap (option_and_then (λ (x : FlatNode). slice_get x.regions j)) node_is_found in
      (λ i. inputs_below j o i + result_uses o (at i)) ∙ nth_record j o w.regions

-- ---- uses and tests

times_none : (o : Origin) (os : List Origin) → times o os ≡ 0 → some_of (same_origin o) os ≡ false
times_none o [] e = refl
times_none o (p ∷ os) e = by (same_origin o p) e (λ d. times_none o os d)
  where
    by : (t : Bool) → (if t then 1 else 0) + times o os ≡ 0 → (times o os ≡ 0 → some_of (same_origin o) os ≡ false) → (t || some_of (same_origin o) os) ≡ false
    by true d h = absurd (omega (arith, d))
    by false d h = h (omega (arith, d))

none_times : (o : Origin) (os : List Origin) → some_of (same_origin o) os ≡ false → times o os ≡ 0
none_times o [] e = refl
none_times o (p ∷ os) e =
    let both = or_parts (same_origin o p) (some_of (same_origin o) os) e in
    ap (λ t. (if t then 1 else 0) + times o os) both.0 ∙ omega (arith, none_times o os both.1)

nodes_unused : (o : Origin) (ns : NodeTrees) → nodes_times o ns ≡ 0 → nodes_use o ns ≡ false
nodes_unused o no_nodes e = refl
nodes_unused o (node_then (node id op inputs rs) ns) e =
    or_from (some_of (same_origin o) inputs) (nodes_use o ns) (times_none o inputs (omega (arith, e))) (nodes_unused o ns (omega (arith, e)))

unused_nodes : (o : Origin) (ns : NodeTrees) → nodes_use o ns ≡ false → nodes_times o ns ≡ 0
unused_nodes o no_nodes e = refl
unused_nodes o (node_then (node id op inputs rs) ns) e =
    let both = or_parts (some_of (same_origin o) inputs) (nodes_use o ns) e in
    omega (arith, none_times o inputs both.0, unused_nodes o ns both.1)

pub unused : (o : Origin) (r : RegionTree) → region_times o r ≡ 0 → is_used o r ≡ false
unused o (region args ns results) e =
    or_from (nodes_use o ns) (some_of (same_origin o) results) (nodes_unused o ns (omega (arith, e))) (times_none o results (omega (arith, e)))

pub unused_times : (o : Origin) (r : RegionTree) → is_used o r ≡ false → region_times o r ≡ 0
unused_times o (region args ns results) e =
    let both = or_parts (nodes_use o ns) (some_of (same_origin o) results) e in
    omega (arith, unused_nodes o ns both.0, none_times o results both.1)

-- a test holds of nothing that is read, where nothing that it holds of is used
module _ (test : Origin → Bool) where
  unread_list : (os : List Origin) → ((o : Origin) → test o ≡ true → some_of (same_origin o) os ≡ false) → some_of test os ≡ false
  unread_list [] h = refl
  unread_list (p ∷ os) h = or_from (test p) (some_of test os) (by (test p) refl) (unread_list os (λ o e. (or_parts (same_origin o p) (some_of (same_origin o) os) (h o e)).1))
    where
      by : (t : Bool) → test p ≡ t → t ≡ false
      by false e = refl
      by true e = sym (same_origin_self p) ∙ (or_parts (same_origin p p) (some_of (same_origin p) os) (h p e)).0

  unread_nodes : (ns : NodeTrees) → ((o : Origin) → test o ≡ true → nodes_use o ns ≡ false) → nodes_read test ns ≡ false
  unread_nodes no_nodes h = refl
  unread_nodes (node_then (node id op inputs rs) ns) h =
      or_from (some_of test inputs) (nodes_read test ns) (unread_list inputs (λ o e. (or_parts (some_of (same_origin o) inputs) (nodes_use o ns) (h o e)).0))
      (unread_nodes ns (λ o e. (or_parts (some_of (same_origin o) inputs) (nodes_use o ns) (h o e)).1))

  pub unread : (r : RegionTree) → ((o : Origin) → test o ≡ true → is_used o r ≡ false) → is_read test r ≡ false
  unread (region args ns results) h =
      or_from (nodes_read test ns) (some_of test results) (unread_nodes ns (λ o e. (or_parts (nodes_use o ns) (some_of (same_origin o) results) (h o e)).0))
      (unread_list results (λ o e. (or_parts (nodes_use o ns) (some_of (same_origin o) results) (h o e)).1))

  list_unread : (o : Origin) → test o ≡ true → (os : List Origin) → some_of test os ≡ false → some_of (same_origin o) os ≡ false
  list_unread o e [] h = refl
  list_unread o e (p ∷ os) h =
      let both = or_parts (test p) (some_of test os) h in
      or_from (same_origin o p) (some_of (same_origin o) os) (by (same_origin o p) refl both.0) (list_unread o e os both.1)
    where
      by : (t : Bool) → same_origin o p ≡ t → test p ≡ false → t ≡ false
      by false q d = refl
      by true q d = sym e ∙ ap test (same_origin_true o p q) ∙ d

  nodes_unread : (o : Origin) → test o ≡ true → (ns : NodeTrees) → nodes_read test ns ≡ false → nodes_use o ns ≡ false
  nodes_unread o e no_nodes h = refl
  nodes_unread o e (node_then (node id op inputs rs) ns) h =
      let both = or_parts (some_of test inputs) (nodes_read test ns) h in
      or_from (some_of (same_origin o) inputs) (nodes_use o ns) (list_unread o e inputs both.0) (nodes_unread o e ns both.1)

  pub not_used : (r : RegionTree) → is_read test r ≡ false → (o : Origin) → test o ≡ true → is_used o r ≡ false
  not_used (region args ns results) h o e =
      let both = or_parts (nodes_read test ns) (some_of test results) h in
      or_from (nodes_use o ns) (some_of (same_origin o) results) (nodes_unread o e ns both.0) (list_unread o e results both.1)

-- ---- numbers

found_both : (n : ℕ) (xs ys : List FlatNode) (x : FlatNode) → found n (xs ++ ys) ≡ Some x → (found n xs ≡ Some x) ⊎ (found n ys ≡ Some x)
found_both n [] ys x e = inr e
found_both n (y ∷ xs) ys x e = by (y.id == n) e (λ d. found_both n xs ys x d)
  where
    by : (t : Bool) → (if t then Some y else found n (xs ++ ys)) ≡ Some x → (found n (xs ++ ys) ≡ Some x → (found n xs ≡ Some x) ⊎ (found n ys ≡ Some x)) →
        ((if t then Some y else found n xs) ≡ Some x) ⊎ (found n ys ≡ Some x)
    by true d h = inl d
    by false d h = h d

-- a number among two lists of numbers
either_times : {A B : Type 0} (n : ℕ) (xs ys : List ℕ) → A ⊎ B → (A → 1 ≤ number_times n xs) → (B → 1 ≤ number_times n ys) → 1 ≤ number_times n (xs ++ ys)
either_times n xs ys (inl a) f g = omega (arith, times_append n xs ys, f a)
either_times n xs ys (inr b) f g = omega (arith, times_append n xs ys, g b)

first_times : (n id : ℕ) (ns : List ℕ) (x y : FlatNode) (xs : List FlatNode) → (if id == n then Some y else found n xs) ≡ Some x → (found n xs ≡ Some x → 1 ≤ number_times n ns) → 1 ≤ number_times n (id ∷ ns)
first_times n id ns x y xs e f = by (id == n) e (times_cons n id ns)
  where
    by : (t : Bool) → (if t then Some y else found n xs) ≡ Some x → number_times n (id ∷ ns) ≡ (if t then 1 else 0) + number_times n ns → 1 ≤ number_times n (id ∷ ns)
    by true d c = omega (arith, c)
    by false d c = omega (arith, c, f d)

mutual
  found_nodes : (n : ℕ) (p : Place) (ns : NodeTrees) (x : FlatNode) → found n (in_nodes p ns) ≡ Some x → 1 ≤ number_times n (nodes_ids ns)
  found_nodes n p no_nodes x e = absurd cc
  found_nodes n p (node_then (node id op inputs rs) xs) x e =
      let y : FlatNode = record { id = id; op = op; inputs = inputs; outputs = kinds_of (outputs_of op rs); regions = regions_flat rs; home = p } in
      either_times n (id ∷ regions_ids rs) (nodes_ids xs) (found_both n (y ∷ in_regions id 0 rs) (in_nodes p xs) x e)
      (λ d. first_times n id (regions_ids rs) x y (in_regions id 0 rs) d (λ c. found_regions n id 0 rs x c)) (λ d. found_nodes n p xs x d)

  found_regions : (n m k : ℕ) (rs : RegionTrees) (x : FlatNode) → found n (in_regions m k rs) ≡ Some x → 1 ≤ number_times n (regions_ids rs)
  found_regions n m k no_regions x e = absurd cc
  found_regions n m k (region_then (region args ns results) rs) x e =
      either_times n (nodes_ids ns) (regions_ids rs) (found_both n (in_nodes (place_in m k) ns) (in_regions m (suc k) rs) x e) (λ d. found_nodes n (place_in m k) ns x d)
      (λ d. found_regions n m (suc k) rs x d)

pub found_in : (n : ℕ) (p : Place) (r : RegionTree) (x : FlatNode) → found n (in_region p r) ≡ Some x → 1 ≤ number_times n (region_ids r)
found_in n p (region args ns results) x e = found_nodes n p ns x e
