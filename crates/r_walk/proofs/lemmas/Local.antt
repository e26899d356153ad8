-- A change at a node of a region that has regions and nodes around it, as rules cite it to show what they say of the node.
use Rattle.std.specs.Option.{option_or}
use Rattle.std.proofs.Common.{◌≡◌, ℕ, ◌+◌, ◌<◌, nat_lt, ◌==◌, ◌||◌, ◌⊎◌, Bool, true, false, cond, List, [], ◌∷◌, ◌++◌, map, length, slice_get, Option, None, Some, option_map, unwrap_or, refl, sym, ap, ap₂, subst, ◌∙◌, inl, inr, arith, length-append}
use Rattle.std.proofs.lemmas.Bool.{and_parts, or_parts}
use Rattle.std.proofs.lemmas.Bool.Decides.{nat_tests}
use Rattle.g_graph.specs.declared.op.Kind.{Kind}
use Rattle.g_graph.specs.declared.op.Op.{Op}
use Rattle.g_graph.specs.declared.op.Origin.{Origin}
use Rattle.g_graph.specs.declared.op.Origin.TheVariants.{Arg, Out}
use Rattle.g_graph.specs.Change.{region_changed, node_changed, regions_changed, has_node}
use Rattle.g_graph.specs.Ids.{region_ids, node_ids, nodes_ids, regions_ids}
use Rattle.g_graph.specs.Nodes.{node_at, node_set}
use Rattle.g_graph.specs.Plain.{RegionTree, region, NodeTree, node, NodeTrees, no_nodes, node_then, RegionTrees, id_of, nodes_in, results_of, regions_in, PlainLambda}
use Rattle.g_graph.specs.Replace.{nodes_redirected}
use Rattle.g_graph.specs.Splice.{outputs_to_results, joined_nodes, nodes_spliced, region_spliced}
use Rattle.g_graph.specs.WellFormed.{all_of, distinct, IsWellFormed}
use Rattle.g_graph.proofs.lemmas.Change.{region_changed_here}
use Rattle.g_graph.proofs.lemmas.Found.{node_at-joined}
use Rattle.g_graph.proofs.lemmas.Indexes.{same_number_true, has_node-joined}
use Rattle.g_graph.proofs.lemmas.Redirects.{nodes_ids-redirected, nodes_unmoved, all_unmoved}
use Rattle.g_graph.proofs.lemmas.Splices.{nodes_ids-joined}
use Rattle.g_graph.proofs.lemmas.Unique.{same_number}
use Rattle.g_mean.specs.Copies.{IsAmong}
use Rattle.g_mean.specs.Edits.{IsPartOf}
use Rattle.g_mean.proofs.lemmas.Copies.{among-left, among-right, among-split}
use Rattle.g_mean.proofs.lemmas.Edits.{distinct-split}
use Rattle.g_mean.proofs.lemmas.Holds.{id-among, distinct-apart}
use Rattle.r_walk.specs.Context.{ChangesOnlyAt, IsContext}
use Rattle.r_walk.specs.Laws.{region_with}
use Rattle.r_walk.proofs.lemmas.Contexts.{has_none, only_around, unchanged_without, nodes_changed_within, regions_unchanged_without, whole_part}

-- ---- what comes in the place of a node

nodes-spliced : (n : ℕ) (nodes : NodeTrees) (outs : List Origin) (before : NodeTrees) (x : NodeTree) (after : NodeTrees) → has_node n before ≡ false → (id_of x == n) ≡ true →
    nodes_spliced n nodes outs (joined_nodes before (node_then x after)) ≡ joined_nodes before (joined_nodes nodes (nodes_redirected (outputs_to_results n outs) after))
nodes-spliced n nodes outs no_nodes x after b h =
    ap (λ t. cond t (joined_nodes nodes (nodes_redirected (outputs_to_results n outs) after)) (node_then x (nodes_spliced n nodes outs after))) h
nodes-spliced n nodes outs (node_then y before) x after b h =
    let p = or_parts (id_of y == n) (has_node n before) b in
    let whole = joined_nodes before (node_then x after) in
    ap (λ t. cond t (joined_nodes nodes (nodes_redirected (outputs_to_results n outs) whole)) (node_then y (nodes_spliced n nodes outs whole))) p.0
    ∙ ap (λ zs. node_then y zs) (nodes-spliced n nodes outs before x after p.1 h)

nodes-set : (n : ℕ) (y : NodeTree) (before : NodeTrees) (x : NodeTree) (after : NodeTrees) → has_node n before ≡ false → (id_of x == n) ≡ true →
    node_set n y (joined_nodes before (node_then x after)) ≡ joined_nodes before (node_then y after)
nodes-set n y no_nodes x after b h = ap (λ t. cond t (node_then y after) (node_then x (node_set n y after))) h
nodes-set n y (node_then z before) x after b h =
    let p = or_parts (id_of z == n) (has_node n before) b in
    let whole = joined_nodes before (node_then x after) in
    ap (λ t. cond t (node_then y whole) (node_then z (node_set n y whole))) p.0 ∙ ap (λ zs. node_then z zs) (nodes-set n y before x after p.1 h)

pub not_found : (n : ℕ) (ns : NodeTrees) → has_node n ns ≡ false → node_at n ns ≡ None
not_found n no_nodes e = refl
not_found n (node_then x ns) e =
    let p = or_parts (id_of x == n) (has_node n ns) e in
    ap (λ t. cond t (Some x) (node_at n ns)) p.0 ∙ not_found n ns p.1

-- where no output is given, uses of a node's outputs stay
pub outputs_stay : (n : ℕ) (o : Origin) → outputs_to_results n [] o ≡ o
outputs_stay n (Arg k) = refl
outputs_stay n (Out m p) = by (m == n)
  where
    by : (t : Bool) → cond t (unwrap_or (slice_get [] p) (Out m p)) (Out m p) ≡ Out m p
    by true = refl
    by false = refl

module _ (args : List Kind) (before : NodeTrees) (x : NodeTree) (after : NodeTrees) (results : List Origin) (first : has_node (id_of x) before ≡ false) where
  abbrev whole : RegionTree
  whole = region args (joined_nodes before (node_then x after)) results

  pub found_here : node_at (id_of x) (joined_nodes before (node_then x after)) ≡ Some x
  found_here = node_at-joined (id_of x) before x after first (same_number_true (id_of x))

  pub spliced_at : (own : List Kind) (nodes : NodeTrees) (outs : List Origin) →
      region_spliced (id_of x) (region own nodes outs) (region args (joined_nodes before (node_then x after)) results) ≡ region_with args before (id_of x) nodes outs after results
  spliced_at own nodes outs =
      ap (λ ns. region args ns (map (outputs_to_results (id_of x) outs) results)) (nodes-spliced (id_of x) nodes outs before x after first (same_number_true (id_of x)))

  pub replaced_at : (r : RegionTree) →
      region_spliced (id_of x) r (region args (joined_nodes before (node_then x after)) results) ≡ region_with args before (id_of x) (nodes_in r) (results_of r) after results
  replaced_at (region own nodes outs) = spliced_at own nodes outs

  pub set_at : (y : NodeTree) → region args (node_set (id_of x) y (joined_nodes before (node_then x after))) results ≡ region_with args before (id_of x) (node_then y no_nodes) [] after results
  set_at y =
      ap₂ (λ ns os. region args ns os)
      (nodes-set (id_of x) y before x after first (same_number_true (id_of x))
      ∙ ap (λ ns. joined_nodes before (node_then y ns)) (sym (nodes_unmoved (outputs_to_results (id_of x) []) (outputs_stay (id_of x)) after)))
      (sym (all_unmoved (outputs_to_results (id_of x) []) (outputs_stay (id_of x)) results))

pub ids_in : (r : RegionTree) → nodes_ids (nodes_in r) ≡ region_ids r
ids_in (region args nodes results) = refl

-- the numbers of the region with these nodes in the place of a node
pub ids_with : (args : List Kind) (before : NodeTrees) (n : ℕ) (nodes : NodeTrees) (outs : List Origin) (after : NodeTrees) (results : List Origin) →
    region_ids (region_with args before n nodes outs after results) ≡ nodes_ids before ++ (nodes_ids nodes ++ nodes_ids after)
ids_with args before n nodes outs after results =
    nodes_ids-joined before (joined_nodes nodes (nodes_redirected (outputs_to_results n outs) after))
    ∙ ap (λ ids. nodes_ids before ++ ids) (nodes_ids-joined nodes (nodes_redirected (outputs_to_results n outs) after) ∙ ap (λ ids. nodes_ids nodes ++ ids) (nodes_ids-redirected (outputs_to_results n outs) after))

-- ---- a change at a number that the lambda does not have

pub absent : (l : PlainLambda) (n : ℕ) (f : RegionTree → Option RegionTree) → ChangesOnlyAt n f → (IsAmong n (region_ids l.body) → ⊥) → region_changed f l.body ≡ None
absent l n f only h = unchanged_without n f (only_around n f only) l.body h

-- ---- a change at the node

pub below_one : (next n : ℕ) (ns : List ℕ) → all_of (λ m. nat_lt m next) ns ≡ true → IsAmong n ns → n < next
below_one next n [] e h = absurd h
below_one next n (m ∷ ns) e (inl d) =
    let less : nat_lt m next ≡ true = (and_parts (nat_lt m next) (all_of (λ k. nat_lt k next) ns) e).0 in
    grind (arith, nat_tests)
below_one next n (m ∷ ns) e (inr h) = below_one next n ns (and_parts (nat_lt m next) (all_of (λ k. nat_lt k next) ns) e).1 h

module _ (l : PlainLambda) (context : RegionTree → RegionTree) (args : List Kind) (before : NodeTrees) (x : NodeTree) (after : NodeTrees) (results : List Origin) (around : IsContext context)
    (well : IsWellFormed l) (at : l.body ≡ context (region args (joined_nodes before (node_then x after)) results)) where
  abbrev here : RegionTree
  here = region args (joined_nodes before (node_then x after)) results

  pub part_of : IsPartOf l (region args (joined_nodes before (node_then x after)) results)
  part_of = around.part l here (subst (IsPartOf l) at (whole_part l well))

  -- the numbers within the node, and those of the region, are not around them
  pub all_apart : distinct ((around.first ++ nodes_ids (joined_nodes before (node_then x after))) ++ around.last) ≡ true
  all_apart = subst (λ ids. distinct ids ≡ true) (ap region_ids at ∙ around.numbers here) (whole_part l well).unique

  pub own_apart : distinct (nodes_ids before ++ (node_ids x ++ nodes_ids after)) ≡ true
  own_apart = subst (λ ids. distinct ids ≡ true) (nodes_ids-joined before (node_then x after)) part_of.unique

  pub inside_it : (n : ℕ) → IsAmong n (regions_ids (regions_in x)) → IsAmong n (node_ids x)
  inside_it n h = by x h
    where
      by : (z : NodeTree) → IsAmong n (regions_ids (regions_in z)) → IsAmong n (node_ids z)
      by (node id op inputs rs) k = inr k

  -- a number that is within the node
  module _ (n : ℕ) (within : IsAmong n (node_ids x)) where
    in_region : IsAmong n (nodes_ids (joined_nodes before (node_then x after)))
    in_region =
        subst (IsAmong n) (sym (nodes_ids-joined before (node_then x after))) (among-right n (nodes_ids before) (node_ids x ++ nodes_ids after) (among-left n (node_ids x) (nodes_ids after) within))

    pub below_next : n < l.next
    below_next = below_one l.next n (nodes_ids (joined_nodes before (node_then x after))) part_of.below in_region

    pub not_in_first : IsAmong n around.first → ⊥
    not_in_first h =
        let ids = nodes_ids (joined_nodes before (node_then x after)) in
        distinct-apart around.first ids (distinct-split (around.first ++ ids) around.last all_apart).0 n h in_region

    pub not_in_last : IsAmong n around.last → ⊥
    not_in_last h =
        let ids = nodes_ids (joined_nodes before (node_then x after)) in
        distinct-apart (around.first ++ ids) around.last all_apart n (among-right n around.first ids in_region) h

    pub not_in_before : IsAmong n (nodes_ids before) → ⊥
    not_in_before h = distinct-apart (nodes_ids before) (node_ids x ++ nodes_ids after) own_apart n h (among-left n (node_ids x) (nodes_ids after) within)

    pub not_in_after : IsAmong n (nodes_ids after) → ⊥
    not_in_after h = distinct-apart (node_ids x) (nodes_ids after) (distinct-split (nodes_ids before) (node_ids x ++ nodes_ids after) own_apart).1 n within h

  pub not_inside : IsAmong (id_of x) (regions_ids (regions_in x)) → ⊥
  not_inside = by x (distinct-split (node_ids x) (nodes_ids after) (distinct-split (nodes_ids before) (node_ids x ++ nodes_ids after) own_apart).1).0
    where
      by : (z : NodeTree) → distinct (node_ids z) ≡ true → IsAmong (id_of z) (regions_ids (regions_in z)) → ⊥
      by (node id op inputs rs) d h = distinct-apart (id ∷ []) (regions_ids rs) d id (inl refl) h

  pub not_before : has_node (id_of x) before ≡ false
  not_before = has_none (id_of x) before (not_in_before (id_of x) (id-among x))

  -- a change at a number within the node is made in the region
  pub changed_in : (n : ℕ) (f : RegionTree → Option RegionTree) (r : RegionTree) → ChangesOnlyAt n f → IsAmong n (node_ids x) → region_changed f (context r) ≡ option_map context (region_changed f r)
  changed_in n f r only h = around.changes n f r only (not_in_first n h) (not_in_last n h)

  module _ (f : RegionTree → Option RegionTree) (only : ChangesOnlyAt (id_of x) f) where
    pub changed_at : (s : RegionTree) → f (region args (joined_nodes before (node_then x after)) results) ≡ Some s → region_changed f l.body ≡ Some (context s)
    changed_at s e = ap (region_changed f) at ∙ changed_in (id_of x) f here only (id-among x) ∙ ap (option_map context) (region_changed_here f here s e)

    none-inside : (z : NodeTree) → (IsAmong (id_of x) (regions_ids (regions_in z)) → ⊥) → node_changed f z ≡ None
    none-inside (node id op inputs rs) h = ap (option_map (λ ss. node id op inputs ss)) (regions_unchanged_without (id_of x) f (only_around (id_of x) f only) rs h)

    pub unchanged_at : f (region args (joined_nodes before (node_then x after)) results) ≡ None → region_changed f l.body ≡ None
    unchanged_at e =
        ap (region_changed f) at ∙ changed_in (id_of x) f here only (id-among x)
        ∙ ap (option_map context)
        (ap₂ (λ a b. option_or a (option_map (λ ns. region args ns results) b)) e
        (nodes_changed_within (id_of x) f (only_around (id_of x) f only) before x after (not_in_before (id_of x) (id-among x)) (not_in_after (id_of x) (id-among x))
        ∙ ap (option_map (λ y. joined_nodes before (node_then y after))) (none-inside x not_inside)))

  -- ---- what is left with these nodes in its place

  module _ (nodes : NodeTrees) (outs : List Origin) where
    abbrev now : RegionTree
    now = region_with args before (id_of x) nodes outs after results

    pub ids_now : region_ids (context (region_with args before (id_of x) nodes outs after results)) ≡ (around.first ++ (nodes_ids before ++ (nodes_ids nodes ++ nodes_ids after))) ++ around.last
    ids_now = around.numbers now ∙ ap (λ ids. (around.first ++ ids) ++ around.last) (ids_with args before (id_of x) nodes outs after results)

    pub count_now : length (region_ids (context (region_with args before (id_of x) nodes outs after results))) + length (node_ids x) ≡ length (region_ids l.body) + length (nodes_ids nodes)
    count_now =
        let old : region_ids l.body ≡ (around.first ++ (nodes_ids before ++ (node_ids x ++ nodes_ids after))) ++ around.last
        = ap region_ids at ∙ around.numbers here ∙ ap (λ ids. (around.first ++ ids) ++ around.last) (nodes_ids-joined before (node_then x after)) in
        omega (
          arith,
          ap length ids_now,
          ap length old,
          length-append (around.first ++ (nodes_ids before ++ (nodes_ids nodes ++ nodes_ids after))) around.last,
          length-append around.first (nodes_ids before ++ (nodes_ids nodes ++ nodes_ids after)),
          length-append (nodes_ids before) (nodes_ids nodes ++ nodes_ids after),
          length-append (nodes_ids nodes) (nodes_ids after),
          length-append (around.first ++ (nodes_ids before ++ (node_ids x ++ nodes_ids after))) around.last,
          length-append around.first (nodes_ids before ++ (node_ids x ++ nodes_ids after)),
          length-append (nodes_ids before) (node_ids x ++ nodes_ids after),
          length-append (node_ids x) (nodes_ids after),
        )

    -- a number within the node is gone, where the nodes that come do not have it
    pub gone : (n : ℕ) → IsAmong n (node_ids x) → (IsAmong n (nodes_ids nodes) → ⊥) → IsAmong n (region_ids (context (region_with args before (id_of x) nodes outs after results))) → ⊥
    gone n within h k = in_all (among-split n (around.first ++ (nodes_ids before ++ (nodes_ids nodes ++ nodes_ids after))) around.last (subst (IsAmong n) ids_now k))
      where
        in_new : IsAmong n (nodes_ids nodes) ⊎ IsAmong n (nodes_ids after) → ⊥
        in_new (inl j) = h j
        in_new (inr j) = not_in_after n within j

        in_own : IsAmong n (nodes_ids before) ⊎ IsAmong n (nodes_ids nodes ++ nodes_ids after) → ⊥
        in_own (inl j) = not_in_before n within j
        in_own (inr j) = in_new (among-split n (nodes_ids nodes) (nodes_ids after) j)

        in_front : IsAmong n around.first ⊎ IsAmong n (nodes_ids before ++ (nodes_ids nodes ++ nodes_ids after)) → ⊥
        in_front (inl j) = not_in_first n within j
        in_front (inr j) = in_own (among-split n (nodes_ids before) (nodes_ids nodes ++ nodes_ids after) j)

        in_all : IsAmong n (around.first ++ (nodes_ids before ++ (nodes_ids nodes ++ nodes_ids after))) ⊎ IsAmong n around.last → ⊥
        in_all (inl j) = in_front (among-split n around.first (nodes_ids before ++ (nodes_ids nodes ++ nodes_ids after)) j)
        in_all (inr j) = not_in_last n within j

  -- where a node of its number comes in its place, a change at a number within the node is made in that node's regions
  module _ (op : Op) (inputs : List Origin) (rs : RegionTrees) (outs : List Origin) (n : ℕ) (f : RegionTree → Option RegionTree) (only : ChangesOnlyAt n f) (within : IsAmong n (regions_ids (regions_in x)))
      (none : regions_changed f rs ≡ None) where
    abbrev y : NodeTree
    y = node (id_of x) op inputs rs

    abbrev after_now : NodeTrees
    after_now = nodes_redirected (outputs_to_results (id_of x) outs) after

    not_in_now : IsAmong n (nodes_ids after_now) → ⊥
    not_in_now h = not_in_after n (inside_it n within) (subst (IsAmong n) (nodes_ids-redirected (outputs_to_results (id_of x) outs) after) h)

    not_it : (id_of x == n) ≡ false
    not_it = by (id_of x == n) refl
      where
        by : (t : Bool) → (id_of x == n) ≡ t → t ≡ false
        by true q = absurd (not_inside (subst (λ m. IsAmong m (regions_ids (regions_in x))) (sym (same_number (id_of x) n q)) within))
        by false q = refl

    none_itself : has_node n (joined_nodes before (node_then y after_now)) ≡ false
    none_itself = has_node-joined n before (node_then y after_now) ∙ (λ i. has_none n before (not_in_before n (inside_it n within)) i || (not_it i || has_none n after_now not_in_now i))

    pub unchanged_within : region_changed f (context (region_with args before (id_of x) (node_then (node (id_of x) op inputs rs) no_nodes) outs after results)) ≡ None
    unchanged_within =
        let results_now = map (outputs_to_results (id_of x) outs) results in
        changed_in n f (region args (joined_nodes before (node_then y after_now)) results_now) only (inside_it n within)
        ∙ ap (option_map context)
        (ap₂ (λ a b. option_or a (option_map (λ ns. region args ns results_now) b)) (only (region args (joined_nodes before (node_then y after_now)) results_now) none_itself)
        (nodes_changed_within n f (only_around n f only) before y after_now (not_in_before n (inside_it n within)) not_in_now
        ∙ ap (λ o. option_map (λ z. joined_nodes before (node_then z after_now)) (option_map (λ ss. node (id_of x) op inputs ss) o)) none))
