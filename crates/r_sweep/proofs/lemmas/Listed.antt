-- A rule that changes the region that holds a node, on the list of nodes of a lambda.
use Rattle.std.proofs.Common.{◌≡◌, ◌+◌, ℕ, suc, ◌==◌, Bool, true, false, Option, None, Some, is_some, unwrap_or, option_map, option_and_then, List, [], ◌∷◌, ◌++◌, refl, sym, ap, ◌∙◌, arith}
use Rattle.std.specs.Prelude.{if◌then◌else◌}
use Rattle.std.proofs.lemmas.Bool.{or_parts}
use Rattle.g_graph.specs.Plain.{RegionTree, region, NodeTree, node, NodeTrees, no_nodes, node_then, RegionTrees, no_regions, region_then, id_of, PlainLambda}
use Rattle.g_graph.specs.Ids.{nodes_ids, regions_ids}
use Rattle.g_graph.specs.Signatures.{outputs_of}
use Rattle.g_graph.specs.Change.{has_node, region_changed, lambda_changed}
use Rattle.g_graph.specs.WellFormed.{kinds_of, IsWellFormed}
use Rattle.g_graph.specs.Nodes.{node_at}
use Rattle.g_graph.specs.Splice.{joined_nodes}
use Rattle.g_graph.proofs.lemmas.Found.{node_at-joined}
use Rattle.g_graph.proofs.lemmas.Indexes.{same_number_true}
use Rattle.g_graph.proofs.lemmas.Unique.{times, times_append, times_cons}
use Rattle.g_arena_def.specs.declared.place.Place.{Place}
use Rattle.g_arena_def.specs.Flat.{FlatNode, Flat, body_place, place_in, regions_flat, in_region, in_nodes, in_regions, flat_of}
use Rattle.g_arena_def.specs.Reads.{found}
use Rattle.r_sweep.proofs.lemmas.Regions.{IsChangeAt, IsHolder, has_none, changed_none, nodes_unchanged, map_twice}
use Rattle.r_sweep.proofs.lemmas.Around.{Around}
use Rattle.r_sweep.proofs.lemmas.Blocks.{Within}
use Rattle.r_sweep.proofs.lemmas.Kept.{fitting, none_first}
use Rattle.r_sweep.proofs.lemmas.Reading.{start_node, node_is_found}
use Rattle.r_sweep.proofs.lemmas.Standing.{within}

-- the list of the lambda with another region in the place
abbrev pub filled : (n : ℕ) (l : PlainLambda) → Around n l → RegionTree → Flat
filled n l z s = flat_of (record l { body = z.fill s })

-- ---- a step

-- what a change makes of a lambda, where there is a region that it changes
abbrev pub changed_if : (RegionTree → Option RegionTree) → PlainLambda → Option PlainLambda
changed_if g l = if is_some (region_changed g l.body) then Some (lambda_changed g l) else None

pub node_none : (n : ℕ) (ns : NodeTrees) → has_node n ns ≡ false → node_at n ns ≡ None
node_none n no_nodes e = refl
node_none n (node_then x ns) e =
    let both = or_parts (id_of x == n) (has_node n ns) e in
    ap (λ t. if t then Some x else node_at n ns) both.0 ∙ node_none n ns both.1

-- where the region that holds the node is known
step_is : (n : ℕ) (l : PlainLambda) (z : Around n l) (g : RegionTree → Option RegionTree) → IsChangeAt n g → changed_if g l ≡ option_map (λ s. record l { body = z.fill s }) (g z.here)
step_is n l z g at =
    let holder : IsHolder n z.here = record { has = z.has; once = z.once } in
    let now : region_changed g l.body ≡ option_map z.fill (g z.here) =
    ap (region_changed g) (sym z.is) ∙ z.changed_to z.here (record { args = refl; results = refl }) holder g at in
    (λ i. if is_some (now i) then Some (record l { body = unwrap_or (now i) l.body }) else None) ∙ by (g z.here)
  where
    by : (o : Option RegionTree) → (if is_some (option_map z.fill o) then Some (record l { body = unwrap_or (option_map z.fill o) l.body }) else None) ≡ option_map (λ s. record l { body = z.fill s }) o
    by None = refl
    by (Some s) = refl

-- ---- a node that is not there

none_both : (n : ℕ) (xs ys : List FlatNode) → found n (xs ++ ys) ≡ None → (found n xs ≡ None) × (found n ys ≡ None)
none_both n [] ys e = (refl, e)
none_both n (x ∷ xs) ys e = by (x.id == n) e (λ d. none_both n xs ys d)
  where
    by : (t : Bool) → (if t then Some x else found n (xs ++ ys)) ≡ None → (found n (xs ++ ys) ≡ None → (found n xs ≡ None) × (found n ys ≡ None)) →
        ((if t then Some x else found n xs) ≡ None) × (found n ys ≡ None)
    by true d f = absurd cc
    by false d f = f d

first_none : (n id : ℕ) (ns : List ℕ) (y : FlatNode) (xs : List FlatNode) → (if id == n then Some y else found n xs) ≡ None → (found n xs ≡ None → times n ns ≡ 0) → times n (id ∷ ns) ≡ 0
first_none n id ns y xs e f = by (id == n) e (times_cons n id ns)
  where
    by : (t : Bool) → (if t then Some y else found n xs) ≡ None → times n (id ∷ ns) ≡ (if t then 1 else 0) + times n ns → times n (id ∷ ns) ≡ 0
    by true d c = absurd cc
    by false d c = omega (arith, c, f d)

mutual
  none_nodes : (n : ℕ) (p : Place) (ns : NodeTrees) → found n (in_nodes p ns) ≡ None → times n (nodes_ids ns) ≡ 0
  none_nodes n p no_nodes e = refl
  none_nodes n p (node_then (node id op inputs rs) xs) e =
      let y : FlatNode = record { id = id; op = op; inputs = inputs; outputs = kinds_of (outputs_of op rs); regions = regions_flat rs; home = p } in
      let both = none_both n (y ∷ in_regions id 0 rs) (in_nodes p xs) e in
      let first = first_none n id (regions_ids rs) y (in_regions id 0 rs) both.0 (λ d. none_regions n id 0 rs d) in
      omega (arith, times_append n (id ∷ regions_ids rs) (nodes_ids xs), first, none_nodes n p xs both.1)

  none_regions : (n m k : ℕ) (rs : RegionTrees) → found n (in_regions m k rs) ≡ None → times n (regions_ids rs) ≡ 0
  none_regions n m k no_regions e = refl
  none_regions n m k (region_then (region args ns results) rs) e =
      let both = none_both n (in_nodes (place_in m k) ns) (in_regions m (suc k) rs) e in
      omega (arith, times_append n (nodes_ids ns) (regions_ids rs), none_nodes n (place_in m k) ns both.0, none_regions n m (suc k) rs both.1)

none_changed : (n : ℕ) (l : PlainLambda) (g : RegionTree → Option RegionTree) → IsChangeAt n g → found n (flat_of l).nodes ≡ None → changed_if g l ≡ None
none_changed n l g at e = λ i. if is_some (unchanged l.body e i) then Some (record l { body = unwrap_or (unchanged l.body e i) l.body }) else None
  where
    unchanged : (r : RegionTree) → found n (in_region body_place r) ≡ None → region_changed g r ≡ None
    unchanged (region args ns results) d =
        let none = none_nodes n body_place ns d in
        changed_none g args ns results (at (region args ns results) (has_none n ns none)) (nodes_unchanged n g at ns none)

-- ---- the rule at a node

-- the change of the region that holds node n, by a rule that is given the region and the node
abbrev pub change_by : (RegionTree → NodeTree → Option RegionTree) → ℕ → RegionTree → Option RegionTree
change_by f n (region args ns results) = option_and_then (f (region args ns results)) (node_at n ns)

change_at : (f : RegionTree → NodeTree → Option RegionTree) (n : ℕ) → IsChangeAt n (change_by f n)
change_at f n (region args ns results) e = ap (option_and_then (f (region args ns results))) (node_none n ns e)

here_is : (f : RegionTree → NodeTree → Option RegionTree) (n : ℕ) (l : PlainLambda) (w : Within n l) → IsWellFormed l →
    change_by f n w.around.here ≡ f w.around.here (node n w.op w.inputs w.regions)
here_is f n l w well =
    let own = node n w.op w.inputs w.regions in
    let whole = region w.args (joined_nodes w.before (node_then own w.after)) w.results in
    ap (change_by f n) w.is ∙ ap (option_and_then (f whole)) (node_at-joined n w.before own w.after (none_first n l w (fitting n l w well)) (same_number_true n))
    ∙ ap (λ r. f r own) (sym w.is)

-- A rule on the list of nodes is the rule on the lambda, where it is so at each node that is found.
pub is_listed : (f : RegionTree → NodeTree → Option RegionTree) (step : Flat → FlatNode → Option Flat) (n : ℕ) (l : PlainLambda) → IsWellFormed l →
    ((w : Within n l) → step (flat_of l) (start_node n l w) ≡ option_map (filled n l w.around) (f w.around.here (node n w.op w.inputs w.regions))) →
    option_and_then (step (flat_of l)) (found n (flat_of l).nodes) ≡ option_map flat_of (changed_if (change_by f n) l)
is_listed f step n l well same = by (found n (flat_of l).nodes) refl
  where
    by : (o : Option FlatNode) → found n (flat_of l).nodes ≡ o → option_and_then (step (flat_of l)) (found n (flat_of l).nodes) ≡ option_map flat_of (changed_if (change_by f n) l)
    by None e = ap (option_and_then (step (flat_of l))) e ∙ ap (option_map flat_of) (sym (none_changed n l (change_by f n) (change_at f n) e))
    by (Some x) e =
        let w = within n l x well e in
        let z = w.around in
        ap (option_and_then (step (flat_of l))) (node_is_found n l w) ∙ same w
        ∙ ap (option_map (filled n l z)) (sym (here_is f n l w well)) ∙ sym (map_twice flat_of (λ s. record l { body = z.fill s }) (change_by f n z.here))
        ∙ ap (option_map flat_of) (sym (step_is n l z (change_by f n) (change_at f n)))
