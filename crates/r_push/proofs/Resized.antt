-- How many values come where a node leaves another one.
use Rattle.std.specs.Option.{option_or}
use Rattle.std.specs.Prelude.{option_and_then}
use Rattle.std.proofs.Common.{◌≡◌, ◌≤◌, ◌+◌, ℕ, ◌==◌, Bool, true, false, cond, List, [], ◌∷◌, ◌++◌, map, length, Option, None, Some, option_map, refl, sym, ap, subst, ◌∙◌, arith}
use Rattle.std.proofs.lemmas.List.{length-map, length-append}
use Rattle.std.proofs.lemmas.Option.{same_Some, cond_some}
use Rattle.g_graph.specs.declared.op.Kind.{Kind}
use Rattle.g_graph.specs.declared.op.Kind.TheVariants.{Value}
use Rattle.g_graph.specs.declared.op.Op.TheVariants.{Const, Undef, Local, Delta, Bin, Un, Load, Store, Clear, PtrEq, Apply, Put, Exit, Get, Gamma, Theta}
use Rattle.g_graph.specs.declared.op.Origin.{Origin}
use Rattle.g_graph.specs.declared.op.Origin.TheVariants.{Arg, Out}
use Rattle.g_graph.specs.Plain.{RegionTree, region, NodeTree, node, NodeTrees, no_nodes, node_then, RegionTrees, no_regions, region_then, id_of, count_of}
use Rattle.g_graph.specs.Signatures.{outputs_of}
use Rattle.g_graph.specs.Count.{region_values, node_values, nodes_values, regions_values}
use Rattle.g_graph.specs.Nodes.{node_at}
use Rattle.g_graph.specs.Replace.{node_redirected, nodes_redirected, origin_replaced}
use Rattle.g_graph.specs.Splice.{args_to_inputs, joined_nodes}
use Rattle.g_graph.proofs.lemmas.Splices.{nodes_values-joined}
use Rattle.g_graph.proofs.lemmas.Redirects.{nodes_values-redirected}
use Rattle.r_edit.specs.Removal.{nodes_without}
use Rattle.r_edit.specs.Added.{input_added}
use Rattle.r_edit.specs.Size.{IsResized}
use Rattle.r_push.specs.Rule.{names_argument, may_leave, only, leaving, leaving_one, is_invariant, leaving_loop, carried, regions_carried, looped, placed, growth, pushed, push_here}
use Rattle.r_push.proofs.Replaced.{changed-at}

-- ---- a region

leaving-at : (test : Origin → Bool) (n : ℕ) (args : List Kind) (nodes : NodeTrees) (results : List Origin) (y : NodeTree) → leaving test n (region args nodes results) ≡ Some y → node_at n nodes ≡
    Some y
leaving-at test n args nodes results y e = by (node_at n nodes) refl e
  where
    by : (found : Option NodeTree) → node_at n nodes ≡ found → option_and_then (λ x. only (may_leave test (region args nodes results) x) x) found ≡ Some y → node_at n nodes ≡ Some y
    by None d f = absurd cc
    by (Some x) d f = d ∙ ap Some (cond_some (may_leave test (region args nodes results) x) x y f).1

redirected-same : (f : Origin → Origin) (x : NodeTree) → node_values (node_redirected f x) ≡ node_values x
redirected-same f (node id op inputs rs) = refl

redirected-number : (f : Origin → Origin) (x : NodeTree) → id_of (node_redirected f x) ≡ id_of x
redirected-number f (node id op inputs rs) = refl

-- the first node of the number goes
gone-values : (f : Origin → Origin) (n : ℕ) (ns : NodeTrees) (y : NodeTree) → node_at n ns ≡ Some y → nodes_values (nodes_without n (nodes_redirected f ns)) + node_values y ≡ nodes_values ns
gone-values f n no_nodes y e = absurd cc
gone-values f n (node_then x ns) y e =
    ap (λ i. nodes_values (cond (i == n) (nodes_redirected f ns) (node_then (node_redirected f x) (nodes_without n (nodes_redirected f ns)))) + node_values y) (redirected-number f x)
    ∙ by (id_of x == n) e (gone-values f n ns y)
  where
    by : (t : Bool) → cond t (Some x) (node_at n ns) ≡ Some y → (node_at n ns ≡ Some y → nodes_values (nodes_without n (nodes_redirected f ns)) + node_values y ≡ nodes_values ns) →
        nodes_values (cond t (nodes_redirected f ns) (node_then (node_redirected f x) (nodes_without n (nodes_redirected f ns)))) + node_values y ≡ node_values x + nodes_values ns
    by true d rest = let same = same_Some x y d in omega (arith, nodes_values-redirected f ns, ap node_values same)
    by false d rest = omega (arith, rest d, redirected-same f x)

fewer-values : (f : Origin → Origin) (n : ℕ) (ns : NodeTrees) → nodes_values (nodes_without n (nodes_redirected f ns)) ≤ nodes_values ns
fewer-values f n no_nodes = omega arith
fewer-values f n (node_then x ns) =
    subst (λ i. nodes_values (cond (i == n) (nodes_redirected f ns) (node_then (node_redirected f x) (nodes_without n (nodes_redirected f ns)))) ≤ node_values x + nodes_values ns)
    (sym (redirected-number f x))
    (by (id_of x == n) (fewer-values f n ns))
  where
    by : (t : Bool) → nodes_values (nodes_without n (nodes_redirected f ns)) ≤ nodes_values ns →
        nodes_values (cond t (nodes_redirected f ns) (node_then (node_redirected f x) (nodes_without n (nodes_redirected f ns)))) ≤ node_values x + nodes_values ns
    by true rest = omega (arith, nodes_values-redirected f ns)
    by false rest = omega (arith, rest, redirected-same f x)

carried-fewer : (n : ℕ) (r : RegionTree) → region_values (carried n r) ≤ region_values r + 1
carried-fewer n (region args nodes results) =
    let move = origin_replaced (Out n 0) (Arg (length args)) in
    omega (arith, fewer-values move n nodes, length-append args (Value ∷ []), length-map results move)

carried-gone : (n : ℕ) (args : List Kind) (nodes : NodeTrees) (results : List Origin) (y : NodeTree) → node_at n nodes ≡ Some y →
    region_values (carried n (region args nodes results)) + node_values y ≡ region_values (region args nodes results) + 1
carried-gone n args nodes results y e =
    let move = origin_replaced (Out n 0) (Arg (length args)) in
    omega (arith, gone-values move n nodes y e, length-append args (Value ∷ []), length-map results move)

-- ---- the regions of a Gamma

regions-fewer : (n : ℕ) (rs : RegionTrees) → regions_values (regions_carried n rs) ≤ regions_values rs + count_of rs
regions-fewer n no_regions = omega arith
regions-fewer n (region_then r rs) = omega (arith, carried-fewer n r, regions-fewer n rs)

regions-gone : (n : ℕ) (rs : RegionTrees) (y : NodeTree) → leaving_one n rs ≡ Some y → regions_values (regions_carried n rs) + node_values y ≤ regions_values rs + count_of rs
regions-gone n no_regions y e = absurd cc
regions-gone n (region_then (region args nodes results) rs) y e = by (leaving names_argument n (region args nodes results)) refl e (regions-gone n rs y)
  where
    r : RegionTree
    r = region args nodes results

    by : (first : Option NodeTree) → leaving names_argument n r ≡ first → option_or first (leaving_one n rs) ≡ Some y →
        (leaving_one n rs ≡ Some y → regions_values (regions_carried n rs) + node_values y ≤ regions_values rs + count_of rs) →
        regions_values (regions_carried n (region_then r rs)) + node_values y ≤ regions_values (region_then r rs) + count_of (region_then r rs)
    by (Some z) d f rest = omega (arith, carried-gone n args nodes results y (leaving-at names_argument n args nodes results y (d ∙ f)), regions-fewer n rs)
    by None d f rest = omega (arith, carried-fewer n r, rest f)

outputs-as-many : (n : ℕ) (rs : RegionTrees) → length (outputs_of Gamma (regions_carried n rs)) ≡ length (outputs_of Gamma rs)
outputs-as-many n no_regions = refl
outputs-as-many n (region_then (region args nodes results) rs) =
    let move = origin_replaced (Out n 0) (Arg (length args)) in
    length-map (map move results) _ ∙ length-map results move ∙ sym (length-map results _)

-- ---- the node

two-values : (inputs : List Origin) (y z : NodeTree) → nodes_values (placed inputs y z) ≡ node_values y + node_values z
two-values inputs y z = omega (arith, redirected-same (args_to_inputs inputs) y)

left-values : (n : ℕ) (x : NodeTree) (two : NodeTrees) → pushed n x ≡ Some two → nodes_values two ≤ node_values x + growth x
left-values n (node id Gamma (p ∷ entries) rs) two e = by (leaving_one n rs) refl e
  where
    by : (found : Option NodeTree) → leaving_one n rs ≡ found →
        option_map (λ y. placed entries y (input_added (Out n 0) (node id Gamma (p ∷ entries) (regions_carried n rs)))) found ≡ Some two →
        nodes_values two ≤ node_values (node id Gamma (p ∷ entries) rs) + count_of rs
    by None d f = absurd cc
    by (Some y) d f =
        let x' = input_added (Out n 0) (node id Gamma (p ∷ entries) (regions_carried n rs)) in
        omega (arith, ap nodes_values (same_Some (placed entries y x') two f), two-values entries y x', regions-gone n rs y d, outputs-as-many n rs)
left-values n (node id Theta inputs (region_then (region own nodes outs) no_regions)) two e = by (leaving_loop n (region own nodes outs)) refl e
  where
    r : RegionTree
    r = region own nodes outs

    move : Origin → Origin
    move = origin_replaced (Out n 0) (Arg (length own))

    by : (found : Option NodeTree) → leaving_loop n r ≡ found →
        option_map (λ y. placed inputs y (input_added (Out n 0) (node id Theta inputs (region_then (looped n r) no_regions)))) found ≡ Some two →
        nodes_values two ≤ node_values (node id Theta inputs (region_then r no_regions)) + 3
    by None d f = absurd cc
    by (Some y) d f =
        let x' = input_added (Out n 0) (node id Theta inputs (region_then (looped n r) no_regions)) in
        omega (
          arith,
          ap nodes_values (same_Some (placed inputs y x') two f),
          two-values inputs y x',
          gone-values move n nodes y (leaving-at (is_invariant outs) n own nodes outs y d),
          length-append own (Value ∷ []),
          length-append (map move outs) (Arg (length own) ∷ []),
          length-map outs move,
          length-map own Some,
          length-map (own ++ Value ∷ []) Some,
        )
left-values n (node id Gamma [] rs) two e = absurd cc
left-values n (node id Theta inputs no_regions) two e = absurd cc
left-values n (node id Theta inputs (region_then (region own nodes outs) (region_then s rs))) two e = absurd cc
left-values n (node id (Const w) inputs rs) two e = absurd cc
left-values n (node id Undef inputs rs) two e = absurd cc
left-values n (node id (Local k) inputs rs) two e = absurd cc
left-values n (node id (Delta k) inputs rs) two e = absurd cc
left-values n (node id (Bin o) inputs rs) two e = absurd cc
left-values n (node id (Un o) inputs rs) two e = absurd cc
left-values n (node id (Load w) inputs rs) two e = absurd cc
left-values n (node id (Store w) inputs rs) two e = absurd cc
left-values n (node id (Clear k) inputs rs) two e = absurd cc
left-values n (node id PtrEq inputs rs) two e = absurd cc
left-values n (node id (Apply f) inputs rs) two e = absurd cc
left-values n (node id Put inputs rs) two e = absurd cc
left-values n (node id Exit inputs rs) two e = absurd cc
left-values n (node id Get inputs rs) two e = absurd cc

-- ---- the rule

pub push_resizes : (values n : ℕ) (r s : RegionTree) → push_here values n r ≡ Some s → IsResized values r s
push_resizes values n (region args ns results) s e =
    let at = changed-at values n args ns results s e in
    let now = joined_nodes at.before (joined_nodes at.two at.after) in
    subst (λ t. IsResized values (region args ns results) t) (sym at.result)
    (record {
      args = refl;
      results = length-map results _ ∙ sym (length-map results _);
      resized = record {
        added = growth at.left;
        gone = 0;
        count = omega (
          arith,
          ap nodes_values at.is,
          nodes_values-joined at.before (node_then at.left at.after),
          nodes_values-joined at.before (joined_nodes at.two at.after),
          nodes_values-joined at.two at.after,
          left-values n at.left at.two at.gives,
        );
        may = at.may;
      };
    })
