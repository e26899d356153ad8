-- A node of a well-formed region has two values at least: itself, and an output or a region.
use Rattle.std.proofs.Common.{◌≡◌, ◌≤◌, ◌+◌, ◌*◌, ℕ, suc, true, List, [], ◌∷◌, ◌++◌, length, length-append, arith}
use Rattle.std.proofs.lemmas.Bool.{and_parts}
use Rattle.g_graph.specs.declared.op.Kind.{Kind}
use Rattle.g_graph.specs.declared.op.Op.{Op}
use Rattle.g_graph.specs.declared.op.Op.TheVariants.{Const, Undef, Local, Delta, Bin, Un, Load, Store, Clear, PtrEq, Apply, Put, Exit, Get, Gamma, Theta}
use Rattle.g_graph.specs.declared.op.Origin.{Origin}
use Rattle.g_graph.specs.Plain.{RegionTree, region, NodeTree, node, NodeTrees, no_nodes, node_then, nodes_of, RegionTrees, no_regions, region_then, count_of, PlainLambda}
use Rattle.g_graph.specs.Ids.{region_ids, node_ids, nodes_ids, regions_ids}
use Rattle.g_graph.specs.Count.{region_values, node_values, nodes_values, regions_values}
use Rattle.g_graph.specs.Program.{lambda_values}
use Rattle.g_graph.specs.Scope.{each_node}
use Rattle.g_graph.specs.Signatures.{outputs_of}
use Rattle.g_graph.specs.WellFormed.{has_its_regions, node_fits, region_fits, every_region, every_in_node, every_in_nodes, every_in_regions, IsWellFormed}

some_value : (id : ℕ) (op : Op) (inputs : List Origin) (rs : RegionTrees) → has_its_regions (node id op inputs rs) ≡ true → 1 ≤ length (outputs_of op rs) + count_of rs
some_value id Gamma inputs no_regions h = absurd cc
some_value id Gamma inputs (region_then r rs) h = omega arith
some_value id Theta inputs no_regions h = absurd cc
some_value id Theta inputs (region_then r rs) h = omega arith
some_value id (Const w) inputs rs h = omega arith
some_value id Undef inputs rs h = omega arith
some_value id (Local k) inputs rs h = omega arith
some_value id (Delta k) inputs rs h = omega arith
some_value id (Bin op) inputs rs h = omega arith
some_value id (Un op) inputs rs h = omega arith
some_value id (Load w) inputs rs h = omega arith
some_value id (Store w) inputs rs h = omega arith
some_value id (Clear k) inputs rs h = omega arith
some_value id PtrEq inputs rs h = omega arith
some_value id (Apply f) inputs rs h = omega arith
some_value id Put inputs rs h = omega arith
some_value id Exit inputs rs h = omega arith
some_value id Get inputs rs h = omega arith

mutual
  region_sized : (objects : ℕ) (r : RegionTree) → every_region (region_fits objects) r ≡ true → suc (2 * length (region_ids r)) ≤ region_values r
  region_sized objects (region args nodes results) e =
      let both = and_parts (region_fits objects (region args nodes results)) (every_in_nodes (region_fits objects) nodes) e in
      let fits = (and_parts _ _ (and_parts _ _ (and_parts _ _ (and_parts _ _ both.0).0).0).0).0 in
      let inner = nodes_sized objects args [] nodes fits both.1 in
      omega (arith, inner)

  node_sized : (objects : ℕ) (args : List Kind) (before : NodeTrees) (x : NodeTree) → node_fits objects args before x ≡ true → every_in_node (region_fits objects) x ≡ true →
      2 * length (node_ids x) ≤ node_values x
  node_sized objects args before (node id op inputs rs) f e =
      let own : has_its_regions (node id op inputs rs) ≡ true = (and_parts _ _ (and_parts _ _ (and_parts _ _ (and_parts _ _ (and_parts _ _ f).0).0).0).0).1 in
      let some = some_value id op inputs rs own in
      let inner = regions_sized objects rs e in
      omega (arith, some, inner)

  nodes_sized : (objects : ℕ) (args : List Kind) (before : List NodeTree) (ns : NodeTrees) → each_node (node_fits objects args) before ns ≡ true →
      every_in_nodes (region_fits objects) ns ≡ true → 2 * length (nodes_ids ns) ≤ nodes_values ns
  nodes_sized objects args before no_nodes f e = omega arith
  nodes_sized objects args before (node_then x ns) f e =
      let each = and_parts (node_fits objects args (nodes_of before) x) (each_node (node_fits objects args) (before ++ x ∷ []) ns) f in
      let every = and_parts (every_in_node (region_fits objects) x) (every_in_nodes (region_fits objects) ns) e in
      let first = node_sized objects args (nodes_of before) x each.0 every.0 in
      let rest = nodes_sized objects args (before ++ x ∷ []) ns each.1 every.1 in
      omega (arith, first, rest, length-append (node_ids x) (nodes_ids ns))

  regions_sized : (objects : ℕ) (rs : RegionTrees) → every_in_regions (region_fits objects) rs ≡ true → count_of rs + 2 * length (regions_ids rs) ≤ regions_values rs
  regions_sized objects no_regions e = omega arith
  regions_sized objects (region_then r rs) e =
      let both = and_parts (every_region (region_fits objects) r) (every_in_regions (region_fits objects) rs) e in
      let first = region_sized objects r both.0 in
      let rest = regions_sized objects rs both.1 in
      omega (arith, first, rest, length-append (region_ids r) (regions_ids rs))

-- the regions of a well-formed lambda fit
pub body_inside : (l : PlainLambda) → IsWellFormed l → every_region (region_fits (length l.objects)) l.body ≡ true
body_inside l w = (and_parts _ _ (and_parts _ _ w).0).1

pub lambda_sized : (l : PlainLambda) → IsWellFormed l → 2 * length (region_ids l.body) ≤ lambda_values l
lambda_sized l w = let all = region_sized (length l.objects) l.body (body_inside l w) in omega (arith, all)
