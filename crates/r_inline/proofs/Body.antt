-- What is known of the body of a well-formed callee without objects.
use Rattle.std.specs.Prelude.{◌&&◌, ◌+◌, nat_lt}
use Rattle.std.proofs.Common.{◌≡◌, ℕ, true, List, [], ◌∷◌, ◌++◌, map, length, replicate, Some, refl, sym, ap, ◌∙◌, length-append, arith}
use Rattle.std.proofs.lemmas.Bool.{and_parts, and_from}
use Rattle.std.proofs.lemmas.Bool.Decides.{nat_tests}
use Rattle.std.proofs.lemmas.List.{length-replicate}
use Rattle.g_graph.specs.declared.op.Kind.{Kind}
use Rattle.g_graph.specs.declared.op.Kind.TheVariants.{Value, Memory, Io}
use Rattle.g_graph.specs.declared.op.Op.TheVariants.{Local, Clear}
use Rattle.g_graph.specs.Plain.{RegionTree, region, NodeTree, node, NodeTrees, no_nodes, node_then, RegionTrees, no_regions, region_then, nodes_of, args_of, PlainLambda}
use Rattle.g_graph.specs.Ids.{region_ids}
use Rattle.g_graph.specs.Scope.{each_node}
use Rattle.g_graph.specs.Signatures.{result_kinds}
use Rattle.g_graph.specs.WellFormed.{all_of, distinct, are, same, inputs_fit, inputs_are_last, node_has_one_state_each, has_its_regions, regions_fit, theta_has_states, has_its_width, has_its_object, node_fits, nodes_fit, results_are_last, returns_state, region_has_one_state_each, region_fits, every_region, every_in_nodes, every_in_regions, leaves_fit, body_fits, numbers_fit, IsWellFormed}
use Rattle.g_graph.proofs.lemmas.Nodes.{are_kinds, same_kinds}

-- ---- a region that names no object fits with any number of objects

object-more : (objects : ℕ) (x : NodeTree) → has_its_object 0 x ≡ true → has_its_object objects x ≡ true
object-more objects (node id (Local k) inputs rs) e = absurd (grind (arith, nat_tests))
object-more objects (node id (Clear k) inputs rs) e = absurd (grind (arith, nat_tests))
object-more objects (node id _ inputs rs) e = refl

node-more : (objects : ℕ) (args : List Kind) (before : NodeTrees) (x : NodeTree) → node_fits 0 args before x ≡ true → node_fits objects args before x ≡ true
node-more objects args before x e =
    let front = inputs_fit args before x && inputs_are_last args before x && node_has_one_state_each args before x && has_its_regions x && regions_fit x && theta_has_states x && has_its_width x in
    let p = and_parts front (has_its_object 0 x) e in
    and_from front (has_its_object objects x) p.0 (object-more objects x p.1)

each-more : (objects : ℕ) (args : List Kind) (before : List NodeTree) (ns : NodeTrees) → each_node (node_fits 0 args) before ns ≡ true → each_node (node_fits objects args) before ns ≡ true
each-more objects args before no_nodes e = refl
each-more objects args before (node_then x ns) e =
    let p = and_parts (node_fits 0 args (nodes_of before) x) (each_node (node_fits 0 args) (before ++ x ∷ []) ns) e in
    and_from (node_fits objects args (nodes_of before) x) (each_node (node_fits objects args) (before ++ x ∷ []) ns) (node-more objects args (nodes_of before) x p.0)
    (each-more objects args (before ++ x ∷ []) ns p.1)

region-more : (objects : ℕ) (r : RegionTree) → region_fits 0 r ≡ true → region_fits objects r ≡ true
region-more objects (region args nodes results) e =
    let r = region args nodes results in
    let a = and_parts (nodes_fit 0 r && results_are_last r && returns_state Memory r && returns_state Io r) (region_has_one_state_each r) e in
    let b = and_parts (nodes_fit 0 r && results_are_last r && returns_state Memory r) (returns_state Io r) a.0 in
    let c = and_parts (nodes_fit 0 r && results_are_last r) (returns_state Memory r) b.0 in
    let d = and_parts (nodes_fit 0 r) (results_are_last r) c.0 in
    λ i. each-more objects args [] nodes d.0 i && d.1 i && c.1 i && b.1 i && a.1 i

mutual
  pub every-more : (objects : ℕ) (r : RegionTree) → every_region (region_fits 0) r ≡ true → every_region (region_fits objects) r ≡ true
  every-more objects (region args nodes results) e =
      let p = and_parts (region_fits 0 (region args nodes results)) (every_in_nodes (region_fits 0) nodes) e in
      and_from (region_fits objects (region args nodes results)) (every_in_nodes (region_fits objects) nodes) (region-more objects (region args nodes results) p.0) (nodes-more objects nodes p.1)

  nodes-more : (objects : ℕ) (ns : NodeTrees) → every_in_nodes (region_fits 0) ns ≡ true → every_in_nodes (region_fits objects) ns ≡ true
  nodes-more objects no_nodes e = refl
  nodes-more objects (node_then (node id op inputs rs) ns) e =
      let p = and_parts (every_in_regions (region_fits 0) rs) (every_in_nodes (region_fits 0) ns) e in
      and_from (every_in_regions (region_fits objects) rs) (every_in_nodes (region_fits objects) ns) (regions-more objects rs p.0) (nodes-more objects ns p.1)

  regions-more : (objects : ℕ) (rs : RegionTrees) → every_in_regions (region_fits 0) rs ≡ true → every_in_regions (region_fits objects) rs ≡ true
  regions-more objects no_regions e = refl
  regions-more objects (region_then r rs) e =
      let p = and_parts (every_region (region_fits 0) r) (every_in_regions (region_fits 0) rs) e in
      and_from (every_region (region_fits objects) r) (every_in_regions (region_fits objects) rs) (every-more objects r p.0) (regions-more objects rs p.1)

-- ---- the body

pub record IsBody (callee : PlainLambda) : Type 0 where
  pub fits : (objects : ℕ) → every_region (region_fits objects) callee.body ≡ true
  pub unique : distinct (region_ids callee.body) ≡ true
  pub args : args_of callee.body ≡ replicate callee.params Value ++ Memory ∷ Io ∷ []
  pub results : result_kinds callee.body ≡ map Some (Value ∷ Memory ∷ Io ∷ [])

pub is-body : (callee : PlainLambda) → IsWellFormed callee → callee.objects ≡ [] → IsBody callee
is-body callee well none =
    let nest = every_region (region_fits (length callee.objects)) callee.body in
    let p = and_parts (body_fits callee && numbers_fit callee && nest) (all_of (λ o. leaves_fit o.size 0 o.leaves) callee.objects) well in
    let q = and_parts (body_fits callee && numbers_fit callee) nest p.0 in
    let b = and_parts (body_fits callee) (numbers_fit callee) q.0 in
    let k =
    and_parts (same (args_of callee.body) (replicate callee.params Value ++ Memory ∷ Io ∷ [])) (are (result_kinds callee.body) (Value ∷ Memory ∷ Io ∷ [])) b.0 in
    record {
      fits = λ objects. every-more objects callee.body (ap (λ os. every_region (region_fits (length os)) callee.body) (sym none) ∙ q.1);
      unique = (and_parts (distinct (region_ids callee.body)) (all_of (λ n. nat_lt n callee.next) (region_ids callee.body)) b.1).0;
      args = same_kinds (args_of callee.body) (replicate callee.params Value ++ Memory ∷ Io ∷ []) k.0;
      results = are_kinds (result_kinds callee.body) (Value ∷ Memory ∷ Io ∷ []) k.1;
    }

pub arguments-count : (params : ℕ) → length (replicate params Value ++ Memory ∷ Io ∷ []) ≡ params + 2
arguments-count params = length-append (replicate params Value) (Memory ∷ Io ∷ []) ∙ ap (λ n. n + 2) (length-replicate params Value)
