-- Edits that add no values.
use Rattle.std.proofs.Common.{◌≡◌, ◌≤◌, ◌+◌, ℕ, ◌==◌, Bool, true, false, cond, List, [], ◌∷◌, map, length, Option, None, Some, refl, sym, subst, ◌∙◌, arith}
use Rattle.std.proofs.lemmas.List.{length-map}
use Rattle.g_graph.specs.declared.op.Op.{Op}
use Rattle.g_graph.specs.declared.op.Op.TheVariants.{Const, Undef, Local, Delta, Bin, Un, Load, Store, Clear, PtrEq, Apply, Put, Exit, Get, Gamma, Theta}
use Rattle.g_graph.specs.declared.op.Origin.{Origin}
use Rattle.g_graph.specs.Plain.{RegionTree, region, NodeTree, node, NodeTrees, no_nodes, node_then, RegionTrees, no_regions, region_then, id_of, args_of}
use Rattle.g_graph.specs.Signatures.{first_args, kind_of, kind_after, outputs_of, result_kinds}
use Rattle.g_graph.specs.Count.{region_values, node_values, nodes_values, regions_values}
use Rattle.g_graph.specs.Replace.{nodes_redirected, origin_replaced}
use Rattle.g_graph.proofs.lemmas.Redirects.{nodes_values-redirected}
use Rattle.r_edit.specs.Places.{kept}
use Rattle.r_edit.specs.Uses.{uses_replaced}
use Rattle.r_edit.specs.Removal.{nodes_without, region_without}
use Rattle.r_edit.specs.Exits.{regions_giving, node_giving, output_after, nodes_giving, exits_kept}
use Rattle.r_edit.specs.Entries.{argument_after, regions_taking, node_taking, nodes_taking, entries_kept}
use Rattle.r_edit.specs.Variables.{region_looping, node_looping, nodes_looping, variables_kept}
use Rattle.r_edit.specs.InPlace.{redirected_after, outputs_redirected}
use Rattle.r_edit.specs.Carried.{output_carried, staying, nodes_carrying, exits_carried}
use Rattle.r_edit.specs.Size.{IsResized}
use Rattle.r_edit.proofs.lemmas.Size.{redirected-resized}
use Rattle.r_edit.proofs.lemmas.Uses.{replaced_is}

kept-fewer : {X : Type 0} (stays : List Bool) (xs : List X) → length (kept stays xs) ≤ length xs
kept-fewer stays [] = omega arith
kept-fewer [] (x ∷ xs) = omega arith
kept-fewer (true ∷ ts) (x ∷ xs) = omega (arith, kept-fewer ts xs)
kept-fewer (false ∷ ts) (x ∷ xs) = omega (arith, kept-fewer ts xs)

-- no more outputs, where a Gamma and a Theta have none more
outputs-fewer : (rs ss : RegionTrees) → length (outputs_of Gamma ss) ≤ length (outputs_of Gamma rs) → length (first_args ss) ≤ length (first_args rs) → (op : Op) →
    length (outputs_of op ss) ≤ length (outputs_of op rs)
outputs-fewer rs ss gamma theta Gamma = gamma
outputs-fewer rs ss gamma theta Theta = omega (arith, theta, length-map (first_args ss) Some, length-map (first_args rs) Some)
outputs-fewer rs ss gamma theta (Const w) = omega arith
outputs-fewer rs ss gamma theta Undef = omega arith
outputs-fewer rs ss gamma theta (Local k) = omega arith
outputs-fewer rs ss gamma theta (Delta k) = omega arith
outputs-fewer rs ss gamma theta (Bin op) = omega arith
outputs-fewer rs ss gamma theta (Un op) = omega arith
outputs-fewer rs ss gamma theta (Load w) = omega arith
outputs-fewer rs ss gamma theta (Store w) = omega arith
outputs-fewer rs ss gamma theta (Clear k) = omega arith
outputs-fewer rs ss gamma theta PtrEq = omega arith
outputs-fewer rs ss gamma theta (Apply f) = omega arith
outputs-fewer rs ss gamma theta Put = omega arith
outputs-fewer rs ss gamma theta Exit = omega arith
outputs-fewer rs ss gamma theta Get = omega arith

-- a region with as many arguments and results, and no more values
pub no-more : (values : ℕ) (r s : RegionTree) → length (args_of s) ≡ length (args_of r) → length (result_kinds s) ≡ length (result_kinds r) → region_values s ≤ region_values r → IsResized values r s
no-more values r s args results fewer =
    record { args = args; results = results; resized = record { added = 0; gone = 0; count = omega (arith, fewer); may = refl } }

-- ---- uses, and nodes that go

pub uses-resized : (values : ℕ) (from to : Origin) (r s : RegionTree) → uses_replaced from to r ≡ Some s → IsResized values r s
uses-resized values from to r s e =
    subst (λ t. IsResized values r t) (replaced_is from to r s e) (redirected-resized values (origin_replaced from to) r)

without-fewer : (n : ℕ) (ns : NodeTrees) → nodes_values (nodes_without n ns) ≤ nodes_values ns
without-fewer n no_nodes = omega arith
without-fewer n (node_then x ns) = by (id_of x == n) (without-fewer n ns)
  where
    by : (t : Bool) → nodes_values (nodes_without n ns) ≤ nodes_values ns → nodes_values (cond t ns (node_then x (nodes_without n ns))) ≤ node_values x + nodes_values ns
    by true rest = omega arith
    by false rest = omega (arith, rest)

pub without-resized : (values n : ℕ) (r : RegionTree) → IsResized values r (region_without n r)
without-resized values n (region args nodes results) =
    no-more values (region args nodes results) (region_without n (region args nodes results)) refl (length-map results _ ∙ sym (length-map results _)) (omega (arith, without-fewer n nodes))

-- ---- exit variables

module _ (stays : List Bool) where
  giving-fewer : (rs : RegionTrees) → regions_values (regions_giving stays rs) ≤ regions_values rs
  giving-fewer no_regions = omega arith
  giving-fewer (region_then (region args nodes results) rs) = omega (arith, kept-fewer stays results, giving-fewer rs)

  giving-outputs : (rs : RegionTrees) → length (outputs_of Gamma (regions_giving stays rs)) ≤ length (outputs_of Gamma rs)
  giving-outputs no_regions = omega arith
  giving-outputs (region_then (region args nodes results) rs) =
      omega (arith, kept-fewer stays results, length-map (kept stays results) (kind_of args (λ n p. kind_after nodes n p None)), length-map results (kind_of args (λ n p. kind_after nodes n p None)))

  giving-args : (rs : RegionTrees) → length (first_args (regions_giving stays rs)) ≤ length (first_args rs)
  giving-args no_regions = omega arith
  giving-args (region_then (region args nodes results) rs) = omega arith

  giving-node : (x : NodeTree) → node_values (node_giving stays x) ≤ node_values x
  giving-node (node id op inputs rs) =
      omega (arith, giving-fewer rs, outputs-fewer rs (regions_giving stays rs) (giving-outputs rs) (giving-args rs) op)

  giving-nodes : (n : ℕ) (ns : NodeTrees) → nodes_values (nodes_giving n stays ns) ≤ nodes_values ns
  giving-nodes n no_nodes = omega arith
  giving-nodes n (node_then x ns) = by (id_of x == n) (giving-nodes n ns)
    where
      by : (t : Bool) → nodes_values (nodes_giving n stays ns) ≤ nodes_values ns →
          nodes_values (cond t (node_then (node_giving stays x) (nodes_redirected (output_after n stays) ns)) (node_then x (nodes_giving n stays ns))) ≤ node_values x + nodes_values ns
      by true rest = omega (arith, giving-node x, nodes_values-redirected (output_after n stays) ns)
      by false rest = omega (arith, rest)

  -- ---- entry variables

  taking-fewer : (rs : RegionTrees) → regions_values (regions_taking stays rs) ≤ regions_values rs
  taking-fewer no_regions = omega arith
  taking-fewer (region_then (region args nodes results) rs) =
      omega (arith, kept-fewer stays args, nodes_values-redirected (argument_after stays) nodes, length-map results (argument_after stays), taking-fewer rs)

  taking-outputs : (rs : RegionTrees) → length (outputs_of Gamma (regions_taking stays rs)) ≤ length (outputs_of Gamma rs)
  taking-outputs no_regions = omega arith
  taking-outputs (region_then (region args nodes results) rs) =
      let many : length (outputs_of Gamma (regions_taking stays (region_then (region args nodes results) rs))) ≡ length (outputs_of Gamma (region_then (region args nodes results) rs)) =
      length-map (map (argument_after stays) results) _ ∙ length-map results (argument_after stays) ∙ sym (length-map results _) in
      omega (arith, many)

  taking-args : (rs : RegionTrees) → length (first_args (regions_taking stays rs)) ≤ length (first_args rs)
  taking-args no_regions = omega arith
  taking-args (region_then (region args nodes results) rs) = kept-fewer stays args

  taking-node : (x : NodeTree) → node_values (node_taking stays x) ≤ node_values x
  taking-node (node id op inputs rs) =
      omega (arith, taking-fewer rs, outputs-fewer rs (regions_taking stays rs) (taking-outputs rs) (taking-args rs) op)

  taking-nodes : (n : ℕ) (ns : NodeTrees) → nodes_values (nodes_taking n stays ns) ≤ nodes_values ns
  taking-nodes n no_nodes = omega arith
  taking-nodes n (node_then x ns) = by (id_of x == n) (taking-nodes n ns)
    where
      by : (t : Bool) → nodes_values (nodes_taking n stays ns) ≤ nodes_values ns →
          nodes_values (cond t (node_then (node_taking stays x) ns) (node_then x (nodes_taking n stays ns))) ≤ node_values x + nodes_values ns
      by true rest = omega (arith, taking-node x)
      by false rest = omega (arith, rest)

  -- ---- loop variables

  looping-region : (r : RegionTree) → region_values (region_looping stays r) ≤ region_values r
  looping-region (region args nodes results) =
      omega (
        arith,
        kept-fewer stays args,
        kept-fewer (true ∷ stays) results,
        nodes_values-redirected (argument_after stays) nodes,
        length-map (kept (true ∷ stays) results) (argument_after stays),
      )

  looping-outputs : (r : RegionTree) → length (outputs_of Gamma (region_then (region_looping stays r) no_regions)) ≤ length (outputs_of Gamma (region_then r no_regions))
  looping-outputs (region args nodes results) =
      let near : length (outputs_of Gamma (region_then (region args nodes results) no_regions)) ≡ length results = length-map results _ in
      let far : length (outputs_of Gamma (region_then (region_looping stays (region args nodes results)) no_regions)) ≡ length (kept (true ∷ stays) results) =
      length-map (map (argument_after stays) (kept (true ∷ stays) results)) _ ∙ length-map (kept (true ∷ stays) results) (argument_after stays) in
      omega (arith, near, far, kept-fewer (true ∷ stays) results)

  looping-args : (r : RegionTree) → length (first_args (region_then (region_looping stays r) no_regions)) ≤ length (first_args (region_then r no_regions))
  looping-args (region args nodes results) = kept-fewer stays args

  looping-node : (x : NodeTree) → node_values (node_looping stays x) ≤ node_values x
  looping-node (node id op inputs (region_then r no_regions)) =
      omega (arith, looping-region r, outputs-fewer (region_then r no_regions) (region_then (region_looping stays r) no_regions) (looping-outputs r) (looping-args r) op)
  looping-node (node id op inputs no_regions) = omega arith
  looping-node (node id op inputs (region_then r (region_then s rs))) = omega arith

  looping-nodes : (n : ℕ) (ns : NodeTrees) → nodes_values (nodes_looping n stays ns) ≤ nodes_values ns
  looping-nodes n no_nodes = omega arith
  looping-nodes n (node_then x ns) = by (id_of x == n) (looping-nodes n ns)
    where
      by : (t : Bool) → nodes_values (nodes_looping n stays ns) ≤ nodes_values ns →
          nodes_values (cond t (node_then (node_looping stays x) (nodes_redirected (output_after n stays) ns)) (node_then x (nodes_looping n stays ns))) ≤ node_values x + nodes_values ns
      by true rest = omega (arith, looping-node x, nodes_values-redirected (output_after n stays) ns)
      by false rest = omega (arith, rest)

  pub variables-resized : (values n : ℕ) (r : RegionTree) → IsResized values r (variables_kept n stays r)
  variables-resized values n (region args nodes results) =
      no-more values (region args nodes results) (variables_kept n stays (region args nodes results)) refl
      (length-map (map (output_after n stays) results) _ ∙ length-map results (output_after n stays) ∙ sym (length-map results _))
      (omega (arith, looping-nodes n nodes, length-map results (output_after n stays)))

-- ---- both

pub exits-and-entries-resized : (exits entries : List Bool) (values n : ℕ) (r : RegionTree) → IsResized values r (entries_kept n entries (exits_kept n exits r))
exits-and-entries-resized exits entries values n (region args nodes results) =
    no-more values (region args nodes results) (entries_kept n entries (exits_kept n exits (region args nodes results))) refl
    (length-map (map (output_after n exits) results) _ ∙ length-map results (output_after n exits) ∙ sym (length-map results _))
    (omega (arith, taking-nodes entries n (nodes_giving n exits nodes), giving-nodes exits n nodes, length-map results (output_after n exits)))

-- ---- uses of outputs that become other uses

after-same : (n : ℕ) (f : Origin → Origin) (ns : NodeTrees) → nodes_values (redirected_after n f ns) ≡ nodes_values ns
after-same n f no_nodes = refl
after-same n f (node_then x ns) = by (id_of x == n) (after-same n f ns)
  where
    by : (t : Bool) → nodes_values (redirected_after n f ns) ≡ nodes_values ns →
        nodes_values (cond t (node_then x (nodes_redirected f ns)) (node_then x (redirected_after n f ns))) ≡ node_values x + nodes_values ns
    by true rest = omega (arith, nodes_values-redirected f ns)
    by false rest = omega (arith, rest)

pub outputs-resized : (values n : ℕ) (f : Origin → Origin) (r : RegionTree) → IsResized values r (outputs_redirected n f r)
outputs-resized values n f (region args nodes results) =
    no-more values (region args nodes results) (outputs_redirected n f (region args nodes results)) refl
    (length-map (map f results) _ ∙ length-map results f ∙ sym (length-map results _)) (omega (arith, after-same n f nodes, length-map results f))

module _ (n : ℕ) (cs : List (Option Origin)) where
  abbrev move : Origin → Origin
  move = output_carried n cs (staying cs)

  carrying-nodes : (ns : NodeTrees) → nodes_values (nodes_carrying n cs ns) ≤ nodes_values ns
  carrying-nodes no_nodes = omega arith
  carrying-nodes (node_then x ns) = by (id_of x == n) (carrying-nodes ns)
    where
      by : (t : Bool) → nodes_values (nodes_carrying n cs ns) ≤ nodes_values ns →
          nodes_values (cond t (node_then (node_giving (staying cs) x) (nodes_redirected move ns)) (node_then x (nodes_carrying n cs ns))) ≤ node_values x + nodes_values ns
      by true rest = omega (arith, giving-node (staying cs) x, nodes_values-redirected move ns)
      by false rest = omega (arith, rest)

  pub carried-resized : (values : ℕ) (r : RegionTree) → IsResized values r (exits_carried n cs r)
  carried-resized values (region args nodes results) =
      no-more values (region args nodes results) (exits_carried n cs (region args nodes results)) refl
      (length-map (map move results) _ ∙ length-map results move ∙ sym (length-map results _)) (omega (arith, carrying-nodes nodes, length-map results move))
