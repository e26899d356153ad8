-- Well-formed regions are closed.
use Rattle.std.proofs.Common.{◌≡◌, ℕ, zero, suc, ◌==◌, Bool, true, false, ◌&&◌, nat_lt, cond, List, [], ◌∷◌, ◌++◌, length, slice_get, Option, None, Some, refl, subst, inl, inr, arith}
use Rattle.std.proofs.lemmas.Bool.{and_parts}
use Rattle.std.proofs.lemmas.Bool.Decides.{nat_tests}
use Rattle.g_graph.specs.declared.op.Kind.{Kind}
use Rattle.g_graph.specs.declared.op.Kind.TheVariants.{Memory, Io}
use Rattle.g_graph.specs.declared.op.Origin.{Origin}
use Rattle.g_graph.specs.declared.op.Origin.TheVariants.{Arg, Out}
use Rattle.g_graph.specs.Plain.{RegionTree, region, NodeTree, node, NodeTrees, no_nodes, node_then, RegionTrees, no_regions, region_then, nodes_of, id_of}
use Rattle.g_graph.specs.Signatures.{kind_after}
use Rattle.g_graph.specs.Scope.{known, each_node}
use Rattle.g_graph.specs.WellFormed.{all_of, is_last_of, is_last, inputs_fit, inputs_are_last, node_has_one_state_each, has_its_regions, regions_fit, theta_has_states, has_its_width, has_its_object, node_fits, nodes_fit, results_are_last, returns_state, region_has_one_state_each, region_fits, every_region, every_in_nodes, every_in_regions}
use Rattle.g_mean.specs.Copies.{IsAmong, IsRead, AreRead, known_after, is_argument, IsClosed, NodesRead, AllClosed}

-- ---- an origin that has a kind is there

choice : (test : Bool) (n id : ℕ) (here found : Option Kind) (k : Kind) (ks : List ℕ) → (id == n) ≡ test → cond test here found ≡ Some k → (found ≡ Some k → IsAmong n ks) → IsAmong n (id ∷ ks)
choice true n id here found k ks t e h = inl (grind (arith, nat_tests))
choice false n id here found k ks t e h = inr (h e)

known-kind : (ns : NodeTrees) (n p : ℕ) (found : Option Kind) (k : Kind) (ks : List ℕ) → kind_after ns n p found ≡ Some k → (found ≡ Some k → IsAmong n ks) → IsAmong n (known_after ks ns)
known-kind no_nodes n p found k ks e h = h e
known-kind (node_then x ns) n p found k ks e h =
    known-kind ns n p (cond (id_of x == n) _ found) k (id_of x ∷ ks) e (λ d. choice (id_of x == n) n (id_of x) _ found k ks refl d h)

there : (args : List Kind) (j : ℕ) (k : Kind) → slice_get args j ≡ Some k → nat_lt j (length args) ≡ true
there [] j k e = absurd cc
there (a ∷ args) zero k e = grind (arith, nat_tests)
there (a ∷ args) (suc j) k e = let h = there args j k e in grind (arith, nat_tests)

known-origin : (args : List Kind) (ns : NodeTrees) (a : Origin) (k : Kind) → known args ns a ≡ Some k → IsRead (is_argument (length args)) (known_after [] ns) a
known-origin args ns (Arg j) k e = inl (there args j k e)
known-origin args ns (Out n p) k e = inr (known-kind ns n p None k [] e (λ d. absurd cc))

last-origin : (args : List Kind) (ns : NodeTrees) (a : Origin) → is_last args ns a ≡ true → IsRead (is_argument (length args)) (known_after [] ns) a
last-origin args ns a e = by (known args ns a) refl e
  where
    by : (found : Option Kind) → known args ns a ≡ found → is_last_of found args ns a ≡ true → IsRead (is_argument (length args)) (known_after [] ns) a
    by None d t = absurd cc
    by (Some k) d t = known-origin args ns a k d

last-origins : (args : List Kind) (ns : NodeTrees) (origins : List Origin) → all_of (is_last args ns) origins ≡ true → AreRead (is_argument (length args)) (known_after [] ns) origins
last-origins args ns [] e = tt
last-origins args ns (a ∷ origins) e =
    let p = and_parts (is_last args ns a) (all_of (is_last args ns) origins) e in
    (last-origin args ns a p.0, last-origins args ns origins p.1)

-- ---- nodes and regions

two : (a b c d e f g h : Bool) → (a && b && c && d && e && f && g && h) ≡ true → b ≡ true
two a b c d e f g h t =
    let p = and_parts (a && b && c && d && e && f && g) h t in
    let q = and_parts (a && b && c && d && e && f) g p.0 in
    let r = and_parts (a && b && c && d && e) f q.0 in
    let s = and_parts (a && b && c && d) e r.0 in
    let u = and_parts (a && b && c) d s.0 in
    let v = and_parts (a && b) c u.0 in
    let w = and_parts a b v.0 in
    w.1

inputs-last : (objects : ℕ) (args : List Kind) (before : NodeTrees) (x : NodeTree) → node_fits objects args before x ≡ true → inputs_are_last args before x ≡ true
inputs-last objects args before x t =
    two (inputs_fit args before x) (inputs_are_last args before x) (node_has_one_state_each args before x) (has_its_regions x) (regions_fit x) (theta_has_states x) (has_its_width x)
    (has_its_object objects x) t

region-last : (objects : ℕ) (r : RegionTree) → region_fits objects r ≡ true → (nodes_fit objects r ≡ true) × (results_are_last r ≡ true)
region-last objects r t =
    let p = and_parts (nodes_fit objects r && results_are_last r && returns_state Memory r && returns_state Io r) (region_has_one_state_each r) t in
    let q = and_parts (nodes_fit objects r && results_are_last r && returns_state Memory r) (returns_state Io r) p.0 in
    let u = and_parts (nodes_fit objects r && results_are_last r) (returns_state Memory r) q.0 in
    and_parts (nodes_fit objects r) (results_are_last r) u.0

known-more : (ks : List ℕ) (before : List NodeTree) (x : NodeTree) → known_after ks (nodes_of (before ++ x ∷ [])) ≡ id_of x ∷ known_after ks (nodes_of before)
known-more ks [] x = refl
known-more ks (y ∷ before) x = known-more (id_of y ∷ ks) before x

mutual
  pub region-closed : (objects : ℕ) (r : RegionTree) → every_region (region_fits objects) r ≡ true → IsClosed r
  region-closed objects (region args nodes results) t =
      let p = and_parts (region_fits objects (region args nodes results)) (every_in_nodes (region_fits objects) nodes) t in
      let q = region-last objects (region args nodes results) p.0 in
      (nodes-closed objects args [] nodes q.0 p.1, last-origins args nodes results q.1)

  nodes-closed : (objects : ℕ) (args : List Kind) (before : List NodeTree) (ns : NodeTrees) → each_node (node_fits objects args) before ns ≡ true → every_in_nodes (region_fits objects) ns ≡ true →
      NodesRead (is_argument (length args)) (known_after [] (nodes_of before)) ns
  nodes-closed objects args before no_nodes t nested = tt
  nodes-closed objects args before (node_then (node id op inputs rs) ns) t nested =
      let p = and_parts (node_fits objects args (nodes_of before) (node id op inputs rs)) (each_node (node_fits objects args) (before ++ node id op inputs rs ∷ []) ns) t in
      let q = and_parts (every_in_regions (region_fits objects) rs) (every_in_nodes (region_fits objects) ns) nested in (
        (last-origins args (nodes_of before) inputs (inputs-last objects args (nodes_of before) (node id op inputs rs) p.0), all-closed objects rs q.0),
        subst (λ ks. NodesRead (is_argument (length args)) ks ns) (known-more [] before (node id op inputs rs)) (nodes-closed objects args (before ++ node id op inputs rs ∷ []) ns p.1 q.1),
      )

  all-closed : (objects : ℕ) (rs : RegionTrees) → every_in_regions (region_fits objects) rs ≡ true → AllClosed rs
  all-closed objects no_regions t = tt
  all-closed objects (region_then r rs) t =
      let p = and_parts (every_region (region_fits objects) r) (every_in_regions (region_fits objects) rs) t in
      (region-closed objects r p.0, all-closed objects rs p.1)
