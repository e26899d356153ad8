-- Nodes one after another, and the numbers after them.
use Rattle.std.proofs.Common.{◌≡◌, ◌≤◌, ℕ, suc, List, [], ◌∷◌, ◌++◌, arith}
use Rattle.g_graph.specs.declared.op.Kind.{Kind}
use Rattle.g_graph.specs.declared.op.Kind.TheVariants.{Value}
use Rattle.g_graph.specs.declared.op.Origin.{Origin}
use Rattle.g_graph.specs.declared.op.Op.{Op}
use Rattle.g_graph.specs.declared.op.Op.TheVariants.{Gamma, Theta}
use Rattle.g_graph.specs.Plain.{RegionTree, region, NodeTree, node, NodeTrees, no_nodes, node_then, nodes_of, RegionTrees, no_regions, region_then, id_of}
use Rattle.g_build_keeps.specs.Formation.{Standing, at_start, after_node, HasAll, NodeForms, NodesForm, RegionForms, RegionsForm}

pub weaken : (allowed : Op → ℕ → Type 0) (c : Standing) (ns : NodeTrees) (P Q : Standing → Type 0) → NodesForm allowed c ns P → ((d : Standing) → P d → Q d) → NodesForm allowed c ns Q
weaken a c no_nodes P Q h f = f c h
weaken a c (node_then x ns) P Q h f = (h.0, h.1, h.2, weaken a (after_node c (id_of x) h.0 h.1) ns P Q h.3 f)

-- nodes, and then nodes from the point that they lead to
pub join : (allowed : Op → ℕ → Type 0) (c : Standing) (xs ys : List NodeTree) (P : Standing → Type 0) → NodesForm allowed c (nodes_of xs) (λ d. NodesForm allowed d (nodes_of ys) P) →
    NodesForm allowed c (nodes_of (xs ++ ys)) P
join a c [] ys P h = h
join a c (x ∷ xs) ys P h = (h.0, h.1, h.2, join a (after_node c (id_of x) h.0 h.1) xs ys P h.3)

-- ---- numbers

-- a region ends at this next number, with these results
abbrev pub Ends : (next : ℕ) → (results : List Kind) → List Origin → Standing → Type 0
Ends m outs results c = (c.next ≡ m) × HasAll c outs results

mutual
  pub node_rises : (allowed : Op → ℕ → Type 0) (c : Standing) (x : NodeTree) (ks : List Kind) (m : ℕ) → NodeForms allowed c x ks m → suc c.next ≤ m
  node_rises a c (node id Gamma inputs rs) ks m h = omega (arith, h.0, regions_rise a (suc id) h.2.0 ks rs m h.2.5)
  node_rises a c (node id Theta inputs rs) ks m h = omega (arith, h.0, regions_rise a (suc id) ks (Value ∷ ks) rs m h.2.3)
  node_rises a c (node id op inputs rs) ks m h = omega (arith, h.0, h.2.rises)

  pub nodes_rise : (allowed : Op → ℕ → Type 0) (c : Standing) (ns : NodeTrees) (m : ℕ) (outs : List Kind) (results : List Origin) → NodesForm allowed c ns (Ends m outs results) → c.next ≤ m
  nodes_rise a c no_nodes m outs results h = omega (arith, h.0)
  nodes_rise a c (node_then x ns) m outs results h =
      omega (arith, node_rises a c x h.0 h.1 h.2, nodes_rise a (after_node c (id_of x) h.0 h.1) ns m outs results h.3)

  pub region_rises : (allowed : Op → ℕ → Type 0) (n : ℕ) (args outs : List Kind) (r : RegionTree) (m : ℕ) → RegionForms allowed n args outs r m → n ≤ m
  region_rises a n args outs (region own nodes results) m h = nodes_rise a (at_start n args) nodes m outs results h.1

  pub regions_rise : (allowed : Op → ℕ → Type 0) (n : ℕ) (args outs : List Kind) (rs : RegionTrees) (m : ℕ) → RegionsForm allowed n args outs rs m → n ≤ m
  regions_rise a n args outs no_regions m h = h
  regions_rise a n args outs (region_then r rs) m h = omega (arith, region_rises a h.0 args outs r h.1 h.4, h.6.low_within, h.6.high_within)
