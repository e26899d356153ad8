-- Each op of a graph that is put together is allowed, and what an op that fits may be.
use Rattle.std.proofs.Common.{◌≡◌, ◌<◌, ℕ, suc, true, List, ◌∷◌, length, refl, subst, sym, arith}
use Rattle.std.specs.Prelude.{nat_lt}
use Rattle.std.proofs.lemmas.Bool.Decides.{nat_tests}
use Rattle.g_graph.specs.declared.op.Kind.{Kind}
use Rattle.g_graph.specs.declared.op.Kind.TheVariants.{Value}
use Rattle.g_graph.specs.declared.op.Origin.{Origin}
use Rattle.g_graph.specs.declared.op.Op.{Op}
use Rattle.g_graph.specs.declared.op.Op.TheVariants.{Local, Delta, Load, Store, Clear, Apply, Gamma, Theta}
use Rattle.g_graph.specs.Plain.{RegionTree, region, NodeTree, node, NodeTrees, no_nodes, node_then, RegionTrees, no_regions, region_then, id_of, PlainLambda}
use Rattle.g_graph.specs.Lists.{RegionOps, NodeOps, NodesOps, RegionsOps, Calls, NamesGlobal}
use Rattle.g_build_keeps.specs.Formation.{Standing, at_start, after_node, NodeForms, NodesForm, RegionForms, RegionsForm}
use Rattle.g_build_keeps.specs.FormationLaws.{OpFits}
use Rattle.g_build_keeps.proofs.lemmas.Joins.{Ends}
use Rattle.g_build_keeps.proofs.Fits.{AllowsOnly}

mutual
  node_ops : (p q : Op → ℕ → Type 0) → ((op : Op) (n : ℕ) → p op n → q op n) → (c : Standing) (x : NodeTree) (ks : List Kind) (m : ℕ) → NodeForms p c x ks m → NodeOps q x
  node_ops p q f c (node id Gamma inputs rs) ks m h = (f Gamma (length inputs) h.1, regions_ops p q f (suc id) h.2.0 ks rs m h.2.5)
  node_ops p q f c (node id Theta inputs rs) ks m h = (f Theta (length inputs) h.1, regions_ops p q f (suc id) ks (Value ∷ ks) rs m h.2.3)
  node_ops p q f c (node id op inputs rs) ks m h = (f op (length inputs) h.1, subst (RegionsOps q) (sym h.2.without) tt)

  nodes_ops : (p q : Op → ℕ → Type 0) → ((op : Op) (n : ℕ) → p op n → q op n) → (c : Standing) (ns : NodeTrees) (m : ℕ) (outs : List Kind) (results : List Origin) →
      NodesForm p c ns (Ends m outs results) → NodesOps q ns
  nodes_ops p q f c no_nodes m outs results h = tt
  nodes_ops p q f c (node_then x ns) m outs results h = (node_ops p q f c x h.0 h.1 h.2, nodes_ops p q f (after_node c (id_of x) h.0 h.1) ns m outs results h.3)

  pub region_ops : (p q : Op → ℕ → Type 0) → ((op : Op) (n : ℕ) → p op n → q op n) → (n : ℕ) (args outs : List Kind) (r : RegionTree) (m : ℕ) → RegionForms p n args outs r m → RegionOps q r
  region_ops p q f n args outs (region own nodes results) m h = nodes_ops p q f (at_start n args) nodes m outs results h.1

  regions_ops : (p q : Op → ℕ → Type 0) → ((op : Op) (n : ℕ) → p op n → q op n) → (n : ℕ) (args outs : List Kind) (rs : RegionTrees) (m : ℕ) → RegionsForm p n args outs rs m → RegionsOps q rs
  regions_ops p q f n args outs no_regions m h = tt
  regions_ops p q f n args outs (region_then r rs) m h = (region_ops p q f h.0 args outs r h.1 h.4, regions_ops p q f h.2 args outs rs h.3 h.5)

-- ---- ops that fit

pub below : (k n : ℕ) → k < n → nat_lt k n ≡ true
below k n h = grind (arith, nat_tests, h)

pub fits_allows_only : (ls : List PlainLambda) (globals objects : ℕ) → AllowsOnly objects (OpFits ls globals objects)
fits_allows_only ls g b (Local k) n h id inputs rs = (refl, below k b h)
fits_allows_only ls g b (Clear k) n h id inputs rs = (refl, below k b h)
fits_allows_only ls g b (Load w) n h id inputs rs = (h, refl)
fits_allows_only ls g b (Store w) n h id inputs rs = (h, refl)
fits_allows_only ls g b op n h id inputs rs = (refl, refl)

pub fits_calls : (ls : List PlainLambda) (globals objects : ℕ) (op : Op) (n : ℕ) → OpFits ls globals objects op n → Calls ls op n
fits_calls ls g b (Apply f) n h = h
fits_calls ls g b op n h = tt

pub fits_names : (ls : List PlainLambda) (globals objects : ℕ) (op : Op) (n : ℕ) → OpFits ls globals objects op n → NamesGlobal globals op n
fits_names ls g b (Delta k) n h = h
fits_names ls g b op n h = tt
