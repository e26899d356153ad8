-- What the rules say of outputs and results is what is found there.
use Rattle.std.proofs.Common.{◌≡◌, ℕ, suc, List, [], ◌∷◌, ◌++◌, map, refl, sym, ap, ◌∙◌, subst}
use Rattle.std.specs.declared.option.Option.TheVariants.{Some}
use Rattle.g_graph.specs.declared.op.Kind.{Kind}
use Rattle.g_graph.specs.declared.op.Kind.TheVariants.{Value, Memory, Io}
use Rattle.g_graph.specs.declared.op.Origin.{Origin}
use Rattle.g_graph.specs.declared.op.Op.{Op}
use Rattle.g_graph.specs.declared.op.Op.TheVariants.{Gamma, Theta}
use Rattle.g_graph.specs.Plain.{RegionTree, region, NodeTree, node, NodeTrees, no_nodes, node_then, nodes_of, RegionTrees, no_regions, region_then, id_of}
use Rattle.g_graph.specs.Signatures.{outputs_of, result_kinds, output_kinds}
use Rattle.g_graph.specs.Scope.{known}
use Rattle.g_graph.specs.Splice.{joined_nodes}
use Rattle.g_graph.proofs.lemmas.Splices.{joined_none, joined_following}
use Rattle.g_build_keeps.specs.Formation.{Standing, at_start, after_node, Has, HasAll, HasBothStates, AreSome, IsOne, NodeForms, NodesForm, RegionForms, RegionsForm}
use Rattle.g_build_keeps.proofs.lemmas.Joins.{Ends}
use Rattle.g_build_keeps.proofs.Agree.{Agrees, agrees_start, agrees_node}

has_kind : (c : Standing) (k : Kind) (o : Origin) → Has c k o → c.kind o ≡ Some k
has_kind c Value o h = h
has_kind c Memory o h = h.0
has_kind c Io o h = h.0

pub has_kinds : (args : List Kind) (before : NodeTrees) (c : Standing) (ks : List Kind) (os : List Origin) → Agrees args before c → HasAll c ks os → map (known args before) os ≡ map Some ks
has_kinds args before c [] [] a h = refl
has_kinds args before c [] (o ∷ os) a h = absurd h
has_kinds args before c (k ∷ ks) [] a h = absurd h
has_kinds args before c (k ∷ ks) (o ∷ os) a h = λ i. (a.kind o ∙ has_kind c k o h.0) i ∷ has_kinds args before c ks os a h.1 i

-- where nodes lead, and that it agrees
pub record Led (args : List Kind) (ns : NodeTrees) (m : ℕ) (outs : List Kind) (results : List Origin) : Type 0 where
  pub end : Standing
  pub ends : Ends m outs results end
  pub agrees : Agrees args ns end

mutual
  pub outputs_are : (allowed : Op → ℕ → Type 0) (c : Standing) (x : NodeTree) (ks : List Kind) (m : ℕ) → NodeForms allowed c x ks m → output_kinds x ≡ map Some ks
  outputs_are a c (node id Gamma inputs rs) ks m h = first_results a (suc id) h.2.0 ks rs m h.2.2 h.2.4 h.2.5
  outputs_are a c (node id Theta inputs rs) ks m h = loop_outputs a (suc id) ks rs m h.2.2 h.2.3
  outputs_are a c (node id op inputs rs) ks m h = ap (outputs_of op) h.2.without ∙ ap (map Some) (sym h.2.gives)

  first_results : (allowed : Op → ℕ → Type 0) (n : ℕ) (args outs : List Kind) (rs : RegionTrees) (m : ℕ) → HasBothStates args → AreSome rs → RegionsForm allowed n args outs rs m →
      outputs_of Gamma rs ≡ map Some outs
  first_results a n args outs no_regions m b s h = absurd s
  first_results a n args outs (region_then r rs) m b s h = results_are a h.0 args outs r h.1 b h.4

  loop_outputs : (allowed : Op → ℕ → Type 0) (n : ℕ) (ks : List Kind) (rs : RegionTrees) (m : ℕ) → IsOne rs → RegionsForm allowed n ks (Value ∷ ks) rs m → outputs_of Theta rs ≡ map Some ks
  loop_outputs a n ks no_regions m s h = absurd s
  loop_outputs a n ks (region_then (region own nodes results) no_regions) m s h = ap (map Some) h.4.0
  loop_outputs a n ks (region_then r (region_then q rs)) m s h = absurd s

  pub nodes_lead : (allowed : Op → ℕ → Type 0) (args : List Kind) (before : List NodeTree) (c : Standing) (ns : NodeTrees) (m : ℕ) (outs : List Kind) (results : List Origin) →
      Agrees args (nodes_of before) c → NodesForm allowed c ns (Ends m outs results) → Led args (joined_nodes (nodes_of before) ns) m outs results
  nodes_lead a args before c no_nodes m outs results g h = record { end = c; ends = h; agrees = subst (λ xs. Agrees args xs c) (sym (joined_none (nodes_of before))) g }
  nodes_lead a args before c (node_then x ns) m outs results g h =
      let r = nodes_lead a args (before ++ x ∷ []) (after_node c (id_of x) h.0 h.1) ns m outs results
      (agrees_node args before c x h.0 h.1 (outputs_are a c x h.0 h.1 h.2) g) h.3 in
      subst (λ xs. Led args xs m outs results) (joined_following before x ns) r

  pub results_are : (allowed : Op → ℕ → Type 0) (n : ℕ) (args outs : List Kind) (r : RegionTree) (m : ℕ) → HasBothStates args → RegionForms allowed n args outs r m → result_kinds r ≡ map Some outs
  results_are a n args outs (region own nodes results) m b h =
      let l = nodes_lead a args [] (at_start n args) nodes m outs results (agrees_start n args b) h.1 in
      ap (λ own. map (known own nodes) results) h.0 ∙ has_kinds args nodes l.end outs results l.agrees l.ends.1
