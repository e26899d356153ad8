-- Folding gives a region no ops but those that it has and constants.
use Rattle.std.proofs.Common.{◌≡◌, ℕ, zero, suc, Bool, true, false, List, [], ◌∷◌, Option, Some, None, refl, subst, if◌then◌else◌, option_map}
use Rattle.std.specs.Prelude.{option_and_then}
use Rattle.std.proofs.lemmas.Option.{same_Some}
use Rattle.val_core.specs.declared.operation.Op1.{Op1}
use Rattle.val_core.specs.declared.operation.Op2.{Op2}
use Rattle.val_core.specs.Words.{word1, word2}
use Rattle.g_graph.specs.declared.op.Op.{Op}
use Rattle.g_graph.specs.declared.op.Op.TheVariants.{Const, Undef, Local, Delta, Bin, Un, Load, Store, Clear, PtrEq, Apply, Put, Exit, Get, Gamma, Theta}
use Rattle.g_graph.specs.declared.op.Kind.{Kind}
use Rattle.g_graph.specs.declared.op.Origin.{Origin}
use Rattle.g_graph.specs.declared.op.Origin.TheVariants.{Out}
use Rattle.g_graph.specs.Plain.{RegionTree, region, NodeTree, node, NodeTrees, RegionTrees, no_regions, region_then}
use Rattle.g_graph.specs.Replace.{region_redirected, origin_replaced}
use Rattle.g_graph.specs.Splice.{args_to_inputs, region_spliced}
use Rattle.g_graph.specs.Nodes.{node_at, node_set, constant, is_used}
use Rattle.g_graph.specs.Lists.{RegionOps, NodeOps, NodesOps, RegionsOps}
use Rattle.g_graph.proofs.lemmas.Ops.{redirected_ops, region_spliced_ops, found_ops, set_ops}
use Rattle.r_fold.specs.Rule.{is_word, left_neutral, right_neutral, Folded, word, input, replacement, bin_folded, gamma_folded, theta_folded, chosen_region, folding, folded, fold_here}

module _ (p : Op → ℕ → Type 0) (consts : (w : ℕ) → p (Const w) 0) where
  chosen_ops : (w : ℕ) (rs : RegionTrees) (r : RegionTree) → chosen_region w rs ≡ Some r → RegionsOps p rs → RegionOps p r
  chosen_ops w no_regions r e h = absurd (cc)
  chosen_ops w (region_then s no_regions) r e h = subst (λ z. RegionOps p z) (same_Some s r e) h.0
  chosen_ops zero (region_then s (region_then t rs)) r e h = subst (λ z. RegionOps p z) (same_Some s r e) h.0
  chosen_ops (suc w) (region_then s (region_then t rs)) r e h = chosen_ops w (region_then t rs) r e h.1

  -- ---- what comes instead of a node has no other ops than the node, but constants

  abbrev FoldedOps : Folded → Type 0
  FoldedOps (replacement r inputs) = RegionOps p r
  FoldedOps f = Unit {0}

  inputs_ops : (l r : Bool) (a b : Origin) (f : Folded) → (if l then Some (input b) else if r then Some (input a) else None) ≡ Some f → FoldedOps f
  inputs_ops true r a b f e = subst FoldedOps (same_Some (input b) f e) tt
  inputs_ops false true a b f e = subst FoldedOps (same_Some (input a) f e) tt
  inputs_ops false false a b f e = absurd (cc)

  bin_ops : (op : Op2) (a b : Origin) (u v : Option ℕ) (f : Folded) → bin_folded op a b u v ≡ Some f → FoldedOps f
  bin_ops op a b (Some u) (Some v) f e = subst FoldedOps (same_Some (word (word2 op u v)) f e) tt
  bin_ops op a b None v f e = inputs_ops (is_word (left_neutral op) None) (is_word (right_neutral op) v) a b f e
  bin_ops op a b (Some u) None f e = inputs_ops (is_word (left_neutral op) (Some u)) (is_word (right_neutral op) None) a b f e

  un_ops : (op : Op1) (u : Option ℕ) (f : Folded) → option_map (λ v. word (word1 op v)) u ≡ Some f → FoldedOps f
  un_ops op None f e = absurd (cc)
  un_ops op (Some u) f e = subst FoldedOps (same_Some (word (word1 op u)) f e) tt

  gamma_ops : (entries : List Origin) (rs : RegionTrees) (u : Option ℕ) (f : Folded) → gamma_folded rs entries u ≡ Some f → RegionsOps p rs → FoldedOps f
  gamma_ops entries rs None f e h = absurd (cc)
  gamma_ops entries rs (Some w) f e h = by_choice (chosen_region w rs) refl e
    where
      by_choice : (c : Option RegionTree) → chosen_region w rs ≡ c → option_map (λ r. replacement r entries) c ≡ Some f → FoldedOps f
      by_choice None a d = absurd (cc)
      by_choice (Some r) a d = subst FoldedOps (same_Some (replacement r entries) f d) (chosen_ops w rs r a h)

  theta_ops : (inputs : List Origin) (r : RegionTree) (f : Folded) → theta_folded r inputs ≡ Some f → RegionOps p r → FoldedOps f
  theta_ops inputs (region args nodes []) f e h = absurd (cc)
  theta_ops inputs (region args nodes (o ∷ results)) f e h = by_word (is_word (Some 0) (constant nodes o)) e
    where
      by_word : (t : Bool) → (if t then Some (replacement (region args nodes results) inputs) else None) ≡ Some f → FoldedOps f
      by_word true d = subst FoldedOps (same_Some (replacement (region args nodes results) inputs) f d) h
      by_word false d = absurd (cc)

  folding_ops : (ns : NodeTrees) (n : ℕ) (op : Op) (inputs : List Origin) (rs : RegionTrees) (f : Folded) → folding ns (node n op inputs rs) ≡ Some f → RegionsOps p rs → FoldedOps f
  folding_ops ns n (Bin op) (a ∷ b ∷ []) rs f e h = bin_ops op a b (constant ns a) (constant ns b) f e
  folding_ops ns n (Un op) (a ∷ []) rs f e h = un_ops op (constant ns a) f e
  folding_ops ns n Gamma (a ∷ entries) rs f e h = gamma_ops entries rs (constant ns a) f e h
  folding_ops ns n Theta inputs (region_then r no_regions) f e h = theta_ops inputs r f e h.0
  folding_ops ns n (Bin op) [] rs f e h = absurd (cc)
  folding_ops ns n (Bin op) (a ∷ []) rs f e h = absurd (cc)
  folding_ops ns n (Bin op) (a ∷ b ∷ c ∷ inputs) rs f e h = absurd (cc)
  folding_ops ns n (Un op) [] rs f e h = absurd (cc)
  folding_ops ns n (Un op) (a ∷ b ∷ inputs) rs f e h = absurd (cc)
  folding_ops ns n Gamma [] rs f e h = absurd (cc)
  folding_ops ns n Theta inputs no_regions f e h = absurd (cc)
  folding_ops ns n Theta inputs (region_then r (region_then t rs)) f e h = absurd (cc)
  folding_ops ns n (Const w) inputs rs f e h = absurd (cc)
  folding_ops ns n Undef inputs rs f e h = absurd (cc)
  folding_ops ns n (Local k) inputs rs f e h = absurd (cc)
  folding_ops ns n (Delta k) inputs rs f e h = absurd (cc)
  folding_ops ns n (Load w) inputs rs f e h = absurd (cc)
  folding_ops ns n (Store w) inputs rs f e h = absurd (cc)
  folding_ops ns n (Clear k) inputs rs f e h = absurd (cc)
  folding_ops ns n PtrEq inputs rs f e h = absurd (cc)
  folding_ops ns n (Apply g) inputs rs f e h = absurd (cc)
  folding_ops ns n Put inputs rs f e h = absurd (cc)
  folding_ops ns n Exit inputs rs f e h = absurd (cc)
  folding_ops ns n Get inputs rs f e h = absurd (cc)

  node_ops : (ns : NodeTrees) (x : NodeTree) (f : Folded) → folding ns x ≡ Some f → NodeOps p x → FoldedOps f
  node_ops ns (node n op inputs rs) f e h = folding_ops ns n op inputs rs f e h.1

  folded_ops : (n : ℕ) (args : List Kind) (ns : NodeTrees) (results : List Origin) (f : Folded) (s : RegionTree) → folded n (region args ns results) f ≡ Some s → FoldedOps f → NodesOps p ns →
      RegionOps p s
  folded_ops n args ns results (word w) s e k h =
      subst (λ z. RegionOps p z) (same_Some (region args (node_set n (node n (Const w) [] no_regions) ns) results) s e) (set_ops p n (node n (Const w) [] no_regions) ns (consts w, tt) h)
  folded_ops n args ns results (input a) s e k h = by_use (is_used (Out n 0) (region args ns results)) e
    where
      by_use : (t : Bool) → (if t then Some (region_redirected (origin_replaced (Out n 0) a) (region args ns results)) else None) ≡ Some s → RegionOps p s
      by_use true d = subst (λ z. RegionOps p z) (same_Some (region_redirected (origin_replaced (Out n 0) a) (region args ns results)) s d) (redirected_ops p (origin_replaced (Out n 0) a) ns h)
      by_use false d = absurd (cc)
  folded_ops n args ns results (replacement (region own nodes outs) inputs) s e k h =
      subst (λ z. RegionOps p z) (same_Some (region_spliced n (region_redirected (args_to_inputs inputs) (region own nodes outs)) (region args ns results)) s e)
      (region_spliced_ops p n (region_redirected (args_to_inputs inputs) (region own nodes outs)) (region args ns results) (redirected_ops p (args_to_inputs inputs) nodes k) h)

  pub here_ops : (n : ℕ) (r s : RegionTree) → fold_here n r ≡ Some s → RegionOps p r → RegionOps p s
  here_ops n (region args ns results) s e h = by_node (node_at n ns) refl e
    where
      by_folding : (x : NodeTree) → node_at n ns ≡ Some x → (f : Option Folded) → folding ns x ≡ f → option_and_then (λ g. folded n (region args ns results) g) f ≡ Some s → RegionOps p s
      by_folding x a None b c = absurd (cc)
      by_folding x a (Some f) b c = folded_ops n args ns results f s c (node_ops ns x f b (found_ops p n ns x a h)) h

      by_node : (x : Option NodeTree) → node_at n ns ≡ x → option_and_then (λ g. folded n (region args ns results) g) (option_and_then (folding ns) x) ≡ Some s → RegionOps p s
      by_node None a c = absurd (cc)
      by_node (Some x) a c = by_folding x a (folding ns x) refl c
