-- A folded lambda is no larger, and folding is a step.
use Rattle.std.specs.Prelude.{option_and_then}
use Rattle.std.proofs.Common.{◌≡◌, ◌≤◌, ◌+◌, ℕ, zero, suc, ◌==◌, Bool, true, false, cond, List, [], ◌∷◌, map, length, Option, Some, None, option_map, refl, sym, subst, ◌∙◌, arith}
use Rattle.std.proofs.lemmas.List.{length-map}
use Rattle.std.proofs.lemmas.Option.{same_Some}
use Rattle.val_core.specs.declared.operation.Op1.{Op1}
use Rattle.val_core.specs.declared.operation.Op2.{Op2}
use Rattle.val_core.specs.Words.{word1, word2}
use Rattle.g_graph.specs.declared.op.Op.{Op}
use Rattle.g_graph.specs.declared.op.Op.TheVariants.{Const, Undef, Local, Delta, Bin, Un, Load, Store, Clear, PtrEq, Apply, Put, Exit, Get, Gamma, Theta}
use Rattle.g_graph.specs.declared.op.Kind.{Kind}
use Rattle.g_graph.specs.declared.op.Origin.{Origin}
use Rattle.g_graph.specs.declared.op.Origin.TheVariants.{Out}
use Rattle.g_graph.specs.Plain.{RegionTree, region, NodeTree, node, NodeTrees, no_nodes, node_then, RegionTrees, no_regions, region_then, id_of, nodes_in, PlainLambda}
use Rattle.g_graph.specs.Lists.{Calls, NamesGlobal}
use Rattle.g_graph.specs.Count.{region_values, node_values, nodes_values, regions_values}
use Rattle.g_graph.specs.WellFormed.{IsWellFormed}
use Rattle.g_graph.specs.Nodes.{node_at, node_set, constant, is_used}
use Rattle.g_graph.specs.Program.{lambda_values}
use Rattle.g_graph.specs.Replace.{nodes_redirected, region_redirected, origin_replaced}
use Rattle.g_graph.specs.Splice.{args_to_inputs, outputs_to_results, joined_nodes, nodes_spliced}
use Rattle.g_graph.proofs.lemmas.Redirects.{nodes_values-redirected}
use Rattle.g_graph.proofs.lemmas.Splices.{nodes_values-joined}
use Rattle.r_edit.specs.Size.{IsResized}
use Rattle.r_edit.proofs.lemmas.Fewer.{no-more}
use Rattle.r_edit.proofs.lemmas.Size.{redirected-resized}
use Rattle.r_edit.specs.Steps.{IsSafeChange}
use Rattle.r_edit.proofs.lemmas.Steps.{kept_well_formed, changed_is_a_step}
use Rattle.r_fold.specs.Rule.{is_word, left_neutral, right_neutral, Folded, word, input, replacement, bin_folded, gamma_folded, theta_folded, chosen_region, folding, folded, fold_here, fold}
use Rattle.r_fold.specs.Laws.{FoldIsAStep}
use Rattle.r_fold.proofs.Fold.{fold_replaces}
use Rattle.r_fold.proofs.Keeps.{fold_here_keeps}
use Rattle.r_fold.proofs.Lists.{here_ops}

-- ---- one node for others

set-values : (n : ℕ) (y : NodeTree) (ns : NodeTrees) (x : NodeTree) → node_at n ns ≡ Some x → nodes_values (node_set n y ns) + node_values x ≡ nodes_values ns + node_values y
set-values n y no_nodes x e = absurd cc
set-values n y (node_then z ns) x e = by (id_of z == n) e (set-values n y ns x)
  where
    by : (t : Bool) → cond t (Some z) (node_at n ns) ≡ Some x → (node_at n ns ≡ Some x → nodes_values (node_set n y ns) + node_values x ≡ nodes_values ns + node_values y) →
        nodes_values (cond t (node_then y ns) (node_then z (node_set n y ns))) + node_values x ≡ node_values z + nodes_values ns + node_values y
    by true d rest = subst (λ w. nodes_values (node_then y ns) + node_values w ≡ node_values z + nodes_values ns + node_values y) (same_Some z x d) (omega arith)
    by false d rest = omega (arith, rest d)

spliced-values : (n : ℕ) (part : NodeTrees) (outputs : List Origin) (ns : NodeTrees) (x : NodeTree) → node_at n ns ≡ Some x →
    nodes_values (nodes_spliced n part outputs ns) + node_values x ≡ nodes_values ns + nodes_values part
spliced-values n part outputs no_nodes x e = absurd cc
spliced-values n part outputs (node_then z ns) x e = by (id_of z == n) e (spliced-values n part outputs ns x)
  where
    follow : NodeTrees
    follow = nodes_redirected (outputs_to_results n outputs) ns

    by : (t : Bool) → cond t (Some z) (node_at n ns) ≡ Some x → (node_at n ns ≡ Some x → nodes_values (nodes_spliced n part outputs ns) + node_values x ≡ nodes_values ns + nodes_values part) →
        nodes_values (cond t (joined_nodes part follow) (node_then z (nodes_spliced n part outputs ns))) + node_values x ≡ node_values z + nodes_values ns + nodes_values part
    by true d rest =
        subst (λ w. nodes_values (joined_nodes part follow) + node_values w ≡ node_values z + nodes_values ns + nodes_values part) (same_Some z x d)
        (omega (arith, nodes_values-joined part follow, nodes_values-redirected (outputs_to_results n outputs) ns))
    by false d rest = omega (arith, rest d)

-- ---- what comes instead of a node

-- has no more values than the node, and the node has at least itself and an output
abbrev FewerThan : ℕ → Folded → Type 0
FewerThan count (word w) = 2 ≤ count
FewerThan count (input a) = Unit {0}
FewerThan count (replacement r inputs) = nodes_values (nodes_in r) ≤ count

chosen-fewer : (w : ℕ) (rs : RegionTrees) (r : RegionTree) → chosen_region w rs ≡ Some r → nodes_values (nodes_in r) ≤ regions_values rs
chosen-fewer w no_regions r e = absurd cc
chosen-fewer w (region_then s no_regions) r e = subst (λ z. nodes_values (nodes_in z) ≤ region_values s + 0) (same_Some s r e) (own s)
  where
    own : (s : RegionTree) → nodes_values (nodes_in s) ≤ region_values s + 0
    own (region args nodes results) = omega arith
chosen-fewer zero (region_then s (region_then t rs)) r e = subst (λ z. nodes_values (nodes_in z) ≤ region_values s + regions_values (region_then t rs)) (same_Some s r e) (own s)
  where
    own : (s : RegionTree) → nodes_values (nodes_in s) ≤ region_values s + regions_values (region_then t rs)
    own (region args nodes results) = omega arith
chosen-fewer (suc w) (region_then s (region_then t rs)) r e = omega (arith, chosen-fewer w (region_then t rs) r e)

inputs-fewer : (count : ℕ) (l r : Bool) (a b : Origin) (f : Folded) → cond l (Some (input b)) (cond r (Some (input a)) None) ≡ Some f → FewerThan count f
inputs-fewer count true r a b f e = subst (FewerThan count) (same_Some (input b) f e) tt
inputs-fewer count false true a b f e = subst (FewerThan count) (same_Some (input a) f e) tt
inputs-fewer count false false a b f e = absurd cc

bin-fewer : (count : ℕ) → 2 ≤ count → (op : Op2) (a b : Origin) (u v : Option ℕ) (f : Folded) → bin_folded op a b u v ≡ Some f → FewerThan count f
bin-fewer count two op a b (Some u) (Some v) f e = subst (FewerThan count) (same_Some (word (word2 op u v)) f e) two
bin-fewer count two op a b None v f e = inputs-fewer count (is_word (left_neutral op) None) (is_word (right_neutral op) v) a b f e
bin-fewer count two op a b (Some u) None f e = inputs-fewer count (is_word (left_neutral op) (Some u)) (is_word (right_neutral op) None) a b f e

un-fewer : (count : ℕ) → 2 ≤ count → (op : Op1) (u : Option ℕ) (f : Folded) → option_map (λ v. word (word1 op v)) u ≡ Some f → FewerThan count f
un-fewer count two op None f e = absurd cc
un-fewer count two op (Some u) f e = subst (FewerThan count) (same_Some (word (word1 op u)) f e) two

gamma-fewer : (count : ℕ) (entries : List Origin) (rs : RegionTrees) → regions_values rs ≤ count → (u : Option ℕ) (f : Folded) → gamma_folded rs entries u ≡ Some f → FewerThan count f
gamma-fewer count entries rs most None f e = absurd cc
gamma-fewer count entries rs most (Some w) f e = by (chosen_region w rs) refl e
  where
    by : (c : Option RegionTree) → chosen_region w rs ≡ c → option_map (λ r. replacement r entries) c ≡ Some f → FewerThan count f
    by None a d = absurd cc
    by (Some r) a d = subst (FewerThan count) (same_Some (replacement r entries) f d) (omega (arith, chosen-fewer w rs r a, most))

node-fewer : (ns : NodeTrees) (n : ℕ) (op : Op) (inputs : List Origin) (rs : RegionTrees) (f : Folded) → folding ns (node n op inputs rs) ≡ Some f → FewerThan (node_values (node n op inputs rs)) f
node-fewer ns n (Bin op) (a ∷ b ∷ []) rs f e = bin-fewer (node_values (node n (Bin op) (a ∷ b ∷ []) rs)) (omega arith) op a b (constant ns a) (constant ns b) f e
node-fewer ns n (Un op) (a ∷ []) rs f e = un-fewer (node_values (node n (Un op) (a ∷ []) rs)) (omega arith) op (constant ns a) f e
node-fewer ns n Gamma (a ∷ entries) rs f e = gamma-fewer (node_values (node n Gamma (a ∷ entries) rs)) entries rs (omega arith) (constant ns a) f e
node-fewer ns n Theta inputs (region_then (region args nodes results) no_regions) f e = of-theta results e
  where
    count : List Origin → ℕ
    count os = node_values (node n Theta inputs (region_then (region args nodes os) no_regions))

    of-theta : (os : List Origin) → theta_folded (region args nodes os) inputs ≡ Some f → FewerThan (count os) f
    of-theta [] d = absurd cc
    of-theta (o ∷ os) d = by (is_word (Some 0) (constant nodes o)) d
      where
        by : (t : Bool) → cond t (Some (replacement (region args nodes os) inputs)) None ≡ Some f → FewerThan (count (o ∷ os)) f
        by true c = subst (FewerThan (count (o ∷ os))) (same_Some (replacement (region args nodes os) inputs) f c) (omega arith)
        by false c = absurd cc
node-fewer ns n (Bin op) [] rs f e = absurd cc
node-fewer ns n (Bin op) (a ∷ []) rs f e = absurd cc
node-fewer ns n (Bin op) (a ∷ b ∷ c ∷ inputs) rs f e = absurd cc
node-fewer ns n (Un op) [] rs f e = absurd cc
node-fewer ns n (Un op) (a ∷ b ∷ inputs) rs f e = absurd cc
node-fewer ns n Gamma [] rs f e = absurd cc
node-fewer ns n Theta inputs no_regions f e = absurd cc
node-fewer ns n Theta inputs (region_then r (region_then t rs)) f e = absurd cc
node-fewer ns n (Const w) inputs rs f e = absurd cc
node-fewer ns n Undef inputs rs f e = absurd cc
node-fewer ns n (Local k) inputs rs f e = absurd cc
node-fewer ns n (Delta k) inputs rs f e = absurd cc
node-fewer ns n (Load w) inputs rs f e = absurd cc
node-fewer ns n (Store w) inputs rs f e = absurd cc
node-fewer ns n (Clear k) inputs rs f e = absurd cc
node-fewer ns n PtrEq inputs rs f e = absurd cc
node-fewer ns n (Apply g) inputs rs f e = absurd cc
node-fewer ns n Put inputs rs f e = absurd cc
node-fewer ns n Exit inputs rs f e = absurd cc
node-fewer ns n Get inputs rs f e = absurd cc

-- ---- the region

folded-resized : (values n : ℕ) (args : List Kind) (ns : NodeTrees) (results : List Origin) (x : NodeTree) → node_at n ns ≡ Some x → (f : Folded) (s : RegionTree) →
    folded n (region args ns results) f ≡ Some s →
    FewerThan (node_values x) f → IsResized values (region args ns results) s
folded-resized values n args ns results x at (word w) s e two =
    let y = node n (Const w) [] no_regions in
    subst (IsResized values (region args ns results)) (same_Some (region args (node_set n y ns) results) s e)
    (no-more values (region args ns results) (region args (node_set n y ns) results) refl (length-map results _ ∙ sym (length-map results _)) (omega (arith, set-values n y ns x at, two)))
folded-resized values n args ns results x at (input a) s e two = by (is_used (Out n 0) (region args ns results)) e
  where
    by : (t : Bool) → cond t (Some (region_redirected (origin_replaced (Out n 0) a) (region args ns results))) None ≡ Some s → IsResized values (region args ns results) s
    by true d =
        subst (IsResized values (region args ns results)) (same_Some (region_redirected (origin_replaced (Out n 0) a) (region args ns results)) s d)
        (redirected-resized values (origin_replaced (Out n 0) a) (region args ns results))
    by false d = absurd cc
folded-resized values n args ns results x at (replacement (region own nodes outs) inputs) s e most =
    let part = nodes_redirected (args_to_inputs inputs) nodes in
    let outputs = map (args_to_inputs inputs) outs in
    let move = outputs_to_results n outputs in
    subst (IsResized values (region args ns results)) (same_Some (region args (nodes_spliced n part outputs ns) (map move results)) s e)
    (no-more values (region args ns results) (region args (nodes_spliced n part outputs ns) (map move results)) refl
    (length-map (map move results) _ ∙ length-map results move ∙ sym (length-map results _))
    (omega (arith, spliced-values n part outputs ns x at, nodes_values-redirected (args_to_inputs inputs) nodes, most, length-map results move)))

fold_resizes : (values n : ℕ) (r s : RegionTree) → fold_here n r ≡ Some s → IsResized values r s
fold_resizes values n (region args ns results) s e = by-node (node_at n ns) refl e
  where
    of-node : (x : NodeTree) (f : Folded) → folding ns x ≡ Some f → FewerThan (node_values x) f
    of-node (node id op inputs rs) f d = node-fewer ns id op inputs rs f d

    by-folding : (x : NodeTree) → node_at n ns ≡ Some x → (f : Option Folded) → folding ns x ≡ f → option_and_then (λ g. folded n (region args ns results) g) f ≡ Some s →
        IsResized values (region args ns results) s
    by-folding x a None b c = absurd cc
    by-folding x a (Some f) b c = folded-resized values n args ns results x a f s c (of-node x f b)

    by-node : (x : Option NodeTree) → node_at n ns ≡ x → option_and_then (λ g. folded n (region args ns results) g) (option_and_then (folding ns) x) ≡ Some s →
        IsResized values (region args ns results) s
    by-node None a c = absurd cc
    by-node (Some x) a c = by-folding x a (folding ns x) refl c

-- ---- the step

pub fold_is_safe : (n : ℕ) (l : PlainLambda) → IsSafeChange (fold_here n) l
fold_is_safe n l =
    record {
      replaces = λ ls ks r s part e. fold_replaces ls ks n l r s part e;
      calls = λ ls r s e h. here_ops (Calls ls) (λ w. tt) n r s e h;
      names = λ globals r s e h. here_ops (NamesGlobal globals) (λ w. tt) n r s e h;
      resized = λ r s e. fold_resizes (lambda_values l) n r s e;
    }

pub fold_stays : (n : ℕ) (l : PlainLambda) → IsWellFormed l → IsWellFormed (fold n l)
fold_stays n l well = kept_well_formed (fold_here n) l (λ r s e fits numbers. fold_here_keeps (length l.objects) l.next n r s e fits numbers) well

pub fold_is_a_step : FoldIsAStep
fold_is_a_step held n l well = changed_is_a_step (fold_here n) l well (fold_stays n l well) (fold_is_safe n l) held
