-- What a node reads stands before it, and so does a constant among its inputs.
use Rattle.std.specs.Prelude.{◌||◌, ◌&&◌, option_and_then, option_map}
use Rattle.std.proofs.Common.{◌≡◌, ℕ, zero, suc, ◌==◌, ◌⊎◌, Bool, true, false, cond, List, [], ◌∷◌, map, length, slice_get, None, Some, unwrap_or, refl, sym, ap, ap₂, subst, ◌∙◌, inl, inr, arith}
use Rattle.std.proofs.lemmas.Bool.{and_parts}
use Rattle.std.proofs.lemmas.Bool.Decides.{nat_tests}
use Rattle.g_graph.specs.declared.op.Kind.{Kind}
use Rattle.g_graph.specs.declared.op.Kind.TheVariants.{Memory, Io}
use Rattle.g_graph.specs.declared.op.Op.TheVariants.{Bin, Un, Gamma, Theta}
use Rattle.g_graph.specs.declared.op.Origin.{Origin}
use Rattle.g_graph.specs.declared.op.Origin.TheVariants.{Arg, Out}
use Rattle.g_graph.specs.Ids.{nodes_ids, regions_ids}
use Rattle.g_graph.specs.Nodes.{node_at, const_word, constant, nodes_use}
use Rattle.g_graph.specs.Plain.{region, NodeTree, node, NodeTrees, no_nodes, node_then, no_regions, region_then, id_of, inputs_in, PlainLambda}
use Rattle.g_graph.specs.Replace.{nodes_redirected, origin_replaced}
use Rattle.g_graph.specs.Scope.{same_origin}
use Rattle.g_graph.specs.Splice.{outputs_to_results, joined_nodes}
use Rattle.g_graph.specs.WellFormed.{some_of, inputs_fit, inputs_are_last, node_has_one_state_each, has_its_regions, regions_fit, theta_has_states, has_its_width, has_its_object, node_fits, nodes_fit, results_are_last, returns_state, region_has_one_state_each, region_fits, every_in_nodes}
use Rattle.g_graph.proofs.lemmas.Nodes.{each_here}
use Rattle.g_mean.specs.Copies.{IsAmong, IsRead, AreRead, NodesRead, known_after, is_argument}
use Rattle.g_mean.specs.Edits.{IsPartOf}
use Rattle.g_mean.proofs.lemmas.Copies.{among-right}
use Rattle.g_mean.proofs.lemmas.Splices.{known-among}
use Rattle.val_core.specs.Words.{word1}
use Rattle.r_fold.specs.Rule.{word, bin_folded, gamma_folded, folding}
use Rattle.r_walk.specs.Laws.{AreOutputsAmong}
use Rattle.r_walk.specs.Walk.{is_in, inputs_of_nodes}
use Rattle.r_walk.proofs.lemmas.Uses.{in_append}

-- ---- numbers that are known

pub among_known : (before : NodeTrees) (n : ℕ) → IsAmong n (known_after [] before) → IsAmong n (nodes_ids before)
among_known before n h = by (known-among [] before n h)
  where
    by : IsAmong n [] ⊎ IsAmong n (nodes_ids before) → IsAmong n (nodes_ids before)
    by (inl k) = absurd k
    by (inr k) = k

-- a number that is known names one of these nodes, whatever follows them
at_known : (n : ℕ) (known : List ℕ) (before rest : NodeTrees) → IsAmong n (known_after known before) → IsAmong n known ⊎ (node_at n (joined_nodes before rest) ≡ node_at n before)
at_known n known no_nodes rest h = inl h
at_known n known (node_then x ns) rest h = by (at_known n (id_of x ∷ known) ns rest h)
  where
    own : n ≡ id_of x → (id_of x == n) ≡ true
    own e = grind (arith, nat_tests)

    by : IsAmong n (id_of x ∷ known) ⊎ (node_at n (joined_nodes ns rest) ≡ node_at n ns) → IsAmong n known ⊎ (node_at n (joined_nodes (node_then x ns) rest) ≡ node_at n (node_then x ns))
    by (inl (inl e)) = inr (ap (λ t. cond t (Some x) (node_at n (joined_nodes ns rest))) (own e) ∙ sym (ap (λ t. cond t (Some x) (node_at n ns)) (own e)))
    by (inl (inr k)) = inl k
    by (inr g) = inr (ap (λ o. cond (id_of x == n) (Some x) o) g)

module _ (count : ℕ) (before rest : NodeTrees) where
  constant_known : (o : Origin) → IsRead (is_argument count) (known_after [] before) o → constant (joined_nodes before rest) o ≡ constant before o
  constant_known (Arg k) h = refl
  constant_known (Out n p) (inl e) = absurd cc
  constant_known (Out n p) (inr h) = by (at_known n [] before rest h)
    where
      by : IsAmong n [] ⊎ (node_at n (joined_nodes before rest) ≡ node_at n before) → constant (joined_nodes before rest) (Out n p) ≡ constant before (Out n p)
      by (inl k) = absurd k
      by (inr g) = ap (λ o. cond (p == 0) (option_and_then const_word o) None) g

  -- a node is folded by what stands before it
  pub folding_known : (x : NodeTree) → AreRead (is_argument count) (known_after [] before) (inputs_in x) → folding (joined_nodes before rest) x ≡ folding before x
  folding_known (node id (Bin op) [] rs) h = refl
  folding_known (node id (Bin op) (a ∷ []) rs) h = refl
  folding_known (node id (Bin op) (a ∷ b ∷ []) rs) h = ap₂ (λ u v. bin_folded op a b u v) (constant_known a h.0) (constant_known b h.1.0)
  folding_known (node id (Bin op) (a ∷ b ∷ c ∷ os) rs) h = refl
  folding_known (node id (Un op) [] rs) h = refl
  folding_known (node id (Un op) (a ∷ []) rs) h = ap (option_map (λ u. word (word1 op u))) (constant_known a h.0)
  folding_known (node id (Un op) (a ∷ b ∷ os) rs) h = refl
  folding_known (node id Gamma [] rs) h = refl
  folding_known (node id Gamma (p ∷ entries) rs) h = ap (gamma_folded rs entries) (constant_known p h.0)
  folding_known (node id Theta inputs no_regions) h = refl
  folding_known (node id Theta inputs (region_then r no_regions)) h = refl
  folding_known (node id Theta inputs (region_then r (region_then s rs))) h = refl
  folding_known (node id _ inputs rs) h = refl

-- what is read is there
pub read_outputs : (count : ℕ) (known ks : List ℕ) → ((n : ℕ) → IsAmong n known → IsAmong n ks) → (os : List Origin) → AreRead (is_argument count) known os → AreOutputsAmong ks os
read_outputs count known ks h [] r = tt
read_outputs count known ks h (Arg k ∷ os) r = (tt, read_outputs count known ks h os r.1)
read_outputs count known ks h (Out n p ∷ os) r = (by r.0, read_outputs count known ks h os r.1)
  where
    by : (false ≡ true) ⊎ IsAmong n known → IsAmong n ks
    by (inl e) = absurd cc
    by (inr k) = h n k

-- ---- one output becomes another origin

same-test : (n m : ℕ) → (n == m) ≡ (m == n)
same-test n m = by (n == m) refl (m == n) refl
  where
    by : (s : Bool) → (n == m) ≡ s → (t : Bool) → (m == n) ≡ t → s ≡ t
    by true d true e = refl
    by false d false e = refl
    by true d false e = absurd (grind (arith, nat_tests))
    by false d true e = absurd (grind (arith, nat_tests))

pub replaced_is : (n : ℕ) (a : Origin) (o : Origin) → origin_replaced (Out n 0) a o ≡ outputs_to_results n (a ∷ []) o
replaced_is n a (Arg k) = refl
replaced_is n a (Out m zero) = ap (λ t. cond (t && (0 == 0)) a (Out m 0)) (same-test n m) ∙ by (m == n)
  where
    by : (t : Bool) → cond (t && (0 == 0)) a (Out m 0) ≡ cond t (unwrap_or (slice_get (a ∷ []) 0) (Out m 0)) (Out m 0)
    by true = refl
    by false = refl
replaced_is n a (Out m (suc q)) = left (n == m) ∙ right (m == n)
  where
    later : (0 == suc q) ≡ false
    later = grind (arith, nat_tests)

    left : (t : Bool) → cond (t && (0 == suc q)) a (Out m (suc q)) ≡ Out m (suc q)
    left true = ap (λ t. cond (true && t) a (Out m (suc q))) later
    left false = refl

    right : (t : Bool) → Out m (suc q) ≡ cond t (unwrap_or (slice_get (a ∷ []) (suc q)) (Out m (suc q))) (Out m (suc q))
    right true = refl
    right false = refl

module _ (count n : ℕ) (outs : List Origin) where
  abbrev now : Origin → Origin
  now = outputs_to_results n outs

  unmoved : (known : List ℕ) → (IsAmong n known → ⊥) → (o : Origin) → IsRead (is_argument count) known o → now o ≡ o
  unmoved known h (Arg k) r = refl
  unmoved known h (Out m q) (inl e) = absurd cc
  unmoved known h (Out m q) (inr k) = by (m == n) refl
    where
      by : (t : Bool) → (m == n) ≡ t → cond t (unwrap_or (slice_get outs q) (Out m q)) (Out m q) ≡ Out m q
      by true e = absurd (h (let same : m ≡ n = grind (arith, nat_tests) in subst (λ j. IsAmong j known) same k))
      by false e = refl

  pub all_unmoved : (known : List ℕ) → (IsAmong n known → ⊥) → (os : List Origin) → AreRead (is_argument count) known os → map now os ≡ os
  all_unmoved known h [] r = refl
  all_unmoved known h (o ∷ os) r = ap₂ (λ a bs. a ∷ bs) (unmoved known h o r.0) (all_unmoved known h os r.1)

  pub nodes_unmoved : (known : List ℕ) → (IsAmong n known → ⊥) → (ns : NodeTrees) → (IsAmong n (nodes_ids ns) → ⊥) → NodesRead (is_argument count) known ns → nodes_redirected now ns ≡ ns
  nodes_unmoved known h no_nodes g r = refl
  nodes_unmoved known h (node_then (node m op ins rs) ns) g r =
      ap₂ (λ is xs. node_then (node m op is rs) xs) (all_unmoved known h ins r.0.0) (nodes_unmoved (m ∷ known) more ns (λ k. g (among-right n (m ∷ regions_ids rs) (nodes_ids ns) k)) r.1)
    where
      more : IsAmong n (m ∷ known) → ⊥
      more (inl e) = g (inl e)
      more (inr k) = h k

-- ---- uses

pub nodes_use_is : (o : Origin) (ns : NodeTrees) → nodes_use o ns ≡ is_in (inputs_of_nodes ns) o
nodes_use_is o no_nodes = refl
nodes_use_is o (node_then (node id op ins rs) ns) = ap (λ t. some_of (same_origin o) ins || t) (nodes_use_is o ns) ∙ sym (in_append ins (inputs_of_nodes ns) o)

-- ---- the node has the regions of its op

pub regions_of_it : (l : PlainLambda) (args : List Kind) (before : NodeTrees) (x : NodeTree) (after : NodeTrees) (results : List Origin) →
    IsPartOf l (region args (joined_nodes before (node_then x after)) results) → has_its_regions x ≡ true
regions_of_it l args before x after results part =
    let objects = length l.objects in
    let ns = joined_nodes before (node_then x after) in
    let r = region args ns results in
    let own = (and_parts (region_fits objects r) (every_in_nodes (region_fits objects) ns) part.fits).0 in
    let to_io = (and_parts (nodes_fit objects r && results_are_last r && returns_state Memory r && returns_state Io r) (region_has_one_state_each r) own).0 in
    let to_memory = (and_parts (nodes_fit objects r && results_are_last r && returns_state Memory r) (returns_state Io r) to_io).0 in
    let to_last = (and_parts (nodes_fit objects r && results_are_last r) (returns_state Memory r) to_memory).0 in
    let fit = each_here (node_fits objects args) [] before x after (and_parts (nodes_fit objects r) (results_are_last r) to_last).0 in
    let states = inputs_fit args before x && inputs_are_last args before x && node_has_one_state_each args before x in
    let to_width = (and_parts (states && has_its_regions x && regions_fit x && theta_has_states x && has_its_width x) (has_its_object objects x) fit).0 in
    let to_theta = (and_parts (states && has_its_regions x && regions_fit x && theta_has_states x) (has_its_width x) to_width).0 in
    let to_regions = (and_parts (states && has_its_regions x && regions_fit x) (theta_has_states x) to_theta).0 in
    let to_shape = (and_parts (states && has_its_regions x) (regions_fit x) to_regions).0 in
    (and_parts states (has_its_regions x) to_shape).1
