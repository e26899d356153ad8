-- Nothing reads what goes.
use Rattle.std.proofs.Common.{◌≡◌, ◌≤◌, ◌+◌, ℕ, suc, ◌==◌, ◌⊎◌, Bool, true, false, not, ◌||◌, cond, List, [], ◌∷◌, ◌++◌, map, length, replicate, Some, refl, sym, ap, subst, ◌∙◌, inl, inr, arith}
use Rattle.std.proofs.lemmas.Bool.{or_parts}
use Rattle.std.proofs.lemmas.Bool.Decides.{nat_tests}
use Rattle.g_graph.specs.declared.op.Kind.TheVariants.{Value}
use Rattle.g_graph.specs.declared.op.Op.{Op}
use Rattle.g_graph.specs.declared.op.Origin.{Origin}
use Rattle.g_graph.specs.declared.op.Origin.TheVariants.{Arg, Out}
use Rattle.g_graph.specs.Plain.{RegionTree, region, NodeTree, node, NodeTrees, no_nodes, node_then, RegionTrees, no_regions, region_then, id_of}
use Rattle.g_graph.specs.WellFormed.{some_of}
use Rattle.g_graph.specs.Change.{has_node}
use Rattle.g_graph.specs.Nodes.{node_at}
use Rattle.g_graph.specs.Replace.{nodes_redirected}
use Rattle.g_graph.specs.Splice.{joined_nodes}
use Rattle.g_graph.proofs.lemmas.Unique.{same_number}
use Rattle.g_mean.specs.Copies.{IsAmong, AreRead, known_after, is_argument}
use Rattle.r_edit.specs.Uses.{nodes_read, is_read, is_output_of}
use Rattle.r_edit.specs.Places.{stays_at, kept}
use Rattle.r_edit.specs.Entries.{is_gone_argument, some_reads}
use Rattle.r_edit.proofs.lemmas.Kept.{kept_none}
use Rattle.r_pull.specs.Rule.{other_entries, args_from, copy_used, region_filled, copies_in, regions_filled}

-- ---- nodes before and after others

pub read-joined : (test : Origin → Bool) (xs ys : NodeTrees) → nodes_read test xs ≡ false → nodes_read test ys ≡ false → nodes_read test (joined_nodes xs ys) ≡ false
read-joined test no_nodes ys e d = d
read-joined test (node_then (node id op inputs rs) xs) ys e d =
    let both = or_parts (some_of test inputs) (nodes_read test xs) e in
    λ i. both.0 i || read-joined test xs ys both.1 d i

pub read-parts : (test : Origin → Bool) (xs ys : NodeTrees) → nodes_read test (joined_nodes xs ys) ≡ false → (nodes_read test xs ≡ false) × (nodes_read test ys ≡ false)
read-parts test no_nodes ys e = (refl, e)
read-parts test (node_then (node id op inputs rs) xs) ys e =
    let both = or_parts (some_of test inputs) (nodes_read test (joined_nodes xs ys)) e in
    let rest = read-parts test xs ys both.1 in
    (λ i. both.0 i || rest.0 i, rest.1)

-- ---- entries that stay

pub kept-other : (n : ℕ) (entries carried : List Origin) → some_of (is_output_of n) carried ≡ false → some_of (is_output_of n) (kept (other_entries n entries) (entries ++ carried)) ≡ false
kept-other n [] carried e = ap (some_of (is_output_of n)) (kept_none carried) ∙ e
kept-other n (a ∷ entries) carried e = by (is_output_of n a) refl (kept-other n entries carried e)
  where
    by : (t : Bool) → is_output_of n a ≡ t → some_of (is_output_of n) (kept (other_entries n entries) (entries ++ carried)) ≡ false →
        some_of (is_output_of n) (kept (not t ∷ other_entries n entries) (a ∷ (entries ++ carried))) ≡ false
    by true u rest = rest
    by false u rest = λ i. u i || rest i

-- ---- regions with copies

module _ (stays : List Bool) where
  abbrev gone : Origin → Bool
  gone = is_gone_argument stays

  later-stay : (first : ℕ) → ((k : ℕ) → first ≤ k → stays_at stays k ≡ true) → (inputs : List Origin) → some_of gone (args_from first inputs) ≡ false
  later-stay first late [] = refl
  later-stay first late (a ∷ inputs) =
      let rest = later-stay (suc first) (λ k b. late k (omega (arith, b))) inputs in
      λ i. not (late first (omega arith) i) || rest i

  module _ (copy : ℕ) where
    one-used : (o : Origin) → gone (copy_used stays copy o) ≡ false
    one-used (Out n p) = refl
    one-used (Arg k) = by (stays_at stays k) refl
      where
        by : (t : Bool) → stays_at stays k ≡ t → gone (cond t (Arg k) (Out copy 0)) ≡ false
        by true e = ap not e
        by false e = refl

    all-used : (os : List Origin) → some_of gone (map (copy_used stays copy) os) ≡ false
    all-used [] = refl
    all-used (o ∷ os) = λ i. one-used o i || all-used os i

    nodes-used : (ns : NodeTrees) → nodes_read gone (nodes_redirected (copy_used stays copy) ns) ≡ false
    nodes-used no_nodes = refl
    nodes-used (node_then (node id op inputs rs) ns) = λ i. all-used inputs i || nodes-used ns i

  module _ (first : ℕ) (op : Op) (inputs : List Origin) (late : (k : ℕ) → first ≤ k → stays_at stays k ≡ true) where
    one-unread : (copy : ℕ) (r : RegionTree) → is_read gone (region_filled stays copy first op inputs r) ≡ false
    one-unread copy (region args nodes results) = by (is_read gone (region args nodes results)) refl
      where
        used : Origin → Origin
        used = copy_used stays copy

        by : (t : Bool) → is_read gone (region args nodes results) ≡ t →
            is_read gone (cond t (region (args ++ replicate (length inputs) Value) (node_then (node copy op (args_from first inputs) no_regions) (nodes_redirected used nodes)) (map used results))
            (region (args ++ replicate (length inputs) Value) nodes results)) ≡ false
        by true e = λ i. (later-stay first late inputs i || nodes-used copy nodes i) || all-used copy results i
        by false e = e

    pub filled-unread : (copy : ℕ) (rs : RegionTrees) → some_reads stays (regions_filled stays copy first op inputs rs) ≡ false
    filled-unread copy no_regions = refl
    filled-unread copy (region_then r rs) = λ i. one-unread copy r i || filled-unread (copy + copies_in stays r) rs i

-- ---- the node stands before the Gamma

pub uses-known : (count n : ℕ) (known : List ℕ) (os : List Origin) → AreRead (is_argument count) known os → some_of (is_output_of n) os ≡ true → IsAmong n known
uses-known count n known [] r e = absurd cc
uses-known count n known (Arg k ∷ os) r e = uses-known count n known os r.1 e
uses-known count n known (Out m p ∷ os) r e = by (n == m) refl e r.0 (uses-known count n known os r.1)
  where
    by : (t : Bool) → (n == m) ≡ t → (t || some_of (is_output_of n) os) ≡ true → (is_argument count (Out m p) ≡ true) ⊎ IsAmong m known →
        (some_of (is_output_of n) os ≡ true → IsAmong n known) → IsAmong n known
    by true d f (inl t) rest = absurd cc
    by true d f (inr h) rest = subst (λ z. IsAmong z known) (sym (same_number n m d)) h
    by false d f h rest = rest f

pub known-has : (known : List ℕ) (ns : NodeTrees) (n : ℕ) → IsAmong n (known_after known ns) → IsAmong n known ⊎ (has_node n ns ≡ true)
known-has known no_nodes n h = inl h
known-has known (node_then x ns) n h = by (known-has (id_of x ∷ known) ns n h)
  where
    by : IsAmong n (id_of x ∷ known) ⊎ (has_node n ns ≡ true) → IsAmong n known ⊎ (has_node n (node_then x ns) ≡ true)
    by (inl (inl e)) = inr (own (id_of x == n) (grind (arith, nat_tests, e)))
      where
        own : (t : Bool) → t ≡ true → (t || has_node n ns) ≡ true
        own true d = refl
        own false d = absurd cc
    by (inl (inr k)) = inl k
    by (inr t) = inr (more (id_of x == n))
      where
        more : (s : Bool) → (s || has_node n ns) ≡ true
        more true = refl
        more false = t

pub found-before : (n : ℕ) (before after : NodeTrees) (x : NodeTree) → has_node n before ≡ true → node_at n (joined_nodes before after) ≡ Some x → node_at n before ≡ Some x
found-before n no_nodes after x h e = absurd cc
found-before n (node_then z before) after x h e = by (id_of z == n) h e (found-before n before after x)
  where
    by : (t : Bool) → (t || has_node n before) ≡ true → cond t (Some z) (node_at n (joined_nodes before after)) ≡ Some x →
        (has_node n before ≡ true → node_at n (joined_nodes before after) ≡ Some x → node_at n before ≡ Some x) → cond t (Some z) (node_at n before) ≡ Some x
    by true k d rest = d
    by false k d rest = rest k d
