-- What is kept where the uses of a node's value become uses of another one.
use Rattle.std.proofs.Common.{◌≡◌, ◌≤◌, ℕ, ◌==◌, true, false, List, [], ◌∷◌, ◌++◌, None, Some, refl, ap, subst, ◌∙◌, arith, cond}
use Rattle.std.specs.Prelude.{slice_get}
use Rattle.std.proofs.lemmas.Bool.{false_from_ne_true}
use Rattle.std.proofs.lemmas.Option.{cond_some}
use Rattle.g_graph.specs.declared.op.Kind.{Kind}
use Rattle.g_graph.specs.declared.op.Kind.TheVariants.{Value}
use Rattle.g_graph.specs.declared.op.Op.{Op}
use Rattle.g_graph.specs.declared.op.Origin.{Origin}
use Rattle.g_graph.specs.declared.op.Origin.TheVariants.{Out}
use Rattle.g_graph.specs.Plain.{RegionTree, region, NodeTree, NodeTrees, node_then, id_of}
use Rattle.g_graph.specs.Ids.{node_ids, nodes_ids}
use Rattle.g_graph.specs.Signatures.{joined, output_kinds, kind_after}
use Rattle.g_graph.specs.Scope.{known}
use Rattle.g_graph.specs.WellFormed.{region_fits, every_region}
use Rattle.g_graph.specs.Change.{has_node}
use Rattle.g_graph.specs.Nodes.{is_used}
use Rattle.g_graph.specs.Replace.{region_redirected, origin_replaced}
use Rattle.g_graph.specs.Splice.{joined_nodes}
use Rattle.g_graph.specs.Lists.{RegionOps}
use Rattle.g_graph.proofs.lemmas.Indexes.{same_number_true, kind_absent}
use Rattle.g_graph.proofs.lemmas.Moved.{moved_kept}
use Rattle.g_graph.proofs.lemmas.Nodes.{NodeFits, KeptWithin, has_times, own_times, value_for}
use Rattle.g_graph.proofs.lemmas.Ops.{region_redirected_ops}
use Rattle.g_graph.proofs.lemmas.Redirects.{region_ids-redirected}
use Rattle.g_graph.proofs.lemmas.Splices.{nodes_ids-joined, kind_after-joined}
use Rattle.g_graph.proofs.lemmas.Unique.{times, times_append}
use Rattle.r_edit.specs.Uses.{uses_replaced}

-- the region with its uses replaced
pub replaced_is : (from to : Origin) (r s : RegionTree) → uses_replaced from to r ≡ Some s → region_redirected (origin_replaced from to) r ≡ s
replaced_is from to r s e = (cond_some (is_used from r) (region_redirected (origin_replaced from to) r) s e).1

-- The region stays well formed, with the same numbers, where both are values, and the other one is known before the node.
pub uses_kept : (objects : ℕ) (args : List Kind) (before : NodeTrees) (x : NodeTree) (after : NodeTrees) (results : List Origin) → NodeFits objects args before x after →
    every_region (region_fits objects) (region args (joined_nodes before (node_then x after)) results) ≡ true → output_kinds x ≡ Some Value ∷ [] → (b : Origin) → known args before b ≡ Some Value →
    (s : RegionTree) → uses_replaced (Out (id_of x) 0) b (region args (joined_nodes before (node_then x after)) results) ≡ Some s →
    KeptWithin objects (region args (joined_nodes before (node_then x after)) results) s
uses_kept objects args before x after results here fits gives b value s e =
    let r = region args (joined_nodes before (node_then x after)) results in
    let values = value_for objects (id_of x) args before x after here refl gives b value in
    subst (λ t. KeptWithin objects r t) (replaced_is (Out (id_of x) 0) b r s e)
    (record {
      kept = moved_kept objects (Out (id_of x) 0) b args (joined_nodes before (node_then x after)) results values fits;
      fewer = λ m. omega (arith, ap (times m) (region_ids-redirected (origin_replaced (Out (id_of x) 0) b) r));
    })

-- what a node gives as its first output is known where the number stands once
pub known_value : (args : List Kind) (before : NodeTrees) (y : NodeTree) (after : NodeTrees) → output_kinds y ≡ Some Value ∷ [] →
    times (id_of y) (nodes_ids (joined_nodes before (node_then y after))) ≤ 1 → known args (joined_nodes before (node_then y after)) (Out (id_of y) 0) ≡ Some Value
known_value args before y after gives once =
    kind_after-joined before (node_then y after) (id_of y) 0 None
    ∙ kind_absent after (id_of y) 0 (cond (id_of y == id_of y) (joined (slice_get (output_kinds y) 0)) (kind_after before (id_of y) 0 None)) none_after
    ∙ ap (λ t. cond t (joined (slice_get (output_kinds y) 0)) (kind_after before (id_of y) 0 None)) (same_number_true (id_of y))
    ∙ ap (λ ks. joined (slice_get ks 0)) gives
  where
    none_after : has_node (id_of y) after ≡ false
    none_after =
        false_from_ne_true (has_node (id_of y) after)
        (λ h.
        omega (
          arith,
          once,
          has_times (id_of y) after h,
          own_times y,
          ap (times (id_of y)) (nodes_ids-joined before (node_then y after)),
          times_append (id_of y) (nodes_ids before) (node_ids y ++ nodes_ids after),
          times_append (id_of y) (node_ids y) (nodes_ids after),
        ))

-- no op is added
pub uses_ops : (p : Op → ℕ → Type 0) (from to : Origin) (r s : RegionTree) → uses_replaced from to r ≡ Some s → RegionOps p r → RegionOps p s
uses_ops p from to r s e h = subst (λ t. RegionOps p t) (replaced_is from to r s e) (region_redirected_ops p (origin_replaced from to) r h)
