-- The body in the place of the call may replace it.
use Rattle.std.specs.Prelude.{◌+◌, nat_lt}
use Rattle.std.proofs.Common.{◌≡◌, ◌≤◌, ℕ, true, List, [], ◌∷◌, ◌++◌, map, length, Some, slice_get, refl, sym, ap, subst, ◌∙◌, inl, inr, arith}
use Rattle.val_core.specs.declared.values.Value.{Value as Word}
use Rattle.val_core.specs.Refinement.{Direction, Refines, no_deeper}
use Rattle.g_graph.specs.declared.op.Kind.{Kind}
use Rattle.g_graph.specs.declared.op.Op.TheVariants.{Apply}
use Rattle.g_graph.specs.declared.op.Origin.{Origin}
use Rattle.g_graph.specs.Plain.{RegionTree, region, NodeTree, node, NodeTrees, node_then, RegionTrees, args_of, PlainLambda}
use Rattle.g_graph.specs.Ids.{nodes_ids, regions_ids}
use Rattle.g_graph.specs.Replace.{region_redirected}
use Rattle.g_graph.specs.Splice.{args_to_inputs, joined_nodes, region_spliced}
use Rattle.g_graph.specs.WellFormed.{all_of, every_region, region_fits, IsWellFormed}
use Rattle.g_graph.proofs.lemmas.Splices.{nodes_ids-joined}
use Rattle.g_mean.specs.Data.{Datum}
use Rattle.g_mean.specs.Meaning.{Context, Outputs, read, region_meaning, node_run}
use Rattle.g_mean.specs.LessDefined.{Paired, IsLessDefinedDatum}
use Rattle.g_mean.specs.Refining.{ContextRefines, LambdasSameBut}
use Rattle.g_mean.specs.Replacement.{Linked, Replaces}
use Rattle.g_mean.specs.Copies.{renumbered, nodes_moved, IsAmong, AreRead, NodesRead, known_after, is_argument, IsClosed}
use Rattle.g_mean.specs.Edits.{AreEditedAt, IsPartOf}
use Rattle.g_mean.specs.Splices.{FitsInto}
use Rattle.g_mean.proofs.lemmas.Closed.{region-closed}
use Rattle.g_mean.proofs.lemmas.Edits.{edits_replace}
use Rattle.g_mean.proofs.lemmas.Kept.{reads-refines}
use Rattle.g_mean.proofs.lemmas.LessDefined.{less-kept}
use Rattle.g_mean.proofs.lemmas.LocalRefinement.{bodies_replace_calls}
use Rattle.g_mean.proofs.lemmas.Splices.{joined-read, spliced_regions_refine}
use Rattle.r_edit.proofs.lemmas.Numbers.{below, among-whole}
use Rattle.r_edit.specs.Numbering.{number_from, region_numbered}
use Rattle.r_edit.proofs.lemmas.Numbering.{number_from-least, moved-ids}
use Rattle.r_edit.proofs.lemmas.Fits.{copies_fit}
use Rattle.r_edit.proofs.lemmas.Copies.{numbered_copies_mean_the_same}
use Rattle.r_inline.specs.Rule.{inlined, inline_here}
use Rattle.r_inline.specs.Laws.{InlineReplaces}
use Rattle.r_inline.proofs.Body.{IsBody, is-body, arguments-count}
use Rattle.r_inline.proofs.Call.{inlined-at}

-- ---- numbers

above : (m next : ℕ) (ms ns : List ℕ) → IsAmong m (map (number_from next ms) ns) → next ≤ m
above m next ms [] h = absurd h
above m next ms (n ∷ ns) (inl e) = omega (arith, e, number_from-least next ms n)
above m next ms (n ∷ ns) (inr h) = above m next ms ns h

-- ---- the region

module _ (ls ks : List PlainLambda) (n : ℕ) (callee l : PlainLambda) (none : callee.objects ≡ []) (there : slice_get ls callee.number ≡ Some callee) (known : IsBody callee)
    (args : List Kind) (before : NodeTrees) (inputs : List Origin) (rs : RegionTrees) (after : NodeTrees) (results : List Origin) (count : length inputs ≡ callee.params + 2) where
  abbrev call : NodeTree
  call = node n (Apply callee.number) inputs rs

  abbrev whole : RegionTree
  whole = region args (joined_nodes before (node_then call after)) results

  module _ (part : IsPartOf l whole) where
    inputs-known : AreRead (is_argument (length args)) (known_after [] before) inputs
    inputs-known = (joined-read (is_argument (length args)) [] before (node_then call after) part.closed.0).1.0.0

    numbers : all_of (λ m. nat_lt m l.next) (nodes_ids before ++ ((n ∷ regions_ids rs) ++ nodes_ids after)) ≡ true
    numbers = ap (all_of (λ m. nat_lt m l.next)) (sym (nodes_ids-joined before (node_then call after))) ∙ part.below

    -- the copy of the body, whose numbers are new
    module _ (own : List Kind) (nodes : NodeTrees) (outs : List Origin) (is : callee.body ≡ region own nodes outs) where
      abbrev body : RegionTree
      body = region own nodes outs

      abbrev to : ℕ → ℕ
      to = number_from l.next (nodes_ids nodes)

      own-count : length own ≡ length inputs
      own-count = ap (λ r. length (args_of r)) (sym is) ∙ ap length known.args ∙ arguments-count callee.params ∙ sym count

      body-closed : IsClosed body
      body-closed = region-closed 0 body (ap (every_region (region_fits 0)) (sym is) ∙ known.fits 0)

      copy-closed : IsClosed (region_numbered l.next body)
      copy-closed =
          region-closed 0 (region_numbered l.next body) ((copies_fit 0 l.next body).inside ∙ ap (every_region (region_fits 0)) (sym is) ∙ known.fits 0)

      fits : FitsInto args before call after results (nodes_moved (renumbered to) to nodes) (map (renumbered to) outs) inputs
      fits = record {
        closed = part.closed;
        unique = part.unique;
        inputs_known = inputs-known;
        part_reads = subst (λ k. NodesRead (is_argument k) [] (nodes_moved (renumbered to) to nodes)) own-count copy-closed.0;
        part_gives = subst (λ k. AreRead (is_argument k) (known_after [] (nodes_moved (renumbered to) to nodes)) (map (renumbered to) outs)) own-count copy-closed.1;
        apart = λ m h k.
            let least = above m l.next (nodes_ids nodes) (nodes_ids nodes) (subst (IsAmong m) (moved-ids (renumbered to) to nodes) h) in
            let most = below m l.next (nodes_ids before ++ ((n ∷ regions_ids rs) ++ nodes_ids after)) numbers (among-whole m before n (regions_ids rs) (nodes_ids after) k) in
            omega (arith, least, most);
      }

      call-refines : (direction : Direction) (global : ℕ → Word) (c d : Context) → ContextRefines no_deeper direction IsLessDefinedDatum c d → Linked direction ls ks global c d →
          (xs ys : List Datum) (o q : Outputs) → Paired IsLessDefinedDatum xs ys → ((m p : ℕ) → IsLessDefinedDatum (o m p) (q m p)) →
          Refines no_deeper direction (Paired IsLessDefinedDatum) (node_run c call xs o) (region_meaning d (region_numbered l.next body) (map (read ys q) inputs))
      call-refines direction global c d a linked xs ys o q near like =
          subst (λ m. Refines no_deeper direction (Paired IsLessDefinedDatum) (c.call callee.number (map (read xs o) inputs)) (m (map (read ys q) inputs)))
          (ap (region_meaning d) is ∙ sym (numbered_copies_mean_the_same l.next body body-closed d))
          (bodies_replace_calls ls ks direction global c d a linked callee.number callee there none (map (read xs o) inputs) (map (read ys q) inputs)
          (reads-refines IsLessDefinedDatum less-kept xs ys near o q like inputs))

      replaces : Replaces ls ks whole (region_spliced n (region_redirected (args_to_inputs inputs) (region_numbered l.next body)) whole)
      replaces =
          record {
            at = λ direction global. record {
              at = λ c d a linked.
                  spliced_regions_refine direction c d a args before call after results own (nodes_moved (renumbered to) to nodes) (map (renumbered to) outs) inputs fits
                  (λ xs ys o q near like have. call-refines direction global c d a linked xs ys o q near like);
            };
          }

    by-body : (body : RegionTree) → callee.body ≡ body → Replaces ls ks whole (region_spliced n (region_redirected (args_to_inputs inputs) (region_numbered l.next body)) whole)
    by-body (region own nodes outs) e = replaces own nodes outs e

pub inline_replaces : InlineReplaces
inline_replaces ls ks n callee l (region args nodes results) s well none there part e =
    let at = inlined-at l.next n callee args nodes results s e in
    let whole : nodes ≡ joined_nodes at.split.before (node_then (node n (Apply callee.number) at.inputs at.regions) at.split.after) =
    at.split.whole ∙ ap (λ x. joined_nodes at.split.before (node_then x at.split.after)) at.here in
    subst (λ t. Replaces ls ks (region args nodes results) t) (sym at.result)
    (subst (λ ns. Replaces ls ks (region args ns results) (region_spliced n (inlined l.next callee at.inputs) (region args ns results))) (sym whole)
    (by-body ls ks n callee l none there (is-body callee well none) args at.split.before at.inputs at.regions at.split.after results at.count
    (subst (λ ns. IsPartOf l (region args ns results)) whole part) callee.body refl))

-- ---- lists of lambdas

module _ (ls ks : List PlainLambda) (n next f : ℕ) (callee : PlainLambda) (well : IsWellFormed callee) (none : callee.objects ≡ []) (there : slice_get ls callee.number ≡ Some callee)
    (edited : AreEditedAt (inline_here next n callee) f ls ks) (each : (l : PlainLambda) → slice_get ls f ≡ Some l → IsWellFormed l × (l.next ≡ next)) where
  pub same-but : LambdasSameBut (Replaces ls ks) ls ks
  same-but =
      edits_replace ls ks (inline_here next n callee) f edited (λ l at. (each l at).0)
      (λ l r s at part e. inline_replaces ls ks n callee l r s well none there part (ap (λ m. inline_here m n callee r) (each l at).1 ∙ e))
