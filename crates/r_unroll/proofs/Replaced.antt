-- The region of an unrolled loop may replace the region of the loop.
use Rattle.std.proofs.Common.{ℕ, true, List, ◌∷◌, map, refl, sym, subst, arith}
use Rattle.std.proofs.lemmas.Bool.{and_parts}
use Rattle.val_core.specs.Refinement.{Direction, Forward, Backward, no_deeper}
use Rattle.g_graph.specs.declared.op.Kind.{Kind}
use Rattle.g_graph.specs.declared.op.Kind.TheVariants.{Value}
use Rattle.g_graph.specs.declared.op.Op.TheVariants.{Theta}
use Rattle.g_graph.specs.declared.op.Origin.{Origin}
use Rattle.g_graph.specs.Plain.{RegionTree, region, NodeTrees, node_then, no_regions, region_then, PlainLambda}
use Rattle.g_graph.specs.Scope.{known}
use Rattle.g_graph.specs.Signatures.{result_kinds}
use Rattle.g_graph.specs.Splice.{joined_nodes}
use Rattle.g_graph.specs.WellFormed.{are}
use Rattle.g_mean.specs.Meaning.{read, region_meaning}
use Rattle.g_mean.specs.LessDefined.{IsLessDefinedDatum}
use Rattle.g_mean.specs.Replacement.{IsTwice, Replaces}
use Rattle.g_mean.specs.Edits.{IsPartOf}
use Rattle.g_mean.proofs.lemmas.Bounds.{Never, Always, never-refines}
use Rattle.g_mean.proofs.lemmas.Calls.{same-itself}
use Rattle.g_mean.proofs.lemmas.Equal.{no_deeper-compares}
use Rattle.g_mean.proofs.lemmas.Inside.{node-here, as-many, regions-closed}
use Rattle.g_mean.proofs.lemmas.Kept.{reads-refines}
use Rattle.g_mean.proofs.lemmas.LessDefined.{less-kept}
use Rattle.g_mean.proofs.lemmas.Redirects.{replaced_nodes_refine}
use Rattle.g_mean.proofs.lemmas.Regions.{region-refines}
use Rattle.r_edit.proofs.lemmas.Loops.{loop_node}
use Rattle.r_unroll.specs.Rule.{unrolled}
use Rattle.r_unroll.specs.Laws.{IsLoopRegion, AreTurnsUnrolled, UnrolledTurnsRefine, UnrollReplaces}
use Rattle.r_unroll.proofs.At.{unrolls-at}
use Rattle.r_unroll.proofs.Turns.{turns-refine}
use Rattle.r_unroll.proofs.Unrolled.{unrolled_regions_take_two_turns}

pub unrolled_turns_refine : UnrolledTurnsRefine
unrolled_turns_refine direction c d a next r loop n m order xs ys near =
    turns-refine direction (region_meaning c r) (region_meaning d r) (region_meaning d (unrolled next r))
    (λ us vs near'. (region-refines no_deeper no_deeper-compares direction IsLessDefinedDatum less-kept Never Always
    (never-refines no_deeper no_deeper-compares direction IsLessDefinedDatum less-kept) c d a tt r r (same-itself Never r)).on us vs near')
    (λ vs. unrolled_regions_take_two_turns next r loop d vs) n m order xs ys near

-- ---- the loop in its region

in-turns : (direction : Direction) (n m : ℕ) → IsTwice direction 2 n m → AreTurnsUnrolled direction n m
in-turns Forward n m h = omega (arith, h)
in-turns Backward n m h = omega (arith, h)

pub loop-region : (l : PlainLambda) (args : List Kind) (before : NodeTrees) (n : ℕ) (inputs : List Origin) (r : RegionTree) (after : NodeTrees) (results : List Origin) →
    IsPartOf l (region args (joined_nodes before (node_then (loop_node n inputs r) after)) results) → IsLoopRegion r
loop-region l args before n inputs (region own nodes outs) after results part =
    let r = region own nodes outs in
    let here = node-here l args before (loop_node n inputs r) after results part in
    record {
      closed = (regions-closed l args before n Theta inputs (region_then r no_regions) after results part).0;
      results = as-many (known own nodes) outs (Value ∷ own) (and_parts (are (result_kinds r) (Value ∷ own)) true here.regions).0;
    }

module _ (ls ks : List PlainLambda) (next n : ℕ) (l : PlainLambda) (args : List Kind) (before : NodeTrees) (inputs : List Origin) (r : RegionTree) (after : NodeTrees) (results : List Origin)
    (part : IsPartOf l (region args (joined_nodes before (node_then (loop_node n inputs r) after)) results)) where
  replaces : Replaces ls ks (region args (joined_nodes before (node_then (loop_node n inputs r) after)) results)
      (region args (joined_nodes before (node_then (loop_node n inputs (unrolled next r)) after)) results)
  replaces =
      record {
        at = λ direction global. record {
          at = λ c d a linked.
              replaced_nodes_refine direction c d a args before (loop_node n inputs r) (loop_node n inputs (unrolled next r)) after results part.closed part.unique refl
              (λ xs ys o q near like have.
              unrolled_turns_refine direction c d a next r (loop-region l args before n inputs r after results part) c.bound d.bound (in-turns direction c.bound d.bound linked.twice)
              (map (read xs o) inputs) (map (read ys q) inputs) (reads-refines IsLessDefinedDatum less-kept xs ys near o q like inputs));
        };
      }

pub unroll_replaces : UnrollReplaces
unroll_replaces ls ks values next n l (region args nodes results) s part e =
    let at = unrolls-at values next n args nodes results s e in
    subst (Replaces ls ks (region args nodes results)) (sym at.result)
    (subst (λ ns. Replaces ls ks (region args ns results) (region args (joined_nodes at.before (node_then (loop_node n at.inputs (unrolled next at.body)) at.after)) results)) (sym at.whole)
    (replaces ls ks next n l args at.before at.inputs at.body at.after results (subst (λ ns. IsPartOf l (region args ns results)) at.whole part)))
