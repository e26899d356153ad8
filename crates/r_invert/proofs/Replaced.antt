-- The inverted loop in the place of the loop may replace it.
use Rattle.std.specs.Prelude.{◌&&◌, nat_lt}
use Rattle.std.proofs.Common.{◌≡◌, ℕ, true, List, [], ◌∷◌, ◌++◌, map, length, Some, refl, sym, ap, subst, ◌∙◌, arith}
use Rattle.std.proofs.lemmas.Bool.{and_parts}
use Rattle.val_core.specs.declared.values.Value.{Value as Word}
use Rattle.val_core.specs.Refinement.{Direction, Forward, Backward, Refines, no_deeper}
use Rattle.g_graph.specs.declared.op.Kind.{Kind}
use Rattle.g_graph.specs.declared.op.Kind.TheVariants.{Value}
use Rattle.g_graph.specs.declared.op.Origin.{Origin}
use Rattle.g_graph.specs.Plain.{RegionTree, region, NodeTree, NodeTrees, node_then, args_of, PlainLambda}
use Rattle.g_graph.specs.Ids.{region_ids, nodes_ids}
use Rattle.g_graph.specs.Scope.{known}
use Rattle.g_graph.specs.Signatures.{result_kinds}
use Rattle.g_graph.specs.Replace.{region_redirected}
use Rattle.g_graph.specs.Splice.{args_to_inputs, joined_nodes, region_spliced}
use Rattle.g_graph.specs.WellFormed.{all_of, are, distinct, node_fits, region_fits, every_region, every_in_nodes}
use Rattle.g_graph.proofs.lemmas.Nodes.{each_here}
use Rattle.g_graph.proofs.lemmas.Splices.{nodes_ids-joined, every_in_nodes-joined}
use Rattle.g_mean.specs.Data.{Datum}
use Rattle.g_mean.specs.Meaning.{Context, Outputs, read, region_meaning, node_run}
use Rattle.g_mean.specs.LessDefined.{Paired, IsLessDefinedDatum}
use Rattle.g_mean.specs.Refining.{MeaningRefines, ContextRefines}
use Rattle.g_mean.specs.Replacement.{IsTwice, Linked, Replaces}
use Rattle.g_mean.specs.Copies.{IsAmong, AreRead, NodesRead, known_after, is_argument}
use Rattle.g_mean.specs.Edits.{IsPartOf}
use Rattle.g_mean.specs.Splices.{FitsInto}
use Rattle.g_mean.proofs.lemmas.Closed.{region-closed}
use Rattle.g_mean.proofs.lemmas.Edits.{distinct-split}
use Rattle.g_mean.proofs.lemmas.Inside.{as-many}
use Rattle.g_mean.proofs.lemmas.Kept.{reads-refines}
use Rattle.g_mean.proofs.lemmas.LessDefined.{less-kept}
use Rattle.g_mean.proofs.lemmas.Splices.{joined-read, spliced_regions_refine}
use Rattle.r_edit.proofs.lemmas.AddedFit.{fits-parts}
use Rattle.r_edit.proofs.lemmas.Loops.{loop_node}
use Rattle.r_edit.proofs.lemmas.Numbers.{below, among-whole}
use Rattle.r_invert.specs.Laws.{IsLoopRegion, AreTurnsInverted, InvertReplaces}
use Rattle.r_invert.specs.Rule.{Parts, parts_of, takes_both_states, inverted, new_nodes}
use Rattle.r_invert.proofs.At.{placed, inverts-at}
use Rattle.r_invert.proofs.First.{LoopSays, loop-says, inverted_loops_refine}
use Rattle.r_invert.proofs.PartsFit.{NodeSays, node-says}
use Rattle.r_invert.proofs.Pieces.{Piece, among-numbers}
use Rattle.r_invert.proofs.Whole.{inverted-piece}

-- ---- the region of the loop

module _ (objects : ℕ) (args : List Kind) (before : NodeTrees) (n : ℕ) (inputs : List Origin) (body : RegionTree) (after : NodeTrees) (results : List Origin)
    (fits : every_region (region_fits objects) (region args (joined_nodes before (node_then (loop_node n inputs body) after)) results) ≡ true) where
  pub loop-node-says : NodeSays objects args before (loop_node n inputs body)
  loop-node-says =
      node-says objects args before (loop_node n inputs body)
      (each_here (node_fits objects args) [] before (loop_node n inputs body) after (fits-parts objects args (joined_nodes before (node_then (loop_node n inputs body) after)) results fits).each)

  pub loop-region : distinct (nodes_ids (joined_nodes before (node_then (loop_node n inputs body) after))) ≡ true → IsLoopRegion objects body
  loop-region unique =
      let x = loop_node n inputs body in
      let all = fits-parts objects args (joined_nodes before (node_then x after)) results fits in
      let split = and_parts (every_in_nodes (region_fits objects) before) ((every_region (region_fits objects) body && true) && every_in_nodes (region_fits objects) after)
      (sym (every_in_nodes-joined (region_fits objects) before (node_then x after)) ∙ all.inside) in
      let own = and_parts (every_region (region_fits objects) body && true) (every_in_nodes (region_fits objects) after) split.1 in
      let ids : distinct (nodes_ids before ++ ((n ∷ (region_ids body ++ [])) ++ nodes_ids after)) ≡ true = subst (λ is. distinct is ≡ true) (nodes_ids-joined before (node_then x after)) unique in
      let inner = (distinct-split (n ∷ (region_ids body ++ [])) (nodes_ids after) (distinct-split (nodes_ids before) ((n ∷ (region_ids body ++ [])) ++ nodes_ids after) ids).1).0 in
      record {
        fits = (and_parts (every_region (region_fits objects) body) true own.0).0;
        unique = (distinct-split (region_ids body) [] (distinct-split (n ∷ []) (region_ids body ++ []) inner).1).0;
        results = (and_parts (are (result_kinds body) (Value ∷ args_of body)) true loop-node-says.regions).0;
        states = (and_parts (takes_both_states body) true loop-node-says.theta).0;
      }

-- ---- the region that holds it

in-turns : (direction : Direction) (n m : ℕ) → IsTwice direction 2 n m → AreTurnsInverted direction n m
in-turns Forward n m h = omega (arith, h)
in-turns Backward n m h = omega (arith, h)

module _ (ls ks : List PlainLambda) (n : ℕ) (l : PlainLambda) (args : List Kind) (before : NodeTrees) (inputs : List Origin) (body : RegionTree) (after : NodeTrees) (results : List Origin) (p : Parts)
    (form : parts_of body ≡ Some p) where
  abbrev x : NodeTree
  x = loop_node n inputs body

  abbrev whole : RegionTree
  whole = region args (joined_nodes before (node_then x after)) results

  module _ (part : IsPartOf l whole) where
    abbrev objects : ℕ
    objects = length l.objects

    loop : IsLoopRegion objects body
    loop = loop-region objects args before n inputs body after results part.fits part.unique

    says : LoopSays objects body p
    says = loop-says objects body p loop form

    piece : Piece objects l.next (new_nodes p) (args_of body) (args_of body) (inverted l.next p)
    piece = inverted-piece objects (args_of body) says.entries p says.fit l.next

    inputs-known : AreRead (is_argument (length args)) (known_after [] before) inputs
    inputs-known = (joined-read (is_argument (length args)) [] before (node_then x after) part.closed.0).1.0.0

    numbers : all_of (λ m. nat_lt m l.next) (nodes_ids before ++ ((n ∷ (region_ids body ++ [])) ++ nodes_ids after)) ≡ true
    numbers = ap (all_of (λ m. nat_lt m l.next)) (sym (nodes_ids-joined before (node_then x after))) ∙ part.below

    count : length (args_of body) ≡ length inputs
    count = sym (as-many (known args before) inputs (args_of body) (loop-node-says objects args before n inputs body after results part.fits).inputs)

    module _ (own : List Kind) (ns : NodeTrees) (gets : List Origin) (is : inverted l.next p ≡ region own ns gets) where
      own-count : length own ≡ length inputs
      own-count = ap (λ r. length (args_of r)) (sym is) ∙ ap length piece.takes ∙ count

      fits : FitsInto args before x after results ns gets inputs
      fits =
          let closed = region-closed objects (region own ns gets) (ap (every_region (region_fits objects)) (sym is) ∙ piece.fits) in
          record {
            closed = part.closed;
            unique = part.unique;
            inputs_known = inputs-known;
            part_reads = subst (λ k. NodesRead (is_argument k) [] ns) own-count closed.0;
            part_gives = subst (λ k. AreRead (is_argument k) (known_after [] ns) gets) own-count closed.1;
            apart = λ m h k.
                let least = (among-numbers m l.next (new_nodes p) (subst (IsAmong m) (ap region_ids (sym is) ∙ piece.ids) h)).0 in
                let most = below m l.next (nodes_ids before ++ ((n ∷ (region_ids body ++ [])) ++ nodes_ids after)) numbers (among-whole m before n (region_ids body ++ []) (nodes_ids after) k) in
                omega (arith, least, most);
          }

      loop-refines : (direction : Direction) (global : ℕ → Word) (c d : Context) → ContextRefines no_deeper direction IsLessDefinedDatum c d → Linked direction ls ks global c d →
          (xs ys : List Datum) (o q : Outputs) → Paired IsLessDefinedDatum xs ys → ((m j : ℕ) → IsLessDefinedDatum (o m j) (q m j)) →
          Refines no_deeper direction (Paired IsLessDefinedDatum) (node_run c x xs o) (region_meaning d (region own ns gets) (map (read ys q) inputs))
      loop-refines direction global c d a linked xs ys o q near like =
          subst (λ r. Refines no_deeper direction (Paired IsLessDefinedDatum) (node_run c x xs o) (region_meaning d r (map (read ys q) inputs))) is
          (inverted_loops_refine direction c d a objects l.next body p loop form c.bound (in-turns direction c.bound d.bound linked.twice) (map (read xs o) inputs) (map (read ys q) inputs)
          (reads-refines IsLessDefinedDatum less-kept xs ys near o q like inputs))

      replaces-with : Replaces ls ks whole (region_spliced n (placed l.next inputs p) whole)
      replaces-with =
          record {
            at = λ direction global. record {
              at = λ c d a linked.
                  subst (λ r. MeaningRefines no_deeper direction IsLessDefinedDatum (region_meaning c whole) (region_meaning d (region_spliced n (region_redirected (args_to_inputs inputs) r) whole)))
                  (sym is)
                  (spliced_regions_refine direction c d a args before x after results own ns gets inputs fits
                  (λ xs ys o q near like have. loop-refines direction global c d a linked xs ys o q near like));
            };
          }

    replaces : (r : RegionTree) → inverted l.next p ≡ r → Replaces ls ks whole (region_spliced n (placed l.next inputs p) whole)
    replaces (region own ns gets) is = replaces-with own ns gets is

pub invert_replaces : InvertReplaces
invert_replaces ls ks values n l (region args nodes results) s part e =
    let at = inverts-at values l.next n args nodes results s e in
    let whole : nodes ≡ joined_nodes at.split.before (node_then (loop_node n at.inputs at.body) at.split.after) =
    at.split.whole ∙ ap (λ x. joined_nodes at.split.before (node_then x at.split.after)) at.here in
    subst (λ t. Replaces ls ks (region args nodes results) t) (sym at.result)
    (subst (λ ns. Replaces ls ks (region args ns results) (region_spliced n (placed l.next at.inputs at.parts) (region args ns results))) (sym whole)
    (replaces ls ks n l args at.split.before at.inputs at.body at.split.after results at.parts at.form (subst (λ ns. IsPartOf l (region args ns results)) whole part) (inverted l.next at.parts) refl))
