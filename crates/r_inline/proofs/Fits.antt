-- A lambda stays well formed where a call gives way to the body of its callee.
use Rattle.std.specs.Prelude.{◌-◌, ◌&&◌, nat_lt}
use Rattle.std.proofs.Common.{◌≡◌, ◌<◌, ◌≤◌, ◌+◌, ℕ, Bool, true, false, List, [], ◌∷◌, ◌++◌, map, length, replicate, Some, refl, sym, ap, subst, ◌∙◌, arith}
use Rattle.std.proofs.lemmas.Bool.{and_parts, and_from, false_from_ne_true}
use Rattle.std.proofs.lemmas.Bool.Decides.{nat_tests}
use Rattle.g_graph.specs.declared.op.Kind.{Kind}
use Rattle.g_graph.specs.declared.op.Kind.TheVariants.{Value, Memory, Io}
use Rattle.g_graph.specs.declared.op.Op.TheVariants.{Apply}
use Rattle.g_graph.specs.declared.op.Origin.{Origin}
use Rattle.g_graph.specs.Plain.{RegionTree, region, NodeTree, node, NodeTrees, node_then, args_of, id_of, PlainLambda}
use Rattle.g_graph.specs.Ids.{region_ids, nodes_ids, node_ids}
use Rattle.g_graph.specs.Change.{has_node, region_changed}
use Rattle.g_graph.specs.Replace.{region_redirected, nodes_redirected}
use Rattle.g_graph.specs.Scope.{known}
use Rattle.g_graph.specs.Signatures.{result_kinds, output_kinds}
use Rattle.g_graph.specs.Splice.{args_to_inputs, outputs_to_results, joined_nodes, region_spliced}
use Rattle.g_graph.specs.WellFormed.{all_of, are, inputs_fit, inputs_are_last, every_region, region_fits, leaves_fit, body_fits, numbers_fit, well_formed, IsWellFormed}
use Rattle.g_graph.proofs.lemmas.SpliceKept.{ReplacementFits, region_spliced_kept}
use Rattle.g_graph.proofs.lemmas.Nests.{region_changed_ids, exchanged_counts, exchanged_all, numbers_numbered, changed_well_formed}
use Rattle.g_graph.proofs.lemmas.Nodes.{NodeFits, node_fits_here, has_times, own_times}
use Rattle.g_graph.proofs.lemmas.Numbers.{Numbered, numbered_left, numbered_right}
use Rattle.g_graph.proofs.lemmas.Redirects.{nodes_ids-redirected}
use Rattle.g_graph.proofs.lemmas.Splices.{nodes_ids-joined}
use Rattle.g_graph.proofs.lemmas.Unique.{times, times_append, all_of_append, all_of_holds, counts_of_distinct, distinct_of_counts}
use Rattle.r_edit.specs.Numbering.{node_count, region_numbered}
use Rattle.val_core.specs.Numbers.{numbers_from}
use Rattle.r_edit.proofs.lemmas.Fits.{copies_fit}
use Rattle.r_edit.proofs.lemmas.Numbering.{copies_are_numbered, from-not-below, from-once, from-below, none-above}
use Rattle.r_inline.specs.Rule.{inline_here}
use Rattle.r_inline.proofs.Body.{IsBody, is-body}
use Rattle.r_inline.proofs.Call.{Inlined, inlined-at}

module _ (objects next n : ℕ) (callee : PlainLambda) (body : IsBody callee) (args : List Kind) (nodes : NodeTrees) (results : List Origin) (s : RegionTree)
    (at : Inlined next n callee args nodes results s) (fits : every_region (region_fits objects) (region args nodes results) ≡ true) (numbers : Numbered next (nodes_ids nodes)) where
  abbrev here : NodeTree
  here = node n (Apply callee.number) at.inputs at.regions

  whole : nodes ≡ joined_nodes at.split.before (node_then at.split.here at.split.after)
  whole = at.split.whole

  own : NodeFits objects args at.split.before at.split.here at.split.after
  own =
      node_fits_here objects next args at.split.before at.split.here at.split.after results (ap (λ ns. every_region (region_fits objects) (region args ns results)) (sym whole) ∙ fits)
      (subst (λ ns. Numbered next (nodes_ids ns)) whole numbers)

  -- the numbers of the region
  counted : (m : ℕ) → times m (nodes_ids nodes) ≡ times m (nodes_ids at.split.before) + times m (node_ids at.split.here) + times m (nodes_ids at.split.after)
  counted m =
      omega (
        arith,
        ap (λ ns. times m (nodes_ids ns)) whole,
        ap (times m) (nodes_ids-joined at.split.before (node_then at.split.here at.split.after)),
        times_append m (nodes_ids at.split.before) (node_ids at.split.here ++ nodes_ids at.split.after),
        times_append m (node_ids at.split.here) (nodes_ids at.split.after),
      )

  copied : region_ids (region_numbered next callee.body) ≡ numbers_from next (node_count callee.body)
  copied = copies_are_numbered next callee.body body.unique

  -- a number of the copy is none of the region
  apart : (m : ℕ) → 1 ≤ times m (region_ids (region_numbered next callee.body)) → times m (nodes_ids nodes) ≡ 0
  apart m h = none-above m next (nodes_ids nodes) (by (nat_lt m next) refl) numbers.below
    where
      by : (t : Bool) → nat_lt m next ≡ t → next ≤ m
      by true e =
          let less : m < next = grind (arith, nat_tests) in
          absurd (omega (arith, h, ap (times m) copied, from-not-below m next (node_count callee.body) less))
      by false e = grind (arith, nat_tests)

  module _ (part : List Kind) (ns : NodeTrees) (outs : List Origin) (is : region_numbered next callee.body ≡ region part ns outs) where
    entries : are (map (known args at.split.before) at.inputs) part ≡ true
    entries =
        let inputs = ap (λ x. inputs_fit args at.split.before x) (sym at.here) ∙ own.inputs in
        let kinds : part ≡ replicate (length at.inputs - 2) Value ++ Memory ∷ Io ∷ [] =
        ap args_of (sym is) ∙ (copies_fit objects next callee.body).args ∙ body.args ∙ ap (λ k. replicate k Value ++ Memory ∷ Io ∷ []) (omega (arith, at.count)) in
        ap (are (map (known args at.split.before) at.inputs)) kinds ∙ inputs

    times-there : (m : ℕ) → has_node m ns ≡ true → times m (nodes_ids nodes) ≡ 0
    times-there m h = apart m (omega (arith, has_times m ns h, ap (λ r. times m (region_ids r)) is))

    replacement : ReplacementFits objects args at.split.before at.split.here at.split.after part ns outs at.inputs
    replacement = record {
      inside = ap (every_region (region_fits objects)) (sym is) ∙ (copies_fit objects next callee.body).inside ∙ body.fits objects;
      entries = entries;
      entries_last = ap (λ x. inputs_are_last args at.split.before x) (sym at.here) ∙ own.last;
      exits = ap result_kinds (sym is) ∙ (copies_fit objects next callee.body).results ∙ body.results ∙ ap output_kinds (sym at.here);
      replacement_before = λ m a b. omega (arith, times-there m a, counted m, has_times m at.split.before b);
      replacement_after = λ m a b. omega (arith, times-there m a, counted m, has_times m at.split.after b);
      before_after = λ m a b. omega (arith, has_times m at.split.before a, has_times m at.split.after b, own.once m);
      at_before = false_from_ne_true (has_node (id_of at.split.here) at.split.before)
          (λ h. omega (arith, has_times (id_of at.split.here) at.split.before h, own_times at.split.here, own.once (id_of at.split.here)));
      at_after = false_from_ne_true (has_node (id_of at.split.here) at.split.after)
          (λ h. omega (arith, has_times (id_of at.split.here) at.split.after h, own_times at.split.here, own.once (id_of at.split.here)));
    }

    pub spliced-kept : (args_of s ≡ args) × (result_kinds s ≡ result_kinds (region args nodes results)) × (every_region (region_fits objects) s ≡ true)
    spliced-kept =
        let kept = region_spliced_kept objects n args nodes results part ns outs at.inputs at.split replacement fits in
        let same : s ≡ region_spliced n (region_redirected (args_to_inputs at.inputs) (region part ns outs)) (region args nodes results) =
        at.result ∙ ap (λ r. region_spliced n (region_redirected (args_to_inputs at.inputs) r) (region args nodes results)) is in
        (ap args_of same ∙ kept.args, ap result_kinds same ∙ kept.results, ap (every_region (region_fits objects)) same ∙ kept.inside)

    -- the numbers of the new region are those of the copy, and others that it had
    ids-now : region_ids s ≡ nodes_ids at.split.before ++ (nodes_ids ns ++ nodes_ids at.split.after)
    ids-now =
        let placed = nodes_redirected (args_to_inputs at.inputs) ns in
        let outputs = map (args_to_inputs at.inputs) outs in
        ap region_ids at.result ∙ ap (λ r. region_ids (region_spliced n (region_redirected (args_to_inputs at.inputs) r) (region args nodes results))) is
        ∙ ap nodes_ids (at.split.spliced placed outputs)
        ∙ nodes_ids-joined at.split.before (joined_nodes placed (nodes_redirected (outputs_to_results n outputs) at.split.after))
        ∙ ap (λ ids. nodes_ids at.split.before ++ ids)
        (nodes_ids-joined placed (nodes_redirected (outputs_to_results n outputs) at.split.after)
        ∙ (λ i. nodes_ids-redirected (args_to_inputs at.inputs) ns i ++ nodes_ids-redirected (outputs_to_results n outputs) at.split.after i))

    pub more-times : (m : ℕ) → times m (region_ids s) ≤ times m (nodes_ids nodes) + times m (numbers_from next (node_count callee.body))
    more-times m =
        omega (
          arith,
          ap (times m) ids-now,
          times_append m (nodes_ids at.split.before) (nodes_ids ns ++ nodes_ids at.split.after),
          times_append m (nodes_ids ns) (nodes_ids at.split.after),
          counted m,
          ap (λ r. times m (region_ids r)) is,
          ap (times m) copied,
        )

    pub below-now : all_of (λ m. nat_lt m (next + node_count callee.body)) (region_ids s) ≡ true
    below-now =
        let test : ℕ → Bool = λ m. nat_lt m (next + node_count callee.body) in
        let old = ap (all_of (λ m. nat_lt m next)) (sym (ap nodes_ids whole ∙ nodes_ids-joined at.split.before (node_then at.split.here at.split.after))) ∙ numbers.below in
        let more = all_of_holds (λ m. nat_lt m next) test (λ m e. grind (arith, nat_tests)) (nodes_ids at.split.before ++ (node_ids at.split.here ++ nodes_ids at.split.after)) old in
        let parts =
        and_parts (all_of test (nodes_ids at.split.before)) (all_of test (node_ids at.split.here ++ nodes_ids at.split.after))
        (sym (all_of_append test (nodes_ids at.split.before) (node_ids at.split.here ++ nodes_ids at.split.after)) ∙ more) in
        let rest =
        and_parts (all_of test (node_ids at.split.here)) (all_of test (nodes_ids at.split.after)) (sym (all_of_append test (node_ids at.split.here) (nodes_ids at.split.after)) ∙ parts.1) in
        let new : all_of test (nodes_ids ns) ≡ true =
        ap (λ r. all_of test (region_ids r)) (sym is) ∙ ap (all_of test) copied ∙ from-below next (node_count callee.body) (next + node_count callee.body) (omega arith) in
        ap (all_of test) ids-now ∙ all_of_append test (nodes_ids at.split.before) (nodes_ids ns ++ nodes_ids at.split.after)
        ∙ and_from (all_of test (nodes_ids at.split.before)) (all_of test (nodes_ids ns ++ nodes_ids at.split.after)) parts.0
        (all_of_append test (nodes_ids ns) (nodes_ids at.split.after) ∙ and_from (all_of test (nodes_ids ns)) (all_of test (nodes_ids at.split.after)) new rest.1)

-- what is known of the new region
record Kept (objects next : ℕ) (callee : PlainLambda) (r s : RegionTree) : Type 0 where
  args : args_of s ≡ args_of r
  results : result_kinds s ≡ result_kinds r
  inside : every_region (region_fits objects) s ≡ true
  more : (m : ℕ) → times m (region_ids s) ≤ times m (region_ids r) + times m (numbers_from next (node_count callee.body))
  below : all_of (λ m. nat_lt m (next + node_count callee.body)) (region_ids s) ≡ true

here-keeps : (objects next n : ℕ) (callee : PlainLambda) → IsBody callee → (r s : RegionTree) → inline_here next n callee r ≡ Some s → every_region (region_fits objects) r ≡ true →
    Numbered next (region_ids r) → Kept objects next callee r s
here-keeps objects next n callee body (region args nodes results) s e fits numbers = by (region_numbered next callee.body) refl
  where
    by : (copy : RegionTree) → region_numbered next callee.body ≡ copy → Kept objects next callee (region args nodes results) s
    by (region part ns outs) is =
        let at = inlined-at next n callee args nodes results s e in
        let kept = spliced-kept objects next n callee body args nodes results s at fits numbers part ns outs is in
        record {
          args = kept.0;
          results = kept.1;
          inside = kept.2;
          more = more-times objects next n callee body args nodes results s at fits numbers part ns outs is;
          below = below-now objects next n callee body args nodes results s at fits numbers part ns outs is;
        }

pub changed-fits : (n : ℕ) (callee l : PlainLambda) → IsWellFormed callee → callee.objects ≡ [] → IsWellFormed l → (s : RegionTree) → region_changed (inline_here l.next n callee) l.body ≡ Some s →
    well_formed (record l { body = s; next = l.next + node_count callee.body }) ≡ true
changed-fits n callee l well none w s e =
    let objects = length l.objects in
    let body = is-body callee well none in
    let f = inline_here l.next n callee in
    let nest = every_region (region_fits objects) l.body in
    let front = (and_parts (body_fits l && numbers_fit l && nest) (all_of (λ o. leaves_fit o.size 0 o.leaves) l.objects) w).0 in
    let inner = and_parts (body_fits l && numbers_fit l) nest front in
    let old = numbers_numbered l (and_parts (body_fits l) (numbers_fit l) inner.0).1 in
    let x = region_changed_ids objects f l.body s e inner.1 in
    let counts = exchanged_counts objects f (region_ids l.body) (region_ids s) x in
    let here = here-keeps objects l.next n callee body x.old x.new x.here x.fits (exchanged-numbers x.before x.after (region_ids x.old) l.next (subst (Numbered l.next) x.old_ids old)) in
    let more : (m : ℕ) → times m (region_ids s) ≤ times m (region_ids l.body) + times m (numbers_from l.next (node_count callee.body))
    = λ m. omega (arith, counts m, here.more m) in
    let unique = distinct_of_counts (region_ids s) (λ m. once m l.next (region_ids l.body) (node_count callee.body) old (times m (region_ids s)) (more m)) in
    let wider = all_of_holds (λ m. nat_lt m l.next) (λ m. nat_lt m (l.next + node_count callee.body)) (λ m d. grind (arith, nat_tests)) (region_ids l.body) old.below in
    let below = exchanged_all objects f (region_ids l.body) (region_ids s) (λ m. nat_lt m (l.next + node_count callee.body)) x wider here.below in
    changed_well_formed f l s (l.next + node_count callee.body)
    (record {
      kept = λ r t q fits numbers.
          let k = here-keeps objects l.next n callee body r t q fits numbers in
          record { args = k.args; results = k.results; inside = k.inside };
    })
    e w (λ i. unique i && below i)
  where
    exchanged-numbers : (before after ids : List ℕ) (next : ℕ) → Numbered next ((before ++ ids) ++ after) → Numbered next ids
    exchanged-numbers before after ids next h = numbered_right next before ids (numbered_left next (before ++ ids) after h)

    once : (m next : ℕ) (ids : List ℕ) (count : ℕ) → Numbered next ids → (now : ℕ) → now ≤ times m ids + times m (numbers_from next count) → now ≤ 1
    once m next ids count old now h = by (nat_lt m next) refl
      where
        by : (t : Bool) → nat_lt m next ≡ t → now ≤ 1
        by true e =
            let less : m < next = grind (arith, nat_tests) in
            omega (arith, h, counts_of_distinct ids old.unique m, from-not-below m next count less)
        by false e =
            let least : next ≤ m = grind (arith, nat_tests) in
            omega (arith, h, none-above m next ids least old.below, from-once m next count)
