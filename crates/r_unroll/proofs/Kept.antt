-- The rule keeps lambdas well formed, and is a step.
use Rattle.std.specs.Prelude.{◌&&◌, ◌+◌, ◌-◌, ◌^◌, nat_le, not, nat_lt, unwrap_or}
use Rattle.std.proofs.Common.{◌≡◌, ℕ, suc, Bool, true, List, [], ◌∷◌, ◌++◌, append_assoc, append-nil, map, length, Option, None, Some, refl, sym, ap, subst, ◌∙◌, arith}
use Rattle.std.proofs.lemmas.Bool.{and_parts}
use Rattle.std.proofs.lemmas.List.{length-map}
use Rattle.base.specs.Limits.{most_loop_values}
use Rattle.g_graph.specs.declared.op.Kind.{Kind}
use Rattle.g_graph.specs.declared.op.Kind.TheVariants.{Value}
use Rattle.g_graph.specs.declared.op.Op.{Op}
use Rattle.g_graph.specs.declared.op.Op.TheVariants.{Const, Gamma, Theta}
use Rattle.g_graph.specs.declared.op.Origin.{Origin}
use Rattle.g_graph.specs.declared.op.Origin.TheVariants.{Arg, Out}
use Rattle.g_graph.specs.Plain.{RegionTree, region, NodeTree, node, NodeTrees, no_nodes, node_then, no_regions, region_then, PlainLambda}
use Rattle.g_graph.specs.Change.{region_changed}
use Rattle.g_graph.specs.Count.{region_values, nodes_values}
use Rattle.g_graph.specs.Ids.{region_ids, nodes_ids}
use Rattle.g_graph.specs.Lists.{RegionOps, Calls, NamesGlobal}
use Rattle.g_graph.specs.Program.{lambda_values}
use Rattle.g_graph.specs.Scope.{known}
use Rattle.g_graph.specs.Signatures.{result_kinds}
use Rattle.g_graph.specs.Splice.{joined_nodes}
use Rattle.g_graph.specs.WellFormed.{all_of, distinct, are, inputs_fit, inputs_are_last, node_has_one_state_each, has_its_regions, theta_has_states, has_its_width, has_its_object, node_fits, leaves_fit, body_fits, numbers_fit, region_fits, every_region, well_formed, IsWellFormed}
use Rattle.g_graph.proofs.lemmas.Nests.{region_changed_ids, numbers_numbered, changed_well_formed}
use Rattle.g_graph.proofs.lemmas.Nodes.{NodeFits, are_kinds}
use Rattle.g_graph.proofs.lemmas.Numbers.{Numbered, numbered_left, numbered_right}
use Rattle.g_graph.proofs.lemmas.Ops.{joined_ops, found_ops, set_ops}
use Rattle.g_graph.proofs.lemmas.Splices.{nodes_ids-joined, nodes_values-joined}
use Rattle.g_graph.proofs.lemmas.Unique.{distinct_of_counts}
use Rattle.g_mean.specs.Edits.{IsPartOf, IsEdited}
use Rattle.g_mean.proofs.lemmas.Closed.{region-closed}
use Rattle.g_mean.proofs.lemmas.Inside.{node-here, inner-unique}
use Rattle.r_edit.specs.Numbering.{node_count, region_numbered}
use Rattle.r_edit.proofs.lemmas.Copies.{numbered-ops}
use Rattle.r_edit.proofs.lemmas.Fits.{copies_count_the_same}
use Rattle.r_edit.specs.Size.{IsResized, may_change_size}
use Rattle.r_edit.proofs.lemmas.Exchanged.{exchanged_stays}
use Rattle.r_edit.proofs.lemmas.Steps.{safe_changes_are_steps}
use Rattle.r_edit.proofs.lemmas.Swapped.{RegionStays}
use Rattle.r_edit.proofs.lemmas.Loops.{loop_node}
use Rattle.r_edit.proofs.lemmas.Consecutive.{length-from}
use Rattle.r_edit.specs.Origins.{origins_from}
use Rattle.r_unroll.specs.Rule.{stopping, unrolled, region_loops, growth, unroll_here, body_unrolled, lambda_unrolled}
use Rattle.r_unroll.specs.Laws.{UnrollIsAStep}
use Rattle.r_unroll.proofs.At.{unrolls-at}
use Rattle.r_unroll.proofs.Fits.{unrolled-results, unrolled-fits}
use Rattle.r_unroll.proofs.Numbers.{Adds, unrolled-ids, adds-here, adds-within, adds-once}
use Rattle.r_unroll.proofs.Replaced.{unroll_replaces}

-- ---- the region that holds the loop

module _ (l : PlainLambda) (args : List Kind) (before : NodeTrees) (n : ℕ) (inputs : List Origin) (own : List Kind) (nodes : NodeTrees) (outs : List Origin) (after : NodeTrees) (results : List Origin)
    (part : IsPartOf l (region args (joined_nodes before (node_then (loop_node n inputs (region own nodes outs)) after)) results)) where
  abbrev objects : ℕ
  objects = length l.objects

  abbrev body : RegionTree
  body = region own nodes outs

  abbrev x : NodeTree
  x = loop_node n inputs body

  abbrev y : NodeTree
  y = loop_node n inputs (unrolled l.next body)

  here : NodeFits objects args before x after
  here = node-here l args before x after results part

  fits : every_region (region_fits objects) body ≡ true
  fits = (and_parts (every_region (region_fits objects) body) true here.inside).0

  kinds : result_kinds body ≡ map Some (Value ∷ own)
  kinds = are_kinds (result_kinds body) (Value ∷ own) (and_parts (are (result_kinds body) (Value ∷ own)) true here.regions).0

  -- the loop fits as it did, where its region gives these kinds
  abbrev fits_with : List (Option Kind) → Bool
  fits_with ks =
      inputs_fit args before x && inputs_are_last args before x && node_has_one_state_each args before x
      && has_its_regions x && (are ks (Value ∷ own) && true) && theta_has_states x && has_its_width x && has_its_object objects x

  same-fit : node_fits objects args before y ≡ node_fits objects args before x
  same-fit = ap fits_with (unrolled-results objects l.next own nodes outs fits kinds)

  pub stays : RegionStays objects (region args (joined_nodes before (node_then x after)) results) (region args (joined_nodes before (node_then y after)) results)
  stays =
      exchanged_stays objects args before x y after here refl refl results (λ e. same-fit ∙ e) (λ e i. unrolled-fits objects l.next own nodes outs fits kinds i && true) part.fits

  pub adds : Adds l.next (2 + node_count body) (nodes_ids (joined_nodes before (node_then x after))) (nodes_ids (joined_nodes before (node_then y after)))
  adds =
      subst (λ js. Adds l.next (2 + node_count body) (nodes_ids (joined_nodes before (node_then x after))) js) (sym (around (unrolled l.next body)))
      (subst (λ is. Adds l.next (2 + node_count body) is ((nodes_ids before ++ n ∷ []) ++ (region_ids (unrolled l.next body) ++ nodes_ids after))) (sym (around body))
      (adds-within l.next (2 + node_count body) (nodes_ids before ++ n ∷ []) (region_ids body) (region_ids (unrolled l.next body)) (nodes_ids after)
      (subst (Adds l.next (2 + node_count body) (region_ids body)) (sym (unrolled-ids l.next body unique)) (adds-here l.next (2 + node_count body) (region_ids body)))))
    where
      unique : distinct (region_ids body) ≡ true
      unique = inner-unique l args before n Theta inputs own nodes outs after results part

      around : (r : RegionTree) → nodes_ids (joined_nodes before (node_then (loop_node n inputs r) after)) ≡ (nodes_ids before ++ n ∷ []) ++ (region_ids r ++ nodes_ids after)
      around r =
          nodes_ids-joined before (node_then (loop_node n inputs r) after) ∙ ap (λ ids. nodes_ids before ++ (n ∷ (ids ++ nodes_ids after))) (append-nil (region_ids r))
          ∙ sym (append_assoc (nodes_ids before) (n ∷ []) (region_ids r ++ nodes_ids after))

-- what is known of the new region
record Kept (l : PlainLambda) (r s : RegionTree) : Type 0 where
  count : ℕ
  stays : RegionStays (length l.objects) r s
  adds : Adds l.next count (region_ids r) (region_ids s)

here-keeps : (values n : ℕ) (l : PlainLambda) (r s : RegionTree) → unroll_here values l.next n r ≡ Some s → every_region (region_fits (length l.objects)) r ≡ true → Numbered l.next (region_ids r) →
    Kept l r s
here-keeps values n l (region args ns results) s e fits numbers =
    let at = unrolls-at values l.next n args ns results s e in
    let part : IsPartOf l (region args ns results) =
    record { fits = fits; closed = region-closed (length l.objects) (region args ns results) fits; unique = numbers.unique; below = numbers.below } in
    by at.before at.inputs at.after at.body at.whole at.result part
  where
    by : (before : NodeTrees) (inputs : List Origin) (after : NodeTrees) (body : RegionTree) → ns ≡ joined_nodes before (node_then (loop_node n inputs body) after) →
        s ≡ region args (joined_nodes before (node_then (loop_node n inputs (unrolled l.next body)) after)) results → IsPartOf l (region args ns results) → Kept l (region args ns results) s
    by before inputs after (region own nodes outs) whole result part =
        let known = subst (λ ms. IsPartOf l (region args ms results)) whole part in
        subst (λ t. Kept l (region args ns results) t) (sym result)
        (subst (λ ms. Kept l (region args ms results) (region args (joined_nodes before (node_then (loop_node n inputs (unrolled l.next (region own nodes outs))) after)) results)) (sym whole)
        (record {
          count = 2 + node_count (region own nodes outs);
          stays = stays l args before n inputs own nodes outs after results known;
          adds = adds l args before n inputs own nodes outs after results known;
        }))

-- ---- the lambda

pub unroll_well_formed : (n : ℕ) (l : PlainLambda) → IsWellFormed l → IsWellFormed (lambda_unrolled n l)
unroll_well_formed n l w = by_change (body_unrolled n l) refl
  where
    f : RegionTree → Option RegionTree
    f = unroll_here (lambda_values l) l.next n

    objects : ℕ
    objects = length l.objects

    same_next : l.next ≡ l.next + (node_count l.body - node_count l.body)
    same_next = omega arith

    by_change : (o : Option RegionTree) → region_changed f l.body ≡ o →
        well_formed (record l { body = unwrap_or o l.body; next = l.next + (node_count (unwrap_or o l.body) - node_count l.body) }) ≡ true
    by_change None e = ap (λ k. well_formed (record l { next = k })) (sym same_next) ∙ w
    by_change (Some s) e =
        let nest = every_region (region_fits objects) l.body in
        let front = (and_parts (body_fits l && numbers_fit l && nest) (all_of (λ o. leaves_fit o.size 0 o.leaves) l.objects) w).0 in
        let inner = and_parts (body_fits l && numbers_fit l) nest front in
        let old = numbers_numbered l (and_parts (body_fits l) (numbers_fit l) inner.0).1 in
        let x = region_changed_ids objects f l.body s e inner.1 in
        let at = append_assoc x.before (region_ids x.old) x.after in
        let at' = append_assoc x.before (region_ids x.new) x.after in
        let inside = numbered_right l.next x.before (region_ids x.old) (numbered_left l.next (x.before ++ region_ids x.old) x.after (subst (Numbered l.next) x.old_ids old)) in
        let kept = here-keeps (lambda_values l) n l x.old x.new x.here x.fits inside in
        let adds : Adds l.next kept.count (region_ids l.body) (region_ids s) =
        subst (λ is. Adds l.next kept.count is (region_ids s)) (sym (x.old_ids ∙ at))
        (subst (Adds l.next kept.count (x.before ++ (region_ids x.old ++ x.after))) (sym (x.new_ids ∙ at'))
        (adds-within l.next kept.count x.before (region_ids x.old) (region_ids x.new) x.after kept.adds)) in
        let next : l.next + kept.count ≡ l.next + (node_count s - node_count l.body) = omega (arith, adds.number_more) in
        let unique : distinct (region_ids s) ≡ true = distinct_of_counts (region_ids s) (adds-once l.next kept.count (region_ids l.body) (region_ids s) adds old) in
        let below : all_of (λ m. nat_lt m (l.next + (node_count s - node_count l.body))) (region_ids s) ≡ true
        = subst (λ k. all_of (λ m. nat_lt m k) (region_ids s) ≡ true) next (adds.below old.below) in
        changed_well_formed f l s (l.next + (node_count s - node_count l.body))
        (record { kept = λ r t q fits numbers. let k = (here-keeps (lambda_values l) n l r t q fits numbers).stays in record { args = k.args; results = k.results; inside = k.inside } })
        e w (λ i. unique i && below i)

-- ---- ops

module _ (p : Op → ℕ → Type 0) (const : (w m : ℕ) → p (Const w) m) (gamma : (m : ℕ) → p Gamma m) where
  unrolled-ops : (next : ℕ) (r : RegionTree) → RegionOps p r → RegionOps p (unrolled next r)
  unrolled-ops next (region args nodes results) h =
      joined_ops p nodes (node_then (node next Gamma results (region_then (stopping (suc next) args) (region_then (region_numbered (next + 2) (region args nodes results)) no_regions))) no_nodes) h
      ((gamma (length results), (((const 0 0, tt), tt), (numbered-ops p (next + 2) (region args nodes results) h, tt))), tt)

  here-ops : (values next n : ℕ) (r s : RegionTree) → unroll_here values next n r ≡ Some s → RegionOps p r → RegionOps p s
  here-ops values next n (region args nodes results) s e h =
      let at = unrolls-at values next n args nodes results s e in
      let own = found_ops p n nodes (loop_node n at.inputs at.body) at.found h in
      subst (RegionOps p) (sym at.set) (set_ops p n (loop_node n at.inputs (unrolled next at.body)) nodes (own.0, (unrolled-ops next at.body own.1.0, tt)) h)

-- ---- values

unrolled-values : (next : ℕ) (r : RegionTree) → region_values (unrolled next r) ≡ region_values r + growth r
unrolled-values next (region args nodes results) =
    let r = region args nodes results in
    let stop = Out (suc next) 0 ∷ origins_from Arg 0 (length args) in
    let last = node next Gamma results (region_then (stopping (suc next) args) (region_then (region_numbered (next + 2) r) no_regions)) in
    omega (
      arith,
      nodes_values-joined nodes (node_then last no_nodes),
      copies_count_the_same (next + 2) r,
      length-from (Out next) 0 (length results),
      length-from Arg 0 (length args),
      length-map stop (known args (node_then (node (suc next) (Const 0) [] no_regions) no_nodes)),
    )

here-resized : (values next n : ℕ) (r s : RegionTree) → unroll_here values next n r ≡ Some s → IsResized values r s
here-resized values next n (region args ns results) s e =
    let at = unrolls-at values next n args ns results s e in
    by at.before at.inputs at.after at.body
    (and_parts (nat_le (region_values at.body) most_loop_values && not (region_loops at.body) && nat_le (next + 2 + node_count at.body) (2 ^ 32 - 1))
    (may_change_size values (growth at.body) 0) at.can).1
    at.whole at.result
  where
    by : (before : NodeTrees) (inputs : List Origin) (after : NodeTrees) (body : RegionTree) → may_change_size values (growth body) 0 ≡ true →
        ns ≡ joined_nodes before (node_then (loop_node n inputs body) after) →
        s ≡ region args (joined_nodes before (node_then (loop_node n inputs (unrolled next body)) after)) results → IsResized values (region args ns results) s
    by before inputs after (region own nodes outs) may whole result =
        let body = region own nodes outs in
        let around : (r : RegionTree) → nodes_values (joined_nodes before (node_then (loop_node n inputs r) after)) ≡ _ = λ r. nodes_values-joined before (node_then (loop_node n inputs r) after) in
        subst (IsResized values (region args ns results)) (sym result)
        (record {
          args = refl;
          results = length-map results _ ∙ sym (length-map results _);
          resized = record {
            added = growth body;
            gone = 0;
            count = omega (arith, ap nodes_values whole, around body, around (unrolled next body), unrolled-values next body);
            may = may;
          };
        })

-- ---- the step

edited : (n : ℕ) (l : PlainLambda) → IsEdited (unroll_here (lambda_values l) l.next n) l (lambda_unrolled n l)
edited n l = record { number = refl; params = refl; objects = refl; body = refl }

pub unroll_is_a_step : UnrollIsAStep
unroll_is_a_step held n l well =
    safe_changes_are_steps (unroll_here (lambda_values l) l.next n) l (lambda_unrolled n l) well (unroll_well_formed n l well) (edited n l)
    (record {
      replaces = λ ls ks r s part e. unroll_replaces ls ks (lambda_values l) l.next n l r s part e;
      calls = λ ls r s e h. here-ops (Calls ls) (λ w m. tt) (λ m. tt) (lambda_values l) l.next n r s e h;
      names = λ globals r s e h. here-ops (NamesGlobal globals) (λ w m. tt) (λ m. tt) (lambda_values l) l.next n r s e h;
      resized = λ r s e. here-resized (lambda_values l) l.next n r s e;
    }) held
