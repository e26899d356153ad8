-- The rule keeps lambdas well formed, and is a step.
use Rattle.std.specs.Prelude.{◌&&◌, ◌+◌, ◌-◌, ◌^◌, nat_le, unwrap_or}
use Rattle.std.proofs.Common.{◌≡◌, ℕ, suc, true, List, map, length, Option, None, Some, option_map, refl, sym, ap, subst, ◌∙◌, arith}
use Rattle.std.proofs.lemmas.Bool.{and_parts}
use Rattle.std.proofs.lemmas.List.{length-map}
use Rattle.g_graph.specs.declared.op.Op.{Op}
use Rattle.g_graph.specs.declared.op.Op.TheVariants.{Gamma, Theta}
use Rattle.g_graph.specs.declared.op.Origin.{Origin}
use Rattle.g_graph.specs.Plain.{RegionTree, region, no_nodes, node_then, no_regions, region_then, args_of, results_of, nodes_in, PlainLambda}
use Rattle.g_graph.specs.Count.{region_values, node_values, nodes_values}
use Rattle.g_graph.specs.Lists.{RegionOps, NodesOps, Calls, NamesGlobal}
use Rattle.g_graph.specs.Program.{lambda_values}
use Rattle.g_graph.specs.Replace.{region_redirected, nodes_redirected}
use Rattle.g_graph.specs.Signatures.{result_kinds, kind_of, kind_after}
use Rattle.g_graph.specs.Splice.{args_to_inputs, outputs_to_results, joined_nodes, region_spliced}
use Rattle.g_graph.specs.WellFormed.{well_formed, IsWellFormed}
use Rattle.g_graph.proofs.lemmas.Ops.{redirected_ops, region_redirected_ops, joined_ops, region_spliced_ops, found_ops, split-ops}
use Rattle.g_graph.proofs.lemmas.Redirects.{nodes_values-redirected}
use Rattle.g_graph.proofs.lemmas.Splices.{nodes_values-joined}
use Rattle.g_mean.specs.Edits.{IsEdited}
use Rattle.r_edit.specs.Size.{IsResized, may_change_size}
use Rattle.r_edit.proofs.lemmas.Steps.{safe_changes_are_steps}
use Rattle.r_edit.specs.Numbering.{node_count, region_numbered}
use Rattle.r_edit.proofs.lemmas.Copies.{numbered-ops}
use Rattle.r_edit.proofs.lemmas.Fits.{copied-nodes-values, copies_count_the_same}
use Rattle.r_edit.proofs.lemmas.Loops.{loop_node}
use Rattle.r_invert.specs.Compose.{in_sequence, alone}
use Rattle.r_invert.specs.Laws.{InvertIsAStep}
use Rattle.r_invert.specs.Rule.{Parts, parts_of, giving, turn, remaining, choice, inverted, new_nodes, growth, loop_values, can_count, invert_here, body_inverted, with_body, lambda_inverted}
use Rattle.r_invert.proofs.At.{placed, inverts-at}
use Rattle.r_invert.proofs.Fits.{changed-fits}
use Rattle.r_invert.proofs.Forms.{ending, form-of}
use Rattle.r_invert.proofs.Replaced.{invert_replaces}

-- ---- ops

module _ (p : Op → ℕ → Type 0) (gamma : (m : ℕ) → p Gamma m) (theta : (m : ℕ) → p Theta m) where
  sequence-ops : (r s : RegionTree) → RegionOps p r → RegionOps p s → RegionOps p (in_sequence r s)
  sequence-ops (region args ns results) (region own ms gets) h k =
      joined_ops p ns (nodes_redirected (args_to_inputs results) ms) h (redirected_ops p (args_to_inputs results) ms k)

  -- what the parts have
  record PartsHave (parts : Parts) : Type 0 where
    test : RegionOps p parts.test
    stop : RegionOps p parts.stop
    go : RegionOps p parts.go

  giving-ops : (g : ℕ) (os : List Origin) (r : RegionTree) → RegionOps p r → RegionOps p (giving g os r)
  giving-ops g os (region args nodes results) h = h

  parts-have : (r : RegionTree) (parts : Parts) → parts_of r ≡ Some parts → RegionOps p r → PartsHave parts
  parts-have (region args nodes results) parts e h =
      let f = form-of args nodes results parts e in
      let n = f.ends in
      let split = split-ops p f.before (node_then (ending n.g n.inputs n.z n.b) no_nodes)
      (subst (NodesOps p) (f.whole ∙ ap (λ x. joined_nodes f.before (node_then x no_nodes)) n.node) h) in
      subst PartsHave n.parts
      (record { test = split.0; stop = giving-ops n.g n.variables n.z split.1.0.1.0; go = giving-ops n.g n.variables n.b split.1.0.1.1.0 })

  inverted-ops : (next : ℕ) (parts : Parts) → PartsHave parts → RegionOps p (inverted next parts)
  inverted-ops next parts h =
      let first = next + node_count parts.test in
      sequence-ops (region_numbered next parts.test) (choice first parts) (numbered-ops p next parts.test h.test)
      ((gamma _, (numbered-ops p (suc first) parts.stop h.stop, (remaining-ops (suc first + node_count parts.stop), tt))), tt)
    where
      turn-ops : (first : ℕ) → RegionOps p (turn first parts)
      turn-ops first =
          sequence-ops (region_numbered first parts.go) (region_numbered (first + node_count parts.go) parts.test) (numbered-ops p first parts.go h.go)
          (numbered-ops p (first + node_count parts.go) parts.test h.test)

      remaining-ops : (first : ℕ) → RegionOps p (remaining first parts)
      remaining-ops first =
          let last = suc first + (node_count parts.go + node_count parts.test) in
          sequence-ops (alone first Theta (args_of parts.go) (length (args_of parts.go)) (region_then (turn (suc first) parts) no_regions)) (region_numbered last parts.stop)
          ((theta _, (turn-ops (suc first), tt)), tt) (numbered-ops p last parts.stop h.stop)

  here-ops : (values next n : ℕ) (r s : RegionTree) → invert_here values next n r ≡ Some s → RegionOps p r → RegionOps p s
  here-ops values next n (region args nodes results) s e h =
      let at = inverts-at values next n args nodes results s e in
      let own = found_ops p n nodes (loop_node n at.inputs at.body) at.found h in
      subst (λ t. RegionOps p t) (sym at.result)
      (region_spliced_ops p n (placed next at.inputs at.parts) (region args nodes results)
      (region_redirected_ops p (args_to_inputs at.inputs) (inverted next at.parts) (inverted-ops next at.parts (parts-have at.body at.parts at.form own.1.0))) h)

-- ---- values

sequence-values : (r s : RegionTree) → nodes_values (nodes_in (in_sequence r s)) ≡ nodes_values (nodes_in r) + nodes_values (nodes_in s)
sequence-values (region args ns results) (region own ms gets) =
    nodes_values-joined ns (nodes_redirected (args_to_inputs results) ms) ∙ ap (λ n. nodes_values ns + n) (nodes_values-redirected (args_to_inputs results) ms)

sequence-length : (r s : RegionTree) → length (results_of (in_sequence r s)) ≡ length (results_of s)
sequence-length (region args ns results) (region own ms gets) = length-map gets (args_to_inputs results)

sequence-args : (r s : RegionTree) → args_of (in_sequence r s) ≡ args_of r
sequence-args (region args ns results) (region own ms gets) = refl

numbered-args : (next : ℕ) (r : RegionTree) → args_of (region_numbered next r) ≡ args_of r
numbered-args next (region args ns results) = refl

numbered-length : (next : ℕ) (r : RegionTree) → length (results_of (region_numbered next r)) ≡ length (results_of r)
numbered-length next (region args ns results) = length-map results _

pub kinds-length : (r : RegionTree) → length (result_kinds r) ≡ length (results_of r)
kinds-length (region args nodes results) = length-map results (kind_of args (λ n p. kind_after nodes n p None))

values-are : (r : RegionTree) → region_values r ≡ 1 + length (args_of r) + nodes_values (nodes_in r) + length (results_of r)
values-are (region args nodes results) = refl

module _ (p : Parts) where
  turn-values : (first : ℕ) →
      region_values (turn first p) ≡ 1 + length (args_of p.go) + (nodes_values (nodes_in p.go) + nodes_values (nodes_in p.test)) + length (results_of p.test)
  turn-values first =
      let r = region_numbered first p.go in
      let s = region_numbered (first + node_count p.go) p.test in
      omega (
        arith,
        values-are (in_sequence r s),
        ap length (sequence-args r s ∙ numbered-args first p.go),
        sequence-values r s,
        copied-nodes-values first p.go,
        copied-nodes-values (first + node_count p.go) p.test,
        sequence-length r s ∙ numbered-length (first + node_count p.go) p.test,
      )

  loop-values : (first : ℕ) → nodes_values (nodes_in (alone first Theta (args_of p.go) (length (args_of p.go)) (region_then (turn (suc first) p) no_regions)))
      ≡ 1 + length (args_of p.go) + region_values (turn (suc first) p)
  loop-values first =
      let t = turn (suc first) p in
      let outputs : length (map Some (args_of t)) ≡ length (args_of p.go) =
      length-map (args_of t) Some
      ∙ ap length (sequence-args (region_numbered (suc first) p.go) (region_numbered (suc first + node_count p.go) p.test) ∙ numbered-args (suc first) p.go) in
      omega (arith, outputs)

  remaining-values : (first : ℕ) → region_values (remaining first p)
      ≡ 1 + length (args_of p.go) + (1 + length (args_of p.go) + region_values (turn (suc first) p) + nodes_values (nodes_in p.stop)) + length (results_of p.stop)
  remaining-values first =
      let r = alone first Theta (args_of p.go) (length (args_of p.go)) (region_then (turn (suc first) p) no_regions) in
      let last = suc first + (node_count p.go + node_count p.test) in
      let s = region_numbered last p.stop in
      omega (
        arith,
        values-are (in_sequence r s),
        ap length (sequence-args r s),
        sequence-values r s,
        loop-values first,
        copied-nodes-values last p.stop,
        sequence-length r s ∙ numbered-length last p.stop,
      )

  choice-values : (first : ℕ) → nodes_values (nodes_in (choice first p))
      ≡ 1 + length (results_of p.stop) + (region_values p.stop + region_values (remaining (suc first + node_count p.stop) p))
  choice-values first =
      let z = region_numbered (suc first) p.stop in
      omega (arith, kinds-length z ∙ numbered-length (suc first) p.stop, copies_count_the_same (suc first) p.stop)

  pub inverted-values : (next : ℕ) → nodes_values (nodes_in (inverted next p)) ≡ growth p
  inverted-values next =
      let first = next + node_count p.test in
      let second = suc first + node_count p.stop in
      omega (
        arith,
        sequence-values (region_numbered next p.test) (choice first p),
        copied-nodes-values next p.test,
        choice-values first,
        values-are p.stop,
        remaining-values second,
        turn-values (suc second),
      )

here-resized : (values next n : ℕ) (r s : RegionTree) → invert_here values next n r ≡ Some s → IsResized values r s
here-resized values next n (region args nodes results) s e =
    let at = inverts-at values next n args nodes results s e in
    by (inverted next at.parts) refl
  where
    by : (part : RegionTree) → inverted next (inverts-at values next n args nodes results s e).parts ≡ part → IsResized values (region args nodes results) s
    by (region own ns gets) is =
        let at = inverts-at values next n args nodes results s e in
        let part = nodes_redirected (args_to_inputs at.inputs) ns in
        let outputs = map (args_to_inputs at.inputs) gets in
        let rest = nodes_redirected (outputs_to_results n outputs) at.split.after in
        let now : s ≡ region args (joined_nodes at.split.before (joined_nodes part rest)) (map (outputs_to_results n outputs) results) =
        at.result ∙ ap (λ copy. region_spliced n (region_redirected (args_to_inputs at.inputs) copy) (region args nodes results)) is
        ∙ ap (λ ms. region args ms (map (outputs_to_results n outputs) results)) (at.split.spliced part outputs) in
        let count = length-map results (outputs_to_results n outputs) in
        let old = ap nodes_values at.split.whole ∙ nodes_values-joined at.split.before (node_then at.split.here at.split.after) in
        let new = nodes_values-joined at.split.before (joined_nodes part rest) in
        let tail = nodes_values-joined part rest in
        let copied = nodes_values-redirected (args_to_inputs at.inputs) ns in
        let moved = nodes_values-redirected (outputs_to_results n outputs) at.split.after in
        let brought : nodes_values ns ≡ growth at.parts = ap (λ copy. nodes_values (nodes_in copy)) (sym is) ∙ inverted-values at.parts next in
        let loop = ap node_values at.here in
        let ports = length-map (args_of at.body) Some in
        subst (λ t. IsResized values (region args nodes results) t) (sym now)
        (record {
          args = refl;
          results = length-map (map (outputs_to_results n outputs) results) _ ∙ count ∙ sym (length-map results _);
          resized = record {
            added = growth at.parts;
            gone = loop_values at.body;
            count = omega (arith, count, old, new, tail, copied, moved, brought, loop, ports);
            may = (and_parts (can_count at.body at.parts && nat_le (next + new_nodes at.parts) (2 ^ 32 - 1)) (may_change_size values (growth at.parts) (loop_values at.body)) at.may).1;
          };
        })

-- ---- the lambda

edited : (n : ℕ) (l : PlainLambda) → IsEdited (invert_here (lambda_values l) l.next n) l (lambda_inverted n l)
edited n l = by (body_inverted n l) refl
  where
    by : (found : Option RegionTree) → body_inverted n l ≡ found → IsEdited (invert_here (lambda_values l) l.next n) l (unwrap_or (option_map (with_body l) found) l)
    by None e = record { number = refl; params = refl; objects = refl; body = ap (λ o. unwrap_or o l.body) (sym e) }
    by (Some s) e = record { number = refl; params = refl; objects = refl; body = ap (λ o. unwrap_or o l.body) (sym e) }

pub invert_well_formed : (n : ℕ) (l : PlainLambda) → IsWellFormed l → IsWellFormed (lambda_inverted n l)
invert_well_formed n l w = by (body_inverted n l) refl
  where
    by : (found : Option RegionTree) → body_inverted n l ≡ found → well_formed (unwrap_or (option_map (with_body l) found) l) ≡ true
    by None e = w
    by (Some s) e = changed-fits (lambda_values l) n l w s e

pub invert_is_a_step : InvertIsAStep
invert_is_a_step held n l well =
    safe_changes_are_steps (invert_here (lambda_values l) l.next n) l (lambda_inverted n l) well (invert_well_formed n l well) (edited n l)
    (record {
      replaces = λ ls ks r s part e. invert_replaces ls ks (lambda_values l) n l r s part e;
      calls = λ ls r s e h. here-ops (Calls ls) (λ m. tt) (λ m. tt) (lambda_values l) l.next n r s e h;
      names = λ globals r s e h. here-ops (NamesGlobal globals) (λ m. tt) (λ m. tt) (lambda_values l) l.next n r s e h;
      resized = λ r s e. here-resized (lambda_values l) l.next n r s e;
    }) held
