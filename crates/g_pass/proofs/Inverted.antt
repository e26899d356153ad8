-- There are numbers for the nodes that inversion makes.
use Rattle.std.specs.Prelude.{nat_le, nat_lt, count_by, option_map, option_and_then, unwrap_or, if◌then◌else◌}
use Rattle.std.proofs.Common.{◌≡◌, ◌≤◌, ◌<◌, ◌+◌, ◌-◌, ◌^◌, ◌==◌, ◌&&◌, ℕ, suc, Bool, true, false, cond, List, [], ◌∷◌, ◌++◌, length, length-append, Option, None, Some, refl, sym, ap, subst, ◌∙◌, arith}
use Rattle.std.proofs.lemmas.Bool.{and_parts}
use Rattle.std.proofs.lemmas.Bool.Decides.{nat_tests}
use Rattle.std.proofs.lemmas.List.{length-map}
use Rattle.std.proofs.lemmas.List.Sums.{sum_by-append, sum_by-cons, count_by-le-length}
use Rattle.std.proofs.lemmas.Option.{cond_some, same_Some}
use Rattle.g_graph.specs.declared.op.Kind.{Kind}
use Rattle.g_graph.specs.declared.op.Kind.TheVariants.{Value}
use Rattle.g_graph.specs.declared.op.Op.{Op}
use Rattle.g_graph.specs.declared.op.Op.TheVariants.{Gamma, Theta}
use Rattle.g_graph.specs.declared.op.Origin.{Origin}
use Rattle.g_graph.specs.Plain.{RegionTree, region, NodeTree, node, NodeTrees, no_nodes, node_then, RegionTrees, no_regions, region_then, id_of, args_of, results_of, PlainLambda}
use Rattle.g_graph.specs.Ids.{region_ids, node_ids, nodes_ids, regions_ids}
use Rattle.g_graph.specs.Nodes.{node_at}
use Rattle.g_graph.specs.Program.{lambda_values}
use Rattle.g_graph.specs.Replace.{nodes_redirected, region_redirected}
use Rattle.g_graph.specs.Splice.{args_to_inputs, outputs_to_results, joined_nodes, nodes_spliced, region_spliced}
use Rattle.g_graph.specs.WellFormed.{all_of, distinct, numbers_fit, IsWellFormed}
use Rattle.g_graph.proofs.lemmas.Nests.{region_changed_ids}
use Rattle.g_graph.proofs.lemmas.Redirects.{nodes_ids-redirected, region_ids-redirected}
use Rattle.g_graph.proofs.lemmas.Splices.{nodes_ids-joined}
use Rattle.r_edit.specs.Size.{may_change_size}
use Rattle.r_edit.specs.Numbering.{node_count, number_from, region_numbered}
use Rattle.r_edit.proofs.lemmas.Numbering.{copied-ids}
use Rattle.r_invert.specs.Compose.{in_sequence, alone}
use Rattle.r_invert.specs.Rule.{Parts, parts_of, turn, remaining, choice, inverted, new_nodes, growth, loop_values, can_count, may_invert, in_place, invert_here, body_inverted, with_body, lambda_inverted}
use Rattle.g_pass.proofs.Sized.{body_inside}
use Rattle.g_pass.proofs.Pulled.{has_room}

-- ---- how many nodes the inverted loop has

numbered_count : (first : ℕ) (r : RegionTree) → node_count (region_numbered first r) ≡ node_count r
numbered_count first r = ap length (copied-ids (number_from first (region_ids r)) r) ∙ length-map (region_ids r) (number_from first (region_ids r))

sequence_count : (a b : RegionTree) → node_count (in_sequence a b) ≡ node_count a + node_count b
sequence_count (region args ns results) (region own ms gives) =
    ap length (nodes_ids-joined ns (nodes_redirected (args_to_inputs results) ms))
    ∙ (length-append (nodes_ids ns) (nodes_ids (nodes_redirected (args_to_inputs results) ms))
    ∙ ap (λ ids. length (nodes_ids ns) + length ids) (nodes_ids-redirected (args_to_inputs results) ms))

alone_count : (id : ℕ) (op : Op) (args : List Kind) (results : ℕ) (rs : RegionTrees) → node_count (alone id op args results rs) ≡ suc (length (regions_ids rs))
alone_count id op args results rs = omega (arith, length-append (id ∷ regions_ids rs) [])

turn_count : (first : ℕ) (p : Parts) → node_count (turn first p) ≡ node_count p.go + node_count p.test
turn_count first p =
    omega (
      arith,
      sequence_count (region_numbered first p.go) (region_numbered (first + node_count p.go) p.test),
      numbered_count first p.go,
      numbered_count (first + node_count p.go) p.test,
    )

remaining_count : (first : ℕ) (p : Parts) → node_count (remaining first p) ≡ suc (node_count p.go + node_count p.test) + node_count p.stop
remaining_count first p =
    let loop = region_then (turn (suc first) p) no_regions in
    omega (
      arith,
      sequence_count (alone first Theta (args_of p.go) (length (args_of p.go)) loop) (region_numbered (suc first + (node_count p.go + node_count p.test)) p.stop),
      alone_count first Theta (args_of p.go) (length (args_of p.go)) loop,
      length-append (region_ids (turn (suc first) p)) [],
      turn_count (suc first) p,
      numbered_count (suc first + (node_count p.go + node_count p.test)) p.stop,
    )

choice_count : (first : ℕ) (p : Parts) → node_count (choice first p) ≡ suc (node_count p.stop + (suc (node_count p.go + node_count p.test) + node_count p.stop))
choice_count first p =
    let rest = remaining (suc first + node_count p.stop) p in
    let stop = region_numbered (suc first) p.stop in
    omega (
      arith,
      alone_count first Gamma (Value ∷ args_of p.stop) (length (results_of p.stop)) (region_then stop (region_then rest no_regions)),
      length-append (region_ids stop) (region_ids rest ++ []),
      length-append (region_ids rest) [],
      numbered_count (suc first) p.stop,
      remaining_count (suc first + node_count p.stop) p,
    )

inverted_count : (next : ℕ) (p : Parts) → node_count (inverted next p) ≡ new_nodes p
inverted_count next p =
    omega (
      arith,
      sequence_count (region_numbered next p.test) (choice (next + node_count p.test) p),
      numbered_count next p.test,
      choice_count (next + node_count p.test) p,
    )

-- ---- numbers from the next one on

module _ (next : ℕ) where
  abbrev new_among : List ℕ → ℕ
  new_among ns = count_by (λ m. nat_le next m) ns

  new_append : (xs ys : List ℕ) → new_among (xs ++ ys) ≡ new_among xs + new_among ys
  new_append xs ys = sum_by-append (λ m. cond (nat_le next m) 1 0) xs ys

  none_new : (ns : List ℕ) → all_of (λ n. nat_lt n next) ns ≡ true → new_among ns ≡ 0
  none_new [] e = refl
  none_new (n ∷ ns) e =
      let both = and_parts (nat_lt n next) (all_of (λ m. nat_lt m next) ns) e in
      let below = both.0 in
      let old : nat_le next n ≡ false = grind (arith, nat_tests) in
      omega (arith, sum_by-cons (λ m. cond (nat_le next m) 1 0) n ns ∙ ap (λ t. cond t 1 0 + new_among ns) old, none_new ns both.1)

  -- what stands in the place of a node may be new
  new_spliced : (at : ℕ) (part : NodeTrees) (outputs : List Origin) (ns : NodeTrees) →
      new_among (nodes_ids (nodes_spliced at part outputs ns)) ≤ new_among (nodes_ids part) + new_among (nodes_ids ns)
  new_spliced at part outputs no_nodes = omega arith
  new_spliced at part outputs (node_then x ns) = by (id_of x == at) (new_spliced at part outputs ns)
    where
      by : (t : Bool) → new_among (nodes_ids (nodes_spliced at part outputs ns)) ≤ new_among (nodes_ids part) + new_among (nodes_ids ns) →
          new_among (nodes_ids (if t then joined_nodes part (nodes_redirected (outputs_to_results at outputs) ns) else node_then x (nodes_spliced at part outputs ns)))
          ≤ new_among (nodes_ids part) + new_among (nodes_ids (node_then x ns))
      by true h =
          omega (
            arith,
            ap new_among (nodes_ids-joined part (nodes_redirected (outputs_to_results at outputs) ns)),
            new_append (nodes_ids part) (nodes_ids (nodes_redirected (outputs_to_results at outputs) ns)),
            ap new_among (nodes_ids-redirected (outputs_to_results at outputs) ns),
            new_append (node_ids x) (nodes_ids ns),
          )
      by false h = omega (arith, h, new_append (node_ids x) (nodes_ids (nodes_spliced at part outputs ns)), new_append (node_ids x) (nodes_ids ns))

-- ---- the change

-- so many new numbers come at most, and there are that many
record Comes (next : ℕ) (before after : List ℕ) : Type 0 where
  more : ℕ
  count : new_among next after ≤ new_among next before + more
  room : next + more < 4294967296

-- a part with so many nodes
record HasCount (next : ℕ) (part : RegionTree) : Type 0 where
  parts : Parts
  count : node_count part ≡ new_nodes parts
  room : next + new_nodes parts < 4294967296

part_fits : (values next : ℕ) (x : NodeTree) (part : RegionTree) → in_place values next x ≡ Some part → HasCount next part
part_fits values next (node id Theta inputs (region_then r no_regions)) part e = by (parts_of r) e
  where
    by : (found : Option Parts) →
        option_and_then (λ p. cond (may_invert values next r p) (Some (region_redirected (args_to_inputs inputs) (inverted next p))) None) found ≡ Some part → HasCount next part
    by None f = absurd cc
    by (Some p) f =
        let c = cond_some (may_invert values next r p) (region_redirected (args_to_inputs inputs) (inverted next p)) part f in
        record {
          parts = p;
          count = ap node_count (sym c.1) ∙ (ap length (region_ids-redirected (args_to_inputs inputs) (inverted next p)) ∙ inverted_count next p);
          room = has_room (next + new_nodes p)
              (and_parts (can_count r p) (nat_le (next + new_nodes p) (2 ^ 32 - 1))
              (and_parts (can_count r p && nat_le (next + new_nodes p) (2 ^ 32 - 1)) (may_change_size values (growth p) (loop_values r)) c.0).0).1;
        }
part_fits values next (node id Theta inputs no_regions) part e = absurd cc
part_fits values next (node id Theta inputs (region_then r (region_then t rs))) part e = absurd cc
part_fits values next (node id _ inputs rs) part e = absurd cc

region_comes : (next n : ℕ) (part : RegionTree) → HasCount next part → (args : List Kind) (nodes : NodeTrees) (results : List Origin) →
    Comes next (nodes_ids nodes) (region_ids (region_spliced n part (region args nodes results)))
region_comes next n (region own ns gets) has args nodes results =
    record {
      more = new_nodes has.parts;
      count = omega (arith, new_spliced next n ns gets nodes, count_by-le-length (λ m. nat_le next m) (nodes_ids ns), has.count);
      room = has.room;
    }

here_comes : (values next n : ℕ) (r s : RegionTree) → invert_here values next n r ≡ Some s → Comes next (region_ids r) (region_ids s)
here_comes values next n (region args nodes results) s e = by (node_at n nodes) e
  where
    by_node : (x : NodeTree) (o : Option RegionTree) → in_place values next x ≡ o → option_map (λ part. region_spliced n part (region args nodes results)) o ≡ Some s →
        Comes next (nodes_ids nodes) (region_ids s)
    by_node x None c f = absurd cc
    by_node x (Some part) c f =
        subst (λ t. Comes next (nodes_ids nodes) (region_ids t)) (same_Some (region_spliced n part (region args nodes results)) s f)
        (region_comes next n part (part_fits values next x part c) args nodes results)

    by : (o : Option NodeTree) → option_map (λ part. region_spliced n part (region args nodes results)) (option_and_then (in_place values next) o) ≡ Some s →
        Comes next (nodes_ids nodes) (region_ids s)
    by None f = absurd cc
    by (Some x) f = by_node x (in_place values next x) refl f

pub inverted_next : (n : ℕ) (l : PlainLambda) → IsWellFormed l → (s : RegionTree) → body_inverted n l ≡ Some s → (lambda_inverted n l).next < 4294967296
inverted_next n l w s e =
    let x = region_changed_ids (length l.objects) (invert_here (lambda_values l) l.next n) l.body s e (body_inside l w) in
    let own = here_comes (lambda_values l) l.next n x.old x.new x.here in
    let below = (and_parts (distinct (region_ids l.body)) _ (and_parts _ (numbers_fit l) (and_parts _ _ (and_parts _ _ w).0).0).1).1 in
    let room : l.next + new_among l.next (region_ids s) < 4294967296
    = omega (
      arith,
      own.count,
      own.room,
      none_new l.next (region_ids l.body) below,
      ap (new_among l.next) x.old_ids,
      ap (new_among l.next) x.new_ids,
      new_append l.next (x.before ++ region_ids x.old) x.after,
      new_append l.next (x.before ++ region_ids x.new) x.after,
      new_append l.next x.before (region_ids x.old),
      new_append l.next x.before (region_ids x.new),
    ) in
    subst (λ o. (unwrap_or (option_map (with_body l) o) l).next < 4294967296) (sym e) room
