-- There are numbers for the nodes that unrolling makes.
use Rattle.std.specs.Prelude.{nat_le, not, option_map, option_and_then, unwrap_or, if◌then◌else◌}
use Rattle.std.proofs.Common.{◌≡◌, ◌≤◌, ◌<◌, ◌+◌, ◌-◌, ◌^◌, ◌==◌, ◌&&◌, ℕ, Bool, true, false, List, [], ◌++◌, length, length-append, Option, None, Some, refl, sym, ap, subst, arith}
use Rattle.std.proofs.lemmas.Bool.{and_parts}
use Rattle.std.proofs.lemmas.List.{length-map}
use Rattle.std.proofs.lemmas.Option.{cond_some, same_Some}
use Rattle.base.specs.Limits.{most_loop_values}
use Rattle.g_graph.specs.declared.op.Op.TheVariants.{Theta}
use Rattle.g_graph.specs.declared.op.Origin.{Origin}
use Rattle.g_graph.specs.Plain.{RegionTree, region, NodeTree, node, NodeTrees, no_nodes, node_then, no_regions, region_then, id_of, PlainLambda}
use Rattle.g_graph.specs.Ids.{region_ids, node_ids, nodes_ids}
use Rattle.g_graph.specs.Count.{region_values}
use Rattle.g_graph.specs.Nodes.{node_at, node_set}
use Rattle.g_graph.specs.Program.{lambda_values}
use Rattle.g_graph.specs.WellFormed.{IsWellFormed}
use Rattle.g_graph.proofs.lemmas.Nests.{region_changed_ids}
use Rattle.g_graph.proofs.lemmas.Splices.{nodes_ids-joined}
use Rattle.r_edit.specs.Size.{may_change_size}
use Rattle.r_edit.proofs.lemmas.Loops.{loop_node}
use Rattle.r_edit.specs.Numbering.{node_count, number_from, region_numbered}
use Rattle.r_edit.proofs.lemmas.Numbering.{copied-ids}
use Rattle.r_unroll.specs.Rule.{region_loops, second_turn_of, unrolled, growth, may_unroll, node_unrolled, unroll_here, body_unrolled, with_body, lambda_unrolled}
use Rattle.g_pass.proofs.Sized.{body_inside}
use Rattle.g_pass.proofs.Pulled.{has_room}

-- ---- how many nodes there are

set_count : (n : ℕ) (x y : NodeTree) (ns : NodeTrees) → node_at n ns ≡ Some x →
    length (nodes_ids (node_set n y ns)) + length (node_ids x) ≡ length (nodes_ids ns) + length (node_ids y)
set_count n x y no_nodes e = absurd cc
set_count n x y (node_then z ns) e = by (id_of z == n) e (set_count n x y ns)
  where
    by : (t : Bool) → (if t then Some z else node_at n ns) ≡ Some x →
        (node_at n ns ≡ Some x → length (nodes_ids (node_set n y ns)) + length (node_ids x) ≡ length (nodes_ids ns) + length (node_ids y)) →
        length (nodes_ids (if t then node_then y ns else node_then z (node_set n y ns))) + length (node_ids x) ≡ length (nodes_ids (node_then z ns)) + length (node_ids y)
    by true e h =
        omega (
          arith,
          ap (λ w. length (node_ids w)) (same_Some z x e),
          length-append (node_ids y) (nodes_ids ns),
          length-append (node_ids z) (nodes_ids ns),
        )
    by false e h = omega (arith, h e, length-append (node_ids z) (nodes_ids (node_set n y ns)), length-append (node_ids z) (nodes_ids ns))

turn_count : (next : ℕ) (r : RegionTree) → length (node_ids (second_turn_of next r)) ≡ 2 + node_count r
turn_count next (region args nodes results) =
    let r = region args nodes results in
    omega (
      arith,
      length-append (region_ids (region_numbered (next + 2) r)) [],
      ap length (copied-ids (number_from (next + 2) (region_ids r)) r),
      length-map (region_ids r) (number_from (next + 2) (region_ids r)),
    )

unrolled_count : (next : ℕ) (r : RegionTree) → node_count (unrolled next r) ≡ node_count r + (2 + node_count r)
unrolled_count next (region args nodes results) =
    let last = second_turn_of next (region args nodes results) in
    omega (
      arith,
      turn_count next (region args nodes results),
      ap length (nodes_ids-joined nodes (node_then last no_nodes)),
      length-append (nodes_ids nodes) (node_ids last ++ []),
      length-append (node_ids last) [],
    )

loop_count : (id : ℕ) (inputs : List Origin) (r : RegionTree) → length (node_ids (loop_node id inputs r)) ≡ 1 + node_count r
loop_count id inputs r = omega (arith, length-append (region_ids r) [])

-- ---- the change

-- so many nodes come at most, and there are numbers for them
record Comes (next before after : ℕ) : Type 0 where
  more : ℕ
  count : after ≤ before + more
  room : next + more < 4294967296

node_comes : (values next : ℕ) (x y : NodeTree) → node_unrolled values next x ≡ Some y → Comes next (length (node_ids x)) (length (node_ids y))
node_comes values next (node id Theta inputs (region_then r no_regions)) y e =
    let c = cond_some (may_unroll values next r) (loop_node id inputs (unrolled next r)) y e in
    let numbers : nat_le (next + 2 + node_count r) (2 ^ 32 - 1) ≡ true
    = (and_parts _ _
    (and_parts (nat_le (region_values r) most_loop_values && not (region_loops r) && nat_le (next + 2 + node_count r) (2 ^ 32 - 1)) (may_change_size values (growth r) 0) c.0).0).1 in
    record {
      more = 2 + node_count r;
      count =
          omega (arith, ap (λ w. length (node_ids w)) (sym c.1), loop_count id inputs r, loop_count id inputs (unrolled next r), unrolled_count next r);
      room = let room = has_room (next + 2 + node_count r) numbers in omega (arith, room);
    }
node_comes values next (node id Theta inputs no_regions) y e = absurd cc
node_comes values next (node id Theta inputs (region_then r (region_then t rs))) y e = absurd cc
node_comes values next (node id _ inputs rs) y e = absurd cc

here_comes : (values next n : ℕ) (r s : RegionTree) → unroll_here values next n r ≡ Some s → Comes next (node_count r) (node_count s)
here_comes values next n (region args nodes results) s e = by (node_at n nodes) refl e
  where
    by_node : (x : NodeTree) → node_at n nodes ≡ Some x → (o : Option NodeTree) → node_unrolled values next x ≡ o →
        option_map (λ y. region args (node_set n y nodes) results) o ≡ Some s → Comes next (length (nodes_ids nodes)) (node_count s)
    by_node x d None c f = absurd cc
    by_node x d (Some y) c f =
        let own = node_comes values next x y c in
        let same = ap node_count (sym (same_Some (region args (node_set n y nodes) results) s f)) in
        record { more = own.more; count = omega (arith, own.count, same, set_count n x y nodes d); room = own.room }

    by : (o : Option NodeTree) → node_at n nodes ≡ o →
        option_map (λ y. region args (node_set n y nodes) results) (option_and_then (node_unrolled values next) o) ≡ Some s → Comes next (length (nodes_ids nodes)) (node_count s)
    by None d f = absurd cc
    by (Some x) d f = by_node x d (node_unrolled values next x) refl f

pub unrolled_next : (n : ℕ) (l : PlainLambda) → IsWellFormed l → (s : RegionTree) → body_unrolled n l ≡ Some s → (lambda_unrolled n l).next < 4294967296
unrolled_next n l w s e =
    let x = region_changed_ids (length l.objects) (unroll_here (lambda_values l) l.next n) l.body s e (body_inside l w) in
    let own = here_comes (lambda_values l) l.next n x.old x.new x.here in
    let room : l.next + (node_count s - node_count l.body) < 4294967296
    = omega (
      arith,
      own.count,
      own.room,
      ap length x.old_ids,
      ap length x.new_ids,
      length-append (x.before ++ region_ids x.old) x.after,
      length-append (x.before ++ region_ids x.new) x.after,
      length-append x.before (region_ids x.old),
      length-append x.before (region_ids x.new),
    ) in
    subst (λ o. (with_body l (unwrap_or o l.body)).next < 4294967296) (sym e) room
