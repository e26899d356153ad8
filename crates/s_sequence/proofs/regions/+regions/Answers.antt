use Rattle.std.proofs.Common.{◌≡◌, ◌<◌, ℕ, suc, ◌+◌, ◌-◌, List, [], ◌∷◌, ◌++◌, map, length, take, drop, ap, sym, subst, ◌∙◌, arith, append_assoc, add-one, drop-cons, drop_of_length-le}
use Rattle.std.specs.Prelude.{◌==◌, if◌then◌else◌, slice_get}
use Rattle.std.proofs.lemmas.Result.{IfOk-weaker, on_ok_weaker}
use Rattle.std.specs.declared.option.Option.TheVariants.{Some}
use Rattle.g_graph.specs.declared.op.Kind.{Kind}
use Rattle.g_graph.specs.declared.op.Origin.{Origin}
use Rattle.g_graph.specs.declared.op.Origin.TheVariants.{Out}
use Rattle.g_graph.specs.declared.op.Op.{Op}
use Rattle.g_graph.specs.declared.op.Op.TheVariants.{Gamma, Theta}
use Rattle.g_graph.specs.Plain.{RegionTree, RegionTrees, NodeTree, node, NodeTrees, node_then, no_regions, region_then, nodes_of, regions_of, args_of, nodes_in, id_of, results_of}
use Rattle.g_graph.specs.Signatures.{result_kinds, kind_after}
use Rattle.g_graph.specs.Count.{regions_values, nodes_values}
use Rattle.g_graph.proofs.lemmas.Listed.{count_is}
use Rattle.s_linear.specs.Linear.{Code}
use Rattle.s_linear.specs.Lines.{Line, done, jump, label, code_lines, branch_zero, branch_not_zero}
use Rattle.val_core.specs.Numbers.{numbers_from}
use Rattle.s_sequence.specs.Sequence.{values_in, value_args, kept, moves, region_names, regions_names, node_names, nodes_names, nodes_named, nodes_code, branch_code, outputs_at, loop_results, predicate_name}
use Rattle.s_sequence.specs.Ports.{PlainPorts, ports_from, port_at}
use Rattle.s_sequence.specs.declared.scope.Scope.{Scope}
use Rattle.s_sequence.specs.Scope.{port_in, name_in, kind_in, names_in}
use Rattle.s_sequence.specs.Shape.{NodeShaped, NodesShaped, RegionsShaped}
use Rattle.s_sequence.specs.Writer.{PlainWriter, with_lines}
use Rattle.s_sequence.specs.Written.{region_code, region_port, region_labels, regions_labels, node_labels, nodes_labels, node_ports, StepWritten, branch_lines, other_lines, others_lines, cases_lines}
use Rattle.s_sequence.proofs.lemmas.Named.{node_names_values, names_values}
use Rattle.s_sequence.proofs.PortLemmas.{ports_first, ports_end}
use Rattle.s_sequence.proofs.CodeLemmas.{kinds_written, branch_written, entered_written, loop_written}
use Rattle.s_sequence.proofs.RoomLemmas.{args_room, loop_room, exits_room, value_each, standing_room, second}
use Rattle.s_sequence.proofs.NodeLemmas.{region_ports, names_after, kind_known, lines_after, begin_code, begin_names, begin_kinds, region_names_are, region_labels_are, region_values_are, region_shaped}
use Rattle.s_sequence.proofs.StepLemmas.{gamma_written, theta_written, plain_written, only_region, plain_node, plain_names, plain_labels, plain_ports}
use Rattle.s_sequence.proofs.ChoiceLemmas.{two_written, many_written, cases_written, parts_shaped, names_are, labels_are, values_are, lengths_are, outputs_begin, outputs_are}
use Rattle.s_sequence.proofs.regions.+regions.Goals as goal

abbrev lines_of : PlainWriter → List Line
lines_of w = w.lines

abbrev next_of : PlainWriter → ℕ
next_of w = w.next

abbrev label_of : PlainWriter → ℕ
label_of w = w.label

-- what a scope says that is equal to another
seen : (s t : Scope) (r : RegionTree) (base : ℕ) → s ≡ t → ((o : Origin) → port_in t o ≡ region_port base r o) → (o : Origin) → port_in s o ≡ region_port base r o
seen s t r base e h o = ap (λ x. port_in x o) e ∙ h o

-- ---- a region's nodes

pub write_nodes-ports_of-requires : goal.write_nodes-ports_of-requires
write_nodes-ports_of-requires t c =
    let e : c.deref.result.now ≡ args_of c.args.region.now = c.deref.ensures.value ∙ ap args_of c.region.view_is in
    omega (arith, ap value_args e, args_room c.args.region.now, ap next_of c.w.view_is, c.requires.room.for_names)

pub write_nodes-loop-node-init : goal.write_nodes-loop-node-init
write_nodes-loop-node-init t c =
    let r = c.args.region.now in
    let scope = c.new-scope.result in
    let base = c.args.w.now.next in
    let e : c.deref.result.now ≡ args_of r = c.deref.ensures.value ∙ ap args_of c.region.view_is in
    let ns : nodes_of c.deref-node-items.result.now ≡ nodes_in r = ap nodes_of c.deref-node-items.ensures.value ∙ ap nodes_in c.region.view_is in
    let here : c.w.inside.next ≡ base = ap next_of c.w.view_is in
    let args : c.in_ok-args.args ≡ ports_from base (map Some (args_of r)) =
    c.in_ok-args.ensures ∙ ap (λ n. ports_from n (map Some c.deref.result.now)) here ∙ ap (λ ks. ports_from base (map Some ks)) e in
    let next : c.args-2.inside.end ≡ base + value_args (args_of r) = ap (λ (p : PlainPorts). p.end) c.args-2.view_is
    ∙ ports_end c.in_ok-args.args base (map Some (args_of r)) args in
    record {
      lines = λ k. ap (λ (w : PlainWriter). w.lines ++ code_lines w.label
          (nodes_code (args_of r) base (names_in scope) c.args-2.inside.end (nodes_of c.deref-node-items.result.now) k)) c.w.view_is
          ∙ ap (λ z. c.args.w.now.lines ++ code_lines c.args.w.now.label z) (begin_code scope c.new-scope.ensures.outputs r _ ns base c.args-2.inside.end next k);
      next = omega (arith, next, region_names_are r _ ns);
      label = omega (arith, ap label_of c.w.view_is, region_labels_are r _ ns);
      args = c.new-scope.ensures.args ∙ args;
      names = begin_names scope c.new-scope.ensures.outputs r _ ns base c.args-2.inside.end next;
      kinds = begin_kinds scope c.new-scope.ensures.outputs r _ ns base;
      shaped = region_shaped r _ ns c.requires.shaped;
      names_left = omega (arith, next, region_values_are r _ ns, c.requires.room.for_names);
      labels_left = omega (arith, ap label_of c.w.view_is, region_labels_are r _ ns, c.requires.room.for_labels);
      nearer = omega (arith, region_values_are r _ ns);
    }

pub write_nodes-loop-node-preserved : goal.write_nodes-loop-node-preserved
write_nodes-loop-node-preserved t c =
    let x = c.node-item.result in
    let scope = c.loop-node.scope in
    let after = c.add.new.self in
    let items = c.deref-node-items.result.now in
    let i = c.loop-node.node-index in
    let inv = c.loop-node.invariant in
    let n0 = c.loop-node.w.next in
    let n1 = c.write_step.new.w.next in
    let args = args_of c.args.region.now in
    let base = c.args.w.now.next in
    let given = c.in_ok-outputs.ensures in
    let ns : NodeTrees = nodes_of (drop (i + 1) items) in
    let test : i < length items = c.loop-node-test.true in
    let here : drop i items ≡ x ∷ drop (i + 1) items = rw (add-one, drop-cons items i x) (ap (λ y. y ∷ drop (suc i) items) (sym c.node-item.is)) in
    let more : nodes_of (drop i items) ≡ node_then x ns = ap nodes_of here in
    let shaped : NodesShaped (node_then x ns) = subst NodesShaped more inv.shaped in
    let outputs : (n p : ℕ) → port_in after (Out n p) ≡ (if n == id_of x then port_at (node_ports n0 x) p else port_in scope (Out n p)) = λ n p.
    c.in_ok-add.ensures.outputs n p ∙ ap (λ j. if n == j then port_at c.in_ok-outputs.outputs p else port_in scope (Out n p)) (ap id_of c.node.view_is)
    ∙ ap (λ o. if n == id_of x then port_at o p else port_in scope (Out n p)) given.outputs in
    record {
      lines = λ k. lines_after x scope after n0 outputs args base ns c.loop-node.w.lines c.write_step.new.w.lines c.loop-node.w.label c.write_step.new.w.label n1 shaped.0
          (given.lines args base inv.args) given.label given.next k
          ∙ ap (λ zs. c.loop-node.w.lines ++ code_lines c.loop-node.w.label (nodes_code args base (names_in scope) n0 zs k)) (sym more) ∙ inv.lines k;
      next = omega (arith, given.next, ap nodes_names more, inv.next);
      label = omega (arith, given.label, ap nodes_labels more, inv.label);
      args = c.in_ok-add.ensures.args ∙ inv.args;
      names = λ n p. ap (λ m. nodes_named ns m (names_in after) n p) given.next
          ∙ ap (λ names. nodes_named ns (n0 + node_names x) names n p) (names_after x scope after n0 outputs)
          ∙ ap (λ zs. nodes_named zs n0 (names_in scope) n p) (sym more) ∙ inv.names n p;
      kinds = λ n p. ap (kind_after ns n p) (kind_known x scope after n0 outputs n p) ∙ ap (λ zs. kind_after zs n p (kind_in scope (Out n p))) (sym more) ∙ inv.kinds n p;
      shaped = shaped.1;
      names_left = omega (arith, given.next, ap nodes_values more, node_names_values x, inv.names_left);
      labels_left = omega (arith, given.label, ap nodes_labels more, inv.labels_left);
      nearer = omega (arith, ap nodes_values more, inv.nearer);
    }

pub write_nodes-returns-clause-scope : goal.write_nodes-returns-clause-scope
write_nodes-returns-clause-scope t c =
    let scope = c.loop-node.scope in
    let items = c.deref-node-items.result.now in
    let inv = c.loop-node.invariant in
    let none : drop c.loop-node.node-index items ≡ [] = drop_of_length-le items c.loop-node-test.false in
    seen c.in_ok-new.field-0.value scope c.args.region.now c.args.w.now.next c.in_ok-new.ensures.ok
    (region_ports c.args.region.now scope c.args.w.now.next inv.args
    (λ n p. ap (λ zs. nodes_named (nodes_of zs) c.loop-node.w.next (names_in scope) n p) (sym none) ∙ inv.names n p)
    (λ n p. ap (λ zs. kind_after (nodes_of zs) n p (kind_in scope (Out n p))) (sym none) ∙ inv.kinds n p))

-- ---- branches

pub write_entered-write_moves-requires : goal.write_entered-write_moves-requires
write_entered-write_moves-requires t c =
    let e : c.deref.result.now ≡ args_of c.args.region.now = c.deref.ensures.value ∙ ap args_of c.region.view_is in
    omega (arith, ap value_args e, args_room c.args.region.now, ap next_of c.w.view_is, c.requires.room.for_names)

pub write_entered-returns-clause-lines : goal.write_entered-returns-clause-lines
write_entered-returns-clause-lines t c =
    let r = c.args.region.now in
    let e : c.deref.result.now ≡ args_of r = c.deref.ensures.value ∙ ap args_of c.region.view_is in
    let w = c.args.w.now in
    let moved = c.in_ok-write_moves.ensures in
    let lines : c.write_moves.new.w.lines ≡ w.lines ++ map done (moves w.next (kept (map Some c.deref.result.now) c.args.entries.now)) =
    ap lines_of moved ∙ ap (λ n. w.lines ++ map done (moves n (kept (map Some c.deref.result.now) c.args.entries.now))) (ap next_of c.w.view_is) in
    on_ok_weaker c.write_nodes.result
    (λ h k. h k ∙ ap (λ (v : PlainWriter). c.write_moves.new.w.lines ++ code_lines v.label (region_code v.next r k)) moved
    ∙ entered_written r c.deref.result.now e c.args.entries.now w.next w.label w.lines c.write_moves.new.w.lines lines k) c.write_nodes.ensures.lines

pub write_first-write_exits-requires : goal.write_first-write_exits-requires
write_first-write_exits-requires t c =
    let r = c.args.region.now in
    let e : c.deref.result.now ≡ results_of r = c.deref.ensures.value ∙ ap results_of c.region.view_is in
    let n : c.w.inside.next ≡ c.args.w.now.next + region_names r = ap next_of c.w.view_is ∙ c.in_ok-boxed.ensures.next in
    omega (arith, n, exits_room r c.deref.result.now (kind_in c.as_ref-scope.result.now) e, c.requires.room.for_names)

pub write_first-returns-clause-lines : goal.write_first-returns-clause-lines
write_first-returns-clause-lines t c =
    let r = c.args.region.now in
    let w = c.args.w.now in
    let scope = c.as_ref-scope.result.now in
    let results = c.deref.result.now in
    let e : results ≡ results_of r = c.deref.ensures.value ∙ ap results_of c.region.view_is in
    let n : c.w.inside.next ≡ w.next + region_names r = ap next_of c.w.view_is ∙ c.in_ok-boxed.ensures.next in
    ap lines_of c.w-2.view_is
    ∙ branch_written w.next scope r results e (seen _ _ r _ c.as_ref-scope.ensures c.in_ok-boxed.ensures.scope) c.args.entries.now (w.next + region_names r) w.label c.write_entered.new.w.label w.lines
    c.write_entered.new.w.lines
    c.write_exits.new.w.lines
    c.in_ok-boxed.ensures.lines
    (ap lines_of c.in_ok-outputs.ensures.lines ∙ ap (λ m. lines_of
    (with_lines c.write_entered.new.w (map done (moves m (kept (map (kind_in scope) results) (map (name_in scope) results)))))) n)

pub write_first-returns-clause-next : goal.write_first-returns-clause-next
write_first-returns-clause-next t c =
    let r = c.args.region.now in
    let scope = c.as_ref-scope.result.now in
    let results = c.deref.result.now in
    let e : results ≡ results_of r = c.deref.ensures.value ∙ ap results_of c.region.view_is in
    let n : c.w.inside.next ≡ c.args.w.now.next + region_names r = ap next_of c.w.view_is ∙ c.in_ok-boxed.ensures.next in
    let kinds = kinds_written c.args.w.now.next scope r results e (seen _ _ r _ c.as_ref-scope.ensures c.in_ok-boxed.ensures.scope) in
    omega (
      arith,
      ap (λ (p : PlainPorts). p.end) c.outputs.view_is,
      ports_end c.in_ok-outputs.outputs c.w.inside.next (map (kind_in scope) results) c.in_ok-outputs.ensures.outputs,
      n,
      ap values_in kinds,
    )

pub write_other-write_exits-requires : goal.write_other-write_exits-requires
write_other-write_exits-requires t c =
    let r = c.args.region.now in
    let e : c.deref.result.now ≡ results_of r = c.deref.ensures.value ∙ ap results_of c.region.view_is in
    omega (arith, exits_room r c.deref.result.now (kind_in c.as_ref-scope.result.now) e, c.requires.room.for_names, c.requires.outputs)

pub write_other-returns-clause-lines : goal.write_other-returns-clause-lines
write_other-returns-clause-lines t c =
    let r = c.args.region.now in
    let w = c.args.w.now in
    let two = c.push-2.new.self in
    let scope = c.as_ref-scope.result.now in
    let results = c.deref.result.now in
    let e : results ≡ results_of r = c.deref.ensures.value ∙ ap results_of c.region.view_is in
    let heads : two ≡ with_lines (with_lines w (jump c.args.end ∷ [])) (label c.args.label ∷ []) =
    c.in_ok-push-2.ensures ∙ ap (λ v. with_lines v (label c.args.label ∷ [])) c.in_ok-push.ensures in
    branch_written two.next scope r results e (seen _ _ r _ c.as_ref-scope.ensures c.in_ok-boxed.ensures.scope) c.args.entries.now c.args.outputs two.label c.write_entered.new.w.label two.lines
    c.write_entered.new.w.lines
    c.write_exits.new.w.lines
    c.in_ok-boxed.ensures.lines (ap lines_of c.in_ok-write_exits.ensures.lines)
    ∙ ap (λ (v : PlainWriter). v.lines ++ code_lines v.label (branch_code c.args.entries.now c.args.outputs v.next r)) heads
    ∙ append_assoc (w.lines ++ jump c.args.end ∷ []) (label c.args.label ∷ []) (code_lines w.label (branch_code c.args.entries.now c.args.outputs w.next r))
    ∙ append_assoc w.lines (jump c.args.end ∷ []) (label c.args.label ∷ code_lines w.label (branch_code c.args.entries.now c.args.outputs w.next r))

pub write_others-write_other-requires : goal.write_others-write_other-requires
write_others-write_other-requires t c =
    let x = c.index-others-i.result in
    let others = c.args.others.now in
    let i = c.loop-i.i in
    let inv = c.loop-i.invariant in
    let test : i < length others = c.loop-i-test.true in
    let here : drop i others ≡ x ∷ drop (i + 1) others = rw (add-one, drop-cons others i x) (ap (λ y. y ∷ drop (suc i) others) (sym c.index-others-i.is)) in
    let more : regions_of (drop i others) ≡ region_then x (regions_of (drop (i + 1) others)) = ap regions_of here in
    let shaped : RegionsShaped (region_then x (regions_of (drop (i + 1) others))) = subst RegionsShaped more inv.shaped in (
      omega (arith, c.decreases, ap regions_values more, inv.nearer),
      (
        shaped.0,
        (
          record { for_names = omega (arith, ap regions_values more, inv.names_left); for_labels = omega (arith, ap regions_labels more, inv.labels_left) },
          omega (arith, c.requires.outputs, inv.later),
        ),
      ),
    )

pub write_others-loop-i-preserved : goal.write_others-loop-i-preserved
write_others-loop-i-preserved t c =
    let x = c.index-others-i.result in
    let others = c.args.others.now in
    let entries = c.args.entries.now in
    let i = c.loop-i.i in
    let inv = c.loop-i.invariant in
    let old = c.loop-i.w in
    let new = c.write_other.new.w in
    let given = c.in_ok-write_other.ensures in
    let rest : RegionTrees = regions_of (drop (i + 1) others) in
    let test : i < length others = c.loop-i-test.true in
    let here : drop i others ≡ x ∷ drop (i + 1) others = rw (add-one, drop-cons others i x) (ap (λ y. y ∷ drop (suc i) others) (sym c.index-others-i.is)) in
    let more : regions_of (drop i others) ≡ region_then x rest = ap regions_of here in
    let shaped : RegionsShaped (region_then x rest) = subst RegionsShaped more inv.shaped in
    let own : List Line = other_lines entries c.args.outputs (c.args.first + i) c.args.end old.label old.next x in
    let label_is : c.args.first + (i + 1) ≡ suc (c.args.first + i) = omega arith in
    let tail : ℕ → ℕ → ℕ → List Line = λ f k n. others_lines entries c.args.outputs f c.args.end k n rest in
    record {
      lines = ap (λ ls. ls ++ tail (c.args.first + (i + 1)) new.label new.next) given.lines
          ∙ append_assoc old.lines own (tail (c.args.first + (i + 1)) new.label new.next)
          ∙ ap (λ m. old.lines ++ (own ++ tail m new.label new.next)) label_is
          ∙ ap (λ m. old.lines ++ (own ++ tail (suc (c.args.first + i)) m new.next)) given.label
          ∙ ap (λ m. old.lines ++ (own ++ tail (suc (c.args.first + i)) (old.label + region_labels x) m)) given.next
          ∙ ap (λ rs. old.lines ++ others_lines entries c.args.outputs (c.args.first + i) c.args.end old.label old.next rs) (sym more) ∙ inv.lines;
      next = omega (arith, given.next, ap regions_names more, inv.next);
      label = omega (arith, given.label, ap regions_labels more, inv.label);
      later = omega (arith, given.next, inv.later);
      shaped = shaped.1;
      names_left = omega (arith, given.next, ap regions_values more, names_values x, inv.names_left);
      labels_left = omega (arith, given.label, ap regions_labels more, inv.labels_left);
      nearer = omega (arith, ap regions_values more, inv.nearer);
    }

-- ---- choices

pub write_cases-write_others-requires : goal.write_cases-write_others-requires
write_cases-write_others-requires t c =
    let r = c.args.standing.now in
    let given = c.in_ok-outputs.ensures in
    let first : c.outputs.inside.first ≡ c.args.w.now.next + region_names r =
    ap (λ (p : PlainPorts). p.first) c.outputs.view_is ∙ ports_first c.in_ok-outputs.outputs (c.args.w.now.next + region_names r) (result_kinds r) given.outputs in (
      omega (arith, c.decreases, value_each r),
      (
        c.requires.shaped.1,
        (
          record {
            for_names = omega (arith, given.next, standing_room r, c.requires.room.for_names);
            for_labels = omega (arith, given.label, c.requires.room.for_labels);
          },
          (c.requires.labels, omega (arith, first, given.next)),
        ),
      ),
    )

pub write_cases-returns-clause-lines : goal.write_cases-returns-clause-lines
write_cases-returns-clause-lines t c =
    let r = c.args.standing.now in
    let w = c.args.w.now in
    let given = c.in_ok-outputs.ensures in
    let first : c.outputs.inside.first ≡ w.next + region_names r =
    ap (λ (p : PlainPorts). p.first) c.outputs.view_is ∙ ports_first c.in_ok-outputs.outputs (w.next + region_names r) (result_kinds r) given.outputs in
    let end = c.args.first + length c.args.others.now in
    cases_written c.args.entries.now c.args.first w.label w.next (values_in (result_kinds r)) r (regions_of c.args.others.now) w.lines c.write_first.new.w.lines
    c.write_others.new.w.lines
    c.push.new.self.lines
    c.outputs.inside.first c.write_first.new.w.label c.write_first.new.w.next end first given.label given.next
    (ap (λ n. c.args.first + n) (sym (count_is c.args.others.now))) given.lines
    c.in_ok-write_others.ensures.lines (ap lines_of c.in_ok-push.ensures)

pub write_choice-overflow_cast-count : goal.write_choice-overflow_cast-count
write_choice-overflow_cast-count t c = omega (arith, count_is c.args.regions.now, c.requires.room.for_labels)

pub write_choice-overflow_add-w : goal.write_choice-overflow_add-w
write_choice-overflow_add-w t c = omega (arith, count_is c.args.regions.now, c.requires.room.for_labels, ap label_of c.w.view_is)

pub write_choice-returns-then-regions-eq2-clause-lines : goal.write_choice-returns-then-regions-eq2-clause-lines
write_choice-returns-then-regions-eq2-clause-lines t c =
    let xs = c.args.regions.now in
    let ys = take (length xs - 1) (drop 1 xs) in
    let r = c.index-regions-0.result in
    let w = c.args.w.now in
    let two = second xs r c.if-regions-eq2.true c.index-regions-0.is in
    let shaped = subst RegionsShaped (ap regions_of two.1) c.requires.shaped in
    let label : c.w.inside.label ≡ w.label = ap label_of c.w.view_is in
    let pushed = c.in_ok-push.ensures in
    let heads : c.push.new.self.lines ≡ w.lines ++ branch_not_zero c.args.predicate w.label ∷ [] =
    ap lines_of pushed ∙ ap (λ (v : PlainWriter). v.lines ++ branch_not_zero c.args.predicate v.label ∷ []) c.w.view_is in
    on_ok_weaker c.write_cases.result
    (λ h. two_written xs ys r two.0 two.1 two.2 shaped.0 c.args.entries.now c.args.predicate w.label w.next w.lines c.push.new.self.lines c.write_cases.new.w.lines
    c.push.new.self.label
    c.push.new.self.next
    (ap label_of pushed ∙ ap (λ n. n + length xs) label) (ap next_of pushed ∙ ap next_of c.w.view_is) heads
    (h ∙ ap (λ m. c.push.new.self.lines ++ cases_lines c.args.entries.now m c.push.new.self.label c.push.new.self.next r (values_in (result_kinds r)) (regions_of ys))
    label))
    c.write_cases.ensures.lines

pub write_choice-write_branches-requires : goal.write_choice-write_branches-requires
write_choice-write_branches-requires t c = omega (arith, count_is c.args.regions.now, c.requires.room.for_labels, ap label_of c.w.view_is)

pub write_choice-write_cases-requires-in-Some : goal.write_choice-write_cases-requires-in-Some
write_choice-write_cases-requires-in-Some t c =
    let xs = c.args.regions.now in
    let ys = c.in-Some.others.now in
    let l = c.in-Some.last.now in
    let parts = c.in-Some.ensures.cases.0 in
    let other = c.if-regions-eq2.false in
    let pushed = c.in_ok-write_branches-in-Some.ensures in
    let next = ap next_of pushed ∙ ap next_of c.w.view_is in
    let label = ap label_of pushed ∙ ap (λ n. n + length xs) (ap label_of c.w.view_is) in (
      omega (arith, c.decreases, values_are xs ys l parts other),
      (
        parts_shaped xs ys l parts other c.requires.shaped,
        (
          record {
            for_names = omega (arith, next, values_are xs ys l parts other, c.requires.room.for_names);
            for_labels = omega (arith, label, count_is xs, labels_are xs ys l parts other, c.requires.room.for_labels);
          },
          omega (arith, count_is xs, lengths_are xs ys l parts other, ap label_of c.w.view_is, c.requires.room.for_labels),
        ),
      ),
    )

pub write_choice-returns-in_ok-write_branches-in-Some-clause-lines : goal.write_choice-returns-in_ok-write_branches-in-Some-clause-lines
write_choice-returns-in_ok-write_branches-in-Some-clause-lines t c =
    let xs = c.args.regions.now in
    let ys = c.in-Some.others.now in
    let l = c.in-Some.last.now in
    let w = c.args.w.now in
    let parts = c.in-Some.ensures.cases.0 in
    let other = c.if-regions-eq2.false in
    let pushed = c.in_ok-write_branches-in-Some.ensures in
    let mid = c.write_branches.new.w in
    let label : c.w.inside.label ≡ w.label = ap label_of c.w.view_is in
    let heads : mid.lines ≡ w.lines ++ branch_lines c.args.predicate 0 w.label (length xs - 1) =
    ap lines_of pushed ∙ ap (λ (v : PlainWriter). v.lines ++ branch_lines c.args.predicate 0 v.label (length xs - 1)) c.w.view_is in
    on_ok_weaker c.write_cases-in-Some.result
    (λ h. many_written xs ys l parts other c.args.entries.now c.args.predicate w.label w.next c.requires.shape c.requires.shaped w.lines mid.lines
    c.write_cases-in-Some.new.w.lines mid.label mid.next
    (ap label_of pushed ∙ ap (λ n. n + length xs) label) (ap next_of pushed ∙ ap next_of c.w.view_is) heads
    (h ∙ ap (λ m. mid.lines ++ cases_lines c.args.entries.now m mid.label mid.next l (values_in (result_kinds l)) (regions_of ys)) label))
    c.write_cases-in-Some.ensures.lines

pub write_choice-returns-in_ok-write_branches-in-Some-clause-next : goal.write_choice-returns-in_ok-write_branches-in-Some-clause-next
write_choice-returns-in_ok-write_branches-in-Some-clause-next t c =
    let xs = c.args.regions.now in
    let ys = c.in-Some.others.now in
    let l = c.in-Some.last.now in
    let parts = c.in-Some.ensures.cases.0 in
    let other = c.if-regions-eq2.false in
    let pushed = c.in_ok-write_branches-in-Some.ensures in
    let next = ap next_of pushed ∙ ap next_of c.w.view_is in
    on_ok_weaker c.write_cases-in-Some.result
    (λ h. omega (arith, h, next, names_are xs ys l parts other, ap values_in (outputs_are xs ys l parts other c.requires.shape))) c.write_cases-in-Some.ensures.next

pub write_choice-returns-in_ok-write_branches-in-Some-clause-label : goal.write_choice-returns-in_ok-write_branches-in-Some-clause-label
write_choice-returns-in_ok-write_branches-in-Some-clause-label t c =
    let xs = c.args.regions.now in
    let ys = c.in-Some.others.now in
    let l = c.in-Some.last.now in
    let parts = c.in-Some.ensures.cases.0 in
    let other = c.if-regions-eq2.false in
    let label = ap label_of c.in_ok-write_branches-in-Some.ensures ∙ ap (λ n. n + length xs) (ap label_of c.w.view_is) in
    on_ok_weaker c.write_cases-in-Some.result (λ h. omega (arith, h, label, count_is xs, labels_are xs ys l parts other)) c.write_cases-in-Some.ensures.label

pub write_choice-returns-in_ok-write_branches-in-Some-clause-outputs : goal.write_choice-returns-in_ok-write_branches-in-Some-clause-outputs
write_choice-returns-in_ok-write_branches-in-Some-clause-outputs t c =
    let xs = c.args.regions.now in
    let ys = c.in-Some.others.now in
    let l = c.in-Some.last.now in
    let w = c.args.w.now in
    let parts = c.in-Some.ensures.cases.0 in
    let other = c.if-regions-eq2.false in
    let next = ap next_of c.in_ok-write_branches-in-Some.ensures ∙ ap next_of c.w.view_is in
    IfOk-weaker c.write_cases-in-Some.result _ _
    (λ p h. h ∙ ap (λ n. ports_from (n + region_names l) (result_kinds l)) next ∙ ap (λ n. ports_from n (result_kinds l)) (sym (outputs_begin xs ys l parts other w.next))
    ∙ ap (ports_from (outputs_at w.next (regions_of xs))) (sym (outputs_are xs ys l parts other c.requires.shape))) c.write_cases-in-Some.ensures.outputs

-- ---- loops

pub write_loop-write_moves-requires : goal.write_loop-write_moves-requires
write_loop-write_moves-requires t c =
    let e : c.deref.result.now ≡ args_of c.args.region.now = c.deref.ensures.value ∙ ap args_of c.region.view_is in
    omega (arith, ap value_args e, args_room c.args.region.now, ap next_of c.w.view_is, c.requires.room.for_names)

pub write_loop-write_turn-requires-clause-names : goal.write_loop-write_turn-requires-clause-names
write_loop-write_turn-requires-clause-names t c =
    let r = c.args.region.now in
    let e : c.deref-3.result.now ≡ args_of r = c.deref-3.ensures.value ∙ ap args_of c.region.view_is in
    let next = ap next_of c.in_ok-push.ensures ∙ ap next_of c.in_ok-write_moves.ensures ∙ ap next_of c.w.view_is in
    omega (arith, c.in_ok-boxed.ensures.next, next, ap value_args e, loop_room r, names_values r, c.requires.room.for_names)

pub write_loop-write_turn-requires-clause-back : goal.write_loop-write_turn-requires-clause-back
write_loop-write_turn-requires-clause-back t c =
    let r = c.args.region.now in
    let e : c.deref-3.result.now ≡ args_of r = c.deref-3.ensures.value ∙ ap args_of c.region.view_is in
    omega (arith, ap value_args e, args_room r, ap next_of c.w.view_is, c.requires.room.for_names)

pub write_loop-returns-clause-lines : goal.write_loop-returns-clause-lines
write_loop-returns-clause-lines t c =
    let r = c.args.region.now in
    let w = c.args.w.now in
    let args = c.deref.result.now in
    let results = c.deref-2.result.now in
    let names = c.deref-4.result.now in
    let scope = c.as_ref-scope.result.now in
    let entries = c.args.entries.now in
    let a : args ≡ args_of r = c.deref.ensures.value ∙ ap args_of c.region.view_is in
    let b : results ≡ results_of r = c.deref-2.ensures.value ∙ ap results_of c.region.view_is in
    let d : names ≡ map (name_in scope) results = c.deref-4.ensures.value ∙ c.in_ok-results.ensures in
    let same : c.deref-3.result.now ≡ args = c.deref-3.ensures.value ∙ sym c.deref.ensures.value in
    let base : c.w.inside.next ≡ w.next = ap next_of c.w.view_is in
    let first : c.w.inside.label ≡ w.label = ap label_of c.w.view_is in
    let moved : c.write_moves.new.w.lines ≡ w.lines ++ map done (moves w.next (kept (map Some args) entries)) =
    ap lines_of c.in_ok-write_moves.ensures ∙ ap (λ (v : PlainWriter). v.lines ++ map done (moves v.next (kept (map Some args) entries))) c.w.view_is in
    let marked : c.push.new.self.lines ≡ c.write_moves.new.w.lines ++ label w.label ∷ [] =
    ap lines_of c.in_ok-push.ensures ∙ ap (λ n. c.write_moves.new.w.lines ++ label n ∷ []) first in
    let label_is : c.push.new.self.label ≡ w.label + 2 = ap label_of c.in_ok-push.ensures ∙ ap label_of c.in_ok-write_moves.ensures ∙ ap (λ n. n + 2) first in
    let next_is : c.push.new.self.next ≡ w.next = ap next_of c.in_ok-push.ensures ∙ ap next_of c.in_ok-write_moves.ensures ∙ base in
    let body : (k : Code) → c.write_nodes.new.w.lines ++ code_lines c.write_nodes.new.w.label k ≡ c.push.new.self.lines ++ code_lines (w.label + 2)
    (region_code w.next r k) = λ k.
    c.in_ok-boxed.ensures.lines k ∙ ap (λ m. c.push.new.self.lines ++ code_lines m (region_code c.push.new.self.next r k)) label_is
    ∙ ap (λ m. c.push.new.self.lines ++ code_lines (w.label + 2) (region_code m r k)) next_is in
    let ports = λ (o : Origin). ap (λ s. port_in s o) c.as_ref-scope.ensures ∙ c.in_ok-boxed.ensures.scope o ∙ ap (λ m. region_port m r o) next_is in
    let n3 = c.write_nodes.new.w.next in
    let l3 = c.write_nodes.new.w.lines in
    let end : ℕ → ℕ → List Kind → List Line = λ m f ks.
    ((l3 ++ map done (moves n3 (loop_results ks names))) ++ branch_zero (predicate_name names) (f + 1) ∷ map done (moves m (numbers_from n3 (value_args ks)))) ++ jump f
    ∷ label (f + 1) ∷ [] in
    on_ok_weaker c.write_turn.result
    (λ h. loop_written r args results names scope a b d entries w.next w.label w.lines c.write_moves.new.w.lines c.push.new.self.lines l3 c.write_turn.new.w.lines
    c.write_nodes.new.w.label n3
    moved marked body
    (c.in_ok-boxed.ensures.next ∙ ap (λ m. m + region_names r) next_is) ports
    (h ∙ ap (λ m. end m c.w.inside.label c.deref-3.result.now) base ∙ ap (λ f. end w.next f c.deref-3.result.now) first ∙ ap (λ ks. end w.next w.label ks) same))
    c.write_turn.ensures.lines

-- ---- the step of a node

pub write_step-returns-in-Some-clause-lines : goal.write_step-returns-in-Some-clause-lines
write_step-returns-in-Some-clause-lines t c =
    let w = c.args.w.now in
    let new = c.write_choice.new.w in
    let scope = c.args.scope.now in
    let inputs = c.node.inside.inputs.items in
    let regions = c.deref-in-Some.result.now in
    let names : c.deref.result.now ≡ map (name_in scope) inputs = c.deref.ensures.value ∙ c.in_ok-names-in-Gamma.ensures
    ∙ ap (map (name_in scope)) c.as_slice-inputs.ensures in
    let x : node c.node.inside.id Gamma inputs (regions_of regions) ≡ c.args.node.now =
    ap (node c.node.inside.id Gamma inputs) (ap regions_of c.deref-in-Some.ensures.value)
    ∙ ap (λ op. node c.node.inside.id op inputs (regions_of c.node.inside.regions.items)) (sym c.in-Gamma.is)
    ∙ c.node.view_is in
    on_ok_weaker c.write_choice.result
    (λ h. subst (StepWritten w new scope) x
    (gamma_written scope w new c.node.inside.id inputs (regions_of regions) c.deref.result.now c.in-Some.predicate.now c.in-Some.entries.now names
    c.in-Some.ensures.cases.0 h))
    c.write_choice.ensures.lines

abbrev theta_node : (id : ℕ) → List Origin → RegionTree → NodeTree
theta_node id inputs r = node id Theta inputs (region_then r no_regions)

theta_is : (x : NodeTree) (id : ℕ) (op : Op) (inputs : List Origin) (regions : List RegionTree) (r : RegionTree) → op ≡ Theta →
    node id op inputs (regions_of regions) ≡ x → NodeShaped x →
    Some r ≡ slice_get regions 0 → theta_node id inputs r ≡ x
theta_is x id op inputs regions r e f h g =
    let own : NodeShaped (node id Theta inputs (regions_of regions)) = subst NodeShaped (sym f ∙ ap (λ o. node id o inputs (regions_of regions)) e) h in
    ap (λ rs. node id Theta inputs (regions_of rs)) (sym (only_region inputs regions r own.0 g)) ∙ ap (λ o. node id o inputs (regions_of regions)) (sym e) ∙ f

pub write_step-returns-in-Some-first-clause-lines : goal.write_step-returns-in-Some-first-clause-lines
write_step-returns-in-Some-first-clause-lines t c =
    let w = c.args.w.now in
    let new = c.write_loop.new.w in
    let scope = c.args.scope.now in
    let inputs = c.node.inside.inputs.items in
    let id = c.node.inside.id in
    let r = c.in-Some-first.region.now in
    let names : c.deref-in-Some-first.result.now ≡ map (name_in scope) inputs =
    c.deref-in-Some-first.ensures.value ∙ c.in_ok-entries-in-Theta.ensures ∙ ap (map (name_in scope)) c.as_slice-inputs.ensures in
    let x = theta_is c.args.node.now id c.node.inside.op inputs c.node.inside.regions.items r c.in-Theta.is c.node.view_is c.requires.shaped
    (c.in-Some-first.ensures.value ∙ ap (λ xs. slice_get xs 0) c.deref-in-Theta.ensures.value) in
    on_ok_weaker c.write_loop.result (λ h. subst (StepWritten w new scope) x (theta_written scope w new id inputs r c.deref-in-Some-first.result.now names h))
    c.write_loop.ensures.lines

pub write_step-returns-in-Some-first-clause-label : goal.write_step-returns-in-Some-first-clause-label
write_step-returns-in-Some-first-clause-label t c =
    let x = theta_is c.args.node.now c.node.inside.id c.node.inside.op c.node.inside.inputs.items c.node.inside.regions.items c.in-Some-first.region.now c.in-Theta.is
    c.node.view_is c.requires.shaped
    (c.in-Some-first.ensures.value ∙ ap (λ xs. slice_get xs 0) c.deref-in-Theta.ensures.value) in
    on_ok_weaker c.write_loop.result (λ h. omega (arith, h, ap node_labels x)) c.write_loop.ensures.label

pub write_step-returns : goal.write_step-returns
write_step-returns t c =
    let w = c.args.w.now in
    let new = c.write_plain.new.w in
    let scope = c.args.scope.now in
    let inputs = c.as_slice-inputs.result.now in
    let id = c.node.inside.id in
    let op = c.node.inside.op in
    let e : node id op inputs (regions_of c.node.inside.regions.items) ≡ c.args.node.now =
    ap (λ os. node id op os (regions_of c.node.inside.regions.items)) c.as_slice-inputs.ensures
    ∙ c.node.view_is in
    let x : node id op inputs no_regions ≡ c.args.node.now =
    plain_node c.args.node.now id op inputs (regions_of c.node.inside.regions.items) e c.in_default.not-Gamma c.in_default.not-Theta c.requires.shaped in
    record {
      lines = on_ok_weaker c.write_plain.result (λ h. subst (StepWritten w new scope) x (plain_written scope w new id op inputs c.in_default.not-Gamma h))
          c.write_plain.ensures.lines;
      next = on_ok_weaker c.write_plain.result (λ h. omega (arith, h, plain_names id op inputs, ap node_names x)) c.write_plain.ensures.next;
      label = on_ok_weaker c.write_plain.result (λ h. omega (arith, h, plain_labels id op inputs c.in_default.not-Theta, ap node_labels x)) c.write_plain.ensures.label;
      outputs = IfOk-weaker c.write_plain.result _ _ (λ p h. h ∙ sym (plain_ports id op inputs w.next) ∙ ap (node_ports w.next) x) c.write_plain.ensures.outputs;
    }
