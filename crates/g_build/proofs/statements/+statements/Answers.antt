use Rattle.std.proofs.Common.{◌≡◌, ◌+◌, ◌-◌, ◌<◌, [], ◌∷◌, length, drop, refl, sym, ap, ◌∙◌, arith, length-drop}
use Rattle.std.specs.Prelude.{Some, true, false, ◌&&◌, ◌==◌, Bool, List, suc}
use Rattle.val_core.specs.declared.operation.Op2.TheVariants as op
use Rattle.c_typed.specs.declared.statement.Group.{Group}
use Rattle.c_typed.specs.Typed.{stmt_then, declare_then, group_then, OptionalExpr}
use Rattle.c_typed.specs.StmtViews.{items_of, groups_of, declaration_of, optional_of}
use Rattle.g_graph.specs.declared.op.Origin.{Origin}
use Rattle.g_build_def.specs.Writer.{Point, Built, bind, nothing, newest, slot_origin, no_value, one_value, choice, choice_one_first, repeat}
use Rattle.g_build_def.specs.Operations.{const_made, bin_made}
use Rattle.g_build_def.specs.Expressions.{tested}
use Rattle.g_build_def.specs.Exits.{stmt_exits, items_exits, groups_exits, either_exits, can_leave, some_items}
use Rattle.g_build_def.specs.Jumps.{unless_left, optional_tested, again_made, do_again_made, break_ended, turn_made}
use Rattle.g_build_def.specs.Statements.{declared_made, stmt_made, items_made, segments_made}
use Rattle.g_build_def.specs.Switch.{group_made, from_popped}
use Rattle.g_build_def.proofs.lemmas.Later.{Keeps, bind_later}
use Rattle.g_build_def.proofs.lemmas.LaterExpressions.{const_later}
use Rattle.g_build_def.proofs.lemmas.LaterStatements.{again_later, turn_later, do_again_later, stmt_later, items_later, segments_later}
use Rattle.g_build_count.specs.ExitsViews.{exits_of}
use Rattle.g_build_count.specs.Weights.{groups_weight}
use Rattle.g_build_count.specs.Values.{first_ends}
use Rattle.g_build_count.proofs.lemmas.Groups.{from_index, groups_from, groups_rest_weight, statement_weight, items_after_weight}
use Rattle.g_build_count.proofs.lemmas.Steps.{take_rest, taken_weight, statement_exits}
use Rattle.g_build_expression.specs.declared.choices.RegionOrder.TheVariants.{ZeroFirst, OneFirst}
use Rattle.g_build_expression.specs.Work.{made, moved_to, begun}
use Rattle.g_build_expression.proofs.lemmas.Made.{Makes, bind_makes}
use Rattle.g_build_expression.proofs.lemmas.Choices.{choice_makes, branches_make, first_output, repeat_makes, unless_makes, where_makes}
use Rattle.g_build.specs.Variables.{pops}
use Rattle.g_build.specs.Segments.{first_region, regions_closed, segment_exits, pending_regions}
use Rattle.g_build.proofs.Parts.{then_made}
use Rattle.g_build.proofs.Segments.{first_keeps, groups_at, closed_step, passed_step, closed_exits, passed_exits, segment_step, switch_is, chosen_makes, choices_makes}
use Rattle.g_build.proofs.Items.{statement_step, declared_step}
use Rattle.g_build.proofs.statements.+statements.Goals.{segments-then-begins+in_ok-left+in_ok-otherwise, segments-else-begins, list-in-Statement+in_ok-left-in-Statement+else-is_passed, list-in-Variable+in_ok-declare-in-Variable}
use Rattle.g_build.proofs.statements.+statements.Goals as goal

pub if_else-returns-clause-work : goal.if_else-returns-clause-work
if_else-returns-clause-work t c =
    let vs = c.args.variables.now in
    let w = c.args.b.now in
    let w1 = c.tested.new.self in
    let p = c.in_ok-predicate.predicate in
    (bind_makes w w1 c.chosen.new.self (tested c.args.e.now w.point) (λ q u. choice_one_first no_value u q (stmt_made vs c.args.otherwise.now) (stmt_made vs c.args.then.now)) p tt
    (record { work = c.in_ok-predicate.ensures.work; value = c.in_ok-predicate.ensures.value })
    (record {
      work =
          branches_make OneFirst w1 c.choice.new.self c.statement.new.b c.otherwise.new.self c.statement-2.new.b c.chosen.new.self p (stmt_made vs c.args.then.now)
          (stmt_made vs c.args.otherwise.now) (stmt_later vs c.args.then.now) (stmt_later vs c.args.otherwise.now) c.in_ok-choice.ensures c.in_ok-first.ensures.work
          c.in_ok-otherwise.ensures c.in_ok-second.ensures.work c.in_ok-chosen.ensures.work;
      value = refl;
    })).work

pub loop_statement-returns-clause-work : goal.loop_statement-returns-clause-work
loop_statement-returns-clause-work t c =
    let vs = c.args.variables.now in
    let d : OptionalExpr = optional_of c.args.condition.now in
    let step : OptionalExpr = optional_of c.args.step.now in
    let l : Bool = can_leave (stmt_exits c.args.body.now) in
    let leaves : c.can_leave.result ≡ l = c.can_leave.ensures ∙ ap (λ x. can_leave x) c.in_ok-inner.ensures.leaves in
    let leaves2 : c.can_leave-2.result ≡ l = c.can_leave-2.ensures ∙ ap (λ x. can_leave x) c.in_ok-inner.ensures.leaves in
    let f : Point → Built (Unit {0}) = stmt_made vs c.args.body.now in
    let g : Point → Built Origin = λ u. bind (f u) (λ _ v. again_made l step v) in
    let gl : Keeps g = λ u. bind_later u (f u) (λ _ v. again_made l step v) (stmt_later vs c.args.body.now u) (λ _. again_later l step) in
    let w = c.args.b.now in
    let w1 = c.begin.new.self in
    let w2 = c.optional_tested.new.b in
    let w3 = c.choice.new.self in
    let w4 = c.constant.new.self in
    let w5 = c.otherwise.new.self in
    let w6 = c.statement.new.b in
    let w7 = c.again.new.b in
    let w8 = c.chosen.new.self in
    let w9 = c.close.new.self in
    let w10 = c.end.new.self in
    let more = c.in_ok-more.more in
    let p = c.in_ok-predicate.predicate in
    let inner : Makes w5 (g w5.point) w7 more =
    bind_makes w5 w6 w7 (f w5.point) (λ _ v. again_made l step v) tt more (record { work = c.in_ok-inner.ensures.work; value = refl })
    (record {
      work = c.in_ok-more.ensures.work ∙ ap (λ x. made w6 (again_made x step w6.point)) leaves;
      value = c.in_ok-more.ensures.value ∙ ap (λ x. (again_made x step w6.point).value) leaves;
    }) in
    let zeros = ap (λ o. o ∷ []) c.in_ok-zero.ensures.value in
    let mores = ap (λ o. o ∷ []) inner.value in
    let out =
    c.in_ok-turn.ensures.value
    ∙ first_output one_value w2 w3 w4 w5 w7 p (const_made 0) g (c.in_ok-zero.zero ∷ []) (const_later 0) c.in_ok-choice.ensures c.in_ok-zero.ensures.work zeros
    c.in_ok-otherwise.ensures inner.work in
    let chosen =
    choice_makes ZeroFirst one_value (Some more) (λ j. refl) w2 w3 w4 w5 w7 w8 p (const_made 0) g (c.in_ok-zero.zero ∷ []) c.in_ok-turn.turn (const_later 0) gl c.in_ok-choice.ensures
    c.in_ok-zero.ensures.work zeros c.in_ok-otherwise.ensures inner.work mores c.in_ok-turn.ensures.work out in
    let turn : Makes w1 (turn_made d step l f w1.point) w8 c.in_ok-turn.turn =
    bind_makes w1 w2 w8 (optional_tested d w1.point) (λ q u. choice one_value u q (const_made 0) g) p c.in_ok-turn.turn
    (record { work = c.in_ok-predicate.ensures.work; value = c.in_ok-predicate.ensures.value }) chosen in
    let whole =
    repeat_makes w w1 w8 w9 w10 (turn_made d step l f) c.in_ok-turn.turn (turn_later d step l f (stmt_later vs c.args.body.now)) c.in_ok-begin.ensures turn.work turn.value c.in_ok-close.ensures
    c.in_ok-end.ensures.work in
    (bind_makes w w10 c.end_break.new.b (repeat w.point (turn_made d step l f)) (λ _ u. break_ended l u) tt tt (record { work = whole; value = refl })
    (record { work = c.in_ok-end_break.ensures ∙ ap (λ x. made w10 (break_ended x w10.point)) leaves2; value = refl })).work

pub do_statement-returns-clause-work : goal.do_statement-returns-clause-work
do_statement-returns-clause-work t c =
    let vs = c.args.variables.now in
    let e = c.args.condition.now in
    let l : Bool = can_leave (stmt_exits c.args.body.now) in
    let leaves : c.can_leave.result ≡ l = c.can_leave.ensures ∙ ap (λ x. can_leave x) c.in_ok-inner.ensures.leaves in
    let leaves2 : c.can_leave-2.result ≡ l = c.can_leave-2.ensures ∙ ap (λ x. can_leave x) c.in_ok-inner.ensures.leaves in
    let f : Point → Built (Unit {0}) = stmt_made vs c.args.body.now in
    let g : Point → Built Origin = λ u. bind (f u) (λ _ v. do_again_made l e v) in
    let gl : Keeps g = λ u. bind_later u (f u) (λ _ v. do_again_made l e v) (stmt_later vs c.args.body.now u) (λ _. do_again_later l e) in
    let w = c.args.b.now in
    let w1 = c.begin.new.self in
    let w2 = c.statement.new.b in
    let w3 = c.do_again.new.b in
    let w5 = c.end.new.self in
    let more = c.in_ok-more.more in
    let inner : Makes w1 (g w1.point) w3 more =
    bind_makes w1 w2 w3 (f w1.point) (λ _ v. do_again_made l e v) tt more (record { work = c.in_ok-inner.ensures.work; value = refl })
    (record {
      work = c.in_ok-more.ensures.work ∙ ap (λ x. made w2 (do_again_made x e w2.point)) leaves;
      value = c.in_ok-more.ensures.value ∙ ap (λ x. (do_again_made x e w2.point).value) leaves;
    }) in
    let whole = repeat_makes w w1 w3 c.close.new.self w5 g more gl c.in_ok-begin.ensures inner.work inner.value c.in_ok-close.ensures c.in_ok-end.ensures.work in
    (bind_makes w w5 c.end_break.new.b (repeat w.point g) (λ _ u. break_ended l u) tt tt (record { work = whole; value = refl })
    (record { work = c.in_ok-end_break.ensures ∙ ap (λ x. made w5 (break_ended x w5.point)) leaves2; value = refl })).work

pub unless_left-returns-clause-work : goal.unless_left-returns-clause-work
unless_left-returns-clause-work t c =
    let w = c.args.b.now in
    let is = items_of c.args.items.now in
    unless_makes w c.choice.new.self c.list.new.b c.otherwise.new.self c.chosen.new.self w.point.carried.go (items_made c.args.variables.now is)
    (items_later c.args.variables.now is) (c.in_ok-choice.ensures ∙ ap (λ g. begun (g ∷ []) w) c.go-go.ensures) c.in_ok-leaves.ensures.work c.in_ok-otherwise.ensures
    c.in_ok-chosen.ensures.work

pub list-statement-requires : goal.list-statement-requires
list-statement-requires t c =
    (omega (arith, statement_weight c.args.items.now c.loop-i.i c.index-items-i.result c.in-Statement.a c.index-items-i.is c.loop-i-test.true c.in-Statement.is, c.decreases), tt)

pub list-unless_left-requires : goal.list-unless_left-requires
list-unless_left-requires t c =
    let k = c.loop-i.i + 1 in
    let less =
    (taken_weight (drop k c.args.items.now) (length c.args.items.now - k)) in
    (omega (arith, less, items_after_weight c.args.items.now c.loop-i.i c.loop-i-test.true, c.decreases), tt)

pub list-loop-i-preserved : goal.list-loop-i-preserved
list-loop-i-preserved t c =
    let vs = c.args.variables.now in
    let xs = c.args.items.now in
    let from = from_index xs c.loop-i.i c.index-items-i.result c.index-items-i.is c.loop-i-test.true in
    let rest = items_of (drop (c.loop-i.i + 1) xs) in
    let all = items_of (drop c.loop-i.i xs) in
    let u = made c.args.b.now (items_made vs (items_of xs) c.args.b.now.point) in
    elim c.match-items-i.branch [
      | list-in-Statement+in_ok-left-in-Statement+else-is_passed w ↦
          let a = w.in-Statement.a in
          let here : all ≡ stmt_then a rest = ap items_of from ∙ ap (λ y. items_of (y ∷ drop (c.loop-i.i + 1) xs)) w.in-Statement.is in
          let left = w.in_ok-left-in-Statement.ensures.leaves in
          let passed : w.is_passed.result ≡ (can_leave (stmt_exits a) && some_items rest) = w.is_passed.ensures ∙ ap (λ l. can_leave l && some_items rest) left in
          let leaves : exits_of c.match-items-i.leaves ≡ either_exits (exits_of c.loop-i.leaves) (stmt_exits a) =
          ap exits_of w.leaves-is ∙ w.either-leaves.ensures ∙ ap (either_exits (exits_of c.loop-i.leaves)) left in
          let after : c.match-items-i.b ≡ made c.loop-i.b (stmt_made vs a c.loop-i.b.point) = w.b-is ∙ w.in_ok-left-in-Statement.ensures.work in
          let stepped =
          statement_step vs c.loop-i.count c.loop-i.b c.match-items-i.b u a rest all w.is_passed.result here passed w.if-is_passed.false after c.loop-i.invariant.work in
          record {
            work = ap (λ n. pops n (made c.match-items-i.b (items_made vs rest c.match-items-i.b.point))) w.count-is ∙ stepped;
            few = omega (arith, w.count-is, c.loop-i.invariant.few);
            leaves = statement_exits (exits_of c.loop-i.leaves) (exits_of c.match-items-i.leaves) (items_exits (items_of xs)) a rest all here leaves c.loop-i.invariant.leaves;
          }
      | list-in-Variable+in_ok-declare-in-Variable w ↦
          let d = declaration_of w.in-Variable.d in
          let here : all ≡ declare_then d rest = ap items_of from ∙ ap (λ y. items_of (y ∷ drop (c.loop-i.i + 1) xs)) w.in-Variable.is in
          let after : c.match-items-i.b ≡ made c.loop-i.b (declared_made vs d c.loop-i.b.point) = w.b-is ∙ w.in_ok-declare-in-Variable.ensures in
          let stepped = declared_step vs c.loop-i.count c.loop-i.b c.match-items-i.b u d rest all here after c.loop-i.invariant.work in
          record {
            work = ap (λ n. pops n (made c.match-items-i.b (items_made vs rest c.match-items-i.b.point))) w.count-is ∙ stepped;
            few = omega (arith, w.count-is, c.loop-i.invariant.few);
            leaves = ap (λ l. either_exits (exits_of l) (items_exits rest)) w.leaves-is ∙ sym (ap (λ x. either_exits (exits_of c.loop-i.leaves) (items_exits x)) here) ∙ c.loop-i.invariant.leaves;
          }
    ]

-- ---- switch

pub group-returns-clause-work : goal.group-returns-clause-work
group-returns-clause-work t c =
    let w = c.args.b.now in
    let w1 = c.constant.new.self in
    let w2 = c.bin.new.self in
    let f : Point → Built (Unit {0}) = items_made c.args.variables.now (items_of c.args.items.now) in
    let n : c.args.number + 1 ≡ suc c.args.number = omega arith in
    let k = c.in_ok-word.word in
    let from = c.newest-from.ensures in
    (bind_makes w w1 c.chosen.new.self (const_made (suc c.args.number) w.point)
    (λ o u. bind (bin_made op.Sltu (slot_origin (newest u.carried.variables)) o u) (λ p v. choice no_value v p nothing f)) k tt
    (record { work = c.in_ok-word.ensures.work ∙ ap (λ m. made w (const_made m w.point)) n; value = c.in_ok-word.ensures.value })
    (bind_makes w1 w2 c.chosen.new.self (bin_made op.Sltu (slot_origin (newest w1.point.carried.variables)) k w1.point) (λ p v. choice no_value v p nothing f) c.in_ok-before.before tt
    (record {
      work = c.in_ok-before.ensures.work ∙ ap (λ o. made w1 (bin_made op.Sltu o k w1.point)) from;
      value = c.in_ok-before.ensures.value;
    })
    (record {
      work =
          where_makes w2 c.choice.new.self c.otherwise.new.self c.list.new.b c.chosen.new.self c.in_ok-before.before f
          (items_later c.args.variables.now (items_of c.args.items.now)) c.in_ok-choice.ensures c.in_ok-otherwise.ensures c.in_ok-leaves.ensures.work
          c.in_ok-chosen.ensures.work;
      value = refl;
    }))).work

pub rest_of_segment-returns-clause-work : goal.rest_of_segment-returns-clause-work
rest_of_segment-returns-clause-work t c =
    let w = c.args.b.now in
    let vs = c.args.variables.now in
    let gs = groups_of c.args.groups.now in
    let f : Point → Built (Unit {0}) = first_region (segments_made vs false c.args.number gs) in
    unless_makes w c.choice.new.self c.segment-2.new.b c.otherwise.new.self c.chosen.new.self w.point.carried.go f
    (first_keeps (segments_made vs false c.args.number gs) (segments_later vs false c.args.number gs)) (c.in_ok-choice.ensures ∙ ap (λ g. begun (g ∷ []) w) c.go-go.ensures)
    c.in_ok-leaves.ensures.work c.in_ok-otherwise.ensures c.in_ok-chosen.ensures.work
    ∙ ap (λ l. made w (unless_left l f w.point)) (sym c.if-not-can_leave.false)

pub segment-returns-clause-work : goal.segment-returns-clause-work
segment-returns-clause-work t c =
    let w = c.args.b.now in
    let vs = c.args.variables.now in
    let xs = c.args.groups.now in
    let g = c.index-groups-0-2.result in
    let n = c.args.number in
    let gs = groups_of xs in
    let rest = groups_of (drop 1 xs) in
    let is = items_of g.body.items in
    let w1 = c.group.new.b in
    let here : gs ≡ group_then g.cases.items g.is_default is rest = groups_from xs 0 g c.index-groups-0-2.is c.requires.some in
    let ends : false ≡ first_ends gs = sym c.if-ends-2.false ∙ c.ends_segment-ends.ensures in
    let body : items_of c.deref-2.result.now ≡ is = ap items_of (c.deref-2.ensures.value ∙ ap (λ y. y.body.items) (sym c.index-groups-0-2.is)) in
    let first : w1 ≡ made w (group_made n (items_made vs is) w.point) = c.in_ok-left.ensures.work ∙ ap (λ x. made w (group_made n (items_made vs x) w.point)) body in
    let leaves : c.can_leave.result ≡ can_leave (items_exits is) =
    c.can_leave.ensures ∙ ap (λ x. can_leave x) c.in_ok-left.ensures.leaves ∙ ap (λ x. can_leave (items_exits x)) body in
    let more : n + 1 ≡ suc n = omega arith in
    let second : c.rest_of_segment.new.b ≡ made w1 (unless_left (can_leave (items_exits is)) (first_region (segments_made vs false (suc n) rest)) w1.point) =
    c.in_ok-rest.ensures.work ∙ ap (λ ys. made w1 (unless_left c.can_leave.result (first_region (segments_made vs false (n + 1) (groups_of ys))) w1.point)) (take_rest xs 1)
    ∙ ap (λ m. made w1 (unless_left c.can_leave.result (first_region (segments_made vs false m rest)) w1.point)) more
    ∙ ap (λ l. made w1 (unless_left l (first_region (segments_made vs false (suc n) rest)) w1.point)) leaves in
    second ∙ sym (then_made w w1 (group_made n (items_made vs is) w.point) (unless_left (can_leave (items_exits is)) (first_region (segments_made vs false (suc n) rest))) first)
    ∙ sym (ap (made w) (segment_step vs c.args.begins n gs rest g.cases.items g.is_default is w.point here ends))

pub segments-segment-requires : goal.segments-segment-requires
segments-segment-requires t c =
    let xs = c.args.groups.now in
    let i = c.loop-i.i in
    let same = ap (λ ys. groups_weight (groups_of ys)) (take_rest xs i) in
    let count = ap (λ (ys : List Group). length ys) (take_rest xs i) in
    let less = groups_rest_weight xs i in
    let left = length-drop i xs in
    (omega (arith, same, less, c.decreases), (omega (arith, count, left, c.loop-i-test.true), omega (arith, count, left, c.loop-i-test.true, c.requires)))

pub segments-loop-i-preserved : goal.segments-loop-i-preserved
segments-loop-i-preserved t c =
    let vs = c.args.variables.now in
    let xs = c.args.groups.now in
    let i = c.loop-i.i in
    let g = groups_at xs i c.loop-i-test.true in
    let cs = g.0.cases.items in
    let d = g.0.is_default in
    let is = items_of g.0.body.items in
    let all = groups_of (drop i xs) in
    let rest = groups_of (drop (i + 1) xs) in
    let e = c.ends_segment-begins.result in
    let b = c.loop-i.begins in
    let n : i + 1 ≡ suc i = omega arith in
    let u = regions_closed c.args.b.now (segments_made vs true 0 (groups_of xs)) in
    let total = groups_exits (groups_of xs) in
    elim c.if-begins.branch [
      | segments-then-begins+in_ok-left+in_ok-otherwise w ↦
          let first : w.segment.new.b ≡ made c.loop-i.b (first_region (segments_made vs true i all) c.loop-i.b.point) =
          w.in_ok-left.ensures.work ∙ ap (λ ys. made c.loop-i.b (first_region (segments_made vs true i (groups_of ys)) c.loop-i.b.point)) (take_rest xs i) in
          let left : exits_of w.in_ok-left.left ≡ segment_exits all = w.in_ok-left.ensures.leaves ∙ ap (λ ys. segment_exits (groups_of ys)) (take_rest xs i) in
          let leaves : exits_of c.if-begins.leaves ≡ either_exits (exits_of c.loop-i.leaves) (exits_of w.in_ok-left.left) = ap exits_of w.leaves-is ∙ w.either-leaves.ensures in
          record {
            work =
                closed_step vs c.loop-i.b w.segment.new.b c.if-begins.b u i (i + 1) b e all rest cs d is g.1 c.ends_segment-begins.ensures n w.if-begins.true first
                (w.b-is ∙ w.in_ok-otherwise.ensures) c.loop-i.invariant.work;
            leaves =
                closed_exits (exits_of c.loop-i.leaves) (exits_of c.if-begins.leaves) (exits_of w.in_ok-left.left) total b e all rest cs d is g.1 c.ends_segment-begins.ensures
                w.if-begins.true left leaves c.loop-i.invariant.leaves;
          }
      | segments-else-begins w ↦
          record {
            work =
                ap (λ x. regions_closed x (pending_regions e (segments_made vs e (i + 1) rest))) w.b-is
                ∙ passed_step vs c.loop-i.b u i (i + 1) b e all rest cs d is g.1 c.ends_segment-begins.ensures n w.if-begins.false c.loop-i.invariant.work;
            leaves =
                passed_exits (exits_of c.loop-i.leaves) (exits_of c.if-begins.leaves) total b e all rest cs d is g.1 c.ends_segment-begins.ensures w.if-begins.false
                (ap exits_of w.leaves-is) c.loop-i.invariant.leaves;
          }
    ]

not_empty : (gs : List Group) → (length gs == 0) ≡ false → 0 < length gs
not_empty [] h = absurd cc
not_empty (g ∷ gs) h = omega arith

pub switch_statement-returns-clause-work : goal.switch_statement-returns-clause-work
switch_statement-returns-clause-work t c =
    let vs = c.args.variables.now in
    let xs = c.args.groups.now in
    let gs = groups_of xs in
    let w = c.args.b.now in
    let w1 = c.choose_segment.new.b in
    let fs = segments_made vs true 0 gs in
    let some : 0 < length xs = not_empty xs (sym c.is_empty.ensures ∙ c.if-is_empty.false) in
    let g = groups_at xs 0 some in
    let w4 = c.chosen.new.self in
    let w5 = c.end_from.new.b in
    let n = c.in_ok-number.number in
    let several = c.has_several-several.ensures in
    let chosen =
    choices_makes w1 c.choice.new.self c.segments.new.b w4 n fs (segments_later vs true 0 gs) c.in_ok-choice.ensures c.in_ok-leaves.ensures.work c.in_ok-chosen.ensures.work in
    let popped = c.end_from.ensures ∙ ap (λ s. moved_to w4 (from_popped s w4.point)) several in
    let ended = c.in_ok-end_break.ensures ∙ ap (λ x. made w5 (break_ended x.breaks w5.point)) c.in_ok-leaves.ensures.leaves in
    chosen_makes c.args.value n gs fs w w1 w4 w5 c.end_break.new.b c.in_ok-number.ensures.work c.in_ok-number.ensures.value chosen popped ended
    ∙ sym (ap (made w) (switch_is c.args.value gs (groups_of (drop 1 xs)) g.0.cases.items g.0.is_default (items_of g.0.body.items) fs w.point g.1))
