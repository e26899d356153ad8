use Rattle.std.proofs.Common.{◌≡◌, ◌+◌, ◌-◌, ◌<◌, ◌&&◌, true, [], ◌∷◌, ◌++◌, arith, length, drop, take, ap, sym, ◌∙◌}
use Rattle.c_typed.specs.Typed.{switch, stmt_then, declare_then}
use Rattle.g_graph.specs.Count.{saturated}
use Rattle.g_build_def.specs.Exits.{stmt_exits, items_exits, groups_exits, either_exits, can_leave, some_items}
use Rattle.g_build_count.specs.ExitsViews.{exits_of}
use Rattle.g_build_count.specs.Values.{leaving_values, stmt_values, items_values, groups_values, label_count, segment_count}
use Rattle.g_build_count.proofs.lemmas.Steps.{take_rest, declared_step, switch_step, taken_weight, statement_step, statement_exits}
use Rattle.g_build_count.proofs.statement.+statements.Goals.{items_values-in-Statement, items_values-in-Variable+else-not-push}
use Rattle.c_typed.specs.StmtViews.{items_of, declaration_of, groups_of, stmt_of}
use Rattle.g_build_def.specs.Switch.{some_segment_has_several}
use Rattle.g_build_count.specs.Weights.{items_weight}
use Rattle.g_build_count.proofs.lemmas.Groups.{from_index, statement_weight, items_after_weight, group_weight}
use Rattle.g_build_count.proofs.statement.+statements.Goals as goal

pub items_values-stmt_values-counted-requires : goal.items_values-stmt_values-counted-requires
items_values-stmt_values-counted-requires t c =
    (omega (arith, statement_weight c.args.items.now c.loop-i.i c.index-items-i.result c.in-Statement.a c.index-items-i.is c.loop-i-test.true c.in-Statement.is, c.decreases), tt)

pub items_values-items_values-rest-requires : goal.items_values-items_values-rest-requires
items_values-items_values-rest-requires t c =
    let k = c.loop-i.i + 1 in
    let less : items_weight (items_of (take (length c.args.items.now - k) (drop k c.args.items.now))) < t =
    omega (arith, taken_weight (drop k c.args.items.now) (length c.args.items.now - k), items_after_weight c.args.items.now c.loop-i.i c.loop-i-test.true, c.decreases) in
    (less, tt)

pub groups_values-items_values-inner-requires : goal.groups_values-items_values-inner-requires
groups_values-items_values-inner-requires t c =
    let g = c.index-groups-i.result in
    let same : items_weight (items_of c.deref.result.now) ≡ items_weight (items_of g.body.items) =
    ap (λ xs. items_weight (items_of xs)) (c.deref.ensures.value ∙ ap (λ y. y.body.items) (sym c.index-groups-i.is)) in
    let less : items_weight (items_of c.deref.result.now) < t =
    omega (arith, same, group_weight c.args.groups.now c.loop-i.i g c.index-groups-i.is c.loop-i-test.true, c.decreases) in
    (less, tt)

pub items_values-loop-i-preserved : goal.items_values-loop-i-preserved
items_values-loop-i-preserved t c =
    let xs = c.args.items.now in
    let from = from_index xs c.loop-i.i c.index-items-i.result c.index-items-i.is c.loop-i-test.true in
    let rest = items_of (drop (c.loop-i.i + 1) xs) in
    let all = saturated (items_values c.args.variables.now c.args.carried c.inside-inner.result.objects (items_of xs)) in
    elim c.match-items-i.branch [
      | items_values-in-Statement w ↦
          let a = w.in-Statement.a in
          let here : items_of (drop c.loop-i.i xs) ≡ stmt_then a rest = ap items_of from ∙ ap (λ y. items_of (y ∷ drop (c.loop-i.i + 1) xs)) w.in-Statement.is in
          let left : c.match-items-i.left ≡ can_leave (stmt_exits a) =
          w.left-is ∙ w.can_leave-left.ensures ∙ ap (λ l. can_leave l) w.stmt_values-counted.ensures.leaves in
          let leaves : exits_of c.match-items-i.leaves ≡ either_exits (exits_of c.loop-i.leaves) (stmt_exits a) =
          ap exits_of w.leaves-is ∙ w.either-leaves.ensures ∙ ap (either_exits (exits_of c.loop-i.leaves)) w.stmt_values-counted.ensures.leaves in (
            statement_step c.args.variables.now c.loop-i.carried c.match-items-i.carried c.loop-i.inner.objects c.match-items-i.inner.objects a rest (items_of (drop c.loop-i.i xs))
                c.loop-i.left c.match-items-i.left c.loop-i.total c.leaving_values.result c.saturating_add-total.result w.stmt_values-counted.result.values c.match-items-i.total all
                here w.carried-is (ap (λ i. i.objects) w.inner-is) left c.loop-i.invariant.0 c.leaving_values.ensures c.saturating_add-total.ensures w.stmt_values-counted.ensures.values
                (w.total-is ∙ w.saturating_add-total-in-Statement.ensures),
            statement_exits (exits_of c.loop-i.leaves) (exits_of c.match-items-i.leaves) (items_exits (items_of xs)) a rest (items_of (drop c.loop-i.i xs)) here leaves c.loop-i.invariant.1,
            omega (arith, w.total-is, w.saturating_add-total-in-Statement.ensures),
          )
      | items_values-in-Variable+else-not-push w ↦
          let d = declaration_of w.in-Variable.d in
          let b = w.declared_object-is_object.result in
          let here : items_of (drop c.loop-i.i xs) ≡ declare_then d rest = ap items_of from ∙ ap (λ y. items_of (y ∷ drop (c.loop-i.i + 1) xs)) w.in-Variable.is in
          let inner : c.match-items-i.inner.objects ≡ c.loop-i.inner.objects ++ b ∷ [] = ap (λ i. i.objects) w.inner-is ∙ w.if-not-push.ensures in
          let step =
          declared_step c.args.variables.now c.loop-i.carried c.match-items-i.carried c.loop-i.inner.objects c.match-items-i.inner.objects d rest (items_of (drop c.loop-i.i xs)) b c.loop-i.left
          c.loop-i.total c.leaving_values.result c.saturating_add-total.result w.declared_values.result c.match-items-i.total all here w.declared_object-is_object.ensures
          (w.carried-is ∙ w.more_carried-carried.ensures) inner c.loop-i.invariant.0 c.leaving_values.ensures c.saturating_add-total.ensures w.declared_values.ensures
          (w.total-is ∙ w.saturating_add-total-in-Variable.ensures) in
          let none : leaving_values c.match-items-i.carried (c.match-items-i.left && some_items rest) ≡ 0 =
          ap (λ l. leaving_values c.match-items-i.carried (l && some_items rest)) w.left-is in (
            omega (arith, step, none),
            ap (λ l. either_exits (exits_of l) (items_exits rest)) w.leaves-is ∙ ap (λ x. either_exits (exits_of c.loop-i.leaves) (items_exits x)) (sym here) ∙ c.loop-i.invariant.1,
            omega (arith, w.total-is, w.saturating_add-total-in-Variable.ensures),
          )
    ]

pub items_values-returns-then-not-push-clause-values : goal.items_values-returns-then-not-push-clause-values
items_values-returns-then-not-push-clause-values t c =
    let xs = c.args.items.now in
    let k = c.loop-i.i + 1 in
    let d = declaration_of c.in-Variable.d in
    let b = c.declared_object-is_object.result in
    let rest = items_of (drop k xs) in
    let here : items_of (drop c.loop-i.i xs) ≡ declare_then d rest =
    ap items_of (from_index xs c.loop-i.i c.index-items-i.result c.index-items-i.is c.loop-i-test.true) ∙ ap (λ y. items_of (y ∷ drop k xs)) c.in-Variable.is in
    let more : c.with-more.result.objects ≡ c.loop-i.inner.objects ++ b ∷ [] = c.with-more.ensures ∙ ap (λ s. s.objects ++ b ∷ []) c.if-not-push.ensures in
    let step =
    declared_step c.args.variables.now c.loop-i.carried c.more_carried-carried.result c.loop-i.inner.objects c.with-more.result.objects d rest (items_of (drop c.loop-i.i xs)) b c.loop-i.left
    c.loop-i.total c.leaving_values.result c.saturating_add-total.result c.declared_values.result c.saturating_add-total-in-Variable.result
    (saturated (items_values c.args.variables.now c.args.carried c.inside-inner.result.objects (items_of xs))) here c.declared_object-is_object.ensures
    c.more_carried-carried.ensures more c.loop-i.invariant.0 c.leaving_values.ensures c.saturating_add-total.ensures c.declared_values.ensures
    c.saturating_add-total-in-Variable.ensures in
    let counted : c.items_values-rest.result.values ≡ saturated (items_values c.args.variables.now c.more_carried-carried.result c.with-more.result.objects rest) =
    c.items_values-rest.ensures.values ∙ ap (λ ys. saturated (items_values c.args.variables.now c.more_carried-carried.result c.with-more.result.objects (items_of ys))) (take_rest xs k) in
    let same : saturated (items_values c.args.variables.now c.args.carried c.inside-inner.result.objects (items_of xs))
    ≡ saturated (items_values c.args.variables.now c.args.carried c.args.scope.now.objects (items_of xs)) =
    ap (λ os. saturated (items_values c.args.variables.now c.args.carried os (items_of xs))) c.inside-inner.ensures in
    omega (arith, step, counted, same, c.saturating_add.ensures)

pub stmt_values-returns-else-is_empty-clause-values : goal.stmt_values-returns-else-is_empty-clause-values
stmt_values-returns-else-is_empty-clause-values t c =
    let vs = c.args.variables.now in
    let os = c.args.scope.now.objects in
    let gs = c.in-Switch.groups.items in
    let s = c.segments_of-segments.result in
    let same : c.deref-in-Switch.result.now ≡ gs = c.deref-in-Switch.ensures.value in
    let inner : c.deref-in-Switch-2.result.now ≡ gs = c.deref-in-Switch-2.ensures.value in
    let some : length gs ≡ 0 → ⊥ = λ z. grind (arith, z) in
    let here : c.args.a.now ≡ switch c.in-Switch.e (groups_of gs) = sym c.a.view_is ∙ ap stmt_of c.in-Switch.is in
    switch_step vs c.args.carried os c.in-Switch.e gs c.expr_values-value.result s.labels s.count c.more_carried-within.result c.groups_values-inner.result.values c.switch_values.result
    s.several c.groups_values-inner.result.leaves.breaks some c.expr_values-value.ensures
    (c.segments_of-segments.ensures.labels ∙ ap (λ ys. saturated (label_count (groups_of ys))) same)
    (c.segments_of-segments.ensures.count ∙ ap (λ ys. segment_count (groups_of ys)) same)
    (c.segments_of-segments.ensures.several ∙ ap (λ ys. some_segment_has_several (groups_of ys)) same) c.more_carried-within.ensures
    (c.groups_values-inner.ensures.values ∙ ap (λ ys. saturated (groups_values vs c.more_carried-within.result os true (groups_of ys))) inner)
    (ap (λ x. x.breaks) c.groups_values-inner.ensures.leaves ∙ ap (λ ys. (groups_exits (groups_of ys)).breaks) inner) c.switch_values.ensures
    ∙ ap (λ a. saturated (stmt_values vs c.args.carried os a)) (sym here)
