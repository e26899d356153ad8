use Rattle.std.proofs.Common.{◌≡◌, ◌+◌, ◌-◌, ◌<◌, [], ◌∷◌, ◌++◌, arith, length, drop, take, ap, sym, ◌∙◌}
use Rattle.c_typed.specs.Typed.{stmt_then, declare_then}
use Rattle.c_typed.specs.StmtViews.{items_of, declaration_of}
use Rattle.g_graph.specs.Count.{saturated}
use Rattle.g_build_count.specs.Values.{straight_values}
use Rattle.g_build_count.specs.Weights.{items_weight}
use Rattle.g_build_count.proofs.lemmas.Groups.{from_index, items_after_weight}
use Rattle.g_build_count.proofs.lemmas.Steps.{taken_weight, take_rest, straight_step, straight_declared}
use Rattle.g_build_count.proofs.straight.+straight_values.Goals.{in-Statement+else-ended, in-Variable+else-not-push}
use Rattle.g_build_count.proofs.straight.+straight_values.Goals as goal

pub straight_values-rest-requires : goal.straight_values-rest-requires
straight_values-rest-requires t c =
    let k = c.loop-i.i + 1 in
    let less : items_weight (items_of (take (length c.args.items.now - k) (drop k c.args.items.now))) < t =
    omega (arith, taken_weight (drop k c.args.items.now) (length c.args.items.now - k), items_after_weight c.args.items.now c.loop-i.i c.loop-i-test.true, c.decreases) in
    (less, tt)

pub returns-then-not-push : goal.returns-then-not-push
returns-then-not-push t c =
    let xs = c.args.items.now in
    let k = c.loop-i.i + 1 in
    let d = declaration_of c.in-Variable.d in
    let b = c.declared_object-is_object.result in
    let rest = items_of (drop k xs) in
    let here : items_of (drop c.loop-i.i xs) ≡ declare_then d rest =
    ap items_of (from_index xs c.loop-i.i c.index-items-i.result c.index-items-i.is c.loop-i-test.true) ∙ ap (λ y. items_of (y ∷ drop k xs)) c.in-Variable.is in
    let more : c.with-more.result.objects ≡ c.loop-i.inner.objects ++ b ∷ [] = c.with-more.ensures ∙ ap (λ s. s.objects ++ b ∷ []) c.if-not-push.ensures in
    let step =
    straight_declared c.args.variables.now c.loop-i.carried c.more_carried-carried.result c.loop-i.inner.objects c.with-more.result.objects d rest (items_of (drop c.loop-i.i xs)) b
    c.loop-i.total c.declared_values.result c.saturating_add-total-in-Variable.result
    (saturated (straight_values c.args.variables.now c.args.carried c.inside-inner.result.objects (items_of xs))) here c.declared_object-is_object.ensures
    c.more_carried-carried.ensures more c.loop-i.invariant.0 c.declared_values.ensures c.saturating_add-total-in-Variable.ensures in
    let counted : c.straight_values-rest.result ≡ saturated (straight_values c.args.variables.now c.more_carried-carried.result c.with-more.result.objects rest) =
    c.straight_values-rest.ensures ∙ ap (λ ys. saturated (straight_values c.args.variables.now c.more_carried-carried.result c.with-more.result.objects (items_of ys))) (take_rest xs k) in
    let same : saturated (straight_values c.args.variables.now c.args.carried c.inside-inner.result.objects (items_of xs))
    ≡ saturated (straight_values c.args.variables.now c.args.carried c.args.scope.now.objects (items_of xs)) =
    ap (λ os. saturated (straight_values c.args.variables.now c.args.carried os (items_of xs))) c.inside-inner.ensures in
    omega (arith, step, counted, same, c.saturating_add.ensures)

pub loop-i-preserved : goal.loop-i-preserved
loop-i-preserved t c =
    let xs = c.args.items.now in
    let from = from_index xs c.loop-i.i c.index-items-i.result c.index-items-i.is c.loop-i-test.true in
    let rest = items_of (drop (c.loop-i.i + 1) xs) in
    let all = saturated (straight_values c.args.variables.now c.args.carried c.inside-inner.result.objects (items_of xs)) in
    elim c.match-items-i.branch [
      | in-Statement+else-ended w ↦
          let here : items_of (drop c.loop-i.i xs) ≡ stmt_then w.in-Statement.a rest = ap items_of from ∙ ap (λ y. items_of (y ∷ drop (c.loop-i.i + 1) xs)) w.in-Statement.is in (
            straight_step c.args.variables.now c.loop-i.carried c.match-items-i.carried c.loop-i.inner.objects c.match-items-i.inner.objects w.in-Statement.a rest (items_of (drop c.loop-i.i xs))
                w.items_follow-follows.result c.loop-i.total w.statement_values-ended.result.values c.match-items-i.total all here w.carried-is (ap (λ i. i.objects) w.inner-is)
                w.items_follow-follows.ensures (sym w.statement_values-ended.ensures.ends ∙ w.if-ended.false) c.loop-i.invariant.0 w.statement_values-ended.ensures.values
                (w.total-is ∙ w.saturating_add-total.ensures),
            omega (arith, w.total-is, w.saturating_add-total.ensures),
          )
      | in-Variable+else-not-push w ↦
          let d = declaration_of w.in-Variable.d in
          let b = w.declared_object-is_object.result in
          let here : items_of (drop c.loop-i.i xs) ≡ declare_then d rest = ap items_of from ∙ ap (λ y. items_of (y ∷ drop (c.loop-i.i + 1) xs)) w.in-Variable.is in
          let inner : c.match-items-i.inner.objects ≡ c.loop-i.inner.objects ++ b ∷ [] = ap (λ i. i.objects) w.inner-is ∙ w.if-not-push.ensures in (
            straight_declared c.args.variables.now c.loop-i.carried c.match-items-i.carried c.loop-i.inner.objects c.match-items-i.inner.objects d rest (items_of (drop c.loop-i.i xs)) b
                c.loop-i.total w.declared_values.result c.match-items-i.total all here w.declared_object-is_object.ensures (w.carried-is ∙ w.more_carried-carried.ensures) inner
                c.loop-i.invariant.0 w.declared_values.ensures (w.total-is ∙ w.saturating_add-total-in-Variable.ensures),
            omega (arith, w.total-is, w.saturating_add-total-in-Variable.ensures),
          )
    ]
