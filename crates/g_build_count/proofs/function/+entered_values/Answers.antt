use Rattle.std.proofs.Common.{◌≡◌, ◌+◌, [], ◌∷◌, ◌++◌, arith, drop, ap, ◌∙◌}
use Rattle.g_graph.specs.Count.{saturated}
use Rattle.g_build_count.specs.Values.{entered_values}
use Rattle.g_build_count.proofs.lemmas.Groups.{from_index}
use Rattle.g_build_count.proofs.lemmas.Steps.{take_rest}
use Rattle.g_build_count.proofs.Entered.{entered_step}
use Rattle.g_build_count.proofs.function.+entered_values.Goals as goal

pub returns-then-not-push : goal.returns-then-not-push
returns-then-not-push t c =
    let f = c.args.f.now in
    let j = c.args.jumps in
    let xs = c.args.params.now in
    let k = c.loop-i.i + 1 in
    let b = c.param.inside.is_object in
    let here = from_index xs c.loop-i.i c.index-params-i.result c.index-params-i.is c.loop-i-test.true in
    let more : c.with-more.result.objects ≡ c.loop-i.inner.objects ++ b ∷ [] = c.with-more.ensures ∙ ap (λ s. s.objects ++ b ∷ []) c.if-not-push.ensures in
    let step =
    entered_step f j c.loop-i.carried c.more_carried-carried.result c.loop-i.inner.objects c.with-more.result.objects c.index-params-i.result (drop k xs) (drop c.loop-i.i xs) b
    c.loop-i.total c.param_values.result c.saturating_add-total.result (saturated (entered_values f j xs c.args.carried c.inside-inner.result.objects)) here
    (ap (λ p. p.is_object) c.param.view_is) c.more_carried-carried.ensures more c.loop-i.invariant.0 c.param_values.ensures c.saturating_add-total.ensures in
    let counted : c.entered_values-rest.result ≡ saturated (entered_values f j (drop k xs) c.more_carried-carried.result c.with-more.result.objects) =
    c.entered_values-rest.ensures ∙ ap (λ ys. saturated (entered_values f j ys c.more_carried-carried.result c.with-more.result.objects)) (take_rest xs k) in
    let same : saturated (entered_values f j xs c.args.carried c.inside-inner.result.objects) ≡ saturated (entered_values f j xs c.args.carried c.args.scope.now.objects) =
    ap (λ os. saturated (entered_values f j xs c.args.carried os)) c.inside-inner.ensures in
    omega (arith, step, counted, same, c.saturating_add.ensures)

pub loop-i-preserved : goal.loop-i-preserved
loop-i-preserved t c =
    let f = c.args.f.now in
    let j = c.args.jumps in
    let xs = c.args.params.now in
    let b = c.param.inside.is_object in
    let here = from_index xs c.loop-i.i c.index-params-i.result c.index-params-i.is c.loop-i-test.true in (
      entered_step f j c.loop-i.carried c.more_carried-carried.result c.loop-i.inner.objects c.push.new.self.objects c.index-params-i.result (drop (c.loop-i.i + 1) xs) (drop c.loop-i.i xs) b
          c.loop-i.total c.param_values.result c.saturating_add-total.result (saturated (entered_values f j xs c.args.carried c.inside-inner.result.objects)) here
          (ap (λ p. p.is_object) c.param.view_is) c.more_carried-carried.ensures c.if-not-push.ensures c.loop-i.invariant.0 c.param_values.ensures c.saturating_add-total.ensures,
      omega (arith, c.saturating_add-total.ensures),
    )
