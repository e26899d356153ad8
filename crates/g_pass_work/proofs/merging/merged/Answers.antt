use Rattle.std.proofs.Common.{◌+◌, ◌++◌, ℕ, List, map, drop, sym, ap, ◌∙◌, arith}
use Rattle.std.specs.Arc.{arc_value}
use Rattle.std.proofs.lemmas.List.{drop_more}
use Rattle.g_pass_work.specs.Renewal.{merged}
use Rattle.g_pass_work.proofs.merging.merged.Goals as goal

pub loop-function-preserved : goal.loop-function-preserved
loop-function-preserved g c =
    let stale = c.args.stale.now in
    let kept = map arc_value c.args.kept.now in
    let given = map arc_value c.args.given.now in
    let functions = c.args.functions.now in
    let i = c.loop-function.function-index in
    let here = drop_more functions i 0 c.loop-function-test.true in (
      omega (arith, c.loop-function.invariant.0, c.in_ok-taken.ensures.most),
      c.in_ok-taken.ensures.rest (drop (i + 1) functions)
          ∙ (ap (λ (js : List ℕ). map arc_value c.loop-function.all.items ++ merged stale kept js (drop c.loop-function.taken given)) (sym here) ∙ c.loop-function.invariant.1),
    )
