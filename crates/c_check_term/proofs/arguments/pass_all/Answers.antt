use Rattle.std.proofs.Common.{◌≡◌, ◌<◌, ◌&&◌, [], ◌∷◌, length, take, get_or, sym, ap, ◌∙◌, arith}
use Rattle.std.proofs.lemmas.List.{length-append}
use Rattle.c_check_def.specs.Calls.{all_fit, all_passed}
use Rattle.c_check_term.specs.Passing.{one_more, is_fit, expr_in}
use Rattle.c_check_term.proofs.PassingLemmas.{fit_more, passed_more}
use Rattle.c_check_term.proofs.arguments.pass_all.Goals as goal

pub loop-x-preserved : goal.loop-x-preserved
loop-x-preserved c =
    let xs = c.loop-x.yielded in
    let ts = c.args.params.now in
    let x = c.in-Some.x in
    let t = c.index-params-index.result in
    let next = c.in_ok-next.next in
    let made = c.in_ok-next.ensures in
    let done = c.loop-x.invariant in
    let left = c.in-Some.ensures.steps.1 in
    let below : length xs < length ts = omega (arith, done.3, left) in
    let is : t ≡ get_or ts (length xs) t = c.index-params-index.is ∙ ap (λ i. get_or ts i t) done.0 in
    let fit =
    c.in_ok-passed.ensures.fit ∙ ap (λ b. b && is_fit next) done.1 ∙ ap (λ b. all_fit (take (length xs) ts) xs && b) made.fits
    ∙ sym (fit_more ts xs t x below is) in
    let exprs =
    c.in_ok-passed.ensures.exprs ∙ ap (λ es. one_more es (expr_in next)) done.2 ∙ ap (one_more (all_passed (take (length xs) ts) xs)) made.passed
    ∙ sym (passed_more ts xs t x below is) in
    (omega (arith, length-append xs (x ∷ []), done.0), fit, exprs, omega (arith, length-append xs (x ∷ []), done.3, left))
