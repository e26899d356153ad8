use Rattle.std.proofs.Common.{◌++◌, ◌∷◌, [], List, ℕ, sym, ap, ◌∙◌}
use Rattle.g_pass_work.proofs.Numbers.{range-more}
use Rattle.g_pass_work.proofs.numbering.first_functions.Goals as goal

pub loop-function-preserved : goal.loop-function-preserved
loop-function-preserved c =
    let n = c.loop-function.function in c.in_ok-push.ensures.items ∙ (ap (λ (xs : List ℕ). xs ++ n ∷ []) c.loop-function.invariant ∙ sym (range-more n))
