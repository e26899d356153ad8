-- The lines of choices.
use Rattle.std.proofs.Common.{◌≡◌, ◌<◌, ℕ, suc, ◌+◌, ◌-◌, ◌∷◌, ap, ◌∙◌, sym, arith, add-one}
use Rattle.s_linear.specs.Lines.{branch_equal}
use Rattle.s_sequence.specs.Written.{branch_lines}

pub branch_more : (p i first n : ℕ) → i < n → branch_lines p i first (n - i) ≡ branch_equal p i (first + i) ∷ branch_lines p (i + 1) first (n - (i + 1))
branch_more p i first n h =
    let e : n - i ≡ suc (n - (i + 1)) = omega arith in
    ap (branch_lines p i first) e ∙ ap (λ k. branch_equal p i (first + i) ∷ branch_lines p k first (n - (i + 1))) (sym (add-one i))
