-- The callee that is inlined, and a lambda with its steps where one is and where none is.
use Rattle.std.specs.Prelude.{if◌then◌else◌, option_and_then}
use Rattle.std.proofs.Common.{◌≡◌, ◌≢◌, ℕ, true, false, List, Option, Some, None, refl, sym, ap, ◌∙◌}
use Rattle.g_graph.specs.Plain.{PlainLambda}
use Rattle.r_rule.specs.declared.steps.Rule.{Rule}
use Rattle.r_rule.specs.declared.steps.Rule.TheVariants.{Fold, Cne, Dne, Inv, Push, Pull, Invert, Unroll, Inline}
use Rattle.r_inline.specs.Rule as inline_rule
use Rattle.r_inline.specs.Called.{called_at}
use Rattle.r_inline.specs.Callees.{numbered, inlined_at}
use Rattle.g_pass.specs.Sweep.{applies, applied, step}

-- ---- the callee

abbrev in_place : (callees : List PlainLambda) → (n : ℕ) → PlainLambda → Option ℕ → Option PlainLambda
in_place callees n l called = option_and_then (λ f. option_and_then (λ c. if inline_rule.applies l n c then Some c else None) (numbered f callees)) called

pub not_called : (callees : List PlainLambda) (n : ℕ) (l : PlainLambda) → None ≡ called_at n l → None ≡ inlined_at callees n l
not_called callees n l e = ap (in_place callees n l) e

pub not_there : (callees : List PlainLambda) (n f : ℕ) (l : PlainLambda) → Some f ≡ called_at n l → None ≡ numbered f callees → None ≡ inlined_at callees n l
not_there callees n f l e g = ap (option_and_then (λ c. if inline_rule.applies l n c then Some c else None)) g ∙ ap (in_place callees n l) e

pub not_applied : (callees : List PlainLambda) (n f : ℕ) (l c : PlainLambda) → Some f ≡ called_at n l → Some c ≡ numbered f callees → inline_rule.applies l n c ≡ false →
    None ≡ inlined_at callees n l
not_applied callees n f l c e g h =
    ap (λ t. if t then Some c else None) (sym h) ∙ ap (option_and_then (λ c. if inline_rule.applies l n c then Some c else None)) g ∙ ap (in_place callees n l) e

pub is_applied : (callees : List PlainLambda) (n f : ℕ) (l c : PlainLambda) → Some f ≡ called_at n l → Some c ≡ numbered f callees → inline_rule.applies l n c ≡ true →
    Some c ≡ inlined_at callees n l
is_applied callees n f l c e g h =
    ap (λ t. if t then Some c else None) (sym h) ∙ ap (option_and_then (λ c. if inline_rule.applies l n c then Some c else None)) g ∙ ap (in_place callees n l) e

-- a rule that looks at its lambda alone
pub looks_at_its_lambda : (r : Rule) (n : ℕ) (callees : List PlainLambda) (l : PlainLambda) → r ≢ Inline →
    step r callees n l ≡ (if applies r l n then Some (applied r n l) else None)
looks_at_its_lambda Fold n callees l h = refl
looks_at_its_lambda Cne n callees l h = refl
looks_at_its_lambda Dne n callees l h = refl
looks_at_its_lambda Inv n callees l h = refl
looks_at_its_lambda Push n callees l h = refl
looks_at_its_lambda Pull n callees l h = refl
looks_at_its_lambda Invert n callees l h = refl
looks_at_its_lambda Unroll n callees l h = refl
looks_at_its_lambda Inline n callees l h = absurd (h refl)
