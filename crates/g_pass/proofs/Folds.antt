-- A sweep is the fold of the test and the change of its rule.
use Rattle.std.proofs.Common.{◌≡◌, ◌++◌, ℕ, Bool, true, false, List, [], ◌∷◌, Option, None, Some, option_map, refl, ap, ◌∙◌}
use Rattle.std.specs.Prelude.{if◌then◌else◌, is_some, unwrap_or}
use Rattle.std.specs.List.{fold}
use Rattle.r_rule.specs.declared.steps.Rule.{Rule}
use Rattle.r_rule.specs.declared.steps.Rule.TheVariants.{Fold, Cne, Dne, Inv, Push, Pull, Invert, Unroll, Inline}
use Rattle.r_rule.specs.declared.steps.Step.{Step}
use Rattle.g_graph.specs.Plain.{PlainLambda}
use Rattle.g_graph.specs.Ids.{region_ids}
use Rattle.r_inline.specs.Rule.{lambda_inlined}
use Rattle.r_inline.specs.Callees.{inlined_at, inline_change}
use Rattle.r_sweep_def.specs.Swept.{Logged, tried_by, swept_by}
use Rattle.g_pass_def.specs.Sweep.{Swept, stepped, tried, in_order, sweep}
use Rattle.g_pass.specs.Sweep.{applies, applied, step, rules}
use Rattle.g_pass.specs.Fast.{change_of, SweepsAreFolds}

-- a lambda with its steps, in both forms
abbrev as_swept : Logged → Swept
as_swept s = record { lambda = s.lambda; steps = s.steps }

step_is : (r : Rule) → (r ≡ Inline → ⊥) → (callees : List PlainLambda) (n : ℕ) (l : PlainLambda) → step r callees n l ≡ (if applies r l n then Some (applied r n l) else None)
step_is Inline h callees n l = absurd (h refl)
step_is Fold h callees n l = refl
step_is Cne h callees n l = refl
step_is Dne h callees n l = refl
step_is Inv h callees n l = refl
step_is Push h callees n l = refl
step_is Pull h callees n l = refl
step_is Invert h callees n l = refl
step_is Unroll h callees n l = refl

module _ (r : Rule) (h : r ≡ Inline → ⊥) (callees : List PlainLambda) where
  tried_is : (s : Logged) (n : ℕ) → tried rules callees r (as_swept s) n ≡ as_swept (tried_by (change_of r) s n)
  tried_is s n = ap (stepped r n (as_swept s)) (step_is r h callees n s.lambda) ∙ by (applies r s.lambda n)
    where
      by : (t : Bool) → stepped r n (as_swept s) (if t then Some (applied r n s.lambda) else None)
          ≡ as_swept (if t then record { lambda = applied r n s.lambda; steps = s.steps ++ record { rule = r; node = n } ∷ [] } else s)
      by true = refl
      by false = refl

  folds_are : (ns : List ℕ) (s : Logged) → fold (tried rules callees r) (as_swept s) ns ≡ as_swept (fold (tried_by (change_of r)) s ns)
  folds_are [] s = refl
  folds_are (n ∷ ns) s = ap (λ t. fold (tried rules callees r) t ns) (tried_is s n) ∙ folds_are ns (tried_by (change_of r) s n)

pub sweeps_are_folds : SweepsAreFolds
sweeps_are_folds r h callees l steps = folds_are r h callees (in_order rules r (region_ids l.body)) (record { lambda = l; steps = steps })

-- ---- inlining

module _ (callees : List PlainLambda) where
  inlining_is : (s : Logged) (n : ℕ) → tried rules callees Inline (as_swept s) n ≡ as_swept (tried_by (inline_change callees) s n)
  inlining_is s n = by (inlined_at callees n s.lambda)
    where
      by : (o : Option PlainLambda) → stepped Inline n (as_swept s) (option_map (λ c. lambda_inlined n c s.lambda) o)
          ≡ as_swept (if is_some o
          then record { lambda = unwrap_or (option_map (λ c. lambda_inlined n c s.lambda) o) s.lambda; steps = s.steps ++ record { rule = Inline; node = n } ∷ [] } else s)
      by None = refl
      by (Some c) = refl

  inlining_folds : (ns : List ℕ) (s : Logged) → fold (tried rules callees Inline) (as_swept s) ns ≡ as_swept (fold (tried_by (inline_change callees)) s ns)
  inlining_folds [] s = refl
  inlining_folds (n ∷ ns) s = ap (λ t. fold (tried rules callees Inline) t ns) (inlining_is s n) ∙ inlining_folds ns (tried_by (inline_change callees) s n)

pub inline_sweeps_are_folds : (callees : List PlainLambda) (l : PlainLambda) (steps : List Step) →
    sweep rules callees (record { lambda = l; steps = steps }) Inline ≡ as_swept (swept_by (inline_change callees) (region_ids l.body) (record { lambda = l; steps = steps }))
inline_sweeps_are_folds callees l steps = inlining_folds callees (region_ids l.body) (record { lambda = l; steps = steps })
