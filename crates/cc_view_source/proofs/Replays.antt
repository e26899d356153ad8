-- What the first steps of a function make of its lambda.
use Rattle.std.proofs.Common.{◌≡◌, ◌≤◌, ℕ, zero, suc, List, [], ◌∷◌, length, take, Option, None, Some, slice_get, refl, sym, ap, subst, ◌∙◌, arith}
use Rattle.std.specs.Prelude.{option_and_then, IfSome, IfNone}
use Rattle.std.proofs.lemmas.List.{take_all}
use Rattle.std.proofs.lemmas.Option.{same_Some}
use Rattle.r_rule.specs.declared.steps.Rule.{Rule}
use Rattle.r_rule.specs.declared.steps.Step.{Step}
use Rattle.g_graph.specs.Plain.{PlainLambda}
use Rattle.r_rule.specs.Optimised.{PlainOptimised}
use Rattle.g_pass_def.specs.Answers.{lambda_of, AreAnswers}
use Rattle.g_pass_def.specs.Laws.{RecipesReplay}
use Rattle.g_pass_def.specs.Sweep.{optimise, replayed}
use Rattle.g_pass.specs.Sweep.{rules}
use Rattle.cc_view_source.specs.Made.{IsMadeWith}
use Rattle.cc_view_source.specs.Drawn.{AreAfter, ArePrograms, HasFewer}
use Rattle.cc_view_source.specs.Laws.{AllStepsMakeTheAnswer}

-- what the steps of an answer make of the lambda is the answer
steps-made : RecipesReplay → (recipe : List Rule) (ls : List PlainLambda) (answers : List PlainOptimised) (f : ℕ) (a : PlainOptimised) (callees : List PlainLambda) → slice_get answers f ≡ Some a →
    IsMadeWith recipe ls answers f callees → replayed rules callees a.steps (lambda_of ls f) ≡ Some a.lambda
steps-made replay recipe ls answers f a callees found made =
    let is : optimise rules callees recipe (lambda_of ls f) ≡ a = same_Some (optimise rules callees recipe (lambda_of ls f)) a (sym made ∙ found) in
    subst (λ (o : PlainOptimised). replayed rules callees o.steps (lambda_of ls f) ≡ Some o.lambda) is (replay rules callees recipe (lambda_of ls f))

pub all_steps : RecipesReplay → AllStepsMakeTheAnswer
all_steps replay recipe ls answers f a found l after =
    let callees = after.0 in
    let whole = take_all (length a.steps) a.steps (omega arith) in
    let at = steps-made replay recipe ls answers f a callees found after.1 in
    same_Some l a.lambda (sym after.2 ∙ (ap (λ steps. replayed rules callees steps (lambda_of ls f)) whole ∙ at))

-- where all steps apply, so do the first ones
first-steps : (callees : List PlainLambda) (steps : List Step) (l k : PlainLambda) (n : ℕ) → replayed rules callees steps l ≡ Some k →
    (j : PlainLambda) × (replayed rules callees (take n steps) l ≡ Some j)
first-steps callees steps l k zero e = (l, refl)
first-steps callees [] l k (suc n) e = (l, refl)
first-steps callees (s ∷ steps) l k (suc n) e = goes-on (rules.step s.rule callees s.node l) (λ x h. first-steps callees steps x k n h) e where
  goes-on : (o : Option PlainLambda) → ((x : PlainLambda) → replayed rules callees steps x ≡ Some k → (j : PlainLambda) × (replayed rules callees (take n steps) x ≡ Some j)) →
      option_and_then (replayed rules callees steps) o ≡ Some k → (j : PlainLambda) × (option_and_then (replayed rules callees (take n steps)) o ≡ Some j)
  goes-on None rest h = absurd cc
  goes-on (Some x) rest h = rest x h

-- so the first steps of an answer apply
pub steps-apply : RecipesReplay → (recipe : List Rule) (ls : List PlainLambda) (answers : List PlainOptimised) (f : ℕ) (a : PlainOptimised) (callees : List PlainLambda) → slice_get answers f ≡ Some a →
    IsMadeWith recipe ls answers f callees → (count : ℕ) → (j : PlainLambda) × (replayed rules callees (take count a.steps) (lambda_of ls f) ≡ Some j)
steps-apply replay recipe ls answers f a callees found made count =
    first-steps callees a.steps (lambda_of ls f) a.lambda count (steps-made replay recipe ls answers f a callees found made)

-- ---- what was replayed

module _ (ls : List PlainLambda) (answers : List PlainOptimised) (f count : ℕ) (a : PlainOptimised) (found : slice_get answers f ≡ Some a) (callees given : List PlainLambda)
    (made : (recipe : List Rule) → AreAnswers rules recipe ls answers → IsMadeWith recipe ls answers f callees) (are_given : given ≡ callees)
    (taken : List Step) (are_taken : taken ≡ take count a.steps) (l : PlainLambda) (is_built : l ≡ lambda_of ls f) where
  replayed-here : replayed rules given taken l ≡ replayed rules callees (take count a.steps) (lambda_of ls f)
  replayed-here =
      ap (λ cs. replayed rules cs taken l) are_given
      ∙ (ap (λ steps. replayed rules callees steps l) are_taken ∙ ap (replayed rules callees (take count a.steps)) is_built)

  -- it is the lambda after so many steps
  pub shown_after : count ≤ length a.steps → (o : Option PlainLambda) → o ≡ replayed rules given taken l → IfSome o (λ k. AreAfter ls answers f (Some count) k)
  shown_after within (Some k) is = (a, found, within, λ recipe are. (callees, made recipe are, sym (is ∙ replayed-here)))
  shown_after within None is = tt

  -- and it is there
  pub none_after : RecipesReplay → ArePrograms ls answers → (o : Option PlainLambda) → o ≡ replayed rules given taken l → IfNone o (HasFewer answers f count)
  none_after replay are (Some k) is = tt
  none_after replay are None is =
      let some = steps-apply replay are.0 ls answers f a callees found (made are.0 are.1) count in
      absurd (no some.0 (is ∙ (replayed-here ∙ some.1)))
    where
      no : (j : PlainLambda) → None ≡ Some j → ⊥
      no j e = cc
