-- The answers of a set of functions that has the deps of its members, with the lambdas themselves elsewhere, are what their
-- own steps make, where a function that is not of the set has no step.
use Rattle.std.specs.Prelude.{if◌then◌else◌, unwrap_or}
use Rattle.std.proofs.Common.{◌≡◌, ◌<◌, ℕ, zero, suc, Bool, true, false, cond, List, [], ◌∷◌, length}
use Rattle.std.proofs.Common.{map, Option, Some, slice_get, slice_index_or, get_or, Contains, refl, sym, ap, subst, ◌∙◌, arith}
use Rattle.std.proofs.lemmas.Option.{same_Some, slice_get-get_or}
use Rattle.board_core.specs.Answers.{all_some, answer}
use Rattle.board_core.proofs.lemmas.Answers.{all_some-cons}
use Rattle.r_rule.specs.declared.steps.Rule.{Rule}
use Rattle.r_rule.specs.declared.steps.Step.{Step}
use Rattle.g_graph.specs.Plain.{PlainLambda}
use Rattle.r_rule.specs.Optimised.{PlainOptimised}
use Rattle.g_pass_order.specs.Calls.{no_lambda}
use Rattle.g_pass_order.specs.Laws.{OrdersAreRanked}
use Rattle.g_pass_def.specs.Sweep.{RuleTable, optimise, replayed}
use Rattle.g_pass_def.specs.Answers.{lambdas_of, lambda_of, program, AreAnswers}
use Rattle.g_pass_def.specs.Kept.{IsKeptBy}
use Rattle.g_pass_def.specs.Replayed.{lambdas_at, IsReplayed, AreReplayed}
use Rattle.g_pass_def.specs.Laws.{HoldsDeps, with_answers, SomeAnswersKeepLists, AnswersKeepLists, AnswersAreReplayed}
use Rattle.g_pass_def.proofs.Recipes.{recipes_replay}
use Rattle.g_pass_def.proofs.Replayed.{replayed_keep_lists}
use Rattle.g_pass_def.proofs.lemmas.Answers.{made-of}

-- the steps of the answers of the set
abbrev with_steps : (chosen : ℕ → Bool) → (answers : List PlainOptimised) → List (List Step)
with_steps chosen [] = []
with_steps chosen (a ∷ answers) = (if chosen 0 then a.steps else []) ∷ with_steps (λ f. chosen (suc f)) answers

with_steps-at : (chosen : ℕ → Bool) (answers : List PlainOptimised) (f : ℕ) (a : PlainOptimised) → slice_get answers f ≡ Some a →
    slice_index_or (with_steps chosen answers) f [] ≡ cond (chosen f) a.steps []
with_steps-at chosen [] f a e = absurd cc
with_steps-at chosen (b ∷ answers) zero a e = ap (λ (x : PlainOptimised). cond (chosen 0) x.steps []) (same_Some b a e)
with_steps-at chosen (b ∷ answers) (suc f) a e = with_steps-at (λ i. chosen (suc i)) answers f a e

-- ---- the list with the answers of the set

with_answers-long : (chosen : ℕ → Bool) (ls : List PlainLambda) (answers : List PlainOptimised) → length (with_answers chosen ls answers) ≡ length ls
with_answers-long chosen [] answers = refl
with_answers-long chosen (l ∷ ls) [] = refl
with_answers-long chosen (l ∷ ls) (a ∷ answers) = ap suc (with_answers-long (λ f. chosen (suc f)) ls answers)

with_answers-at : (chosen : ℕ → Bool) (ls : List PlainLambda) (answers : List PlainOptimised) (f : ℕ) (l : PlainLambda) (a : PlainOptimised) → slice_get ls f ≡ Some l →
    slice_get answers f ≡ Some a → slice_get (with_answers chosen ls answers) f ≡ Some (cond (chosen f) a.lambda l)
with_answers-at chosen [] answers f l a e g = absurd cc
with_answers-at chosen (k ∷ ls) [] f l a e g = absurd cc
with_answers-at chosen (k ∷ ls) (b ∷ answers) zero l a e g =
    let first : k ≡ l = same_Some k l e in
    let second : b ≡ a = same_Some b a g in
    ap (λ x. Some (cond (chosen 0) b.lambda x)) first ∙ ap (λ (x : PlainOptimised). Some (cond (chosen 0) x.lambda l)) second
with_answers-at chosen (k ∷ ls) (b ∷ answers) (suc f) l a e g = with_answers-at (λ i. chosen (suc i)) ls answers f l a e g

-- what the list has at numbers whose results it has
at-results : (results : ℕ → Option PlainOptimised) (ks : List PlainLambda) (ds : List ℕ) (outs : List PlainOptimised) → all_some (map results ds) ≡ Some outs →
    ((d : ℕ) (a : PlainOptimised) → Contains ds d → results d ≡ Some a → lambda_of ks d ≡ a.lambda) → lambdas_at ks ds ≡ lambdas_of outs
at-results results ks [] outs e each = ap lambdas_of (same_Some [] outs e)
at-results results ks (d ∷ ds) outs e each =
    let parts = all_some-cons (results d) (map results ds) outs e in
    let here = each d parts.0 (0, omega arith, refl) parts.2 in
    let rest = at-results results ks ds parts.1 parts.3 (λ k a h. each k a (suc h.0, omega (arith, h.1), h.2)) in
    ap (λ k. k ∷ lambdas_at ks ds) here ∙ (ap (λ held. parts.0.lambda ∷ held) rest ∙ ap lambdas_of (sym parts.4))

module _ (is_ranked : OrdersAreRanked) (t : RuleTable) (rules : List Rule) (ls : List PlainLambda) (answers : List PlainOptimised) (all : AreAnswers t rules ls answers)
    (chosen : ℕ → Bool) (holds : HoldsDeps chosen all.deps) where
  abbrev kept : List PlainLambda
  kept = with_answers chosen ls answers

  -- a dep of a function of the set
  dep-at : (j d : ℕ) (a : PlainOptimised) → chosen j ≡ true → Contains (slice_index_or all.deps j []) d → answer (program t rules ls all.ranks all.deps 1) d ≡ Some a →
      lambda_of kept d ≡ a.lambda
  dep-at j d a c h e =
      let dep = (is_ranked ls all.ranks all.deps all.order).dep j d h in
      let at = slice_get-get_or ls d no_lambda dep.known in
      ap (λ o. unwrap_or o no_lambda) (with_answers-at chosen ls answers d (get_or ls d no_lambda) a at (all.each d dep.known ∙ e))
      ∙ ap (λ b. cond b a.lambda (get_or ls d no_lambda)) (holds j d c h)

  replayed-one : (j : ℕ) → j < length ls → IsReplayed t ls all.deps (with_steps chosen answers) kept j
  replayed-one j inside =
      let at = slice_get-get_or ls j no_lambda inside in
      let one = made-of is_ranked t rules ls answers all j inside in
      by (get_or ls j no_lambda) one.callees at one.callees_are (one.is ∙ ap (λ o. Some (optimise t (lambdas_of one.callees) rules (unwrap_or o no_lambda))) at) (chosen j) refl
    where
      by : (l : PlainLambda) (outs : List PlainOptimised) → slice_get ls j ≡ Some l →
          all_some (map (answer (program t rules ls all.ranks all.deps 1)) (slice_index_or all.deps j [])) ≡ Some outs →
          slice_get answers j ≡ Some (optimise t (lambdas_of outs) rules l) → (c : Bool) → chosen j ≡ c →
          IsReplayed t ls all.deps (with_steps chosen answers) kept j
      by l outs at are is true c =
          let a = optimise t (lambdas_of outs) rules l in
          let held = at-results (answer (program t rules ls all.ranks all.deps 1)) kept (slice_index_or all.deps j []) outs are (λ d o h e. dep-at j d o c h e) in
          let steps = with_steps-at chosen answers j a is ∙ ap (λ b. cond b a.steps []) c in
          let own = with_answers-at chosen ls answers j l a at is ∙ ap (λ b. Some (cond b a.lambda l)) c in
          ap (λ (hs : List PlainLambda). replayed t hs (slice_index_or (with_steps chosen answers) j []) (lambda_of ls j)) held
          ∙ (ap (λ (ss : List Step). replayed t (lambdas_of outs) ss (lambda_of ls j)) steps
          ∙ (ap (λ o. replayed t (lambdas_of outs) a.steps (unwrap_or o no_lambda)) at
          ∙ (recipes_replay t (lambdas_of outs) rules l ∙ sym own)))
      by l outs at are is false c =
          let a = optimise t (lambdas_of outs) rules l in
          let steps = with_steps-at chosen answers j a is ∙ ap (λ b. cond b a.steps []) c in
          let own = with_answers-at chosen ls answers j l a at is ∙ ap (λ b. Some (cond b a.lambda l)) c in
          ap (λ (ss : List Step). replayed t (lambdas_at kept (slice_index_or all.deps j [])) ss (lambda_of ls j)) steps
          ∙ (ap (λ o. Some (unwrap_or o no_lambda)) at ∙ sym own)

chosen-replayed : (is_ranked : OrdersAreRanked) (t : RuleTable) (rules : List Rule) (ls : List PlainLambda) (answers : List PlainOptimised) (all : AreAnswers t rules ls answers)
    (chosen : ℕ → Bool) (holds : HoldsDeps chosen all.deps) → AreReplayed t ls (with_steps chosen answers) (with_answers chosen ls answers)
chosen-replayed is_ranked t rules ls answers all chosen holds =
    record {
      ranks = all.ranks;
      deps = all.deps;
      order = all.order;
      count = with_answers-long chosen ls answers;
      each = replayed-one is_ranked t rules ls answers all chosen holds;
    }

pub some_answers_keep_lists : OrdersAreRanked → SomeAnswersKeepLists
some_answers_keep_lists is_ranked t rows rules ls answers complete all chosen holds =
    replayed_keep_lists is_ranked t rows ls (with_steps chosen answers) (with_answers chosen ls answers) complete
    (chosen-replayed is_ranked t rules ls answers all chosen holds)

-- ---- the set of all functions

with-all : (ls : List PlainLambda) (answers : List PlainOptimised) → length answers ≡ length ls → with_answers (λ f. true) ls answers ≡ lambdas_of answers
with-all [] [] e = refl
with-all [] (a ∷ answers) e = absurd (omega (arith, e))
with-all (l ∷ ls) [] e = absurd (omega (arith, e))
with-all (l ∷ ls) (a ∷ answers) e = ap (λ xs. a.lambda ∷ xs) (with-all ls answers (omega (arith, e)))

all-steps : (answers : List PlainOptimised) → with_steps (λ f. true) answers ≡ map (λ (a : PlainOptimised). a.steps) answers
all-steps [] = refl
all-steps (a ∷ answers) = ap (λ rest. a.steps ∷ rest) (all-steps answers)

pub answers_are_replayed : OrdersAreRanked → AnswersAreReplayed
answers_are_replayed is_ranked t rules ls answers all =
    subst (λ ks. AreReplayed t ls (map (λ (a : PlainOptimised). a.steps) answers) ks) (with-all ls answers all.count)
    (subst (λ steps. AreReplayed t ls steps (with_answers (λ f. true) ls answers)) (all-steps answers)
    (chosen-replayed is_ranked t rules ls answers all (λ f. true) (λ j d e h. refl)))

pub answers_keep_lists : OrdersAreRanked → AnswersKeepLists
answers_keep_lists is_ranked t rows rules ls answers complete all =
    subst (IsKeptBy ls) (with-all ls answers all.count) (some_answers_keep_lists is_ranked t rows rules ls answers complete all (λ f. true) (λ j d e h. refl))
