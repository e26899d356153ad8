-- One job of the stale functions.
use Rattle.std.proofs.Common.{◌≡◌, ◌<◌, [], ℕ, Bool, List, length, slice_index, slice_index_or, Contains, ap, subst, ◌∙◌, arith}
use Rattle.std.specs.List.{range_with_len}
use Rattle.r_rule.specs.declared.steps.Rule.{Rule}
use Rattle.g_graph.specs.Plain.{PlainLambda}
use Rattle.r_rule.specs.Optimised.{PlainOptimised}
use Rattle.g_pass_def.specs.Sweep.{RuleTable, optimise}
use Rattle.g_pass_def.specs.Answers.{lambda_of, lambdas_of}
use Rattle.g_pass_work.specs.Renewal.{is_stale, functions_of, merged}
use Rattle.g_pass_work.proofs.lemmas.Functions.{function-is, contains-filter, contains-range}
use Rattle.g_pass_work.specs.StaleJobs.{AreJobs, made_anew}

module _ (ls : List PlainLambda) (functions : List ℕ) (stale : List Bool) (deps : List (List ℕ)) (jobs : AreJobs ls functions stale deps) where
  -- the functions are functions of the list
  pub known : (j : ℕ) → Contains functions j → j < length stale
  known j h =
      let there = contains-filter (is_stale stale) (range_with_len 0 (length stale)) j (subst (λ (xs : List ℕ). Contains xs j) jobs.functions_are h) in
      omega (arith, contains-range 0 (length stale) j there.0)

  module _ (job : ℕ) (inside : job < length (functions_of stale)) where
    pub job-inside : job < length functions
    job-inside = omega (arith, inside, ap (λ (xs : List ℕ). length xs) jobs.functions_are)

    pub function-there : slice_index functions job ≡ slice_index (functions_of stale) job
    function-there = ap (λ (xs : List ℕ). slice_index xs job) jobs.functions_are

    pub function-inside : slice_index functions job < length ls
    function-inside = omega (arith, (function-is stale job inside).0, function-there, jobs.all_stale)

    pub has-deps : slice_index functions job < length deps
    has-deps = omega (arith, function-inside, jobs.all_deps)

    -- what is made of the answers of the deps is the result of the job
    pub made-is : (t : RuleTable) (rules : List Rule) (kept given : List PlainOptimised) (own : List ℕ) (answers : List PlainOptimised) (lambda : PlainLambda) →
        own ≡ slice_index_or deps (slice_index functions job) [] → answers ≡ merged stale kept own given → lambda ≡ lambda_of ls (slice_index functions job) →
        optimise t (lambdas_of answers) rules lambda ≡ made_anew t (record { lambdas = ls; recipe = rules; stale = stale; deps = deps; kept = kept }) job given
    made-is t rules kept given own answers lambda own-is answers-are lambda-is =
        let f = slice_index functions job in
        ap (λ (xs : List PlainOptimised). optimise t (lambdas_of xs) rules lambda) (answers-are ∙ ap (λ (ds : List ℕ). merged stale kept ds given) own-is)
        ∙ (ap (λ (l : PlainLambda). optimise t (lambdas_of (merged stale kept (slice_index_or deps f []) given)) rules l) lambda-is
        ∙ ap (λ (i : ℕ). optimise t (lambdas_of (merged stale kept (slice_index_or deps i []) given)) rules (lambda_of ls i)) function-there)
