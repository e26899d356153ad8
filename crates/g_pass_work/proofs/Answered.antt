-- The results of the lambdas as jobs are their answers.
use Rattle.std.proofs.Common.{◌≡◌, ℕ, List, ap, ◌∙◌, arith}
use Rattle.board_core.specs.Answers.{IsRanked}
use Rattle.board_core.specs.Alone.{AreResults}
use Rattle.r_rule.specs.declared.steps.Rule.{Rule}
use Rattle.g_graph.specs.Plain.{PlainLambda}
use Rattle.r_rule.specs.Optimised.{PlainOptimised}
use Rattle.g_pass_order.specs.Calls.{IsOrder}
use Rattle.g_pass_order.specs.Laws.{OrdersAreRanked}
use Rattle.g_pass_def.specs.Answers.{program, AreAnswers}
use Rattle.g_pass_def.proofs.lemmas.Answers.{program-ranked, same-answers}
use Rattle.g_pass.specs.Sweep.{rules}
use Rattle.g_pass_work.specs.Jobs.{Jobs}

module _ (are_ranked : OrdersAreRanked) (recipe : List Rule) (ls : List PlainLambda) (ranks : List ℕ) (deps : List (List ℕ)) (order : IsOrder ls ranks deps)
    (workers : ℕ) where
  pub ranked : IsRanked (program rules recipe ls ranks deps workers)
  ranked = program-ranked are_ranked rules recipe ls ranks deps order workers

  -- the program of the board on which they are
  pub same_program : (work : Jobs) (rs : List ℕ) (ds : List (List ℕ)) → work ≡ record { lambdas = ls; recipe = recipe } → rs ≡ ranks → ds ≡ deps →
      program rules work.recipe work.lambdas rs ds workers ≡ program rules recipe ls ranks deps workers
  same_program work rs ds is same all =
      ap (λ (j : Jobs). program rules j.recipe j.lambdas rs ds workers) is
      ∙ (ap (λ xs. program rules recipe ls xs ds workers) same ∙ ap (λ xs. program rules recipe ls ranks xs workers) all)

  pub answered : (results : List PlainOptimised) → AreResults (program rules recipe ls ranks deps workers) results → AreAnswers rules recipe ls results
  answered results are =
      let long = (are_ranked ls ranks deps order).deps_length in
      record {
        ranks = ranks;
        deps = deps;
        order = order;
        count = are.count ∙ long;
        each = λ j inside. are.each j (omega (arith, inside, long)) ∙ same-answers rules recipe ls ranks deps workers 1 j;
      }
