-- The lambdas of a source, of which answers are kept.
use Rattle.std.proofs.Common.{ℕ, Bool, List, [], refl, sym, subst, arith}
use Rattle.std.specs.Prelude.{Option, None, Some}
use Rattle.r_rule.specs.declared.steps.Rule.{Rule}
use Rattle.g_graph.specs.Plain.{PlainLambda}
use Rattle.g_pass_order.specs.Calls.{IsOrder}
use Rattle.g_pass_def.specs.Answers.{AreAnswers}
use Rattle.g_pass.specs.Sweep.{rules}
use Rattle.g_pass_work.specs.Stale.{AreStale}
use Rattle.g_pass_work.specs.Kept.{AreKept}
use Rattle.cc_session.specs.Session.{PlainKept, lambdas_of, deps_of, answers_of, IsLast}

-- where there is no lambda there is no answer
no-order : IsOrder [] [] []
no-order = record {
  unit = [];
  units = record { unit_length = refl; rank_length = refl; unit_of = λ j inside. absurd (omega (arith, inside)); rank_of = λ j inside. absurd (omega (arith, inside)) };
  deps_are = refl;
}

no-answers : (recipe : List Rule) → AreAnswers rules recipe [] []
no-answers recipe = record { ranks = []; deps = []; order = no-order; count = refl; each = λ j inside. absurd (omega (arith, inside)) }

-- what is kept are the answers of the lambdas that are kept, against which these are stale
pub kept-of : (recipe : List Rule) (last : Option PlainKept) → IsLast recipe last → (ls : List PlainLambda) (deps : List (List ℕ)) (stale : List Bool) →
    AreStale (lambdas_of last) (deps_of last) ls deps stale → AreKept rules recipe ls deps stale (answers_of last)
unfolding no-answers
kept-of recipe None it ls deps stale are = record { earlier = []; answered = no-answers recipe; are_stale = are }
kept-of recipe (Some k) it ls deps stale are =
    record { earlier = k.lambdas; answered = it.answered; are_stale = subst (λ (ds : List (List ℕ)). AreStale k.lambdas ds ls deps stale) (sym it.deps_are) are }
