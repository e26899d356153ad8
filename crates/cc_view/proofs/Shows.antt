-- What a command shows of a source that is not made, or for which memory ran out.
use Rattle.std.proofs.Common.{◌≡◌, ℕ, List, [], Option, sym, subst}
use Rattle.r_rule.specs.declared.steps.Rule.{Rule}
use Rattle.g_graph.specs.Plain.{PlainOmega}
use Rattle.r_rule.specs.Optimised.{PlainOptimised}
use Rattle.g_pass_def.specs.Answers.{AreAnswers}
use Rattle.g_pass.specs.Sweep.{rules}
use Rattle.cc_source.specs.Refused.{IsRejectionOf}
use Rattle.cc_report.specs.declared.outcome.Outcome.{Outcome}
use Rattle.cc_report.specs.declared.outcome.Outcome.TheVariants.{Refused, NoMemory}
use Rattle.cc_view_source.specs.declared.arguments.Drawing.{Drawing}
use Rattle.cc_view_source.specs.Made.{IsMade}
use Rattle.cc_view.specs.Shown.{GraphShows, StepsShow, ListingShows, ExplainShows}

-- ---- the source is refused, or memory ran out while it was made

pub rejected-graph : (recipe : List Rule) (function : Option (List ℕ)) (after : Option ℕ) (drawing : Drawing) (source : List ℕ) (ended : Outcome) (shown : List ℕ) →
    IsRejectionOf source ended → shown ≡ [] → GraphShows recipe function after drawing source ended shown
rejected-graph recipe function after drawing source (Refused refusal) shown h e = (h, e)
rejected-graph recipe function after drawing source NoMemory shown h e = e
rejected-graph recipe function after drawing source _ shown h e = absurd h

pub rejected-steps : (recipe : List Rule) (source : List ℕ) (ended : Outcome) (shown : List ℕ) → IsRejectionOf source ended → shown ≡ [] → StepsShow recipe source ended shown
rejected-steps recipe source (Refused refusal) shown h e = (h, e)
rejected-steps recipe source NoMemory shown h e = e
rejected-steps recipe source _ shown h e = absurd h

pub rejected-listing : (recipe : List Rule) (source : List ℕ) (ended : Outcome) (shown : List ℕ) → IsRejectionOf source ended → shown ≡ [] → ListingShows recipe source ended shown
rejected-listing recipe source (Refused refusal) shown h e = (h, e)
rejected-listing recipe source NoMemory shown h e = e
rejected-listing recipe source _ shown h e = absurd h

-- ---- memory ran out

pub no-graph : (recipe : List Rule) (function : Option (List ℕ)) (after : Option ℕ) (drawing : Drawing) (source : List ℕ) (ended : Outcome) (shown : List ℕ) →
    ended ≡ NoMemory → shown ≡ [] → GraphShows recipe function after drawing source ended shown
no-graph recipe function after drawing source ended shown is e = subst (λ (o : Outcome). GraphShows recipe function after drawing source o shown) (sym is) e

pub no-steps : (recipe : List Rule) (source : List ℕ) (ended : Outcome) (shown : List ℕ) → ended ≡ NoMemory → shown ≡ [] → StepsShow recipe source ended shown
no-steps recipe source ended shown is e = subst (λ (o : Outcome). StepsShow recipe source o shown) (sym is) e

pub no-listing : (recipe : List Rule) (source : List ℕ) (ended : Outcome) (shown : List ℕ) → ended ≡ NoMemory → shown ≡ [] → ListingShows recipe source ended shown
no-listing recipe source ended shown is e = subst (λ (o : Outcome). ListingShows recipe source o shown) (sym is) e

pub no-explanation : (recipe : List Rule) (source : List ℕ) (ended : Outcome) (shown : List ℕ) → ended ≡ NoMemory → shown ≡ [] → ExplainShows recipe source ended shown
no-explanation recipe source ended shown is e = subst (λ (o : Outcome). ExplainShows recipe source o shown) (sym is) e

-- ---- what is made

-- the answers are those of the lambdas of the graph
pub answers-of : (recipe : List Rule) (source : List ℕ) (omega : PlainOmega) (answers : List PlainOptimised) → IsMade recipe source omega answers → AreAnswers rules recipe omega.lambdas answers
answers-of recipe source omega answers made =
    subst (λ (o : PlainOmega). AreAnswers rules recipe o.lambdas answers) (sym made.made.graph) made.made.are
