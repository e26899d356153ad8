-- Recipes keep lists of lambdas, over any table of rules whose steps are steps.
use Rattle.std.specs.Prelude.{◌≡◌, ℕ, suc, ◌+◌, ◌*◌, ◌≤◌, Bool, true, if◌then◌else◌, List, [], ◌∷◌, map, Some, slice_get, slice_set, slice_index_or, Contains}
use Rattle.std.specs.List.{sum_by, AllByRecursion}
use Rattle.base.specs.Limits.{most_functions, most_program_values, most_grown_values}
use Rattle.r_rule.specs.declared.steps.Rule.{Rule}
use Rattle.r_rule.specs.declared.steps.Step.{Step}
use Rattle.g_graph.specs.Plain.{PlainLambda, PlainOmega}
use Rattle.r_rule.specs.Optimised.{PlainOptimised}
use Rattle.g_graph.specs.Lists.{IsComplete}
use Rattle.g_graph.specs.Program.{lambda_values, IsProgram, IsWithinLimits}
use Rattle.g_graph.specs.WellFormed.{IsWellFormed}
use Rattle.r_edit.specs.Steps.{HasEach, IsApartFrom, MayStandFor}
use Rattle.g_pass_order.specs.Calls.{IsOrder}
use Rattle.g_pass_def.specs.Sweep.{RuleTable, optimise, replayed}
use Rattle.g_pass_def.specs.Answers.{AreAnswers, lambdas_of}
use Rattle.g_pass_def.specs.Kept.{IsKeptBy}
use Rattle.g_pass_def.specs.Replayed.{AreReplayed}

-- ---- the premise

-- Wherever a rule of the table applies to a well-formed lambda, given well-formed callees of other numbers, the changed
-- lambda may stand for it.
abbrev pub AreSteps : RuleTable → Type 0
AreSteps t =
    (r : Rule) (callees : List PlainLambda) (n : ℕ) (l k : PlainLambda) → IsWellFormed l → AllByRecursion IsWellFormed callees → IsApartFrom l.number callees →
    t.step r callees n l ≡ Some k → MayStandFor callees l k

-- ---- lists that keep each other

-- A list keeps itself,
abbrev pub ListsKeepThemselves : Type 0
ListsKeepThemselves = (ls : List PlainLambda) → IsKeptBy ls ls

-- and lists keep each other one after the other.
abbrev pub KeepingComposes : Type 0
KeepingComposes = (ls ks js : List PlainLambda) → IsKeptBy ls ks → IsKeptBy ks js → IsKeptBy ls js

-- A step in a list that has the lambda and those that are held keeps the list.
abbrev pub StepsKeepLists : Type 0
StepsKeepLists =
    (held : List PlainLambda) (l k : PlainLambda) → MayStandFor held l k → (ls : List PlainLambda) → slice_get ls l.number ≡ Some l → HasEach held ls →
    IsKeptBy ls (slice_set ls l.number k)

-- ---- recipes

-- What steps make of a lambda one after the other may stand for it,
abbrev pub ReplaysAreSteps : Type 0
ReplaysAreSteps =
    (t : RuleTable) → AreSteps t → (callees : List PlainLambda) (steps : List Step) (l k : PlainLambda) → IsWellFormed l → AllByRecursion IsWellFormed callees →
    IsApartFrom l.number callees → replayed t callees steps l ≡ Some k → MayStandFor callees l k

-- a recipe makes of a lambda what its steps make of it,
abbrev pub RecipesReplay : Type 0
RecipesReplay =
    (t : RuleTable) (callees : List PlainLambda) (rules : List Rule) (l : PlainLambda) →
    replayed t callees (optimise t callees rules l).steps l ≡ Some (optimise t callees rules l).lambda

-- and so that may stand for the lambda too.
abbrev pub RecipesAreSteps : Type 0
RecipesAreSteps =
    (t : RuleTable) → AreSteps t → (callees : List PlainLambda) (rules : List Rule) (l : PlainLambda) → IsWellFormed l → AllByRecursion IsWellFormed callees →
    IsApartFrom l.number callees → MayStandFor callees l (optimise t callees rules l).lambda

-- ---- steps by themselves

-- A complete list is kept by what any steps make of it,
abbrev pub ReplayedKeepLists : Type 0
ReplayedKeepLists =
    (t : RuleTable) → AreSteps t → (ls : List PlainLambda) (steps : List (List Step)) (ks : List PlainLambda) → IsComplete ls → AreReplayed t ls steps ks → IsKeptBy ls ks

-- and steps make one list of it at most.
abbrev pub ReplayedAreUnique : Type 0
ReplayedAreUnique =
    (t : RuleTable) (ls : List PlainLambda) (steps : List (List Step)) (ks js : List PlainLambda) → AreReplayed t ls steps ks → AreReplayed t ls steps js → ks ≡ js

-- ---- answers

-- Where a list of lambdas has an order it has answers,
abbrev pub AnswersExist : Type 0
AnswersExist =
    (t : RuleTable) (rules : List Rule) (ls : List PlainLambda) (ranks : List ℕ) (deps : List (List ℕ)) → IsOrder ls ranks deps →
    (answers : List PlainOptimised) × AreAnswers t rules ls answers

-- and no two lists of them.
abbrev pub AnswersAreUnique : Type 0
AnswersAreUnique =
    (t : RuleTable) (rules : List Rule) (ls : List PlainLambda) (xs ys : List PlainOptimised) → AreAnswers t rules ls xs → AreAnswers t rules ls ys → xs ≡ ys

-- The answers are what their own steps make of the lambdas.
abbrev pub AnswersAreReplayed : Type 0
AnswersAreReplayed =
    (t : RuleTable) (rules : List Rule) (ls : List PlainLambda) (answers : List PlainOptimised) → AreAnswers t rules ls answers →
    AreReplayed t ls (map (λ (a : PlainOptimised). a.steps) answers) (lambdas_of answers)

-- From a list of lambdas, those with the answers of a set of functions, and its own elsewhere.
abbrev pub with_answers : (chosen : ℕ → Bool) → List PlainLambda → (answers : List PlainOptimised) → List PlainLambda
with_answers chosen [] answers = []
with_answers chosen (l ∷ ls) [] = l ∷ ls
with_answers chosen (l ∷ ls) (a ∷ answers) = (if chosen 0 then a.lambda else l) ∷ with_answers (λ f. chosen (suc f)) ls answers

-- with each function of the set its deps are in it
abbrev pub HoldsDeps : (chosen : ℕ → Bool) → (deps : List (List ℕ)) → Type 0
HoldsDeps chosen deps = (j d : ℕ) → chosen j ≡ true → Contains (slice_index_or deps j []) d → chosen d ≡ true

-- A complete list is kept by the answers of such a set, with its own lambdas elsewhere,
abbrev pub SomeAnswersKeepLists : Type 0
SomeAnswersKeepLists =
    (t : RuleTable) → AreSteps t → (rules : List Rule) (ls : List PlainLambda) (answers : List PlainOptimised) → IsComplete ls → (all : AreAnswers t rules ls answers) →
    (chosen : ℕ → Bool) → HoldsDeps chosen all.deps → IsKeptBy ls (with_answers chosen ls answers)

-- and so by all its answers.
abbrev pub AnswersKeepLists : Type 0
AnswersKeepLists =
    (t : RuleTable) → AreSteps t → (rules : List Rule) (ls : List PlainLambda) (answers : List PlainOptimised) → IsComplete ls → AreAnswers t rules ls answers →
    IsKeptBy ls (lambdas_of answers)

-- Under the recipe without a sweep the answers are the lambdas.
abbrev pub UnsweptAnswersAreLambdas : Type 0
UnsweptAnswersAreLambdas =
    (t : RuleTable) (ls : List PlainLambda) (answers : List PlainOptimised) → AreAnswers t [] ls answers →
    answers ≡ map (λ (l : PlainLambda). record { lambda = l; steps = []; before = lambda_values l }) ls

-- ---- images

-- Lambdas of an image that are few enough before are kept by lambdas of an image.
abbrev pub KeptListsFitImages : Type 0
KeptListsFitImages =
    (omega : PlainOmega) (ls ks : List PlainLambda) → IsKeptBy ls ks → IsProgram omega ls → IsWithinLimits omega ls →
    most_functions * most_grown_values + sum_by lambda_values ls ≤ most_program_values → IsProgram omega ks × IsWithinLimits omega ks
