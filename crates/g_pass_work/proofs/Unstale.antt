-- A function that is not stale keeps its answer.
use Rattle.std.proofs.Common.{◌≡◌, ◌<◌, ℕ, zero, suc, List, [], ◌∷◌, length, map, slice_get, slice_index, slice_index_or, Contains, refl, sym, ap, subst, ◌∙◌, arith}
use Rattle.std.specs.Prelude.{option_map, unwrap_or}
use Rattle.std.proofs.lemmas.Option.{slice_get_within, slice_get-get_or, unwrap_or-slice_get}
use Rattle.call_order.specs.Units.{Reaches}
use Rattle.board_core.specs.Answers.{all_some, answer}
use Rattle.board_core.proofs.lemmas.Answers.{same-results, answers-come-of-deps}
use Rattle.r_rule.specs.declared.steps.Rule.{Rule}
use Rattle.g_graph.specs.Plain.{PlainLambda}
use Rattle.r_rule.specs.Optimised.{PlainOptimised}
use Rattle.g_pass_order.specs.Calls.{no_lambda}
use Rattle.g_pass_order.specs.Laws.{OrdersAreRanked}
use Rattle.g_pass_def.specs.Sweep.{RuleTable, optimise}
use Rattle.g_pass_def.specs.Answers.{lambdas_of, made, program, AreAnswers}
use Rattle.g_pass_def.proofs.lemmas.Answers.{program-ranked}
use Rattle.g_pass_work.specs.Stale.{IsUnchanged, IsUnstale}
use Rattle.g_pass_work.specs.Laws.{StalenessComesOfDeps, UnstaleAnswersAreKept}

-- ---- what deps lead to

-- what holds of all functions to which a function leads holds of it, and of those to which its deps lead
pub at-deps : (P : ℕ → Type 0) (deps : List (List ℕ)) (j : ℕ) → ((k : ℕ) → Reaches deps j k → P k) →
    P j × ((d : ℕ) → Contains (slice_index_or deps j []) d → (k : ℕ) → Reaches deps d k → P k)
at-deps P deps j all = (all j ([], refl), λ d called k path. all k (d ∷ path.0, (called, path.1)))

pub from-deps : (P : ℕ → Type 0) (deps : List (List ℕ)) (j : ℕ) → P j → ((d : ℕ) → Contains (slice_index_or deps j []) d → (k : ℕ) → Reaches deps d k → P k) →
    (k : ℕ) → Reaches deps j k → P k
from-deps P deps j own each k ([], same) = subst P same own
from-deps P deps j own each k (next ∷ path, steps) = each next steps.0 k (path, steps.1)

pub staleness_comes_of_deps : StalenessComesOfDeps
staleness_comes_of_deps old old_deps new deps j =
    let P : ℕ → Type 0 = λ k. IsUnchanged old old_deps new deps k in
    (λ all. at-deps P deps j all, λ parts. from-deps P deps j parts.0 parts.1)

-- ---- answers

-- what is there in a list is there in one that agrees with it
inside-too : {A : Type 0} (xs ys : List A) (j : ℕ) (d : A) → j < length ys → slice_get xs j ≡ slice_get ys j → j < length xs
inside-too xs ys j d inside same = slice_get_within xs j (slice_index_or ys j d) (same ∙ slice_get-get_or ys j d inside)

same-at : {A : Type 0} (xs ys : List A) (j : ℕ) (d : A) → slice_get xs j ≡ slice_get ys j → slice_index_or xs j d ≡ slice_index_or ys j d
same-at xs ys j d same = sym (unwrap_or-slice_get xs j d) ∙ (ap (λ o. unwrap_or o d) same ∙ unwrap_or-slice_get ys j d)

module _ (is_ranked : OrdersAreRanked) (t : RuleTable) (rules : List Rule) (old new : List PlainLambda) (xs ys : List PlainOptimised)
    (before : AreAnswers t rules old xs) (now : AreAnswers t rules new ys) where
  -- the answers of a function are made of the same
  same-answers-of : (j : ℕ) → IsUnchanged old before.deps new now.deps j →
      ((d : ℕ) → Contains (slice_index_or now.deps j []) d → answer (program t rules new now.ranks now.deps 1) d ≡ answer (program t rules old before.ranks before.deps 1) d) →
      answer (program t rules new now.ranks now.deps 1) j ≡ answer (program t rules old before.ranks before.deps 1) j
  same-answers-of j same each =
      let p = program t rules old before.ranks before.deps 1 in
      let q = program t rules new now.ranks now.deps 1 in
      let deps_same = same-at before.deps now.deps j [] same.deps_are in
      answers-come-of-deps q (program-ranked is_ranked t rules new now.ranks now.deps now.order 1) j
      ∙ (ap (λ os. option_map (made t rules new j) (all_some os)) (same-results (answer q) (answer p) (slice_index_or now.deps j []) each)
      ∙ (ap (λ ds. option_map (made t rules new j) (all_some (map (answer p) ds))) (sym deps_same)
      ∙ (ap (λ o. option_map (λ callees. optimise t (lambdas_of callees) rules (unwrap_or o no_lambda)) (all_some (map (answer p) (slice_index_or before.deps j [])))) (sym same.lambda)
      ∙ sym (answers-come-of-deps p (program-ranked is_ranked t rules old before.ranks before.deps before.order 1) j))))

  -- by the ranks of the new list alone: that of a function that is not stale may be another than it was
  same-below : (bound j : ℕ) → slice_index now.ranks j < bound → IsUnstale old before.deps new now.deps j →
      answer (program t rules new now.ranks now.deps 1) j ≡ answer (program t rules old before.ranks before.deps 1) j
  same-below zero j below unstale = absurd (omega (arith, below))
  same-below (suc bound) j below unstale =
      let parts = at-deps (λ k. IsUnchanged old before.deps new now.deps k) now.deps j unstale in
      same-answers-of j parts.0
      (λ d called. same-below bound d (omega (arith, below, ((is_ranked new now.ranks now.deps now.order).dep j d called).smaller)) (parts.1 d called))

pub unstale_answers_are_kept : OrdersAreRanked → UnstaleAnswersAreKept
unstale_answers_are_kept is_ranked t rules old new xs ys before now j unstale =
    let same = unstale j ([], refl) in
    now.each j same.inside
    ∙ (same-below is_ranked t rules old new xs ys before now (suc (slice_index now.ranks j)) j (omega arith) unstale
    ∙ sym (before.each j (inside-too old new j no_lambda same.inside same.lambda)))
