-- A list of lambdas has one list of answers, and each is made of those of its deps.
use Rattle.std.proofs.Common.{◌≡◌, ◌<◌, ℕ, zero, suc, List, [], length, map, Option, None, Some, slice_get, slice_index, slice_index_or, IsSome, refl, sym, ap, subst, ◌∙◌, arith}
use Rattle.std.specs.Prelude.{option_map, unwrap_or}
use Rattle.std.specs.List.{range_with_len}
use Rattle.std.proofs.lemmas.List.{length-map, ext_get_or}
use Rattle.std.proofs.lemmas.List.FromFn.{length-map-range_with_len, get_or-map-range_with_len}
use Rattle.std.proofs.lemmas.Option.{slice_get-map, slice_get-get_or, unwrap_or-slice_get}
use Rattle.board_core.specs.Answers.{IsRanked, all_some, answer_below, answer}
use Rattle.board_core.proofs.lemmas.Answers.{some-of, same-results, answers-come-of-deps, jobs-have-answers}
use Rattle.r_rule.specs.declared.steps.Rule.{Rule}
use Rattle.g_graph.specs.Plain.{PlainLambda}
use Rattle.r_rule.specs.Optimised.{PlainOptimised}
use Rattle.g_graph.specs.Program.{lambda_values}
use Rattle.g_pass_order.specs.Calls.{no_lambda, IsOrder}
use Rattle.g_pass_order.specs.Laws.{OrdersAreRanked, OrdersAreUnique}
use Rattle.g_pass_def.specs.Sweep.{RuleTable}
use Rattle.g_pass_def.specs.Answers.{made, program, AreAnswers}
use Rattle.g_pass_def.specs.Laws.{AnswersExist, AnswersAreUnique, UnsweptAnswersAreLambdas}

-- two lists of one length with the same elements
same-lists : (xs ys : List PlainOptimised) → length xs ≡ length ys → ((j : ℕ) → j < length xs → slice_get xs j ≡ slice_get ys j) → xs ≡ ys
same-lists xs ys long same =
    let d : PlainOptimised = record { lambda = no_lambda; steps = []; before = 0 } in
    ext_get_or d xs ys long (λ j h. sym (unwrap_or-slice_get xs j d) ∙ (ap (λ o. unwrap_or o d) (same j h) ∙ unwrap_or-slice_get ys j d))

module _ (is_ranked : OrdersAreRanked) (t : RuleTable) (rules : List Rule) (ls : List PlainLambda) (ranks : List ℕ) (deps : List (List ℕ)) (order : IsOrder ls ranks deps) where
  pub program-ranked : (workers : ℕ) → IsRanked (program t rules ls ranks deps workers)
  program-ranked workers =
      let here = is_ranked ls ranks deps order in
      record {
        counted = here.ranks_length ∙ sym here.deps_length;
        known = λ j d h. omega (arith, (here.dep j d h).known, here.deps_length);
        smaller = λ j d h. (here.dep j d h).smaller;
      }

  has-answer : (workers j : ℕ) → j < length ls → IsSome (answer (program t rules ls ranks deps workers) j)
  has-answer workers j inside =
      jobs-have-answers (program t rules ls ranks deps workers) (program-ranked workers) j (omega (arith, inside, (is_ranked ls ranks deps order).deps_length))

-- the number of workers does not matter
below-same : (t : RuleTable) (rules : List Rule) (ls : List PlainLambda) (ranks : List ℕ) (deps : List (List ℕ)) (v w bound j : ℕ) →
    answer_below (program t rules ls ranks deps v) bound j ≡ answer_below (program t rules ls ranks deps w) bound j
below-same t rules ls ranks deps v w zero j = refl
below-same t rules ls ranks deps v w (suc bound) j =
    ap (λ xs. option_map (made t rules ls j) (all_some xs))
    (same-results (answer_below (program t rules ls ranks deps v) bound) (answer_below (program t rules ls ranks deps w) bound) (slice_index_or deps j [])
    (λ d h. below-same t rules ls ranks deps v w bound d))

pub same-answers : (t : RuleTable) (rules : List Rule) (ls : List PlainLambda) (ranks : List ℕ) (deps : List (List ℕ)) (v w j : ℕ) →
    answer (program t rules ls ranks deps v) j ≡ answer (program t rules ls ranks deps w) j
same-answers t rules ls ranks deps v w j = below-same t rules ls ranks deps v w (suc (slice_index ranks j)) j

-- What the answer of a function is made of.
pub record IsMadeOf (t : RuleTable) (rules : List Rule) (ls : List PlainLambda) (answers : List PlainOptimised) (all : AreAnswers t rules ls answers) (j : ℕ) : Type 0 where
  pub callees : List PlainOptimised
  pub callees_are : all_some (map (answer (program t rules ls all.ranks all.deps 1)) (slice_index_or all.deps j [])) ≡ Some callees
  pub is : slice_get answers j ≡ Some (made t rules ls j callees)

pub made-of : OrdersAreRanked → (t : RuleTable) (rules : List Rule) (ls : List PlainLambda) (answers : List PlainOptimised) (all : AreAnswers t rules ls answers) (j : ℕ) → j < length ls →
    IsMadeOf t rules ls answers all j
made-of is_ranked t rules ls answers all j inside =
    let p = program t rules ls all.ranks all.deps 1 in
    let come = answers-come-of-deps p (program-ranked is_ranked t rules ls all.ranks all.deps all.order 1) j in
    let some = some-of (answer p j) (has-answer is_ranked t rules ls all.ranks all.deps all.order 1 j inside) in
    by (all_some (map (answer p) (slice_index_or all.deps j []))) refl some.0 (sym come ∙ some.1) (all.each j inside ∙ come)
  where
    by : (o : Option (List PlainOptimised)) → all_some (map (answer (program t rules ls all.ranks all.deps 1)) (slice_index_or all.deps j [])) ≡ o → (a : PlainOptimised) →
        option_map (made t rules ls j) (all_some (map (answer (program t rules ls all.ranks all.deps 1)) (slice_index_or all.deps j []))) ≡ Some a →
        slice_get answers j ≡ option_map (made t rules ls j) (all_some (map (answer (program t rules ls all.ranks all.deps 1)) (slice_index_or all.deps j []))) →
        IsMadeOf t rules ls answers all j
    by None e a is_some at = let none = subst (λ o. option_map (made t rules ls j) o ≡ Some a) e is_some in absurd cc
    by (Some outs) e a is_some at = record { callees = outs; callees_are = e; is = at ∙ ap (option_map (made t rules ls j)) e }

pub answers_exist : OrdersAreRanked → AnswersExist
answers_exist is_ranked t rules ls ranks deps order =
    let p = program t rules ls ranks deps 1 in
    let d : PlainOptimised = record { lambda = no_lambda; steps = []; before = 0 } in
    let one : ℕ → PlainOptimised = λ j. unwrap_or (answer p j) d in
    let answers = map one (range_with_len 0 (length ls)) in
    let long = length-map-range_with_len one 0 (length ls) in (
      answers,
      record {
        ranks = ranks;
        deps = deps;
        order = order;
        count = long;
        each = λ j inside.
            let some = some-of (answer p j) (has-answer is_ranked t rules ls ranks deps order 1 j inside) in
            slice_get-get_or answers j d (omega (arith, inside, long))
            ∙ (ap (λ a. Some a) (get_or-map-range_with_len one 0 (length ls) j j d inside (omega arith) ∙ ap (λ o. unwrap_or o d) some.1) ∙ sym some.1);
      },
    )

pub answers_are_unique : OrdersAreUnique → AnswersAreUnique
answers_are_unique is_unique t rules ls xs ys one other =
    let same = is_unique ls one.ranks other.ranks one.deps other.deps one.order other.order in
    let program_at : List ℕ → List (List ℕ) → ℕ → Option PlainOptimised = λ rs ds j. answer (program t rules ls rs ds 1) j in
    same-lists xs ys (one.count ∙ sym other.count)
    (λ j h.
    let inside : j < length ls = omega (arith, h, one.count) in
    one.each j inside
    ∙ (ap (λ rs. program_at rs one.deps j) same.0 ∙ (ap (λ ds. program_at other.ranks ds j) same.1 ∙ sym (other.each j inside))))

pub unswept_answers_are_lambdas : OrdersAreRanked → UnsweptAnswersAreLambdas
unswept_answers_are_lambdas is_ranked t ls answers all =
    let plain : PlainLambda → PlainOptimised = λ l. record { lambda = l; steps = []; before = lambda_values l } in
    same-lists answers (map plain ls) (all.count ∙ sym (length-map ls plain))
    (λ j h.
    let inside : j < length ls = omega (arith, h, all.count) in
    let at = slice_get-get_or ls j no_lambda inside in
    (made-of is_ranked t [] ls answers all j inside).is
    ∙ (ap (λ o. Some (plain (unwrap_or o no_lambda))) at ∙ (ap (option_map plain) (sym at) ∙ sym (slice_get-map plain ls j))))
