-- The answers that are kept, and those that are made anew.
use Rattle.std.proofs.Common.{◌≡◌, ℕ, [], Bool, false, List, length, map, slice_get, slice_index, slice_index_or, refl, sym, ap, subst, ◌∙◌, arith}
use Rattle.std.proofs.lemmas.List.{length-map}
use Rattle.std.specs.List.{range_with_len}
use Rattle.board_core.specs.Board.{Program, deps_of}
use Rattle.board_core.specs.Answers.{IsRanked, answer}
use Rattle.board_core.specs.Alone.{AreResults}
use Rattle.r_rule.specs.declared.steps.Rule.{Rule}
use Rattle.g_graph.specs.Plain.{PlainLambda}
use Rattle.r_rule.specs.Optimised.{PlainOptimised}
use Rattle.g_pass_order.specs.Calls.{IsOrder}
use Rattle.g_pass_order.specs.Laws.{OrdersAreRanked, OrdersAreUnique}
use Rattle.g_pass_def.specs.Sweep.{RuleTable}
use Rattle.g_pass_def.specs.Answers.{program, AreAnswers}
use Rattle.g_pass_def.specs.Laws.{AnswersExist}
use Rattle.g_pass_def.proofs.lemmas.Answers.{program-ranked, same-answers}
use Rattle.g_pass_work.specs.Stale.{IsUnstale}
use Rattle.g_pass_work.specs.Laws.{UnstaleAnswersAreKept}
use Rattle.g_pass_work.specs.Renewal.{is_stale, functions_of, stale_jobs, merged, renewal}
use Rattle.g_pass_work.proofs.lemmas.Answers.{all-answers}
use Rattle.g_pass_work.specs.StaleJobs.{Jobs, made_anew}
use Rattle.g_pass_work.specs.Kept.{AreKept}

module _ (exist : AnswersExist) (are_ranked : OrdersAreRanked) (are_unique : OrdersAreUnique) (law : UnstaleAnswersAreKept) (t : RuleTable) (rules : List Rule) (ls : List PlainLambda)
    (ranks : List ℕ) (deps : List (List ℕ)) (order : IsOrder ls ranks deps) (stale : List Bool) (kept : List PlainOptimised) (it : AreKept t rules ls deps stale kept) (workers : ℕ) where
  -- the kept answer of a function that is not stale is the one that it has now
  kept-is : (j : ℕ) → is_stale stale j ≡ false → slice_get kept j ≡ answer (program t rules ls ranks deps workers) j
  kept-is j unstale =
      let all = exist t rules ls ranks deps order in
      let now = all.1 in
      let same = are_unique ls now.ranks ranks now.deps deps now.order order in
      let there : IsUnstale it.earlier it.answered.deps ls now.deps j =
      subst (λ (ds : List (List ℕ)). IsUnstale it.earlier it.answered.deps ls ds j) (sym same.1) ((it.are_stale.each j).0 unstale) in
      sym (law t rules it.earlier ls kept all.0 it.answered now j there)
      ∙ (now.each j (there j ([], refl)).inside
      ∙ (ap (λ (rs : List ℕ). answer (program t rules ls rs now.deps 1) j) same.0
      ∙ (ap (λ (ds : List (List ℕ)). answer (program t rules ls ranks ds 1) j) same.1 ∙ same-answers t rules ls ranks deps 1 workers j)))

  all_stale : length stale ≡ length deps
  all_stale = it.are_stale.count ∙ sym (are_ranked ls ranks deps order).deps_length

  pub answered : (given : List PlainOptimised) → AreResults (renewal (program t rules ls ranks deps workers) stale kept) given →
      AreAnswers t rules ls (merged stale kept (range_with_len 0 (length stale)) given)
  answered given are =
      let p = program t rules ls ranks deps workers in
      let long = (are_ranked ls ranks deps order).deps_length in
      let small = length-map (functions_of stale) (λ (j : ℕ). stale_jobs stale (deps_of p j)) in
      let whole =
      all-answers p (program-ranked are_ranked t rules ls ranks deps order workers) stale kept all_stale kept-is given (are.count ∙ small) (λ i inside. are.each i (omega (arith, inside, small))) in
      record {
        ranks = ranks;
        deps = deps;
        order = order;
        count = whole.0 ∙ long;
        each = λ j inside. whole.1 j (omega (arith, inside, long)) ∙ same-answers t rules ls ranks deps workers 1 j;
      }

  pub are-ranked : IsRanked (program t rules ls ranks deps workers)
  are-ranked = program-ranked are_ranked t rules ls ranks deps order workers

-- ---- the program of the board

-- the board of a work has the small program
pub same-program : (t : RuleTable) (ranks : List ℕ) (workers : ℕ) (work : Jobs) (own_ranks : List ℕ) (own_deps : List (List ℕ)) → own_ranks ≡ map (slice_index ranks) (functions_of work.stale) →
    own_deps ≡ map (λ (j : ℕ). stale_jobs work.stale (slice_index_or work.deps j [])) (functions_of work.stale) →
    let board : Program PlainOptimised = record { ranks = own_ranks; deps = own_deps; workers = workers; made = made_anew t work } in
    board ≡ renewal (program t work.recipe work.lambdas ranks work.deps workers) work.stale work.kept
same-program t ranks workers work own_ranks own_deps ranks-are deps-are =
    let P : List ℕ → List (List ℕ) → Program PlainOptimised = λ rs ds. record { ranks = rs; deps = ds; workers = workers; made = made_anew t work } in
    ap (λ (rs : List ℕ). P rs own_deps) ranks-are ∙ ap (λ (ds : List (List ℕ)). P (map (slice_index ranks) (functions_of work.stale)) ds) deps-are

-- where nothing is stale there is no result
pub none-stale : (p : Program PlainOptimised) (stale : List Bool) (kept results : List PlainOptimised) → length (functions_of stale) ≡ 0 → results ≡ [] → AreResults (renewal p stale kept) results
none-stale p stale kept results none is =
    let long : length (renewal p stale kept).deps ≡ 0 = length-map (functions_of stale) (λ (j : ℕ). stale_jobs stale (deps_of p j)) ∙ none in
    record { count = ap (λ (xs : List PlainOptimised). length xs) is ∙ sym long; each = λ j inside. absurd (omega (arith, inside, long)) }
