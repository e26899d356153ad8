use Rattle.std.proofs.Common.{ℕ, List, Vec, Global, length, map, sym, ap, subst, ◌∙◌, arith}
use Rattle.std.specs.List.{range_with_len}
use Rattle.std.specs.Arc.{arc_value}
use Rattle.std.proofs.lemmas.Result.{IfOk-weaker}
use Rattle.call_order.specs.Units.{call_lists}
use Rattle.board_core.specs.Answers.{IsRanked}
use Rattle.board_core.specs.Alone.{AreResults}
use Rattle.r_rule.specs.Optimised.{PlainOptimised}
use Rattle.g_pass_def.specs.Answers.{program, AreAnswers}
use Rattle.g_pass.specs.Sweep.{rules}
use Rattle.g_pass_work.specs.Renewal.{merged, renewal}
use Rattle.g_pass_work.specs.StaleJobs.{Jobs}
use Rattle.g_pass_work.proofs.WholeList.{answered, are-ranked}
use Rattle.g_pass_work.proofs.renewal.renewed.Goals as goal

pub functions_of-requires : goal.functions_of-requires
functions_of-requires g c = omega (arith, c.requires.kept.are_stale.count, c.requires.few)

pub new-work-requires : goal.new-work-requires
new-work-requires g c =
    let order = c.args.order.now in
    let deps = order.deps.items in
    let ranked = c.orders_are_unique.ensures.ranked c.args.lambdas.now order.ranks.items (call_lists deps) c.requires.order in
    record {
      functions_are = c.deref.ensures.value ∙ c.in_ok-functions.ensures;
      all_stale = c.requires.kept.are_stale.count;
      all_deps = ap (λ (xs : List (Vec ℕ Global)). length (call_lists xs)) c.deref-2.ensures.value ∙ ranked.deps_length;
      well_formed = c.requires.complete.well_formed;
      small = c.requires.small;
    }

pub answers_of_stale-requires-clause-few : goal.answers_of_stale-requires-clause-few
answers_of_stale-requires-clause-few g c κs within =
    omega (arith, ap (λ (w : Jobs). length w.stale) c.new-work.ensures, c.requires.kept.are_stale.count, c.requires.few)

pub answers_of_stale-requires-clause-all : goal.answers_of_stale-requires-clause-all
answers_of_stale-requires-clause-all g c κs within =
    let order = c.args.order.now in
    let deps = order.deps.items in
    let ranked = c.orders_are_unique.ensures.ranked c.args.lambdas.now order.ranks.items (call_lists deps) c.requires.order in
    ap (λ (w : Jobs). length w.deps) c.new-work.ensures
    ∙ (ap (λ (xs : List (Vec ℕ Global)). length (call_lists xs)) c.deref-2.ensures.value
    ∙ (ranked.deps_length ∙ (sym c.requires.kept.are_stale.count ∙ ap (λ (w : Jobs). length w.stale) (sym c.new-work.ensures))))

pub answers_of_stale-requires-clause-ranked : goal.answers_of_stale-requires-clause-ranked
answers_of_stale-requires-clause-ranked g c κs within =
    let order = c.args.order.now in
    let ls = c.args.lambdas.now in
    let recipe = c.args.recipe.now in
    let ranks = order.ranks.items in
    let deps = call_lists order.deps.items in
    let ranked =
    are-ranked c.answers_are_unique.ensures.exist c.orders_are_unique.ensures.ranked c.orders_are_unique.ensures.unique c.unstale_answers_are_kept.ensures rules recipe ls ranks deps c.requires.order
    c.args.stale.now (map arc_value c.args.kept.now) c.requires.kept c.args.workers in
    subst (λ (w : Jobs). IsRanked (program rules w.recipe w.lambdas c.deref-3.result.now w.deps c.args.workers)) (sym c.new-work.ensures)
    (subst (λ (ds : List (Vec ℕ Global)). IsRanked (program rules recipe ls c.deref-3.result.now (call_lists ds) c.args.workers)) (sym c.deref-2.ensures.value)
    (subst (λ (rs : List ℕ). IsRanked (program rules recipe ls rs deps c.args.workers)) (sym c.deref-3.ensures.value) ranked))

pub first_functions-requires : goal.first_functions-requires
first_functions-requires g c = omega (arith, c.requires.kept.are_stale.count, c.requires.few)

pub returns : goal.returns
returns g c =
    let order = c.args.order.now in
    let ls = c.args.lambdas.now in
    let recipe = c.args.recipe.now in
    let ranks = order.ranks.items in
    let deps = call_lists order.deps.items in
    let stale = c.args.stale.now in
    let kept = map arc_value c.args.kept.now in
    let given = map arc_value c.in_ok-given.given.items in
    let workers = c.args.workers in
    let are =
    subst (λ (ds : List (Vec ℕ Global)). AreResults (renewal (program rules recipe ls ranks (call_lists ds) workers) stale kept) given) c.deref-2.ensures.value
    (subst (λ (rs : List ℕ). AreResults (renewal (program rules recipe ls rs (call_lists c.deref-2.result.now) workers) stale kept) given) c.deref-3.ensures.value
    (subst (λ (w : Jobs). AreResults (renewal (program rules w.recipe w.lambdas c.deref-3.result.now w.deps workers) w.stale w.kept) given) c.new-work.ensures c.in_ok-given.ensures)) in
    let all =
    answered c.answers_are_unique.ensures.exist c.orders_are_unique.ensures.ranked c.orders_are_unique.ensures.unique c.unstale_answers_are_kept.ensures rules recipe ls ranks deps c.requires.order
    stale kept c.requires.kept workers given are in
    IfOk-weaker c.merged.result _ (λ whole. AreAnswers rules recipe ls (map arc_value whole.items))
    (λ whole is.
    subst (λ (xs : List PlainOptimised). AreAnswers rules recipe ls xs)
    (sym
    (is
    ∙ (ap (λ (js : List ℕ). merged stale kept js (map arc_value c.deref-5.result.now)) (c.deref-4.ensures.value ∙ c.in_ok-all.ensures)
    ∙ ap (λ xs. merged stale kept (range_with_len 0 (length stale)) (map arc_value xs)) c.deref-5.ensures.value)))
    all)
    c.merged.ensures
