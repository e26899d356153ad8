use Rattle.std.proofs.Common.{[], ℕ, List, Vec, Global, length, map, slice_index_or, sym, ap, subst, ◌∙◌, arith}
use Rattle.std.proofs.Crossing.{crosses}
use denote.Param.Send.{sendable}
use Rattle.g_pass_work.proofs.Crosses.{kept-crosses}
use Rattle.std.specs.Arc.{arc_value}
use Rattle.std.proofs.lemmas.List.{length-map}
use Rattle.std.proofs.lemmas.Result.{IfOk-weaker}
use Rattle.board_core.specs.Answers.{IsRanked}
use Rattle.board_core.specs.Board.{Program}
use Rattle.board_core.specs.History.{dep_lists}
use Rattle.board_core.specs.Alone.{AreResults}
use Rattle.r_rule.specs.Optimised.{PlainOptimised}
use Rattle.g_pass_def.specs.Answers.{program}
use Rattle.g_pass.specs.Sweep.{rules}
use Rattle.g_pass_work.specs.Renewal.{functions_of, renewal, stale_jobs}
use Rattle.g_pass_work.proofs.lemmas.Answers.{small-ranked}
use Rattle.g_pass_work.proofs.lemmas.Functions.{few-functions}
use Rattle.g_pass_work.proofs.WholeList.{none-stale, same-program}
use Rattle.g_pass_work.proofs.renewal.answers_of_stale.Goals as goal

pub returns-then-is_done : goal.returns-then-is_done
returns-then-is_done g c =
    let work = c.args.work.now in
    none-stale (program rules work.recipe work.lambdas c.args.ranks.now work.deps c.args.workers) work.stale work.kept (map arc_value c.new.result.items) (c.is_done.ensures.0 c.if-is_done.true)
    (ap (map arc_value) c.new.ensures.items)

pub ranks-requires : goal.ranks-requires
ranks-requires g c = c.requires.ranked.counted ∙ c.requires.all

pub deps-requires-clause-known : goal.deps-requires-clause-known
deps-requires-clause-known g c = c.requires.ranked.known

pub do_jobs_by_workers-requires-clause-jobs : goal.do_jobs_by_workers-requires-clause-jobs
do_jobs_by_workers-requires-clause-jobs g c κs within =
    let work = c.args.work.now in
    let items : Vec ℕ Global → List ℕ = λ v. v.items in
    let own = c.in_ok-own_deps.own_deps.items in
    ap (λ (xs : List (Vec ℕ Global)). length xs) c.deref-2.ensures.value
    ∙ (sym (length-map own items)
    ∙ (ap (λ (xs : List (List ℕ)). length xs) c.in_ok-own_deps.ensures ∙ length-map (functions_of work.stale) (λ (j : ℕ). stale_jobs work.stale (slice_index_or work.deps j []))))

pub do_jobs_by_workers-requires-clause-few : goal.do_jobs_by_workers-requires-clause-few
do_jobs_by_workers-requires-clause-few g c κs within =
    let work = c.args.work.now in
    let items : Vec ℕ Global → List ℕ = λ v. v.items in
    let own = c.in_ok-own_deps.own_deps.items in
    let long =
    ap (λ (xs : List (Vec ℕ Global)). length xs) c.deref-2.ensures.value
    ∙ (sym (length-map own items)
    ∙ (ap (λ (xs : List (List ℕ)). length xs) c.in_ok-own_deps.ensures ∙ length-map (functions_of work.stale) (λ (j : ℕ). stale_jobs work.stale (slice_index_or work.deps j [])))) in
    omega (arith, long, few-functions work.stale, c.requires.few)

pub do_jobs_by_workers-requires-clause-ranked : goal.do_jobs_by_workers-requires-clause-ranked
do_jobs_by_workers-requires-clause-ranked g c κs within =
    let work = c.args.work.now in
    let p = program rules work.recipe work.lambdas c.args.ranks.now work.deps c.args.workers in
    let same =
    same-program rules c.args.ranks.now c.args.workers work c.deref.result.now (dep_lists c.deref-2.result.now) (c.deref.ensures.value ∙ c.in_ok-own_ranks.ensures)
    (ap dep_lists c.deref-2.ensures.value ∙ c.in_ok-own_deps.ensures) in
    subst (λ (q : Program PlainOptimised). IsRanked q) (sym same) (small-ranked p c.requires.ranked work.stale work.kept (sym c.requires.all))

pub returns : goal.returns
returns g c =
    let work = c.args.work.now in
    let p = program rules work.recipe work.lambdas c.args.ranks.now work.deps c.args.workers in
    let same =
    same-program rules c.args.ranks.now c.args.workers work c.deref.result.now (dep_lists c.deref-2.result.now) (c.deref.ensures.value ∙ c.in_ok-own_ranks.ensures)
    (ap dep_lists c.deref-2.ensures.value ∙ c.in_ok-own_deps.ensures) in
    IfOk-weaker c.do_jobs_by_workers.result _ (λ given. AreResults (renewal p work.stale work.kept) (map arc_value given.items))
    (λ given are. subst (λ (q : Program PlainOptimised). AreResults q (map arc_value given.items)) same are) c.do_jobs_by_workers.ensures

pub do_jobs_by_workers-requires-send-W : goal.do_jobs_by_workers-requires-send-W
do_jobs_by_workers-requires-send-W g c κs within = search (sendable, crosses, kept-crosses) depth 40 fits 20000

pub do_jobs_by_workers-requires-sync-W : goal.do_jobs_by_workers-requires-sync-W
do_jobs_by_workers-requires-sync-W g c κs within = search (sendable, crosses, kept-crosses) depth 40 fits 20000
