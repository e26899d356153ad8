use Rattle.std.proofs.Common.{◌≡◌, [], ℕ, List, Vec, Global, length, map, slice_index_or, sym, ap, subst, ◌∙◌, arith}
use Rattle.std.specs.Prelude.{IfOk}
use Rattle.std.proofs.lemmas.List.{length-map}
use Rattle.call_order.specs.Units.{call_lists, AllKnown}
use Rattle.g_pass_work.specs.Renewal.{functions_of, stale_jobs}
use Rattle.g_pass_work.specs.StaleJobs.{Jobs}
use Rattle.g_pass_work.proofs.OneJob.{known}
use Rattle.g_pass_work.proofs.stale_jobs.StaleJobs.deps.Goals as goal

pub jobs_of-requires : goal.jobs_of-requires
jobs_of-requires c = omega (arith, c.requires.few, ap (λ (w : Jobs). length w.stale) c.self.view_is)

pub deps_of-requires-clause-jobs : goal.deps_of-requires-clause-jobs
deps_of-requires-clause-jobs c = c.deref.ensures.value ∙ c.in_ok-jobs.ensures

pub deps_of-requires-clause-all : goal.deps_of-requires-clause-all
deps_of-requires-clause-all c =
    let fields = c.self.inside in
    let items : Vec ℕ Global → List ℕ = λ v. v.items in
    omega (arith, c.self.invariant.all_deps, c.self.invariant.all_stale, length-map fields.deps.now items)

pub deps_of-requires-clause-known : goal.deps_of-requires-clause-known
deps_of-requires-clause-known c = subst (λ (w : Jobs). AllKnown w.deps) (sym c.self.view_is) c.requires.known

pub deps_of-requires-clause-inside : goal.deps_of-requires-clause-inside
deps_of-requires-clause-inside c j h =
    let fields = c.self.inside in
    let items : Vec ℕ Global → List ℕ = λ v. v.items in
    omega (
      arith,
      known fields.lambdas.now fields.functions.now fields.stale.now (call_lists fields.deps.now) c.self.invariant j h,
      c.self.invariant.all_deps,
      c.self.invariant.all_stale,
      length-map fields.deps.now items,
    )

pub returns : goal.returns
returns c =
    let fields = c.self.inside in
    let same : map (λ j. stale_jobs fields.stale.now (slice_index_or (call_lists fields.deps.now) j [])) fields.functions.now
    ≡ map (λ j. stale_jobs c.args.self.now.stale (slice_index_or c.args.self.now.deps j [])) (functions_of c.args.self.now.stale) =
    ap (map (λ j. stale_jobs fields.stale.now (slice_index_or (call_lists fields.deps.now) j []))) c.self.invariant.functions_are
    ∙ ap (λ (w : Jobs). map (λ j. stale_jobs w.stale (slice_index_or w.deps j [])) (functions_of w.stale)) c.self.view_is in
    subst (λ (ks : List (List ℕ)). IfOk c.deps_of.result (λ own. call_lists own.items ≡ ks)) same c.deps_of.ensures
