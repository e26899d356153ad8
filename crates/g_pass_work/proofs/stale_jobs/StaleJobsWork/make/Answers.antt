use Rattle.std.proofs.Common.{◌≡◌, ◌<◌, ◌^◌, [], ℕ, List, Vec, Global, length, map, slice_index, refl, sym, ap, subst, ◌∙◌, arith}
use Rattle.std.specs.Prelude.{unwrap_or, IfOk}
use Rattle.std.specs.Arc.{arc_value}
use Rattle.std.proofs.lemmas.List.{length-map, get_or-map}
use Rattle.std.proofs.lemmas.Option.{slice_get_read}
use Rattle.call_order.specs.Units.{call_lists}
use Rattle.g_graph.specs.Plain.{PlainLambda}
use Rattle.g_graph.specs.Program.{lambda_values}
use Rattle.g_graph.specs.WellFormed.{IsWellFormed}
use Rattle.g_pass_order.specs.Calls.{no_lambda}
use Rattle.g_pass.specs.Sweep.{rules}
use Rattle.g_pass_work.specs.Renewal.{functions_of}
use Rattle.g_pass_work.specs.StaleJobs.{Jobs, made_anew}
use Rattle.g_pass_work.proofs.OneJob.{job-inside, function-inside, has-deps, made-is}
use Rattle.g_pass_work.proofs.stale_jobs.StaleJobsWork.make.Goals as goal

pub bounds-functions-job : goal.bounds-functions-job
bounds-functions-job c =
    let fields = c.self.inside in
    let low : c.args.job < length (functions_of fields.stale.now) = omega (arith, c.requires, ap (λ (w : Jobs). length (functions_of w.stale)) c.self.view_is) in
    job-inside fields.lambdas.now fields.functions.now fields.stale.now (call_lists fields.deps.now) c.self.invariant c.args.job low

pub bounds-all_deps-function : goal.bounds-all_deps-function
bounds-all_deps-function c =
    let fields = c.self.inside in
    let low : c.args.job < length (functions_of fields.stale.now) = omega (arith, c.requires, ap (λ (w : Jobs). length (functions_of w.stale)) c.self.view_is) in
    let items : Vec ℕ Global → List ℕ = λ v. v.items in
    omega (arith, has-deps fields.lambdas.now fields.functions.now fields.stale.now (call_lists fields.deps.now) c.self.invariant c.args.job low, length-map fields.deps.now items)

pub bounds-lambdas-function : goal.bounds-lambdas-function
bounds-lambdas-function c =
    let fields = c.self.inside in
    let low : c.args.job < length (functions_of fields.stale.now) = omega (arith, c.requires, ap (λ (w : Jobs). length (functions_of w.stale)) c.self.view_is) in
    function-inside fields.lambdas.now fields.functions.now fields.stale.now (call_lists fields.deps.now) c.self.invariant c.args.job low

pub optimise-requires-clause-small : goal.optimise-requires-clause-small
optimise-requires-clause-small c =
    let fields = c.self.inside in
    let ls = fields.lambdas.now in
    let low : c.args.job < length (functions_of fields.stale.now) = omega (arith, c.requires, ap (λ (w : Jobs). length (functions_of w.stale)) c.self.view_is) in
    let f = slice_index fields.functions.now c.args.job in
    let x = c.index-lambdas-function.result in
    let inside = function-inside ls fields.functions.now fields.stale.now (call_lists fields.deps.now) c.self.invariant c.args.job low in
    let here = slice_get_read ls (length ls) f x refl inside c.index-lambdas-function.is in
    subst (λ (l : PlainLambda). lambda_values l < 2 ^ 32) (sym c.in_ok-lambda.ensures) (c.self.invariant.small f x here)

pub optimise-requires-clause-well_formed : goal.optimise-requires-clause-well_formed
optimise-requires-clause-well_formed c =
    let fields = c.self.inside in
    let ls = fields.lambdas.now in
    let low : c.args.job < length (functions_of fields.stale.now) = omega (arith, c.requires, ap (λ (w : Jobs). length (functions_of w.stale)) c.self.view_is) in
    let f = slice_index fields.functions.now c.args.job in
    let x = c.index-lambdas-function.result in
    let inside = function-inside ls fields.functions.now fields.stale.now (call_lists fields.deps.now) c.self.invariant c.args.job low in
    let here = slice_get_read ls (length ls) f x refl inside c.index-lambdas-function.is in
    subst (λ (l : PlainLambda). IsWellFormed l) (sym c.in_ok-lambda.ensures) (c.self.invariant.well_formed f x here)

pub returns : goal.returns
returns c =
    let fields = c.self.inside in
    let ls = fields.lambdas.now in
    let deps = call_lists fields.deps.now in
    let low : c.args.job < length (functions_of fields.stale.now) = omega (arith, c.requires, ap (λ (w : Jobs). length (functions_of w.stale)) c.self.view_is) in
    let f = slice_index fields.functions.now c.args.job in
    let items : Vec ℕ Global → List ℕ = λ v. v.items in
    let x = c.index-lambdas-function.result in
    let y = c.index-all_deps-function.result in
    let there = has-deps ls fields.functions.now fields.stale.now deps c.self.invariant c.args.job low in
    let here = slice_get_read ls (length ls) f x refl (function-inside ls fields.functions.now fields.stale.now deps c.self.invariant c.args.job low) c.index-lambdas-function.is in
    let lambda = c.in_ok-lambda.ensures ∙ ap (λ o. unwrap_or o no_lambda) (sym here) in
    let own = c.as_slice-deps.ensures.value ∙ (ap items c.index-all_deps-function.is ∙ sym (get_or-map items fields.deps.now f y [] (omega (arith, there, length-map fields.deps.now items)))) in
    let answers = ap (map arc_value) c.deref.ensures.value ∙ c.in_ok-answers.ensures in
    let same =
    made-is ls fields.functions.now fields.stale.now deps c.self.invariant c.args.job low rules fields.recipe.now (map arc_value fields.kept.now) (map arc_value c.args.callees.now)
    c.as_slice-deps.result.now (map arc_value c.deref.result.now) c.in_ok-lambda.lambda own answers lambda
    ∙ ap (λ (j : Jobs). made_anew rules j c.args.job (map arc_value c.args.callees.now)) c.self.view_is in
    subst (λ y'. IfOk c.optimise.result (λ it. it ≡ y')) same c.optimise.ensures
