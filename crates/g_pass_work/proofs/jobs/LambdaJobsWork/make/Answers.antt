use Rattle.std.proofs.Common.{◌≡◌, ◌<◌, ◌^◌, length, map, refl, sym, ap, subst, ◌∙◌, arith}
use Rattle.std.specs.Prelude.{unwrap_or, IfOk}
use Rattle.std.specs.Arc.{arc_value}
use Rattle.std.proofs.lemmas.Option.{slice_get_read}
use Rattle.g_graph.specs.Plain.{PlainLambda}
use Rattle.g_graph.specs.Program.{lambda_values}
use Rattle.g_pass_order.specs.Calls.{no_lambda}
use Rattle.g_pass_def.specs.Answers.{lambdas_of, made}
use Rattle.g_pass_def.specs.Sweep.{optimise}
use Rattle.g_pass.specs.Sweep.{rules}
use Rattle.g_pass_work.specs.Jobs.{Jobs}
use Rattle.g_pass_work.proofs.jobs.LambdaJobsWork.make.Goals as goal

pub optimise-requires-clause-small : goal.optimise-requires-clause-small
optimise-requires-clause-small c =
    let ls = c.self.inside.lambdas.now in
    let x = c.index-self-job.result in
    let long = ap (λ (j : Jobs). length j.lambdas) c.self.view_is in
    let here = slice_get_read ls (length ls) c.args.job x refl (omega (arith, c.requires, long)) c.index-self-job.is in
    subst (λ (l : PlainLambda). lambda_values l < 2 ^ 32) (sym (c.in_ok-lambda.ensures ∙ sym c.index-self-job.is)) (c.self.invariant c.args.job x here).1

pub returns : goal.returns
returns c =
    let ls = c.self.inside.lambdas.now in
    let x = c.index-self-job.result in
    let long = ap (λ (j : Jobs). length j.lambdas) c.self.view_is in
    let here = slice_get_read ls (length ls) c.args.job x refl (omega (arith, c.requires, long)) c.index-self-job.is in
    let callees = map arc_value c.args.callees.now in
    let lambda = c.in_ok-lambda.ensures ∙ (sym c.index-self-job.is ∙ ap (λ o. unwrap_or o no_lambda) (sym here)) in
    let same =
    ap (optimise rules (lambdas_of callees) c.self.inside.recipe.now) lambda
    ∙ ap (λ (j : Jobs). made rules j.recipe j.lambdas c.args.job callees) c.self.view_is in
    subst (λ y. IfOk c.optimise.result (λ it. it ≡ y)) same c.optimise.ensures
