use Rattle.std.proofs.Common.{add-one, ap, subst}
use Rattle.g_graph.specs.Plain.{PlainLambda}
use Rattle.r_rule.specs.Optimised.{PlainOptimised}
use Rattle.cc_view_source.specs.Names.{function_name}
use Rattle.cc_view_source.specs.Drawn.{IsShown}
use Rattle.cc_view_source.proofs.all.graphs.Goals as goal

pub loop-function-preserved : goal.loop-function-preserved
loop-function-preserved c =
    let front = c.loop-function.out.items in
    let text = c.push_shown.new.out.items in
    let named = subst (λ n. IsShown c.args.drawing n c.answer.inside.lambda front text) c.function_name-name.ensures c.in_ok-push_shown.ensures in
    let is = ap (λ (o : PlainOptimised). o.lambda) c.answer.view_is in
    let shown = subst (λ (l : PlainLambda). IsShown c.args.drawing (function_name c.args.names.now c.loop-function.function) l front text) is named in
    rw add-one (front, c.answer_at-answer.result.now, c.loop-function.invariant, c.answer_at-answer.ensures, shown)
