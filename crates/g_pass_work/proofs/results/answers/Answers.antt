use Rattle.std.proofs.Common.{map, sym, ap, subst}
use Rattle.std.specs.Arc.{arc_value}
use Rattle.std.proofs.lemmas.Result.{IfOk-weaker}
use Rattle.board_core.specs.Answers.{IsRanked}
use Rattle.board_core.specs.Board.{Program}
use Rattle.board_core.specs.History.{dep_lists}
use Rattle.board_core.specs.Alone.{AreResults}
use Rattle.call_order.specs.Units.{call_lists}
use Rattle.r_rule.specs.Optimised.{PlainOptimised}
use Rattle.g_pass_def.specs.Answers.{AreAnswers}
use Rattle.g_pass.specs.Sweep.{rules}
use Rattle.g_pass_work.proofs.Answered.{ranked, same_program, answered}
use Rattle.g_pass_work.proofs.results.answers.Goals as goal

pub order-requires-clause-known : goal.order-requires-clause-known
order-requires-clause-known c = c.complete_lists_know_calls.ensures c.args.lambdas.now c.requires.complete

pub do_jobs-requires-clause-ranked : goal.do_jobs-requires-clause-ranked
do_jobs-requires-clause-ranked c κs =
    let law = c.orders_are_unique.ensures.ranked in
    let recipe = c.args.recipe.now in
    let ls = c.args.lambdas.now in
    let ranks = c.in_ok-order.order.ranks.items in
    let deps = call_lists c.in_ok-order.order.deps.items in
    let order = c.in_ok-order.ensures in
    let same =
    same_program law recipe ls ranks deps order 1 c.new-work.result c.deref.result.now (dep_lists c.deref-2.result.now) c.new-work.ensures c.deref.ensures.value
    (ap dep_lists c.deref-2.ensures.value) in
    subst (λ (p : Program PlainOptimised). IsRanked p) (sym same) (ranked law recipe ls ranks deps order 1)

pub returns : goal.returns
returns c =
    let law = c.orders_are_unique.ensures.ranked in
    let recipe = c.args.recipe.now in
    let ls = c.args.lambdas.now in
    let ranks = c.in_ok-order.order.ranks.items in
    let deps = call_lists c.in_ok-order.order.deps.items in
    let order = c.in_ok-order.ensures in
    let same =
    same_program law recipe ls ranks deps order 1 c.new-work.result c.deref.result.now (dep_lists c.deref-2.result.now) c.new-work.ensures c.deref.ensures.value
    (ap dep_lists c.deref-2.ensures.value) in
    IfOk-weaker c.do_jobs.result _ (λ all. AreAnswers rules recipe ls (map arc_value all.items))
    (λ all are.
    answered law recipe ls ranks deps order 1 (map arc_value all.items) (subst (λ (p : Program PlainOptimised). AreResults p (map arc_value all.items)) same are))
    c.do_jobs.ensures
