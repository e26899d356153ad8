use Rattle.std.proofs.Common.{◌<◌, List, ℕ, length, map, subst, ap, arith}
use Rattle.std.specs.Prelude.{slice_index}
use Rattle.std.proofs.lemmas.List.{length-map}
use Rattle.std.specs.Arc.{arc_value}
use Rattle.call_order.specs.Units.{call_lists}
use Rattle.r_rule.specs.Optimised.{PlainOptimised}
use Rattle.g_pass_def.specs.Answers.{lambdas_of}
use Rattle.log_check.proofs.Taken.{all-right, begins}
use Rattle.log_check.proofs.ranks.replay.Goals as goal

pub order-requires-clause-known : goal.order-requires-clause-known
order-requires-clause-known c = c.complete_lists_know_calls.ensures c.args.lambdas.now c.requires.complete

pub loop-rank-init : goal.loop-rank-init
loop-rank-init c =
    let ls = c.args.lambdas.now in
    let order = c.in_ok-order.order in
    let deps = call_lists order.deps.items in
    let made = c.in_ok-made.made.items in
    begins ls order.ranks.items deps c.args.log.now (c.orders_are_unique.ensures.ranked ls order.ranks.items deps c.in_ok-order.ensures) (lambdas_of (map arc_value made))
    (omega (arith, c.in_ok-made.ensures, length-map made arc_value, length-map (map arc_value made) (λ (o : PlainOptimised). o.lambda)))

pub returns-clause-right : goal.returns-clause-right
returns-clause-right c =
    let ls = c.args.lambdas.now in
    let order = c.in_ok-order.order in
    let ranks = order.ranks.items in
    let deps = call_lists order.deps.items in
    all-right ls ranks deps c.args.log.now (c.orders_are_unique.ensures.ranked ls ranks deps c.in_ok-order.ensures) c.in_ok-order.ensures c.loop-rank.rank
    (lambdas_of (map arc_value c.loop-rank.made.items)) c.loop-rank.invariant (λ j inside.
    let there : j < length c.deref.result.now = omega (arith, inside, ap (λ (rs : List ℕ). length rs) c.deref.ensures.value) in
    let low = subst (λ (rs : List ℕ). slice_index rs j < c.above_all-rank-end.result) c.deref.ensures.value (c.above_all-rank-end.ensures j there) in
    omega (arith, low, c.loop-rank-test.false))
