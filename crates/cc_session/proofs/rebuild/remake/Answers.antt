use Rattle.std.proofs.Common.{Bool, List, sym, subst}
use Rattle.call_order.specs.Units.{call_lists}
use Rattle.r_rule.specs.Optimised.{PlainOptimised}
use Rattle.g_pass.specs.Sweep.{rules}
use Rattle.g_pass_work.specs.Kept.{AreKept}
use Rattle.cc_session.specs.Session.{answers_of}
use Rattle.cc_session.proofs.Earlier.{kept-of}
use Rattle.cc_session.proofs.rebuild.remake.Goals as goal

pub order-requires-clause-known : goal.order-requires-clause-known
order-requires-clause-known g c = c.complete_lists_know_calls.ensures c.args.lambdas.now c.requires.complete

pub renewed-requires-clause-kept : goal.renewed-requires-clause-kept
renewed-requires-clause-kept g c κs within =
    let recipe = c.args.recipe.now in
    let last = c.args.last.now in
    let ls = c.args.lambdas.now in
    let deps = call_lists c.in_ok-order.order.deps.items in
    let kept = kept-of recipe last c.requires.kept ls deps c.in_ok-stale.stale.items c.in_ok-stale.ensures in
    subst (λ (xs : List PlainOptimised). AreKept rules recipe ls deps c.deref.result.now xs) (sym c.answers_of-kept.ensures)
    (subst (λ (st : List Bool). AreKept rules recipe ls deps st (answers_of last)) (sym c.deref.ensures.value) kept)
