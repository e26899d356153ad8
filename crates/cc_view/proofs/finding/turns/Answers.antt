use Rattle.std.proofs.Common.{◌≡◌, ℕ, List, subst}
use Rattle.call_order.specs.Units.{call_lists}
use Rattle.g_pass_order.specs.Calls.{IsOrder}
use Rattle.cc_view.proofs.Turning.{turns-are}
use Rattle.cc_view.proofs.finding.turns.Goals as goal

pub returns : goal.returns
returns c =
    let ls = c.args.lambdas.now in
    let deps = call_lists c.in_ok-ranks.field-0.deps.items in
    let ranks : c.in_ok-ranks.field-0.ranks.items ≡ c.as_slice.result.now = cc in
    let order = subst (λ (rs : List ℕ). IsOrder ls rs deps) ranks c.in_ok-ranks.ensures in
    turns-are c.callee_ranks_below.ensures c.units_are_mutual.ensures ls c.requires.known c.as_slice.result.now deps order c.in_ok-turns.turns.items
    c.in_ok-turns.ensures.counted c.in_ok-turns.ensures.all c.in_ok-turns.ensures.sorted
