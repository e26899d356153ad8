use Rattle.std.proofs.Common.{sym, ap, subst, ◌∙◌}
use Rattle.call_order.specs.Units.{call_lists, AllKnown}
use Rattle.g_pass_order.proofs.lemmas.Contained.{calls-known}
use Rattle.g_pass_order.proofs.ordering.order.Goals as goal

pub units-requires-clause-known : goal.units-requires-clause-known
units-requires-clause-known c =
    subst AllKnown (sym (ap call_lists c.as_slice.ensures.value ∙ c.in_ok-calls.ensures)) (calls-known c.args.lambdas.now)

pub deps-requires-clause-known : goal.deps-requires-clause-known
deps-requires-clause-known c =
    subst AllKnown (sym (ap call_lists c.as_slice-3.ensures.value ∙ c.in_ok-calls.ensures)) (calls-known c.args.lambdas.now)
