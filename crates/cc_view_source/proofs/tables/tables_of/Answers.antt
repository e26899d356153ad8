use Rattle.std.proofs.Common.{sym, ap, subst, ◌∙◌}
use Rattle.g_pass_order.specs.Calls.{CallsAreKnown}
use Rattle.cc_view_source.specs.declared.making.Made.{Made}
use Rattle.cc_view_source.proofs.tables.tables_of.Goals as goal

pub order-requires-clause-known : goal.order-requires-clause-known
order-requires-clause-known c =
    let same = c.deref.ensures.value ∙ ap (λ (m : Made). m.omega.lambdas) c.made.view_is in
    subst CallsAreKnown (sym same) (c.complete_lists_know_calls.ensures c.args.made.now.omega.lambdas c.requires.complete)
