use Rattle.std.proofs.Common.{sym, ap, subst, ◌∙◌}
use Rattle.g_pass.specs.Placed.{IsPlaced}
use Rattle.g_pass.proofs.Placed.{makes_no_step}
use Rattle.g_pass.proofs.sites.may_apply.Goals as goal

pub returns-in-Some : goal.returns-in-Some
returns-in-Some c = λ e callees.
    let placed = subst (IsPlaced c.in-Some.region.now) (ap (λ l. l.body) c.lambda.view_is) c.in-Some.ensures in
    makes_no_step c.args.rule c.args.node c.args.lambda.now c.requires c.in-Some.region.now placed (c.is_there.ensures c.if-is_there.true) (sym c.can_change.ensures ∙ e) callees
