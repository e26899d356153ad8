use Rattle.r_pull.proofs.Filled.{planned_is, planned_fits}
use Rattle.r_pull.proofs.rule.plan_at.Goals as goal

pub returns-in_ok-plan-in-Some-clause-plan : goal.returns-in_ok-plan-in-Some-clause-plan
returns-in_ok-plan-in-Some-clause-plan c =
    planned_is c.args.values c.args.next c.args.id c.args.region.now c.in-Some.found c.in_ok-plan-in-Some.plan c.in-Some.ensures.pull c.in-Some.ensures.user c.in_ok-plan-in-Some.ensures

pub returns-in_ok-plan-in-Some-clause-fits : goal.returns-in_ok-plan-in-Some-clause-fits
returns-in_ok-plan-in-Some-clause-fits c =
    planned_fits c.args.next c.args.id c.args.region.now c.in-Some.found c.in_ok-plan-in-Some.plan c.in-Some.ensures.user c.in_ok-plan-in-Some.ensures
