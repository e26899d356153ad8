-- What is said is what the rule says.
use Rattle.g_graph.specs.Plain.{regions_of}
use Rattle.r_fold.proofs.Parts.{asked_choice, asked_loop, asked_plan}
use Rattle.r_fold.proofs.sweep.FoldingWalkRule.ask.Goals as goal

pub returns-in-Gamma : goal.returns-in-Gamma
returns-in-Gamma c =
    asked_choice c.of_choice.result c.args.words.now c.args.uses.now c.args.values c.args.next c.args.id c.args.inputs.now (regions_of c.args.regions.now) c.args.op c.in-Gamma.is c.of_choice.ensures

pub returns-in-Theta : goal.returns-in-Theta
returns-in-Theta c =
    asked_loop c.of_loop.result c.args.words.now c.args.uses.now c.args.values c.args.next c.args.id c.args.inputs.now (regions_of c.args.regions.now) c.args.op c.in-Theta.is c.of_loop.ensures

pub returns-in_default : goal.returns-in_default
returns-in_default c =
    asked_plan c.of_plan.result c.args.words.now c.args.uses.now c.args.values c.args.next c.args.id c.args.inputs.now (regions_of c.args.regions.now) c.args.op c.plain_plan-plan.result
    c.in_default.not-Gamma c.in_default.not-Theta c.plain_plan-plan.ensures c.of_plan.ensures
