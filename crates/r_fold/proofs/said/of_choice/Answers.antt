-- The first input is the predicate.
use Rattle.g_graph.specs.Plain.{regions_of}
use Rattle.r_fold.proofs.Parts.{choice_is}
use Rattle.r_fold.proofs.said.of_choice.Goals as goal

pub returns-in-Some : goal.returns-in-Some
returns-in-Some c =
    choice_is c.opened_on.result c.args.words.now c.args.inputs.now c.in-Some.entries.now c.in-Some.predicate.now (regions_of c.args.regions.now) c.constant.result c.in-Some.ensures.cases.0
    c.constant.ensures c.opened_on.ensures
