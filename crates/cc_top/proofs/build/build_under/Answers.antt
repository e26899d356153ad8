use Rattle.cc_top.proofs.BuildLemmas.{compiled-ends, finishes-since}
use Rattle.cc_report.specs.Report.{outcome_of}
use Rattle.cc_top.proofs.build.build_under.Goals as goal

pub returns-in-Ok-clause-ends : goal.returns-in-Ok-clause-ends
returns-in-Ok-clause-ends g c =
    let read = c.in-Ok.ensures in
    let finished = finishes-since _ _ _ _ _ _ _ _ _ _ _ _ _ read.known read.create_faults read.write_faults (outcome_of c.finish.result) c.finish.ensures.ends in
    compiled-ends _ _ _ c.args.recipe.now c.args.form _ c.args.source.now c.args.image.now _ _ _ _ _ _ _ (outcome_of c.finish.result) read.compiled finished
