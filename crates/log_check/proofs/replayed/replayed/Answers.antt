use Rattle.std.proofs.Common.{map, arith, length, ap, length-drop}
use Rattle.std.proofs.lemmas.List.{take_rest}
use Rattle.std.specs.Arc.{arc_value}
use Rattle.g_pass_def.specs.Answers.{lambdas_of}
use Rattle.log_check.proofs.Followed.{series-more, fails-later}
use Rattle.log_check.proofs.replayed.replayed.Goals as goal

pub returns-in-Err-clause-fault : goal.returns-in-Err-clause-fault
returns-in-Err-clause-fault c =
    fails-later (lambdas_of (map arc_value c.args.callees.now)) c.args.steps.now _ c.args.lambda.now c.loop-made.changed c.args.line c.loop-made.made c.in-Err.fault
    (take_rest c.args.steps.now c.loop-made.made) c.loop-made.invariant.made c.in-Err.ensures.fault

pub loop-made-preserved : goal.loop-made-preserved
loop-made-preserved c =
    let done = c.in-Ok.ensures in
    record {
      within = omega (arith, done.within, ap length (take_rest c.args.steps.now c.loop-made.made), length-drop c.loop-made.made c.args.steps.now, c.loop-made-test.true);
      made =
          series-more (lambdas_of (map arc_value c.args.callees.now)) c.args.steps.now _ c.args.lambda.now c.loop-made.changed c.made_series.new.lambda c.loop-made.made c.in-Ok.count
          (take_rest c.args.steps.now c.loop-made.made) c.loop-made.invariant.made done.made;
      well_formed = done.kept;
    }
