use Rattle.std.proofs.Common.{map}
use Rattle.std.specs.Arc.{arc_value}
use Rattle.g_pass_def.specs.Answers.{lambdas_of}
use Rattle.log_check.proofs.Made.{step-made}
use Rattle.log_check.proofs.series.made_singly.Goals as goal

pub loop-index-preserved : goal.loop-index-preserved
loop-index-preserved c =
    record {
      made =
          step-made (lambdas_of (map arc_value c.args.callees.now)) c.args.steps.now c.args.lambda.now c.loop-index.lambda c.step.new.lambda c.loop-index.index _ c.in_ok-step.field-0
          c.loop-index-test.true c.loop-index.invariant.made c.in_ok-step.ensures.made c.if-not-branch.false;
      well_formed = c.in_ok-step.ensures.kept;
    }
