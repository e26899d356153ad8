use Rattle.std.proofs.Common.{◌∙◌, ap, map, take}
use Rattle.std.specs.Arc.{arc_value}
use Rattle.std.specs.List.{fold}
use Rattle.g_pass_def.specs.Answers.{lambdas_of}
use Rattle.g_pass_def.specs.Sweep.{tried}
use Rattle.g_pass.specs.Sweep.{rules}
use Rattle.g_pass.proofs.Swept.{on_err, same_swept}
use Rattle.g_pass.proofs.sweeps.sweep_steps.Goals as goal

pub returns-in_err-try_at-clause-err : goal.returns-in_err-try_at-clause-err
returns-in_err-try_at-clause-err c =
    on_err _ c.from_residual-in_err-try_at.result (
      c.loop-node.node-index,
      same_swept _ _ _ _ c.in_err-try_at.ensures.err_lambda c.in_err-try_at.ensures.err_log
          ∙ c.loop-node.invariant.swept
          ∙ ap (λ ns. fold (tried rules (lambdas_of (map arc_value c.args.callees.now)) c.args.rule) (record { lambda = c.args.lambda.now; steps = c.args.log.now.items })
          (take c.loop-node.node-index ns)) (c.deref-node-items.ensures.value ∙ c.in_ok-numbers.ensures),
    )
