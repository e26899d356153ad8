use Rattle.std.proofs.Common.{◌<◌, ◌^◌}
use Rattle.std.proofs.lemmas.List.Elements.{All-from_get_or}
use Rattle.std.proofs.lemmas.Result.{IfOk-weaker}
use Rattle.g_build_def.specs.Functions.{graph}
use Rattle.g_pass.specs.Sweep.{rules}
use Rattle.log_check.specs.Right.{steps_of}
use Rattle.log_check.proofs.Told.{keeps}
use Rattle.log_check.proofs.judging.judge.Goals as goal

pub returns-clause-certified : goal.returns-clause-certified
returns-clause-certified c =
    let p = c.in_ok-typed.typed in
    let told = c.in_ok-typed.ensures in
    let bytes = All-from_get_or (λ b. b < 2 ^ 8) c.args.source.now 0 (λ k within. (c.type_inv.source k).fits) in
    let own = c.programs_can_be_emitted.ensures.graphs p told.typed told.limits told.accepted.within in
    IfOk-weaker c.judge_typed-judged.result _ _
    (λ x h.
    let kept = c.replayed_keep_lists.ensures.kept rules c.rules_are_steps.ensures (graph p) (steps_of h.functions) h.lambdas own.program.complete h.right.replayed in
    keeps c.args.source.now c.args.form c.args.log.now c.args.image.now p told.accepted h (c.kept_lists_keep_meaning.ensures c.args.form c.args.source.now bytes p told.accepted h.lambdas kept))
    c.judge_typed-judged.ensures.certified
