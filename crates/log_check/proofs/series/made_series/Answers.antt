use Rattle.std.proofs.Common.{◌≡◌, Some, map, take}
use Rattle.std.proofs.lemmas.Result.{IfErr-weaker, IfOk-weaker}
use Rattle.std.specs.Arc.{arc_value}
use Rattle.g_pass_def.specs.Answers.{lambdas_of}
use Rattle.g_pass_def.specs.Sweep.{replayed}
use Rattle.g_pass.specs.Sweep.{rules}
use Rattle.log_check.specs.Fault.{StepsFail}
use Rattle.log_check.proofs.Followed.{made-to-its-end, fails-within}
use Rattle.log_check.proofs.series.made_series.Goals as goal

pub returns-clause-made : goal.returns-clause-made
returns-clause-made c =
    let callees = lambdas_of (map arc_value c.args.callees.now) in
    let steps = c.args.steps.now in
    let l = c.args.lambda.now in
    IfOk-weaker c.made_singly.result _ (λ n. replayed rules callees (take n steps) l ≡ Some c.made_singly.new.lambda)
    (λ n h.
    made-to-its-end callees steps l c.made_at_once.new.lambda c.made_singly.new.lambda c.series_length-count.result n c.in_ok-swept.swept c.series_length-count.ensures.within
    c.if-swept-gt0.false c.in_ok-swept.ensures.made h)
    c.made_singly.ensures.made

pub returns-clause-fault : goal.returns-clause-fault
returns-clause-fault c =
    let callees = lambdas_of (map arc_value c.args.callees.now) in
    let steps = c.args.steps.now in
    let l = c.args.lambda.now in
    IfErr-weaker c.made_singly.result _ (λ e. StepsFail callees steps l c.args.line e)
    (λ e h.
    fails-within callees steps l c.made_at_once.new.lambda c.args.line c.series_length-count.result c.in_ok-swept.swept e c.series_length-count.ensures.within c.if-swept-gt0.false
    c.in_ok-swept.ensures.made h)
    c.made_singly.ensures.fault
