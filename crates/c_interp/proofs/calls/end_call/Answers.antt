use Rattle.std.proofs.Common.{◌==◌, ◌∙◌, ap}
use Rattle.c_typed.specs.Typed.{ProgramTree}
use Rattle.c_mean.specs.Expressions.{value_or_none}
use Rattle.c_mean.specs.Run.{value_at_end}
use Rattle.c_interp_answer.specs.TaskViews.{flow_of}
use Rattle.c_interp.proofs.CallSteps.{end_call_done, end_call_of_none}
use Rattle.c_interp.proofs.calls.end_call.Goals as goal

pub returns-in_default : goal.returns-in_default
returns-in_default c = λ n. end_call_of_none c.args.program.now.typed.now n c.args.machine.now c.args.machine.now c.in_default.ensures.cases.0

pub returns : goal.returns
returns c = λ n. end_call_done c.args.program.now.typed.now n c.give.result c.args.machine.now c.give.new.machine c.in-Some.caller _ c.pop.new.self c.close.new.self _ c.value_at_end-value.result c.replace-slots.ensures.after c.in-Some.ensures.items (c.value_at_end-value.ensures
    ∙ ap (λ k. value_or_none (value_at_end (c.args.machine.now.frame.function == k) (flow_of c.args.machine.now.flow))) (ap (λ (x : ProgramTree). x.main) c.typed.view_is))
    (λ calls m h. c.close.ensures calls m h) (c.give.ensures c.args.program.now.typed.now n)
