use Rattle.std.proofs.Common.{◌∙◌, refl, sym, ap}
use Rattle.val_core.specs.Answers.{then_on}
use Rattle.c_mean.specs.Expressions.{expr_run, branched, given_word}
use Rattle.c_interp_def.specs.Configurations.{state_of, gives_value}
use Rattle.c_interp_def.specs.ExprTasks.{context}
use Rattle.std.specs.Prelude.{Some}
use Rattle.c_typed.specs.WellTyped.{type_of}
use Rattle.c_interp_def.specs.ExprTasks.{expr_task_run}
use Rattle.c_interp_def.specs.ExprTasks as task
use Rattle.c_interp.proofs.ExprSteps.{and_true, and_false, unknown_step}
use Rattle.c_interp.proofs.Steps.{none_taken}
use Rattle.c_interp.proofs.expression.and_also.Goals as goal

pub returns-in_default : goal.returns-in_default
returns-in_default c = λ p n. none_taken p n c.args.machine.now c.args.machine.now (expr_task_run p n (task.and_also c.args.t.now c.args.b.now)) c.in_default.ensures.cases.0 (λ x. refl)

pub returns-in-Some-true : goal.returns-in-Some-true
returns-in-Some-true c = λ p n. and_true p n c.tested.result c.args.machine.now c.tested.new.machine c.pop.new.self c.in-Some.v c.args.t.now c.args.b.now c.in-Some.ensures.items (ap Some (sym c.in-Some-true.field-0-test) ∙ c.in-Some-true.ensures) (c.tested.ensures p n)

pub returns-in-Some-false : goal.returns-in-Some-false
returns-in-Some-false c = λ p n. and_false p n c.give.result c.args.machine.now c.give.new.machine c.pop.new.self c.in-Some.v c.args.t.now c.args.b.now c.in-Some.ensures.items (ap Some (sym c.in-Some-false.field-0-test) ∙ c.in-Some-false.ensures) (c.give.ensures p n)

pub returns-in-None : goal.returns-in-None
returns-in-None c = λ p n. unknown_step p n c.args.machine.now c.args.machine.now c.pop.new.self c.in-Some.v c.args.t.now (expr_task_run p n (task.and_also c.args.t.now c.args.b.now)) (λ y. then_on (expr_run (context p n y) c.args.b.now (state_of y)) (λ q. then_on (branched (type_of c.args.b.now) q.value (given_word q.state 1) (given_word q.state 0)) (gives_value y))) (λ y. then_on (given_word (state_of y) 0) (gives_value y)) c.in-Some.ensures.items c.in-None.ensures (λ x vs. refl)
