use Rattle.std.proofs.Common.{◌∙◌, refl, sym, ap}
use Rattle.c_mean.specs.Statements.{normal}
use Rattle.c_interp_def.specs.Configurations.{reaches}
use Rattle.c_interp_def.specs.StmtTasks.{turn_tasks}
use Rattle.c_interp.specs.Steps.{asked_do, turns_do}
use Rattle.std.specs.Prelude.{Some}
use Rattle.c_interp.proofs.ExprSteps.{unknown_step}
use Rattle.c_interp.proofs.StmtSteps.{asked_true, asked_false}
use Rattle.c_interp.proofs.Steps.{none_taken}
use Rattle.c_interp.proofs.turns.turn_while.Goals as goal

pub returns-in_default : goal.returns-in_default
returns-in_default c =
    let p = c.args.program.now.typed.now in
    let n = c.args.program.now.bound in
    none_taken p n c.args.machine.now c.args.machine.now (asked_do c.args.t.now (turns_do p n (turn_tasks c.args.turns c.args.a.now c.args.body.now))) c.in_default.ensures.cases.0 (λ x. refl)

pub returns-in-Some-true : goal.returns-in-Some-true
returns-in-Some-true c =
    let p = c.args.program.now.typed.now in
    let n = c.args.program.now.bound in
    asked_true p n c.turn.result c.args.machine.now c.turn.new.machine c.pop.new.self c.in-Some.v c.args.t.now (turns_do p n (turn_tasks c.args.turns c.args.a.now c.args.body.now)) c.in-Some.ensures.items (ap Some (sym c.in-Some-true.field-0-test) ∙ c.in-Some-true.ensures) c.turn.ensures

pub returns-in-Some-false : goal.returns-in-Some-false
returns-in-Some-false c =
    let p = c.args.program.now.typed.now in
    let n = c.args.program.now.bound in
    asked_false p n _ c.args.machine.now c.pop.new.self c.in-Some.v c.args.t.now (turns_do p n (turn_tasks c.args.turns c.args.a.now c.args.body.now)) c.requires.normal c.in-Some.ensures.items (ap Some (sym c.in-Some-false.field-0-test) ∙ c.in-Some-false.ensures)

pub returns-in-None : goal.returns-in-None
returns-in-None c =
    let p = c.args.program.now.typed.now in
    let n = c.args.program.now.bound in
    unknown_step p n c.args.machine.now c.args.machine.now c.pop.new.self c.in-Some.v c.args.t.now (asked_do c.args.t.now (turns_do p n (turn_tasks c.args.turns c.args.a.now c.args.body.now))) (turns_do p n (turn_tasks c.args.turns c.args.a.now c.args.body.now)) (reaches normal) c.in-Some.ensures.items c.in-None.ensures (λ x vs. refl)
