use Rattle.std.proofs.Common.{◌∙◌, sym, ap}
use Rattle.c_interp_def.specs.Configurations.{reaches}
use Rattle.c_interp_def.proofs.StmtLaws.{again-expands}
use Rattle.c_interp_answer.specs.TaskViews.{flow_of}
use Rattle.c_interp_def.specs.StmtTasks as stmt
use Rattle.c_interp_def.specs.StmtTasks.{again_tasks, handler_run}
use Rattle.c_interp.specs.Steps.{tasks_do}
use Rattle.c_interp.specs.Machines.{config_of}
use Rattle.c_interp.proofs.Ports.{stays_step}
use Rattle.c_interp.proofs.Steps.{undefined_step, same_step}
use Rattle.c_interp.proofs.Statements.{loops, not-again, leaves-broke, leaves-returned}
use Rattle.c_interp.proofs.turns.again.Goals as goal

pub returns-then-not-is_loop : goal.returns-then-not-is_loop
returns-then-not-is_loop c =
    let p = c.args.program.now.typed.now in
    let n = c.args.program.now.bound in
    undefined_step p n c.args.machine.now c.args.machine.now (handler_run p n (stmt.again c.args.turns c.args.a.now) (flow_of c.args.machine.now.flow)) (λ m i held. not-again p n c.args.turns c.args.a.now (flow_of c.args.machine.now.flow) (config_of c.args.machine.now m i) (sym c.is_loop.ensures ∙ c.if-not-is_loop.true))

pub returns-in-Normal : goal.returns-in-Normal
returns-in-Normal c =
    let p = c.args.program.now.typed.now in
    let n = c.args.program.now.bound in
    same_step p n c.go_on.result c.args.machine.now c.go_on.new.machine (handler_run p n (stmt.again c.args.turns c.args.a.now) (flow_of c.args.machine.now.flow)) (tasks_do p n (again_tasks c.args.turns c.args.a.now))
    (λ m i held. let x = config_of c.args.machine.now m i in ap (λ f. handler_run p n (stmt.again c.args.turns c.args.a.now) (flow_of f) x) c.in-Normal.is ∙ (again-expands p n c.args.turns c.args.a.now x (loops c.args.a.now (sym c.is_loop.ensures ∙ c.if-not-is_loop.false))).0) c.go_on.ensures

pub returns-in-Continued : goal.returns-in-Continued
returns-in-Continued c =
    let p = c.args.program.now.typed.now in
    let n = c.args.program.now.bound in
    same_step p n c.go_on-in-Continued.result c.args.machine.now c.go_on-in-Continued.new.machine (handler_run p n (stmt.again c.args.turns c.args.a.now) (flow_of c.args.machine.now.flow)) (tasks_do p n (again_tasks c.args.turns c.args.a.now))
    (λ m i held. let x = config_of c.args.machine.now m i in ap (λ f. handler_run p n (stmt.again c.args.turns c.args.a.now) (flow_of f) x) c.in-Continued.is ∙ (again-expands p n c.args.turns c.args.a.now x (loops c.args.a.now (sym c.is_loop.ensures ∙ c.if-not-is_loop.false))).1) c.go_on-in-Continued.ensures

pub returns-in-Broke : goal.returns-in-Broke
returns-in-Broke c =
    let p = c.args.program.now.typed.now in
    let n = c.args.program.now.bound in
    stays_step p n _ c.args.machine.now (handler_run p n (stmt.again c.args.turns c.args.a.now) (flow_of c.args.machine.now.flow)) (λ x. ap (λ f. handler_run p n (stmt.again c.args.turns c.args.a.now) (flow_of f) x) c.in-Broke.is ∙ leaves-broke p n c.args.turns c.args.a.now x (sym c.is_loop.ensures ∙ c.if-not-is_loop.false) ∙ ap (λ f. reaches (flow_of f) x) (sym c.in-Broke.is))

pub returns-in-Returned : goal.returns-in-Returned
returns-in-Returned c =
    let p = c.args.program.now.typed.now in
    let n = c.args.program.now.bound in
    stays_step p n _ c.args.machine.now (handler_run p n (stmt.again c.args.turns c.args.a.now) (flow_of c.args.machine.now.flow)) (λ x. ap (λ f. handler_run p n (stmt.again c.args.turns c.args.a.now) (flow_of f) x) c.in-Returned.is ∙ leaves-returned p n c.args.turns c.args.a.now _ x (sym c.is_loop.ensures ∙ c.if-not-is_loop.false) ∙ ap (λ f. reaches (flow_of f) x) (sym c.in-Returned.is))
