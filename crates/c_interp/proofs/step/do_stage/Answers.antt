use Rattle.c_interp.proofs.Dispatch.{stage_as}
use Rattle.c_interp.proofs.step.do_stage.Goals as goal

pub returns-in-Run : goal.returns-in-Run
returns-in-Run c = stage_as c.args.program.now.typed.now c.args.program.now.bound c.run_stmt.result c.args.machine.now c.run_stmt.new.machine c.args.a.now c.args.stage _ c.in-Run.is c.run_stmt.ensures

pub returns-in-Branch : goal.returns-in-Branch
returns-in-Branch c = stage_as c.args.program.now.typed.now c.args.program.now.bound c.branch-machine.result c.args.machine.now c.branch-machine.new.machine c.args.a.now c.args.stage _ c.in-Branch.is (c.branch-machine.ensures c.args.program.now.typed.now c.args.program.now.bound)

pub returns-in-Select : goal.returns-in-Select
returns-in-Select c = stage_as c.args.program.now.typed.now c.args.program.now.bound c.select.result c.args.machine.now c.select.new.machine c.args.a.now c.args.stage _ c.in-Select.is (c.select.ensures c.args.program.now.typed.now c.args.program.now.bound)

pub returns-in-RunTurns : goal.returns-in-RunTurns
returns-in-RunTurns c = stage_as c.args.program.now.typed.now c.args.program.now.bound c.run_turns.result c.args.machine.now c.run_turns.new.machine c.args.a.now c.args.stage _ c.in-RunTurns.is c.run_turns.ensures

pub returns-in-TurnIf : goal.returns-in-TurnIf
returns-in-TurnIf c = stage_as c.args.program.now.typed.now c.args.program.now.bound c.turn_if.result c.args.machine.now c.turn_if.new.machine c.args.a.now c.args.stage _ c.in-TurnIf.is c.turn_if.ensures
