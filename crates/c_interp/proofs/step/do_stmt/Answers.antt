use Rattle.c_interp.proofs.Dispatch.{stmt_as}
use Rattle.c_interp.proofs.step.do_stmt.Goals as goal

pub returns-in-OnStmt : goal.returns-in-OnStmt
returns-in-OnStmt c = stmt_as c.args.program.now.typed.now c.args.program.now.bound c.do_stage.result c.args.machine.now c.do_stage.new.machine c.args.task _ c.in-OnStmt.is c.do_stage.ensures

pub returns-in-RunItems : goal.returns-in-RunItems
returns-in-RunItems c = stmt_as c.args.program.now.typed.now c.args.program.now.bound c.run_items.result c.args.machine.now c.run_items.new.machine c.args.task _ c.in-RunItems.is c.run_items.ensures

pub returns-in-RunGroups : goal.returns-in-RunGroups
returns-in-RunGroups c = stmt_as c.args.program.now.typed.now c.args.program.now.bound c.run_groups.result c.args.machine.now c.run_groups.new.machine c.args.task _ c.in-RunGroups.is (c.run_groups.ensures c.args.program.now.typed.now c.args.program.now.bound)

pub returns-in-Break : goal.returns-in-Break
returns-in-Break c = stmt_as c.args.program.now.typed.now c.args.program.now.bound c.jump.result c.args.machine.now c.jump.new.machine c.args.task _ c.in-Break.is (c.jump.ensures c.args.program.now.typed.now c.args.program.now.bound)

pub returns-in-Continue : goal.returns-in-Continue
returns-in-Continue c = stmt_as c.args.program.now.typed.now c.args.program.now.bound c.jump-in-Continue.result c.args.machine.now c.jump-in-Continue.new.machine c.args.task _ c.in-Continue.is (c.jump-in-Continue.ensures c.args.program.now.typed.now c.args.program.now.bound)

pub returns-in-ReturnNone : goal.returns-in-ReturnNone
returns-in-ReturnNone c = stmt_as c.args.program.now.typed.now c.args.program.now.bound c.jump-in-ReturnNone.result c.args.machine.now c.jump-in-ReturnNone.new.machine c.args.task _ c.in-ReturnNone.is (c.jump-in-ReturnNone.ensures c.args.program.now.typed.now c.args.program.now.bound)

pub returns-in-ReturnIt : goal.returns-in-ReturnIt
returns-in-ReturnIt c = stmt_as c.args.program.now.typed.now c.args.program.now.bound c.return_it.result c.args.machine.now c.return_it.new.machine c.args.task _ c.in-ReturnIt.is (c.return_it.ensures c.args.program.now.typed.now c.args.program.now.bound)

pub returns-in-Enter : goal.returns-in-Enter
returns-in-Enter c = stmt_as c.args.program.now.typed.now c.args.program.now.bound c.enter.result c.args.machine.now c.enter.new.machine c.args.task _ c.in-Enter.is (c.enter.ensures c.args.program.now.bound)

pub returns-in-BeginSlot : goal.returns-in-BeginSlot
returns-in-BeginSlot c = stmt_as c.args.program.now.typed.now c.args.program.now.bound c.begin_slot.result c.args.machine.now c.begin_slot.new.machine c.args.task _ c.in-BeginSlot.is (c.begin_slot.ensures c.args.program.now.typed.now c.args.program.now.bound)

pub returns-in-BeginObject : goal.returns-in-BeginObject
returns-in-BeginObject c = stmt_as c.args.program.now.typed.now c.args.program.now.bound c.begin_object.result c.args.machine.now c.begin_object.new.machine c.args.task _ c.in-BeginObject.is (c.begin_object.ensures c.args.program.now.bound)

pub returns-in-ClearObject : goal.returns-in-ClearObject
returns-in-ClearObject c = stmt_as c.args.program.now.typed.now c.args.program.now.bound c.clear_object.result c.args.machine.now c.clear_object.new.machine c.args.task _ c.in-ClearObject.is (c.clear_object.ensures c.args.program.now.bound)

pub returns-in-BeginElements : goal.returns-in-BeginElements
returns-in-BeginElements c = stmt_as c.args.program.now.typed.now c.args.program.now.bound c.begin_elements.result c.args.machine.now c.begin_elements.new.machine c.args.task _ c.in-BeginElements.is (c.begin_elements.ensures c.args.program.now.typed.now c.args.program.now.bound)

pub returns-in-BeginElement : goal.returns-in-BeginElement
returns-in-BeginElement c = stmt_as c.args.program.now.typed.now c.args.program.now.bound c.begin_element.result c.args.machine.now c.begin_element.new.machine c.args.task _ c.in-BeginElement.is (c.begin_element.ensures c.args.program.now.bound)

pub returns-in-BeginCharacters : goal.returns-in-BeginCharacters
returns-in-BeginCharacters c = stmt_as c.args.program.now.typed.now c.args.program.now.bound c.begin_characters.result c.args.machine.now c.begin_characters.new.machine c.args.task _ c.in-BeginCharacters.is (c.begin_characters.ensures c.args.program.now.bound)
