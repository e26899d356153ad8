use Rattle.c_interp.proofs.Dispatch.{expr_as}
use Rattle.c_interp.proofs.step.do_quiet.Goals as goal

pub returns-in-Evaluate : goal.returns-in-Evaluate
returns-in-Evaluate c = expr_as c.args.program.now.typed.now c.args.program.now.bound c.evaluate.result c.args.machine.now c.evaluate.new.machine c.args.task _ c.in-Evaluate.is (c.evaluate.ensures c.args.program.now.bound)

pub returns-in-Locate : goal.returns-in-Locate
returns-in-Locate c = expr_as c.args.program.now.typed.now c.args.program.now.bound c.locate.result c.args.machine.now c.locate.new.machine c.args.task _ c.in-Locate.is (c.locate.ensures c.args.program.now.bound)

pub returns-in-DropEach : goal.returns-in-DropEach
returns-in-DropEach c = expr_as c.args.program.now.typed.now c.args.program.now.bound c.drop_each.result c.args.machine.now c.drop_each.new.machine c.args.task _ c.in-DropEach.is (c.drop_each.ensures c.args.program.now.typed.now c.args.program.now.bound)

pub returns-in-PassEach : goal.returns-in-PassEach
returns-in-PassEach c = expr_as c.args.program.now.typed.now c.args.program.now.bound c.pass_each.result c.args.machine.now c.pass_each.new.machine c.args.task _ c.in-PassEach.is (c.pass_each.ensures c.args.program.now.bound)

pub returns-in-Give : goal.returns-in-Give
returns-in-Give c = expr_as c.args.program.now.typed.now c.args.program.now.bound c.give_it.result c.args.machine.now c.give_it.new.machine c.args.task _ c.in-Give.is (c.give_it.ensures c.args.program.now.typed.now c.args.program.now.bound)

pub returns-in-LocalAt : goal.returns-in-LocalAt
returns-in-LocalAt c = expr_as c.args.program.now.typed.now c.args.program.now.bound c.local_at.result c.args.machine.now c.local_at.new.machine c.args.task _ c.in-LocalAt.is (c.local_at.ensures c.args.program.now.bound)

pub returns-in-GlobalAt : goal.returns-in-GlobalAt
returns-in-GlobalAt c = expr_as c.args.program.now.typed.now c.args.program.now.bound c.global_at.result c.args.machine.now c.global_at.new.machine c.args.task _ c.in-GlobalAt.is (c.global_at.ensures c.args.program.now.bound)

pub returns-in-MemberAt : goal.returns-in-MemberAt
returns-in-MemberAt c = expr_as c.args.program.now.typed.now c.args.program.now.bound c.member_at.result c.args.machine.now c.member_at.new.machine c.args.task _ c.in-MemberAt.is (c.member_at.ensures c.args.program.now.typed.now c.args.program.now.bound)

pub returns-in-Discard : goal.returns-in-Discard
returns-in-Discard c = expr_as c.args.program.now.typed.now c.args.program.now.bound c.discard.result c.args.machine.now c.discard.new.machine c.args.task _ c.in-Discard.is (c.discard.ensures c.args.program.now.typed.now c.args.program.now.bound)

pub returns-in-UseIt : goal.returns-in-UseIt
returns-in-UseIt c = expr_as c.args.program.now.typed.now c.args.program.now.bound c.use_it.result c.args.machine.now c.use_it.new.machine c.args.task _ c.in-UseIt.is (c.use_it.ensures c.args.program.now.typed.now c.args.program.now.bound)

pub returns-in-Test : goal.returns-in-Test
returns-in-Test c = expr_as c.args.program.now.typed.now c.args.program.now.bound c.test.result c.args.machine.now c.test.new.machine c.args.task _ c.in-Test.is (c.test.ensures c.args.program.now.typed.now c.args.program.now.bound)

pub returns-in-Binary : goal.returns-in-Binary
returns-in-Binary c = expr_as c.args.program.now.typed.now c.args.program.now.bound c.apply_binary.result c.args.machine.now c.apply_binary.new.machine c.args.task _ c.in-Binary.is (c.apply_binary.ensures c.args.program.now.typed.now c.args.program.now.bound)

pub returns-in-AndAlso : goal.returns-in-AndAlso
returns-in-AndAlso c = expr_as c.args.program.now.typed.now c.args.program.now.bound c.and_also.result c.args.machine.now c.and_also.new.machine c.args.task _ c.in-AndAlso.is (c.and_also.ensures c.args.program.now.typed.now c.args.program.now.bound)

pub returns-in-OrElse : goal.returns-in-OrElse
returns-in-OrElse c = expr_as c.args.program.now.typed.now c.args.program.now.bound c.or_else.result c.args.machine.now c.or_else.new.machine c.args.task _ c.in-OrElse.is (c.or_else.ensures c.args.program.now.typed.now c.args.program.now.bound)

pub returns-in-Choose : goal.returns-in-Choose
returns-in-Choose c = expr_as c.args.program.now.typed.now c.args.program.now.bound c.choose_by.result c.args.machine.now c.choose_by.new.machine c.args.task _ c.in-Choose.is (c.choose_by.ensures c.args.program.now.typed.now c.args.program.now.bound)

pub returns-in-LoadFrom : goal.returns-in-LoadFrom
returns-in-LoadFrom c = expr_as c.args.program.now.typed.now c.args.program.now.bound c.load_from.result c.args.machine.now c.load_from.new.machine c.args.task _ c.in-LoadFrom.is (c.load_from.ensures c.args.program.now.typed.now c.args.program.now.bound)

pub returns-in-LoadAt : goal.returns-in-LoadAt
returns-in-LoadAt c = expr_as c.args.program.now.typed.now c.args.program.now.bound c.load_at.result c.args.machine.now c.load_at.new.machine c.args.task _ c.in-LoadAt.is (c.load_at.ensures c.args.program.now.typed.now c.args.program.now.bound)

pub returns-in-StoreAt : goal.returns-in-StoreAt
returns-in-StoreAt c = expr_as c.args.program.now.typed.now c.args.program.now.bound c.store_at.result c.args.machine.now c.store_at.new.machine c.args.task _ c.in-StoreAt.is (c.store_at.ensures c.args.program.now.typed.now c.args.program.now.bound)

pub returns-in-CompoundAt : goal.returns-in-CompoundAt
returns-in-CompoundAt c = expr_as c.args.program.now.typed.now c.args.program.now.bound c.compound_at.result c.args.machine.now c.compound_at.new.machine c.args.task _ c.in-CompoundAt.is (c.compound_at.ensures c.args.program.now.typed.now c.args.program.now.bound)

pub returns-in-StepAt : goal.returns-in-StepAt
returns-in-StepAt c = expr_as c.args.program.now.typed.now c.args.program.now.bound c.step_at.result c.args.machine.now c.step_at.new.machine c.args.task _ c.in-StepAt.is (c.step_at.ensures c.args.program.now.typed.now c.args.program.now.bound)

pub returns-in-LoadSlot : goal.returns-in-LoadSlot
returns-in-LoadSlot c = expr_as c.args.program.now.typed.now c.args.program.now.bound c.load_slot.result c.args.machine.now c.load_slot.new.machine c.args.task _ c.in-LoadSlot.is (c.load_slot.ensures c.args.program.now.typed.now c.args.program.now.bound c.in-LoadSlot.field-1.now)

pub returns-in-StoreSlot : goal.returns-in-StoreSlot
returns-in-StoreSlot c = expr_as c.args.program.now.typed.now c.args.program.now.bound c.store_slot.result c.args.machine.now c.store_slot.new.machine c.args.task _ c.in-StoreSlot.is (c.store_slot.ensures c.args.program.now.typed.now c.args.program.now.bound c.in-StoreSlot.field-1.now)

pub returns-in-CompoundSlot : goal.returns-in-CompoundSlot
returns-in-CompoundSlot c = expr_as c.args.program.now.typed.now c.args.program.now.bound c.compound_slot.result c.args.machine.now c.compound_slot.new.machine c.args.task _ c.in-CompoundSlot.is (c.compound_slot.ensures c.args.program.now.typed.now c.args.program.now.bound)

pub returns-in-StepSlot : goal.returns-in-StepSlot
returns-in-StepSlot c = expr_as c.args.program.now.typed.now c.args.program.now.bound c.step_slot.result c.args.machine.now c.step_slot.new.machine c.args.task _ c.in-StepSlot.is (c.step_slot.ensures c.args.program.now.typed.now c.args.program.now.bound)

pub returns-in-EndProgram : goal.returns-in-EndProgram
returns-in-EndProgram c = expr_as c.args.program.now.typed.now c.args.program.now.bound c.end_program.result c.args.machine.now c.end_program.new.machine c.args.task _ c.in-EndProgram.is (c.end_program.ensures c.args.program.now.typed.now c.args.program.now.bound)

pub returns-in-Call : goal.returns-in-Call
returns-in-Call c = expr_as c.args.program.now.typed.now c.args.program.now.bound c.call.result c.args.machine.now c.call.new.machine c.args.task _ c.in-Call.is c.call.ensures
