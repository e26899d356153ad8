use Rattle.c_interp.proofs.Performed.{is_moved, moved_step, not_performed, performed_flow}
use Rattle.c_interp.proofs.perform.perform.Goals as goal

pub returns-in-Ok-true : goal.returns-in-Ok-true
returns-in-Ok-true c = λ n.
    let p = c.args.program.now.typed.now in
    moved_step p n _ c.args.machine.now c.performed.new.machine _ (is_moved p n c.in-Ok-true.field-0 c.args.machine.now c.performed.new.machine _ c.in-Ok-true.field-0-test (c.in-Ok-true.ensures n))

pub returns-in-Ok-false : goal.returns-in-Ok-false
returns-in-Ok-false c = λ n.
    let p = c.args.program.now.typed.now in
    not_performed p n c.in-Ok-false.field-0 c.evaluate_and_drop.result c.args.machine.now c.performed.new.machine c.evaluate_and_drop.new.machine _ _ c.in-Ok-false.field-0-test (c.in-Ok-false.ensures n) (c.evaluate_and_drop.ensures n)

pub returns-in-Err : goal.returns-in-Err
returns-in-Err c = λ n. c.in-Err.ensures n

pub evaluate_and_drop-requires-clause-normal : goal.evaluate_and_drop-requires-clause-normal
evaluate_and_drop-requires-clause-normal c =
    performed_flow c.args.program.now.typed.now c.args.program.now.bound c.in-Ok-false.field-0 c.args.machine.now c.performed.new.machine _ (c.in-Ok-false.ensures c.args.program.now.bound) c.requires.normal
