use Rattle.c_interp.proofs.Ports.{quiet_at}
use Rattle.c_interp.proofs.Dispatch.{expr_at, is_quiet}
use Rattle.c_interp.proofs.step.do_expr.Goals as goal

pub returns-in-ReadByte-clause-step : goal.returns-in-ReadByte-clause-step
returns-in-ReadByte-clause-step g c =
    expr_at c.args.program.now.typed.now c.args.program.now.bound c.read_byte.result c.args.machine.now c.read_byte.new.machine _ _ _ _ c.args.task _ c.in-ReadByte.is
    (c.read_byte.ensures.step c.args.program.now.typed.now c.args.program.now.bound)

pub returns-in-WriteByte-clause-step : goal.returns-in-WriteByte-clause-step
returns-in-WriteByte-clause-step g c =
    expr_at c.args.program.now.typed.now c.args.program.now.bound c.write_byte.result c.args.machine.now c.write_byte.new.machine _ _ _ _ c.args.task _ c.in-WriteByte.is
    (c.write_byte.ensures.step c.args.program.now.typed.now c.args.program.now.bound _ _ _ c.args.at_end.now c.requires.at_end)

pub returns-in-Unary-clause-step : goal.returns-in-Unary-clause-step
returns-in-Unary-clause-step g c =
    expr_at c.args.program.now.typed.now c.args.program.now.bound c.do_unary.result c.args.machine.now c.do_unary.new.machine _ _ _ _ c.args.task _ c.in-Unary.is
    (c.do_unary.ensures.step c.args.program.now.typed.now c.args.program.now.bound _ _ _ c.args.at_end.now c.requires.at_end)

pub do_quiet-requires-clause-quiet : goal.do_quiet-requires-clause-quiet
do_quiet-requires-clause-quiet g c = is_quiet c.args.task c.in_default.not-ReadByte c.in_default.not-WriteByte c.in_default.not-Unary

pub returns-in_default-clause-step : goal.returns-in_default-clause-step
returns-in_default-clause-step g c =
    quiet_at c.args.program.now.typed.now c.args.program.now.bound c.do_quiet.result c.args.machine.now c.do_quiet.new.machine _ _ _ _ c.requires.at_end c.do_quiet.ensures
