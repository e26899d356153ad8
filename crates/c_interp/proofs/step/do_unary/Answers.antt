use Rattle.c_typed.specs.declared.operator.UnaryOp.TheVariants as unary_op
use Rattle.c_interp.proofs.Ports.{quiet_at, at_same, put-writes, exit-ends}
use Rattle.c_interp.proofs.Steps.{same_step}
use Rattle.c_interp.specs.Machines.{config_of}
use Rattle.c_interp.proofs.Dispatch.{unary_at, pure_else}
use Rattle.c_interp.proofs.step.do_unary.Goals as goal

pub returns-in-Put-clause-step : goal.returns-in-Put-clause-step
returns-in-Put-clause-step g c = λ p n few many left closed at_end.
    unary_at p n c.write_byte.result c.args.machine.now c.write_byte.new.machine _ _ _ _ c.args.t.now c.args.u.now c.args.op unary_op.Put c.in-Put.is
    (at_same p n c.write_byte.result c.args.machine.now c.write_byte.new.machine _ _ _ _ _ _ (λ x. put-writes p n c.args.t.now c.args.u.now x) (c.write_byte.ensures.step p n few many left closed at_end))

pub returns-in-Exit-clause-step : goal.returns-in-Exit-clause-step
returns-in-Exit-clause-step g c = λ p n few many left closed at_end.
    unary_at p n c.end_program.result c.args.machine.now c.end_program.new.machine _ _ _ _ c.args.t.now c.args.u.now c.args.op unary_op.Exit c.in-Exit.is
    (quiet_at p n c.end_program.result c.args.machine.now c.end_program.new.machine _ _ _ _ at_end
    (same_step p n c.end_program.result c.args.machine.now c.end_program.new.machine _ _ (λ m i held. exit-ends p n c.args.t.now c.args.u.now (config_of c.args.machine.now m i)) (c.end_program.ensures p n)))

pub apply_unary-requires-clause-pure : goal.apply_unary-requires-clause-pure
apply_unary-requires-clause-pure g c = pure_else c.args.op c.in_default.not-Put c.in_default.not-Exit

pub returns-in_default-clause-step : goal.returns-in_default-clause-step
returns-in_default-clause-step g c = λ p n few many left closed at_end.
    quiet_at p n c.apply_unary.result c.args.machine.now c.apply_unary.new.machine _ _ _ _ at_end (c.apply_unary.ensures p n)
