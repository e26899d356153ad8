use Rattle.std.proofs.Common.{arith, ◌-◌, ◌+◌}
use Rattle.g_build.specs.Variables.{pops}
use Rattle.g_build.proofs.Items.{pop_step}
use Rattle.g_build.proofs.statements.pop_variables.Goals as goal

pub loop-i-preserved : goal.loop-i-preserved
loop-i-preserved c =
    pop_step (c.args.count - c.loop-i.i) c.loop-i.i (c.args.count - (c.loop-i.i + 1)) c.loop-i.b c.pop_variable.new.self (pops c.args.count c.args.b.now) (omega (
      arith,
      c.loop-i-test.true,
    )) c.pop_variable.ensures c.loop-i.invariant
