use Rattle.std.proofs.Common.{◌≡◌, ◌-◌}
use Rattle.g_build.specs.Variables.{pops}
use Rattle.g_build.proofs.statements.pop_variables.Given as goal

abbrev pub invariant-loop-i : goal.invariant-loop-i
invariant-loop-i l = pops (l.count - l.i) l.b ≡ pops l.count l.initial.b
