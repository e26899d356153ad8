use Rattle.std.proofs.Common.{◌≡◌, ◌++◌, drop}
use Rattle.g_build_def.specs.Functions.{graph, lambdas_made}
use Rattle.g_build.proofs.program.build_lambdas.Given as goal

abbrev pub invariant-loop-i : goal.invariant-loop-i
invariant-loop-i l = l.lambdas.items ++ lambdas_made l.typed l.i (drop l.i l.typed.functions) ≡ graph l.typed
