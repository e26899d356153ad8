use Rattle.std.proofs.Common.{◌≡◌, ◌++◌, drop, map}
use Rattle.c_typed.specs.Typed.{FunctionTree}
use Rattle.g_build.proofs.program.build_names.Given as goal

abbrev pub invariant-loop-f : goal.invariant-loop-f
invariant-loop-f l =
    l.all.items ++ map (λ (f : FunctionTree). f.name) (drop l.f-index l.f-items) ≡ map (λ (f : FunctionTree). f.name) l.f-items
