use Rattle.std.proofs.Common.{◌≡◌, ◌∷◌, [], take}
use Rattle.c_ast.specs.Externals.{external_tree}
use Rattle.c_ast.specs.Nodes.{many}
use Rattle.c_ast.specs.Productions as l
use Rattle.c_check_def.specs.Check.{defined_in}
use Rattle.c_check.proofs.defined.defined_in.Given as goal

abbrev pub invariant-loop-x : goal.invariant-loop-x
invariant-loop-x v = v.names ≡ defined_in (many l.Externals (λ x. external_tree x ∷ []) (take v.x-index v.xs))
