use Rattle.std.proofs.Common.{◌≡◌, ◌∷◌, [], take}
use Rattle.c_ast.specs.Externals.{external_tree}
use Rattle.c_ast.specs.Nodes.{many}
use Rattle.c_ast.specs.Productions as l
use Rattle.c_check_def.specs.Check.{externals}
use Rattle.c_check.proofs.externals.externals.Given as goal

abbrev pub invariant-loop-x : goal.invariant-loop-x
invariant-loop-x v = v.state ≡ (externals (many l.Externals (λ x. external_tree x ∷ []) (take v.x-index v.xs)) v.fn.state).1
