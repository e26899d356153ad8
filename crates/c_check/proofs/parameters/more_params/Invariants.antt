use Rattle.std.proofs.Common.{◌≡◌, ◌++◌, take}
use Rattle.c_ast.specs.Expressions.{next}
use Rattle.c_ast.specs.Externals.{param as param_tree}
use Rattle.c_ast.specs.Nodes.{many}
use Rattle.c_ast.specs.Productions as production
use Rattle.c_check_def.specs.Externals.{more_params}
use Rattle.c_check.proofs.parameters.more_params.Given as goal

abbrev pub invariant-loop-next : goal.invariant-loop-next
invariant-loop-next l = record {
  params : l.out.items ≡ l.fn.out.items ++ (more_params (many production.MoreParams (next param_tree) (take l.next-index l.more)) l.fn.state).0;
  state : l.state ≡ (more_params (many production.MoreParams (next param_tree) (take l.next-index l.more)) l.fn.state).1;
}
