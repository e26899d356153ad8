use Rattle.std.proofs.Common.{◌≡◌, take}
use Rattle.c_ast.specs.Declarations as trees
use Rattle.c_check_def.specs.Declarators.{more_globals}
use Rattle.c_check_declaration.proofs.globals.more_globals.Given as goal

abbrev pub invariant-loop-next : goal.invariant-loop-next
invariant-loop-next l = l.state ≡ (more_globals l.x l.is_const (trees.more_declarators (take l.next-index l.more)) l.fn.state).1
