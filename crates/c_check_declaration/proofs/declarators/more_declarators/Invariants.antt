use Rattle.std.proofs.Common.{◌≡◌, take}
use Rattle.c_ast.specs.Declarations as trees
use Rattle.c_typed.specs.StmtViews.{items_of}
use Rattle.c_check_def.specs.Declarators.{items_joined, more_declarators}
use Rattle.c_check_declaration.proofs.declarators.more_declarators.Given as goal

abbrev pub invariant-loop-next : goal.invariant-loop-next
invariant-loop-next l = record {
  items : items_of l.out.items ≡ items_joined (items_of l.fn.out.items) (more_declarators l.x l.is_const (trees.more_declarators (take l.next-index l.more)) l.fn.state).0;
  state : l.state ≡ (more_declarators l.x l.is_const (trees.more_declarators (take l.next-index l.more)) l.fn.state).1;
}
