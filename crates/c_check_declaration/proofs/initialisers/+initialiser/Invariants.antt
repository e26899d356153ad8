use Rattle.std.proofs.Common.{◌≡◌, Some, take}
use Rattle.c_ast.specs.Declarations.{init_tree, inits}
use Rattle.c_check_state.specs.Frames.{KeepsDeclarations}
use Rattle.c_check_def.specs.Initialisers.{both_joined, elements}
use Rattle.c_check_declaration.specs.Pieces.{if_made}
use Rattle.c_check_declaration.proofs.initialisers.+initialiser.Given as goal

abbrev pub invariant-loop-next : goal.invariant-loop-next
invariant-loop-next l = record {
  index : l.index ≡ l.next-index;
  made : if_made l.made l.out ≡ both_joined (Some l.fn.out) (elements l.is_static l.ty l.object_offset (inits init_tree l.first (take l.next-index l.more)) l.fn.state).0;
  state : l.state ≡ (elements l.is_static l.ty l.object_offset (inits init_tree l.first (take l.next-index l.more)) l.fn.state).1;
  keeps : KeepsDeclarations l.fn.state l.state;
}
