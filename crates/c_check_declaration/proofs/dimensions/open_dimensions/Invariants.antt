use Rattle.std.proofs.Common.{◌≡◌, take}
use Rattle.c_ast.specs.Declarations as trees
use Rattle.c_check_state.specs.Frames.{KeepsDeclarations}
use Rattle.c_check_def.specs.Declarators.{open_dimensions}
use Rattle.c_check_declaration.proofs.dimensions.open_dimensions.Given as goal

abbrev pub invariant-loop-d : goal.invariant-loop-d
invariant-loop-d l = record {
  value : l.all.items ≡ (open_dimensions (trees.open_dimensions (take l.d-index l.dimensions)) l.fn.state).0;
  state : l.state ≡ (open_dimensions (trees.open_dimensions (take l.d-index l.dimensions)) l.fn.state).1;
  keeps : KeepsDeclarations l.fn.state l.state;
}
