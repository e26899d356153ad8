-- Types as trees (ISO/IEC 9899:2011, 6.2.5).
use Rattle.std.specs.Prelude.{ℕ, ◌+◌}
use Rattle.c_type.specs.declared.scalar.Scalar.{Scalar}

pub data TypeTree : Type 0 where
  void_type : TypeTree
  scalar_type : Scalar → TypeTree
  pointer_to : TypeTree → TypeTree
  array_of : TypeTree → (length : ℕ) → TypeTree
  struct_type : (tag : ℕ) → TypeTree

abbrev pub tree_height : TypeTree → ℕ
tree_height (pointer_to t) = tree_height t + 1
tree_height (array_of t n) = tree_height t + 1
tree_height _ = 0
