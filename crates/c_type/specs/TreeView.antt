-- The tree that a type of the code stands for.
use Rattle.c_type.specs.Trees.{TypeTree, void_type, scalar_type, pointer_to, array_of, struct_type}
use Rattle.c_type.specs.declared.trees.TypeForm.{TypeForm}
use Rattle.c_type.specs.declared.trees.TypeForm.TheVariants.{Void, Scalar, Pointer, Array, Struct}

abbrev pub tree_of : TypeForm → TypeTree
tree_of Void = void_type
tree_of (Scalar s) = scalar_type s
tree_of (Pointer t) = pointer_to t.value
tree_of (Array t n) = array_of t.value n
tree_of (Struct tag) = struct_type tag
