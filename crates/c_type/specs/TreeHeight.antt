-- A type within a type has a smaller height.
use Rattle.std.specs.Prelude.{◌≤◌, max}
use Rattle.std.proofs.Common.{arith}
use Rattle.c_type.specs.Trees.{tree_height}
use Rattle.c_type.specs.TreeView.{tree_of}
use Rattle.c_type.specs.declared.trees.TypeForm.{TypeForm}
use Rattle.c_type.specs.declared.trees.CType.TheDeep.{deep-TypeForm}
use Rattle.c_type.specs.declared.trees.TypeForm.TheVariants.{Void, Scalar, Pointer, Array, Struct}

pub form_height : (f : TypeForm) → max (deep-TypeForm f) 0 ≤ tree_height (tree_of f)
form_height Void = omega arith
form_height (Scalar s) = omega arith
form_height (Pointer t) = omega arith
form_height (Array t n) = omega arith
form_height (Struct tag) = omega arith
