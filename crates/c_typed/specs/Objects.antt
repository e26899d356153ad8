-- What a typed program says of the objects of a function, and of how wide an access to one is.
use Rattle.std.specs.Prelude.{ℕ, Bool, false, List, take, Option, None, Some}
use Rattle.std.specs.List.{count_by}
use Rattle.c_type.specs.Trees.{TypeTree, scalar_type}
use Rattle.c_type.specs.Layout.{scalar_size}
use Rattle.c_typed.specs.Typed.{VariableTree}

-- the bytes of a scalar object: a pointer has 4
abbrev pub access_width : TypeTree → ℕ
access_width (scalar_type t) = scalar_size t
access_width t = 4

-- The objects of a function are numbered in order of declaration: so many stand before this variable.
abbrev pub object_number : List VariableTree → (variable : ℕ) → ℕ
object_number vs k = count_by (λ (v : VariableTree). v.is_object) (take k vs)

-- whether a variable is an object
abbrev pub object_by : Option VariableTree → Bool
object_by None = false
object_by (Some v) = v.is_object
