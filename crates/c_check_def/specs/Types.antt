-- What the operand rules ask of types (ISO/IEC 9899:2011, 6.2.5, 6.2.7, 6.3.1).
use Rattle.std.specs.Prelude.{ℕ, ◌==◌, ◌&&◌, ◌||◌, nat_le, Bool, true, false, if◌then◌else◌, Option, None, Some}
use Rattle.base.specs.Limits.{most_type_bytes}
use Rattle.c_type.specs.declared.scalar.Scalar.{Scalar}
use Rattle.c_type.specs.declared.scalar.Scalar.TheVariants.{Char, SignedChar, UnsignedChar, Short, UnsignedShort, Int, UnsignedInt}
use Rattle.c_type.specs.Trees.{TypeTree, void_type, scalar_type, pointer_to, array_of, struct_type}
use Rattle.c_type.specs.Layout.{Definitions, is_complete, size}
use Rattle.c_typed.specs.WellTyped.{if_unsigned}

abbrev pub is_integer : TypeTree → Bool
is_integer (scalar_type s) = true
is_integer t = false

-- an integer type or a pointer type
abbrev pub is_scalar : TypeTree → Bool
is_scalar (scalar_type s) = true
is_scalar (pointer_to t) = true
is_scalar t = false

-- ---- the same type (6.2.7)

abbrev pub same_scalar : Scalar → Scalar → Bool
same_scalar Char Char = true
same_scalar SignedChar SignedChar = true
same_scalar UnsignedChar UnsignedChar = true
same_scalar Short Short = true
same_scalar UnsignedShort UnsignedShort = true
same_scalar Int Int = true
same_scalar UnsignedInt UnsignedInt = true
same_scalar _ _ = false

abbrev pub same_type : TypeTree → TypeTree → Bool
same_type void_type void_type = true
same_type (scalar_type s) (scalar_type t) = same_scalar s t
same_type (pointer_to s) (pointer_to t) = same_type s t
same_type (array_of s m) (array_of t n) = (m == n) && same_type s t
same_type (struct_type k) (struct_type l) = k == l
same_type _ _ = false

-- ---- the types of arithmetic (6.3.1.1, 6.3.1.8)

-- a promoted number of this type is unsigned
abbrev pub is_unsigned : Scalar → Bool
is_unsigned UnsignedInt = true
is_unsigned s = false

abbrev pub promoted_type : Scalar → TypeTree
promoted_type s = if_unsigned (is_unsigned s)

-- numbers in the common type of these two are unsigned
abbrev pub are_unsigned : Scalar → Scalar → Bool
are_unsigned s t = is_unsigned s || is_unsigned t

abbrev pub common_type : Scalar → Scalar → TypeTree
common_type s t = if_unsigned (are_unsigned s t)

-- ---- sizes

-- the size of a type that is laid out: complete, and not too large
abbrev pub laid_out_size : Definitions → TypeTree → Option ℕ
laid_out_size defs t = if is_complete defs t && nat_le (size defs t) most_type_bytes then Some (size defs t) else None
