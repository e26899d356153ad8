-- What a type occupies (ISO/IEC 9899:2011, 6.2.8, 6.5.3.4, 6.7.2.1p15; RISC-V psABI, ILP32).
use Rattle.std.specs.Prelude.{ℕ, zero, suc, ◌+◌, ◌-◌, ◌*◌, ◌/◌, ◌≤◌, ◌==◌, ◌&&◌, not, max, Bool, true, false, if◌then◌else◌, List, [], ◌∷◌, ◌++◌, IsTrue}
use Rattle.std.specs.List.{list_any}
use Rattle.val_core.specs.declared.leaf.Leaf.{Leaf}
use Rattle.base.specs.Limits.{most_type_bytes}
use Rattle.c_type.specs.declared.scalar.Scalar.{Scalar}
use Rattle.c_type.specs.declared.scalar.Scalar.TheVariants.{Char, SignedChar, UnsignedChar, Short, UnsignedShort, Int, UnsignedInt}
use Rattle.c_type.specs.Trees.{TypeTree, void_type, scalar_type, pointer_to, array_of, struct_type}

-- a struct definition: its tag and its members' types
pub record Definition : Type 0 where
  pub tag : ℕ
  pub members : List TypeTree

-- The definitions so far, the latest first. A member's type may hold structs that were defined before.
abbrev pub Definitions : Type 0
Definitions = List Definition

abbrev pub is_defined : Definitions → (tag : ℕ) → Bool
is_defined defs tag = list_any (λ d. d.tag == tag) defs

-- A type is complete where its size is known (6.2.5p1): an array has at least one element, of a complete type.
abbrev pub is_complete : Definitions → TypeTree → Bool
is_complete defs void_type = false
is_complete defs (scalar_type s) = true
is_complete defs (pointer_to t) = true
is_complete defs (array_of t n) = not (n == 0) && is_complete defs t
is_complete defs (struct_type tag) = is_defined defs tag

-- the least multiple of the alignment that is at least n
abbrev pub rounded_up : (n align : ℕ) → ℕ
rounded_up n align = (n + (align - 1)) / align * align

abbrev pub scalar_size : Scalar → ℕ
scalar_size Char = 1
scalar_size SignedChar = 1
scalar_size UnsignedChar = 1
scalar_size Short = 2
scalar_size UnsignedShort = 2
scalar_size Int = 4
scalar_size UnsignedInt = 4

-- ---- alignment: that of a scalar is its size, and that of a struct the largest of its members'

abbrev pub align_by : (struct_align : ℕ → ℕ) → TypeTree → ℕ
align_by struct_align void_type = 1
align_by struct_align (scalar_type s) = scalar_size s
align_by struct_align (pointer_to t) = 4
align_by struct_align (array_of t n) = align_by struct_align t
align_by struct_align (struct_type tag) = struct_align tag

abbrev pub largest : (TypeTree → ℕ) → List TypeTree → ℕ
largest align [] = 1
largest align (t ∷ ts) = max (align t) (largest align ts)

abbrev pub struct_align : Definitions → (tag : ℕ) → ℕ
struct_align [] tag = 1
struct_align (d ∷ ds) tag = if d.tag == tag then largest (align_by (struct_align ds)) d.members else struct_align ds tag

abbrev pub align : Definitions → TypeTree → ℕ
align defs t = align_by (struct_align defs) t

-- ---- size: members stand in order, each at the next multiple of its alignment, and a struct is padded to its own

abbrev pub size_by : (struct_size : ℕ → ℕ) → TypeTree → ℕ
size_by struct_size void_type = 0
size_by struct_size (scalar_type s) = scalar_size s
size_by struct_size (pointer_to t) = 4
size_by struct_size (array_of t n) = n * size_by struct_size t
size_by struct_size (struct_type tag) = struct_size tag

-- where the last of these members ends, if they begin at this offset
abbrev pub members_end : (size align : TypeTree → ℕ) → (at : ℕ) → List TypeTree → ℕ
members_end size align at [] = at
members_end size align at (t ∷ ts) = members_end size align (rounded_up at (align t) + size t) ts

abbrev pub struct_size : Definitions → (tag : ℕ) → ℕ
struct_size [] tag = 0
struct_size (d ∷ ds) tag =
    if d.tag == tag
    then rounded_up (members_end (size_by (struct_size ds)) (align ds) 0 d.members) (largest (align ds) d.members)
    else struct_size ds tag

abbrev pub size : Definitions → TypeTree → ℕ
size defs t = size_by (struct_size defs) t

-- ---- offset

abbrev pub offset_from : (size align : TypeTree → ℕ) → (at : ℕ) → List TypeTree → (member : ℕ) → ℕ
offset_from size align at [] member = 0
offset_from size align at (t ∷ ts) zero = rounded_up at (align t)
offset_from size align at (t ∷ ts) (suc member) = offset_from size align (rounded_up at (align t) + size t) ts member

abbrev pub offset : Definitions → (tag member : ℕ) → ℕ
offset [] tag member = 0
offset (d ∷ ds) tag member =
    if d.tag == tag then offset_from (size ds) (align ds) 0 d.members member else offset ds tag member

-- ---- leaves: the scalars and pointers of a type that begins at this offset, in order of offset

abbrev pub repeated : (count stride at : ℕ) → (ℕ → List Leaf) → List Leaf
repeated zero stride at leaves_at = []
repeated (suc count) stride at leaves_at = leaves_at at ++ repeated count stride (at + stride) leaves_at

abbrev pub leaves_by : (size : TypeTree → ℕ) → (struct_leaves : ℕ → ℕ → List Leaf) → TypeTree → (at : ℕ) → List Leaf
leaves_by size struct_leaves void_type at = []
leaves_by size struct_leaves (scalar_type s) at = record { offset = at; width = scalar_size s } ∷ []
leaves_by size struct_leaves (pointer_to t) at = record { offset = at; width = 4 } ∷ []
leaves_by size struct_leaves (array_of t n) at = repeated n (size t) at (leaves_by size struct_leaves t)
leaves_by size struct_leaves (struct_type tag) at = struct_leaves tag at

abbrev pub members_leaves : (size align : TypeTree → ℕ) → (leaves_at : TypeTree → ℕ → List Leaf) → (start at : ℕ) → List TypeTree → List Leaf
members_leaves size align leaves_at start at [] = []
members_leaves size align leaves_at start at (t ∷ ts) =
    leaves_at t (start + rounded_up at (align t)) ++ members_leaves size align leaves_at start (rounded_up at (align t) + size t) ts

abbrev pub struct_leaves : Definitions → (tag at : ℕ) → List Leaf
struct_leaves [] tag at = []
struct_leaves (d ∷ ds) tag at =
    if d.tag == tag
    then members_leaves (size ds) (align ds) (leaves_by (size ds) (struct_leaves ds)) at 0 d.members
    else struct_leaves ds tag at

abbrev pub leaves_at : Definitions → TypeTree → (at : ℕ) → List Leaf
leaves_at defs t at = leaves_by (size defs) (struct_leaves defs) t at

abbrev pub leaves : Definitions → TypeTree → List Leaf
leaves defs t = leaves_at defs t 0

-- ---- what the calls ask for

-- a complete type of at most so many bytes
pub record IsLaidOut (defs : Definitions) (t : TypeTree) : Type 0 where
  pub complete : IsTrue (is_complete defs t)
  pub small : size defs t ≤ most_type_bytes

-- the members' types of the struct of this tag
abbrev pub members : Definitions → (tag : ℕ) → List TypeTree
members [] tag = []
members (d ∷ ds) tag = if d.tag == tag then d.members else members ds tag
