-- Laws of layouts.
use Rattle.std.specs.Prelude.{◌≡◌, ℕ, ◌+◌, ◌*◌, ◌<◌, ◌≤◌, ◌⊎◌, true, List, [], ◌∷◌, slice_get, Some}
use Rattle.val_core.specs.declared.leaf.Leaf.{Leaf}
use Rattle.c_type.specs.Trees.{TypeTree}
use Rattle.c_type.specs.Layout.{Definitions, is_defined, is_complete, align, size, struct_size, offset, members, leaves_at}
use Rattle.c_type.specs.WellDefined.{AreDefinitions}

abbrev pub IsMultiple : (of n : ℕ) → Type 0
IsMultiple of n = (k : ℕ) × (n ≡ k * of)

-- 1, 2 or 4
abbrev pub IsWidth : ℕ → Type 0
IsWidth n = (n ≡ 1) ⊎ ((n ≡ 2) ⊎ (n ≡ 4))

-- a leaf not below this offset, of one of the widths, at a multiple of its width
pub record IsPlaced (low : ℕ) (l : Leaf) : Type 0 where
  pub above : low ≤ l.offset
  pub width : IsWidth l.width
  pub aligned : IsMultiple l.width l.offset

-- leaves in order of offset, none of which overlap, between these offsets
abbrev pub AreInOrder : (low high : ℕ) → List Leaf → Type 0
AreInOrder low high [] = low ≤ high
AreInOrder low high (l ∷ ls) = IsPlaced low l × AreInOrder (l.offset + l.width) high ls

-- an alignment is 1, 2 or 4
abbrev pub AlignmentIsWidth : Type 0
AlignmentIsWidth = (defs : Definitions) (t : TypeTree) → IsWidth (align defs t)

-- a size is a multiple of the alignment, and not 0
abbrev pub SizeIsMultiple : Type 0
SizeIsMultiple =
    (defs : Definitions) → AreDefinitions defs → (t : TypeTree) → is_complete defs t ≡ true →
    IsMultiple (align defs t) (size defs t) × (0 < size defs t)

-- a member stands within its struct, at a multiple of its alignment
abbrev pub MemberIsWithin : Type 0
MemberIsWithin =
    (defs : Definitions) → AreDefinitions defs → (tag member : ℕ) (t : TypeTree) → is_defined defs tag ≡ true → slice_get (members defs tag) member ≡ Some t →
    IsMultiple (align defs t) (offset defs tag member) × (offset defs tag member + size defs t ≤ struct_size defs tag)

-- the leaves of a type that begins at a multiple of its alignment are in order and within it
abbrev pub LeavesAreInOrder : Type 0
LeavesAreInOrder =
    (defs : Definitions) → AreDefinitions defs → (t : TypeTree) → is_complete defs t ≡ true → (at : ℕ) → IsMultiple (align defs t) at →
    AreInOrder at (at + size defs t) (leaves_at defs t at)
