-- The structs of the code, with what they occupy.
use Rattle.std.specs.Prelude.{◌≡◌, ℕ, ◌^◌, ◌<◌, ◌≤◌, ◌⊎◌, List, [], ◌∷◌, length, slice_index, slice_get, Some}
use Rattle.base.specs.Limits.{most_type_bytes}
use Rattle.c_type.specs.Layout.{Definitions, struct_size, struct_align, offset, members}
use Rattle.c_type.specs.WellDefined.{AreDefinitions}
use Rattle.c_type.specs.Normal.{AreNormalOf}
use Rattle.c_type.specs.declared.structs.Struct.{Struct}

-- the definitions of structs, after earlier ones
abbrev pub definitions_of : Definitions → List Struct → Definitions
definitions_of defs [] = defs
definitions_of defs (s ∷ ss) = definitions_of (record { tag = s.tag; members = s.members.items } ∷ defs) ss

-- what is kept of a struct is what its definition says
pub record IsKept (defs : Definitions) (s : Struct) : Type 0 where
  pub members : members defs s.tag ≡ s.members.items
  pub size : s.size ≡ struct_size defs s.tag
  pub small : s.size ≤ most_type_bytes
  pub align : s.align ≡ struct_align defs s.tag
  pub count : length s.offsets.items ≡ length s.members.items
  pub normal : AreNormalOf defs s.members.items s.parts.items
  pub offsets : (i : ℕ) → i < length s.offsets.items → slice_index s.offsets.items i ≡ offset defs s.tag i

-- what stands for the index of a tag that has none
abbrev pub absent : ℕ
absent = 0xffff_ffff

-- each tag with an index is that of the struct there, and each struct has the index of its tag
pub record AreIndexed (indices : List ℕ) (structs : List Struct) : Type 0 where
  pub kept : (p : ℕ) (s : Struct) → slice_get structs p ≡ Some s → IsKept (definitions_of [] structs) s
  pub found : (tag p : ℕ) (s : Struct) → slice_get indices tag ≡ Some p → slice_get structs p ≡ Some s → s.tag ≡ tag
  pub indexed : (p : ℕ) (s : Struct) → slice_get structs p ≡ Some s → slice_get indices s.tag ≡ Some p
  pub bounded : (tag p : ℕ) → slice_get indices tag ≡ Some p → (p < length structs) ⊎ (p ≡ absent)
  pub few : length structs < 2 ^ 32
  pub ordered : AreDefinitions (definitions_of [] structs)

-- the indices of more tags, which have none yet
pub record Pads (old new : List ℕ) : Type 0 where
  pub kept : (tag p : ℕ) → slice_get old tag ≡ Some p → slice_get new tag ≡ Some p
  pub added : (tag p : ℕ) → slice_get new tag ≡ Some p → (slice_get old tag ≡ Some p) ⊎ (p ≡ absent)
