-- The struct definitions of a program, in the order in which it has them.
use Rattle.std.specs.Prelude.{◌≡◌, ℕ, ◌+◌, ◌^◌, ◌<◌, ◌≤◌, false, List, [], ◌∷◌, length}
use Rattle.base.specs.Limits.{most_type_bytes}
use Rattle.c_type.specs.Trees.{TypeTree}
use Rattle.c_type.specs.Layout.{Definition, Definitions, is_defined, rounded_up, align, size, struct_size, IsLaidOut}

abbrev pub AreLaidOut : Definitions → List TypeTree → Type 0
AreLaidOut defs [] = Unit {0}
AreLaidOut defs (t ∷ ts) = IsLaidOut defs t × AreLaidOut defs ts

-- A definition of a new tag, with members whose types are laid out by then, of which the struct is not too large.
pub record Follows (defs : Definitions) (d : Definition) : Type 0 where
  pub new : is_defined defs d.tag ≡ false
  pub some : 0 < length d.members
  pub laid_out : AreLaidOut defs d.members
  pub small : struct_size (d ∷ defs) d.tag ≤ most_type_bytes

-- each definition follows the earlier ones
abbrev pub AreDefinitions : Definitions → Type 0
AreDefinitions [] = Unit {0}
AreDefinitions (d ∷ ds) = Follows ds d × AreDefinitions ds

-- A member of a struct that begins at `at` is laid out, and fits after the earlier members, which end at `end`.
pub record MemberFits (defs : Definitions) (at end : ℕ) (t : TypeTree) : Type 0 where
  pub laid_out : IsLaidOut defs t
  pub positive : 0 < align defs t
  pub room : end + align defs t < 2 ^ 32
  pub within : at + (rounded_up end (align defs t) + size defs t) ≤ most_type_bytes
  pub above : end ≤ rounded_up end (align defs t)
