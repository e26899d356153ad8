-- The layout of a struct by its members alone (ISO/IEC 9899:2011, 6.7.2.1p15).
use Rattle.std.specs.Prelude.{◌≡◌, ℕ, ◌<◌, ◌≤◌, List, length}
use Rattle.val_core.specs.declared.leaf.Leaf.{Leaf}
use Rattle.base.specs.Limits.{most_type_bytes}
use Rattle.c_type.specs.Trees.{TypeTree}
use Rattle.c_type.specs.Layout.{Definitions, rounded_up, align, struct_align, largest, size, struct_size, members_end, offset, offset_from, leaves_at, struct_leaves, members_leaves, members}
use Rattle.c_type.specs.WellDefined.{AreLaidOut}

-- what a struct of these members occupies, at the definitions so far
pub record IsLevelOf (defs : Definitions) (ms : List TypeTree) (bytes alignment : ℕ) (offset_of : ℕ → ℕ) (leaves_from : ℕ → List Leaf) : Type 0 where
  pub bytes_is : bytes ≡ rounded_up (members_end (size defs) (align defs) 0 ms) (largest (align defs) ms)
  pub alignment_is : alignment ≡ largest (align defs) ms
  pub offsets_are : (i : ℕ) → offset_of i ≡ offset_from (size defs) (align defs) 0 ms i
  pub leaves_are : (at : ℕ) → leaves_from at ≡ members_leaves (size defs) (align defs) (leaves_at defs) at 0 ms
  pub laid_out : AreLaidOut defs ms
  pub some : 0 < length ms
  pub small : bytes ≤ most_type_bytes

abbrev pub IsLevel : Definitions → (tag : ℕ) → Type 0
IsLevel defs tag =
    IsLevelOf defs (members defs tag) (struct_size defs tag) (struct_align defs tag) (offset defs tag) (struct_leaves defs tag)
