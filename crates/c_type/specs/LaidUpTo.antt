-- Members that are laid out one after the other.
use Rattle.std.specs.Prelude.{◌≡◌, ℕ, ◌+◌, ◌<◌, ◌≤◌, max, List, length, slice_index}
use Rattle.base.specs.Limits.{most_type_bytes}
use Rattle.c_type.specs.Trees.{TypeTree}
use Rattle.c_type.specs.Layout.{Definitions, rounded_up, align, largest, size, members_end, offset_from}
use Rattle.c_type.specs.WellDefined.{AreLaidOut}

-- the first of these members are laid out, at these offsets, and the rest are still to be
pub record LaidUpTo (defs : Definitions) (ms rest : List TypeTree) (offsets : List ℕ) (end alignment : ℕ) : Type 0 where
  pub small : end ≤ most_type_bytes
  pub ends : members_end (size defs) (align defs) end rest ≡ members_end (size defs) (align defs) 0 ms
  pub aligned : max alignment (largest (align defs) rest) ≡ largest (align defs) ms
  pub positive : 0 < alignment
  pub laid_out : AreLaidOut defs rest
  pub count : length offsets + length rest ≡ length ms
  pub offsets_are : (k : ℕ) → k < length offsets → slice_index offsets k ≡ offset_from (size defs) (align defs) 0 ms k
  pub later : (k : ℕ) → offset_from (size defs) (align defs) 0 ms (length offsets + k) ≡ offset_from (size defs) (align defs) end rest k

-- the size of a struct of these members
abbrev pub struct_bytes : Definitions → List TypeTree → ℕ
struct_bytes defs ms = rounded_up (members_end (size defs) (align defs) 0 ms) (largest (align defs) ms)

-- all of them are
pub record IsLaid (defs : Definitions) (ms : List TypeTree) (offsets : List ℕ) (bytes alignment : ℕ) : Type 0 where
  pub bytes_is : bytes ≡ struct_bytes defs ms
  pub small : bytes ≤ most_type_bytes
  pub alignment_is : alignment ≡ largest (align defs) ms
  pub count : length offsets ≡ length ms
  pub offsets_are : (k : ℕ) → k < length offsets → slice_index offsets k ≡ offset_from (size defs) (align defs) 0 ms k
