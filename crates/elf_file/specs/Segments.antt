-- A segment of a view as a plain record, and what holds of the segments of every executable that is loaded.
use Rattle.std.specs.Prelude.{ℕ, ◌+◌, ◌^◌, ◌<◌, ◌≤◌, List, length, All, AllPairs, sum_by}
use Rattle.elf_file.specs.Image.{memory_limit}
use Rattle.elf_file.specs.Loading.{LoadedSegment}
use Rattle.elf_file.specs.declared.view.Segment.{Segment}

-- a segment of a view, as a plain record
abbrev pub segment_of : Segment → LoadedSegment
segment_of s = record { at = s.at; size = s.size; flags = s.flags; bytes = s.bytes.now }

-- The bytes of the file are no more than those of the memory, which ends within 2^32 bytes.
pub record IsContained (s : LoadedSegment) : Type 0 where
  pub part : length s.bytes ≤ s.size
  pub end : s.at + s.size ≤ 2 ^ 32

-- The address is in the memory of the segment.
abbrev pub HasAddress : LoadedSegment → ℕ → Type 0
HasAddress s address = (s.at ≤ address) × (address < s.at + s.size)

-- No address is in the memory of both.
abbrev pub AreApart : LoadedSegment → LoadedSegment → Type 0
AreApart a b = (address : ℕ) → HasAddress a address → HasAddress b address → ⊥

pub record AreSound (segments : List LoadedSegment) : Type 0 where
  pub few : length segments ≤ 16
  pub contained : All IsContained segments
  pub apart : AllPairs AreApart segments
  pub memory : sum_by (λ s. s.size) segments ≤ memory_limit
