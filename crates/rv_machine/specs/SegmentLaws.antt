-- Laws of the memory that segments make, and of what is fetched from a segment.
use Rattle.std.specs.Prelude.{◌≡◌, ℕ, ◌+◌, ◌-◌, ◌%◌, ◌^◌, ◌<◌, ◌≤◌, true, false, List, length, take, drop, slice_get, slice_index, Some}
use Rattle.std.specs.Int.{w32, to_le_bytes}
use Rattle.elf_file.specs.Loading.{LoadedSegment, Executable}
use Rattle.elf_file.specs.Segments.{AreSound, HasAddress}
use Rattle.rv_machine.specs.Laws.{Reaches}
use Rattle.rv_machine.specs.Machine.{State, fetched}
use Rattle.rv_machine.specs.Memory.{Bytes, number, load_bytes, allowed, has_flag, memory_of, flags_of, to_write, to_execute}
use Rattle.rv_machine.specs.Run.{start}

-- Memory has at each address of a segment the byte and the flags of the segment.
abbrev pub SegmentIsInMemory : Type 0
SegmentIsInMemory = (segments : List LoadedSegment) (k : ℕ) (s : LoadedSegment) (x : ℕ)
    → AreSound segments → slice_get segments k ≡ Some s → HasAddress s x
    → (memory_of segments x ≡ slice_index s.bytes (x - s.at)) × (flags_of segments x ≡ s.flags)

-- Consecutive bytes are loaded as the number that they make.
abbrev pub BytesAreLoaded : Type 0
BytesAreLoaded = (mem : Bytes) (address k : ℕ) (bytes : List ℕ) → k ≤ length bytes
    → ((j : ℕ) → j < k → mem (address + j) ≡ slice_index bytes j)
    → load_bytes mem address k ≡ number (take k bytes)

abbrev pub WordBytesMakeWord : Type 0
WordBytesMakeWord = (n : ℕ) → n < 2 ^ 32 → number (to_le_bytes w32 n) ≡ n

-- Where each byte has the flag, the access is allowed.
abbrev pub FlagsAllow : Type 0
FlagsAllow = (flags : ℕ → ℕ) (flag address k : ℕ)
    → ((j : ℕ) → j < k → has_flag (flags (address + j)) flag ≡ true)
    → allowed flags flag address k ≡ true

abbrev pub FlagIsMissing : Type 0
FlagIsMissing = (flags : ℕ → ℕ) (flag address k j : ℕ) → j < k
    → has_flag (flags (address + j)) flag ≡ false → allowed flags flag address k ≡ false

-- The word at pc is a segment's, and may be executed.
pub record IsInText (s : LoadedSegment) (pc : ℕ) : Type 0 where
  pub aligned : pc % 4 ≡ 0
  pub from : s.at ≤ pc
  pub end : pc + 4 ≤ s.at + length s.bytes
  pub executable : has_flag s.flags to_execute ≡ true

-- From a segment of an executable that may not be written, the words of the file are fetched throughout a run.
abbrev pub TextIsFetched : Type 0
TextIsFetched = (e : Executable) (k : ℕ) (s : LoadedSegment) (n : ℕ) (t : State) (input written rest : List ℕ)
    → AreSound e.segments → slice_get e.segments k ≡ Some s → has_flag s.flags to_write ≡ false
    → Reaches (flags_of e.segments) n (start e) input written t rest
    → IsInText s t.pc
    → fetched (flags_of e.segments) t ≡ Some (number (take 4 (drop (t.pc - s.at) s.bytes)))
