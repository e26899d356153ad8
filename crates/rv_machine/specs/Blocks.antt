-- What a memory shows.
use Rattle.std.specs.Prelude.{◌≡◌, ℕ, ◌+◌, ◌-◌, ◌<◌, ◌≤◌, true, false, List, length, map, vec_len, slice_index, slice_index_or}
use Rattle.elf_file.specs.Loading.{LoadedSegment}
use Rattle.rv_machine.specs.Block.{segment_of}
use Rattle.rv_machine.specs.Memory.{Bytes, holds, memory_of, flags_of}
use Rattle.rv_machine.specs.declared.block.Block.{Block}
use Rattle.rv_machine.specs.declared.memory.Memory.{Memory}

-- its segments
abbrev pub segments_of : Memory → List LoadedSegment
segments_of m = map segment_of m.blocks.items

-- the byte at each address, and the flags
abbrev pub bytes_of : Memory → Bytes
bytes_of m = memory_of (segments_of m)

abbrev pub allowance_of : Memory → (ℕ → ℕ)
allowance_of m = flags_of (segments_of m)

-- no block holds the address
abbrev pub IsAbsent : List Block → ℕ → Type 0
IsAbsent xs address =
    (j : ℕ) (d : Block) → j < length xs → holds (segment_of (slice_index_or xs j d)) address ≡ false

-- the block of this number holds the address
abbrev pub HoldsAt : List Block → ℕ → ℕ → Type 0
HoldsAt xs address k =
    (k < length xs) × ((d : Block) → holds (segment_of (slice_index_or xs k d)) address ≡ true)

-- the block of this number goes on to this address, or further
abbrev pub EndsWithin : List Block → ℕ → ℕ → Type 0
EndsWithin xs end k = (d : Block) → end ≤ (slice_index_or xs k d).at + vec_len (slice_index_or xs k d).bytes

-- the block has the address, and the memory's bytes and flags are those of the block at each of its addresses
pub record IsBlockAt (m : Memory) (address : ℕ) (b : Block) : Type 0 where
  pub above : b.at ≤ address
  pub below : address < b.at + vec_len b.bytes
  pub bytes : (x : ℕ) → b.at ≤ x → x < b.at + vec_len b.bytes → bytes_of m x ≡ slice_index b.bytes.items (x - b.at)
  pub flags : (x : ℕ) → b.at ≤ x → x < b.at + vec_len b.bytes → allowance_of m x ≡ b.flags

-- there is no memory at the address
pub record IsOutside (m : Memory) (address : ℕ) : Type 0 where
  pub bytes : bytes_of m address ≡ 0
  pub flags : allowance_of m address ≡ 0
