-- The objects of a call: their blocks, and the addresses of objects and globals (ISO/IEC 9899:2011, 6.2.4).
use Rattle.std.specs.Prelude.{ℕ, ◌+◌, ◌%◌, ◌^◌, List, map, slice_get, Option, None, Some}
use Rattle.val_core.specs.Values.{Value, At, Bad}
use Rattle.val_core.specs.Memory.{Memory, BlockShape, new_block}

-- a size is a word
abbrev pub word_of : ℕ → ℕ
word_of size = size % 2 ^ 32

-- the first byte of the block of this number and size, where there is one
abbrev pub block_address : (number : ℕ) → (size : Option ℕ) → Value
block_address n None = Bad
block_address n (Some size) = At (record { number = n; size = word_of size }) 0

-- the address of block k of some blocks of these sizes, the first of which has the number `base`
abbrev pub address_in : (base : ℕ) → (sizes : List ℕ) → (k : ℕ) → Value
address_in base sizes k = block_address (base + k) (slice_get sizes k)

-- The blocks of a call's objects of these sizes and leaves, without values: they come after the caller's blocks.
abbrev pub opened : List BlockShape → Memory
opened shapes = map (λ s. new_block (word_of s.size) s.leaves) shapes

-- the addresses of the objects of a call and of the globals, by their numbers
pub record Addresses : Type 0 where
  pub local : ℕ → Value
  pub global : ℕ → Value
