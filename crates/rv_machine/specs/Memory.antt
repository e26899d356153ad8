-- Memory by bytes: the byte at each address, and what is allowed there.
use Rattle.std.specs.Prelude.{◌≡◌, ◌⊎◌, ℕ, zero, suc, ◌+◌, ◌-◌, ◌*◌, ◌/◌, ◌%◌, ◌==◌, nat_le, nat_lt, not, Bool, true, ◌&&◌, if◌then◌else◌, List, [], ◌∷◌, slice_index, slice_set, bit_and}
use Rattle.elf_file.specs.Loading.{LoadedSegment}

abbrev pub Bytes : Type 0
Bytes = ℕ → ℕ

-- the map with this number at one argument, and all else as it was
abbrev pub put_at : (ℕ → ℕ) → ℕ → ℕ → (ℕ → ℕ)
put_at map at n = λ x. if x == at then n else map x

-- the number that this many bytes from an address on make, the lowest byte first
unfoldable pub load_bytes : Bytes → ℕ → ℕ → ℕ
load_bytes mem address zero = 0
load_bytes mem address (suc k) = mem address + 256 * load_bytes mem (suc address) k

-- the low bytes of a number stored from an address on, the lowest first
unfoldable pub store_bytes : Bytes → ℕ → ℕ → ℕ → Bytes
store_bytes mem address n zero = mem
store_bytes mem address n (suc k) =
    store_bytes (put_at mem address (n % 256)) (suc address) (n / 256) k

-- the number that bytes make, the lowest first
unfoldable pub number : List ℕ → ℕ
number [] = 0
number (byte ∷ bytes) = byte + 256 * number bytes

-- the bytes of an access
abbrev pub IsWidth : ℕ → Type 0
IsWidth n = (n ≡ 1) ⊎ (n ≡ 2) ⊎ (n ≡ 4)

-- the bytes with the low bytes of a number from an offset on
unfoldable pub written : List ℕ → ℕ → ℕ → ℕ → List ℕ
written bytes at n zero = bytes
written bytes at n (suc k) = written (slice_set bytes at (n % 256)) (suc at) (n / 256) k

-- The flags of an address: 4 to read, 2 to write, 1 to execute. They are 0 where there is no memory.

abbrev pub to_read : ℕ
to_read = 4

abbrev pub to_write : ℕ
to_write = 2

abbrev pub to_execute : ℕ
to_execute = 1

abbrev pub has_flag : ℕ → ℕ → Bool
has_flag flags flag = not (bit_and flags flag == 0)

-- each of this many bytes from an address on has the flag
unfoldable pub allowed : (flags : ℕ → ℕ) (flag address k : ℕ) → Bool
allowed flags flag address zero = true
allowed flags flag address (suc k) =
    has_flag (flags address) flag && allowed flags flag (suc address) k

-- The memory and the flags of segments that are loaded.

abbrev pub holds : LoadedSegment → ℕ → Bool
holds s address = nat_le s.at address && nat_lt address (s.at + s.size)

unfoldable pub memory_of : List LoadedSegment → Bytes
memory_of [] address = 0
memory_of (s ∷ others) address =
    if holds s address then slice_index s.bytes (address - s.at) else memory_of others address

unfoldable pub flags_of : List LoadedSegment → (ℕ → ℕ)
flags_of [] address = 0
flags_of (s ∷ others) address =
    if holds s address then s.flags else flags_of others address
