-- What a write within a block leaves of the memory.
use Rattle.std.proofs.Common.{◌≡◌, ℕ, suc, ◌+◌, ◌-◌, ◌/◌, ◌%◌, ◌<◌, ◌≤◌, List, length, map, get_or, set, vec_len, refl, sym, ap, ◌∙◌, arith}
use Rattle.std.specs.Prelude.{AllPairs}
use Rattle.std.proofs.lemmas.List.{map-set}
use Rattle.std.proofs.Math.Seq.{map-set_same}
use Rattle.elf_file.specs.Loading.{LoadedSegment}
use Rattle.elf_file.specs.Segments.{AreApart}
use Rattle.rv_machine.specs.declared.block.Block.{Block}
use Rattle.rv_machine.specs.Block.{segment_of, outline_of, SameBounds}
use Rattle.rv_machine.specs.Memory.{memory_of, flags_of, written, store_bytes, put_at}
use Rattle.rv_machine.proofs.Lookups.{IsAt, is_at, with_bytes, memory-written, flags-same}

outline-same : (b c : Block) → SameBounds b c → outline_of c ≡ outline_of b
outline-same b c same = rw same.at rw same.size rw same.flags refl

pub outlines-same : (xs : List Block) (k : ℕ) (b c : Block) → get_or xs k b ≡ b → SameBounds b c
    → map outline_of (set xs k c) ≡ map outline_of xs
outlines-same xs k b c is same = map-set_same outline_of xs k c b (outline-same b c same ∙ ap outline_of (sym is))

pub apart-same : (xs : List Block) (k : ℕ) (b c : Block) → get_or xs k b ≡ b → SameBounds b c
    → AllPairs AreApart (map outline_of xs) → AllPairs AreApart (map outline_of (set xs k c))
apart-same xs k b c is same apart = rw (outlines-same xs k b c is same) apart

pub flags-write : (xs : List Block) (k : ℕ) (b c : Block) → get_or xs k b ≡ b → SameBounds b c
    → flags_of (map segment_of (set xs k c)) ≡ flags_of (map segment_of xs)
flags-write xs k b c is same = flags-same (set xs k c) xs (outlines-same xs k b c is same)

segment-written : (b c : Block) (bytes : List ℕ) → SameBounds b c → c.bytes.items ≡ bytes → segment_of c ≡ with_bytes (segment_of b) bytes
segment-written b c bytes same e = rw same.at rw same.size rw same.flags rw e refl

pub memory-write : (xs : List Block) (k : ℕ) (b c : Block) (a n w : ℕ) → AllPairs AreApart (map outline_of xs) → k < length xs → get_or xs k b ≡ b
    → SameBounds b c → c.bytes.items ≡ written b.bytes.items (a - b.at) n w → b.at ≤ a → a + w ≤ b.at + vec_len b.bytes
    → memory_of (map segment_of (set xs k c)) ≡ store_bytes (memory_of (map segment_of xs)) a n w
memory-write xs k b c a n w apart within is same e above below =
    let ss : List LoadedSegment = map segment_of xs in
    let at : IsAt ss k (segment_of b) = is_at xs k b apart within is in
    ap memory_of (map-set segment_of xs k c ∙ ap (set ss k) (segment-written b c (written b.bytes.items (a - b.at) n w) same e))
    ∙ memory-written ss k (segment_of b) a n w at (sym b.bytes.ok.0) above below

store-suc : (mem : ℕ → ℕ) (a n w : ℕ) → store_bytes mem a n (suc w) ≡ store_bytes (put_at mem a (n % 256)) (suc a) (n / 256) w
unfolding store_bytes
store-suc mem a n w = refl

store-zero : (mem : ℕ → ℕ) (a n : ℕ) → store_bytes mem a n 0 ≡ mem
unfolding store_bytes
store-zero mem a n = refl

store-same : (mem : ℕ → ℕ) (a n w a' w' : ℕ) → a ≡ a' → w ≡ w' → store_bytes mem a n w ≡ store_bytes mem a' n w'
store-same mem a n w a' w' e f = rw e rw f refl

-- one byte more of `w`
pub store_more : (mem : ℕ → ℕ) (a n w i : ℕ) → i < w
    → store_bytes mem (a + i) n (w - i) ≡ store_bytes (put_at mem (a + i) (n % 256)) (a + (i + 1)) (n / 256) (w - (i + 1))
store_more mem a n w i below =
    store-same mem (a + i) n (w - i) (a + i) (suc (w - (i + 1))) refl (omega arith)
    ∙ store-suc mem (a + i) n (w - (i + 1))
    ∙ store-same (put_at mem (a + i) (n % 256)) (suc (a + i)) (n / 256) (w - (i + 1)) (a + (i + 1)) (w - (i + 1)) (omega arith) refl

pub store_all : (mem : ℕ → ℕ) (a n w i : ℕ) → w ≤ i → store_bytes mem (a + i) n (w - i) ≡ mem
store_all mem a n w i past = store-same mem (a + i) n (w - i) (a + i) 0 refl (omega arith) ∙ store-zero mem (a + i) n

byte_low : (n : ℕ) → n < 256 → n % 256 ≡ n
byte_low n small = omega arith

pub store-one : (mem : ℕ → ℕ) (a n : ℕ) → n < 256 → store_bytes mem a n 1 ≡ put_at mem a n
store-one mem a n small = store-suc mem a n 0 ∙ store-zero (put_at mem a (n % 256)) (suc a) (n / 256) ∙ ap (put_at mem a) (byte_low n small)
