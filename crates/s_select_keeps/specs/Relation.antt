-- Which states of the machine stand for states of linear code over places.
use Rattle.std.specs.Prelude.{◌≡◌, ◌≢◌, ◌⊎◌, ℕ, ◌+◌, ◌*◌, ◌%◌, ◌^◌, ◌<◌, ◌≤◌, Bool, true, false, slice_get, Some}
use Rattle.std.specs.List.{list_any}
use Rattle.val_core.specs.declared.values.BlockName.{BlockName}
use Rattle.val_core.specs.declared.values.Value.{Value}
use Rattle.val_core.specs.declared.values.Value.TheVariants.{Num, At, Bad}
use Rattle.val_core.specs.Memory.{Memory, Block, shape_of, is_at, load}
use Rattle.rv_isa.specs.Registers.{sp, s0}
use Rattle.rv_machine.specs.Machine as machine
use Rattle.rv_machine.specs.Memory.{Bytes, load_bytes, has_flag, to_read, to_write, IsWidth}
use Rattle.s_linear.specs.Frame.{registers, counted_for, words_of}
use Rattle.s_linear.specs.Meaning as linear
use Rattle.s_select.specs.declared.location.Location.{Location}
use Rattle.s_select.specs.declared.location.Location.TheVariants.{Register, Near, Far}
use Rattle.s_select.specs.Operands.{place_register, location_of}
use Rattle.rv_machine.specs.Standing.{Text, HasText}

-- ---- values

-- the address of each block, by its number; it keeps it for ever
abbrev pub Bases : Type 0
Bases = ℕ → ℕ

-- each block that has an address keeps it
abbrev pub Extends : (before after : Bases) → Type 0
Extends before after = (n : ℕ) → 0 < before n → after n ≡ before n

-- an address is that of its block and the offset; it is not null
pub record ShowsAddress (base size offset x : ℕ) : Type 0 where
  pub is : x ≡ base + offset
  pub within : offset ≤ size
  pub low : 0 < base
  pub high : base + size < 2 ^ 32

-- a word stands for itself, and any word for what has no meaning
abbrev pub Shows : Bases → Value → ℕ → Type 0
Shows bases (Num w) x = (x ≡ w) × (w < 2 ^ 32)
Shows bases (At b o) x = ShowsAddress (bases b.number) b.size o x
Shows bases Bad x = Unit {0}

-- ---- memory

-- a block of this number lives
pub record Lives (blocks : Memory) (number : ℕ) (block : Block) : Type 0 where
  pub there : slice_get blocks number ≡ Some block
  pub live : block.live ≡ true

-- an address is of a block that lives, or of the four bytes after it
pub record IsLive (bases : Bases) (blocks : Memory) (a : ℕ) : Type 0 where
  pub number : ℕ
  pub block : Block
  pub lives : Lives blocks number block
  pub low : bases number ≤ a
  pub high : a < bases number + block.size + 4

-- a block of this number lives, of the same shape as another
pub record Fellow (blocks : Memory) (number : ℕ) (b : Block) : Type 0 where
  pub block : Block
  pub there : Lives blocks number block
  pub shape : shape_of block ≡ shape_of b
  pub fixed : block.fixed ≡ b.fixed

-- The same blocks live in both memories, whatever they hold.
pub record LivesAlike (m m' : Memory) : Type 0 where
  pub forth : (n : ℕ) (b : Block) → Lives m n b → Fellow m' n b
  pub back : (n : ℕ) (b : Block) → Lives m' n b → Fellow m n b

abbrev pub IsOutside : Bases → Memory → ℕ → Type 0
IsOutside bases blocks a = IsLive bases blocks a → ⊥

abbrev pub has_leaf : (width offset : ℕ) → Block → Bool
has_leaf width offset b = list_any (is_at width offset) b.cells

-- a leaf is within its block, at a multiple of its width
pub record LeafFits (base size width offset : ℕ) : Type 0 where
  pub is_width : IsWidth width
  pub aligned : (base + offset) % width ≡ 0
  pub within : offset + width ≤ size

-- a block is at an address above 0, where it may be read, and written unless it is fixed
pub record BlockFits (flags : ℕ → ℕ) (base : ℕ) (b : Block) : Type 0 where
  pub low : 0 < base
  pub high : base + b.size + 4 < 2 ^ 32
  pub aligned : base % 4 ≡ 0
  pub readable : (j : ℕ) → j < b.size + 4 → has_flag (flags (base + j)) to_read ≡ true
  pub writable : b.fixed ≡ false → (j : ℕ) → j < b.size + 4 → has_flag (flags (base + j)) to_write ≡ true

-- Leaves have no byte in common, nor have blocks that live, with the four bytes after each.
pub record AreLaidOut (flags : ℕ → ℕ) (bases : Bases) (blocks : Memory) : Type 0 where
  pub leaves : (n width offset : ℕ) (b : Block) → Lives blocks n b → has_leaf width offset b ≡ true → LeafFits (bases n) b.size width offset
  pub leaves_apart : (n w o w' o' : ℕ) (b : Block) → Lives blocks n b → has_leaf w o b ≡ true → has_leaf w' o' b ≡ true
      → ((w ≡ w') × (o ≡ o')) ⊎ (o + w ≤ o') ⊎ (o' + w' ≤ o)
  pub blocks_fit : (n : ℕ) (b : Block) → Lives blocks n b → BlockFits flags (bases n) b
  pub apart : (n k : ℕ) (b c : Block) → Lives blocks n b → Lives blocks k c → n ≢ k → (bases n + b.size + 4 ≤ bases k) ⊎ (bases k + c.size + 4 ≤ bases n)

-- Blocks that live are laid out, and the bytes of each value in them show it.
pub record ShowsMemory (flags : ℕ → ℕ) (bases : Bases) (blocks : Memory) (mem : Bytes) : Type 0 where
  pub laid : AreLaidOut flags bases blocks
  pub values : (width offset : ℕ) (b : BlockName) (v : Value) → load width (At b offset) blocks ≡ Some v → Shows bases v (load_bytes mem (bases b.number + offset) width)

-- ---- registers

-- the registers of places: s1 to s11, and t3 to t6 after them
abbrev pub IsPlaceRegister : ℕ → Type 0
IsPlaceRegister r = (r ≡ 9) ⊎ (17 < r)

-- those that a call keeps: s1 to s11
abbrev pub IsSavedRegister : ℕ → Type 0
IsSavedRegister r = (r ≡ 9) ⊎ ((17 < r) × (r < 28))

-- what templates and stubs leave: the stack pointer, the stack's base and the registers of places
abbrev pub IsKept : ℕ → Type 0
IsKept r = (r ≡ sp) ⊎ (r ≡ s0) ⊎ IsPlaceRegister r

-- a register holds what it held, or the low word of that
abbrev pub SameWord : (before after : ℕ) → Type 0
SameWord x y = (y ≡ x) ⊎ (y ≡ x % 2 ^ 32)

-- ---- places

-- what a location holds, at this stack pointer
abbrev pub held : (stack : ℕ) → (regs : ℕ → ℕ) → Bytes → Location → ℕ
held stack regs mem (Register r) = regs r
held stack regs mem (Near offset) = load_bytes mem (stack + offset) 4
held stack regs mem (Far offset) = load_bytes mem (stack + offset) 4

-- What stays while the body of a function runs: how many saved registers and words it has, how many registers after them it uses
-- that calls lose, its stack pointer, where blocks stand, and the machine when the registers of its caller had been saved.
pub record Frame : Type 0 where
  pub count : ℕ
  pub temporaries : ℕ
  pub sp : ℕ
  pub bases : Bases
  pub before : machine.State

-- the frame with other addresses of blocks
abbrev pub at_bases : Frame → Bases → Frame
at_bases f bases = record { count = f.count; temporaries = f.temporaries; sp = f.sp; bases = bases; before = f.before }

-- a place is a register that calls lose, or one of the saved registers and words of the frame
abbrev pub IsPlaceOf : Frame → (place : ℕ) → Type 0
IsPlaceOf f p = counted_for f.temporaries p ≤ f.count

-- the address after the words of the frame that are places
abbrev pub words_end : Frame → ℕ
words_end f = f.sp + 4 * words_of f.count

-- the words of the frame may be read and written
pub record HasWords (text : Text) (f : Frame) : Type 0 where
  pub aligned : f.sp % 4 ≡ 0
  pub low : words_end f < 2 ^ 32
  pub readable : (a : ℕ) → f.sp ≤ a → a < words_end f → has_flag (text.flags a) to_read ≡ true
  pub writable : (a : ℕ) → f.sp ≤ a → a < words_end f → has_flag (text.flags a) to_write ≡ true

-- A state of the machine stands for a state of linear code: each place shows its value, memory is shown, registers and memory
-- that are not the body's are as they were, and so is the text.
pub record Represents (text : Text) (f : Frame) (q : linear.State) (s : machine.State) : Type 0 where
  pub stack : s.regs sp ≡ f.sp
  pub base : s.regs s0 ≡ f.before.regs s0
  pub places : (p : ℕ) → IsPlaceOf f p → Shows f.bases (q.names p) (held f.sp s.regs s.mem (location_of f.temporaries p))
  pub saved : (p : ℕ) → f.count ≤ p → p < registers → SameWord (f.before.regs (place_register p)) (s.regs (place_register p))
  pub above : (a : ℕ) → words_end f ≤ a → IsOutside f.bases q.memory a → s.mem a ≡ f.before.mem a
  pub memory : ShowsMemory text.flags f.bases q.memory s.mem
  pub apart : (a : ℕ) → f.sp ≤ a → a < words_end f → IsOutside f.bases q.memory a
  pub has_text : HasText text s.mem
