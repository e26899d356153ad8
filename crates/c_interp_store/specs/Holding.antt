-- Which memory a store holds.
use Rattle.std.specs.Prelude.{◌≡◌, ℕ, ◌+◌, ◌≤◌, ◌==◌, Bool, true, false, if◌then◌else◌, List, [], ◌∷◌, ◌++◌, map, length, slice_get, Option, None, Some}
use Rattle.val_core.specs.declared.values.BlockName.{BlockName}
use Rattle.val_core.specs.Memory.{Block, Memory}
use Rattle.val_core.specs.Numbers.{numbers_from}
use Rattle.c_interp_store.specs.declared.objects.Objects.{Objects}
use Rattle.c_interp_store.specs.declared.store.Store.{Store}
use Rattle.c_interp_store.specs.declared.block.Block.{Block as Listed}
use Rattle.c_interp_store.specs.Blocks.{number_of, block_of, listed}

-- blocks that were opened together, those of the globals or of the objects of a call
pub record Opened : Type 0 where
  pub first : ℕ
  pub count : ℕ

abbrev pub opened_of : Objects → Opened
opened_of o = record { first = o.first; count = o.count }

-- the globals are the first of the blocks
abbrev pub globals_of : Memory → List Opened
globals_of m = record { first = 0; count = length m } ∷ []

-- the numbers of the blocks of these calls, of which the newest stands first
abbrev pub numbers_of : List Opened → List ℕ
numbers_of [] = []
numbers_of (o ∷ os) = numbers_of os ++ numbers_from o.first o.count

-- the blocks of a call come after those of the calls that were there before it
abbrev pub AreApart : List Opened → (below : ℕ) → Type 0
AreApart [] below = Unit {0}
AreApart (o ∷ os) below = (o.first + o.count ≤ below) × AreApart os o.first

abbrev pub only_live : Option Block → Option Block
only_live None = None
only_live (Some k) = if k.live then Some k else None

-- the block of this number, where it lives
abbrev pub live_block : (number : ℕ) → Memory → Option Block
live_block n m = only_live (slice_get m n)

-- The blocks of these calls, and no others, are listed in order. Each is listed exactly where the memory's block of its
-- number lives, and is equal to it.
pub record Holds (s : Store) (calls : List Opened) (m : Memory) : Type 0 where
  pub made : s.made ≡ length m
  pub numbers : map number_of s.blocks.items ≡ numbers_of calls
  pub apart : AreApart calls (length m)
  pub holds : (n : ℕ) → listed n s.blocks.items ≡ live_block n m

abbrev pub of_size : (size : ℕ) → Option Block → Option Block
of_size size None = None
of_size size (Some k) = if k.size == size then Some k else None

-- the block of this name, where it lives
abbrev pub live_named : BlockName → Memory → Option Block
live_named b m = of_size b.size (live_block b.number m)

-- the block of this name lives and is listed at this index
pub record IsNamedAt (bs : List Listed) (b : BlockName) (m : Memory) (i : ℕ) : Type 0 where
  pub block : Listed
  pub there : slice_get bs i ≡ Some block
  pub number_is : number_of block ≡ b.number
  pub lives : live_named b m ≡ Some (block_of block)

-- A block was put at the end. It belongs to the newest of the calls where that one's blocks end there.
abbrev pub IsGrown : (before after : Store) → Block → Type 0
IsGrown before after k =
    (first count : ℕ) (calls : List Opened) (m : Memory) → first + count ≡ length m → Holds before (record { first = first; count = count } ∷ calls) m →
    Holds after (record { first = first; count = count + 1 } ∷ calls) (m ++ k ∷ [])

-- The memory is as told, where that is defined, and the answer says whether it is.
abbrev pub IsChanged : List Opened → Option Memory → Store → Bool → Type 0
IsChanged calls None s done = done ≡ false
IsChanged calls (Some m) s done = (done ≡ true) × Holds s calls m
