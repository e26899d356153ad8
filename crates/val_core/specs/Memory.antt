-- Memory: a list of blocks, each named by its place in the list and its size (ISO/IEC 9899:2011, 6.2.4, 6.2.6.1,
-- 6.5p7). It has no addresses.
use Rattle.std.specs.Prelude.{ℕ, zero, suc, ◌*◌, ◌%◌, ◌^◌, ◌==◌, ◌&&◌, not, Bool, true, false, if◌then◌else◌, List, [], ◌∷◌, map, slice_get, Option, None, Some, option_map, option_and_then}
use Rattle.std.specs.List.{list_any}
use Rattle.std.specs.Option.{IfSome}
use Rattle.val_core.specs.Words.{one_if}
use Rattle.val_core.specs.Values.{BlockName, Value, Num, At, Bad, same_block, IsSound}
use Rattle.val_core.specs.declared.leaf.Leaf.{Leaf}

-- a leaf of a block, and its value, if it has one
pub record Cell : Type 0 where
  pub leaf : Leaf
  pub value : Option Value

-- The object that a block holds is `live` while its lifetime lasts, and no store changes a `fixed` one.
pub record Block : Type 0 where
  pub size : ℕ
  pub cells : List Cell
  pub live : Bool
  pub fixed : Bool

abbrev pub Memory : Type 0
Memory = List Block

abbrev pub new_cell : Leaf → Cell
new_cell l = record { leaf = l; value = None }

-- a block without values
abbrev pub new_block : (size : ℕ) → List Leaf → Block
new_block size leaves =
    record { size = size; cells = map new_cell leaves; live = true; fixed = false }

-- the block of this name, if the memory has one
abbrev pub block_named : BlockName → Memory → Option Block
block_named b m = option_and_then (λ k. if k.size == b.size then Some k else None) (slice_get m b.number)

-- the block of this number changed, where there is one
abbrev pub block_changed : ℕ → (Block → Block) → Memory → Memory
block_changed n f [] = []
block_changed zero f (k ∷ m) = f k ∷ m
block_changed (suc n) f (k ∷ m) = k ∷ block_changed n f m

abbrev pub is_at : (width offset : ℕ) → Cell → Bool
is_at width offset c = (c.leaf.offset == offset) && (c.leaf.width == width)

abbrev pub value_at : (width offset : ℕ) → List Cell → Option Value
value_at width offset [] = None
value_at width offset (c ∷ cs) = if is_at width offset c then c.value else value_at width offset cs

abbrev pub read_block : (width offset : ℕ) → Option Block → Option Value
read_block width offset None = None
read_block width offset (Some k) = if k.live then value_at width offset k.cells else None

-- The value at an address: of a leaf of this width in a live block, where the leaf has one.
abbrev pub load : (width : ℕ) → Value → Memory → Option Value
load width (At b o) m = read_block width o (block_named b m)
load width _ m = None

abbrev pub takes_store : (width offset : ℕ) → Option Block → Bool
takes_store width offset None = false
takes_store width offset (Some k) = k.live && not k.fixed && list_any (is_at width offset) k.cells

abbrev pub cell_written : (width offset : ℕ) → Value → Cell → Cell
cell_written width offset v c = if is_at width offset c then record c { value = Some v } else c

abbrev pub written : (width offset : ℕ) → Value → Block → Block
written width offset v k = record k { cells = map (cell_written width offset v) k.cells }

-- What a leaf of this width keeps of a value: the low bits of a word, an address only where it has room, and nothing of
-- what has no meaning (6.3.1.3).
abbrev pub kept : (width : ℕ) → Value → Option Value
kept width (Num w) = Some (Num (w % 2 ^ (8 * width)))
kept width (At b o) = if width == 4 then Some (At b o) else None
kept width Bad = None

-- The memory once a value is stored at an address: at a leaf of this width in a live block that is not fixed.
abbrev pub store : (width : ℕ) → Value → Value → Memory → Option Memory
store width (At b o) v m =
    option_map (λ kept_value. block_changed b.number (written width o kept_value) m)
    (if takes_store width o (block_named b m) then kept width v else None)
store width _ v m = None

abbrev pub cell_zeroed : Cell → Cell
cell_zeroed c = record c { value = Some (Num 0) }

-- every leaf of the block is 0
abbrev pub zeroed : Block → Block
zeroed k = record k { cells = map cell_zeroed k.cells }

abbrev pub cleared : BlockName → Memory → Memory
cleared b m = block_changed b.number zeroed m

-- the object at an address cleared
abbrev pub cleared_at : Value → Memory → Option Memory
cleared_at (At b offset) m = Some (cleared b m)
cleared_at _ m = None

-- the lifetime of the block has ended
abbrev pub dead : Block → Block
dead k = record k { live = false }

-- the lifetimes of `count` blocks from number `first` on have ended
abbrev pub closed : (first count : ℕ) → Memory → Memory
closed first count [] = []
closed (suc first) count (k ∷ m) = k ∷ closed first count m
closed zero zero (k ∷ m) = k ∷ m
closed zero (suc count) (k ∷ m) = dead k ∷ closed zero count m

abbrev pub is_live : Option Block → Bool
is_live None = false
is_live (Some k) = k.live

-- Whether two pointers are equal, as 1 or 0 (6.5.9): words are compared, an address is not null, and addresses are
-- compared while both blocks live.
abbrev pub pointers_equal : Value → Value → Memory → Option ℕ
pointers_equal (Num a) (Num b) m = Some (one_if (a == b))
pointers_equal (At b o) (Num w) m = if w == 0 then Some 0 else None
pointers_equal (Num w) (At b o) m = if w == 0 then Some 0 else None
pointers_equal (At b o) (At c p) m =
    if is_live (block_named b m) && is_live (block_named c m) then Some (one_if (same_block b c && (o == p))) else None
pointers_equal _ _ m = None

-- What no store, clear or end of a lifetime changes of a block: its size and its leaves.
pub record BlockShape : Type 0 where
  pub size : ℕ
  pub leaves : List Leaf

abbrev pub shape_of : Block → BlockShape
shape_of k = record { size = k.size; leaves = map (λ c. c.leaf) k.cells }

-- every value of the memory is sound
abbrev pub AreSoundCells : List Cell → Type 0
AreSoundCells [] = Unit {0}
AreSoundCells (c ∷ cs) = IfSome c.value IsSound × AreSoundCells cs

abbrev pub IsSoundMemory : Memory → Type 0
IsSoundMemory [] = Unit {0}
IsSoundMemory (k ∷ m) = AreSoundCells k.cells × IsSoundMemory m
