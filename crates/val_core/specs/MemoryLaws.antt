-- Laws of memory.
use Rattle.std.specs.Prelude.{◌≡◌, ◌≢◌, ℕ, ◌+◌, ◌<◌, ◌≤◌, ◌⊎◌, true, false, List, ◌++◌, map, length, None, Some, option_map, option_and_then}
use Rattle.std.specs.List.{list_any}
use Rattle.std.specs.Option.{IfSome}
use Rattle.val_core.specs.Values.{BlockName, Value, Num, At, IsSound}
use Rattle.val_core.specs.Memory.{Block, Memory, BlockShape, is_at, block_named, load, kept, store, dead, cleared, closed, shape_of, IsSoundMemory}
use Rattle.val_core.specs.Objects.{opened, address_in}

-- two leaves to store at: another address or another width
abbrev pub Apart : (width : ℕ) → Value → (width' : ℕ) → Value → Type 0
Apart width a width' a' = (a ≢ a') ⊎ (width ≢ width')

-- a leaf holds what was stored there, as far as it keeps it
abbrev pub LoadAfterStore : Type 0
LoadAfterStore =
    (width : ℕ) (a v : Value) (m m' : Memory) → store width a v m ≡ Some m' → load width a m' ≡ kept width v

-- every other leaf holds what it held
abbrev pub LoadElsewhere : Type 0
LoadElsewhere =
    (width width' : ℕ) (a a' v : Value) (m m' : Memory) → Apart width a width' a' → store width a v m ≡ Some m' → load width' a' m' ≡ load width' a' m

-- of two stores at one leaf the later counts
abbrev pub StoreTwice : Type 0
StoreTwice =
    (width : ℕ) (a v w : Value) (m m' : Memory) → store width a v m ≡ Some m' → store width a w m' ≡ store width a w m

-- stores at two leaves may be made in either order
abbrev pub StoresCommute : Type 0
StoresCommute =
    (width width' : ℕ) (a a' v v' : Value) (m : Memory) → Apart width a width' a' →
    option_and_then (store width' a' v') (store width a v m) ≡ option_and_then (store width a v) (store width' a' v' m)

-- a store changes no block's size, leaves or marks
abbrev pub StoreKeepsBlocks : Type 0
StoreKeepsBlocks =
    (width : ℕ) (a v : Value) (m m' : Memory) → store width a v m ≡ Some m' →
    (map shape_of m' ≡ map shape_of m) × (map (λ k. k.live) m' ≡ map (λ k. k.live) m) × (map (λ k. k.fixed) m' ≡ map (λ k. k.fixed) m)

-- neither a load nor a store is defined in a block whose lifetime has ended
abbrev pub DeadIsUndefined : Type 0
DeadIsUndefined =
    (width offset : ℕ) (b : BlockName) (k : Block) (v : Value) (m : Memory) → block_named b m ≡ Some k → k.live ≡ false →
    (load width (At b offset) m ≡ None) × (store width (At b offset) v m ≡ None)

-- no store is defined in a fixed block
abbrev pub FixedIsUndefined : Type 0
FixedIsUndefined =
    (width offset : ℕ) (b : BlockName) (k : Block) (v : Value) (m : Memory) → block_named b m ≡ Some k → k.fixed ≡ true →
    store width (At b offset) v m ≡ None

-- a leaf of a cleared block that lives is 0
abbrev pub LoadAfterClear : Type 0
LoadAfterClear =
    (width offset : ℕ) (b : BlockName) (k : Block) (m : Memory) → block_named b m ≡ Some k → k.live ≡ true → list_any (is_at width offset) k.cells ≡ true →
    load width (At b offset) (cleared b m) ≡ Some (Num 0)

-- and every leaf of another block holds what it held
abbrev pub ClearElsewhere : Type 0
ClearElsewhere =
    (width offset : ℕ) (b c : BlockName) (m : Memory) → b.number ≢ c.number →
    load width (At c offset) (cleared b m) ≡ load width (At c offset) m

-- a clear changes no block's size, leaves or marks
abbrev pub ClearKeepsBlocks : Type 0
ClearKeepsBlocks =
    (b : BlockName) (m : Memory) →
    (map shape_of (cleared b m) ≡ map shape_of m) × (map (λ k. k.live) (cleared b m) ≡ map (λ k. k.live) m) × (map (λ k. k.fixed) (cleared b m) ≡ map (λ k. k.fixed) m)

-- new blocks after the others change nothing that is held
abbrev pub NewBlocksKeepLoads : Type 0
NewBlocksKeepLoads =
    (width offset : ℕ) (b : BlockName) (m new : Memory) → b.number < length m →
    load width (At b offset) (m ++ new) ≡ load width (At b offset) m

-- the end of some blocks' lifetimes changes nothing that the others hold
abbrev pub ClosedBlocksKeepLoads : Type 0
ClosedBlocksKeepLoads =
    (width offset first count : ℕ) (b : BlockName) (m : Memory) → (b.number < first) ⊎ (first + count ≤ b.number) →
    load width (At b offset) (closed first count m) ≡ load width (At b offset) m

-- and nothing is defined in those blocks any more
abbrev pub ClosedIsDead : Type 0
ClosedIsDead =
    (first count : ℕ) (b : BlockName) (m : Memory) → first ≤ b.number → b.number < first + count →
    block_named b (closed first count m) ≡ option_map dead (block_named b m)

-- the end of lifetimes changes no block's size, leaves or fixed mark
abbrev pub ClosedKeepsBlocks : Type 0
ClosedKeepsBlocks =
    (first count : ℕ) (m : Memory) →
    (map shape_of (closed first count m) ≡ map shape_of m) × (map (λ k. k.fixed) (closed first count m) ≡ map (λ k. k.fixed) m)

-- what a sound memory gives is sound
abbrev pub LoadIsSound : Type 0
LoadIsSound = (width : ℕ) (a : Value) (m : Memory) → IsSoundMemory m → IfSome (load width a m) IsSound

-- a memory stays sound where a sound value is stored
abbrev pub StoreIsSound : Type 0
StoreIsSound =
    (width : ℕ) (a v : Value) (m : Memory) → IsSoundMemory m → IsSound v → IfSome (store width a v m) IsSoundMemory

abbrev pub ClearIsSound : Type 0
ClearIsSound = (b : BlockName) (m : Memory) → IsSoundMemory m → IsSoundMemory (cleared b m)

abbrev pub ClosedIsSound : Type 0
ClosedIsSound = (first count : ℕ) (m : Memory) → IsSoundMemory m → IsSoundMemory (closed first count m)

-- a memory stays sound where a call's objects are opened after its blocks
abbrev pub OpenedIsSound : Type 0
OpenedIsSound = (shapes : List BlockShape) (m : Memory) → IsSoundMemory m → IsSoundMemory (m ++ opened shapes)

-- and the addresses of blocks of given sizes are sound
abbrev pub AddressesAreSound : Type 0
AddressesAreSound = (base : ℕ) (sizes : List ℕ) (k : ℕ) → IsSound (address_in base sizes k)
