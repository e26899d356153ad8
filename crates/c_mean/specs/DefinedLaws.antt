-- Where an operation of the source has a value, and which, in the words of ISO/IEC 9899:2011, 6.2.4 and 6.5.
use Rattle.std.specs.Prelude.{◌≡◌, ◌≢◌, ◌≤◌, ◌<◌, ◌+◌, ◌^◌, ◌↔◌, ◌+ℤ◌, ◌-ℤ◌, ◌*ℤ◌, ℕ, ℤ, pos, nat_lt, Bool, true, false, if◌then◌else◌, find, Some, IsSome}
use Rattle.val_core.specs.Words.{word2}
use Rattle.val_core.specs.declared.values.BlockName.{BlockName}
use Rattle.val_core.specs.declared.values.Value.{Value}
use Rattle.val_core.specs.declared.values.Value.TheVariants.{Num, At, Bad}
use Rattle.val_core.specs.Values.{IsSound}
use Rattle.val_core.specs.Memory.{Memory, Block, Cell, block_named, is_at, load, store, pointers_equal}
use Rattle.val_core.specs.declared.operation.Op2.{Op2}
use Rattle.val_core.specs.declared.operation.Op2.TheVariants.{Div, Rem, Divu, Remu, Sll, Srl, Sra}
use Rattle.c_type.specs.Trees.{TypeTree}
use Rattle.c_typed.specs.declared.operator.Relation.{Relation}
use Rattle.c_typed.specs.Objects.{access_width}
use Rattle.c_mean.specs.State.{is_pointer, converted, truth, arithmetic, is_unsigned, numbers_compared, addresses_ordered, pointer_moved, pointer_difference, member_address}

-- ---- numbers

-- what may stand on the right of an operator (6.5.5p5, 6.5.7p3)
abbrev pub MayStandRight : Op2 → ℕ → Type 0
MayStandRight Div b = b ≢ 0
MayStandRight Rem b = b ≢ 0
MayStandRight Divu b = b ≢ 0
MayStandRight Remu b = b ≢ 0
MayStandRight Sll b = b < 32
MayStandRight Srl b = b < 32
MayStandRight Sra b = b < 32
MayStandRight _ b = Unit {0}

abbrev pub ArithmeticIsDefined : Type 0
ArithmeticIsDefined =
    (o : Op2) (x y v : Value) → (arithmetic o x y ≡ Some v) ↔ ((a b : ℕ) × (x ≡ Num a) × (y ≡ Num b) × MayStandRight o b × (v ≡ Num (word2 o a b)))

abbrev pub NumbersAreCompared : Type 0
NumbersAreCompared = (r : Relation) (u : Bool) (x y : Value) → IsSome (numbers_compared r u x y) ↔ ((a b : ℕ) × (x ≡ Num a) × (y ≡ Num b))

-- ---- values of a type

-- so many bytes keep a number, and four of them an address
abbrev pub MayBeKept : (width : ℕ) → Value → Type 0
MayBeKept width (Num w) = Unit {0}
MayBeKept width (At b o) = width ≡ 4
MayBeKept width Bad = ⊥

abbrev pub ConversionsFitTheWidth : Type 0
ConversionsFitTheWidth = (t : TypeTree) (v : Value) → (converted t v ≢ Bad) ↔ MayBeKept (access_width t) v

-- a number, or the address of a pointer
abbrev pub MayBeTested : TypeTree → Value → Type 0
MayBeTested t (Num w) = Unit {0}
MayBeTested t (At b o) = is_pointer t ≡ true
MayBeTested t Bad = ⊥

abbrev pub ConditionsAreScalar : Type 0
ConditionsAreScalar = (t : TypeTree) (v : Value) → IsSome (truth t v) ↔ MayBeTested t v

-- ---- pointers

-- the object of this name lives
abbrev pub Lives : BlockName → Memory → Type 0
Lives b m = (k : Block) × (block_named b m ≡ Some k) × (k.live ≡ true)

-- the integer that a word stands for in its type (6.2.6.2)
abbrev pub integer : (unsigned : Bool) → ℕ → ℤ
integer true w = pos w
integer false w = if nat_lt w (2 ^ 31) then pos w else pos w -ℤ pos (2 ^ 32)

-- so many elements up from an offset, or down
abbrev pub destination : (up : Bool) → (offset : ℕ) → (elements : ℤ) → (size : ℕ) → ℤ
destination true o i size = pos o +ℤ i *ℤ pos size
destination false o i size = pos o -ℤ i *ℤ pos size

-- a value is the address of this place of the object, which is within it or its end
abbrev pub IsPlace : BlockName → (place : ℤ) → Value → Type 0
IsPlace b place v = (p : ℕ) × (v ≡ At b p) × (pos p ≡ place) × (p ≤ b.size)

abbrev pub PointersMoveWithin : Type 0
PointersMoveWithin =
    (up : Bool) (size : ℕ) (t : TypeTree) (b : BlockName) (o w : ℕ) (m : Memory) (v : Value) → IsSound (At b o) → IsSound (Num w) →
    (pointer_moved up size t (At b o) (Num w) m ≡ Some v) ↔ (Lives b m × IsPlace b (destination up o (integer (is_unsigned t) w) size) v)

abbrev pub OnlyPointersMove : Type 0
OnlyPointersMove =
    (up : Bool) (size : ℕ) (t : TypeTree) (x y : Value) (m : Memory) → IsSome (pointer_moved up size t x y m) → (b : BlockName) × (o w : ℕ) × (x ≡ At b o) × (y ≡ Num w)

-- both are into one live object
abbrev pub AreInOne : (x y : Value) → Memory → Type 0
AreInOne x y m = (b : BlockName) × (o p : ℕ) × (x ≡ At b o) × (y ≡ At b p) × Lives b m

abbrev pub OrderIsOfOneObject : Type 0
OrderIsOfOneObject = (r : Relation) (x y : Value) (m : Memory) → IsSome (addresses_ordered r x y m) ↔ AreInOne x y m

abbrev pub DifferenceIsOfOneObject : Type 0
DifferenceIsOfOneObject = (size : ℕ) (x y : Value) (m : Memory) → IsSome (pointer_difference size x y m) ↔ AreInOne x y m

-- both are numbers, or each is into a live object, or one is an address and the other is null
abbrev pub AreComparable : (x y : Value) → Memory → Type 0
AreComparable (Num a) (Num b) m = Unit {0}
AreComparable (At b o) (Num w) m = w ≡ 0
AreComparable (Num w) (At b o) m = w ≡ 0
AreComparable (At b o) (At c p) m = Lives b m × Lives c m
AreComparable _ _ m = ⊥

abbrev pub EqualityIsOfLiveObjects : Type 0
EqualityIsOfLiveObjects = (x y : Value) (m : Memory) → IsSome (pointers_equal x y m) ↔ AreComparable x y m

abbrev pub MembersAreWithin : Type 0
MembersAreWithin =
    (x : Value) (n : ℕ) (m : Memory) (v : Value) → (member_address x n m ≡ Some v) ↔ ((b : BlockName) × (o : ℕ) × (x ≡ At b o) × Lives b m × (o + n ≤ b.size) × (v ≡ At b (o + n)))

-- ---- memory

-- A value is the address of a leaf of this width in a live object, which is this block, and the leaf is this cell.
pub record IsAtLeaf (width : ℕ) (x : Value) (m : Memory) (k : Block) (c : Cell) : Type 0 where
  pub name : BlockName
  pub offset : ℕ
  pub address : x ≡ At name offset
  pub block : block_named name m ≡ Some k
  pub live : k.live ≡ true
  pub leaf : find (is_at width offset) k.cells ≡ Some c

abbrev pub LoadsFindLeaves : Type 0
LoadsFindLeaves = (width : ℕ) (x : Value) (m : Memory) (v : Value) → (load width x m ≡ Some v) ↔ ((k : Block) × (c : Cell) × IsAtLeaf width x m k c × (c.value ≡ Some v))

abbrev pub StoresFindLeaves : Type 0
StoresFindLeaves =
    (width : ℕ) (x v : Value) (m : Memory) → IsSome (store width x v m) ↔ ((k : Block) × (c : Cell) × IsAtLeaf width x m k c × (k.fixed ≡ false) × MayBeKept width v)
