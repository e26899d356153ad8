-- Values, and what an operation gives on them (ISO/IEC 9899:2011, 6.2.4, 6.5.6, 6.5.8). A value is a word `Num`, the
-- address `At` of a byte of a block or of its end, or `Bad`, which has no meaning. The null pointer is the word 0.
use Rattle.std.specs.Prelude.{◌≡◌, ℕ, ◌^◌, ◌<◌, ◌≤◌, ◌==◌, ◌&&◌, nat_le, Bool, if◌then◌else◌, ◌⊎◌}
use Rattle.val_core.specs.Words.{word1, word2}
pub use Rattle.val_core.specs.declared.values.BlockName.{BlockName}
pub use Rattle.val_core.specs.declared.values.Value.{Value}
pub use Rattle.val_core.specs.declared.values.Value.TheVariants.{Num, At, Bad}
use Rattle.val_core.specs.declared.operation.Op1.{Op1}
use Rattle.val_core.specs.declared.operation.Op2.{Op2}
use Rattle.val_core.specs.declared.operation.Op2.TheVariants.{Add, Sub, Sltu}

abbrev pub same_block : BlockName → BlockName → Bool
same_block b c = (b.number == c.number) && (b.size == c.size)

-- the address of this offset, which may be one past the last byte
abbrev pub address : BlockName → ℕ → Value
address b offset = if nat_le offset b.size then At b offset else Bad

-- Words are added to addresses and subtracted from them, and two addresses in one block are subtracted and compared.
abbrev pub value2 : Op2 → Value → Value → Value
value2 op (Num a) (Num b) = Num (word2 op a b)
value2 Add (At b o) (Num w) = address b (word2 Add o w)
value2 Add (Num w) (At b o) = address b (word2 Add o w)
value2 Sub (At b o) (Num w) = address b (word2 Sub o w)
value2 Sub (At b o) (At c p) = if same_block b c then Num (word2 Sub o p) else Bad
value2 Sltu (At b o) (At c p) = if same_block b c then Num (word2 Sltu o p) else Bad
value2 _ _ _ = Bad

abbrev pub value1 : Op1 → Value → Value
value1 op (Num a) = Num (word1 op a)
value1 op _ = Bad

-- The second value may stand for the first: nothing is asked of what has no meaning.
abbrev pub IsLessDefined : Value → Value → Type 0
IsLessDefined x y = (x ≡ y) ⊎ (x ≡ Bad)

-- a word has 32 bits, and an address is within its block, whose size has 32 bits
abbrev pub IsSound : Value → Type 0
IsSound (Num w) = w < 2 ^ 32
IsSound (At b o) = (o ≤ b.size) × (b.size < 2 ^ 32)
IsSound Bad = Unit {0}
