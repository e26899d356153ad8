-- The operations on words (ISO/IEC 9899:2011, 6.5; RISC-V Unprivileged ISA 20191213, section 2.4 "Integer
-- Computational Instructions" and chapter 7 "M"). A word is a number below 2^32.
use Rattle.std.specs.Prelude.{ℕ, ◌+◌, ◌-◌, ◌*◌, ◌/◌, ◌%◌, ◌^◌, ◌==◌, not, nat_lt, Bool, if◌then◌else◌, ℤ, int_lt, int_div, int_rem, bit_and, bit_or, bit_xor}
use Rattle.std.specs.Int.{w8, w16, w32, cast_signed, cast_unsigned, int_shr}
use Rattle.val_core.specs.declared.operation.Op1.{Op1}
use Rattle.val_core.specs.declared.operation.Op1.TheVariants.{Sext8, Zext8, Sext16, Zext16}
use Rattle.val_core.specs.declared.operation.Op2.{Op2}
use Rattle.val_core.specs.declared.operation.Op2.TheVariants.{Add, Sub, Mul, Div, Rem, Divu, Remu, And, Or, Xor, Sll, Srl, Sra, Eq, Ne, Slt, Sltu}

-- a word read as two's complement
abbrev pub signed : ℕ → ℤ
signed a = cast_signed w32 a

-- the word that stands for a whole number in two's complement
abbrev pub word : ℤ → ℕ
word z = cast_unsigned w32 z

abbrev pub one_if : Bool → ℕ
one_if test = if test then 1 else 0

-- the quotient of the whole numbers, rounded toward zero
abbrev pub quotient : ℕ → ℕ → ℕ
quotient a b = if b == 0 then 2 ^ 32 - 1 else word (int_div (signed a) (signed b))

-- what that quotient leaves
abbrev pub remainder : ℕ → ℕ → ℕ
remainder a b = if b == 0 then a else word (int_rem (signed a) (signed b))

-- the quotient by a power of two, rounded down
abbrev pub shifted_down : ℕ → ℕ → ℕ
shifted_down a b = word (int_shr (signed a) (b % 32))

abbrev pub word2 : Op2 → ℕ → ℕ → ℕ
word2 Add a b = (a + b) % 2 ^ 32
word2 Sub a b = (a + (2 ^ 32 - b)) % 2 ^ 32
word2 Mul a b = a * b % 2 ^ 32
word2 Div a b = quotient a b
word2 Rem a b = remainder a b
word2 Divu a b = if b == 0 then 2 ^ 32 - 1 else a / b
word2 Remu a b = if b == 0 then a else a % b
word2 And a b = bit_and a b
word2 Or a b = bit_or a b
word2 Xor a b = bit_xor a b
word2 Sll a b = a * 2 ^ (b % 32) % 2 ^ 32
word2 Srl a b = a / 2 ^ (b % 32)
word2 Sra a b = shifted_down a b
word2 Eq a b = one_if (a == b)
word2 Ne a b = one_if (not (a == b))
word2 Slt a b = one_if (int_lt (signed a) (signed b))
word2 Sltu a b = one_if (nat_lt a b)

abbrev pub word1 : Op1 → ℕ → ℕ
word1 Sext8 a = word (cast_signed w8 (a % 2 ^ 8))
word1 Zext8 a = a % 2 ^ 8
word1 Sext16 a = word (cast_signed w16 (a % 2 ^ 16))
word1 Zext16 a = a % 2 ^ 16
