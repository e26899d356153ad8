-- The operations on 32-bit words (RISC-V Unprivileged ISA 20191213, section 2.4 "Integer Computational
-- Instructions" and chapter 7 "M"). A word is a number below 2^32.
use Rattle.std.specs.Prelude.{ℕ, ◌+◌, ◌-◌, ◌*◌, ◌/◌, ◌%◌, ◌^◌, ◌==◌, nat_lt, Bool, if◌then◌else◌, ℤ, pos, ◌*ℤ◌, int_lt, int_div, int_rem, bit_and, bit_or, bit_xor}
use Rattle.std.specs.Int.{w32, w64, cast_signed, cast_unsigned, int_shr}

-- a word read as two's complement
abbrev pub signed : ℕ → ℤ
signed a = cast_signed w32 a

-- the word that stands for a whole number in two's complement
abbrev pub word : ℤ → ℕ
word z = cast_unsigned w32 z

abbrev pub one_if : Bool → ℕ
one_if test = if test then 1 else 0

-- The tests of the branches and of slt and sltu.

abbrev pub is_less : ℕ → ℕ → Bool
is_less a b = int_lt (signed a) (signed b)

abbrev pub is_below : ℕ → ℕ → Bool
is_below a b = nat_lt a b

-- Arithmetic ignores overflow.

abbrev pub add : ℕ → ℕ → ℕ
add a b = (a + b) % 2 ^ 32

abbrev pub sub : ℕ → ℕ → ℕ
sub a b = (a + (2 ^ 32 - b)) % 2 ^ 32

abbrev pub slt : ℕ → ℕ → ℕ
slt a b = one_if (is_less a b)

abbrev pub sltu : ℕ → ℕ → ℕ
sltu a b = one_if (is_below a b)

abbrev pub and : ℕ → ℕ → ℕ
and a b = bit_and a b

abbrev pub or : ℕ → ℕ → ℕ
or a b = bit_or a b

abbrev pub xor : ℕ → ℕ → ℕ
xor a b = bit_xor a b

-- A shift is by the low five bits of the second operand.

abbrev pub sll : ℕ → ℕ → ℕ
sll a b = (a * 2 ^ (b % 32)) % 2 ^ 32

abbrev pub srl : ℕ → ℕ → ℕ
srl a b = a / 2 ^ (b % 32)

-- the sign fills the vacated bits
abbrev pub sra : ℕ → ℕ → ℕ
sra a b = word (int_shr (signed a) (b % 32))

-- mul gives the low 32 bits of the product, the others the high 32 bits of the 64-bit product: of two signed
-- words, of a signed and an unsigned one, and of two unsigned ones.

abbrev pub mul : ℕ → ℕ → ℕ
mul a b = (a * b) % 2 ^ 32

abbrev pub mulh : ℕ → ℕ → ℕ
mulh a b = cast_unsigned w64 (signed a *ℤ signed b) / 2 ^ 32

abbrev pub mulhsu : ℕ → ℕ → ℕ
mulhsu a b = cast_unsigned w64 (signed a *ℤ pos b) / 2 ^ 32

abbrev pub mulhu : ℕ → ℕ → ℕ
mulhu a b = a * b / 2 ^ 32

-- Division rounds towards zero. By zero the quotient has all bits set, and the remainder is the dividend. The
-- quotient of -2^31 by -1 is 2^31 as a word, and the remainder 0.

abbrev pub div : ℕ → ℕ → ℕ
div a b = if b == 0 then 2 ^ 32 - 1 else word (int_div (signed a) (signed b))

abbrev pub divu : ℕ → ℕ → ℕ
divu a b = if b == 0 then 2 ^ 32 - 1 else a / b

abbrev pub rem : ℕ → ℕ → ℕ
rem a b = if b == 0 then a else word (int_rem (signed a) (signed b))

abbrev pub remu : ℕ → ℕ → ℕ
remu a b = if b == 0 then a else a % b
