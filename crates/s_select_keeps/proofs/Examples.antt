-- Worked rows: words that the instructions of operations compute, and a constant in two parts.
use Rattle.std.specs.Prelude.{◌≡◌, refl, ◌+◌, ◌-◌, ◌*◌, ◌/◌, ◌%◌, ◌^◌}
use Rattle.val_core.specs.declared.operation.Op1.TheVariants.{Sext8, Zext8, Sext16, Zext16}
use Rattle.val_core.specs.declared.operation.Op2.TheVariants.{Div, Rem, Divu, Eq, Ne, Sra}
use Rattle.rv_isa.specs.WordParts.{upper_part, low_part}
use Rattle.s_select_keeps.specs.Computed.{computed1, computed2}

zero-divisor : computed2 Div 7 0 ≡ 2 ^ 32 - 1
zero-divisor = refl

zero-divisor-rest : computed2 Rem 7 0 ≡ 7
zero-divisor-rest = refl

least-by-minus-one : computed2 Div (2 ^ 31) (2 ^ 32 - 1) ≡ 2 ^ 31
least-by-minus-one = refl

least-by-minus-one-rest : computed2 Rem (2 ^ 31) (2 ^ 32 - 1) ≡ 0
least-by-minus-one-rest = refl

unsigned-zero-divisor : computed2 Divu 7 0 ≡ 2 ^ 32 - 1
unsigned-zero-divisor = refl

shift-by-33 : computed2 Sra (2 ^ 32 - 8) 33 ≡ 2 ^ 32 - 4
shift-by-33 = refl

equal : computed2 Eq 5 5 ≡ 1
equal = refl

unequal : computed2 Ne 5 5 ≡ 0
unequal = refl

sign-of-8 : computed1 Sext8 0x1280 ≡ 2 ^ 32 - 128
sign-of-8 = refl

zeros-of-8 : computed1 Zext8 0x1280 ≡ 0x80
zeros-of-8 = refl

sign-of-16 : computed1 Sext16 0x19000 ≡ 2 ^ 32 - 0x7000
sign-of-16 = refl

zeros-of-16 : computed1 Zext16 0x19000 ≡ 0x9000
zeros-of-16 = refl

-- the two parts of 2048, and the parts where the upper one does not round
parts : (upper_part 2048 * 2 ^ 12 + low_part 2048) % 2 ^ 32 ≡ 2048
parts = refl

parts-unrounded : (2048 / 2 ^ 12 * 2 ^ 12 + low_part 2048) % 2 ^ 32 ≡ 2 ^ 32 - 2048
parts-unrounded = refl
