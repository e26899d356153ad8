-- What the instructions of an operation compute, as words of the machine.
use Rattle.std.specs.Prelude.{ℕ}
use Rattle.val_core.specs.declared.operation.Op1.{Op1}
use Rattle.val_core.specs.declared.operation.Op1.TheVariants.{Sext8, Zext8, Sext16, Zext16}
use Rattle.val_core.specs.declared.operation.Op2.{Op2}
use Rattle.val_core.specs.declared.operation.Op2.TheVariants.{Add, Sub, Mul, Div, Rem, Divu, Remu, And, Or, Xor, Sll, Srl, Sra, Eq, Ne, Slt, Sltu}
use Rattle.rv_machine.specs.Words as rv

-- by one instruction, and for a test of equality by the difference
abbrev pub first_word : Op2 → ℕ → ℕ → ℕ
first_word Add a b = rv.add a b
first_word Sub a b = rv.sub a b
first_word Mul a b = rv.mul a b
first_word Div a b = rv.div a b
first_word Rem a b = rv.rem a b
first_word Divu a b = rv.divu a b
first_word Remu a b = rv.remu a b
first_word And a b = rv.and a b
first_word Or a b = rv.or a b
first_word Xor a b = rv.xor a b
first_word Sll a b = rv.sll a b
first_word Srl a b = rv.srl a b
first_word Sra a b = rv.sra a b
first_word Eq a b = rv.sub a b
first_word Ne a b = rv.sub a b
first_word Slt a b = rv.slt a b
first_word Sltu a b = rv.sltu a b

-- the test of the difference
abbrev pub last_word : Op2 → ℕ → ℕ
last_word Eq n = rv.sltu n 1
last_word Ne n = rv.sltu 0 n
last_word _ n = n

abbrev pub computed2 : Op2 → ℕ → ℕ → ℕ
computed2 o a b = last_word o (first_word o a b)

abbrev pub computed1 : Op1 → ℕ → ℕ
computed1 Sext8 a = rv.sra (rv.sll a 24) 24
computed1 Zext8 a = rv.and a 255
computed1 Sext16 a = rv.sra (rv.sll a 16) 16
computed1 Zext16 a = rv.srl (rv.sll a 16) 16
