-- Views of enums: two numbers for each value, and the value that has them. Two values are the same where their numbers are.
use Rattle.std.specs.Prelude.{◌≡◌, ℕ, ◌==◌, ◌&&◌, Bool, [], ◌∷◌, refl}
use Rattle.std.specs.List.{slice_index_or}
use Rattle.val_core.specs.declared.operation.Op1.{Op1}
use Rattle.val_core.specs.declared.operation.Op1.TheVariants.{Sext8, Zext8, Sext16, Zext16}
use Rattle.val_core.specs.declared.operation.Op2.{Op2}
use Rattle.val_core.specs.declared.operation.Op2.TheVariants.{Add, Sub, Mul, Div, Rem, Divu, Remu, And, Or, Xor, Sll, Srl, Sra, Eq, Ne, Slt, Sltu}

-- the number of a variant and that of its field, from which the value is read back
pub record View (A : Type 0) : Type 0 where
  pub numbers : A → ℕ × ℕ
  pub value : ℕ × ℕ → A
  pub read_back : (a : A) → value (numbers a) ≡ a

-- the view of an enum whose variants have no field
abbrev pub without_fields : {A : Type 0} (number : A → ℕ) (value : ℕ → A) → ((a : A) → value (number a) ≡ a) → View A
without_fields number value read_back = record { numbers = λ a. (number a, 0); value = λ p. value p.0; read_back = read_back }

abbrev pub same_by : {A : Type 0} → View A → A → A → Bool
same_by view a b = ((view.numbers a).0 == (view.numbers b).0) && ((view.numbers a).1 == (view.numbers b).1)

-- ---- operations on one word

abbrev pub op1_number : Op1 → ℕ
op1_number Sext8 = 0
op1_number Zext8 = 1
op1_number Sext16 = 2
op1_number Zext16 = 3

abbrev pub op1_of : ℕ → Op1
op1_of n = slice_index_or (Sext8 ∷ Zext8 ∷ Sext16 ∷ Zext16 ∷ []) n Sext8

pub op1_read_back : (a : Op1) → op1_of (op1_number a) ≡ a
op1_read_back Sext8 = refl
op1_read_back a = refl

abbrev pub op1_view : View Op1
op1_view = without_fields op1_number op1_of op1_read_back

-- ---- operations on two words

abbrev pub op2_number : Op2 → ℕ
op2_number Add = 0
op2_number Sub = 1
op2_number Mul = 2
op2_number Div = 3
op2_number Rem = 4
op2_number Divu = 5
op2_number Remu = 6
op2_number And = 7
op2_number Or = 8
op2_number Xor = 9
op2_number Sll = 10
op2_number Srl = 11
op2_number Sra = 12
op2_number Eq = 13
op2_number Ne = 14
op2_number Slt = 15
op2_number Sltu = 16

abbrev pub op2_of : ℕ → Op2
op2_of n = slice_index_or (Add ∷ Sub ∷ Mul ∷ Div ∷ Rem ∷ Divu ∷ Remu ∷ And ∷ Or ∷ Xor ∷ Sll ∷ Srl ∷ Sra ∷ Eq ∷ Ne ∷ Slt ∷ Sltu ∷ []) n Add

pub op2_read_back : (a : Op2) → op2_of (op2_number a) ≡ a
op2_read_back Add = refl
op2_read_back a = refl

abbrev pub op2_view : View Op2
op2_view = without_fields op2_number op2_of op2_read_back
