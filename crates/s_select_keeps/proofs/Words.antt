-- The words of the machine's instructions are those of the operations.
use Rattle.std.proofs.Common.{◌≡◌, ℕ, suc, ◌+◌, ◌-◌, ◌*◌, ◌/◌, ◌%◌, ◌^◌, ◌<◌, ◌==◌, not, nat_lt, pos, negsuc, refl, sym, ap, ◌∙◌, arith, inl, inr, eqb-true}
use Rattle.std.proofs.lemmas.Bool.{cases_Bool, cases_lt, eqb-false, lt-ltb, le-ltb}
use Rattle.std.proofs.lemmas.Nat.{and_mask}
use Rattle.std.proofs.lemmas.Int.{to_z_pos}
use Rattle.std.proofs.Math.Facts.{to_z-neg}
use Rattle.std.specs.Int.{w8, w16, w32, cast_signed, int_shr}
use Rattle.val_core.specs.Words.{signed, word, one_if, word1, word2}
use Rattle.val_core.specs.declared.operation.Op1.{Op1}
use Rattle.val_core.specs.declared.operation.Op1.TheVariants.{Sext8, Zext8, Sext16, Zext16}
use Rattle.val_core.specs.declared.operation.Op2.{Op2}
use Rattle.val_core.specs.declared.operation.Op2.TheVariants.{Add, Sub, Mul, Div, Rem, Divu, Remu, And, Or, Xor, Sll, Srl, Sra, Eq, Ne, Slt, Sltu}
use Rattle.s_select_keeps.specs.Computed.{computed1, computed2}
use Rattle.s_select_keeps.specs.Laws.{WordsAreTheSame}

-- ---- equality by the difference

difference-none : (a b : ℕ) → a < 2 ^ 32 → b < 2 ^ 32 → nat_lt ((a + (2 ^ 32 - b)) % 2 ^ 32) 1 ≡ (a == b)
difference-none a b p q =
    elim (cases_Bool (a == b)) [
      | inl same ↦ let e : a ≡ b = eqb-true a b same in rw same (lt-ltb ((a + (2 ^ 32 - b)) % 2 ^ 32) 1 (omega arith))
      | inr other ↦ let ne = eqb-false a b other in rw other (le-ltb ((a + (2 ^ 32 - b)) % 2 ^ 32) 1 (omega (arith, ne)))
    ]

difference-some : (a b : ℕ) → a < 2 ^ 32 → b < 2 ^ 32 → nat_lt 0 ((a + (2 ^ 32 - b)) % 2 ^ 32) ≡ not (a == b)
difference-some a b p q =
    elim (cases_Bool (a == b)) [
      | inl same ↦ let e : a ≡ b = eqb-true a b same in rw same (le-ltb 0 ((a + (2 ^ 32 - b)) % 2 ^ 32) (omega arith))
      | inr other ↦ let ne = eqb-false a b other in rw other (lt-ltb 0 ((a + (2 ^ 32 - b)) % 2 ^ 32) (omega (arith, ne)))
    ]

pub same2 : (o : Op2) (a b : ℕ) → a < 2 ^ 32 → b < 2 ^ 32 → computed2 o a b ≡ word2 o a b
same2 Add a b p q = refl
same2 Sub a b p q = refl
same2 Mul a b p q = refl
same2 Div a b p q = refl
same2 Rem a b p q = refl
same2 Divu a b p q = refl
same2 Remu a b p q = refl
same2 And a b p q = refl
same2 Or a b p q = refl
same2 Xor a b p q = refl
same2 Sll a b p q = refl
same2 Srl a b p q = refl
same2 Sra a b p q = refl
same2 Eq a b p q = ap one_if (difference-none a b p q)
same2 Ne a b p q = ap one_if (difference-some a b p q)
same2 Slt a b p q = refl
same2 Sltu a b p q = refl

-- ---- signs that shifts extend

signed-low : (n : ℕ) → n < 2 ^ 31 → signed n ≡ pos n
signed-low n low = to_z_pos w32 n low

signed-high : (n k : ℕ) → n ≡ 2 ^ 32 - suc k → k < 2 ^ 31 → signed n ≡ negsuc k
signed-high n k e low = ap signed e ∙ to_z-neg w32 k low

extended8 : (a : ℕ) → int_shr (signed (a * 2 ^ 24 % 2 ^ 32)) 24 ≡ cast_signed w8 (a % 2 ^ 8)
extended8 a =
    elim (cases_lt (a % 2 ^ 8) 128) [
      | inl low ↦
          let quotient : a * 2 ^ 24 % 2 ^ 32 / 2 ^ 24 ≡ a % 2 ^ 8 = omega arith in
          ap (λ z. int_shr z 24) (signed-low (a * 2 ^ 24 % 2 ^ 32) (omega arith)) ∙ ap pos quotient ∙ sym (to_z_pos w8 (a % 2 ^ 8) low)
      | inr high ↦
          let k : ℕ = 2 ^ 32 - 1 - a * 2 ^ 24 % 2 ^ 32 in
          let j : ℕ = 2 ^ 8 - 1 - a % 2 ^ 8 in
          let quotient : k / 2 ^ 24 ≡ j = omega arith in
          let there : a % 2 ^ 8 ≡ 2 ^ 8 - suc j = omega arith in
          ap (λ z. int_shr z 24) (signed-high (a * 2 ^ 24 % 2 ^ 32) k (omega arith) (omega arith)) ∙ ap negsuc quotient
          ∙ sym (ap (cast_signed w8) there ∙ to_z-neg w8 j (omega arith))
    ]

extended16 : (a : ℕ) → int_shr (signed (a * 2 ^ 16 % 2 ^ 32)) 16 ≡ cast_signed w16 (a % 2 ^ 16)
extended16 a =
    elim (cases_lt (a % 2 ^ 16) 32768) [
      | inl low ↦
          let quotient : a * 2 ^ 16 % 2 ^ 32 / 2 ^ 16 ≡ a % 2 ^ 16 = omega arith in
          ap (λ z. int_shr z 16) (signed-low (a * 2 ^ 16 % 2 ^ 32) (omega arith)) ∙ ap pos quotient ∙ sym (to_z_pos w16 (a % 2 ^ 16) low)
      | inr high ↦
          let k : ℕ = 2 ^ 32 - 1 - a * 2 ^ 16 % 2 ^ 32 in
          let j : ℕ = 2 ^ 16 - 1 - a % 2 ^ 16 in
          let quotient : k / 2 ^ 16 ≡ j = omega arith in
          let there : a % 2 ^ 16 ≡ 2 ^ 16 - suc j = omega arith in
          ap (λ z. int_shr z 16) (signed-high (a * 2 ^ 16 % 2 ^ 32) k (omega arith) (omega arith)) ∙ ap negsuc quotient
          ∙ sym (ap (cast_signed w16) there ∙ to_z-neg w16 j (omega arith))
    ]

pub same1 : (o : Op1) (a : ℕ) → a < 2 ^ 32 → computed1 o a ≡ word1 o a
same1 Sext8 a p = ap word (extended8 a)
same1 Zext8 a p = and_mask a 8
same1 Sext16 a p = ap word (extended16 a)
same1 Zext16 a p = omega arith

pub words_are_the_same : WordsAreTheSame
words_are_the_same = record { two = same2; one = same1 }
