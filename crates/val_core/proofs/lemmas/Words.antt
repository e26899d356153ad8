-- An operation on words gives a word.
use Rattle.std.proofs.Common.{◌≡◌, ℕ, zero, suc, ◌-◌, ◌/◌, ◌%◌, ◌^◌, ◌<◌, ◌≤◌, ◌==◌, Bool, true, false, cond, ℤ, pos, negsuc, neg_ℤ, int_div, int_rem, unsigned_abs, arith, lit<, refl, le_trans, lt_of_le_of_lt, div-le_self}
use Rattle.std.proofs.lemmas.Nat.{and_le_l, or_of_32, xor_of_32}
use Rattle.std.proofs.lemmas.Grind.{common_steps}
use Rattle.std.specs.Int.{w8, w16, cast_signed, int_shr}
use Rattle.val_core.specs.Words.{signed, word, one_if}
use Rattle.val_core.specs.ValueLaws.{GivesWord2, GivesWord1}
use Rattle.val_core.specs.declared.operation.Op1.TheVariants.{Sext8, Zext8, Sext16, Zext16}
use Rattle.val_core.specs.declared.operation.Op2.TheVariants.{Add, Sub, Mul, Div, Rem, Divu, Remu, And, Or, Xor, Sll, Srl, Sra, Eq, Ne, Slt, Sltu}

one_if-lt : (b : Bool) → one_if b < 2 ^ 32
one_if-lt true = lit< tt
one_if-lt false = lit< tt

choice-lt : (b : Bool) (x y : ℕ) → x < 2 ^ 32 → y < 2 ^ 32 → cond b x y < 2 ^ 32
choice-lt true x y p q = p
choice-lt false x y p q = q

-- a number of at most 31 bits has a word, of either sign
word-lt : (z : ℤ) → unsigned_abs z ≤ 2 ^ 31 → word z < 2 ^ 32
word-lt (pos n) h = omega arith
word-lt (negsuc n) h = omega arith

signed-abs : (a : ℕ) → a < 2 ^ 32 → unsigned_abs (signed a) ≤ 2 ^ 31
signed-abs a h = grind (arith, common_steps)

neg-abs : (n : ℕ) → unsigned_abs (neg_ℤ (pos n)) ≡ n
neg-abs zero = refl
neg-abs (suc n) = refl

quotient-abs : (x y : ℤ) → unsigned_abs (int_div x y) ≤ unsigned_abs x
quotient-abs (pos a) (pos b) = div-le_self a b
quotient-abs (pos a) (negsuc b) = rw (neg-abs (a / suc b)) (div-le_self a (suc b))
quotient-abs (negsuc a) (pos b) = rw (neg-abs (suc a / b)) (div-le_self (suc a) b)
quotient-abs (negsuc a) (negsuc b) = div-le_self (suc a) (suc b)

remainder-abs : (x y : ℤ) → unsigned_abs (int_rem x y) ≤ unsigned_abs x
remainder-abs (pos a) y = omega arith
remainder-abs (negsuc a) y = rw (neg-abs (suc a % unsigned_abs y)) (omega arith)

shifted-abs : (x : ℤ) (m : ℕ) → unsigned_abs (int_shr x m) ≤ unsigned_abs x
shifted-abs (pos a) m = div-le_self a (2 ^ m)
shifted-abs (negsuc a) m = let h = div-le_self a (2 ^ m) in omega (arith, h)

pub gives_word2 : GivesWord2
gives_word2 Add a b p q = omega arith
gives_word2 Sub a b p q = omega arith
gives_word2 Mul a b p q = omega arith
gives_word2 Div a b p q =
    choice-lt (b == 0) (2 ^ 32 - 1) _ (lit< tt)
    (word-lt (int_div (signed a) (signed b)) (le_trans (quotient-abs (signed a) (signed b)) (signed-abs a p)))
gives_word2 Rem a b p q =
    choice-lt (b == 0) a _ p
    (word-lt (int_rem (signed a) (signed b)) (le_trans (remainder-abs (signed a) (signed b)) (signed-abs a p)))
gives_word2 Divu a b p q =
    choice-lt (b == 0) (2 ^ 32 - 1) (a / b) (lit< tt) (lt_of_le_of_lt (div-le_self a b) p)
gives_word2 Remu a b p q = choice-lt (b == 0) a (a % b) p (omega arith)
gives_word2 And a b p q = lt_of_le_of_lt (and_le_l a b) p
gives_word2 Or a b p q = or_of_32 a b p q
gives_word2 Xor a b p q = xor_of_32 a b p q
gives_word2 Sll a b p q = omega arith
gives_word2 Srl a b p q = lt_of_le_of_lt (div-le_self a (2 ^ (b % 32))) p
gives_word2 Sra a b p q =
    word-lt (int_shr (signed a) (b % 32)) (le_trans (shifted-abs (signed a) (b % 32)) (signed-abs a p))
gives_word2 Eq a b p q = one_if-lt _
gives_word2 Ne a b p q = one_if-lt _
gives_word2 Slt a b p q = one_if-lt _
gives_word2 Sltu a b p q = one_if-lt _

pub gives_word1 : GivesWord1
gives_word1 Sext8 a p = word-lt (cast_signed w8 (a % 2 ^ 8)) (grind (arith, common_steps))
gives_word1 Zext8 a p = omega arith
gives_word1 Sext16 a p = word-lt (cast_signed w16 (a % 2 ^ 16)) (grind (arith, common_steps))
gives_word1 Zext16 a p = omega arith
