-- Operations on numbers have a value where both operands are numbers and the right one may stand there.
use Rattle.std.specs.Prelude.{◌≡◌, ◌≢◌, ◌==◌, ℕ, not, Bool, true, false, if◌then◌else◌, Some, None, IsSome}
use Rattle.std.proofs.Common.{refl, arith}
use Rattle.std.proofs.lemmas.Bool.Decides.{nat_tests}
use Rattle.val_core.specs.Words.{word2}
use Rattle.val_core.specs.declared.values.Value.{Value}
use Rattle.val_core.specs.declared.values.Value.TheVariants.{Num, At, Bad}
use Rattle.val_core.specs.declared.operation.Op2.{Op2}
use Rattle.val_core.specs.declared.operation.Op2.TheVariants.{Add, Sub, Mul, Div, Rem, Divu, Remu, And, Or, Xor, Sll, Srl, Sra, Eq, Ne, Slt, Sltu}
use Rattle.c_typed.specs.declared.operator.Relation.{Relation}
use Rattle.c_mean.specs.State.{arithmetic, is_defined_on, numbers_compared}
use Rattle.c_mean.proofs.Tests.{is-not, none-some, some-same, is-below, tests-below}
use Rattle.c_mean.specs.DefinedLaws.{MayStandRight, ArithmeticIsDefined, NumbersAreCompared}

-- ---- the right operand

not-zero : (b : ℕ) → not (b == 0) ≡ true → b ≢ 0
not-zero b is = grind (arith, nat_tests)

is-not-zero : (b : ℕ) → b ≢ 0 → not (b == 0) ≡ true
is-not-zero b h = grind (arith, nat_tests)

may-stand : (o : Op2) (b : ℕ) → is_defined_on o b ≡ true → MayStandRight o b
may-stand Add b is = tt
may-stand Sub b is = tt
may-stand Mul b is = tt
may-stand Div b is = not-zero b is
may-stand Rem b is = not-zero b is
may-stand Divu b is = not-zero b is
may-stand Remu b is = not-zero b is
may-stand And b is = tt
may-stand Or b is = tt
may-stand Xor b is = tt
may-stand Sll b is = is-below b 32 is
may-stand Srl b is = is-below b 32 is
may-stand Sra b is = is-below b 32 is
may-stand Eq b is = tt
may-stand Ne b is = tt
may-stand Slt b is = tt
may-stand Sltu b is = tt

stands : (o : Op2) (b : ℕ) → MayStandRight o b → is_defined_on o b ≡ true
stands Add b h = refl
stands Sub b h = refl
stands Mul b h = refl
stands Div b h = is-not-zero b h
stands Rem b h = is-not-zero b h
stands Divu b h = is-not-zero b h
stands Remu b h = is-not-zero b h
stands And b h = refl
stands Or b h = refl
stands Xor b h = refl
stands Sll b h = tests-below b 32 h
stands Srl b h = tests-below b 32 h
stands Sra b h = tests-below b 32 h
stands Eq b h = refl
stands Ne b h = refl
stands Slt b h = refl
stands Sltu b h = refl

-- ---- arithmetic

abbrev Has : Op2 → (x y v : Value) → Type 0
Has o x y v = (a b : ℕ) × (x ≡ Num a) × (y ≡ Num b) × MayStandRight o b × (v ≡ Num (word2 o a b))

has : (o : Op2) (x y v : Value) → arithmetic o x y ≡ Some v → Has o x y v
has o (Num a) (Num b) v e = by_test (is_defined_on o b) refl e where
  by_test : (t : Bool) → is_defined_on o b ≡ t → (if t then Some (Num (word2 o a b)) else None) ≡ Some v → Has o (Num a) (Num b) v
  by_test true is e = (a, b, refl, refl, may-stand o b is, some-same e)
  by_test false is e = none-some e
has o (Num a) (At c p) v e = none-some e
has o (Num a) Bad v e = none-some e
has o (At c p) y v e = none-some e
has o Bad y v e = none-some e

gives : (o : Op2) (x y v : Value) → Has o x y v → arithmetic o x y ≡ Some v
gives o x y v (a, b, is_x, is_y, right, is) = rw is_x (rw is_y (rw is (rw (stands o b right) refl)))

pub arithmetic_is_defined : ArithmeticIsDefined
arithmetic_is_defined o x y v = (has o x y v, gives o x y v)

-- ---- comparisons

abbrev Numbers : (x y : Value) → Type 0
Numbers x y = (a b : ℕ) × (x ≡ Num a) × (y ≡ Num b)

are-numbers : (r : Relation) (u : Bool) (x y : Value) → IsSome (numbers_compared r u x y) → Numbers x y
are-numbers r u (Num a) (Num b) e = (a, b, refl, refl)
are-numbers r u (Num a) (At c p) e = is-not e
are-numbers r u (Num a) Bad e = is-not e
are-numbers r u (At c p) y e = is-not e
are-numbers r u Bad y e = is-not e

compares : (r : Relation) (u : Bool) (x y : Value) → Numbers x y → IsSome (numbers_compared r u x y)
compares r u x y (a, b, is_x, is_y) = rw is_x (rw is_y refl)

pub numbers_are_compared : NumbersAreCompared
numbers_are_compared r u x y = (are-numbers r u x y, compares r u x y)
