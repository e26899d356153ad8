-- Worked rows: constant expressions, and null pointer constants.
use Rattle.std.specs.Prelude.{◌≡◌, refl, ◌^◌, true, false, Some, None}
use Rattle.c_ast.specs.declared.operator.UnaryOp.TheVariants as unary_operator
use Rattle.c_ast.specs.declared.operator.BinaryOp.TheVariants as binary_operator
use Rattle.c_type.specs.Trees.{pointer_to, array_of}
use Rattle.c_typed.specs.Typed.{expr, constant, no_exprs, expr_then, comma}
use Rattle.c_typed.specs.WellTyped.{int}
use Rattle.c_check_def.specs.declared.operand.Operand.TheVariants.{Value}
use Rattle.c_check_def.proofs.examples.Terms.{Term, char, s, number, unsigned_number, variable, binary, unary, conditional, cast, size, worth, is_null}

abbrev minus : Term → Term
minus a = unary unary_operator.Minus a

-- ---- null constants: 1 - 1, 0 and '\0', 0u, !1, (char)256

difference-null : is_null (binary binary_operator.Subtract (number 1) (number 1)) ≡ Some true
difference-null = refl

zero-null : is_null (number 0) ≡ Some true
zero-null = refl

unsigned-null : is_null (unsigned_number 0) ≡ Some true
unsigned-null = refl

not-null : is_null (unary unary_operator.Not (number 1)) ≡ Some true
not-null = refl

char-null : is_null (cast char (number 256)) ≡ Some true
char-null = refl

-- (0, 0) is none, nor is 1, and (int *)0 is no operand
comma-null : is_null (Some (Value (expr int (comma (expr_then (expr int (constant 0)) no_exprs) (expr int (constant 0)))))) ≡ Some false
comma-null = refl

one-null : is_null (number 1) ≡ Some false
one-null = refl

pointer-cast : cast (pointer_to int) (number 0) ≡ None
pointer-cast = refl

-- ---- what is constant

-- 1 / 0, 1 << 32, 1 << -1, 1u % 0u are not
division-worth : worth (binary binary_operator.Divide (number 1) (number 0)) ≡ None
division-worth = refl

far_shift-worth : worth (binary binary_operator.ShiftLeft (number 1) (number 32)) ≡ None
far_shift-worth = refl

negative_shift-worth : worth (binary binary_operator.ShiftLeft (number 1) (minus (number 1))) ≡ None
negative_shift-worth = refl

remainder-worth : worth (binary binary_operator.Remainder (unsigned_number 1) (unsigned_number 0)) ≡ None
remainder-worth = refl

-- 1 << 31 is
shift-worth : worth (binary binary_operator.ShiftLeft (number 1) (number 31)) ≡ Some (2 ^ 31)
shift-worth = refl

-- 2147483647 + 1 wraps
sum-worth : worth (binary binary_operator.Add (number 2147483647) (number 1)) ≡ Some 2147483648
sum-worth = refl

-- (-2147483647 - 1) / -1 is -2147483648
least-worth : worth (binary binary_operator.Divide (binary binary_operator.Subtract (minus (number 2147483647)) (number 1)) (minus (number 1))) ≡ Some 2147483648
least-worth = refl

-- 0 && 1 / 0 is 0, 1 || 1 / 0 is 1, 1 ? 2 : 1 / 0 is 2
and-worth : worth (binary binary_operator.And (number 0) (binary binary_operator.Divide (number 1) (number 0))) ≡ Some 0
and-worth = refl

or-worth : worth (binary binary_operator.Or (number 1) (binary binary_operator.Divide (number 1) (number 0))) ≡ Some 1
or-worth = refl

choice-worth : worth (conditional (number 1) (number 2) (binary binary_operator.Divide (number 1) (number 0))) ≡ Some 2
choice-worth = refl

-- 0 && x, 1 || x and 1 ? 2 : x are not constant
and-variable : worth (binary binary_operator.And (number 0) (variable int)) ≡ None
and-variable = refl

or-variable : worth (binary binary_operator.Or (number 1) (variable int)) ≡ None
or-variable = refl

choice-variable : worth (conditional (number 1) (number 2) (variable int)) ≡ None
choice-variable = refl

-- ---- values

-- -1 < 0u is 0, and (char)-1 < 0 is 0
unsigned_less-worth : worth (binary binary_operator.Less (minus (number 1)) (unsigned_number 0)) ≡ Some 0
unsigned_less-worth = refl

char_less-worth : worth (binary binary_operator.Less (cast char (minus (number 1))) (number 0)) ≡ Some 0
char_less-worth = refl

-- (-7 / 2 == -3) + 2 * (-7 % 2 == -1) + 4 * (-8 >> 1 == -4) is 7
signs-worth :
    worth
    (binary binary_operator.Add
    (binary binary_operator.Add
    (binary binary_operator.Equal (binary binary_operator.Divide (minus (number 7)) (number 2)) (minus (number 3)))
    (binary binary_operator.Multiply (number 2) (binary binary_operator.Equal (binary binary_operator.Remainder (minus (number 7)) (number 2)) (minus (number 1)))))
    (binary binary_operator.Multiply (number 4) (binary binary_operator.Equal (binary binary_operator.ShiftRight (minus (number 8)) (number 1)) (minus (number 4)))))
    ≡ Some 7
signs-worth = refl

-- sizeof(struct s) is 16, and sizeof(int[3]) / sizeof(int) is 3
struct-size : worth (size s) ≡ Some 16
struct-size = refl

array-size : worth (binary binary_operator.Divide (size (array_of int 3)) (size int)) ≡ Some 3
array-size = refl
