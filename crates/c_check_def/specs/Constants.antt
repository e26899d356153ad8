-- Integer constant expressions (ISO/IEC 9899:2011, 6.6p6) and null pointer constants (6.3.2.3p3). Whether an expression has
-- the form of one, and what it is worth, are apart: `0 && 1 / 0` has the form and is 0, and `0 && x` has not the form.
use Rattle.std.specs.Prelude.{ℕ, ◌-◌, ◌^◌, ◌==◌, ◌&&◌, not, nat_lt, Bool, true, false, if◌then◌else◌, Option, None, Some, option_map, option_and_then, int_lt}
use Rattle.val_core.specs.Words.{word1, word2, signed, one_if}
use Rattle.val_core.specs.declared.operation.Op1.TheVariants.{Sext8, Zext8, Sext16, Zext16}
use Rattle.val_core.specs.declared.operation.Op2.{Op2}
use Rattle.val_core.specs.declared.operation.Op2.TheVariants as op
use Rattle.c_type.specs.declared.scalar.Scalar.TheVariants.{Char, SignedChar, UnsignedChar, Short, UnsignedShort, UnsignedInt}
use Rattle.c_type.specs.Trees.{TypeTree, scalar_type}
use Rattle.c_typed.specs.declared.operator.Relation.{Relation}
use Rattle.c_typed.specs.declared.operator.Relation.TheVariants as relation
use Rattle.c_typed.specs.declared.operator.UnaryOp.{UnaryOp}
use Rattle.c_typed.specs.declared.operator.UnaryOp.TheVariants as unary_op
use Rattle.c_typed.specs.declared.operator.BinaryOp.{BinaryOp}
use Rattle.c_typed.specs.declared.operator.BinaryOp.TheVariants as binary_op
use Rattle.c_typed.specs.Typed.{ExprTree, expr, FormTree, constant, unary, binary, logical_and, logical_or, conditional}
use Rattle.c_typed.specs.WellTyped.{type_of, is_shift, is_division}
use Rattle.c_check_def.specs.Types.{is_integer}

-- ---- the form

-- casts and conversions to integer types, and all unary operators
abbrev pub is_constant_unary : UnaryOp → TypeTree → Bool
is_constant_unary unary_op.Convert t = is_integer t
is_constant_unary unary_op.Negate t = true
is_constant_unary unary_op.Complement t = true
is_constant_unary unary_op.LogicalNot t = true
is_constant_unary o t = false

-- binary operators on integers
abbrev pub is_constant_binary : BinaryOp → Bool
is_constant_binary (binary_op.Arithmetic o) = true
is_constant_binary (binary_op.Compare r) = true
is_constant_binary o = false

-- The leaves are numbers, characters and sizes, and all operators are those above, `&&`, `||` and `?:`.
abbrev mutual
  pub has_constant_form : ExprTree → Bool
  has_constant_form (expr t f) = is_constant_form t f

  pub is_constant_form : TypeTree → FormTree → Bool
  is_constant_form t (constant w) = true
  is_constant_form t (unary o e) = is_constant_unary o t && has_constant_form e
  is_constant_form t (binary o a b) = is_constant_binary o && (has_constant_form a && has_constant_form b)
  is_constant_form t (logical_and a b) = has_constant_form a && has_constant_form b
  is_constant_form t (logical_or a b) = has_constant_form a && has_constant_form b
  is_constant_form t (conditional c a b) = has_constant_form c && (has_constant_form a && has_constant_form b)
  is_constant_form t f = false

-- ---- the value, a word

-- A conversion keeps the low bits and extends them (6.3.1.3); plain `char` is unsigned.
abbrev pub converted_word : TypeTree → ℕ → ℕ
converted_word (scalar_type Char) w = word1 Zext8 w
converted_word (scalar_type UnsignedChar) w = word1 Zext8 w
converted_word (scalar_type SignedChar) w = word1 Sext8 w
converted_word (scalar_type UnsignedShort) w = word1 Zext16 w
converted_word (scalar_type Short) w = word1 Sext16 w
converted_word t w = w

abbrev pub unary_word : UnaryOp → TypeTree → ℕ → Option ℕ
unary_word unary_op.Convert t w = Some (converted_word t w)
unary_word unary_op.Negate t w = Some (word2 op.Sub 0 w)
unary_word unary_op.Complement t w = Some (word2 op.Xor w (2 ^ 32 - 1))
unary_word unary_op.LogicalNot t w = Some (one_if (w == 0))
unary_word o t w = None

-- A divisor is not 0, and a shift is by 0 to 31 (6.5.5p5, 6.5.7p3).
abbrev pub has_result : Op2 → (right : ℕ) → Bool
has_result o b = if is_division o then not (b == 0) else if is_shift o then nat_lt b 32 else true

-- Arithmetic wraps.
abbrev pub arithmetic_word : Op2 → ℕ → ℕ → Option ℕ
arithmetic_word o a b = if has_result o b then Some (word2 o a b) else None

-- numbers of `unsigned int` are compared as they are, and others as signed
abbrev pub is_below : TypeTree → ℕ → ℕ → Bool
is_below (scalar_type UnsignedInt) a b = nat_lt a b
is_below t a b = int_lt (signed a) (signed b)

abbrev pub are_related : Relation → TypeTree → ℕ → ℕ → Bool
are_related relation.Less t a b = is_below t a b
are_related relation.Greater t a b = is_below t b a
are_related relation.LessEqual t a b = not (is_below t b a)
are_related relation.GreaterEqual t a b = not (is_below t a b)
are_related relation.Equal t a b = a == b
are_related relation.NotEqual t a b = not (a == b)

-- of operands of this type
abbrev pub binary_word : BinaryOp → TypeTree → ℕ → ℕ → Option ℕ
binary_word (binary_op.Arithmetic o) t a b = arithmetic_word o a b
binary_word (binary_op.Compare r) t a b = Some (one_if (are_related r t a b))
binary_word o t a b = None

-- 1 where a word is not 0, and else 0
abbrev pub truth_word : ℕ → ℕ
truth_word w = one_if (not (w == 0))

-- `&&`, `||` and `?:` evaluate only what is needed.
abbrev mutual
  pub expr_word : ExprTree → Option ℕ
  expr_word (expr t f) = form_word t f

  pub form_word : TypeTree → FormTree → Option ℕ
  form_word t (constant w) = Some w
  form_word t (unary o e) = option_and_then (unary_word o t) (expr_word e)
  form_word t (binary o a b) = option_and_then (λ v. option_and_then (binary_word o (type_of a) v) (expr_word b)) (expr_word a)
  form_word t (logical_and a b) = option_and_then (λ v. if v == 0 then Some 0 else option_map truth_word (expr_word b)) (expr_word a)
  form_word t (logical_or a b) = option_and_then (λ v. if v == 0 then option_map truth_word (expr_word b) else Some 1) (expr_word a)
  form_word t (conditional c a b) = option_and_then (λ v. if v == 0 then expr_word b else expr_word a) (expr_word c)
  form_word t f = None

-- ---- constant expressions

-- the word that an integer constant expression is worth; none of any other expression
abbrev pub constant_value : ExprTree → Option ℕ
constant_value e = if has_constant_form e then expr_word e else None

abbrev pub is_zero : Option ℕ → Bool
is_zero None = false
is_zero (Some w) = w == 0

-- an integer constant expression of value 0, of any integer type
abbrev pub is_null_constant : ExprTree → Bool
is_null_constant e = is_integer (type_of e) && is_zero (constant_value e)
