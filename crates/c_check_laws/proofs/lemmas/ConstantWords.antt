-- The value of a constant expression is a word.
use Rattle.std.proofs.Common.{◌<◌, ℕ, Bool, true, false, arith}
use Rattle.std.specs.Prelude.{◌^◌, ◌-◌, ◌==◌, Option, None, Some, option_and_then, option_map, if◌then◌else◌}
use Rattle.val_core.specs.Words.{word2, one_if}
use Rattle.val_core.specs.declared.operation.Op1.TheVariants.{Sext8, Zext8, Sext16, Zext16}
use Rattle.val_core.specs.declared.operation.Op2.TheVariants as op
use Rattle.val_core.proofs.lemmas.Words.{gives_word1, gives_word2}
use Rattle.c_type.specs.declared.scalar.Scalar.TheVariants.{Char, SignedChar, UnsignedChar, Short, UnsignedShort}
use Rattle.c_type.specs.Trees.{TypeTree, scalar_type}
use Rattle.c_typed.specs.declared.operator.UnaryOp.{UnaryOp}
use Rattle.c_typed.specs.declared.operator.UnaryOp.TheVariants as unary_op
use Rattle.c_typed.specs.declared.operator.BinaryOp.{BinaryOp}
use Rattle.c_typed.specs.declared.operator.BinaryOp.TheVariants as binary_op
use Rattle.c_typed.specs.Typed.{ExprTree, expr, FormTree, constant, unary, binary, logical_and, logical_or, conditional}
use Rattle.c_typed.specs.WellTyped.{Scope, type_of, ExprIsTyped, FormIsTyped}
use Rattle.c_check_def.specs.Constants.{has_constant_form, converted_word, unary_word, has_result, are_related, binary_word, truth_word, expr_word, form_word, constant_value}
use Rattle.c_check_laws.specs.TypedOperands.{IfSome}
use Rattle.c_check_laws.proofs.Options.{and_then_holds, if_holds}

abbrev pub IsWord : ℕ → Type 0
IsWord w = w < 2 ^ 32

one_word : (b : Bool) → IsWord (one_if b)
one_word true = omega arith
one_word false = omega arith

converted_is_word : (t : TypeTree) (w : ℕ) → IsWord w → IsWord (converted_word t w)
converted_is_word (scalar_type Char) w h = gives_word1 Zext8 w h
converted_is_word (scalar_type UnsignedChar) w h = gives_word1 Zext8 w h
converted_is_word (scalar_type SignedChar) w h = gives_word1 Sext8 w h
converted_is_word (scalar_type UnsignedShort) w h = gives_word1 Zext16 w h
converted_is_word (scalar_type Short) w h = gives_word1 Sext16 w h
converted_is_word t w h = h

unary_is_word : (o : UnaryOp) (t : TypeTree) (w : ℕ) → IsWord w → IfSome IsWord (unary_word o t w)
unary_is_word unary_op.Convert t w h = converted_is_word t w h
unary_is_word unary_op.Negate t w h = gives_word2 op.Sub 0 w (omega arith) h
unary_is_word unary_op.Complement t w h = gives_word2 op.Xor w (2 ^ 32 - 1) h (omega arith)
unary_is_word unary_op.LogicalNot t w h = one_word (w == 0)
unary_is_word o t w h = tt

binary_is_word : (o : BinaryOp) (t : TypeTree) (a b : ℕ) → IsWord a → IsWord b → IfSome IsWord (binary_word o t a b)
binary_is_word (binary_op.Arithmetic o) t a b h k = if_holds IsWord (has_result o b) (Some (word2 o a b)) (λ q. gives_word2 o a b h k)
binary_is_word (binary_op.Compare r) t a b h k = one_word (are_related r t a b)
binary_is_word o t a b h k = tt

if_word : (t : Bool) (a b : Option ℕ) → IfSome IsWord a → IfSome IsWord b → IfSome IsWord (if t then a else b)
if_word true a b h k = h
if_word false a b h k = k

truth_is_word : (o : Option ℕ) → IfSome IsWord (option_map truth_word o)
truth_is_word None = tt
truth_is_word (Some w) = one_word _

mutual
  expr_is_word : (c : Scope) (e : ExprTree) → ExprIsTyped c e → IfSome IsWord (expr_word e)
  expr_is_word c (expr t f) ty = form_is_word c t f ty

  form_is_word : (c : Scope) (t : TypeTree) (f : FormTree) → FormIsTyped c t f → IfSome IsWord (form_word t f)
  form_is_word c t (constant w) ty = ty.1
  form_is_word c t (unary o e) ty = and_then_holds IsWord IsWord (unary_word o t) (expr_word e) (expr_is_word c e ty.0) (λ w h. unary_is_word o t w h)
  form_is_word c t (binary o a b) ty =
      and_then_holds IsWord IsWord (λ v. option_and_then (binary_word o (type_of a) v) (expr_word b)) (expr_word a) (expr_is_word c a ty.0) (λ v h.
      and_then_holds IsWord IsWord (binary_word o (type_of a) v) (expr_word b) (expr_is_word c b ty.1) (λ w k. binary_is_word o (type_of a) v w h k))
  form_is_word c t (logical_and a b) ty =
      and_then_holds IsWord IsWord (λ v. if v == 0 then Some 0 else option_map truth_word (expr_word b)) (expr_word a) (expr_is_word c a ty.0) (λ v h.
      if_word (v == 0) (Some 0) (option_map truth_word (expr_word b)) (omega arith) (truth_is_word (expr_word b)))
  form_is_word c t (logical_or a b) ty =
      and_then_holds IsWord IsWord (λ v. if v == 0 then option_map truth_word (expr_word b) else Some 1) (expr_word a) (expr_is_word c a ty.0) (λ v h.
      if_word (v == 0) (option_map truth_word (expr_word b)) (Some 1) (truth_is_word (expr_word b)) (omega arith))
  form_is_word c t (conditional d a b) ty =
      and_then_holds IsWord IsWord (λ v. if v == 0 then expr_word b else expr_word a) (expr_word d) (expr_is_word c d ty.0) (λ v h.
      if_word (v == 0) (expr_word b) (expr_word a) (expr_is_word c b ty.2) (expr_is_word c a ty.1))
  form_is_word c t f ty = tt

-- the value of a constant expression is a word
pub constant_is_word : (c : Scope) (e : ExprTree) → ExprIsTyped c e → IfSome IsWord (constant_value e)
constant_is_word c e ty = if_holds IsWord (has_constant_form e) (expr_word e) (λ h. expr_is_word c e ty)
