-- Expressions (ISO/IEC 9899:2011, 6.5): the nodes of operands come first, from left to right.
use Rattle.std.specs.Prelude.{◌-◌, ◌^◌, if◌then◌else◌, List, [], ◌∷◌}
use Rattle.val_core.specs.declared.operation.Op1.TheVariants.{Zext8}
use Rattle.val_core.specs.declared.operation.Op2.TheVariants as op
use Rattle.c_type.specs.Trees.{TypeTree, void_type}
use Rattle.c_typed.specs.declared.operator.UnaryOp.{UnaryOp}
use Rattle.c_typed.specs.declared.operator.UnaryOp.TheVariants as unary_op
use Rattle.c_typed.specs.declared.operator.BinaryOp.{BinaryOp}
use Rattle.c_typed.specs.declared.operator.BinaryOp.TheVariants as binary_op
use Rattle.c_typed.specs.declared.operator.CompoundOp.{CompoundOp}
use Rattle.c_typed.specs.declared.operator.CompoundOp.TheVariants as compound_op
use Rattle.c_typed.specs.declared.operator.IncDec.{IncDec}
use Rattle.c_typed.specs.Typed.{ExprTree, expr, FormTree, constant, read, address, unary, binary, logical_and, logical_or, conditional, comma, assign, compound, inc_dec, call, get, ExprTrees, no_exprs, expr_then, PlaceTree, place, PlaceFormTree, local, global, at, member}
use Rattle.c_typed.specs.WellTyped.{type_of, step_op}
use Rattle.g_graph.specs.declared.op.Origin.{Origin}
use Rattle.g_build_def.specs.Writer.{variable_at, Point, Built, given, nothing, bind, Extra, one_value, void_value, choice}
use Rattle.g_build_def.specs.Places.{Spot, address_spot, slot_spot, member_spot, spot_address, spot_read, spot_written}
use Rattle.g_build_def.specs.Operations.{const_made, delta_made, bin_made, un_made, apply_made, put_made, exit_made, get_made, converted_made, is_not_zero_made, not_made, condition_made, compared_made, moved_made, difference_made}

-- ---- operations on what operands give

abbrev pub unary_made : UnaryOp → (t operand : TypeTree) → Origin → Point → Built Origin
unary_made unary_op.Convert t u v s = converted_made t v s
unary_made unary_op.Discard t u v s = given v s
unary_made unary_op.Negate t u v s = bind (const_made 0 s) (λ z t. bin_made op.Sub z v t)
unary_made unary_op.Complement t u v s = bind (const_made (2 ^ 32 - 1) s) (λ c t. bin_made op.Xor v c t)
unary_made unary_op.LogicalNot t u v s = not_made u v s
unary_made unary_op.Put t u v s = bind (put_made v s) (un_made Zext8)
unary_made unary_op.Exit t u v s = exit_made v s

abbrev pub binary_made : BinaryOp → (operands : TypeTree) → (left right : Origin) → Point → Built Origin
binary_made (binary_op.Arithmetic o) t a b s = bin_made o a b s
binary_made (binary_op.Compare r) t a b s = compared_made r t a b s
binary_made (binary_op.PointerPlus bytes) t a b s = moved_made op.Add a b bytes s
binary_made (binary_op.IntegerPlus bytes) t a b s = moved_made op.Add b a bytes s
binary_made (binary_op.PointerMinus bytes) t a b s = moved_made op.Sub a b bytes s
binary_made (binary_op.PointerDifference bytes) t a b s = difference_made a b bytes s

-- the operation of a compound assignment on the old value and the operand
abbrev pub compound_made : CompoundOp → (old operand : Origin) → Point → Built Origin
compound_made (compound_op.Arithmetic o unsigned) a b s = bin_made o a b s
compound_made (compound_op.PointerPlus bytes) a b s = moved_made op.Add a b bytes s
compound_made (compound_op.PointerMinus bytes) a b s = moved_made op.Sub a b bytes s

abbrev pub stepped_made : IncDec → (old : Origin) → Point → Built Origin
stepped_made i v s = bind (const_made i.by s) (λ c t. bin_made (step_op i.up) v c t)

-- the value of `?:` is an extra value, but there is none where it is void, and the predicate stands for it
abbrev pub conditional_extra : TypeTree → (predicate : Origin) → Extra Origin
conditional_extra void_type p = void_value p
conditional_extra t p = one_value

-- ---- expressions

abbrev mutual
  pub expr_made : ExprTree → Point → Built Origin
  expr_made (expr t f) s = form_made t f s

  pub form_made : TypeTree → FormTree → Point → Built Origin
  form_made t (constant w) s = const_made w s
  form_made t (read p) s = bind (place_made p s) (spot_read t)
  form_made t (address p) s = bind (place_made p s) spot_address
  form_made t (unary o e) s = bind (expr_made e s) (unary_made o t (type_of e))
  form_made t (binary o a b) s = bind (expr_made a s) (λ x u. bind (expr_made b u) (binary_made o (type_of a) x))
  form_made t (logical_and a b) s =
      bind (tested a s) (λ p u. choice one_value u p (const_made 0) (λ v. bind (tested b v) is_not_zero_made))
  form_made t (logical_or a b) s =
      bind (tested a s) (λ p u. choice one_value u p (λ v. bind (tested b v) is_not_zero_made) (const_made 1))
  form_made t (conditional d a b) s = bind (tested d s) (λ p u. choice (conditional_extra t p) u p (expr_made b) (expr_made a))
  form_made t (comma es e) s = bind (commas_made es s) (λ _ u. expr_made e u)
  form_made t (assign p e) s = bind (place_made p s) (λ x u. bind (expr_made e u) (spot_written t x))
  form_made t (compound o p e) s =
      bind (place_made p s) (λ x u.
      bind (spot_read t x u) (λ old v.
      bind (expr_made e v) (λ y w.
      bind (compound_made o old y w) (λ new z.
      bind (converted_made t new z) (spot_written t x)))))
  form_made t (inc_dec i p) s =
      bind (place_made p s) (λ x u.
      bind (spot_read t x u) (λ old v.
      bind (stepped_made i old v) (λ new w.
      bind (converted_made t new w) (λ c z.
      bind (spot_written t x c z) (λ _ y. given (if i.gives_old then old else c) y)))))
  form_made t (call f es) s = bind (arguments_made es s) (apply_made f)
  form_made t get s = get_made s

  -- an operand as a condition
  pub tested : ExprTree → Point → Built Origin
  tested (expr t f) s = bind (form_made t f s) (condition_made t)

  -- operands of commas, whose values are dropped
  pub commas_made : ExprTrees → Point → Built (Unit {0})
  commas_made no_exprs s = nothing s
  commas_made (expr_then e es) s = bind (expr_made e s) (λ _ u. commas_made es u)

  pub arguments_made : ExprTrees → Point → Built (List Origin)
  arguments_made no_exprs s = given [] s
  arguments_made (expr_then e es) s = bind (expr_made e s) (λ x u. bind (arguments_made es u) (λ xs v. given (x ∷ xs) v))

  pub place_made : PlaceTree → Point → Built Spot
  place_made (place t f) s = place_form_made f s

  pub place_form_made : PlaceFormTree → Point → Built Spot
  place_form_made (local k) s = slot_spot k (variable_at s.carried.variables k) s
  place_form_made (global k) s = address_spot (delta_made k s)
  place_form_made (at e) s = address_spot (expr_made e s)
  place_form_made (member p offset) s = bind (place_made p s) (λ x u. member_spot x offset u)
