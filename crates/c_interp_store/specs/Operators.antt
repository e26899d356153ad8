-- Which operators act inside the program alone, and on what.
use Rattle.std.specs.Prelude.{Bool, true, false, Option, None, Some}
use Rattle.val_core.specs.declared.values.Value.{Value}
use Rattle.val_core.specs.declared.values.Value.TheVariants.{Num, At, Bad}
use Rattle.c_typed.specs.declared.operator.UnaryOp.{UnaryOp}
use Rattle.c_typed.specs.declared.operator.UnaryOp.TheVariants as unary_op

-- neither a call that writes a byte nor one that ends the program
abbrev pub is_pure : UnaryOp → Bool
is_pure unary_op.Put = false
is_pure unary_op.Exit = false
is_pure op = true

-- the value, unless there is none (ISO/IEC 9899:2011, 6.9.1p12)
abbrev pub used_value : Value → Option Value
used_value Bad = None
used_value (Num w) = Some (Num w)
used_value (At b o) = Some (At b o)
