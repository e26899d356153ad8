-- Reading an operator is the inverse of writing it.
use Rattle.std.proofs.Common.{◌≡◌, refl}
use Rattle.std.specs.Prelude.{Option, None, Some}
use Rattle.c_lex.specs.declared.punct.Punct.{Punct}
use Rattle.c_lex.specs.declared.punct.Punct.TheVariants as m
use Rattle.c_ast.specs.declared.operator.Selection.{Selection}
use Rattle.c_ast.specs.declared.operator.Selection.TheVariants as selection
use Rattle.c_ast.specs.declared.operator.IncDec.{IncDec}
use Rattle.c_ast.specs.declared.operator.IncDec.TheVariants as step
use Rattle.c_ast.specs.declared.operator.UnaryOp.{UnaryOp}
use Rattle.c_ast.specs.declared.operator.UnaryOp.TheVariants as unary
use Rattle.c_ast.specs.declared.operator.BinaryOp.{BinaryOp}
use Rattle.c_ast.specs.declared.operator.BinaryOp.TheVariants as binary
use Rattle.c_ast.specs.declared.operator.AssignOp.{AssignOp}
use Rattle.c_ast.specs.declared.operator.AssignOp.TheVariants as assign
use Rattle.c_ast.specs.Operators.{selection_mark, inc_dec_mark, unary_mark, binary_mark, assign_mark, selection_of, inc_dec_of, unary_of, binary_of, assign_of}

-- ---- what is written is read back

pub selection_of-mark : (o : Selection) → selection_of (selection_mark o) ≡ Some o
unfolding selection_of selection_mark
selection_of-mark selection.Dot = refl
selection_of-mark selection.Arrow = refl

pub inc_dec_of-mark : (o : IncDec) → inc_dec_of (inc_dec_mark o) ≡ Some o
unfolding inc_dec_of inc_dec_mark
inc_dec_of-mark step.Increment = refl
inc_dec_of-mark step.Decrement = refl

pub unary_of-mark : (o : UnaryOp) → unary_of (unary_mark o) ≡ Some o
unfolding unary_of unary_mark
unary_of-mark unary.AddressOf = refl
unary_of-mark unary.Deref = refl
unary_of-mark unary.Plus = refl
unary_of-mark unary.Minus = refl
unary_of-mark unary.BitNot = refl
unary_of-mark unary.Not = refl

pub binary_of-mark : (o : BinaryOp) → binary_of (binary_mark o) ≡ Some o
unfolding binary_of binary_mark
binary_of-mark binary.Multiply = refl
binary_of-mark binary.Divide = refl
binary_of-mark binary.Remainder = refl
binary_of-mark binary.Add = refl
binary_of-mark binary.Subtract = refl
binary_of-mark binary.ShiftLeft = refl
binary_of-mark binary.ShiftRight = refl
binary_of-mark binary.Less = refl
binary_of-mark binary.Greater = refl
binary_of-mark binary.LessEqual = refl
binary_of-mark binary.GreaterEqual = refl
binary_of-mark binary.Equal = refl
binary_of-mark binary.NotEqual = refl
binary_of-mark binary.BitAnd = refl
binary_of-mark binary.BitXor = refl
binary_of-mark binary.BitOr = refl
binary_of-mark binary.And = refl
binary_of-mark binary.Or = refl

pub assign_of-mark : (o : AssignOp) → assign_of (assign_mark o) ≡ Some o
unfolding assign_of assign_mark
assign_of-mark assign.Plain = refl
assign_of-mark assign.Multiply = refl
assign_of-mark assign.Divide = refl
assign_of-mark assign.Remainder = refl
assign_of-mark assign.Add = refl
assign_of-mark assign.Subtract = refl
assign_of-mark assign.ShiftLeft = refl
assign_of-mark assign.ShiftRight = refl
assign_of-mark assign.BitAnd = refl
assign_of-mark assign.BitXor = refl
assign_of-mark assign.BitOr = refl

-- ---- what is read is written so

-- the operator that is read, where there is one, is written as this punctuator
abbrev IsWritten : {A : Type 0} → (A → Punct) → Punct → Option A → Type 0
IsWritten mark p None = Unit {0}
IsWritten mark p (Some o) = mark o ≡ p

selection_mark-of : (p : Punct) → IsWritten selection_mark p (selection_of p)
unfolding selection_of selection_mark
selection_mark-of m.Dot = refl
selection_mark-of m.Arrow = refl
selection_mark-of p = tt

inc_dec_mark-of : (p : Punct) → IsWritten inc_dec_mark p (inc_dec_of p)
unfolding inc_dec_of inc_dec_mark
inc_dec_mark-of m.PlusPlus = refl
inc_dec_mark-of m.MinusMinus = refl
inc_dec_mark-of p = tt

unary_mark-of : (p : Punct) → IsWritten unary_mark p (unary_of p)
unfolding unary_of unary_mark
unary_mark-of m.Amp = refl
unary_mark-of m.Star = refl
unary_mark-of m.Plus = refl
unary_mark-of m.Minus = refl
unary_mark-of m.Tilde = refl
unary_mark-of m.Bang = refl
unary_mark-of p = tt

binary_mark-of : (p : Punct) → IsWritten binary_mark p (binary_of p)
unfolding binary_of binary_mark
binary_mark-of m.Star = refl
binary_mark-of m.Slash = refl
binary_mark-of m.Percent = refl
binary_mark-of m.Plus = refl
binary_mark-of m.Minus = refl
binary_mark-of m.ShiftLeft = refl
binary_mark-of m.ShiftRight = refl
binary_mark-of m.Less = refl
binary_mark-of m.Greater = refl
binary_mark-of m.LessEqual = refl
binary_mark-of m.GreaterEqual = refl
binary_mark-of m.EqualEqual = refl
binary_mark-of m.BangEqual = refl
binary_mark-of m.Amp = refl
binary_mark-of m.Caret = refl
binary_mark-of m.Pipe = refl
binary_mark-of m.AmpAmp = refl
binary_mark-of m.PipePipe = refl
binary_mark-of p = tt

assign_mark-of : (p : Punct) → IsWritten assign_mark p (assign_of p)
unfolding assign_of assign_mark
assign_mark-of m.Equal = refl
assign_mark-of m.StarEqual = refl
assign_mark-of m.SlashEqual = refl
assign_mark-of m.PercentEqual = refl
assign_mark-of m.PlusEqual = refl
assign_mark-of m.MinusEqual = refl
assign_mark-of m.ShiftLeftEqual = refl
assign_mark-of m.ShiftRightEqual = refl
assign_mark-of m.AmpEqual = refl
assign_mark-of m.CaretEqual = refl
assign_mark-of m.PipeEqual = refl
assign_mark-of p = tt
