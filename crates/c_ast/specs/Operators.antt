-- Operators: how they are written and read, and the productions that they stand in.
use Rattle.std.specs.Prelude.{Option, None, Some}
use Rattle.c_lex.specs.declared.punct.Punct.{Punct}
use Rattle.c_lex.specs.declared.punct.Punct.TheVariants as m
use Rattle.c_ast.specs.declared.operator.Selection.{Selection}
use Rattle.c_ast.specs.declared.operator.Selection.TheVariants as selection
use Rattle.c_ast.specs.declared.operator.IncDec.{IncDec}
use Rattle.c_ast.specs.declared.operator.IncDec.TheVariants as step
use Rattle.c_ast.specs.declared.operator.UnaryOp.{UnaryOp}
use Rattle.c_ast.specs.declared.operator.UnaryOp.TheVariants as unary
use Rattle.c_ast.specs.declared.operator.BinaryOp.{BinaryOp}
use Rattle.c_ast.specs.declared.operator.BinaryOp.TheVariants as binary
use Rattle.c_ast.specs.declared.operator.AssignOp.{AssignOp}
use Rattle.c_ast.specs.declared.operator.AssignOp.TheVariants as assign
use Rattle.c_ast.specs.Productions.{Production, Level}
use Rattle.c_ast.specs.Productions as l

unfoldable pub selection_production : Selection → Production
selection_production selection.Dot = l.Dot
selection_production selection.Arrow = l.Arrow

unfoldable pub selection_mark : Selection → Punct
selection_mark selection.Dot = m.Dot
selection_mark selection.Arrow = m.Arrow

unfoldable pub inc_dec_mark : IncDec → Punct
inc_dec_mark step.Increment = m.PlusPlus
inc_dec_mark step.Decrement = m.MinusMinus

unfoldable pub unary_mark : UnaryOp → Punct
unary_mark unary.AddressOf = m.Amp
unary_mark unary.Deref = m.Star
unary_mark unary.Plus = m.Plus
unary_mark unary.Minus = m.Minus
unary_mark unary.BitNot = m.Tilde
unary_mark unary.Not = m.Bang

unfoldable pub binary_mark : BinaryOp → Punct
binary_mark binary.Multiply = m.Star
binary_mark binary.Divide = m.Slash
binary_mark binary.Remainder = m.Percent
binary_mark binary.Add = m.Plus
binary_mark binary.Subtract = m.Minus
binary_mark binary.ShiftLeft = m.ShiftLeft
binary_mark binary.ShiftRight = m.ShiftRight
binary_mark binary.Less = m.Less
binary_mark binary.Greater = m.Greater
binary_mark binary.LessEqual = m.LessEqual
binary_mark binary.GreaterEqual = m.GreaterEqual
binary_mark binary.Equal = m.EqualEqual
binary_mark binary.NotEqual = m.BangEqual
binary_mark binary.BitAnd = m.Amp
binary_mark binary.BitXor = m.Caret
binary_mark binary.BitOr = m.Pipe
binary_mark binary.And = m.AmpAmp
binary_mark binary.Or = m.PipePipe

-- the level of an operator
unfoldable pub binary_level : BinaryOp → Level
binary_level binary.Multiply = l.Multiplicative
binary_level binary.Divide = l.Multiplicative
binary_level binary.Remainder = l.Multiplicative
binary_level binary.Add = l.Additive
binary_level binary.Subtract = l.Additive
binary_level binary.ShiftLeft = l.Shift
binary_level binary.ShiftRight = l.Shift
binary_level binary.Less = l.Relational
binary_level binary.Greater = l.Relational
binary_level binary.LessEqual = l.Relational
binary_level binary.GreaterEqual = l.Relational
binary_level binary.Equal = l.Equality
binary_level binary.NotEqual = l.Equality
binary_level binary.BitAnd = l.BitAnd
binary_level binary.BitXor = l.BitXor
binary_level binary.BitOr = l.BitOr
binary_level binary.And = l.LogicalAnd
binary_level binary.Or = l.LogicalOr

unfoldable pub assign_mark : AssignOp → Punct
assign_mark assign.Plain = m.Equal
assign_mark assign.Multiply = m.StarEqual
assign_mark assign.Divide = m.SlashEqual
assign_mark assign.Remainder = m.PercentEqual
assign_mark assign.Add = m.PlusEqual
assign_mark assign.Subtract = m.MinusEqual
assign_mark assign.ShiftLeft = m.ShiftLeftEqual
assign_mark assign.ShiftRight = m.ShiftRightEqual
assign_mark assign.BitAnd = m.AmpEqual
assign_mark assign.BitXor = m.CaretEqual
assign_mark assign.BitOr = m.PipeEqual

-- ---- the operators that a punctuator is read as: each the inverse of how it is written

unfoldable pub selection_of : Punct → Option Selection
selection_of m.Dot = Some selection.Dot
selection_of m.Arrow = Some selection.Arrow
selection_of _ = None

unfoldable pub inc_dec_of : Punct → Option IncDec
inc_dec_of m.PlusPlus = Some step.Increment
inc_dec_of m.MinusMinus = Some step.Decrement
inc_dec_of _ = None

unfoldable pub unary_of : Punct → Option UnaryOp
unary_of m.Amp = Some unary.AddressOf
unary_of m.Star = Some unary.Deref
unary_of m.Plus = Some unary.Plus
unary_of m.Minus = Some unary.Minus
unary_of m.Tilde = Some unary.BitNot
unary_of m.Bang = Some unary.Not
unary_of _ = None

unfoldable pub binary_of : Punct → Option BinaryOp
binary_of m.Star = Some binary.Multiply
binary_of m.Slash = Some binary.Divide
binary_of m.Percent = Some binary.Remainder
binary_of m.Plus = Some binary.Add
binary_of m.Minus = Some binary.Subtract
binary_of m.ShiftLeft = Some binary.ShiftLeft
binary_of m.ShiftRight = Some binary.ShiftRight
binary_of m.Less = Some binary.Less
binary_of m.Greater = Some binary.Greater
binary_of m.LessEqual = Some binary.LessEqual
binary_of m.GreaterEqual = Some binary.GreaterEqual
binary_of m.EqualEqual = Some binary.Equal
binary_of m.BangEqual = Some binary.NotEqual
binary_of m.Amp = Some binary.BitAnd
binary_of m.Caret = Some binary.BitXor
binary_of m.Pipe = Some binary.BitOr
binary_of m.AmpAmp = Some binary.And
binary_of m.PipePipe = Some binary.Or
binary_of _ = None

unfoldable pub assign_of : Punct → Option AssignOp
assign_of m.Equal = Some assign.Plain
assign_of m.StarEqual = Some assign.Multiply
assign_of m.SlashEqual = Some assign.Divide
assign_of m.PercentEqual = Some assign.Remainder
assign_of m.PlusEqual = Some assign.Add
assign_of m.MinusEqual = Some assign.Subtract
assign_of m.ShiftLeftEqual = Some assign.ShiftLeft
assign_of m.ShiftRightEqual = Some assign.ShiftRight
assign_of m.AmpEqual = Some assign.BitAnd
assign_of m.CaretEqual = Some assign.BitXor
assign_of m.PipeEqual = Some assign.BitOr
assign_of _ = None
