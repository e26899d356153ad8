-- Worked rows: each binary operator, written and read back, and punctuators that are none.
use Rattle.std.specs.Prelude.{◌≡◌, refl, None, Some}
use Rattle.c_lex.specs.declared.punct.Punct.TheVariants as mark
use Rattle.c_ast.specs.declared.operator.BinaryOp.{BinaryOp}
use Rattle.c_ast.specs.declared.operator.BinaryOp.TheVariants as binary
use Rattle.c_lex.specs.declared.punct.Punct.{Punct}
use Rattle.c_ast.specs.Operators.{binary_mark, binary_of}

-- an operator is written as a punctuator, and this is read as the operator
abbrev IsWritten : BinaryOp → Punct → Type 0
IsWritten o p = (binary_mark o ≡ p) × (binary_of p ≡ Some o)

-- *
multiply-row : IsWritten binary.Multiply mark.Star
unfolding binary_mark binary_of
multiply-row = (refl, refl)

-- /
divide-row : IsWritten binary.Divide mark.Slash
unfolding binary_mark binary_of
divide-row = (refl, refl)

-- %
remainder-row : IsWritten binary.Remainder mark.Percent
unfolding binary_mark binary_of
remainder-row = (refl, refl)

-- +
add-row : IsWritten binary.Add mark.Plus
unfolding binary_mark binary_of
add-row = (refl, refl)

-- -
subtract-row : IsWritten binary.Subtract mark.Minus
unfolding binary_mark binary_of
subtract-row = (refl, refl)

-- <<
shift_left-row : IsWritten binary.ShiftLeft mark.ShiftLeft
unfolding binary_mark binary_of
shift_left-row = (refl, refl)

-- >>
shift_right-row : IsWritten binary.ShiftRight mark.ShiftRight
unfolding binary_mark binary_of
shift_right-row = (refl, refl)

-- <
less-row : IsWritten binary.Less mark.Less
unfolding binary_mark binary_of
less-row = (refl, refl)

-- >
greater-row : IsWritten binary.Greater mark.Greater
unfolding binary_mark binary_of
greater-row = (refl, refl)

-- <=
less_equal-row : IsWritten binary.LessEqual mark.LessEqual
unfolding binary_mark binary_of
less_equal-row = (refl, refl)

-- >=
greater_equal-row : IsWritten binary.GreaterEqual mark.GreaterEqual
unfolding binary_mark binary_of
greater_equal-row = (refl, refl)

-- ==
equal-row : IsWritten binary.Equal mark.EqualEqual
unfolding binary_mark binary_of
equal-row = (refl, refl)

-- !=
not_equal-row : IsWritten binary.NotEqual mark.BangEqual
unfolding binary_mark binary_of
not_equal-row = (refl, refl)

-- &
bit_and-row : IsWritten binary.BitAnd mark.Amp
unfolding binary_mark binary_of
bit_and-row = (refl, refl)

-- ^
bit_xor-row : IsWritten binary.BitXor mark.Caret
unfolding binary_mark binary_of
bit_xor-row = (refl, refl)

-- |
bit_or-row : IsWritten binary.BitOr mark.Pipe
unfolding binary_mark binary_of
bit_or-row = (refl, refl)

-- &&
and-row : IsWritten binary.And mark.AmpAmp
unfolding binary_mark binary_of
and-row = (refl, refl)

-- ||
or-row : IsWritten binary.Or mark.PipePipe
unfolding binary_mark binary_of
or-row = (refl, refl)

-- ---- `=`, `,` and `?` are no binary operators

assignment-row : binary_of mark.Equal ≡ None
unfolding binary_of
assignment-row = refl

comma-row : binary_of mark.Comma ≡ None
unfolding binary_of
comma-row = refl

question-row : binary_of mark.Question ≡ None
unfolding binary_of
question-row = refl
