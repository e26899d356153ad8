-- The terminals of the grammar: single tokens, and sets of them that one production allows.
use Rattle.std.specs.Prelude.{ℕ, Bool, true, false, ◌==◌, ◌||◌, Option, Some, None}
use Rattle.c_lex.specs.declared.keyword.Keyword.{Keyword}
use Rattle.c_lex.specs.declared.keyword.Keyword.TheVariants as word
use Rattle.c_lex.specs.declared.punct.Punct.{Punct}
use Rattle.c_lex.specs.declared.punct.Punct.TheVariants as mark
use Rattle.c_lex.specs.declared.token.TokenKind.{TokenKind}
use Rattle.c_lex.specs.declared.token.TokenKind.TheVariants as kind
use Rattle.c_ast.specs.Productions.{Level}
use Rattle.c_ast.specs.Productions as production
use Rattle.c_ast.specs.Nonterminals.{level_number}

pub data Terminal : Type 0 where
  -- a name, a number, a character constant, a string literal
  AnyName : Terminal
  AnyNumber : Terminal
  AnyChar : Terminal
  AnyLiteral : Terminal
  -- this keyword; this punctuator
  ThisKeyword : Keyword → Terminal
  Mark : Punct → Terminal
  -- `signed` or `unsigned`
  SignKeyword : Terminal
  -- `=` or a compound assignment (6.5.16)
  AssignMark : Terminal
  -- the operators of a level
  BinaryMark : Level → Terminal
  -- `&`, `*`, `+`, `-`, `~`, `!` (6.5.3)
  UnaryMark : Terminal
  -- `++` or `--`
  IncDecMark : Terminal

-- ---- numbers for keywords and punctuators

unfoldable pub keyword_number : Keyword → ℕ
keyword_number word.Break = 0
keyword_number word.Case = 1
keyword_number word.Char = 2
keyword_number word.Const = 3
keyword_number word.Continue = 4
keyword_number word.Default = 5
keyword_number word.Do = 6
keyword_number word.Else = 7
keyword_number word.For = 8
keyword_number word.If = 9
keyword_number word.Int = 10
keyword_number word.Return = 11
keyword_number word.Short = 12
keyword_number word.Signed = 13
keyword_number word.Sizeof = 14
keyword_number word.Static = 15
keyword_number word.Struct = 16
keyword_number word.Switch = 17
keyword_number word.Unsigned = 18
keyword_number word.Void = 19
keyword_number word.While = 20
keyword_number word.Auto = 21
keyword_number word.Double = 22
keyword_number word.Enum = 23
keyword_number word.Extern = 24
keyword_number word.Float = 25
keyword_number word.Goto = 26
keyword_number word.Inline = 27
keyword_number word.Long = 28
keyword_number word.Register = 29
keyword_number word.Restrict = 30
keyword_number word.Typedef = 31
keyword_number word.Union = 32
keyword_number word.Volatile = 33
keyword_number word.Alignas = 34
keyword_number word.Alignof = 35
keyword_number word.Atomic = 36
keyword_number word.Bool = 37
keyword_number word.Complex = 38
keyword_number word.Generic = 39
keyword_number word.Imaginary = 40
keyword_number word.Noreturn = 41
keyword_number word.StaticAssert = 42
keyword_number word.ThreadLocal = 43

unfoldable pub mark_number : Punct → ℕ
mark_number mark.LParen = 0
mark_number mark.RParen = 1
mark_number mark.LBracket = 2
mark_number mark.RBracket = 3
mark_number mark.LBrace = 4
mark_number mark.RBrace = 5
mark_number mark.Semicolon = 6
mark_number mark.Comma = 7
mark_number mark.Dot = 8
mark_number mark.Arrow = 9
mark_number mark.PlusPlus = 10
mark_number mark.MinusMinus = 11
mark_number mark.Amp = 12
mark_number mark.Star = 13
mark_number mark.Plus = 14
mark_number mark.Minus = 15
mark_number mark.Tilde = 16
mark_number mark.Bang = 17
mark_number mark.Slash = 18
mark_number mark.Percent = 19
mark_number mark.ShiftLeft = 20
mark_number mark.ShiftRight = 21
mark_number mark.Less = 22
mark_number mark.Greater = 23
mark_number mark.LessEqual = 24
mark_number mark.GreaterEqual = 25
mark_number mark.EqualEqual = 26
mark_number mark.BangEqual = 27
mark_number mark.Caret = 28
mark_number mark.Pipe = 29
mark_number mark.AmpAmp = 30
mark_number mark.PipePipe = 31
mark_number mark.Question = 32
mark_number mark.Colon = 33
mark_number mark.Equal = 34
mark_number mark.StarEqual = 35
mark_number mark.SlashEqual = 36
mark_number mark.PercentEqual = 37
mark_number mark.PlusEqual = 38
mark_number mark.MinusEqual = 39
mark_number mark.ShiftLeftEqual = 40
mark_number mark.ShiftRightEqual = 41
mark_number mark.AmpEqual = 42
mark_number mark.CaretEqual = 43
mark_number mark.PipeEqual = 44

-- ---- the sets

-- the level of a binary operator
unfoldable pub operator_level : Punct → Option Level
operator_level mark.Star = Some production.Multiplicative
operator_level mark.Slash = Some production.Multiplicative
operator_level mark.Percent = Some production.Multiplicative
operator_level mark.Plus = Some production.Additive
operator_level mark.Minus = Some production.Additive
operator_level mark.ShiftLeft = Some production.Shift
operator_level mark.ShiftRight = Some production.Shift
operator_level mark.Less = Some production.Relational
operator_level mark.Greater = Some production.Relational
operator_level mark.LessEqual = Some production.Relational
operator_level mark.GreaterEqual = Some production.Relational
operator_level mark.EqualEqual = Some production.Equality
operator_level mark.BangEqual = Some production.Equality
operator_level mark.Amp = Some production.BitAnd
operator_level mark.Caret = Some production.BitXor
operator_level mark.Pipe = Some production.BitOr
operator_level mark.AmpAmp = Some production.LogicalAnd
operator_level mark.PipePipe = Some production.LogicalOr
operator_level _ = None

unfoldable pub is_assign_mark : Punct → Bool
is_assign_mark mark.Equal = true
is_assign_mark mark.StarEqual = true
is_assign_mark mark.SlashEqual = true
is_assign_mark mark.PercentEqual = true
is_assign_mark mark.PlusEqual = true
is_assign_mark mark.MinusEqual = true
is_assign_mark mark.ShiftLeftEqual = true
is_assign_mark mark.ShiftRightEqual = true
is_assign_mark mark.AmpEqual = true
is_assign_mark mark.CaretEqual = true
is_assign_mark mark.PipeEqual = true
is_assign_mark _ = false

unfoldable pub is_unary_mark : Punct → Bool
is_unary_mark mark.Amp = true
is_unary_mark mark.Star = true
is_unary_mark mark.Plus = true
is_unary_mark mark.Minus = true
is_unary_mark mark.Tilde = true
is_unary_mark mark.Bang = true
is_unary_mark _ = false

unfoldable pub is_inc_dec_mark : Punct → Bool
is_inc_dec_mark mark.PlusPlus = true
is_inc_dec_mark mark.MinusMinus = true
is_inc_dec_mark _ = false

-- an operator of this level
unfoldable pub is_of_level : Level → Option Level → Bool
is_of_level level None = false
is_of_level level (Some other) = level_number level == level_number other

-- whether a token of this kind stands for the terminal
unfoldable pub is : Terminal → TokenKind → Bool
is AnyName (kind.Name name) = true
is AnyNumber (kind.Number value unsigned) = true
is AnyChar (kind.Char c) = true
is AnyLiteral (kind.Text cs) = true
is (ThisKeyword w) (kind.Keyword k) = keyword_number w == keyword_number k
is (Mark m) (kind.Punct p) = mark_number m == mark_number p
is SignKeyword (kind.Keyword k) = keyword_number k == 13 || keyword_number k == 18
is AssignMark (kind.Punct p) = is_assign_mark p
is (BinaryMark level) (kind.Punct p) = is_of_level level (operator_level p)
is UnaryMark (kind.Punct p) = is_unary_mark p
is IncDecMark (kind.Punct p) = is_inc_dec_mark p
is _ _ = false
