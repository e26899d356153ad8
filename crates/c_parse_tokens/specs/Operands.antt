-- The nonterminals and productions of operands and their operators, as the parser names them.
use Rattle.std.specs.Prelude.{◌≡◌, Option, Some, None, if◌then◌else◌}
use Rattle.c_lex.specs.declared.punct.Punct.{Punct}
use Rattle.c_lex.specs.declared.punct.Punct.TheVariants as m
use Rattle.c_lex.specs.declared.token.TokenKind.{TokenKind}
use Rattle.c_lex.specs.declared.token.TokenKind.TheVariants as kind
use Rattle.c_ast.specs.Nonterminals.{Nonterminal, Postfix, Unary, Cast, Binary, Cond, Assign}
use Rattle.c_ast.specs.Productions.{Production}
use Rattle.c_ast.specs.Productions as production
use Rattle.c_ast.specs.Operators.{selection_production, selection_mark, inc_dec_mark, unary_mark, binary_mark, binary_level, assign_mark}
use Rattle.c_ast.specs.Terminals.{is_inc_dec_mark, is_unary_mark}
use Rattle.c_parse_tokens.specs.declared.operators.OperandStart.{OperandStart}
use Rattle.c_parse_tokens.specs.declared.operators.OperandStart.TheVariants as begin
use Rattle.c_parse_tokens.specs.declared.operators.Precedence.{Precedence}
use Rattle.c_parse_tokens.specs.declared.operators.Precedence.TheVariants as precedence
use Rattle.c_parse_tokens.specs.declared.operators.Suffix.{Suffix}
use Rattle.c_parse_tokens.specs.declared.operators.Suffix.TheVariants as suffix

unfoldable pub nonterminal_of : Precedence → Nonterminal
nonterminal_of precedence.Unary = Unary
nonterminal_of precedence.Cast = Cast
nonterminal_of precedence.Multiplicative = Binary production.Multiplicative
nonterminal_of precedence.Additive = Binary production.Additive
nonterminal_of precedence.Shift = Binary production.Shift
nonterminal_of precedence.Relational = Binary production.Relational
nonterminal_of precedence.Equality = Binary production.Equality
nonterminal_of precedence.BitAnd = Binary production.BitAnd
nonterminal_of precedence.BitXor = Binary production.BitXor
nonterminal_of precedence.BitOr = Binary production.BitOr
nonterminal_of precedence.LogicalAnd = Binary production.LogicalAnd
nonterminal_of precedence.LogicalOr = Binary production.LogicalOr
nonterminal_of precedence.Conditional = Cond
nonterminal_of precedence.Assignment = Assign

-- of postfix expressions, where there is no precedence
abbrev pub operand_of : Option Precedence → Nonterminal
operand_of None = Postfix
operand_of (Some p) = nonterminal_of p

abbrev pub operand_production : OperandStart → Production
operand_production begin.Name = production.Name
operand_production begin.Number = production.Number
operand_production begin.Char = production.Character
operand_production begin.Text = production.Text
operand_production begin.Paren = production.Paren
operand_production begin.Cast = production.Cast
operand_production (begin.IncDec s) = production.Increment
operand_production (begin.Unary op) = production.Unary
operand_production begin.Sizeof = production.Sizeof

-- the operator that is ahead
abbrev pub StartsAt : OperandStart → Option TokenKind → Type 0
StartsAt (begin.IncDec s) h = h ≡ Some (kind.Punct (inc_dec_mark s))
StartsAt (begin.Unary op) h = h ≡ Some (kind.Punct (unary_mark op))
StartsAt _ h = Unit {0}

abbrev pub prefix_production : Punct → Option Production
prefix_production p = if is_inc_dec_mark p then Some production.Increment else (if is_unary_mark p then Some production.Unary else None)

abbrev pub suffix_production : Suffix → Production
suffix_production suffix.Index = production.Index
suffix_production suffix.Call = production.Call
suffix_production (suffix.Select s) = selection_production s
suffix_production (suffix.IncDec s) = production.PostIncrement
suffix_production suffix.Conditional = production.Conditional
suffix_production (suffix.Assign op) = production.Assignment
suffix_production (suffix.Binary op) = production.Binary (binary_level op)

abbrev pub suffix_mark : Suffix → Punct
suffix_mark suffix.Index = m.LBracket
suffix_mark suffix.Call = m.LParen
suffix_mark (suffix.Select s) = selection_mark s
suffix_mark (suffix.IncDec s) = inc_dec_mark s
suffix_mark suffix.Conditional = m.Question
suffix_mark (suffix.Assign op) = assign_mark op
suffix_mark (suffix.Binary op) = binary_mark op
