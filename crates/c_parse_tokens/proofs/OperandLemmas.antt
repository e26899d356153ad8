-- Nonterminals of operands by their numbers.
use Rattle.std.proofs.Common.{◌≡◌, ℕ, ◌+◌, Bool, true, ◌==◌, ◌&&◌, ◌||◌, nat_le, Option, Some, None, refl, arith}
use Rattle.std.specs.Option.{option_and_then}
use Rattle.std.proofs.lemmas.Bool.Decides.{nat_tests}
use Rattle.c_lex.specs.declared.token.TokenKind.{TokenKind}
use Rattle.c_ast.specs.Nonterminals.{Nonterminal, Many, Opt, Unary, Cast, Binary, Cond, Assign, Postfix, nonterminal_number, level_number, includes, same_nonterminal}
use Rattle.c_ast.specs.Grammar.{rule}
use Rattle.c_ast.specs.Operators.{selection_production, binary_level}
use Rattle.c_ast.specs.declared.operator.Selection.{Selection}
use Rattle.c_ast.specs.declared.operator.Selection.TheVariants as selection
use Rattle.c_ast.specs.Productions.{Production, Level}
use Rattle.c_ast.specs.Productions as production
use Rattle.c_ast.proofs.lemmas.ExprViews.{expr_views}
use Rattle.c_ast.specs.PredictSets.{start, next, operand, operation, operand_next, suffix as after, left}
use Rattle.c_parse_tokens.specs.declared.operators.Precedence.{Precedence}
use Rattle.c_parse_tokens.specs.declared.operators.Precedence.TheVariants as precedence
use Rattle.c_parse_tokens.specs.declared.operators.Suffix.{Suffix}
use Rattle.c_parse_tokens.specs.declared.operators.Suffix.TheVariants as suffix
use Rattle.c_parse_tokens.specs.Operands.{nonterminal_of, suffix_production}

by_number : (a b : ℕ) → nat_le a 14 ≡ true → ((a == b) || (nat_le b a && nat_le a 14)) ≡ nat_le b a
by_number a b h = grind (arith, nat_tests)

high : (n : ℕ) → nat_le (50 + n) 14 ≡ true → ⊥
high n h = grind (arith, nat_tests)

higher : (n : ℕ) → nat_le (70 + n) 14 ≡ true → ⊥
higher n h = grind (arith, nat_tests)

pub includes-operand : (c : Nonterminal) → nat_le (nonterminal_number c) 14 ≡ true → (b : Nonterminal) →
    includes c b ≡ nat_le (nonterminal_number b) (nonterminal_number c)
unfolding includes nonterminal_number same_nonterminal
includes-operand Postfix h b = by_number 0 (nonterminal_number b) refl
includes-operand Unary h b = by_number 1 (nonterminal_number b) refl
includes-operand Cast h b = by_number 2 (nonterminal_number b) refl
includes-operand (Binary level) h b = by_number (3 + level_number level) (nonterminal_number b) h
includes-operand Cond h b = by_number 13 (nonterminal_number b) refl
includes-operand Assign h b = by_number 14 (nonterminal_number b) refl
includes-operand (Many k) h b = absurd (high _ h)
includes-operand (Opt k) h b = absurd (higher _ h)
includes-operand c h b = cc

pub rank_low : (r : Precedence) → nat_le (nonterminal_number (nonterminal_of r)) 14 ≡ true
unfolding nonterminal_of nonterminal_number level_number
rank_low precedence.Unary = refl
rank_low r = refl

pub start-operand : (r : Precedence) (h : Option TokenKind) (b : Bool) → start (nonterminal_of r) h b ≡ option_and_then (operand (nonterminal_of r) b) h
unfolding start nonterminal_of
start-operand precedence.Unary h b = refl
start-operand r h b = refl

pub next-operand : (r : Precedence) (l : Production) (h : Option TokenKind) →
    next (nonterminal_of r) l h ≡ option_and_then (operation (nonterminal_of r) l) (option_and_then after h)
unfolding next nonterminal_of operand_next
next-operand precedence.Unary l None = refl
next-operand precedence.Unary l (Some k) = refl
next-operand r l None = refl
next-operand r l (Some k) = refl

level_low : (l : Level) → nat_le (3 + level_number l) 14 ≡ true
unfolding level_number
level_low production.Multiplicative = refl
level_low l = refl

pub selection_of : (s : Selection) → (rule (selection_production s)).of ≡ Postfix
unfolding rule selection_production
selection_of selection.Dot = refl
selection_of selection.Arrow = refl

pub left_low : (s : Suffix) → nat_le (nonterminal_number (left (suffix_production s))) 14 ≡ true
unfolding left nonterminal_number selection_production level_number
left_low suffix.Index = refl
left_low suffix.Call = refl
left_low (suffix.Select selection.Dot) = refl
left_low (suffix.Select selection.Arrow) = refl
left_low (suffix.IncDec s) = refl
left_low suffix.Conditional = refl
left_low (suffix.Assign op) = refl
left_low (suffix.Binary op) = level_low (binary_level op)

pub ruleset operands = (start-operand, next-operand, includes-operand, rank_low, selection_of, expr_views)
