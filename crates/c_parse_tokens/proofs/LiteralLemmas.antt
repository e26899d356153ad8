-- Constants and string literals as tokens.
use Rattle.std.proofs.Common.{◌≡◌, ℕ, Bool, false, List, Option, Some, None, refl, ap, IsSome}
use Rattle.std.specs.Option.{option_and_then}
use Rattle.base.specs.declared.bytes.Bytes.{Bytes}
use Rattle.c_lex.specs.declared.token.Token.{Token}
use Rattle.c_lex.specs.declared.token.TokenKind.{TokenKind}
use Rattle.c_lex.specs.declared.token.TokenKind.TheVariants as kind
use Rattle.c_ast.specs.declared.token.Span.{Span}
use Rattle.c_ast.specs.Expressions.{expr_tree}
use Rattle.c_ast.specs.declared.expression.Expr.TheVariants as expr
use Rattle.c_ast.specs.Nonterminals.{Nonterminal}
use Rattle.c_ast.specs.Grammar.{symbols_of, rule}
use Rattle.c_ast.specs.Productions as production
use Rattle.c_ast.specs.Nodes.{leaf}
use Rattle.c_ast.specs.Terminals.{AnyNumber, AnyChar, AnyLiteral, is}
use Rattle.c_ast.proofs.lemmas.ExprViews.{tree-Number, tree-Char}
use Rattle.c_ast.proofs.lemmas.Lists.{grows}
use Rattle.c_ast.specs.Reader.{ReadResult, Read, SyntaxError, token, begun, children, one}
use Rattle.c_ast.specs.PredictSets.{head, at}
use Rattle.c_parse_tokens.specs.Reading.{Takes, number_of, char_of, literal_of}
use Rattle.c_parse_tokens.proofs.lemmas.Reads.{token-taken, token-fails, loops}

abbrev back : Option (ℕ × Bool) → Option TokenKind
back None = None
back (Some p) = Some (kind.Number p.0 p.1)

pub token-number : (v : ℕ) (u : Bool) (span : Span) (ts more : List Token) →
    option_and_then number_of (head ts) ≡ Some (v, u) → Takes ts span more → token AnyNumber ts ≡ Read (leaf (kind.Number v u) span) more
unfolding is
token-number v u span ts more e taken = token-taken AnyNumber (kind.Number v u) span ts more (by_head (head ts) e) taken refl
  where
    by_head : (h : Option TokenKind) → option_and_then number_of h ≡ Some (v, u) → h ≡ Some (kind.Number v u)
    by_head None e = cc
    by_head (Some (kind.Number w x)) e = ap back e
    by_head (Some k) e = cc

pub some_number : (h : Option TokenKind) → IsSome (option_and_then number_of h) → IsSome h
some_number None e = e
some_number (Some k) e = refl

pub token-no_number : (ts : List Token) → option_and_then number_of (head ts) ≡ None → token AnyNumber ts ≡ SyntaxError ts
unfolding is
token-no_number ts e = token-fails AnyNumber ts (by_head (head ts) e)
  where
    by_head : (h : Option TokenKind) → option_and_then number_of h ≡ None → at (is AnyNumber) h ≡ false
    by_head None e = refl
    by_head (Some (kind.Number w x)) e = cc
    by_head (Some k) e = refl

pub token-char : (v : ℕ) (span : Span) (ts more : List Token) →
    option_and_then char_of (head ts) ≡ Some v → Takes ts span more → token AnyChar ts ≡ Read (leaf (kind.Char v) span) more
unfolding is
token-char v span ts more e taken = token-taken AnyChar (kind.Char v) span ts more (by_head (head ts) e) taken refl
  where
    by_head : (h : Option TokenKind) → option_and_then char_of h ≡ Some v → h ≡ Some (kind.Char v)
    by_head None e = cc
    by_head (Some (kind.Char w)) e = cc
    by_head (Some k) e = cc

pub token-no_char : (ts : List Token) → option_and_then char_of (head ts) ≡ None → token AnyChar ts ≡ SyntaxError ts
unfolding is
token-no_char ts e = token-fails AnyChar ts (by_head (head ts) e)
  where
    by_head : (h : Option TokenKind) → option_and_then char_of h ≡ None → at (is AnyChar) h ≡ false
    by_head None e = refl
    by_head (Some (kind.Char w)) e = cc
    by_head (Some k) e = refl

pub token-text : (v : Bytes) (span : Span) (ts more : List Token) →
    option_and_then literal_of (head ts) ≡ Some v → Takes ts span more → token AnyLiteral ts ≡ Read (leaf (kind.Text v) span) more
unfolding is
token-text v span ts more e taken = token-taken AnyLiteral (kind.Text v) span ts more (by_head (head ts) e) taken refl
  where
    by_head : (h : Option TokenKind) → option_and_then literal_of h ≡ Some v → h ≡ Some (kind.Text v)
    by_head None e = cc
    by_head (Some (kind.Text w)) e = cc
    by_head (Some k) e = cc

pub token-no_text : (ts : List Token) → option_and_then literal_of (head ts) ≡ None → token AnyLiteral ts ≡ SyntaxError ts
unfolding is
token-no_text ts e = token-fails AnyLiteral ts (by_head (head ts) e)
  where
    by_head : (h : Option TokenKind) → option_and_then literal_of h ≡ None → at (is AnyLiteral) h ≡ false
    by_head None e = refl
    by_head (Some (kind.Text w)) e = cc
    by_head (Some k) e = refl

pub begun-number : (rd : Nonterminal → List Token → ReadResult) (v : ℕ) (u : Bool) (span : Span) (ts more : List Token) →
    option_and_then number_of (head ts) ≡ Some (v, u) → Takes ts span more →
    begun rd (Some production.Number) ts ≡ Read (expr_tree (expr.Number v u span)) more
unfolding begun children one symbols_of rule
begun-number rd v u span ts more e taken = rw (token-number v u span ts more e taken, tree-Number v u span)

pub begun-char : (rd : Nonterminal → List Token → ReadResult) (v : ℕ) (span : Span) (ts more : List Token) →
    option_and_then char_of (head ts) ≡ Some v → Takes ts span more →
    begun rd (Some production.Character) ts ≡ Read (expr_tree (expr.Char v span)) more
unfolding begun children one symbols_of rule
begun-char rd v span ts more e taken = rw (token-char v span ts more e taken, tree-Char v span)

pub ruleset literals = (loops, grows, token-no_number, token-no_char, token-no_text)
