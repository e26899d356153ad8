-- Steps of the reader at expressions.
use Rattle.std.proofs.Common.{◌≡◌, ℕ, zero, suc, ◌-◌, ◌+◌, ◌<◌, true, List, [], ◌∷◌, Some, None, refl, arith, eq-eqb}
use Rattle.c_lex.specs.declared.punct.Punct.{Punct}
use Rattle.c_lex.specs.declared.token.Token.{Token}
use Rattle.c_lex.specs.declared.token.TokenKind.TheVariants as kind
use Rattle.c_ast.specs.declared.operator.AssignOp.{AssignOp}
use Rattle.c_ast.specs.declared.operator.AssignOp.TheVariants as assign
use Rattle.c_ast.specs.declared.operator.BinaryOp.{BinaryOp}
use Rattle.c_ast.specs.declared.operator.BinaryOp.TheVariants as binary
use Rattle.c_ast.specs.declared.operator.Selection.{Selection}
use Rattle.c_ast.specs.declared.operator.Selection.TheVariants as selection
use Rattle.c_ast.specs.declared.operator.IncDec.{IncDec}
use Rattle.c_ast.specs.declared.operator.IncDec.TheVariants as step
use Rattle.c_ast.specs.declared.operator.UnaryOp.{UnaryOp}
use Rattle.c_ast.specs.declared.operator.UnaryOp.TheVariants as unary
use Rattle.c_ast.specs.Nonterminals.{Nonterminal, level_number}
use Rattle.c_ast.specs.Grammar.{T, symbols_of, rule}
use Rattle.c_ast.specs.Productions.{Production}
use Rattle.c_ast.specs.Operators.{selection_production, selection_mark, inc_dec_mark, unary_mark, binary_mark, binary_level, assign_mark}
use Rattle.c_ast.specs.Terminals.{Mark, AnyName, BinaryMark, AssignMark, IncDecMark, UnaryMark, is, mark_number, is_inc_dec_mark, is_unary_mark, is_assign_mark, is_of_level, operator_level}
use Rattle.c_ast.specs.Tree.{Tree, Node, Cons}
use Rattle.c_ast.proofs.lemmas.ExprViews.{expr_views}
use Rattle.c_ast.proofs.lemmas.Lists.{grows}
use Rattle.c_ast.specs.Reader.{ReadResult, Read, and_then, read, step as reader_step, first, children, turns, goes_on, later, token, production_of}
use Rattle.c_ast.specs.PredictSets.{head, next}
use Rattle.c_parse_tokens.proofs.lemmas.Reads.{loops, token-as, less}
use Rattle.c_parse_tokens.proofs.lemmas.TypeViews.{type-tree}
use Rattle.c_parse_tokens.proofs.lemmas.SameNonterminal.{sizeof-type, sizeof-other}

pub read-steps : (n : ℕ) (c : Nonterminal) (ts : List Token) → 0 < n →
    read n c ts ≡ and_then (first (read (n - 1)) c ts) (turns (read (n - 1)) n c)
unfolding read reader_step
read-steps zero c ts h = absurd (omega arith)
read-steps (suc n) c ts h = let e : suc n - 1 ≡ n = omega arith in rw e

pub turn-none : (rd : Nonterminal → List Token → ReadResult) (n i : ℕ) (c : Nonterminal) (t : Tree) (ts : List Token) →
    i < n → next c (production_of t) (head ts) ≡ None → turns rd (n - i) c t ts ≡ Read t ts
unfolding turns goes_on
turn-none rd n i c t ts h e = rw (less n i h, e)

pub turn-some : (rd : Nonterminal → List Token → ReadResult) (n i : ℕ) (c : Nonterminal) (t : Tree) (ts : List Token) (l : Production) →
    i < n → next c (production_of t) (head ts) ≡ Some l → turns rd (n - i) c t ts ≡ and_then (later rd l t ts) (turns rd (n - (i + 1)) c)
unfolding turns goes_on
turn-some rd n i c t ts l h e = rw (less n i h, e)

-- ---- operators

mark_is : (p : Punct) → is (Mark p) (kind.Punct p) ≡ true
unfolding is
mark_is p = eq-eqb (mark_number p) (mark_number p) refl

binary_is : (op : BinaryOp) → is (BinaryMark (binary_level op)) (kind.Punct (binary_mark op)) ≡ true
unfolding is is_of_level operator_level binary_level binary_mark level_number
binary_is binary.Add = refl
binary_is op = refl

assign_is : (op : AssignOp) → is AssignMark (kind.Punct (assign_mark op)) ≡ true
unfolding is is_assign_mark assign_mark
assign_is assign.Plain = refl
assign_is op = refl

inc_dec_is : (s : IncDec) → is IncDecMark (kind.Punct (inc_dec_mark s)) ≡ true
unfolding is is_inc_dec_mark inc_dec_mark
inc_dec_is step.Increment = refl
inc_dec_is step.Decrement = refl

unary_is : (op : UnaryOp) → is UnaryMark (kind.Punct (unary_mark op)) ≡ true
unfolding is is_unary_mark unary_mark
unary_is unary.Plus = refl
unary_is op = refl

pub token-binary : (op : BinaryOp) (ts : List Token) → head ts ≡ Some (kind.Punct (binary_mark op)) →
    token (BinaryMark (binary_level op)) ts ≡ token (Mark (binary_mark op)) ts
token-binary op ts h = token-as _ _ (kind.Punct (binary_mark op)) ts h (binary_is op) (mark_is (binary_mark op))

pub token-assign : (op : AssignOp) (ts : List Token) → head ts ≡ Some (kind.Punct (assign_mark op)) →
    token AssignMark ts ≡ token (Mark (assign_mark op)) ts
token-assign op ts h = token-as _ _ (kind.Punct (assign_mark op)) ts h (assign_is op) (mark_is (assign_mark op))

pub token-inc_dec : (s : IncDec) (ts : List Token) → head ts ≡ Some (kind.Punct (inc_dec_mark s)) →
    token IncDecMark ts ≡ token (Mark (inc_dec_mark s)) ts
token-inc_dec s ts h = token-as _ _ (kind.Punct (inc_dec_mark s)) ts h (inc_dec_is s) (mark_is (inc_dec_mark s))

pub token-unary : (op : UnaryOp) (ts : List Token) → head ts ≡ Some (kind.Punct (unary_mark op)) →
    token UnaryMark ts ≡ token (Mark (unary_mark op)) ts
token-unary op ts h = token-as _ _ (kind.Punct (unary_mark op)) ts h (unary_is op) (mark_is (unary_mark op))

pub later-select : (rd : Nonterminal → List Token → ReadResult) (s : Selection) (t : Tree) (ts : List Token) →
    later rd (selection_production s) t ts
    ≡ and_then (children rd (T (Mark (selection_mark s)) ∷ T AnyName ∷ []) ts) (λ f k. Read (Node (selection_production s) (Cons t f)) k)
unfolding later symbols_of rule selection_production selection_mark
later-select rd selection.Dot t ts = refl
later-select rd selection.Arrow t ts = refl

pub ruleset expressions = (loops, grows, expr_views, read-steps, turn-none, turn-some, token-binary, token-assign, token-inc_dec, token-unary, later-select, type-tree, sizeof-type, sizeof-other)
