-- Nonterminals that read the same where one token cannot tell them apart.
use Rattle.std.proofs.Common.{◌≡◌, ℕ, zero, suc, ◌-◌, ◌<◌, Bool, true, false, ◌&&◌, List, Option, Some, None, refl, ap, ◌∙◌, arith}
use Rattle.c_lex.specs.declared.keyword.Keyword.TheVariants as w
use Rattle.c_lex.specs.declared.punct.Punct.TheVariants as m
use Rattle.c_lex.specs.declared.token.Token.{Token}
use Rattle.c_lex.specs.declared.token.TokenKind.{TokenKind}
use Rattle.c_lex.specs.declared.token.TokenKind.TheVariants as kind
use Rattle.c_ast.specs.Nonterminals.{Nonterminal, Init, Assign, Unary, SizeofOperand, includes, nonterminal_number, same_nonterminal, level_number}
use Rattle.c_ast.specs.Grammar.{allowed, symbols_of, rule}
use Rattle.c_ast.specs.Productions.{Production}
use Rattle.c_ast.specs.Productions as production
use Rattle.c_ast.specs.Terminals.{Mark, is, mark_number, is_assign_mark, operator_level}
use Rattle.c_ast.specs.Tree.{Tree, Node}
use Rattle.c_ast.specs.Reader.{ReadResult, Read, SyntaxError, OutOfFuel, and_then, read, step, first, begun, children, turns, goes_on, production_of}
use Rattle.c_ast.specs.PredictSets.{head, typed, at, start, next, operand, operand_next, operation, suffix, mark_suffix, parenthesis, operand_mark, left, initialiser}

pub then_same : (o : ReadResult) (f g : Tree → List Token → ReadResult) → ((t : Tree) (k : List Token) → f t k ≡ g t k) → and_then o f ≡ and_then o g
then_same (Read t k) f g same = same t k
then_same (SyntaxError k) f g same = refl
then_same OutOfFuel f g same = refl

goes_same : (rd : Nonterminal → List Token → ReadResult) (o : Option Production) (t : Tree) (ts : List Token) (f g : Tree → List Token → ReadResult) →
    ((t : Tree) (k : List Token) → f t k ≡ g t k) → goes_on rd o t ts f ≡ goes_on rd o t ts g
unfolding goes_on
goes_same rd None t ts f g same = refl
goes_same rd (Some l) t ts f g same = then_same _ f g same

turns_same : (rd : Nonterminal → List Token → ReadResult) (n : ℕ) (c d : Nonterminal) → ((l : Production) (h : Option TokenKind) → next c l h ≡ next d l h) →
    (t : Tree) (ts : List Token) → turns rd n c t ts ≡ turns rd n d t ts
unfolding turns
turns_same rd zero c d same t ts = refl
turns_same rd (suc n) c d same t ts =
    ap (λ (o : Option Production). goes_on rd o t ts (turns rd n c)) (same (production_of t) (head ts))
    ∙ goes_same rd (next d (production_of t) (head ts)) t ts (turns rd n c) (turns rd n d) (turns_same rd n c d same)

-- Where the same production is chosen, and the same ones go on.
pub read_same : (c d : Nonterminal) (n : ℕ) (ts : List Token) → start c (head ts) (typed ts) ≡ start d (head ts) (typed ts) →
    ((l : Production) (h : Option TokenKind) → next c l h ≡ next d l h) → read n c ts ≡ read n d ts
unfolding read step first
read_same c d zero ts begin same = refl
read_same c d (suc n) ts begin same =
    ap (λ (o : Option Production). and_then (begun (read n) o ts) (turns (read n) (suc n) c)) begin
    ∙ then_same (begun (read n) (start d (head ts) (typed ts)) ts) _ _ (turns_same (read n) (suc n) c d same)

-- Where nothing goes on after a production, it is all that is read.
plain_then : (o : ReadResult) (l : Production) (g : Tree → List Token → ReadResult) → ((f : Tree) (k : List Token) → g (Node l f) k ≡ Read (Node l f) k) →
    and_then (and_then o (λ f k. Read (Node l f) k)) g ≡ and_then o (λ f k. Read (Node l f) k)
plain_then (Read f k) l g plain = plain f k
plain_then (SyntaxError k) l g plain = refl
plain_then OutOfFuel l g plain = refl

turns_plain : (rd : Nonterminal → List Token → ReadResult) (n : ℕ) (c : Nonterminal) (l : Production) → ((h : Option TokenKind) → next c l h ≡ None) →
    (f : Tree) (k : List Token) → turns rd (suc n) c (Node l f) k ≡ Read (Node l f) k
unfolding turns goes_on production_of
turns_plain rd n c l plain f k = rw (plain (head k))

pub read_plain : (c : Nonterminal) (l : Production) (n : ℕ) (ts : List Token) → 0 < n → start c (head ts) (typed ts) ≡ Some l →
    ((h : Option TokenKind) → next c l h ≡ None) → read n c ts ≡ begun (read (n - 1)) (Some l) ts
unfolding read step first begun
read_plain c l zero ts h begin plain = absurd (omega arith)
read_plain c l (suc n) ts h begin plain =
    let e : suc n - 1 ≡ n = omega arith in
    rw (e, begin) (plain_then (children (read n) (symbols_of l) ts) l (turns (read n) (suc n) c) (turns_plain (read n) n c l plain))

-- ---- `sizeof`

next_sizeof : (l : Production) (h : Option TokenKind) → next SizeofOperand l h ≡ next Unary l h
unfolding next operand_next suffix mark_suffix operation allowed rule includes nonterminal_number same_nonterminal is_assign_mark operator_level level_number left
next_sizeof l None = refl
next_sizeof l (Some (kind.Punct m.LParen)) = refl
next_sizeof l (Some (kind.Punct p)) = refl
next_sizeof l (Some k) = refl

start_sizeof : (h : Option TokenKind) (b : Bool) → (at (is (Mark m.LParen)) h && b) ≡ false → start SizeofOperand h b ≡ start Unary h b
unfolding start operand operand_mark parenthesis is mark_number
start_sizeof None b e = refl
start_sizeof (Some (kind.Punct m.LParen)) true e = cc
start_sizeof (Some (kind.Punct m.LParen)) false e = refl
start_sizeof (Some (kind.Punct p)) b e = refl
start_sizeof (Some (kind.Keyword w.Sizeof)) b e = refl
start_sizeof (Some (kind.Keyword k)) b e = refl
start_sizeof (Some k) b e = refl

pub sizeof-other : (n : ℕ) (ts : List Token) → (at (is (Mark m.LParen)) (head ts) && typed ts) ≡ false →
    read n SizeofOperand ts ≡ read n Unary ts
sizeof-other n ts e = read_same SizeofOperand Unary n ts (start_sizeof (head ts) (typed ts) e) next_sizeof

next_typed : (h : Option TokenKind) → next SizeofOperand production.SizeofType h ≡ None
unfolding next operand_next suffix mark_suffix operation allowed rule includes nonterminal_number same_nonterminal is_assign_mark operator_level level_number left
next_typed None = refl
next_typed (Some (kind.Punct m.LParen)) = refl
next_typed (Some (kind.Punct p)) = refl
next_typed (Some k) = refl

start_typed : (h : Option TokenKind) (b : Bool) → (at (is (Mark m.LParen)) h && b) ≡ true → start SizeofOperand h b ≡ Some production.SizeofType
unfolding start operand operand_mark parenthesis is mark_number
start_typed None b e = cc
start_typed (Some (kind.Punct m.LParen)) true e = refl
start_typed (Some (kind.Punct m.LParen)) false e = cc
start_typed (Some (kind.Punct p)) b e = cc
start_typed (Some k) b e = cc

pub sizeof-type : (n : ℕ) (ts : List Token) → 0 < n → (at (is (Mark m.LParen)) (head ts) && typed ts) ≡ true →
    read n SizeofOperand ts ≡ begun (read (n - 1)) (Some production.SizeofType) ts
sizeof-type n ts h e = read_plain SizeofOperand production.SizeofType n ts h (start_typed (head ts) (typed ts) e) next_typed

-- ---- initialisers

next_init : (l : Production) (h : Option TokenKind) → next Init l h ≡ next Assign l h
unfolding next operand_next suffix mark_suffix operation allowed rule includes nonterminal_number same_nonterminal is_assign_mark operator_level level_number left
next_init l None = refl
next_init l (Some (kind.Punct m.LParen)) = refl
next_init l (Some (kind.Punct p)) = refl
next_init l (Some k) = refl

start_init : (h : Option TokenKind) (b : Bool) → at (is (Mark m.LBrace)) h ≡ false → start Init h b ≡ start Assign h b
unfolding start initialiser
start_init None b e = refl
start_init (Some k) b e = rw e

pub init-other : (n : ℕ) (ts : List Token) → at (is (Mark m.LBrace)) (head ts) ≡ false → read n Init ts ≡ read n Assign ts
init-other n ts e = read_same Init Assign n ts (start_init (head ts) (typed ts) e) next_init

next_list : (h : Option TokenKind) → next Init production.InitList h ≡ None
unfolding next operand_next suffix mark_suffix operation allowed rule includes nonterminal_number same_nonterminal is_assign_mark operator_level level_number left
next_list None = refl
next_list (Some (kind.Punct m.LParen)) = refl
next_list (Some (kind.Punct p)) = refl
next_list (Some k) = refl

start_list : (h : Option TokenKind) (b : Bool) → at (is (Mark m.LBrace)) h ≡ true → start Init h b ≡ Some production.InitList
unfolding start initialiser
start_list None b e = cc
start_list (Some k) b e = rw e

pub init-list : (n : ℕ) (ts : List Token) → 0 < n → at (is (Mark m.LBrace)) (head ts) ≡ true →
    read n Init ts ≡ begun (read (n - 1)) (Some production.InitList) ts
init-list n ts h e = read_plain Init production.InitList n ts h (start_list (head ts) (typed ts) e) next_list
