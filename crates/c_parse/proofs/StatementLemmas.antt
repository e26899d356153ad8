-- Steps of the reader at statements.
use Rattle.std.proofs.Common.{◌≡◌, ℕ, zero, suc, ◌-◌, ◌<◌, Bool, true, false, List, [], ◌∷◌, Option, Some, None, refl, sym, ap, ◌∙◌, arith, drop, subst}
use Rattle.std.specs.Option.{option_and_then}
use Rattle.c_lex.specs.declared.keyword.Keyword.TheVariants as w
use Rattle.c_lex.specs.declared.token.Token.{Token}
use Rattle.c_lex.specs.declared.token.TokenKind.{TokenKind}
use Rattle.c_ast.specs.Nonterminals.{Block, Item, Stmt, ForFirst, Locals}
use Rattle.c_ast.specs.Grammar.{symbols_of, rule}
use Rattle.c_ast.specs.Productions.{Production}
use Rattle.c_ast.specs.Productions as production
use Rattle.c_ast.specs.Terminals.{ThisKeyword, is}
use Rattle.c_ast.specs.Tree.{Tree, Node, Cons}
use Rattle.c_ast.proofs.lemmas.Lists.{grows}
use Rattle.c_ast.proofs.lemmas.StmtViews.{stmt_views}
use Rattle.c_ast.specs.Reader.{ReadResult, Read, SyntaxError, OutOfFuel, and_then, read, first, begun, children, one, turns, goes_on, later, token, production_of}
use Rattle.c_ast.specs.PredictSets.{head, typed, at, start, next, stmt, stmt_next, item, begins_type}
use Rattle.c_parse_tokens.specs.declared.ahead.SimpleStart.{SimpleStart}
use Rattle.c_parse_tokens.specs.declared.ahead.SimpleStart.TheVariants as simple
use Rattle.c_parse_tokens.specs.Ahead.{simple_production}
use Rattle.c_parse_tokens.proofs.lemmas.Expressions.{read-steps}
use Rattle.c_parse.proofs.FlatReads.{rows}
use Rattle.c_parse.proofs.PlainReads.{plain_reads, read-block, read-locals}
use Rattle.c_parse_tokens.proofs.lemmas.Reads.{repeats}
use Rattle.c_parse_tokens.proofs.lemmas.SameNonterminal.{read_plain, read_same}
use Rattle.c_parse_tokens.proofs.lemmas.TypeViews.{type_views}

-- ---- statements that no `else` may follow

abbrev pub is_plain : Production → Bool
is_plain production.If = false
is_plain _ = true

next_stmt : (l : Production) (h : Option TokenKind) → is_plain l ≡ true → next Stmt l h ≡ None
unfolding next stmt_next
next_stmt production.If h e = cc
next_stmt l None e = refl
next_stmt l (Some k) e = refl

pub stmt-plain : (n : ℕ) (ts : List Token) (l : Production) → 0 < n → start Stmt (head ts) (typed ts) ≡ Some l → is_plain l ≡ true →
    read n Stmt ts ≡ begun (read (n - 1)) (Some l) ts
stmt-plain n ts l h e d = read_plain Stmt l n ts h e (λ k. next_stmt l k d)

pub simple-plain : (s : SimpleStart) → is_plain (simple_production s) ≡ true
simple-plain simple.Null = refl
simple-plain s = refl

pub stmt-block : (n : ℕ) (ts : List Token) → 0 < n → start Stmt (head ts) (typed ts) ≡ Some production.Block → read n Stmt ts ≡ read n Block ts
stmt-block n ts h e = stmt-plain n ts production.Block h e refl ∙ sym (read-block n ts h)

-- ---- items of a block, and the first clause of a `for`

next_locals : (h : Option TokenKind) → next Item production.Locals h ≡ None
unfolding next stmt_next
next_locals None = refl
next_locals (Some k) = refl

start_item : (h : Option TokenKind) (b : Bool) → at begins_type h ≡ true → start Item h b ≡ Some production.Locals
unfolding start item
start_item None b e = cc
start_item (Some k) b e = rw e

pub item-locals : (n : ℕ) (ts : List Token) → at begins_type (head ts) ≡ true → read n Item ts ≡ read n Locals ts
unfolding read
item-locals zero ts e = refl
item-locals (suc n) ts e =
    read_plain Item production.Locals (suc n) ts (omega arith) (start_item (head ts) (typed ts) e) next_locals ∙ sym (read-locals (suc n) ts (omega arith))

start_stmt : (h : Option TokenKind) (b : Bool) → at begins_type h ≡ false → start Item h b ≡ start Stmt h b
unfolding start item
start_stmt None b e = refl
start_stmt (Some k) b e = rw e

next_item : (l : Production) (h : Option TokenKind) → next Item l h ≡ next Stmt l h
unfolding next
next_item l h = refl

pub item-stmt : (n : ℕ) (ts : List Token) → at begins_type (head ts) ≡ false → read n Item ts ≡ read n Stmt ts
item-stmt n ts e = read_same Item Stmt n ts (start_stmt (head ts) (typed ts) e) next_item

start_for : (h : Option TokenKind) (b : Bool) → at begins_type h ≡ true → start ForFirst h b ≡ Some production.Locals
unfolding start
start_for h b e = rw e

pub for-locals : (n : ℕ) (ts : List Token) → at begins_type (head ts) ≡ true → read n ForFirst ts ≡ read n Locals ts
unfolding read next
for-locals zero ts e = refl
for-locals (suc n) ts e =
    read_plain ForFirst production.Locals (suc n) ts (omega arith) (start_for (head ts) (typed ts) e) (λ k. refl) ∙ sym (read-locals (suc n) ts (omega arith))

-- ---- `if`

pub if-ends : (n : ℕ) (f : Tree) (ts : List Token) → 0 < n → at (is (ThisKeyword w.Else)) (head ts) ≡ false →
    turns (read (n - 1)) n Stmt (Node production.If f) ts ≡ Read (Node production.If f) ts
unfolding turns goes_on next stmt_next production_of
if-ends zero f ts h e = absurd (omega arith)
if-ends (suc n) f [] h e = refl
if-ends (suc n) f (x ∷ ts) h e = rw e

after_else : (n : ℕ) (t : Tree) (ts : List Token) →
    and_then (later (read n) production.IfElse t ts) (turns (read n) n Stmt) ≡ later (read n) production.IfElse t ts
unfolding later children one symbols_of rule read turns goes_on next stmt_next production_of
after_else zero t ts = by_token (token (ThisKeyword w.Else) ts)
  where
    by_token : (o : ReadResult) →
        and_then (and_then (and_then o (λ a k. and_then OutOfFuel (λ f j. Read (Cons a f) j))) (λ f k. Read (Node production.IfElse (Cons t f)) k)) (turns (λ c ts. OutOfFuel) zero Stmt)
        ≡ and_then (and_then o (λ a k. and_then OutOfFuel (λ f j. Read (Cons a f) j))) (λ f k. Read (Node production.IfElse (Cons t f)) k)
    by_token (Read a k) = refl
    by_token (SyntaxError k) = refl
    by_token OutOfFuel = refl
after_else (suc n) t ts = by_out (children (read (suc n)) (drop 1 (symbols_of production.IfElse)) ts)
  where
    by_head : (f : Tree) (h : Option TokenKind) (k : List Token) →
        goes_on (read (suc n)) (option_and_then (stmt_next production.IfElse) h) (Node production.IfElse f) k (turns (read (suc n)) n Stmt) ≡ Read (Node production.IfElse f) k
    by_head f None k = refl
    by_head f (Some x) k = refl

    by_out : (o : ReadResult) → and_then (and_then o (λ f k. Read (Node production.IfElse (Cons t f)) k)) (turns (read (suc n)) (suc n) Stmt)
        ≡ and_then o (λ f k. Read (Node production.IfElse (Cons t f)) k)
    by_out (Read f k) = by_head (Cons t f) (head k) k
    by_out (SyntaxError k) = refl
    by_out OutOfFuel = refl

if_else : (n : ℕ) (f : Tree) (x : Token) (ts : List Token) → is (ThisKeyword w.Else) x.kind ≡ true →
    turns (read n) (suc n) Stmt (Node production.If f) (x ∷ ts) ≡ later (read n) production.IfElse (Node production.If f) (x ∷ ts)
unfolding turns goes_on next stmt_next production_of
if_else n f x ts e = rw e (after_else n (Node production.If f) (x ∷ ts))

pub if-goes : (n : ℕ) (f : Tree) (ts : List Token) → 0 < n → at (is (ThisKeyword w.Else)) (head ts) ≡ true →
    turns (read (n - 1)) n Stmt (Node production.If f) ts ≡ later (read (n - 1)) production.IfElse (Node production.If f) ts
if-goes zero f ts h e = absurd (omega arith)
if-goes (suc n) f [] h e = cc
if-goes (suc n) f (x ∷ ts) h e =
    let d : n ≡ suc n - 1 = omega arith in
    subst (λ (i : ℕ). turns (read i) (suc n) Stmt (Node production.If f) (x ∷ ts) ≡ later (read i) production.IfElse (Node production.If f) (x ∷ ts)) d (if_else n f x ts e)

pub stmt-begun : (n : ℕ) (ts : List Token) (l : Production) → 0 < n → option_and_then stmt (head ts) ≡ Some l → is_plain l ≡ true →
    read n Stmt ts ≡ begun (read (n - 1)) (Some l) ts
unfolding start
stmt-begun n ts l h e d = stmt-plain n ts l h e d

pub stmt-if : (n : ℕ) (ts : List Token) → 0 < n → option_and_then stmt (head ts) ≡ Some production.If →
    read n Stmt ts ≡ and_then (begun (read (n - 1)) (Some production.If) ts) (turns (read (n - 1)) n Stmt)
unfolding first start
stmt-if n ts h e = read-steps n Stmt ts h ∙ ap (λ (o : Option Production). and_then (begun (read (n - 1)) o ts) (turns (read (n - 1)) n Stmt)) e

pub stmt-none : (n : ℕ) (ts : List Token) → 0 < n → option_and_then stmt (head ts) ≡ None → read n Stmt ts ≡ SyntaxError ts
unfolding first start begun
stmt-none n ts h e = read-steps n Stmt ts h ∙ ap (λ (o : Option Production). and_then (begun (read (n - 1)) o ts) (turns (read (n - 1)) n Stmt)) e

pub stmt-braces : (n : ℕ) (ts : List Token) → 0 < n → option_and_then stmt (head ts) ≡ Some production.Block → read n Stmt ts ≡ read n Block ts
unfolding start
stmt-braces n ts h e = stmt-block n ts h e

pub ruleset statements = (repeats, rows, plain_reads, grows, stmt_views, type_views, stmt-begun, stmt-if, stmt-none, simple-plain, stmt-braces, item-locals, item-stmt, for-locals, if-ends, if-goes)
