-- Nonterminals in which nothing goes on after a production.
use Rattle.std.proofs.Common.{◌≡◌, ℕ, zero, suc, ◌-◌, ◌<◌, Bool, true, false, List, [], Option, Some, None, refl, ap, ◌∙◌, arith, if◌then◌else◌}
use Rattle.std.specs.Option.{option_and_then}
use Rattle.c_lex.specs.declared.punct.Punct.TheVariants as m
use Rattle.c_lex.specs.declared.token.Token.{Token}
use Rattle.c_lex.specs.declared.token.TokenKind.{TokenKind}
use Rattle.c_ast.specs.Nonterminals.{Nonterminal, Opt, External, AfterTag, AfterType, AfterName, Body, Members, Member, Locals, Param, Block, ForFirst, Group, GroupLabel}
use Rattle.c_ast.specs.Grammar.{symbols_of, rule}
use Rattle.c_ast.specs.Productions.{Production, Optional}
use Rattle.c_ast.specs.Productions as production
use Rattle.c_ast.specs.Nodes.{node}
use Rattle.c_ast.specs.Terminals.{Mark, is}
use Rattle.c_ast.specs.Tree.{Tree, Node}
use Rattle.c_ast.specs.Reader.{ReadResult, Read, SyntaxError, OutOfFuel, and_then, read, step, first, begun, children, turns, goes_on, production_of}
use Rattle.c_ast.specs.PredictSets.{head, typed, at, start, next, begins_optional, begins_type, external, group_label}

then_done : (rd : Nonterminal → List Token → ReadResult) (o : Option Production) (ts : List Token) (g : Tree → List Token → ReadResult) →
    ((l : Production) (f : Tree) (k : List Token) → g (Node l f) k ≡ Read (Node l f) k) → and_then (begun rd o ts) g ≡ begun rd o ts
unfolding begun
then_done rd None ts g plain = refl
then_done rd (Some l) ts g plain = by_parts (children rd (symbols_of l) ts)
  where
    by_parts : (o : ReadResult) → and_then (and_then o (λ f k. Read (Node l f) k)) g ≡ and_then o (λ f k. Read (Node l f) k)
    by_parts (Read f k) = plain l f k
    by_parts (SyntaxError k) = refl
    by_parts OutOfFuel = refl

turns_done : (rd : Nonterminal → List Token → ReadResult) (n : ℕ) (c : Nonterminal) → ((l : Production) (h : Option TokenKind) → next c l h ≡ None) →
    (l : Production) (f : Tree) (k : List Token) → turns rd (suc n) c (Node l f) k ≡ Read (Node l f) k
unfolding turns goes_on production_of
turns_done rd n c plain l f k = rw (plain l (head k))

read_made : (c : Nonterminal) (n : ℕ) (ts : List Token) → 0 < n → ((l : Production) (h : Option TokenKind) → next c l h ≡ None) →
    read n c ts ≡ begun (read (n - 1)) (start c (head ts) (typed ts)) ts
unfolding read step first
read_made c zero ts h plain = absurd (omega arith)
read_made c (suc n) ts h plain =
    let e : suc n - 1 ≡ n = omega arith in
    rw e (then_done (read n) (start c (head ts) (typed ts)) ts (turns (read n) (suc n) c) (turns_done (read n) n c plain))

pub read-opt : (n : ℕ) (k : Optional) (ts : List Token) → 0 < n → at (begins_optional k) (head ts) ≡ true →
    read n (Opt k) ts ≡ begun (read (n - 1)) (Some (production.Present k)) ts
unfolding start next
read-opt n k ts h e =
    read_made (Opt k) n ts h (λ l j. refl) ∙ ap (λ (b : Bool). begun (read (n - 1)) (Some (if b then production.Present k else production.Absent k)) ts) e

pub read-absent : (n : ℕ) (k : Optional) (ts : List Token) → 0 < n → at (begins_optional k) (head ts) ≡ false →
    read n (Opt k) ts ≡ Read (node (production.Absent k) []) ts
unfolding start next begun children symbols_of rule
read-absent n k ts h e =
    read_made (Opt k) n ts h (λ l j. refl) ∙ ap (λ (b : Bool). begun (read (n - 1)) (Some (if b then production.Present k else production.Absent k)) ts) e

pub read-external : (n : ℕ) (ts : List Token) → 0 < n → read n External ts ≡ begun (read (n - 1)) (option_and_then external (head ts)) ts
unfolding start next
read-external n ts h = read_made External n ts h (λ l j. refl)

pub read-after_tag : (n : ℕ) (ts : List Token) → 0 < n → read n AfterTag ts ≡ begun (read (n - 1)) (start AfterTag (head ts) (typed ts)) ts
unfolding next
read-after_tag n ts h = read_made AfterTag n ts h (λ l j. refl)

pub read-after_type : (n : ℕ) (ts : List Token) → 0 < n → read n AfterType ts ≡ begun (read (n - 1)) (Some production.Declared) ts
unfolding start next
read-after_type n ts h = read_made AfterType n ts h (λ l j. refl)

pub read-function : (n : ℕ) (ts : List Token) → 0 < n → at (is (Mark m.LParen)) (head ts) ≡ true →
    read n AfterName ts ≡ begun (read (n - 1)) (Some production.Function) ts
unfolding start next
read-function n ts h e =
    read_made AfterName n ts h (λ l j. refl) ∙ ap (λ (b : Bool). begun (read (n - 1)) (Some (if b then production.Function else production.Globals)) ts) e

pub read-globals : (n : ℕ) (ts : List Token) → 0 < n → at (is (Mark m.LParen)) (head ts) ≡ false →
    read n AfterName ts ≡ begun (read (n - 1)) (Some production.Globals) ts
unfolding start next
read-globals n ts h e =
    read_made AfterName n ts h (λ l j. refl) ∙ ap (λ (b : Bool). begun (read (n - 1)) (Some (if b then production.Function else production.Globals)) ts) e

pub read-prototype : (n : ℕ) (ts : List Token) → 0 < n → at (is (Mark m.Semicolon)) (head ts) ≡ true →
    read n Body ts ≡ begun (read (n - 1)) (Some production.Prototype) ts
unfolding start next
read-prototype n ts h e =
    read_made Body n ts h (λ l j. refl) ∙ ap (λ (b : Bool). begun (read (n - 1)) (Some (if b then production.Prototype else production.Block)) ts) e

pub read-for : (n : ℕ) (ts : List Token) → 0 < n → at begins_type (head ts) ≡ false →
    read n ForFirst ts ≡ begun (read (n - 1)) (Some production.ForClause) ts
unfolding start next
read-for n ts h e =
    read_made ForFirst n ts h (λ l j. refl) ∙ ap (λ (b : Bool). begun (read (n - 1)) (Some (if b then production.Locals else production.ForClause)) ts) e

pub read-param : (n : ℕ) (ts : List Token) → 0 < n → read n Param ts ≡ begun (read (n - 1)) (Some production.Param) ts
unfolding start next
read-param n ts h = read_made Param n ts h (λ l j. refl)

pub read-block : (n : ℕ) (ts : List Token) → 0 < n → read n Block ts ≡ begun (read (n - 1)) (Some production.Block) ts
unfolding start next
read-block n ts h = read_made Block n ts h (λ l j. refl)

pub read-group : (n : ℕ) (ts : List Token) → 0 < n → read n Group ts ≡ begun (read (n - 1)) (Some production.Group) ts
unfolding start next
read-group n ts h = read_made Group n ts h (λ l j. refl)

pub read-production : (n : ℕ) (ts : List Token) → 0 < n → read n GroupLabel ts ≡ begun (read (n - 1)) (option_and_then group_label (head ts)) ts
unfolding start next
read-production n ts h = read_made GroupLabel n ts h (λ l j. refl)

pub read-members : (n : ℕ) (ts : List Token) → 0 < n → read n Members ts ≡ begun (read (n - 1)) (Some production.Members) ts
unfolding start next
read-members n ts h = read_made Members n ts h (λ l j. refl)

pub read-member : (n : ℕ) (ts : List Token) → 0 < n → read n Member ts ≡ begun (read (n - 1)) (Some production.Member) ts
unfolding start next
read-member n ts h = read_made Member n ts h (λ l j. refl)

pub read-locals : (n : ℕ) (ts : List Token) → 0 < n → read n Locals ts ≡ begun (read (n - 1)) (Some production.Locals) ts
unfolding start next
read-locals n ts h = read_made Locals n ts h (λ l j. refl)

pub ruleset plain_reads = (
  read-members,
  read-member,
  read-locals,
  read-opt,
  read-absent,
  read-external,
  read-after_tag,
  read-after_type,
  read-function,
  read-globals,
  read-prototype,
  read-for,
  read-param,
  read-block,
  read-group,
  read-production,
)
