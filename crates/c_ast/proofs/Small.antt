-- What is left after a tree, or from a wrong token on, is no longer than what there was.
use Rattle.std.specs.Prelude.{ℕ, zero, suc, ◌≤◌, Bool, true, false, List, [], ◌∷◌, length, drop, Option, Some, None, if◌then◌else◌}
use Rattle.std.proofs.Common.{arith}
use Rattle.c_lex.specs.declared.token.Token.{Token}
use Rattle.c_ast.specs.Nonterminals.{Nonterminal}
use Rattle.c_ast.specs.Productions.{Production}
use Rattle.c_ast.specs.Terminals.{Terminal, is}
use Rattle.c_ast.specs.Tree.{Tree, Leaf, Node, Cons}
use Rattle.c_ast.specs.Grammar.{Symbol, T, N, symbols_of}
use Rattle.c_ast.specs.PredictSets.{head, typed, start, next}
use Rattle.c_ast.specs.Reader.{ReadResult, Read, SyntaxError, OutOfFuel, and_then, production_of, token, one, children, begun, first, later, goes_on, turns, step, read}

-- at most n tokens are left
abbrev pub Small : ℕ → ReadResult → Type 0
Small n (Read t k) = length k ≤ n
Small n (SyntaxError k) = length k ≤ n
Small n OutOfFuel = Unit {0}

abbrev pub SmallReader : (Nonterminal → List Token → ReadResult) → Type 0
SmallReader rd = (c : Nonterminal) (n : ℕ) (ts : List Token) → length ts ≤ n → Small n (rd c ts)

pub then_small : (n : ℕ) (o : ReadResult) (go : Tree → List Token → ReadResult) → Small n o → ((t : Tree) (k : List Token) → length k ≤ n → Small n (go t k)) → Small n (and_then o go)
then_small n (Read t k) go h g = g t k h
then_small n (SyntaxError k) go h g = h
then_small n OutOfFuel go h g = tt

leaf_small : (n : ℕ) (x : Token) (ts : List Token) (b : Bool) → length (x ∷ ts) ≤ n → Small n (if b then Read (Leaf x) ts else SyntaxError (x ∷ ts))
leaf_small n x ts true h = omega arith
leaf_small n x ts false h = h

token_small : (s : Terminal) (n : ℕ) (ts : List Token) → length ts ≤ n → Small n (token s ts)
unfolding token
token_small s n [] h = h
token_small s n (x ∷ ts) h = leaf_small n x ts (is s x.kind) h

pub parts_small : (rd : Nonterminal → List Token → ReadResult) → SmallReader rd → (symbols : List Symbol) (n : ℕ) (ts : List Token) → length ts ≤ n → Small n (children rd symbols ts)
unfolding children one
parts_small rd small [] n ts h = h
parts_small rd small (T s ∷ symbols) n ts h =
    then_small n (token s ts) (λ t k. and_then (children rd symbols k) (λ f j. Read (Cons t f) j)) (token_small s n ts h)
    (λ t k g. then_small n (children rd symbols k) (λ f j. Read (Cons t f) j) (parts_small rd small symbols n k g) (λ f j i. i))
parts_small rd small (N c ∷ symbols) n ts h =
    then_small n (rd c ts) (λ t k. and_then (children rd symbols k) (λ f j. Read (Cons t f) j)) (small c n ts h)
    (λ t k g. then_small n (children rd symbols k) (λ f j. Read (Cons t f) j) (parts_small rd small symbols n k g) (λ f j i. i))

pub begun_small : (rd : Nonterminal → List Token → ReadResult) → SmallReader rd → (o : Option Production) (n : ℕ) (ts : List Token) → length ts ≤ n → Small n (begun rd o ts)
unfolding begun
begun_small rd small None n ts h = h
begun_small rd small (Some l) n ts h =
    then_small n (children rd (symbols_of l) ts) (λ f k. Read (Node l f) k) (parts_small rd small (symbols_of l) n ts h) (λ f k g. g)

pub goes_on_small : (rd : Nonterminal → List Token → ReadResult) → SmallReader rd → (o : Option Production) (t : Tree) (n : ℕ) (ts : List Token) (go : Tree → List Token → ReadResult) →
    ((t : Tree) (k : List Token) → length k ≤ n → Small n (go t k)) → length ts ≤ n → Small n (goes_on rd o t ts go)
unfolding goes_on later
goes_on_small rd small None t n ts go g h = h
goes_on_small rd small (Some l) t n ts go g h =
    then_small n (later rd l t ts) go
    (then_small n (children rd (drop 1 (symbols_of l)) ts) (λ f k. Read (Node l (Cons t f)) k) (parts_small rd small (drop 1 (symbols_of l)) n ts h) (λ f k i. i)) g

pub turns_small : (rd : Nonterminal → List Token → ReadResult) → SmallReader rd → (m : ℕ) (c : Nonterminal) (n : ℕ) (t : Tree) (ts : List Token) → length ts ≤ n → Small n (turns rd m c t ts)
unfolding turns
turns_small rd small zero c n t ts h = tt
turns_small rd small (suc m) c n t ts h =
    goes_on_small rd small (next c (production_of t) (head ts)) t n ts (turns rd m c) (λ u k g. turns_small rd small m c n u k g) h

pub step_small : (rd : Nonterminal → List Token → ReadResult) → SmallReader rd → (m : ℕ) (c : Nonterminal) (n : ℕ) (ts : List Token) → length ts ≤ n → Small n (step m rd c ts)
unfolding step first
step_small rd small m c n ts h =
    then_small n (first rd c ts) (turns rd (suc m) c) (begun_small rd small (start c (head ts) (typed ts)) n ts h) (λ t k g. turns_small rd small (suc m) c n t k g)

pub read_small : (m : ℕ) → SmallReader (read m)
unfolding read
read_small zero c n ts h = tt
read_small (suc m) c n ts h = step_small (read m) (read_small m) m c n ts h
