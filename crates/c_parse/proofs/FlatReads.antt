-- A production as a chain of its symbols.
use Rattle.std.proofs.Common.{◌≡◌, List, [], ◌∷◌, Some, None, refl, ◌∙◌, drop}
use Rattle.c_lex.specs.declared.token.Token.{Token}
use Rattle.c_ast.specs.Nonterminals.{Nonterminal}
use Rattle.c_ast.specs.Grammar.{Symbol, symbols_of}
use Rattle.c_ast.specs.Productions.{Production}
use Rattle.c_ast.specs.Tree.{Tree, Node, Nil, Cons}
use Rattle.c_ast.specs.Reader.{ReadResult, Read, SyntaxError, and_then, one, children, begun, later}
use Rattle.c_parse_tokens.proofs.lemmas.Reads.{then-then}
use Rattle.c_parse_tokens.proofs.lemmas.SameNonterminal.{then_same}

-- a sequence of symbols, and what is made of their trees
abbrev pub row : (Nonterminal → List Token → ReadResult) → List Symbol → List Token → (Tree → List Token → ReadResult) → ReadResult
row rd [] ts go = go Nil ts
row rd (s ∷ symbols) ts go = and_then (one rd s ts) (λ t k. row rd symbols k (λ f j. go (Cons t f) j))

parts_row : (rd : Nonterminal → List Token → ReadResult) (symbols : List Symbol) (ts : List Token) (go : Tree → List Token → ReadResult) →
    and_then (children rd symbols ts) go ≡ row rd symbols ts go
unfolding children
parts_row rd [] ts go = refl
parts_row rd (s ∷ symbols) ts go =
    then-then (one rd s ts) (λ t k. and_then (children rd symbols k) (λ f j. Read (Cons t f) j)) go
    ∙ then_same (one rd s ts) _ _ (λ t k.
    then-then (children rd symbols k) (λ f j. Read (Cons t f) j) go ∙ parts_row rd symbols k (λ f j. go (Cons t f) j))

pub begun-row : (rd : Nonterminal → List Token → ReadResult) (l : Production) (ts : List Token) →
    begun rd (Some l) ts ≡ row rd (symbols_of l) ts (λ f k. Read (Node l f) k)
unfolding begun
begun-row rd l ts = parts_row rd (symbols_of l) ts (λ f k. Read (Node l f) k)

pub later-row : (rd : Nonterminal → List Token → ReadResult) (l : Production) (t : Tree) (ts : List Token) →
    later rd l t ts ≡ row rd (drop 1 (symbols_of l)) ts (λ f k. Read (Node l (Cons t f)) k)
unfolding later
later-row rd l t ts = parts_row rd (drop 1 (symbols_of l)) ts (λ f k. Read (Node l (Cons t f)) k)

pub begun-none : (rd : Nonterminal → List Token → ReadResult) (ts : List Token) → begun rd None ts ≡ SyntaxError ts
unfolding begun
begun-none rd ts = refl

pub ruleset rows = (begun-none, begun-row, later-row)
