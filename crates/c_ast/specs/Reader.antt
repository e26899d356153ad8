-- A reader over the grammar: what the tokens say from left to right, each production chosen by the tokens ahead.
use Rattle.std.specs.Prelude.{ℕ, zero, suc, if◌then◌else◌, List, [], ◌∷◌, drop, Option, Some, None}
use Rattle.c_lex.specs.declared.token.Token.{Token}
use Rattle.c_ast.specs.Nonterminals.{Nonterminal}
use Rattle.c_ast.specs.Productions.{Production}
use Rattle.c_ast.specs.Productions as production
use Rattle.c_ast.specs.Grammar.{Symbol, T, N, symbols_of}
use Rattle.c_ast.specs.Terminals.{Terminal, is}
use Rattle.c_ast.specs.Tree.{Tree, Leaf, Node, Nil, Cons}
use Rattle.c_ast.specs.PredictSets.{head, typed, start, next}

-- A tree and the tokens after it; the tokens from the first wrong one on; the bound of the nesting is passed.
pub data ReadResult : Type 0 where
  Read : Tree → List Token → ReadResult
  SyntaxError : List Token → ReadResult
  OutOfFuel : ReadResult

abbrev pub and_then : ReadResult → (Tree → List Token → ReadResult) → ReadResult
and_then (Read t ts) go = go t ts
and_then (SyntaxError ts) go = SyntaxError ts
and_then OutOfFuel go = OutOfFuel

unfoldable pub production_of : Tree → Production
production_of (Node l children) = l
production_of _ = production.Null

-- one terminal
unfoldable pub token : Terminal → List Token → ReadResult
token s [] = SyntaxError []
token s (x ∷ ts) = if is s x.kind then Read (Leaf x) ts else SyntaxError (x ∷ ts)

-- one symbol, where `rd` reads the nonterminals
unfoldable pub one : (Nonterminal → List Token → ReadResult) → Symbol → List Token → ReadResult
one rd (T s) ts = token s ts
one rd (N c) ts = rd c ts

-- a sequence of symbols
unfoldable pub children : (Nonterminal → List Token → ReadResult) → List Symbol → List Token → ReadResult
children rd [] ts = Read Nil ts
children rd (s ∷ symbols) ts = and_then (one rd s ts) (λ t k. and_then (children rd symbols k) (λ f j. Read (Cons t f) j))

-- a production
unfoldable pub begun : (Nonterminal → List Token → ReadResult) → Option Production → List Token → ReadResult
begun rd None ts = SyntaxError ts
begun rd (Some l) ts = and_then (children rd (symbols_of l) ts) (λ f k. Read (Node l f) k)

unfoldable pub first : (Nonterminal → List Token → ReadResult) → Nonterminal → List Token → ReadResult
first rd c ts = begun rd (start c (head ts) (typed ts)) ts

-- a production whose first child is the tree t
unfoldable pub later : (Nonterminal → List Token → ReadResult) → Production → Tree → List Token → ReadResult
later rd l t ts = and_then (children rd (drop 1 (symbols_of l)) ts) (λ f k. Read (Node l (Cons t f)) k)

unfoldable pub goes_on : (Nonterminal → List Token → ReadResult) → Option Production → Tree → List Token → (Tree → List Token → ReadResult) → ReadResult
goes_on rd None t ts go = Read t ts
goes_on rd (Some l) t ts go = and_then (later rd l t ts) go

-- after the tree t, while a production of the nonterminal goes on
unfoldable pub turns : (Nonterminal → List Token → ReadResult) → ℕ → Nonterminal → Tree → List Token → ReadResult
turns rd zero c t ts = OutOfFuel
turns rd (suc n) c t ts = goes_on rd (next c (production_of t) (head ts)) t ts (turns rd n c)

unfoldable pub step : ℕ → (Nonterminal → List Token → ReadResult) → Nonterminal → List Token → ReadResult
step n rd c ts = and_then (first rd c ts) (turns rd (suc n) c)

-- a tree of the nonterminal, nested at most n deep
unfoldable pub read : ℕ → Nonterminal → List Token → ReadResult
read zero c ts = OutOfFuel
read (suc n) c ts = step n (read n) c ts
