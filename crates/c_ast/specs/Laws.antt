-- The laws of the grammar.
use Rattle.std.specs.Prelude.{◌≡◌, ◌⊎◌, ℕ, ◌+◌, ◌*◌, ◌≤◌, List, [], ◌∷◌, length}
use Rattle.c_lex.specs.declared.token.Token.{Token}
use Rattle.c_ast.specs.Nonterminals.{Many}
use Rattle.c_ast.specs.Productions.{Externals}
use Rattle.c_ast.specs.Shape.{FollowsGrammar}
use Rattle.c_ast.specs.Spelling.{tokens_of, spell, spans}
use Rattle.c_ast.specs.Tree.{Tree, Leaf, Node, Nil, Cons}
use Rattle.c_ast.specs.Beginnings.{WrongFrom}
use Rattle.c_ast.specs.Reader.{ReadResult, Read, SyntaxError, OutOfFuel, read}

-- the same tree with each token at the offset 0
unfoldable pub without_spans : Tree → Tree
without_spans (Leaf x) = Leaf (record { kind = x.kind; at = 0; end = 0 })
without_spans (Node l children) = Node l (without_spans children)
without_spans Nil = Nil
without_spans (Cons child children) = Cons (without_spans child) (without_spans children)

-- Two trees of one spelling differ at most in their spans.
abbrev pub OneTree : Type 0
OneTree =
    (a b : Tree) → FollowsGrammar a → FollowsGrammar b → spell a ≡ spell b → without_spans a ≡ without_spans b

-- They are equal where their spans are equal.
abbrev pub OneTreeAtSpans : Type 0
OneTreeAtSpans =
    (a b : Tree) → FollowsGrammar a → FollowsGrammar b → spell a ≡ spell b → spans a ≡ spans b → a ≡ b

-- A list of tokens is spelled by a tree with these spans, or is wrong from some token on.
abbrev pub TreeOrWrong : Type 0
TreeOrWrong =
    (ts : List Token) → ((t : Tree) × FollowsGrammar t × (tokens_of t ≡ ts)) ⊎ ((rest : List Token) × WrongFrom ts rest)

-- It is wrong from one token on alone.
abbrev pub OneToken : Type 0
OneToken = (ts a b : List Token) → WrongFrom ts a → WrongFrom ts b → a ≡ b

-- what the reader says of a list of tokens
abbrev pub Says : List Token → ReadResult → Type 0
Says ts (Read t []) =
    FollowsGrammar t × (tokens_of t ≡ ts) × ((u : Tree) → FollowsGrammar u → tokens_of u ≡ ts → u ≡ t)
Says ts (Read t (x ∷ rest)) = WrongFrom ts (x ∷ rest)
Says ts (SyntaxError rest) = WrongFrom ts rest
Says ts OutOfFuel = ⊥

-- The reader finds the tree of the tokens, or the token from which on they are wrong, where its bound is high enough.
abbrev pub ReaderIsExact : Type 0
ReaderIsExact = (n : ℕ) (ts : List Token) → 16 * length ts + 16 ≤ n → Says ts (read n (Many Externals) ts)
