-- Where a broken rule is reported, and in which order globals stand.
use Rattle.std.specs.Prelude.{◌≡◌, ◌≤◌, ℕ, Contains, List, map, None, Some, Ok}
use Rattle.std.specs.List.Sorted.{IsStrictlyIncreasing}
use Rattle.c_lex.specs.Tokens.{lexed}
use Rattle.c_lex.specs.declared.token.Token.{Token}
use Rattle.c_ast.specs.Grammar.{Fits, One}
use Rattle.c_ast.specs.Nonterminals.{External}
use Rattle.c_ast.specs.Shape.{FollowsGrammar}
use Rattle.c_ast.specs.Spelling.{tokens_of}
use Rattle.c_ast.specs.Tree.{Tree}
use Rattle.c_typed.specs.Typed.{GlobalTree, ProgramTree}
use Rattle.c_check_def.specs.declared.refusal_kind.Broken.{Broken}
use Rattle.c_check_def.specs.State.{State}
use Rattle.c_check_def.specs.Externals.{external}
use Rattle.c_check_def.specs.Check.{externals, check}

-- an offset at which a token of the tree begins
abbrev pub IsPlaceIn : Tree → ℕ → Type 0
IsPlaceIn t offset = (x : Token) × Contains (tokens_of t) x × (offset ≡ x.at)

-- No token of the second tree begins before one of the first.
abbrev pub StandsBefore : Tree → Tree → Type 0
StandsBefore a b = (x y : Token) → Contains (tokens_of a) x → Contains (tokens_of b) y → x.at ≤ y.at

-- A declaration that breaks a rule, and the declarations of which one does, break it at one of their tokens.
pub record BreaksStandAtTokens : Type 0 where
  pub one : (t : Tree) (s : State) (b : Broken) → Fits (One External) t → s.broken ≡ None → (external t s).1.broken ≡ Some b → IsPlaceIn t b.offset
  pub all : (t : Tree) (s : State) (b : Broken) → FollowsGrammar t → s.broken ≡ None → (externals t s).1.broken ≡ Some b → IsPlaceIn t b.offset

-- A declaration after those of which one breaks a rule would break none at a lesser place, from whatever is known where
-- it begins.
abbrev pub LaterBreaksStandLater : Type 0
LaterBreaksStandLater =
    (before later : Tree) (s r : State) (b c : Broken) → FollowsGrammar before → Fits (One External) later → StandsBefore before later → s.broken ≡ None → r.broken ≡ None →
    (externals before s).1.broken ≡ Some b → (external later r).1.broken ≡ Some c → b.offset ≤ c.offset

-- The globals of an accepted source stand in order of place. A variable at file scope is declared once, and stands at its
-- name there; a string literal that is a global stands at its first token. Each stands after the one before it.
abbrev pub GlobalsStandInOrder : Type 0
GlobalsStandInOrder =
    (source : List ℕ) (ts : List Token) → lexed source ≡ Ok ts → (t : Tree) → FollowsGrammar t → tokens_of t ≡ ts → (n : ℕ) (p : ProgramTree) → check t n ≡ Ok p →
    IsStrictlyIncreasing (map (λ (g : GlobalTree). g.at) p.globals)
