-- Laws of the names in what the checker accepts.
use Rattle.std.specs.Prelude.{◌≡◌, ℕ, ◌≤◌, All, List, length, Ok}
use Rattle.std.specs.List.{AllByRecursion}
use Rattle.base.specs.Limits.{most_name_bytes}
use Rattle.c_lex.specs.Grammar.{IsIdentifier}
use Rattle.c_lex.specs.Tokens.{lexed}
use Rattle.c_lex.specs.declared.token.Token.{Token}
use Rattle.c_ast.specs.Shape.{FollowsGrammar}
use Rattle.c_ast.specs.Spelling.{kinds, tokens_of}
use Rattle.c_ast.specs.Tree.{Tree}
use Rattle.c_typed.specs.Typed.{FunctionTree, ProgramTree}
use Rattle.c_check_def.specs.Check.{check}
use Rattle.c_check_def.specs.CheckLaws.{IsInRange}

-- an identifier that is not too long
abbrev pub IsName : List ℕ → Type 0
IsName bytes = IsIdentifier bytes × (length bytes ≤ most_name_bytes)

-- Each function of a program that is accepted, from a source whose tokens are in range, has such a name.
abbrev pub FunctionsHaveNames : Type 0
FunctionsHaveNames =
    (source : List ℕ) (ts : List Token) → lexed source ≡ Ok ts → All IsInRange (kinds ts) → (t : Tree) → FollowsGrammar t → tokens_of t ≡ ts →
    (n : ℕ) (p : ProgramTree) → check t n ≡ Ok p → AllByRecursion (λ (f : FunctionTree). IsName f.name) p.functions
