-- Laws of the checker.
use Rattle.std.specs.Prelude.{◌≡◌, ℕ, ◌^◌, ◌<◌, ◌≤◌, All, length, Ok}
use Rattle.base.specs.Limits.{most_tokens}
use Rattle.c_lex.specs.declared.token.TokenKind.{TokenKind}
use Rattle.c_lex.specs.declared.token.TokenKind.TheVariants as kind
use Rattle.c_ast.specs.Shape.{FollowsGrammar}
use Rattle.c_ast.specs.Spelling.{spell}
use Rattle.c_ast.specs.Tree.{Tree}
use Rattle.c_typed.specs.Typed.{ProgramTree}
use Rattle.c_typed.specs.WellTyped.{IsWellTyped}
use Rattle.c_check_def.specs.Check.{check}

-- A token of a source has a word, or bytes.
abbrev pub IsInRange : TokenKind → Type 0
IsInRange (kind.Number w unsigned) = w < 2 ^ 32
IsInRange (kind.Char c) = c < 2 ^ 8
IsInRange (kind.Text cs) = All (λ c. c < 2 ^ 8) cs
IsInRange k = Unit {0}

-- A program that is accepted is well typed.
abbrev pub AcceptedAreWellTyped : Type 0
AcceptedAreWellTyped =
    (t : Tree) → FollowsGrammar t → All IsInRange (spell t) → length (spell t) ≤ most_tokens → (n : ℕ) (p : ProgramTree) → check t n ≡ Ok p → IsWellTyped p
