-- Laws of accepted sources.
use Rattle.std.specs.Prelude.{◌≡◌, ℕ, ◌^◌, ◌<◌, All, List, None, Ok}
use Rattle.c_lex.specs.Tokens.{lexed}
use Rattle.c_lex.specs.declared.token.Token.{Token}
use Rattle.c_ast.specs.Shape.{FollowsGrammar}
use Rattle.c_ast.specs.Spelling.{kinds, tokens_of}
use Rattle.c_ast.specs.Tree.{Tree}
use Rattle.c_typed.specs.Typed.{ProgramTree}
use Rattle.c_typed.specs.WellTyped.{IsWellTyped}
use Rattle.c_check_def.specs.Check.{check}
use Rattle.c_check_def.specs.CheckLaws.{IsInRange}
use Rattle.c_check_def.specs.Limits.{above_limits}
use Rattle.g_build_def.specs.Functions.{graph}
use Rattle.g_build_keeps.specs.Groups.{HasFewGroups}
use Rattle.g_build_keeps.specs.Laws.{HasMeaning, StartsAsProgram}

abbrev pub AreBytes : List ℕ → Type 0
AreBytes source = All (λ b. b < 2 ^ 8) source

-- The tokens of a source of bytes have words, and bytes.
abbrev pub TokensAreInRange : Type 0
TokensAreInRange = (source : List ℕ) → AreBytes source → (ts : List Token) → lexed source ≡ Ok ts → All IsInRange (kinds ts)

-- A program that is accepted from a source of bytes is well typed, and within the limits 1 to 4.
abbrev pub CheckedAreWellTyped : Type 0
CheckedAreWellTyped =
    (source : List ℕ) → AreBytes source → (ts : List Token) → lexed source ≡ Ok ts → (t : Tree) → FollowsGrammar t → tokens_of t ≡ ts →
    (n : ℕ) (p : ProgramTree) → check t n ≡ Ok p → IsWellTyped p × (above_limits p ≡ None)

-- A program that is accepted from a source of bytes has fewer than 2^32 groups in each `switch`.
abbrev pub CheckedHaveFewGroups : Type 0
CheckedHaveFewGroups =
    (source : List ℕ) → AreBytes source → (ts : List Token) → lexed source ≡ Ok ts → (t : Tree) → FollowsGrammar t → tokens_of t ≡ ts → (n : ℕ) (p : ProgramTree) → check t n ≡ Ok p → HasFewGroups p

-- The graph of a source of bytes that is accepted means what its program means, call for call and from the start.
abbrev pub AcceptedKeepMeaning : Type 0
AcceptedKeepMeaning =
    (source : List ℕ) → AreBytes source → (ts : List Token) → lexed source ≡ Ok ts → (t : Tree) → FollowsGrammar t → tokens_of t ≡ ts →
    (n : ℕ) (p : ProgramTree) → check t n ≡ Ok p → HasMeaning p (graph p) × StartsAsProgram p (graph p)
