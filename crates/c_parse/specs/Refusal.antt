-- What the parser answers on the tokens of a text, and that the answer is determined.
use Rattle.std.specs.Prelude.{◌≡◌, ℕ, ◌≤◌, ⊤, List, Some, None, Result, Ok, Err}
use Rattle.base.specs.Limits.{most_nesting}
use Rattle.c_lex.specs.declared.token.Token.{Token}
use Rattle.c_ast.specs.declared.external.Unit as ast
use Rattle.c_ast.specs.Externals.{unit_tree}
use Rattle.c_ast.specs.Nesting.{depth}
use Rattle.c_ast.specs.Shape.{Shaped}
use Rattle.c_ast.specs.Spelling.{kinds, tokens_of}
use Rattle.c_ast.specs.Tree.{Tree}
use Rattle.c_ast.specs.Beginnings.{WrongFrom}
use Rattle.c_parse_tokens.specs.LeftOut.{first_left_out}
use Rattle.c_parse_tokens.specs.Reading.{offset_of}
use Rattle.c_parse_tokens.specs.TooDeep.{FirstTooDeep}
use Rattle.c_parse.specs.declared.fault.ParseFault.{ParseFault}
use Rattle.c_parse.specs.declared.fault.ParseFault.TheVariants as fault

-- The tokens begin a program up to one that no program goes on with, or end before a program does. The offset is that of
-- the token, or the end of the text.
pub record WrongAt (ts : List Token) (length offset : ℕ) : Type 0 where
  pub rest : List Token
  pub wrong : WrongFrom ts rest
  pub at : offset ≡ offset_of rest length

-- the one shaped tree that spells these tokens, with their spans
pub record IsTreeOf (ts : List Token) (t : Tree) : Type 0 where
  pub shaped : Shaped t
  pub spells : tokens_of t ≡ ts
  pub only : (u : Tree) → Shaped u → tokens_of u ≡ ts → u ≡ t

-- The answer on the tokens of a text of this length: the first of the three faults that there is, or the tree. Out of
-- memory may come in place of any answer.
abbrev pub Answers : List Token → ℕ → Result ast.Unit ParseFault → Type 0
Answers ts length (Err (fault.LeftOut offset)) = first_left_out ts ≡ Some offset
Answers ts length (Err (fault.TooDeep offset)) = (first_left_out ts ≡ None) × FirstTooDeep ts offset
Answers ts length (Err (fault.Syntax offset)) =
    (first_left_out ts ≡ None) × (depth (kinds ts) ≤ most_nesting) × WrongAt ts length offset
Answers ts length (Err fault.NoMemory) = ⊤
Answers ts length (Ok unit) = (first_left_out ts ≡ None) × IsTreeOf ts (unit_tree unit)

-- ---- laws

-- unless memory ran out, the same fault or trees of one view
abbrev pub Agree : Result ast.Unit ParseFault → Result ast.Unit ParseFault → Type 0
Agree (Err fault.NoMemory) s = ⊤
Agree r (Err fault.NoMemory) = ⊤
Agree (Err e) (Err f) = e ≡ f
Agree (Ok u) (Ok v) = unit_tree u ≡ unit_tree v
Agree r s = ⊥

-- There is one answer.
abbrev pub OneAnswer : Type 0
OneAnswer =
    (ts : List Token) (length : ℕ) (r s : Result ast.Unit ParseFault) → Answers ts length r → Answers ts length s → Agree r s

abbrev pub Accepts : Tree → Result ast.Unit ParseFault → Type 0
Accepts t (Ok unit) = unit_tree unit ≡ t
Accepts t (Err fault.NoMemory) = ⊤
Accepts t (Err e) = ⊥

-- On what a shaped tree spells the answer is that tree.
abbrev pub ShapedIsAccepted : Type 0
ShapedIsAccepted =
    (t : Tree) (length : ℕ) (r : Result ast.Unit ParseFault) → Shaped t → Answers (tokens_of t) length r → Accepts t r
