-- The first token that is nested too deep.
use Rattle.std.specs.Prelude.{◌≡◌, ℕ, ◌<◌, ◌≤◌, List, [], ◌∷◌, ◌++◌}
use Rattle.base.specs.Limits.{most_nesting}
use Rattle.c_lex.specs.declared.token.Token.{Token}
use Rattle.c_ast.specs.Nesting.{depth}
use Rattle.c_ast.specs.Spelling.{kinds}

-- Up to a token the nesting is at most as deep as the language allows, and with it deeper. The token is at this offset.
pub record FirstTooDeep (ts : List Token) (offset : ℕ) : Type 0 where
  pub before : List Token
  pub token : Token
  pub rest : List Token
  pub split : ts ≡ before ++ token ∷ rest
  pub at : offset ≡ token.at
  pub shallow : depth (kinds before) ≤ most_nesting
  pub deep : most_nesting < depth (kinds (before ++ token ∷ []))
