-- What lists of tokens say of trees: which begin a spelling, and from where on one is wrong.
use Rattle.std.specs.Prelude.{◌≡◌, List, [], ◌∷◌, ◌++◌}
use Rattle.c_lex.specs.declared.token.Token.{Token}
use Rattle.c_lex.specs.declared.token.TokenKind.{TokenKind}
use Rattle.c_ast.specs.Shape.{FollowsGrammar}
use Rattle.c_ast.specs.Spelling.{kinds, spell}
use Rattle.c_ast.specs.Tree.{Tree}

-- the spelling of some tree begins so
unfoldable pub Begins : List TokenKind → Type 0
Begins ks = (t : Tree) × (more : List TokenKind) × FollowsGrammar t × (spell t ≡ ks ++ more)

-- The tokens are wrong from `rest` on: some tree's spelling begins with what stands before, and none with the next token
-- too, if there is one. Where there is none, the tokens end too early. So no tree is spelled by all of them.
pub record WrongFrom (ts rest : List Token) : Type 0 where
  pub before : List Token
  pub split : ts ≡ before ++ rest
  pub begins : Begins (kinds before)
  pub none : (x : Token) (more : List Token) → rest ≡ x ∷ more → Begins (kinds (before ++ x ∷ [])) → ⊥
  pub short : (t : Tree) → FollowsGrammar t → spell t ≡ kinds ts → ⊥
