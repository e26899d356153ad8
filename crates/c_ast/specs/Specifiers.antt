-- Type specifiers as plain trees.
use Rattle.std.specs.Prelude.{List, [], ◌∷◌, Option}
use Rattle.c_lex.specs.declared.keyword.Keyword.{Keyword}
use Rattle.c_lex.specs.declared.keyword.Keyword.TheVariants as w
use Rattle.c_lex.specs.declared.punct.Punct.TheVariants as m
use Rattle.c_ast.specs.declared.specifier.Base.{Base}
use Rattle.c_ast.specs.declared.specifier.Base.TheVariants as base
use Rattle.c_ast.specs.declared.specifier.Sign.{Sign}
use Rattle.c_ast.specs.declared.specifier.Sign.TheVariants as sign
use Rattle.c_ast.specs.declared.specifier.Spec.{Spec}
use Rattle.c_ast.specs.declared.specifier.Spec.TheVariants as spec
use Rattle.c_ast.specs.declared.token.Span.{Span}
use Rattle.c_ast.specs.Productions as production
use Rattle.c_ast.specs.Tree.{Tree}
use Rattle.c_ast.specs.Nodes.{node, mark, word, name, many, opt}

-- `const`, where it is written
abbrev pub constant : Option Span → Tree
constant written = opt production.Constant (λ span. word w.Const span ∷ []) written

abbrev pub stars : List Span → Tree
stars spans = many production.Stars (λ span. mark m.Star span ∷ []) spans

abbrev pub base_tree : Base → Tree
base_tree (base.Char span) = node production.Char (word w.Char span ∷ [])
base_tree (base.Int span) = node production.Int (word w.Int span ∷ [])
base_tree (base.Short short int) =
    node production.Short (word w.Short short ∷ opt production.ShortInt (λ span. word w.Int span ∷ []) int ∷ [])

abbrev pub sign_word : Sign → Keyword
sign_word sign.Signed = w.Signed
sign_word sign.Unsigned = w.Unsigned

abbrev pub spec_tree : Spec → Tree
spec_tree (spec.Void span) = node production.Void (word w.Void span ∷ [])
spec_tree (spec.Plain b) = base_tree b
spec_tree (spec.Struct keyword tag) = node production.StructTag (word w.Struct keyword ∷ name tag ∷ [])
spec_tree (spec.Signed s span b) =
    node production.Signed (word (sign_word s) span ∷ opt production.SignedBase (λ x. base_tree x ∷ []) b ∷ [])
