-- Declarations at file scope as plain trees.
use Rattle.std.specs.Prelude.{◌≡◌, List, [], ◌∷◌, Option, Some, None}
use Rattle.c_lex.specs.declared.keyword.Keyword.TheVariants as w
use Rattle.c_lex.specs.declared.punct.Punct.TheVariants as m
use Rattle.c_ast.specs.declared.external.Body.{Body}
use Rattle.c_ast.specs.declared.external.Body.TheVariants as body
use Rattle.c_ast.specs.declared.external.External.{External}
use Rattle.c_ast.specs.declared.external.External.TheVariants as external
use Rattle.c_ast.specs.declared.external.Function.{Function}
use Rattle.c_ast.specs.declared.external.Globals.{Globals}
use Rattle.c_ast.specs.declared.external.Member.{Member}
use Rattle.c_ast.specs.declared.external.Members.{Members}
use Rattle.c_ast.specs.declared.external.Param.{Param}
use Rattle.c_ast.specs.declared.external.Params.{Params}
use Rattle.c_ast.specs.declared.external.Specifiers.{Specifiers}
use Rattle.c_ast.specs.declared.external.StructBody.{StructBody}
use Rattle.c_ast.specs.declared.external.Unit.{Unit}
use Rattle.c_ast.specs.declared.list.Next.{Next}
use Rattle.c_ast.specs.declared.specifier.Spec.{Spec}
use Rattle.c_ast.specs.declared.specifier.Spec.TheVariants as spec
use Rattle.c_ast.specs.declared.token.Span.{Span}
use Rattle.c_ast.specs.Productions as l
use Rattle.c_ast.specs.Tree.{Tree}
use Rattle.c_ast.specs.Nodes.{node, mark, word, name, many, opt}
use Rattle.c_ast.specs.Specifiers.{spec_tree, constant, stars}
use Rattle.c_ast.specs.Expressions.{next, dimensions}
use Rattle.c_ast.specs.Declarations.{more_declarators, open_dimensions, initializer}
use Rattle.c_ast.specs.Statements.{block_tree}

unfoldable pub member : Member → Tree
member x = node l.Member (stars x.stars ∷ name x.name ∷ dimensions x.dimensions ∷ [])

abbrev pub more_members : List (Next Member) → Tree
more_members xs = many l.MoreMember (next member) xs

unfoldable pub members : Members → Tree
members x =
    node l.Members (constant x.qualifier ∷ spec_tree x.spec ∷ member x.first ∷ more_members x.more ∷ mark m.Semicolon x.semicolon ∷ [])

-- what stands after `struct name`
abbrev pub struct_rest : Option StructBody → Span → Tree
struct_rest None semicolon = node l.StructName (mark m.Semicolon semicolon ∷ [])
struct_rest (Some x) semicolon =
    node l.StructMembers (mark m.LBrace x.open ∷ members x.first ∷ many l.MoreMembers (λ y. members y ∷ []) x.more ∷ mark m.RBrace x.close ∷ mark m.Semicolon semicolon ∷ [])

unfoldable pub param : Param → Tree
param x =
    node l.Param (constant x.qualifier ∷ spec_tree x.spec ∷ stars x.stars ∷ opt l.ParamName (λ i. name i ∷ []) x.name ∷ open_dimensions x.dimensions ∷ [])

-- The parameters `(void)`: a lone `void` without a name, which means that there are none (ISO 9899:2011, 6.7.6.3,
-- paragraph 10).
abbrev pub AreNone : Params → Type 0
AreNone p =
    (span : Span) × (p ≡ record { first = record { qualifier = None; spec = spec.Void span; stars = []; name = None; dimensions = [] }; more = [] })

abbrev pub params : Option Params → Tree
params x = opt l.Params (λ p. param p.first ∷ many l.MoreParams (next param) p.more ∷ []) x

unfoldable pub body_tree : Body → Tree
body_tree (body.Prototype semicolon) = node l.Prototype (mark m.Semicolon semicolon ∷ [])
body_tree (body.Block x) = block_tree x

-- A declaration by what it begins with, where `rest` stands after the type. A structure without `static` and `const`
-- has a production of its own, since its definition begins with the same tokens.
abbrev pub plain_with : Spec → Tree → Tree
plain_with (spec.Struct keyword tag) rest = node l.Struct (word w.Struct keyword ∷ name tag ∷ rest ∷ [])
plain_with x rest = node l.Plain (spec_tree x ∷ rest ∷ [])

abbrev pub unstored_with : Option Span → Spec → Tree → Tree
unstored_with None x rest = plain_with x rest
unstored_with (Some qualifier) x rest = node l.Const (word w.Const qualifier ∷ spec_tree x ∷ rest ∷ [])

abbrev pub declared_with : Option Span → Option Span → Spec → Tree → Tree
declared_with None qualifier x rest = unstored_with qualifier x rest
declared_with (Some storage) qualifier x rest =
    node l.Static (word w.Static storage ∷ constant qualifier ∷ spec_tree x ∷ rest ∷ [])

unfoldable pub specified : Specifiers → Tree → Tree
specified x rest = declared_with x.storage x.qualifier x.spec rest

-- what stands after the name of a function, and of variables
abbrev pub function_rest : Function → Tree
function_rest x = node l.Function (mark m.LParen x.open ∷ params x.params ∷ mark m.RParen x.close ∷ body_tree x.body ∷ [])

abbrev pub globals_rest : Globals → Tree
globals_rest x =
    node l.Globals (open_dimensions x.first.dimensions ∷ initializer x.first.initializer ∷ more_declarators x.more ∷ mark m.Semicolon x.semicolon ∷ [])

unfoldable pub external_tree : External → Tree
external_tree (external.Struct x) =
    node l.Struct (word w.Struct x.keyword ∷ name x.tag ∷ struct_rest x.body x.semicolon ∷ [])
external_tree (external.Function x) =
    specified x.specifiers (node l.Declared (stars x.stars ∷ name x.name ∷ function_rest x ∷ []))
external_tree (external.Globals x) =
    specified x.specifiers (node l.Declared (stars x.first.stars ∷ name x.first.name ∷ globals_rest x ∷ []))

abbrev pub unit_tree : Unit → Tree
unit_tree x = many l.Externals (λ y. external_tree y ∷ []) x.externals
