-- Type specifiers (ISO/IEC 9899:2011, 6.7.2).
use Rattle.std.specs.Prelude.{ℕ, if◌then◌else◌, Option, None, Some}
use Rattle.c_lex.specs.declared.keyword.Keyword.TheVariants as w
use Rattle.c_lex.specs.declared.token.TokenKind.{TokenKind}
use Rattle.c_lex.specs.declared.token.TokenKind.TheVariants as kind
use Rattle.c_ast.specs.Productions as l
use Rattle.c_ast.specs.Tree.{Tree, Leaf, Node, Cons}
use Rattle.c_type.specs.declared.scalar.Scalar.{Scalar}
use Rattle.c_type.specs.declared.scalar.Scalar.TheVariants.{Char, SignedChar, UnsignedChar, Short, UnsignedShort, Int, UnsignedInt}
use Rattle.c_type.specs.Trees.{TypeTree, void_type, scalar_type, struct_type}
use Rattle.c_check_scope.specs.Scopes.{Name}
use Rattle.c_check_def.specs.State.{Elaborated, ◌>>=◌, pure, tag_of, is_tag}
use Rattle.c_check_def.specs.Leaves.{offset_of, name_of}

-- A type that is named: where it is a struct whose tag is not declared, also the offset of that.
pub record Specified : Type 0 where
  pub type : TypeTree
  pub undeclared : Option ℕ

abbrev pub known : TypeTree → Specified
known t = record { type = t; undeclared = None }

-- ---- integers

abbrev pub base_scalar : Tree → Scalar
base_scalar (Node l.Char children) = Char
base_scalar (Node l.Short children) = Short
base_scalar t = Int

abbrev pub signed_scalar : Scalar → Scalar
signed_scalar Char = SignedChar
signed_scalar s = s

abbrev pub unsigned_scalar : Scalar → Scalar
unsigned_scalar Char = UnsignedChar
unsigned_scalar Short = UnsignedShort
unsigned_scalar s = UnsignedInt

abbrev pub scalar_of_sign : TokenKind → Scalar → Scalar
scalar_of_sign (kind.Keyword w.Unsigned) s = unsigned_scalar s
scalar_of_sign k s = signed_scalar s

abbrev pub sign_scalar : (sign : Tree) → Scalar → Scalar
sign_scalar (Leaf x) s = scalar_of_sign x.kind s
sign_scalar t s = s

-- the base that follows a sign, `int` where there is none
abbrev pub signed_base : Tree → Scalar
signed_base (Node (l.Present k) (Cons base more)) = base_scalar base
signed_base t = Int

-- ---- structs

abbrev pub tagged : Name → (offset : ℕ) → Elaborated Specified
tagged name offset = do
  declared ← is_tag name
  tag ← tag_of name
  pure (record { type = struct_type tag; undeclared = if declared then None else Some offset })

abbrev pub specified_type : Tree → Elaborated Specified
specified_type (Node l.Void children) = pure (known void_type)
specified_type (Node l.Signed (Cons sign (Cons base more))) = pure (known (scalar_type (sign_scalar sign (signed_base base))))
specified_type (Node l.StructTag (Cons word (Cons tag more))) = tagged (name_of tag) (offset_of tag)
specified_type t = pure (known (scalar_type (base_scalar t)))
