-- A struct by the names and types of its members.
use Rattle.std.specs.Prelude.{ℕ, nat_le, not, Bool, List, [], ◌∷◌, ◌++◌, is_some, if◌then◌else◌}
use Rattle.base.specs.Limits.{most_type_bytes}
use Rattle.c_ast.specs.Externals.{members as members_tree}
use Rattle.c_ast.specs.Nodes.{many}
use Rattle.c_ast.specs.Productions as l
use Rattle.c_ast.specs.Tree.{Tree}
use Rattle.c_ast.specs.declared.external.Members.{Members}
use Rattle.c_type.specs.Trees.{TypeTree}
use Rattle.c_type.specs.Layout.{Definition, Definitions, is_defined}
use Rattle.c_type.specs.LaidUpTo.{struct_bytes}
use Rattle.c_check_scope.specs.Scopes.{Name}
use Rattle.c_check_scope.specs.Members.{with_members}
use Rattle.c_check_def.specs.declared.refusal_kind.RefusalKind.TheVariants.{Redeclared, BadType}
use Rattle.c_check_def.specs.State.{MaybeType, State, Elaborated, ◌>>=◌, ◌>>◌, pure, state, change, breaks_if}
use Rattle.c_check_def.specs.Externals.{Member, has_member, members, more_members, types_of, is_large_struct, defined, declare_tag}

-- whether a struct of these members has too many bytes
abbrev pub are_large : Definitions → List TypeTree → Bool
are_large defs ts = not (nat_le (struct_bytes defs ts) most_type_bytes)

abbrev pub with_names : Definition → List Name → State → State
with_names d names s = record s { structs = d ∷ s.structs; members = with_members s.members d.tag names }

abbrev pub struct_of : (tag offset : ℕ) → List Name → List TypeTree → Elaborated (Unit {0})
struct_of tag offset names ts = do
  s ← state
  breaks_if (is_large_struct s.structs (record { tag = tag; members = ts })) BadType offset
  change (λ s. if is_some s.broken then s else with_names (record { tag = tag; members = ts }) names s)

-- a member of this type, after others
abbrev pub member_typed : List Member → Name → (offset : ℕ) → MaybeType → Elaborated (List Member)
member_typed xs name offset t = do
  breaks_if (has_member xs name) Redeclared offset
  pure (xs ++ record { name = name; type = t } ∷ [])

-- ---- a struct whose members are given: from its tag on, and from its members on

abbrev pub members_trees : List Members → Tree
members_trees xs = many l.MoreMembers (λ x. members_tree x ∷ []) xs

abbrev pub struct_tagged : (tag offset : ℕ) → (first more : Tree) → Elaborated (Unit {0})
struct_tagged tag offset first more = do
  s ← state
  breaks_if (is_defined s.structs tag) Redeclared offset
  xs ← members [] first
  ys ← more_members xs more
  defined tag offset ys (types_of ys)

abbrev pub struct_with : Name → (offset : ℕ) → (first more : Tree) → Elaborated (Unit {0})
struct_with name offset first more = do
  tag ← declare_tag name
  struct_tagged tag offset first more
