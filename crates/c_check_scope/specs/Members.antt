-- The names of the members of structs.
use Rattle.std.specs.Prelude.{ℕ, nat_eq, List, Option}
use Rattle.std.specs.Map.{lookup}
use Rattle.std.specs.Option.{option_and_then}
use Rattle.indexmap.specs.IndexMap.{insert_entry}
use Rattle.c_check_scope.specs.Scopes.{Name}
use Rattle.c_check_scope.specs.Names.{number_of}

-- the number of a struct's tag with the names of its members, in order
abbrev pub Members : Type 0
Members = List (ℕ × List Name)

-- the number of a member of a struct, from 0
abbrev pub member_number : Members → ℕ → Name → Option ℕ
member_number members tag name = option_and_then (λ names. number_of names name) (lookup (nat_eq tag) members)

-- the members after a struct gets its own
abbrev pub with_members : Members → ℕ → List Name → Members
with_members members tag names = insert_entry nat_eq members tag names
