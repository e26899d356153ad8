-- Sets of names, in the order in which they come.
use Rattle.std.specs.Prelude.{ℕ, Bool, List, [], ◌∷◌, ◌++◌, Option, if◌then◌else◌, position}
use Rattle.std.specs.List.{list_any}
use Rattle.c_check_scope.specs.Scopes.{Name, same_name}

abbrev pub has_name : List Name → Name → Bool
has_name names name = list_any (same_name name) names

-- the number of a name, from 0
abbrev pub number_of : List Name → Name → Option ℕ
number_of names name = position (same_name name) names

-- a new name goes last
abbrev pub with_name : List Name → Name → List Name
with_name names name = if has_name names name then names else names ++ name ∷ []
