-- Tags of structs, in the order in which they are first named (ISO/IEC 9899:2011, 6.7.2.3).
use Rattle.std.specs.Prelude.{ℕ, Bool, true, false, List, [], ◌∷◌, ◌++◌, Option, Some, None, is_some, if◌then◌else◌}
use Rattle.std.specs.List.{position_or_len}
use Rattle.std.specs.Map.{lookup, keys_of}
use Rattle.std.specs.Option.{unwrap_or}
use Rattle.indexmap.specs.IndexMap.{insert_entry}
use Rattle.c_check_scope.specs.Scopes.{Name, same_name}

-- each tag with whether it is declared
abbrev pub Tags : Type 0
Tags = List (Name × Bool)

-- the number of a tag, from 0; a new one gets the next number
abbrev pub tag_number : Tags → Name → ℕ
tag_number tags name = position_or_len (same_name name) (keys_of tags)

abbrev pub declared_tag : Tags → Name → Option ℕ
declared_tag tags name = if unwrap_or (lookup (same_name name) tags) false then Some (tag_number tags name) else None

-- the tags after one is named, which declares nothing
abbrev pub with_named_tag : Tags → Name → Tags
with_named_tag tags name = if is_some (lookup (same_name name) tags) then tags else tags ++ (name, false) ∷ []

-- the tags after one is declared
abbrev pub with_declared_tag : Tags → Name → Tags
with_declared_tag tags name = insert_entry same_name tags name true
