-- The members of a struct so far.
use Rattle.std.specs.Prelude.{◌≡◌, ℕ, ◌<◌, false, List, [], ◌∷◌, map, fold, length, None, Some}
use Rattle.c_type.specs.Layout.{Definitions, is_defined, IsLaidOut}
use Rattle.c_check_scope.specs.Scopes.{Name}
use Rattle.c_check_scope.specs.Names.{with_name}
use Rattle.c_check_def.specs.State.{MaybeType, State}
use Rattle.c_check_def.specs.Externals.{Member}

abbrev pub names_of : List Member → List Name
names_of xs = map (λ (x : Member). x.name) xs

-- the set of their names
abbrev pub name_set : List Member → List Name
name_set xs = fold with_name [] (names_of xs)

-- a type that is there is laid out
abbrev pub LaidIfSome : Definitions → MaybeType → Type 0
LaidIfSome defs None = Unit {0}
LaidIfSome defs (Some t) = IsLaidOut defs t

abbrev pub AllLaid : Definitions → List Member → Type 0
AllLaid defs [] = Unit {0}
AllLaid defs (x ∷ xs) = LaidIfSome defs x.type × AllLaid defs xs

-- What is known of the members of a struct before it is defined: where no rule is broken, the tag is new, and no two have one name.
pub record AreReady (s : State) (tag : ℕ) (xs : List Member) : Type 0 where
  pub laid_out : AllLaid s.structs xs
  pub some : 0 < length xs
  pub new : s.broken ≡ None → is_defined s.structs tag ≡ false
  pub distinct : s.broken ≡ None → name_set xs ≡ names_of xs
