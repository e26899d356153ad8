-- Declarations in order, and the table that finds the latest of a name.
use Rattle.std.specs.Prelude.{◌≡◌, ℕ, cond, List, [], ◌∷◌, length, map, Option, None, Some}
use Rattle.c_check_scope.specs.Scopes.{Name, Scope, same_name}
use Rattle.c_check_scope.specs.declared.declarations.Declaration.{Declaration}

module _ {T : Type 0} where
  -- the index of the latest declaration of a name, counted from the first
  abbrev pub latest_index : Scope T → Name → Option ℕ
  latest_index [] name = None
  latest_index (d ∷ ds) name = cond (same_name name d.0) (Some (length ds)) (latest_index ds name)

  -- the declarations, the latest first
  abbrev pub declared_of : List (Declaration T) → Scope T
  declared_of ds = map (λ d. (d.name, d.meaning)) ds

  -- each declaration has the index of the one that it hides, if any; the latest is first
  abbrev pub HaveHidden : List (Declaration T) → Type 0
  HaveHidden [] = Unit {0}
  HaveHidden (d ∷ ds) = (d.hidden ≡ latest_index (declared_of ds) d.name) × HaveHidden ds

  -- the table gives the index of the latest declaration of each name
  abbrev pub IsLatest : (Name → Option ℕ) → List (Declaration T) → Type 0
  IsLatest table ds = ((name : Name) → table name ≡ latest_index (declared_of ds) name) × HaveHidden ds
