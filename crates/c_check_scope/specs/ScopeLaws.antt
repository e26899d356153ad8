-- Laws of scopes.
use Rattle.std.specs.Prelude.{◌≡◌, cond, [], ◌∷◌, Some}
use Rattle.c_check_scope.specs.Scopes.{Name, Scopes, same_name, meaning, with_declaration, outer}

abbrev pub DeclarationDecides : Type 0 → Type 0
DeclarationDecides T = (scopes : Scopes T) (name other : Name) (t : T) → meaning (with_declaration scopes name t) other ≡ cond (same_name other name) (Some t) (meaning scopes other)

abbrev pub DeclarationIsInner : Type 0 → Type 0
DeclarationIsInner T = (scopes : Scopes T) (name : Name) (t : T) → outer (with_declaration scopes name t) ≡ outer scopes

abbrev pub EnteredMeansTheSame : Type 0 → Type 0
EnteredMeansTheSame T = (scopes : Scopes T) (name : Name) → meaning ([] ∷ scopes) name ≡ meaning scopes name
