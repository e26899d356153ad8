-- A list of declarations cut into scopes.
use Rattle.std.specs.Prelude.{◌≡◌, ℕ, ◌≤◌, List, [], ◌∷◌, length, take, drop}
use Rattle.c_check_scope.specs.Scopes.{Scope, Scopes}

module _ {T : Type 0} where
  -- the scopes of declarations, the latest first: the innermost has so many, and those around it have the other numbers
  abbrev pub scopes_of : Scope T → ℕ → List ℕ → Scopes T
  scopes_of ds count [] = take count ds ∷ []
  scopes_of ds count (n ∷ more) = take count ds ∷ scopes_of (drop count ds) n more

  -- these numbers cover the declarations exactly
  abbrev pub AreCounted : Scope T → ℕ → List ℕ → Type 0
  AreCounted ds count [] = length ds ≡ count
  AreCounted ds count (n ∷ more) = (count ≤ length ds) × AreCounted (drop count ds) n more
