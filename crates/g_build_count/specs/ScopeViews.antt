-- Scopes: whether each variable in scope is an object, by slot, and how many scopes are linked. How the logic stores
-- them.
use Rattle.std.specs.Prelude.{ℕ, suc, ◌++◌, Bool, List, [], Option, None, Some, take, refl}
use Rattle.std.specs.Coded.{Coded, code_by, coded×, coded_ℕ, coded_bool, coded_list}

pub record PlainScope : Type 0 where
  pub objects : List Bool
  pub depth : ℕ

abbrev pub objects_around : Option PlainScope → List Bool
objects_around None = []
objects_around (Some s) = s.objects

abbrev pub depth_around : Option PlainScope → ℕ
depth_around None = 0
depth_around (Some s) = s.depth

abbrev pub seen_of : {X : Type 0} → (X → PlainScope) → Option X → Option PlainScope
seen_of f None = None
seen_of f (Some x) = Some (f x)

abbrev pub scope_of : Option PlainScope → (count : ℕ) → List Bool → PlainScope
scope_of around count newest = record { objects = objects_around around ++ take count newest; depth = suc (depth_around around) }

abbrev pub coded_scope : Coded PlainScope
coded_scope = code_by (List Bool × ℕ) (coded× (coded_list coded_bool) coded_ℕ) (λ s. (s.objects, s.depth)) (λ p. record { objects = p.0; depth = p.1 }) (λ _. refl)
