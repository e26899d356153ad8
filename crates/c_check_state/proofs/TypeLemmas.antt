-- The types that stars and dimensions make.
use Rattle.std.proofs.Common.{◌≡◌, ℕ, zero, suc, List, [], ◌∷◌, map, drop, slice_get, None, Some, refl, ap}
use Rattle.std.specs.Option.{option_and_then}
use Rattle.std.specs.List.{list_any}
use Rattle.c_check_def.specs.declared.dimension.Dimension.{Dimension}
use Rattle.c_check_def.specs.State.{MaybeType}
use Rattle.c_check_def.specs.DeclaredTypes.{MaybeSize, array_by, arrays_of, sizes_of, size_of_dimension, is_empty, other_is_empty}

-- ---- arrays

-- of no type
pub arrays-none : (ns : List MaybeSize) → arrays_of None ns ≡ None
arrays-none [] = refl
arrays-none (n ∷ ns) = ap (option_and_then (array_by n)) (arrays-none ns)

none-of : (t : MaybeType) → option_and_then (array_by None) t ≡ None
none-of None = refl
none-of (Some t) = refl

-- a size that breaks a rule
pub arrays-broken : (t : MaybeType) (ns : List MaybeSize) (k : ℕ) → slice_get ns k ≡ Some None → arrays_of t ns ≡ None
arrays-broken t [] k h = cc
arrays-broken t (None ∷ ns) k h = none-of (arrays_of t ns)
arrays-broken t (Some n ∷ ns) zero h = cc
arrays-broken t (Some n ∷ ns) (suc k) h = ap (option_and_then (array_by (Some n))) (arrays-broken t ns k h)

-- ---- dimensions

pub sizes-map : (ds : List Dimension) → sizes_of ds ≡ map size_of_dimension ds
sizes-map [] = refl
sizes-map (d ∷ ds) = ap (λ ns. size_of_dimension d ∷ ns) (sizes-map ds)

pub other-drop : (ds : List Dimension) → other_is_empty ds ≡ list_any is_empty (drop 1 ds)
other-drop [] = refl
other-drop (d ∷ ds) = refl

pub ruleset of_none = (arrays-none)

pub ruleset sizes = (sizes-map)

pub ruleset other = (other-drop)
