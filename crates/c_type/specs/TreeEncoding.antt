-- A type is stored as its derivations, the outermost first, and what they begin with.
use Rattle.std.specs.Prelude.{◌≡◌, ℕ, ◌⊎◌, List, [], ◌∷◌, refl}
use mathlib.Core.Path.{ap}
use mathlib.Core.Logic.{inl, inr}
use base.Stored.{coded_unit}
use Rattle.std.specs.Coded.{Coded, code_by, coded×, coded⊎, coded_ℕ, coded_list}
use Rattle.c_type.specs.declared.scalar.Scalar.{Scalar}
use Rattle.c_type.specs.contracts.scalar.Scalar as scalar
use Rattle.c_type.specs.Trees.{TypeTree, void_type, scalar_type, pointer_to, array_of, struct_type}

-- a pointer, or an array of so many elements
abbrev Derivation : Type 0
Derivation = Unit {0} ⊎ ℕ

-- nothing, a scalar, or a struct's tag
abbrev Base : Type 0
Base = (Unit {0} ⊎ Scalar) ⊎ ℕ

abbrev Stored : Type 0
Stored = List Derivation × Base

abbrev derivations : TypeTree → List Derivation
derivations (pointer_to t) = inl tt ∷ derivations t
derivations (array_of t n) = inr n ∷ derivations t
derivations _ = []

abbrev base_of : TypeTree → Base
base_of void_type = inl (inl tt)
base_of (scalar_type s) = inl (inr s)
base_of (pointer_to t) = base_of t
base_of (array_of t n) = base_of t
base_of (struct_type k) = inr k

abbrev from_base : Base → TypeTree
from_base (inl (inl _)) = void_type
from_base (inl (inr s)) = scalar_type s
from_base (inr k) = struct_type k

abbrev from_stored : List Derivation → Base → TypeTree
from_stored [] b = from_base b
from_stored (inl _ ∷ ds) b = pointer_to (from_stored ds b)
from_stored (inr n ∷ ds) b = array_of (from_stored ds b) n

pub from_stored-back : (t : TypeTree) → from_stored (derivations t) (base_of t) ≡ t
from_stored-back void_type = refl
from_stored-back (scalar_type s) = refl
from_stored-back (pointer_to t) = ap pointer_to (from_stored-back t)
from_stored-back (array_of t n) = ap (λ x. array_of x n) (from_stored-back t)
from_stored-back (struct_type k) = refl

abbrev pub coded_tree : Coded TypeTree
coded_tree =
    code_by Stored (coded× (coded_list (coded⊎ coded_unit coded_ℕ)) (coded⊎ (coded⊎ coded_unit scalar.the_row.coded) coded_ℕ))
    (λ t. (derivations t, base_of t)) (λ p. from_stored p.0 p.1) from_stored-back
