-- What holds of the shared places of every function.
use Rattle.std.specs.Prelude.{◌≡◌, ◌≢◌, ◌<◌, ◌≤◌, ◌+◌, ℕ, nat_lt, false, List, [], ◌∷◌, IsTrue, slice_index}
use Rattle.g_graph.specs.WellFormed.{all_of}
use Rattle.s_linear.specs.Linear.{LinearFunction}
use Rattle.a_place.specs.Places.{among}
use Rattle.a_place.specs.Share.{Site, sites, all_names, clash_at, is_long_at, is_lost, counted_for, shared}

abbrev pub shared_place : LinearFunction → (name : ℕ) → ℕ
shared_place f x = slice_index (shared f).of x

-- Where one of two names is written and meets the other, they have different places, and a call loses no name that is needed after it.
pub record IsSafeAt (place : ℕ → ℕ) (s : Site) : Type 0 where
  pub apart : (x y : ℕ) → IsTrue (clash_at x y s) → place x ≢ place y
  pub kept : (x : ℕ) → IsTrue (is_long_at x s) → is_lost (place x) ≡ false

abbrev pub AreSafe : (place : ℕ → ℕ) → List Site → Type 0
AreSafe place [] = Unit {0}
AreSafe place (s ∷ ss) = IsSafeAt place s × AreSafe place ss

-- Shared places are safe at each instruction.
abbrev pub SharedSitesAreSafe : Type 0
SharedSitesAreSafe = (f : LinearFunction) → AreSafe (shared_place f) (sites f)

-- Parameters have different places.
abbrev pub SharedParamsDiffer : Type 0
SharedParamsDiffer = (f : LinearFunction) (x y : ℕ) → x < f.params → y < f.params → x ≢ y → shared_place f x ≢ shared_place f y

-- The saved registers and words are enough for the place of each name.
abbrev pub SharedPlacesAreCounted : Type 0
SharedPlacesAreCounted = (f : LinearFunction) (x : ℕ) → IsTrue (among x (all_names f)) → counted_for (shared_place f x) ≤ (shared f).count

-- Where all names are below a number, there are no more saved registers and words than it and 27.
abbrev pub SharedPlacesAreFew : Type 0
SharedPlacesAreFew = (n : ℕ) (f : LinearFunction) → IsTrue (all_of (λ x. nat_lt x n) (all_names f)) → (shared f).count ≤ n + 27
