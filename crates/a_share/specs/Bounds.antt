-- How the need of names is kept by bounds: each bound of a name changes whether the name is needed, at every number up to it. The
-- number of a position is one more than the position, so that 0 stands before all.
use Rattle.std.specs.Prelude.{◌≡◌, ℕ, ◌==◌, nat_lt, nat_le, Bool, true, false, not, ◌&&◌, List, [], ◌∷◌, length, slice_index_or, IsTrue}
use Rattle.g_graph.specs.WellFormed.{all_of}
use Rattle.a_place.specs.Places.{among}
use Rattle.a_place.specs.Share.{Names}

-- one of the two alone
abbrev pub differ : Bool → Bool → Bool
differ true b = not b
differ false b = b

-- an odd number of these pass
abbrev pub odd_of : (ℕ → Bool) → List ℕ → Bool
odd_of test [] = false
odd_of test (x ∷ xs) = differ (test x) (odd_of test xs)

-- the bounds of each name
abbrev pub Bounds : Type 0
Bounds = List (List ℕ)

abbrev pub bounds_of : Bounds → (name : ℕ) → List ℕ
bounds_of ts x = slice_index_or ts x []

-- a name is needed at a number
abbrev pub need_at : Bounds → (name number : ℕ) → Bool
need_at ts x k = odd_of (nat_le k) (bounds_of ts x)

-- what is needed before all bounds
abbrev pub needed_now : Bounds → Names
needed_now ts x = need_at ts x 0

abbrev pub has_bound : Bounds → (name bound : ℕ) → Bool
has_bound ts x b = among b (bounds_of ts x)

-- a name stands an odd number of times among these
abbrev pub is_odd_in : (name : ℕ) → List ℕ → Bool
is_odd_in x names = odd_of (λ y. y == x) names

-- a Bool, or the other one
abbrev pub is_as : (wanted : Bool) → Bool → Bool
is_as true b = b
is_as false b = not b

abbrev pub AreBelow : (count : ℕ) → List ℕ → Type 0
AreBelow n names = IsTrue (all_of (λ x. nat_lt x n) names)

-- each of these names gets a bound
pub record AreToggled (ts us : Bounds) (names : List ℕ) (bound : ℕ) : Type 0 where
  pub need : (x k : ℕ) → need_at us x k ≡ differ (need_at ts x k) (nat_le k bound && is_odd_in x names)
  pub size : length us ≡ length ts
  pub kept : (x b : ℕ) → IsTrue (has_bound ts x b) → IsTrue (has_bound us x b)
