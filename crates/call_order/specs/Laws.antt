-- Laws of units and ranks.
use Rattle.std.specs.Prelude.{◌≡◌, ◌≢◌, ℕ, ◌<◌, List, length, slice_index}
use Rattle.call_order.specs.Units.{Calls, AllKnown, IsMutual, IsUnits}

-- a function that is called from outside its unit has a smaller rank
abbrev pub CalleeRanksBelow : Type 0
CalleeRanksBelow =
    (calls : List (List ℕ)) (unit rank : List ℕ) → AllKnown calls → IsUnits calls unit rank
    → (j k : ℕ) → j < length calls → Calls calls j k → slice_index unit j ≢ slice_index unit k
    → slice_index rank k < slice_index rank j

-- functions are of one unit exactly where calls lead from one to the other and back
abbrev pub UnitsAreMutual : Type 0
UnitsAreMutual =
    (calls : List (List ℕ)) (unit rank : List ℕ) → IsUnits calls unit rank
    → (j k : ℕ) → j < length calls → k < length calls
    → (IsMutual calls j k → slice_index unit j ≡ slice_index unit k) × (slice_index unit j ≡ slice_index unit k → IsMutual calls j k)

-- there are no other units and ranks of the same calls
abbrev pub UnitsAreUnique : Type 0
UnitsAreUnique =
    (calls : List (List ℕ)) (unit rank unit' rank' : List ℕ) → AllKnown calls → IsUnits calls unit rank → IsUnits calls unit' rank'
    → (unit ≡ unit') × (rank ≡ rank')
