-- Units of functions that call each other, and their ranks. `calls` has a list for each function: the functions that
-- it calls. A function is named by its index.
use Rattle.std.specs.Prelude.{◌≡◌, ℕ, ◌+◌, ◌<◌, ◌≤◌, ◌⊎◌, List, [], ◌∷◌, length, map, slice_index, slice_index_or, Contains}
use Rattle.std.specs.declared.vec.Vec.{Vec}

-- the plain form of lists of calls
abbrev pub call_lists : {A : Type 0} → List (Vec ℕ A) → List (List ℕ)
call_lists calls = map (λ callees. callees.items) calls

-- j calls k
abbrev pub Calls : List (List ℕ) → ℕ → ℕ → Type 0
Calls calls j k = Contains (slice_index_or calls j []) k

-- each function that is called is one of the list
abbrev pub AllKnown : List (List ℕ) → Type 0
AllKnown calls = (j k : ℕ) → Calls calls j k → k < length calls

-- calls lead from j through these functions, one after another, to k
abbrev pub IsPath : List (List ℕ) → ℕ → List ℕ → ℕ → Type 0
IsPath calls j [] k = j ≡ k
IsPath calls j (next ∷ path) k = Calls calls j next × IsPath calls next path k

-- a path of calls leads from j to k
abbrev pub Reaches : List (List ℕ) → ℕ → ℕ → Type 0
Reaches calls j k = (path : List ℕ) × IsPath calls j path k

-- a path of calls leads there, and one back
abbrev pub IsMutual : List (List ℕ) → ℕ → ℕ → Type 0
IsMutual calls j k = Reaches calls j k × Reaches calls k j

-- a unit is named by its least function
pub record IsUnitOf (calls : List (List ℕ)) (j unit : ℕ) : Type 0 where
  pub within : IsMutual calls j unit
  pub least : (k : ℕ) → IsMutual calls j k → unit ≤ k

-- some function of the unit of j calls k, which is of another unit
pub record CallsOut (calls : List (List ℕ)) (j k : ℕ) : Type 0 where
  pub caller : ℕ
  pub within : IsMutual calls j caller
  pub called : Calls calls caller k
  pub outside : ¬ IsMutual calls j k

-- the rank of j is above those of the units that its unit calls, and no greater than that asks: 0 where there are none
pub record IsRankOf (calls : List (List ℕ)) (rank : ℕ → ℕ) (j : ℕ) : Type 0 where
  pub above : (k : ℕ) → CallsOut calls j k → rank k < rank j
  pub tight : (rank j ≡ 0) ⊎ ((k : ℕ) × CallsOut calls j k × (rank j ≡ rank k + 1))

-- the units and ranks of all functions
pub record IsUnits (calls : List (List ℕ)) (unit rank : List ℕ) : Type 0 where
  pub unit_length : length unit ≡ length calls
  pub rank_length : length rank ≡ length calls
  pub unit_of : (j : ℕ) → j < length calls → IsUnitOf calls j (slice_index unit j)
  pub rank_of : (j : ℕ) → j < length calls → IsRankOf calls (slice_index rank) j
