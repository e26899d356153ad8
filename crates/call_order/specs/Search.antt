-- How far the search for units has come.
use Rattle.std.specs.Prelude.{◌≡◌, ℕ, ◌+◌, ◌<◌, ◌≤◌, ◌⊎◌, Bool, true, false, List, [], ◌∷◌, length, slice_index, slice_index_or, slice_set, count_by, take, drop, Contains}
use Rattle.call_order.specs.declared.stages.Stage.{Stage}
use Rattle.call_order.specs.declared.stages.Stage.TheVariants.{New, Held, Closed}
use Rattle.call_order.specs.declared.search.Group.{Group}
use Rattle.call_order.specs.declared.search.Search.{Search}
use Rattle.call_order.specs.Units.{Calls, Reaches, IsUnitOf, CallsOut}

abbrev pub is_new : Stage → Bool
is_new New = true
is_new (Held index) = false
is_new (Closed unit rank) = false

abbrev pub is_closed : Stage → Bool
is_closed New = false
is_closed (Held index) = false
is_closed (Closed unit rank) = true

-- the unit of a closed function
abbrev pub unit_in : Stage → ℕ
unit_in New = 0
unit_in (Held index) = 0
unit_in (Closed unit rank) = unit

-- the rank of a closed function
abbrev pub rank_in : Stage → ℕ
rank_in New = 0
rank_in (Held index) = 0
rank_in (Closed unit rank) = rank

-- the least rank above that of a closed function
abbrev pub above : Stage → ℕ
above New = 0
above (Held index) = 0
above (Closed unit rank) = rank + 1

-- the stage of a function
abbrev pub stage_of : List Stage → ℕ → Stage
stage_of stages j = slice_index_or stages j New

-- what is new afterwards was new before
abbrev pub StayEntered : List Stage → List Stage → Type 0
StayEntered old new = (j : ℕ) → stage_of new j ≡ New → stage_of old j ≡ New

-- each of these functions gets the stage
abbrev pub all_at : List Stage → List ℕ → Stage → List Stage
all_at stages [] stage = stages
all_at stages (j ∷ js) stage = all_at (slice_set stages j stage) js stage

-- no group begins above b and at or below a: then calls lead from a to b
abbrev pub NotSplit : List Group → ℕ → ℕ → Type 0
NotSplit groups b a = (t : ℕ) (d : Group) → t < length groups → b < (slice_index_or groups t d).members_from → a < (slice_index_or groups t d).members_from

-- a closed function has its unit and its rank, and calls closed functions alone
pub record IsClosedAs (calls : List (List ℕ)) (stages : List Stage) (j unit rank : ℕ) : Type 0 where
  pub unit_of : IsUnitOf calls j unit
  pub onward : (k : ℕ) → Calls calls j k → is_closed (stage_of stages k) ≡ true
  pub above : (k : ℕ) → CallsOut calls j k → rank_in (stage_of stages k) < rank
  pub tight : (rank ≡ 0) ⊎ ((k : ℕ) × CallsOut calls j k × (rank ≡ rank_in (stage_of stages k) + 1))
  pub small : rank < count_by is_closed stages

-- the call of k by the function at the index a is yet to be followed
pub record IsPending (members pending : List ℕ) (groups : List Group) (a k : ℕ) : Type 0 where
  pub index : ℕ
  pub inside : index < length pending
  pub called : slice_index pending index ≡ k
  pub grouped : (t : ℕ) (d : Group) → t < length groups → (slice_index_or groups t d).members_from ≤ a → (slice_index_or groups t d).pending_from ≤ index

-- k is held in the group of the function at the index a, or in a later one
pub record IsWithin (stages : List Stage) (groups : List Group) (a k : ℕ) : Type 0 where
  pub index : ℕ
  pub held : stage_of stages k ≡ Held index
  pub grouped : NotSplit groups index a

-- the function that has the pending call at this index
pub record HasCaller (calls : List (List ℕ)) (members pending : List ℕ) (groups : List Group) (index : ℕ) : Type 0 where
  pub caller : ℕ
  pub inside : caller < length members
  pub called : Calls calls (slice_index members caller) (slice_index pending index)
  pub from : (t : ℕ) (d : Group) → t < length groups → (slice_index_or groups t d).pending_from ≤ index → (slice_index_or groups t d).members_from ≤ caller
  pub back : (t : ℕ) (d : Group) → t < length groups → (slice_index_or groups t d).members_from ≤ caller → (slice_index_or groups t d).pending_from ≤ index

-- The functions that are held are in groups, one after another: all of a group call each other there and back,
-- and calls lead from each group to the next.
pub record IsSearch (calls : List (List ℕ)) (stages : List Stage) (members pending : List ℕ) (groups : List Group) : Type 0 where
  pub counted : length stages ≡ length calls
  pub held : (a : ℕ) → a < length members → stage_of stages (slice_index members a) ≡ Held a
  pub index : (j a : ℕ) → stage_of stages j ≡ Held a → (a < length members) × (slice_index members a ≡ j)
  pub joined : (a b : ℕ) → a < length members → b < length members → NotSplit groups b a → Reaches calls (slice_index members a) (slice_index members b)
  pub member_end : (t : ℕ) (d : Group) → t < length groups → (slice_index_or groups t d).members_from < length members
  pub pending_end : (t : ℕ) (d : Group) → t < length groups → (slice_index_or groups t d).pending_from ≤ length pending
  pub member_order : (t u : ℕ) (d : Group) → t < u → u < length groups → (slice_index_or groups t d).members_from < (slice_index_or groups u d).members_from
  pub pending_order : (t u : ℕ) (d : Group) → t ≤ u → u < length groups → (slice_index_or groups t d).pending_from ≤ (slice_index_or groups u d).pending_from
  pub first : (d : Group) → 0 < length groups → (slice_index_or groups 0 d).members_from ≡ 0
  pub empty : length groups ≡ 0 → length members ≡ 0
  pub callers : (index : ℕ) → index < length pending → HasCaller calls members pending groups index
  pub followed : (a k : ℕ) → a < length members → Calls calls (slice_index members a) k → (is_closed (stage_of stages k) ≡ true) ⊎ (IsPending members pending groups a k ⊎ IsWithin stages groups a k)
  pub closed : (j unit rank : ℕ) → stage_of stages j ≡ Closed unit rank → IsClosedAs calls stages j unit rank

-- the functions from an index on are closed, as a unit that calls closed functions alone
pub record ClosesFrom (calls : List (List ℕ)) (stages : List Stage) (members : List ℕ) (from : ℕ) (stages' : List Stage) (members' : List ℕ) : Type 0 where
  pub unit : ℕ
  pub rank : ℕ
  pub named : Contains (drop from members) unit
  pub least : (a : ℕ) → a < length (drop from members) → unit ≤ slice_index (drop from members) a
  pub ranks : (a k : ℕ) → a < length (drop from members) → Calls calls (slice_index (drop from members) a) k → above (stage_of stages k) ≤ rank
  pub tight : (rank ≡ 0) ⊎ ((a : ℕ) × (k : ℕ) × (a < length (drop from members)) × Calls calls (slice_index (drop from members) a) k × (rank ≡ above (stage_of stages k)))
  pub stages_are : stages' ≡ all_at stages (drop from members) (Closed unit rank)
  pub members_are : members' ≡ take from members

abbrev pub IsSearchOf : List (List ℕ) → Search → Type 0
IsSearchOf calls search = IsSearch calls search.stages.items search.members.items search.pending.items search.groups.items

-- how many functions are yet to be entered
abbrev pub new_count : Search → ℕ
new_count search = count_by is_new search.stages.items

-- how much of what was entered is yet to be done
abbrev pub work_left : Search → ℕ
work_left search = length search.pending.items + length search.groups.items
