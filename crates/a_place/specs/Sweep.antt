-- How far the sweep over the lines has come. It goes from position to position: the names that start there get their places,
-- and then the places of those that end there are free again.
use Rattle.std.specs.Prelude.{◌≡◌, ℕ, suc, ◌+◌, ◌==◌, ◌<◌, ◌≤◌, nat_lt, nat_le, Bool, true, false, not, ◌&&◌, if◌then◌else◌, List, [], ◌∷◌, map, length, slice_index, slice_index_or}
use Rattle.std.specs.BTreeSet.{contains}
use Rattle.std.specs.Ordering.{nat_cmp}
use Rattle.std.specs.List.{flat_map}
use Rattle.g_graph.specs.WellFormed.{some_of}
use Rattle.s_linear.specs.Lines.{Line}
use Rattle.val_core.specs.Numbers.{numbers_from}
use Rattle.a_place.specs.Places.{occurs, first, last, name_count, starting, Given, held, count_of, given, place_in}
use Rattle.a_place.specs.declared.spans.Span.{Span}
use Rattle.a_place.specs.declared.sweep.Sweep.{Sweep}

-- the interval of a name
abbrev pub span_of : List Line → (name : ℕ) → Span
span_of lines x = record { first = first x lines; last = last x lines }

-- the intervals of all names below the greatest
abbrev pub spans_of : List Line → List Span
spans_of lines = map (span_of lines) (numbers_from 0 (name_count lines))

-- an interval that begins at a position: it ends where it did, or there if it did not occur yet
abbrev pub begun : (position end : ℕ) → Span → Span
begun i end s = record { first = i; last = if s.first == end then i else s.last }

-- the interval of a name in the lines from a position on; `end` is how many lines there are in all
abbrev pub span_from : (position : ℕ) → List Line → (name : ℕ) → Span
span_from i lines x = record { first = i + first x lines; last = if some_of (occurs x) lines then i + last x lines else 0 }

-- a place is held by a name that does not end before a position
abbrev pub held_at : List Line → (position : ℕ) → List Given → (place : ℕ) → Bool
held_at lines i gs p = some_of (λ g. (g.place == p) && nat_le i (last g.name lines)) gs

-- a place is held by a name that ends at a position
abbrev pub ends_at : List Line → (position : ℕ) → List Given → (place : ℕ) → Bool
ends_at lines i gs p = some_of (λ g. (g.place == p) && (last g.name lines == i)) gs

-- each name starts at the position or before it
abbrev pub AllStarted : List Line → (position : ℕ) → List Given → Type 0
AllStarted lines i [] = Unit {0}
AllStarted lines i (g ∷ gs) = (first g.name lines ≤ i) × AllStarted lines i gs

-- no name got a place that an earlier one with an overlapping interval holds
abbrev pub AllFree : List Line → List Given → Type 0
AllFree lines [] = Unit {0}
AllFree lines (g ∷ gs) = (held lines g.name gs g.place ≡ false) × AllFree lines gs

-- what is given when the sweep comes to a position
abbrev pub given_before : List Line → (position : ℕ) → List Given
given_before lines i = given lines (flat_map (starting lines) (numbers_from 0 i)) []

-- The sweep at a position, where these places are given: a place below the count is free where no name holds it that ends at
-- the position or after it.
pub record IsSweepAt (lines : List Line) (i : ℕ) (gs : List Given) (s : Sweep) : Type 0 where
  pub of : s.of.items ≡ map (place_in gs) (numbers_from 0 (name_count lines))
  pub count : s.count ≡ count_of gs
  pub free : (p : ℕ) → contains nat_cmp s.free p ≡ (nat_lt p (count_of gs) && not (held_at lines i gs p))
  pub ends : (e p : ℕ) → some_of (λ q. q == p) (slice_index_or s.ends e []) ≡ ends_at lines e gs p
  pub all_started : AllStarted lines i gs
  pub all_free : AllFree lines gs

-- the least free place is taken
pub record TakesFree (old new : Sweep) (p : ℕ) : Type 0 where
  pub free : contains nat_cmp old.free p ≡ true
  pub least : (q : ℕ) → q < p → contains nat_cmp old.free q ≡ false
  pub count : new.count ≡ old.count

-- no place is free, and the next one is taken
pub record TakesNext (old new : Sweep) (p : ℕ) : Type 0 where
  pub none : (q : ℕ) → contains nat_cmp old.free q ≡ false
  pub next : p ≡ old.count
  pub count : new.count ≡ suc old.count

-- each of these names starts at a position, and does not end before
abbrev pub AllStartAt : List Line → (position : ℕ) → (names : List ℕ) → Type 0
AllStartAt lines i names = (k : ℕ) → k < length names → (first (slice_index names k) lines ≡ i) × (i ≤ last (slice_index names k) lines)
