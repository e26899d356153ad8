-- What holds of the places of every list of lines.
use Rattle.std.specs.Prelude.{ℕ, ◌≢◌, ◌<◌, ◌≤◌, List, IsTrue, slice_index}
use Rattle.g_graph.specs.WellFormed.{all_of, some_of}
use Rattle.s_linear.specs.Lines.{Line, names_below}
use Rattle.a_place.specs.Places.{occurs, first, last, places}

-- a name occurs, and its interval has a position
pub record IsAliveAt (lines : List Line) (name position : ℕ) : Type 0 where
  pub occurs_there : IsTrue (some_of (occurs name) lines)
  pub started : first name lines ≤ position
  pub not_ended : position ≤ last name lines

-- Names whose intervals share a position have different places.
abbrev pub OverlappingNamesDiffer : Type 0
OverlappingNamesDiffer =
    (lines : List Line) (x y i : ℕ) → x ≢ y → IsAliveAt lines x i → IsAliveAt lines y i
    → slice_index (places lines).of x ≢ slice_index (places lines).of y

-- There are no more places than there are numbers below which all names are.
abbrev pub PlacesAreFew : Type 0
PlacesAreFew = (n : ℕ) (lines : List Line) → IsTrue (all_of (names_below n) lines) → (places lines).count ≤ n

-- The place of each name that occurs is below the count.
abbrev pub PlacesAreBelowCount : Type 0
PlacesAreBelowCount = (lines : List Line) (x : ℕ) → IsTrue (some_of (occurs x) lines) → slice_index (places lines).of x < (places lines).count
