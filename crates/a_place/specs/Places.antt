-- The places of names: a place is a register or a word of the frame. Each name in turn gets the least place that no earlier
-- name with an overlapping interval holds.
use Rattle.std.specs.Prelude.{ℕ, zero, suc, ◌==◌, nat_le, Bool, ◌&&◌, if◌then◌else◌, List, [], ◌∷◌, map, filter, max, length}
use Rattle.std.specs.List.{flat_map}
use Rattle.g_graph.specs.WellFormed.{some_of}
use Rattle.s_linear.specs.Frame.{PlainPlaces}
use Rattle.s_linear.specs.Lines.{Line, line_names}
use Rattle.val_core.specs.Numbers.{numbers_from}

-- x is one of these numbers
abbrev pub among : ℕ → List ℕ → Bool
among x xs = some_of (λ y. y == x) xs

abbrev pub occurs : (name : ℕ) → Line → Bool
occurs x line = among x (line_names line)

-- The interval of a name that occurs goes from the first to the last position in which it occurs. A label is a position too.
abbrev pub first : (name : ℕ) → List Line → ℕ
first x [] = 0
first x (line ∷ lines) = if occurs x line then 0 else suc (first x lines)

abbrev pub last : (name : ℕ) → List Line → ℕ
last x [] = 0
last x (line ∷ lines) = if some_of (occurs x) lines then suc (last x lines) else 0

-- two intervals, ends included, share a position
abbrev pub overlap : List Line → (x y : ℕ) → Bool
overlap lines x y = nat_le (first x lines) (last y lines) && nat_le (first y lines) (last x lines)

-- one more than the greatest of these names, or 0 where there is none
abbrev pub above : List ℕ → ℕ
above [] = 0
above (x ∷ xs) = max (suc x) (above xs)

abbrev pub name_count : List Line → ℕ
name_count [] = 0
name_count (line ∷ lines) = max (above (line_names line)) (name_count lines)

-- the names that start at a position, ascending
abbrev pub starting : List Line → (position : ℕ) → List ℕ
starting lines p = filter (λ x. first x lines == p) (numbers_from 0 (name_count lines))

-- the names that occur, in order of start, then of name
abbrev pub in_order : List Line → List ℕ
in_order lines = flat_map (starting lines) (numbers_from 0 (length lines))

pub record Given : Type 0 where
  pub name : ℕ
  pub place : ℕ

-- a place is held by an earlier name whose interval overlaps that of x
abbrev pub held : List Line → (x : ℕ) → (earlier : List Given) → (place : ℕ) → Bool
held lines x earlier p = some_of (λ g. (g.place == p) && overlap lines g.name x) earlier

-- the least number from `from` on that fails a test, or else `from + limit`
abbrev pub least : (test : ℕ → Bool) → (from limit : ℕ) → ℕ
least test from zero = from
least test from (suc n) = if test from then least test (suc from) n else from

-- one more than the greatest place, or 0 where there is none
abbrev pub count_of : List Given → ℕ
count_of [] = 0
count_of (g ∷ gs) = max (suc g.place) (count_of gs)

-- the least place for x; no name holds the count
abbrev pub place_for : List Line → (x : ℕ) → (earlier : List Given) → ℕ
place_for lines x earlier = least (held lines x earlier) 0 (count_of earlier)

-- the places of names in their order, after those given earlier; the latest first
abbrev pub given : List Line → (names : List ℕ) → (earlier : List Given) → List Given
given lines [] earlier = earlier
given lines (x ∷ xs) earlier = given lines xs (record { name = x; place = place_for lines x earlier } ∷ earlier)

-- the place of a name, and 0 for a name that does not occur
abbrev pub place_in : List Given → (name : ℕ) → ℕ
place_in [] x = 0
place_in (g ∷ gs) x = if g.name == x then g.place else place_in gs x

abbrev pub all_given : List Line → List Given
all_given lines = given lines (in_order lines) []

-- no place is a register that a call loses
abbrev pub places : List Line → PlainPlaces
places lines = record {
  of = map (place_in (all_given lines)) (numbers_from 0 (name_count lines));
  count = count_of (all_given lines);
  temporaries = 0;
}
