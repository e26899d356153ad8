-- What the lines say of each name: where it is written, its depth, and the moves from and to it.
use Rattle.std.specs.Prelude.{ℕ, zero, suc, ◌+◌, ◌==◌, nat_lt, max, Bool, false, if◌then◌else◌, List, [], ◌∷◌, ◌++◌, Option, Some, None, slice_index_or, length, take}
use Rattle.std.specs.List.{flat_map}
use Rattle.g_graph.specs.WellFormed.{some_of}
use Rattle.s_linear.specs.Linear.{move}
use Rattle.s_linear.specs.Lines.{Line, enter, done, label}
use Rattle.a_place.specs.Places.{occurs}
use Rattle.a_place.specs.Share.{writes, is_call}
use Rattle.a_share.specs.Walk.{count_if}
use Rattle.a_share.specs.declared.walk.Segment.{Segment}

abbrev pub does_write : (name : ℕ) → Line → Bool
does_write x (done i) = writes i x
does_write x l = false

abbrev pub does_call : Line → Bool
does_call (done i) = is_call i
does_call l = false

-- the positions, from `at` on, of the lines that pass
abbrev pub positions : (test : Line → Bool) → (at : ℕ) → List Line → List ℕ
positions test i [] = []
positions test i (l ∷ ls) = (if test l then i ∷ [] else []) ++ positions test (suc i) ls

-- ---- depths

abbrev pub deeper : Option ℕ → Option ℕ → Option ℕ
deeper None o = o
deeper (Some d) None = Some d
deeper (Some d) (Some e) = Some (max d e)

-- the greatest depth at which a name stands
abbrev pub depth_in : (name : ℕ) → List Line → (depths : List ℕ) → Option ℕ
depth_in x [] ds = None
depth_in x (l ∷ ls) [] = None
depth_in x (l ∷ ls) (d ∷ ds) = deeper (if occurs x l then Some d else None) (depth_in x ls ds)

abbrev pub has_depth : (depth : ℕ) → Option ℕ → Bool
has_depth d None = false
has_depth d (Some e) = e == d

-- the places, from `at` on, of the depths that are d
abbrev pub at_depth : (d at : ℕ) → List (Option ℕ) → List ℕ
at_depth d i [] = []
at_depth d i (o ∷ os) = (if has_depth d o then i ∷ [] else []) ++ at_depth d (suc i) os

-- one more than the greatest depth
abbrev pub levels : List (Option ℕ) → ℕ
levels [] = 0
levels (None ∷ os) = levels os
levels (Some d ∷ os) = max (suc d) (levels os)

-- the numbers below n, the greatest first
abbrev pub down : (n : ℕ) → List ℕ
down zero = []
down (suc n) = n ∷ down n

-- the places of depths, in order of depth, the greatest first, then of place
abbrev pub by_depth : List (Option ℕ) → List ℕ
by_depth os = flat_map (λ d. at_depth d 0 os) (down (levels os))

-- ---- moves

-- the other name of a move from or to a name
abbrev pub ends_of : (name : ℕ) → Line → List ℕ
ends_of x (done (move t a)) = (if t == x then a ∷ [] else []) ++ (if a == x then t ∷ [] else [])
ends_of x l = []

abbrev pub move_depth : Line → (depth : ℕ) → Option ℕ
move_depth (done (move t a)) d = Some d
move_depth l d = None

-- the depths of the moves
abbrev pub move_depths : List Line → (depths : List ℕ) → List (Option ℕ)
move_depths [] ds = []
move_depths (l ∷ ls) [] = []
move_depths (l ∷ ls) (d ∷ ds) = move_depth l d ∷ move_depths ls ds

abbrev pub line_at : List Line → (position : ℕ) → Line
line_at ls i = slice_index_or ls i (label 0)

abbrev pub partners_in : (name : ℕ) → List Line → (depths : List ℕ) → List ℕ
partners_in x ls ds = flat_map (λ i. ends_of x (line_at ls i)) (by_depth (move_depths ls ds))

-- the other names of the moves that are chosen
abbrev pub copied_in : (name : ℕ) → List Line → (chosen : List Bool) → List ℕ
copied_in x [] cs = []
copied_in x (l ∷ ls) [] = []
copied_in x (l ∷ ls) (c ∷ cs) = (if c then ends_of x l else []) ++ copied_in x ls cs

-- ---- calls

abbrev pub calls_before : List Line → (position : ℕ) → ℕ
calls_before ls i = count_if does_call (take i ls)

-- the first position of a segment, or the next one where the name is written there
abbrev pub start_of : (name : ℕ) → List Line → (first : ℕ) → ℕ
start_of x ls first = if does_write x (line_at ls first) then first + 1 else first

-- a call stands in a segment, but for one that writes the name where the segment begins
abbrev pub has_call_in : (name : ℕ) → List Line → Segment → Bool
has_call_in x ls s = nat_lt (calls_before ls (start_of x ls s.first)) (calls_before ls (s.last + 1))

abbrev pub is_long_in : (name : ℕ) → List Line → List Segment → Bool
is_long_in x ls ss = some_of (has_call_in x ls) ss

abbrev pub param_count : List Line → ℕ
param_count (enter xs ∷ ls) = length xs
param_count ls = 0
