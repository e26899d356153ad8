-- The index of uses as contracts see it: the origins that can be used, and the use that each cell holds.
use Rattle.std.specs.Prelude.{◌≡◌, ℕ, suc, ◌+◌, ◌&&◌, Bool, true, false, if◌then◌else◌, option_map, List, [], ◌∷◌, ◌++◌, length, replicate, take, drop, slice_index_or, slice_set}
use Rattle.std.specs.declared.option.Option.{Option}
use Rattle.std.specs.declared.option.Option.TheVariants.{Some, None}
use Rattle.std.specs.List.{list_any}
use Rattle.g_graph.specs.Scope.{same_origin}
use Rattle.g_arena_def.specs.Flat.{same_place}
use Rattle.g_arena_use.specs.declared.use_index.Use.{Use}

pub record UseCells : Type 0 where
  pub names : List Use
  pub cells : List (Option Use)

abbrev pub same_use : Use → Use → Bool
same_use u v = same_place u.home v.home && same_origin u.of v.of

-- a use is one of these, and these with it
abbrev pub is_named : Use → List Use → Bool
is_named u names = list_any (same_use u) names

abbrev pub IsNamed : Use → List Use → Type 0
IsNamed u names = is_named u names ≡ true

abbrev pub with_name : Use → List Use → List Use
with_name u names = if is_named u names then names else names ++ u ∷ []

-- the number of a use, counted from 0
abbrev pub number_of : Use → List Use → Option ℕ
number_of u [] = None
number_of u (v ∷ vs) = if same_use u v then Some 0 else option_map suc (number_of u vs)

abbrev pub is_use : Use → Option Use → Bool
is_use u None = false
is_use u (Some v) = same_use u v

-- so many cells that hold none
abbrev pub no_uses : List Use → (cells : ℕ) → UseCells
no_uses names n = record { names = names; cells = replicate n None }

-- how many cells hold a use, and the first of them
abbrev pub count_of : Use → List (Option Use) → ℕ
count_of u [] = 0
count_of u (x ∷ xs) = (if is_use u x then 1 else 0) + count_of u xs

abbrev pub first_of : Use → List (Option Use) → Option ℕ
first_of u [] = None
first_of u (x ∷ xs) = if is_use u x then Some 0 else option_map suc (first_of u xs)

abbrev pub cell_at : UseCells → ℕ → Option Use
cell_at s c = slice_index_or s.cells c None

abbrev pub with_use : UseCells → (cell : ℕ) → Option Use → UseCells
with_use s c u = record { names = s.names; cells = slice_set s.cells c u }

abbrev pub with_moved : UseCells → (from to : ℕ) → UseCells
with_moved s c d = record { names = s.names; cells = slice_set (slice_set s.cells d (cell_at s c)) c None }

-- from a cell on the cells hold these
abbrev pub written : (cell : ℕ) → (held cells : List (Option Use)) → List (Option Use)
written c us xs = take c xs ++ (us ++ drop (c + length us) xs)

abbrev pub with_written : UseCells → (cell : ℕ) → (held : List (Option Use)) → UseCells
with_written s c us = record { names = s.names; cells = written c us s.cells }

-- a cell gives up what it holds, so many cells behind it move on by one, and the last of them holds none
abbrev pub closed : (cell count : ℕ) → (cells : List (Option Use)) → List (Option Use)
closed c n xs = take c xs ++ (take n (drop (c + 1) xs) ++ (None ∷ drop n (drop (c + 1) xs)))

abbrev pub with_closed : UseCells → (cell count : ℕ) → UseCells
with_closed s c n = record { names = s.names; cells = closed c n s.cells }
