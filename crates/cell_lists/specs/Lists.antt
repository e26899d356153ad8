-- Lists of cells as contracts see them: what is asked of a list, and how a cell comes and goes.
use Rattle.std.specs.Prelude.{◌≡◌, ◌==◌, ℕ, ◌+◌, Bool, true, false, nat_lt, if◌then◌else◌, Option, Some, None, List, [], ◌∷◌, ◌++◌, map, replicate, slice_index_or, slice_set}
use Rattle.std.specs.List.{list_any}

-- the number of cells, and for each list its cells in order
pub record Lists : Type 0 where
  pub cells : ℕ
  pub lists : List (List ℕ)

-- so many empty lists over so many cells
abbrev pub no_cells : (lists cells : ℕ) → Lists
no_cells lists cells = record { cells = cells; lists = replicate lists [] }

-- the list of a number
abbrev pub list_at : Lists → ℕ → List ℕ
list_at s k = slice_index_or s.lists k []

-- whether a cell is in a list
abbrev pub is_in : ℕ → List ℕ → Bool
is_in c xs = list_any (λ x. c == x) xs

-- a cell is in no list
abbrev pub IsFree : ℕ → Lists → Type 0
IsFree c s = (k : ℕ) → is_in c (list_at s k) ≡ false

-- a cell is in a list
abbrev pub IsListed : ℕ → Lists → Type 0
IsListed c s = (k : ℕ) × (is_in c (list_at s k) ≡ true)

-- no cell stands twice
abbrev pub AreDistinct : List ℕ → Type 0
AreDistinct [] = Unit {0}
AreDistinct (x ∷ xs) = (is_in x xs ≡ false) × AreDistinct xs

-- the first of a list, or what stands behind it
abbrev pub first_or : Option ℕ → List ℕ → Option ℕ
first_or after [] = after
first_or after (x ∷ xs) = Some x

-- the last of a list, or what stands before it
abbrev pub last_or : Option ℕ → List ℕ → Option ℕ
last_or before [] = before
last_or before (x ∷ xs) = last_or (Some x) xs

-- what stands before a cell in a list, which itself stands behind `before`
abbrev pub before_in : Option ℕ → ℕ → List ℕ → Option ℕ
before_in before c [] = None
before_in before c (x ∷ xs) = if c == x then before else before_in (Some x) c xs

-- what stands after a cell in a list
abbrev pub after_in : ℕ → List ℕ → Option ℕ
after_in c [] = None
after_in c (x ∷ xs) = if c == x then first_or None xs else after_in c xs

-- a list without a cell
abbrev pub without : ℕ → List ℕ → List ℕ
without c [] = []
without c (x ∷ xs) = if c == x then xs else x ∷ without c xs

-- 1 where the second of two neighbours is less than the first
abbrev pub fall : Option ℕ → Option ℕ → ℕ
fall None after = 0
fall (Some x) None = 0
fall (Some x) (Some y) = if nat_lt y x then 1 else 0

-- how many cells of a list follow a greater one, where the list stands behind `before`
abbrev pub falls : Option ℕ → List ℕ → ℕ
falls before [] = 0
falls before (x ∷ xs) = fall before (Some x) + falls (Some x) xs

-- a cell becomes the last of a list
abbrev pub pushed : Lists → (list cell : ℕ) → Lists
pushed s list cell = record { cells = s.cells; lists = slice_set s.lists list (list_at s list ++ cell ∷ []) }

-- a cell goes from the list that it is in
abbrev pub removed : Lists → (cell : ℕ) → Lists
removed s cell = record { cells = s.cells; lists = map (without cell) s.lists }

-- another cell stands where one stood
abbrev pub other_for : (cell other : ℕ) → ℕ → ℕ
other_for c d x = if c == x then d else x

abbrev pub replaced : Lists → (cell other : ℕ) → Lists
replaced s c d = record { cells = s.cells; lists = map (map (other_for c d)) s.lists }
