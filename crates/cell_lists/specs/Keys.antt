-- Cells that hold keys as contracts see them: the key of each cell, how many cells hold a key, the first of them, and a list for each key.
use Rattle.std.specs.Prelude.{◌≡◌, ℕ, suc, ◌+◌, ◌==◌, Bool, false, if◌then◌else◌, Option, Some, None, option_map, List, [], ◌∷◌, length, replicate, slice_index_or, slice_set}
use Rattle.cell_lists.specs.Lists.{Lists, list_at, is_in, AreDistinct}

-- how many keys there are, and the key of each cell that holds one
pub record Keys : Type 0 where
  pub count : ℕ
  pub cells : List (Option ℕ)

-- so many keys, and so many cells that hold none
abbrev pub no_keys : (keys cells : ℕ) → Keys
no_keys keys cells = record { count = keys; cells = replicate cells None }

abbrev pub is_key : ℕ → Option ℕ → Bool
is_key k None = false
is_key k (Some j) = j == k

-- the key that a cell holds
abbrev pub key_at : Keys → ℕ → Option ℕ
key_at s c = slice_index_or s.cells c None

-- how many cells hold a key
abbrev pub count_of : ℕ → List (Option ℕ) → ℕ
count_of k [] = 0
count_of k (x ∷ xs) = (if is_key k x then 1 else 0) + count_of k xs

-- the first cell that holds a key
abbrev pub first_of : ℕ → List (Option ℕ) → Option ℕ
first_of k [] = None
first_of k (x ∷ xs) = if is_key k x then Some 0 else option_map suc (first_of k xs)

-- a cell holds this key, or none
abbrev pub with_key : Keys → (cell : ℕ) → (key : Option ℕ) → Keys
with_key s c key = record { count = s.count; cells = slice_set s.cells c key }

-- the key of one cell goes to another
abbrev pub with_moved : Keys → (from to : ℕ) → Keys
with_moved s c d = record { count = s.count; cells = slice_set (slice_set s.cells d (key_at s c)) c None }

-- how such cells are indexed: each key has a list, of the cells that hold it
pub record IsIndexed (cells : List (Option ℕ)) (s : Lists) : Type 0 where
  pub size : s.cells ≡ length cells
  pub members : (k c : ℕ) → is_in c (list_at s k) ≡ is_key k (slice_index_or cells c None)
  pub distinct : (k : ℕ) → AreDistinct (list_at s k)
  pub counts : (k : ℕ) → length (list_at s k) ≡ count_of k cells
