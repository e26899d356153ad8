-- The stale functions of a list as the jobs of a board, and their results put beside the answers that are kept.
use Rattle.std.specs.Prelude.{ℕ, Bool, true, if◌then◌else◌, List, [], ◌∷◌, length, map, drop, slice_get, slice_index, slice_index_or}
use Rattle.std.specs.List.{cons_option, filter, range_with_len}
use Rattle.board_core.specs.Board.{Program, deps_of}

abbrev pub is_stale : List Bool → ℕ → Bool
is_stale stale j = slice_index_or stale j true

-- the stale functions below n, in order
abbrev pub stale_below : List Bool → (n : ℕ) → List ℕ
stale_below stale n = filter (is_stale stale) (range_with_len 0 n)

-- the function of each job
abbrev pub functions_of : List Bool → List ℕ
functions_of stale = stale_below stale (length stale)

-- the job of a stale function
abbrev pub job_of : List Bool → ℕ → ℕ
job_of stale j = length (stale_below stale j)

-- the jobs of those of these functions that are stale
abbrev pub stale_jobs : List Bool → List ℕ → List ℕ
stale_jobs stale js = map (job_of stale) (filter (is_stale stale) js)

module _ {M : Type 0} where
  -- Of each of these functions its answer: of a stale one the next of those that are given, of another the kept one.
  abbrev pub merged : (stale : List Bool) (kept : List M) → (functions : List ℕ) → (given : List M) → List M
  merged stale kept [] given = []
  merged stale kept (j ∷ js) given =
      if is_stale stale j then cons_option (slice_get given 0) (merged stale kept js (drop 1 given)) else cons_option (slice_get kept j) (merged stale kept js given)

  -- the program of the board on which the stale jobs of a program are, where the answers of the others are kept
  abbrev pub renewal : Program M → (stale : List Bool) (kept : List M) → Program M
  renewal program stale kept =
      record {
        ranks = map (slice_index program.ranks) (functions_of stale);
        deps = map (λ j. stale_jobs stale (deps_of program j)) (functions_of stale);
        workers = program.workers;
        made = λ job given. let j = slice_index (functions_of stale) job in program.made j (merged stale kept (deps_of program j) given);
      }
