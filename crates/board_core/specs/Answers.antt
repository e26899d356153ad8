-- The results of all jobs, by recursion on their ranks, with no board and no worker.
use Rattle.std.specs.Prelude.{◌≡◌, ℕ, ◌<◌, Option, Some, None, option_map, List, [], ◌∷◌, length, map, slice_index, Contains}
use Rattle.std.proofs.Common.{zero, suc}
use Rattle.board_core.specs.Board.{Program, deps_of}

-- each dep of a job is a job of a smaller rank
pub record IsRanked {M : Type 0} (program : Program M) : Type 0 where
  pub counted : length program.ranks ≡ length program.deps
  pub known : (j d : ℕ) → Contains (deps_of program j) d → d < length program.deps
  pub smaller : (j d : ℕ) → Contains (deps_of program j) d → slice_index program.ranks d < slice_index program.ranks j

module _ {M : Type 0} where
  -- all of these, where each is there
  abbrev pub all_some : List (Option M) → Option (List M)
  all_some [] = Some []
  all_some (None ∷ others) = None
  all_some (Some made ∷ others) = option_map (λ rest. made ∷ rest) (all_some others)

  -- the result of a job whose rank is below the bound
  abbrev pub answer_below : Program M → ℕ → ℕ → Option M
  answer_below program zero j = None
  answer_below program (suc bound) j =
      option_map (program.made j) (all_some (map (answer_below program bound) (deps_of program j)))

  -- the result of a job
  abbrev pub answer : Program M → ℕ → Option M
  answer program j = answer_below program (suc (slice_index program.ranks j)) j
