-- Counts to which more are added.
use Rattle.std.specs.Prelude.{◌≡◌, ◌+◌, ◌≤◌, ℕ, List}
use Rattle.a_share.specs.Walk.{count_if}
use Rattle.a_share.specs.Sums.{is_in}
use Rattle.a_share.specs.Counts.{AreCounts, between}
use Rattle.a_share.specs.declared.counts.Counts.{Counts}

-- one more at the position of each of these
pub record AddsBy {X : Type 0} (position : X → ℕ) (xs : List X) (old new : Counts) : Type 0 where
  pub size : new.size ≡ old.size
  pub counts : AreCounts new
  pub added : (l r : ℕ) → l ≤ r → r ≤ old.size → between new l r ≡ count_if (λ x. is_in l r (position x)) xs + between old l r
