-- Counts to which the positions of a list are added, and numbers from which counts are taken.
use Rattle.std.proofs.Common.{◌≡◌, ◌+◌, ◌≤◌, ℕ, List, drop}
use Rattle.a_share.specs.Walk.{count_if}
use Rattle.a_share.specs.Sums.{is_in}
use Rattle.a_share.specs.Counts.{AreCounts, between}
use Rattle.a_share.specs.declared.counts.Counts.{Counts}

pub record IsAddingBy {X : Type 0} (position : X → ℕ) (xs : List X) (start now : Counts) (i : ℕ) : Type 0 where
  pub size : now.size ≡ start.size
  pub counts : AreCounts now
  pub added : (l r : ℕ) → l ≤ r → r ≤ start.size
      → count_if (λ x. is_in l r (position x)) (drop i xs) + between now l r ≡ count_if (λ x. is_in l r (position x)) xs + between start l r
