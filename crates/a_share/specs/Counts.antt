-- Counts by position.
use Rattle.std.specs.Prelude.{◌≡◌, ◌≢◌, ◌+◌, ◌-◌, ◌*◌, ◌^◌, ◌<◌, ◌≤◌, ℕ, slice_index, vec_len}
use Rattle.a_share.specs.declared.counts.Counts.{Counts}
use Rattle.a_share.specs.Sums.{run, IsTree}

-- the sum of the counts from a position on and before another
abbrev pub between : Counts → (from to : ℕ) → ℕ
between c l r = run (λ i. slice_index c.sums.items (c.size + i)) l (r - l)

-- the entries are there
pub record AreFilled (c : Counts) : Type 0 where
  pub length : vec_len c.sums ≡ 2 * c.size
  pub fits : c.total ≤ 4294967295
  pub tree : IsTree c.size c.sums.items
  pub entries : (k : ℕ) → slice_index c.sums.items k ≤ c.total
  pub sums : (l r : ℕ) → l ≤ r → r ≤ c.size → between c l r ≤ c.total

-- They are there where something is counted, and nowhere else.
pub record AreCounts (c : Counts) : Type 0 where
  pub small : c.size < 2 ^ 63
  pub none : c.total ≡ 0 → vec_len c.sums ≡ 0
  pub some : c.total ≢ 0 → AreFilled c
