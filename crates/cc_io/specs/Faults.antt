-- Counts of faults: why a call of the outside may fail.
use Rattle.std.specs.Prelude.{ℕ, ◌+◌, ◌-◌, ◌^◌, ◌≤◌, min, Result, OnErr}

-- the last value of a count, which has 64 bits and saturates there
abbrev pub LAST_COUNT : ℕ
LAST_COUNT = 2 ^ 64 - 1

-- a count one higher, or at its last value
abbrev pub raised : ℕ → ℕ
raised count = min (count + 1) LAST_COUNT

-- a count increased between two moments: it is greater now, or at its last value
abbrev pub Increased : ℕ → ℕ → Type 0
Increased before after = raised before ≤ after

-- a count does not fall in a call, and the call fails only where it increased
pub record HasCause {T E : Type 0} (before after : ℕ) (result : Result T E) : Type 0 where
  pub kept : before ≤ after
  pub increased : OnErr result (Increased before after)
