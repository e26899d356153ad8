-- Sums of entries of a list, and lists whose entries are sums of later ones.
use Rattle.std.specs.Prelude.{◌≡◌, ◌+◌, ◌*◌, ◌==◌, ◌<◌, ◌≤◌, ◌&&◌, nat_le, nat_lt, Bool, ℕ, zero, suc, if◌then◌else◌, List, slice_index}

-- the sum of the values at `from` and the numbers after it, so many
abbrev pub run : (value : ℕ → ℕ) → (from count : ℕ) → ℕ
run f a zero = 0
run f a (suc n) = f a + run f (suc a) n

-- each entry from 1 on and below the size is the sum of two
abbrev pub IsTree : (size : ℕ) → List ℕ → Type 0
IsTree size xs = (k : ℕ) → 1 ≤ k → k < size → slice_index xs k ≡ slice_index xs (2 * k) + slice_index xs (2 * k + 1)

abbrev pub one_at : (last k : ℕ) → ℕ
one_at last k = if last == k then 1 else 0

-- a position is in a range
abbrev pub is_in : (from to position : ℕ) → Bool
is_in l r i = nat_le l i && nat_lt i r
