-- Consecutive numbers.
use Rattle.std.specs.Prelude.{ℕ, zero, suc, List, [], ◌∷◌}

-- the numbers from `first` on, so many
abbrev pub numbers_from : (first count : ℕ) → List ℕ
numbers_from first zero = []
numbers_from first (suc n) = first ∷ numbers_from (suc first) n
