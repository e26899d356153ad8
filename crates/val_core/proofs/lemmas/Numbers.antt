-- Consecutive numbers.
use Rattle.std.proofs.Common.{◌≡◌, ℕ, zero, suc, length, refl, ap}
use Rattle.val_core.specs.Numbers.{numbers_from}

pub length_numbers : (from n : ℕ) → length (numbers_from from n) ≡ n
length_numbers from zero = refl
length_numbers from (suc n) = ap suc (length_numbers (suc from) n)
