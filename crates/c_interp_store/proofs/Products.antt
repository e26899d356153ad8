-- The bytes of elements fit a word of 64 bits, with an offset added.
use Rattle.std.proofs.Common.{ℕ, ◌*◌, ◌-◌, ◌^◌, ◌<◌, ◌≤◌, arith}
use Rattle.std.proofs.lemmas.Nat.{mul-le}

pub product_fits : (a b : ℕ) → a ≤ 2 ^ 32 → b < 2 ^ 32 → a * b ≤ 2 ^ 64 - 2 ^ 32
product_fits a b h k = let e = mul-le a b (2 ^ 32) (2 ^ 32 - 1) h (omega (arith, k)) in omega (arith, e)
