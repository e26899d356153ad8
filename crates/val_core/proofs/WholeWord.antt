-- Four bytes or more keep a whole word.
use Rattle.std.proofs.Common.{◌≡◌, ℕ, ◌*◌, ◌%◌, ◌^◌, ◌<◌, ◌≤◌, arith, pow_mono, lt_of_lt_of_le, mod-eq_of_lt}

pub whole_word : (w width : ℕ) → w < 2 ^ 32 → 4 ≤ width → w % 2 ^ (8 * width) ≡ w
whole_word w width h k = mod-eq_of_lt (lt_of_lt_of_le h (pow_mono {i = 32} {j = 8 * width} (omega arith)))
