-- Numbers of arguments.
use Rattle.std.proofs.Common.{◌≡◌, ◌<◌, ◌≤◌, ◌^◌, ℕ, true, false, min, List, Some, None, refl, arith}
use Rattle.std.proofs.lemmas.Bool.{le-leb, lt-leb}
use Rattle.std.proofs.Math.Bool.{and-false}
use Rattle.std.specs.Prelude.{nat_le}
use Rattle.cc_command.specs.Command.{digits_value, is_number, number_in}

pub number_in-none : (least most : ℕ) (text : List ℕ) → is_number text ≡ false → None ≡ number_in least most text
unfolding number_in
number_in-none least most text none = rw none refl

module _ (least most r : ℕ) (text : List ℕ) (number : is_number text ≡ true) (read : r ≡ min (10 ^ 18) (digits_value text)) (small : most < 10 ^ 18) (ordered : least ≤ most) where
  pub number_in-some : least ≤ r → r ≤ most → Some r ≡ number_in least most text
  unfolding number_in
  number_in-some above below =
      let same : digits_value text ≡ r = omega arith in
      let low : nat_le least r ≡ true = le-leb least r above in
      let high : nat_le r most ≡ true = le-leb r most below in
      rw (number, same, low, high) refl

  pub number_in-below : r < least → None ≡ number_in least most text
  unfolding number_in
  number_in-below under =
      let low : nat_le least (digits_value text) ≡ false = lt-leb least (digits_value text) (omega arith) in
      rw (number, low) refl

  pub number_in-above : most < r → None ≡ number_in least most text
  unfolding number_in
  number_in-above over =
      let high : nat_le (digits_value text) most ≡ false = lt-leb (digits_value text) most (omega arith) in
      rw (number, high, and-false) refl
