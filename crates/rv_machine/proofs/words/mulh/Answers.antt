use Rattle.std.proofs.Common.{◌≡◌, ℕ, ◌/◌, ◌^◌, ◌<◌, ◌≤◌, ap, ◌∙◌, ℤ, ◌*ℤ◌, unsigned_abs, FitsSigned, arith, inl, inr}
use Rattle.std.specs.Int.{w32, w64, cast_signed, cast_unsigned}
use Rattle.std.proofs.lemmas.Int.{of_z-to_z, to_z-of_z, fits_signed_mul}
use Rattle.std.proofs.lemmas.Bool.{cases_lt, lt-ltb, le-ltb}
use Rattle.rv_machine.specs.Words.{signed}
use Rattle.rv_machine.proofs.words.mulh.Goals as goal

abs_signed : (a : ℕ) → a < 2 ^ 32 → unsigned_abs (signed a) ≤ 2 ^ 31
abs_signed a small = elim (cases_lt a (2 ^ 31)) [
  | inl low ↦ rw (lt-ltb a (2 ^ 31) low) (omega arith)
  | inr high ↦ rw (le-ltb a (2 ^ 31) high) (omega arith)
]

widened : (a : ℕ) (x y : ℤ) → a < 2 ^ 32 → x ≡ signed a → y ≡ cast_signed w32 (cast_unsigned w32 x) → y ≡ signed a
widened a x y small e f = f ∙ ap (λ z. cast_signed w32 (cast_unsigned w32 z)) e ∙ ap (cast_signed w32) (of_z-to_z w32 a small)

product_fits : (a b : ℕ) → a < 2 ^ 32 → b < 2 ^ 32 → FitsSigned w64 (signed a *ℤ signed b)
product_fits a b small_a small_b =
    fits_signed_mul w64 (signed a) (signed b) (2 ^ 31) (2 ^ 31) (abs_signed a small_a) (abs_signed b small_b) (omega arith)

pub returns : goal.returns
returns c =
    let x : cast_signed w64 (cast_unsigned w64 c.from.result) ≡ signed c.args.a =
    to_z-of_z w64 c.from.result (record { sfits = c.from.type_inv })
    ∙ widened c.args.a c.cast_signed.result c.from.result c.ranges.a.fits c.cast_signed.ensures c.from.ensures in
    let y : cast_signed w64 (cast_unsigned w64 c.from-2.result) ≡ signed c.args.b =
    to_z-of_z w64 c.from-2.result (record { sfits = c.from-2.type_inv })
    ∙ widened c.args.b c.cast_signed-2.result c.from-2.result c.ranges.b.fits c.cast_signed-2.ensures c.from-2.ensures in
    ap (λ n. n / 2 ^ 32) (c.cast_unsigned.ensures
    ∙ ap (λ z. cast_unsigned w64 (cast_signed w64 (cast_unsigned w64 (z *ℤ cast_signed w64 (cast_unsigned w64 c.from-2.result))))) x
    ∙ ap (λ z. cast_unsigned w64 (cast_signed w64 (cast_unsigned w64 (signed c.args.a *ℤ z)))) y
    ∙ ap (cast_unsigned w64) (to_z-of_z w64 (signed c.args.a *ℤ signed c.args.b) (product_fits c.args.a c.args.b c.ranges.a.fits c.ranges.b.fits)))
