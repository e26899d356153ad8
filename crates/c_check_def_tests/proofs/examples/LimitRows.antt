-- Limits, and `main`.
use Rattle.std.specs.Prelude.{◌≡◌, refl, codes, Some}
use Rattle.c_check_def.specs.declared.refusal_kind.RefusalKind.TheVariants.{BadLabel}
use Rattle.c_check_def.specs.declared.refusal_kind.Quantity.TheVariants.{Parameters, ObjectBytes, GlobalBytes}
use Rattle.c_check_def.specs.Refusals.{no_main}
use Rattle.c_check_def_tests.proofs.examples.Source.{refusal_of, Tells, Counts, IsAccepted}

-- ---- parameters, bytes of objects, bytes of globals

parameters-row : Counts Parameters 9 (codes "int ") (codes "f(int a, int b, int c, int d, int e, int g, int h, int i, int j) { return 0; } int main(void) { return 0; }")
unfolding refusal_of
parameters-row = refl

objects-row : Counts ObjectBytes 65540 (codes "int ") (codes "main(void) { char a[65536]; return 0; }")
unfolding refusal_of
objects-row = refl

globals-row : Counts GlobalBytes 1048580 (codes "int ") (codes "a[262144]; int main(void) { return 0; }")
unfolding refusal_of
globals-row = refl

most_globals-row : IsAccepted (codes "int a[262143];")
unfolding refusal_of
most_globals-row = refl

-- ---- `main` is asked for after the other rules, at the end of the source, and before the limits

empty-row : refusal_of (codes "") ≡ Some (no_main 0)
unfolding refusal_of
empty-row = refl

other_main-row : refusal_of (codes "int a[262144]; unsigned main(void) { return 0; }") ≡ Some (no_main 48)
unfolding refusal_of
other_main-row = refl

label_first-row : Tells BadLabel (codes "void v(void) { switch (1) { default: ; ") (codes "default: ; } }")
unfolding refusal_of
label_first-row = refl
