use Rattle.std.proofs.Common.{◌≡◌, ap, ◌∙◌, drop, arith}
use Rattle.r_edit.specs.Places.{place_after}
use Rattle.r_edit.proofs.lemmas.PlacesInPlace.{place_zero}
use Rattle.r_edit.proofs.places.place_after.Goals as goal

pub returns-then-rest-eq0 : goal.returns-then-rest-eq0
returns-then-rest-eq0 c =
    let ts = drop c.loop-test.test-index c.args.stays.now in
    let none : place_after ts c.loop-test.rest ≡ 0 = ap (place_after ts) c.if-rest-eq0.true ∙ place_zero ts in
    omega (arith, none, c.loop-test.invariant.value)
