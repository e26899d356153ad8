use Rattle.std.proofs.Common.{◌≡◌, ◌≤◌, ◌+◌, drop}
use Rattle.r_edit.specs.Places.{place_after}
use Rattle.r_edit.proofs.places.place_after.Given as goal

abbrev pub invariant-loop-test : goal.invariant-loop-test
invariant-loop-test l = record {
  bound : l.after + l.rest ≤ l.place;
  value : l.after + place_after (drop l.test-index l.stays) l.rest ≡ place_after l.stays l.place;
}
