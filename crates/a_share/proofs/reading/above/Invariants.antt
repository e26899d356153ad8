-- What holds before each turn of the loops of `above`.
use Rattle.std.proofs.Common.{◌≡◌, max, drop}
use Rattle.a_place.specs.Places.{above}
use Rattle.a_share.proofs.reading.above.Given as goal

abbrev pub invariant-loop-name : goal.invariant-loop-name
invariant-loop-name l = max l.count (above (drop l.name-index l.names)) ≡ above l.names
