-- What holds before each turn of the loops of `places`.
use Rattle.std.proofs.Common.{◌≡◌, map, take}
use Rattle.std.specs.Prelude.{unwrap_or}
use Rattle.a_share.proofs.giving.Giving.places.Given as goal

abbrev pub invariant-loop-place : goal.invariant-loop-place
invariant-loop-place l = l.of.items ≡ map (λ o. unwrap_or o 0) (take l.place-index l.place-items)
