-- With the places that are left, all places are written.
use Rattle.std.proofs.Common.{◌≡◌, ◌++◌, drop}
use Rattle.cc_listing.specs.Lines.{places_text}
use Rattle.cc_listing.proofs.functions.push_places.Given as goal

-- what is left comes after what is written
abbrev pub invariant-loop-name : goal.invariant-loop-name
invariant-loop-name l = l.out.items ++ places_text l.name (drop l.name l.places) ≡ l.fn.out.items ++ places_text 0 l.places
