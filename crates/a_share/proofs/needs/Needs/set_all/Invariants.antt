-- What holds before each turn of the loops of `set_all`.
use Rattle.std.proofs.Common.{◌≡◌, ℕ, if◌then◌else◌, length, take}
use Rattle.a_place.specs.Places.{among}
use Rattle.a_share.specs.Bounds.{AreBelow, needed_now}
use Rattle.a_share.specs.Changes.{ChangesAt}
use Rattle.a_share.proofs.needs.Needs.set_all.Given as goal

abbrev pub invariant-loop-name : goal.invariant-loop-name
invariant-loop-name l = record {
  changes : AreBelow (length l.fn.self.toggles) l.names → ChangesAt l.fn.self l.self l.bound;
  now : AreBelow (length l.fn.self.toggles) l.names → (x : ℕ)
      → needed_now l.self.toggles x ≡ (if among x (take l.name-index l.names) then l.needed else needed_now l.fn.self.toggles x);
  depths : l.self.depths ≡ l.fn.self.depths;
  copies : l.self.copies ≡ l.fn.self.copies;
}
