-- What holds before each turn of the loops of `toggle`.
use Rattle.std.proofs.Common.{◌≡◌, length, drop}
use Rattle.a_share.specs.Bounds.{AreBelow}
use Rattle.a_share.proofs.Toggling.{ToggledPart}
use Rattle.a_share.proofs.needs.Needs.toggle.Given as goal

abbrev pub invariant-loop-k : goal.invariant-loop-k
invariant-loop-k l = record {
  changed : l.self.changed ≡ l.fn.self.changed;
  depths : l.self.depths ≡ l.fn.self.depths;
  copies : l.self.copies ≡ l.fn.self.copies;
  toggled : AreBelow (length l.fn.self.toggles) (drop l.mark l.fn.self.changed.items)
      → ToggledPart l.fn.self.toggles l.self.toggles (drop l.mark l.fn.self.changed.items) (drop l.k l.fn.self.changed.items) l.bound;
}
