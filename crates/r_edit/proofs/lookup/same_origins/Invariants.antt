use Rattle.std.proofs.Common.{◌≡◌, drop, length}
use Rattle.r_edit.specs.Lookup.{same_origins}
use Rattle.r_edit.proofs.lookup.same_origins.Given as goal

abbrev pub invariant-loop-i : goal.invariant-loop-i
invariant-loop-i l = (same_origins (drop l.i l.a) (drop l.i l.b) ≡ same_origins l.a l.b) × (length l.a ≡ length l.b)
