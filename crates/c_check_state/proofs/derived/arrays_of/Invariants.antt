use Rattle.std.proofs.Common.{◌≡◌, ◌≤◌, Some, length, drop}
use Rattle.c_check_def.specs.DeclaredTypes.{arrays_of}
use Rattle.c_check_state.proofs.derived.arrays_of.Given as goal

abbrev pub invariant-loop-left : goal.invariant-loop-left
invariant-loop-left l = (l.left ≤ length l.sizes) × (arrays_of (Some l.ty.value) (drop l.left l.sizes) ≡ Some l.whole)

abbrev pub decreases-loop-left : goal.decreases-loop-left
decreases-loop-left l = l.left
