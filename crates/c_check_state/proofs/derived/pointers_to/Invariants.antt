use Rattle.std.proofs.Common.{◌≡◌}
use Rattle.c_check_def.specs.DeclaredTypes.{pointers_to}
use Rattle.c_check_state.proofs.derived.pointers_to.Given as goal

abbrev pub invariant-loop-star : goal.invariant-loop-star
invariant-loop-star l = l.whole ≡ pointers_to l.ty.value l._star
