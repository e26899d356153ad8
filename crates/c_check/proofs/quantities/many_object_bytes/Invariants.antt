use Rattle.std.proofs.Common.{◌≡◌, drop}
use Rattle.base.specs.Limits.{most_object_bytes}
use Rattle.c_check_def.specs.declared.refusal_kind.Quantity.TheVariants.{ObjectBytes}
use Rattle.c_check_def.specs.Limits.{first_above, object_bytes}
use Rattle.c_check.proofs.quantities.many_object_bytes.Given as goal

abbrev pub invariant-loop-f : goal.invariant-loop-f
invariant-loop-f v = first_above ObjectBytes most_object_bytes (object_bytes v.types) v.fs ≡ first_above ObjectBytes most_object_bytes (object_bytes v.types) (drop v.f-index v.fs)
