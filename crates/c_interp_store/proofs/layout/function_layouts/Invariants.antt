-- The functions that were passed have their layouts.
use Rattle.c_interp_store.specs.Laid.{AreLayoutsTo}
use Rattle.c_interp_store.proofs.layout.function_layouts.Given as goal

abbrev pub invariant-loop-f : goal.invariant-loop-f
invariant-loop-f l = AreLayoutsTo l.types l.functions l.f-index l.layouts.items
