-- The shapes and numbers are those of the variables that were passed.
use Rattle.std.proofs.Common.{◌≡◌, length, take}
use Rattle.c_mean.specs.Run.{objects_of}
use Rattle.c_interp_store.specs.Blocks.{shapes_of}
use Rattle.c_interp_store.specs.Laid.{AreNumbers}
use Rattle.c_interp_store.proofs.layout.function_layout.Given as goal

abbrev pub invariant-loop-v : goal.invariant-loop-v
invariant-loop-v l = record {
  shapes : shapes_of l.shapes.items ≡ objects_of l.types (take l.v-index l.variables);
  numbers : AreNumbers l.variables l.v-index l.numbers.items;
  count : length l.numbers.items ≡ l.v-index;
}
