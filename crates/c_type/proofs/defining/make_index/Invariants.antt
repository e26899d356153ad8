use Rattle.std.proofs.Common.{◌≡◌, length}
use Rattle.c_type.specs.Structs.{Pads}
use Rattle.c_type.proofs.defining.make_index.Given as goal

abbrev pub invariant-loop-i : goal.invariant-loop-i
invariant-loop-i l =
    record { pads : Pads l.initial.indices.items l.indices.items; count : length l.indices.items ≡ l._i }
