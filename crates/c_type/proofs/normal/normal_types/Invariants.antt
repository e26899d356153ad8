use Rattle.std.proofs.Common.{take, drop}
use Rattle.c_type.specs.WellDefined.{AreLaidOut}
use Rattle.c_type.specs.Normal.{AreNormalOf}
use Rattle.c_type.proofs.normal.normal_types.Given as goal

abbrev pub invariant-loop-t : goal.invariant-loop-t
invariant-loop-t l =
    record {
      done : AreNormalOf l.types (take l.t-index l.members) l.parts.items;
      rest : AreLaidOut l.types (drop l.t-index l.members);
    }
