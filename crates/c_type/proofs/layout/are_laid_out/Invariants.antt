use Rattle.std.proofs.Common.{drop}
use Rattle.c_type.specs.WellDefined.{AreLaidOut}
use Rattle.c_type.proofs.layout.are_laid_out.Given as goal

abbrev pub invariant-loop-t : goal.invariant-loop-t
invariant-loop-t l =
    record {
      rest : AreLaidOut l.types l.ts → AreLaidOut l.types (drop l.t-index l.ts);
      whole : AreLaidOut l.types (drop l.t-index l.ts) → AreLaidOut l.types l.ts;
    }
