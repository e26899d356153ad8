-- The characters so far are stored.
use Rattle.std.proofs.Common.{◌≡◌, List, drop}
use Rattle.val_core.specs.Memory.{Memory}
use Rattle.c_mean.specs.Statements.{characters_stored}
use Rattle.c_interp_store.specs.Holding.{Opened, Holds}
use Rattle.c_interp.proofs.begin.store_characters.Given as goal

abbrev pub invariant-loop-c : goal.invariant-loop-c
invariant-loop-c l =
    (calls : List Opened) (m : Memory) → Holds l.fn.store calls m →
    (k : Memory) × Holds l.store calls k × (characters_stored l.object l.offset l.characters m ≡ characters_stored l.object l.at (drop l.c-index l.characters) k)
