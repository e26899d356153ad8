use Rattle.std.proofs.Common.{◌≡◌, ◌+◌, ◌++◌, ◌∷◌, List, length, take}
use Rattle.val_core.specs.Memory.{Memory}
use Rattle.val_core.specs.Objects.{opened}
use Rattle.c_interp_store.specs.Blocks.{shapes_of}
use Rattle.c_interp_store.specs.Holding.{Opened, Holds}
use Rattle.c_interp_store.proofs.store.Store.open.Given as goal

abbrev pub invariant-loop-shape : goal.invariant-loop-shape
invariant-loop-shape l =
    record {
      made : l.self.made ≡ l.fn.self.made + l.shape-index;
      grows : (calls : List Opened) (m : Memory) → Holds l.fn.self calls m →
          Holds l.self (record { first = length m; count = l.shape-index } ∷ calls) (m ++ opened (shapes_of (take l.shape-index l.shapes)));
    }
