-- The parameters so far are in scope, and those that are objects are stored.
use Rattle.std.proofs.Common.{◌≡◌, ◌≤◌, ◌++◌, List, drop}
use Rattle.val_core.specs.Memory.{Memory}
use Rattle.val_core.specs.Objects.{address_in}
use Rattle.c_mean.specs.Run.{params_in_scope, params_stored}
use Rattle.c_interp_store.specs.Holding.{Opened, Holds}
use Rattle.c_interp_def.specs.Configurations.{variables_of, object_sizes}
use Rattle.c_interp_answer.specs.TaskViews.{slots_of}
use Rattle.c_interp.proofs.calls.take_arguments.Given as goal

abbrev pub invariant-loop-i : goal.invariant-loop-i
invariant-loop-i l = record {
  number : l.number ≤ l.i;
  slots : params_in_scope 0 l.params l.arguments ≡ slots_of l.slots.items ++ params_in_scope l.number (drop l.i l.params) (drop l.i l.arguments);
  stored : (calls : List Opened) (m : Memory) → Holds l.fn.store calls m →
      (k : Memory) × Holds l.store calls k
      × (params_stored (address_in l.first (object_sizes l.program.typed.now (variables_of l.program.typed.now l.function))) 0 l.params l.arguments m
      ≡ params_stored (address_in l.first (object_sizes l.program.typed.now (variables_of l.program.typed.now l.function))) l.number (drop l.i l.params) (drop l.i l.arguments) k);
}
