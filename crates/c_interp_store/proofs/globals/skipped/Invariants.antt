-- What was skipped is not written at the offset or after it.
use Rattle.std.proofs.Common.{◌≡◌, ◌≤◌, ◌-◌, ℕ, length, drop}
use Rattle.val_core.specs.declared.values.Value.{Value}
use Rattle.c_mean.specs.Run.{leaf_value}
use Rattle.c_interp_store.specs.Starts.{are_written}
use Rattle.c_interp_store.proofs.globals.skipped.Given as goal

abbrev pub invariant-loop-i : goal.invariant-loop-i
invariant-loop-i l = record {
  within : l.i ≤ length l.written;
  same : (global : ℕ → Value) (q : ℕ) → l.offset ≤ q → leaf_value global q (drop l.from (are_written l.written)) ≡ leaf_value global q (drop l.i (are_written l.written));
}

abbrev pub decreases-loop-i : goal.decreases-loop-i
decreases-loop-i l = length l.written - l.i
