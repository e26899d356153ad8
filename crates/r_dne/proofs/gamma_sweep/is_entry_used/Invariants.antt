-- None of the first so many regions uses it.
use Rattle.std.proofs.Common.{◌≡◌, ◌≤◌, ◌+◌, false}
use Rattle.g_graph.specs.declared.op.Origin.TheVariants.{Arg}
use Rattle.r_dne.specs.Listed.{some_region_uses}
use Rattle.r_dne.proofs.gamma_sweep.is_entry_used.Given as goal

abbrev pub invariant-loop-region : goal.invariant-loop-region
invariant-loop-region g l = record { none : some_region_uses l.arena l.shape.node l.region (Arg l.index) ≡ false; looks : l.looks ≤ l.initial.looks + l.region }
