-- The result is the origin in each region before this one.
use Rattle.std.proofs.Common.{◌≡◌, ◌+◌, Some, drop}
use Rattle.g_arena_def.specs.Flat.{FlatNode}
use Rattle.g_arena_def.specs.Reads.{found}
use Rattle.r_inv.specs.Listed.{all_pass_in}
use Rattle.r_inv.proofs.carried_sweep.all_pass.Given as goal

abbrev pub invariant-loop-region : goal.invariant-loop-region
invariant-loop-region g l = record {
  same : (x : FlatNode) → found l.shape.node l.arena.nodes ≡ Some x →
      all_pass_in l.inputs l.origin l.port (drop l.region x.regions) ≡ all_pass_in l.inputs l.origin l.port (drop 1 x.regions);
  looks : l.looks + 1 ≡ l.fn.looks + l.region;
}
