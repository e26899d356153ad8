use Rattle.std.proofs.Common.{◌≡◌, ◌≤◌, ◌+◌, drop}
use Rattle.g_graph.specs.Plain.{regions_of}
use Rattle.r_pull.specs.Rule.{other_entries, copies}
use Rattle.r_pull.proofs.count.copies.Given as goal

abbrev pub invariant-loop-region : goal.invariant-loop-region
invariant-loop-region l = record {
  value : l.count + copies (other_entries l.id l.entries) (regions_of (drop l.region-index l.regions)) ≡ copies (other_entries l.id l.entries) (regions_of l.regions);
  bound : l.count ≤ l.region-index;
}
