use Rattle.std.proofs.Common.{◌≡◌, ◌≤◌, ◌+◌, ◌*◌, drop}
use Rattle.g_graph.specs.Plain.{regions_of}
use Rattle.r_pull.specs.Rule.{other_entries, gone_args}
use Rattle.r_pull.proofs.count.gone_args.Given as goal

abbrev pub invariant-loop-region : goal.invariant-loop-region
invariant-loop-region l = record {
  value : l.count + gone_args (other_entries l.id l.entries) l.more (regions_of (drop l.region-index l.regions)) ≡ gone_args (other_entries l.id l.entries) l.more (regions_of l.regions);
  bound : l.count ≤ l.region-index * 4294967296;
}
