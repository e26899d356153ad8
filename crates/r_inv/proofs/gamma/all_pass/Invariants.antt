use Rattle.std.proofs.Common.{◌≡◌, drop}
use Rattle.g_graph.specs.Plain.{regions_of}
use Rattle.r_edit.specs.Carried.{all_pass}
use Rattle.r_inv.proofs.gamma.all_pass.Given as goal

abbrev pub invariant-loop-region : goal.invariant-loop-region
invariant-loop-region l = all_pass l.inputs l.origin l.port (regions_of (drop l.region-index l.regions)) ≡ all_pass l.inputs l.origin l.port (regions_of l.regions)
