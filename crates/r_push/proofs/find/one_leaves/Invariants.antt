use Rattle.std.specs.Prelude.{is_some}
use Rattle.std.proofs.Common.{◌≡◌, drop}
use Rattle.g_graph.specs.Plain.{regions_of}
use Rattle.r_push.specs.Rule.{leaving_one}
use Rattle.r_push.proofs.find.one_leaves.Given as goal

abbrev pub invariant-loop-region : goal.invariant-loop-region
invariant-loop-region l = is_some (leaving_one l.id (regions_of (drop l.region-index l.regions))) ≡ is_some (leaving_one l.id (regions_of l.regions))
