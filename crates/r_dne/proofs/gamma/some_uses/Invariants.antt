use Rattle.std.proofs.Common.{◌≡◌, drop}
use Rattle.g_graph.specs.declared.op.Origin.TheVariants.{Arg}
use Rattle.g_graph.specs.Plain.{regions_of}
use Rattle.r_edit.specs.Exits.{regions_giving}
use Rattle.r_dne.specs.Rule.{some_uses}
use Rattle.r_dne.proofs.gamma.some_uses.Given as goal

abbrev pub invariant-loop-region : goal.invariant-loop-region
invariant-loop-region l =
    some_uses (Arg l.index) (regions_giving l.exits (regions_of (drop l.region-index l.regions))) ≡ some_uses (Arg l.index) (regions_giving l.exits (regions_of l.regions))
