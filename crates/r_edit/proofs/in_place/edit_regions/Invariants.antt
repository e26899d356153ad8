use Rattle.std.proofs.Common.{◌≡◌}
use Rattle.g_graph.proofs.lemmas.Mapped.{mapped}
use Rattle.r_edit.proofs.in_place.edit_regions.Given as goal

abbrev pub invariant-loop-i : goal.invariant-loop-i
invariant-loop-i g l = l.regions.items ≡ mapped (g.E.RegionEdit.region_edited l.edit) 0 l.i l.initial.regions.items
