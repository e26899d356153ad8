-- What is to go, once it is known, and the region without it.
use Rattle.std.specs.Prelude.{ℕ, Option, None, Some}
use Rattle.g_graph.specs.Plain.{RegionTree}
use Rattle.r_edit.specs.Removal.{region_without}
use Rattle.r_edit.specs.Exits.{exits_kept}
use Rattle.r_edit.specs.Entries.{entries_kept}
use Rattle.r_edit.specs.Variables.{variables_kept}
use Rattle.r_dne.specs.declared.plan.Plan.{Plan}
use Rattle.r_dne.specs.declared.plan.Plan.TheVariants.{Node, Gamma, Theta}

abbrev pub carried_out : ℕ → RegionTree → Plan → RegionTree
carried_out n r Node = region_without n r
carried_out n r (Gamma exits entries) = entries_kept n entries.items (exits_kept n exits.items r)
carried_out n r (Theta stays) = variables_kept n stays.items r

abbrev pub planned : ℕ → RegionTree → Option Plan → Option RegionTree
planned n r None = None
planned n r (Some plan) = Some (carried_out n r plan)
