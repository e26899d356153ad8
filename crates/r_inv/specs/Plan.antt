-- Which uses are to move, once it is known, and the region where they have moved.
use Rattle.std.specs.Prelude.{◌≡◌, ℕ, [], Option, None, Some, ⊤}
use Rattle.g_graph.specs.Plain.{RegionTree}
use Rattle.r_edit.specs.InPlace.{outputs_redirected}
use Rattle.r_edit.specs.Carried.{output_carried, staying, exits_carried}
use Rattle.r_inv.specs.declared.plan.Plan.{Plan}
use Rattle.r_inv.specs.declared.plan.Plan.TheVariants.{Gamma, Theta}

abbrev pub carried_out : ℕ → RegionTree → Plan → RegionTree
carried_out n r (Gamma carried stays) = exits_carried n carried.items r
carried_out n r (Theta carried) = outputs_redirected n (output_carried n carried.items []) r

abbrev pub planned : ℕ → RegionTree → Option Plan → Option RegionTree
planned n r None = None
planned n r (Some plan) = Some (carried_out n r plan)

-- the second list says which of the first carry nothing
abbrev pub fits : Plan → Type 0
fits (Gamma carried stays) = stays.items ≡ staying carried.items
fits (Theta carried) = ⊤

abbrev pub fits_planned : Option Plan → Type 0
fits_planned None = ⊤
fits_planned (Some plan) = fits plan
