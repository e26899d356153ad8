-- Copies of regions under new numbers: those from a first one on, in pre-order of the copy.
use Rattle.std.specs.Prelude.{ℕ, suc, ◌+◌, ◌==◌, if◌then◌else◌, List, [], ◌∷◌, length, Option, None, Some, unwrap_or}
use Rattle.g_graph.specs.Plain.{RegionTree}
use Rattle.g_graph.specs.Ids.{region_ids}
use Rattle.g_mean.specs.Copies.{region_copied}

-- What the numbers of a list become, counted from `next` in the order of the list. The other numbers go after these, so
-- that no two numbers become one.
abbrev pub number_from : (next : ℕ) → List ℕ → ℕ → ℕ
number_from next [] n = next + n
number_from next (m ∷ ms) n = if m == n then next else number_from (suc next) ms n

-- what a number of the list becomes; none where it is not in the list
abbrev pub number_among : (next : ℕ) → List ℕ → ℕ → Option ℕ
number_among next [] n = None
number_among next (m ∷ ms) n = if m == n then Some next else number_among (suc next) ms n

-- a number that is not found stays
abbrev pub found_or_same : (found : ℕ → Option ℕ) → ℕ → ℕ
found_or_same found n = unwrap_or (found n) n

-- how many nodes a region has, at any depth
abbrev pub node_count : RegionTree → ℕ
node_count r = length (region_ids r)

-- the copy of a region that is numbered from `next` on, in pre-order
abbrev pub region_numbered : (next : ℕ) → RegionTree → RegionTree
region_numbered next r = region_copied (number_from next (region_ids r)) r
