-- Regions that grow, one after the other.
use Rattle.std.proofs.Common.{◌≡◌, ℕ, Bool, List, [], ◌∷◌, map, refl, ap}
use Rattle.g_graph.specs.Plain.{RegionTree, regions_of, region_then}
use Rattle.r_push.specs.Walk.{grown, all_grown}

pub grown_are : (loops : Bool) (more : ℕ) (rs : List RegionTree) → regions_of (map (grown loops more) rs) ≡ all_grown loops more (regions_of rs)
grown_are loops more [] = refl
grown_are loops more (r ∷ rs) = ap (λ ss. region_then (grown loops more r) ss) (grown_are loops more rs)
