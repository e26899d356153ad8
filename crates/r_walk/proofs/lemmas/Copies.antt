-- The numbers of copies are new.
use Rattle.std.proofs.Common.{ℕ, ◌≤◌, List, [], ◌∷◌, map, subst, inl, inr, arith}
use Rattle.g_graph.specs.Ids.{region_ids}
use Rattle.g_graph.specs.Plain.{RegionTree}
use Rattle.g_mean.specs.Copies.{IsAmong}
use Rattle.r_edit.specs.Numbering.{number_from, region_numbered}
use Rattle.r_edit.proofs.lemmas.Numbering.{number_from-least, copied-ids}

from-least : (next : ℕ) (ms ids : List ℕ) (n : ℕ) → IsAmong n (map (number_from next ms) ids) → next ≤ n
from-least next ms [] n h = absurd h
from-least next ms (m ∷ ids) n (inl e) = omega (arith, number_from-least next ms m)
from-least next ms (m ∷ ids) n (inr h) = from-least next ms ids n h

-- each is the first one or comes after it
pub copies_are_new : (next : ℕ) (r : RegionTree) (n : ℕ) → IsAmong n (region_ids (region_numbered next r)) → next ≤ n
copies_are_new next r n h = from-least next (region_ids r) (region_ids r) n (subst (IsAmong n) (copied-ids (number_from next (region_ids r)) r) h)
