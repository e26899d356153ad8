-- What contracts see of slots and lists of origins: the nodes that are there, with their inputs, and with the results of
-- their regions.
use Rattle.std.specs.Prelude.{ℕ, suc, if◌then◌else◌, List, [], ◌∷◌, map}
use Rattle.g_graph.specs.declared.op.Kind.{Kind}
use Rattle.g_graph.specs.declared.op.Origin.{Origin}
use Rattle.g_arena_def.specs.declared.place.Place.{Place}
use Rattle.g_arena_def.specs.Flat.{FlatRegion, FlatNode}
use Rattle.g_arena_use.specs.Lists.{PlainList, origins_at}
use Rattle.g_arena_use.specs.Plain.{PlainSlot, is_live}

abbrev pub regions_seen : (results : List PlainList) → (first : ℕ) → List (List Kind) → List FlatRegion
regions_seen ls k [] = []
regions_seen ls k (args ∷ rest) = record { args = args; results = origins_at ls k } ∷ regions_seen ls (suc k) rest

abbrev pub slot_seen : (inputs : List Origin) → (results : List PlainList) → PlainSlot → FlatNode
slot_seen xs ls s = record {
  id = s.id;
  op = s.op;
  inputs = xs;
  outputs = s.outputs;
  regions = regions_seen ls s.results s.regions;
  home = s.home;
}

abbrev pub nodes_seen : (inputs results : List PlainList) → List PlainSlot → List FlatNode
nodes_seen xs ls [] = []
nodes_seen [] ls (s ∷ ss) = []
nodes_seen (x ∷ xs) ls (s ∷ ss) = if is_live s then slot_seen x.origins ls s ∷ nodes_seen xs ls ss else nodes_seen xs ls ss

-- the places of lists
abbrev pub homes_of : List PlainList → List Place
homes_of ls = map (λ (l : PlainList). l.home) ls
