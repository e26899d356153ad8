-- A lambda as a list of its nodes in pre-order: each node has the place of the region where it stands, and of its
-- regions the arguments and results.
use Rattle.std.specs.Prelude.{◌≡◌, ℕ, suc, ◌==◌, ◌&&◌, Bool, true, false, List, [], ◌∷◌, ◌++◌}
use Rattle.std.specs.List.{list_any}
use Rattle.std.specs.declared.option.Option.{Option}
use Rattle.std.specs.declared.option.Option.TheVariants.{Some, None}
use Rattle.g_graph.specs.declared.op.Kind.{Kind}
use Rattle.g_graph.specs.declared.op.Op.{Op}
use Rattle.g_graph.specs.declared.op.Origin.{Origin}
use Rattle.g_graph.specs.Plain.{RegionTree, region, NodeTree, node, NodeTrees, no_nodes, node_then, RegionTrees, no_regions, region_then, PlainObject, PlainLambda}
use Rattle.g_graph.specs.Signatures.{outputs_of}
use Rattle.g_graph.specs.WellFormed.{kinds_of}
use Rattle.g_arena_def.specs.declared.place.Place.{Place}

-- the arguments of a region by kind, and where its results come from
pub record FlatRegion : Type 0 where
  pub args : List Kind
  pub results : List Origin

pub record FlatNode : Type 0 where
  pub id : ℕ
  pub op : Op
  pub inputs : List Origin
  pub outputs : List Kind
  pub regions : List FlatRegion
  pub home : Place

pub record Flat : Type 0 where
  pub number : ℕ
  pub params : ℕ
  pub objects : List PlainObject
  pub next : ℕ
  pub body : FlatRegion
  pub nodes : List FlatNode

abbrev pub body_place : Place
body_place = record { node = None; region = 0 }

abbrev pub place_in : (id : ℕ) → (index : ℕ) → Place
place_in n k = record { node = Some n; region = k }

abbrev pub region_flat : RegionTree → FlatRegion
region_flat (region args nodes results) = record { args = args; results = results }

abbrev pub regions_flat : RegionTrees → List FlatRegion
regions_flat no_regions = []
regions_flat (region_then r rs) = region_flat r ∷ regions_flat rs

-- the nodes of a region at a place, of a node there, and of its regions from one index on
abbrev mutual
  pub in_region : Place → RegionTree → List FlatNode
  in_region p (region args nodes results) = in_nodes p nodes

  pub in_nodes : Place → NodeTrees → List FlatNode
  in_nodes p no_nodes = []
  in_nodes p (node_then x xs) = in_node p x ++ in_nodes p xs

  pub in_node : Place → NodeTree → List FlatNode
  in_node p (node id op inputs rs) =
      record { id = id; op = op; inputs = inputs; outputs = kinds_of (outputs_of op rs); regions = regions_flat rs; home = p } ∷ in_regions id 0 rs

  pub in_regions : (id : ℕ) → (index : ℕ) → RegionTrees → List FlatNode
  in_regions n k no_regions = []
  in_regions n k (region_then r rs) = in_region (place_in n k) r ++ in_regions n (suc k) rs

abbrev pub flat_of : PlainLambda → Flat
flat_of l = record {
  number = l.number;
  params = l.params;
  objects = l.objects;
  next = l.next;
  body = region_flat l.body;
  nodes = in_region body_place l.body;
}

-- A list of nodes stands for a lambda where it is the list of its nodes.
abbrev pub StandsFor : Flat → PlainLambda → Type 0
StandsFor a l = a ≡ flat_of l

abbrev pub same_node : Option ℕ → Option ℕ → Bool
same_node None None = true
same_node (Some n) (Some m) = n == m
same_node _ _ = false

abbrev pub same_place : Place → Place → Bool
same_place p q = same_node p.node q.node && (p.region == q.region)

-- whether a node is among those of these numbers
abbrev pub is_in : List ℕ → Option ℕ → Bool
is_in ns None = false
is_in ns (Some n) = list_any (λ m. n == m) ns
