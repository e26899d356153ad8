-- How regions are made of the rows of their nodes, from the last row to the first: the nodes that are made and are in no
-- region yet stand with their places in pre-order, and a row takes those of its regions, which are the first.
use Rattle.std.specs.Prelude.{◌≡◌, ℕ, suc, ◌+◌, Bool, false, if◌then◌else◌, map, List, [], ◌∷◌, length}
use Rattle.std.specs.declared.option.Option.{Option}
use Rattle.std.specs.declared.option.Option.TheVariants.{Some, None}
use Rattle.cell_lists.specs.Lists.{AreDistinct}
use Rattle.g_graph.specs.declared.op.Op.{Op}
use Rattle.g_graph.specs.declared.op.Op.TheVariants.{Gamma, Theta}
use Rattle.g_graph.specs.Plain.{RegionTree, region, NodeTree, node, nodes_of, regions_of}
use Rattle.g_graph.specs.Signatures.{op_outputs}
use Rattle.g_arena_def.specs.declared.place.Place.{Place}
use Rattle.g_arena_def.specs.Flat.{FlatRegion, FlatNode, place_in, same_place, in_region, region_flat, body_place}

-- no number stands twice, and the rows are those of a region that is the body
abbrev pub HasNumbersOnce : List FlatNode → Type 0
HasNumbersOnce xs = AreDistinct (map (λ (x : FlatNode). x.id) xs)

pub record IsListOf (part : FlatRegion) (rows : List FlatNode) (r : RegionTree) : Type 0 where
  pub body : part ≡ region_flat r
  pub nodes : rows ≡ in_region body_place r

-- the first node, if it stands in the region at a place, and what is left without it
abbrev pub first_in : Place → List (Place × NodeTree) → Option NodeTree
first_in p [] = None
first_in p (m ∷ ms) = if same_place m.0 p then Some m.1 else None

abbrev pub is_first_in : Place → List (Place × NodeTree) → Bool
is_first_in p [] = false
is_first_in p (m ∷ ms) = same_place m.0 p

abbrev pub after_first : Place → List (Place × NodeTree) → List (Place × NodeTree)
after_first p [] = []
after_first p (m ∷ ms) = if same_place m.0 p then ms else m ∷ ms

-- the nodes at the start that stand in the region at a place, and what is left without them
abbrev pub taken : Place → List (Place × NodeTree) → List NodeTree
taken p [] = []
taken p (m ∷ ms) = if same_place m.0 p then m.1 ∷ taken p ms else []

abbrev pub left : Place → List (Place × NodeTree) → List (Place × NodeTree)
left p [] = []
left p (m ∷ ms) = if same_place m.0 p then left p ms else m ∷ ms

abbrev pub region_made : FlatRegion → Place → List (Place × NodeTree) → RegionTree
region_made r p ms = region r.args (nodes_of (taken p ms)) r.results

-- the regions of a node from an index on, and what is left without their nodes
abbrev pub regions_made : (id index : ℕ) → List FlatRegion → List (Place × NodeTree) → List RegionTree
regions_made n k [] ms = []
regions_made n k (r ∷ rs) ms = region_made r (place_in n k) ms ∷ regions_made n (suc k) rs (left (place_in n k) ms)

abbrev pub regions_left : (id index : ℕ) → List FlatRegion → List (Place × NodeTree) → List (Place × NodeTree)
regions_left n k [] ms = ms
regions_left n k (r ∷ rs) ms = regions_left n (suc k) rs (left (place_in n k) ms)

abbrev pub node_made : FlatNode → List (Place × NodeTree) → NodeTree
node_made x ms = node x.id x.op x.inputs (regions_of (regions_made x.id 0 x.regions ms))

abbrev pub node_left : FlatNode → List (Place × NodeTree) → List (Place × NodeTree)
node_left x ms = regions_left x.id 0 x.regions ms

-- what stands once these rows are nodes too
abbrev pub all_made : List FlatNode → List (Place × NodeTree) → List (Place × NodeTree)
all_made [] ms = ms
all_made (x ∷ xs) ms = (x.home, node_made x (all_made xs ms)) ∷ node_left x (all_made xs ms)

-- how many contents a row, and a region, has: outputs are counted by the op and the regions
abbrev pub part_size : FlatRegion → ℕ
part_size r = 1 + length r.args + length r.results

abbrev pub parts_size : List FlatRegion → ℕ
parts_size [] = 0
parts_size (r ∷ rs) = part_size r + parts_size rs

abbrev pub outputs_count : Op → List FlatRegion → ℕ
outputs_count Gamma [] = 0
outputs_count Gamma (r ∷ rs) = length r.results
outputs_count Theta [] = 0
outputs_count Theta (r ∷ rs) = length r.args
outputs_count op rs = length (op_outputs op)

abbrev pub row_size : FlatNode → ℕ
row_size x = 1 + length x.inputs + outputs_count x.op x.regions + parts_size x.regions

abbrev pub rows_size : List FlatNode → ℕ
rows_size [] = 0
rows_size (x ∷ xs) = row_size x + rows_size xs
