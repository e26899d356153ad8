-- What is asked of a list of nodes: a node by its number, its neighbours, a region by its place, and the kind and the
-- uses of an origin.
use Rattle.std.specs.Prelude.{ℕ, ◌+◌, ◌==◌, if◌then◌else◌, option_map, option_and_then, List, [], ◌∷◌, map, length, slice_get}
use Rattle.std.specs.declared.option.Option.{Option}
use Rattle.std.specs.declared.option.Option.TheVariants.{Some, None}
use Rattle.g_graph.specs.declared.op.Kind.{Kind}
use Rattle.g_graph.specs.declared.op.Op.{Op}
use Rattle.g_graph.specs.declared.op.Origin.{Origin}
use Rattle.g_graph.specs.declared.op.Origin.TheVariants.{Arg, Out}
use Rattle.g_graph.specs.Scope.{same_origin}
use Rattle.cell_lists.specs.Lists.{first_or, last_or, before_in, after_in}
use Rattle.g_arena_def.specs.declared.place.Place.{Place}
use Rattle.g_arena_def.specs.Flat.{FlatRegion, FlatNode, Flat, same_place}

-- the first node of this number
abbrev pub found : ℕ → List FlatNode → Option FlatNode
found n [] = None
found n (x ∷ xs) = if x.id == n then Some x else found n xs

-- the numbers of the nodes
abbrev pub ids : Flat → List ℕ
ids a = map (λ (x : FlatNode). x.id) a.nodes

-- the first and the last node, and the neighbours of a node
abbrev pub first_node : Flat → Option ℕ
first_node a = first_or None (ids a)

abbrev pub last_node : Flat → Option ℕ
last_node a = last_or None (ids a)

abbrev pub node_before : ℕ → Flat → Option ℕ
node_before n a = before_in None n (ids a)

abbrev pub node_after : ℕ → Flat → Option ℕ
node_after n a = after_in n (ids a)

abbrev pub pair_of : Option ℕ → Option ℕ → Option (ℕ × ℕ)
pair_of None y = None
pair_of (Some x) None = None
pair_of (Some x) (Some y) = Some (x, y)

abbrev pub ends_of : Flat → Option (ℕ × ℕ)
ends_of a = pair_of (first_node a) (last_node a)

-- what is told of a node
pub record View : Type 0 where
  pub op : Op
  pub inputs : List Origin
  pub outputs : ℕ
  pub regions : ℕ
  pub home : Place
  pub before : Option ℕ
  pub after : Option ℕ

abbrev pub view_of : ℕ → Flat → Option View
view_of n a = option_map (λ (x : FlatNode). record {
  op = x.op;
  inputs = x.inputs;
  outputs = length x.outputs;
  regions = length x.regions;
  home = x.home;
  before = node_before n a;
  after = node_after n a;
}) (found n a.nodes)

-- the region at a place
abbrev pub region_of : Option ℕ → (index : ℕ) → Flat → Option FlatRegion
region_of None k a = if k == 0 then Some a.body else None
region_of (Some n) k a = option_and_then (λ (x : FlatNode). slice_get x.regions k) (found n a.nodes)

abbrev pub region_at : Place → Flat → Option FlatRegion
region_at p a = region_of p.node p.region a

-- a result of a region
abbrev pub result_at : Place → (index : ℕ) → Flat → Option Origin
result_at p k a = option_and_then (λ (r : FlatRegion). slice_get r.results k) (region_at p a)

-- the kind of an output of a node, where it stands at the place
abbrev pub output_kind : Place → (port : ℕ) → FlatNode → Option Kind
output_kind p k x = if same_place x.home p then slice_get x.outputs k else None

-- the kind of an origin in a region: None where it is not there
abbrev pub kind_in : Place → Origin → Flat → Option Kind
kind_in p (Arg k) a = option_and_then (λ (r : FlatRegion). slice_get r.args k) (region_at p a)
kind_in p (Out n k) a = option_and_then (output_kind p k) (found n a.nodes)

-- how often an origin stands in a list, as an input of a node of a region, and as a use in the region
abbrev pub times : Origin → List Origin → ℕ
times o [] = 0
times o (x ∷ xs) = (if same_origin o x then 1 else 0) + times o xs

abbrev pub times_at : Place → Origin → FlatNode → ℕ
times_at p o x = if same_place x.home p then times o x.inputs else 0

abbrev pub input_uses : Place → Origin → List FlatNode → ℕ
input_uses p o [] = 0
input_uses p o (x ∷ xs) = times_at p o x + input_uses p o xs

abbrev pub result_uses : Origin → Option FlatRegion → ℕ
result_uses o None = 0
result_uses o (Some r) = times o r.results

abbrev pub uses_in : Place → Origin → Flat → ℕ
uses_in p o a = input_uses p o a.nodes + result_uses o (region_at p a)
