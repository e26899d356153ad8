-- Lambdas as trees: the regionalised value state dependence graph (Reissmann et al., RVSDG: An Intermediate
-- Representation for Optimizing Compilers, 2020), where a region is a list of nodes and a node holds its regions.
use Rattle.std.specs.Prelude.{ℕ, suc, ◌+◌, Bool, true, false, List, [], ◌∷◌, map}
use Rattle.val_core.specs.declared.leaf.Leaf.{Leaf}
use Rattle.val_core.specs.Memory.{BlockShape}
use Rattle.g_graph.specs.declared.op.Kind.{Kind}
use Rattle.g_graph.specs.declared.op.Op.{Op}
use Rattle.g_graph.specs.declared.op.Origin.{Origin}
use Rattle.g_graph.specs.declared.link.Link.{Link}

mutual
  pub data RegionTree : Type 0 where
    region : (args : List Kind) → (nodes : NodeTrees) → (results : List Origin) → RegionTree

  pub data NodeTree : Type 0 where
    node : (id : ℕ) → (op : Op) → (inputs : List Origin) → (regions : RegionTrees) → NodeTree

  pub data NodeTrees : Type 0 where
    no_nodes : NodeTrees
    node_then : NodeTree → NodeTrees → NodeTrees

  pub data RegionTrees : Type 0 where
    no_regions : RegionTrees
    region_then : RegionTree → RegionTrees → RegionTrees

abbrev pub nodes_of : List NodeTree → NodeTrees
nodes_of [] = no_nodes
nodes_of (x ∷ xs) = node_then x (nodes_of xs)

abbrev pub regions_of : List RegionTree → RegionTrees
regions_of [] = no_regions
regions_of (r ∷ rs) = region_then r (regions_of rs)

abbrev pub count_of : RegionTrees → ℕ
count_of no_regions = 0
count_of (region_then r rs) = suc (count_of rs)

abbrev pub id_of : NodeTree → ℕ
id_of (node id op inputs rs) = id

abbrev pub args_of : RegionTree → List Kind
args_of (region args nodes results) = args

abbrev pub results_of : RegionTree → List Origin
results_of (region args nodes results) = results

abbrev pub op_of : NodeTree → Op
op_of (node id op inputs rs) = op

abbrev pub inputs_in : NodeTree → List Origin
inputs_in (node id op inputs rs) = inputs

abbrev pub regions_in : NodeTree → RegionTrees
regions_in (node id op inputs rs) = rs

abbrev pub has_none : RegionTrees → Bool
has_none no_regions = true
has_none (region_then r rs) = false

abbrev pub nodes_in : RegionTree → NodeTrees
nodes_in (region args nodes results) = nodes

-- how many regions and nodes there are
abbrev mutual
  pub region_size : RegionTree → ℕ
  region_size (region args nodes results) = suc (nodes_size nodes)

  pub node_size : NodeTree → ℕ
  node_size (node id op inputs rs) = suc (regions_size rs)

  pub nodes_size : NodeTrees → ℕ
  nodes_size no_nodes = 0
  nodes_size (node_then x xs) = node_size x + nodes_size xs

  pub regions_size : RegionTrees → ℕ
  regions_size no_regions = 0
  regions_size (region_then r rs) = region_size r + regions_size rs

-- a memory object of a lambda
pub record PlainObject : Type 0 where
  pub size : ℕ
  pub leaves : List Leaf

pub record PlainLambda : Type 0 where
  pub number : ℕ
  pub params : ℕ
  pub objects : List PlainObject
  pub body : RegionTree
  pub next : ℕ

-- a global: its first bytes, the links in it, its leaves, and whether it never changes
pub record PlainDelta : Type 0 where
  pub bytes : List ℕ
  pub links : List Link
  pub leaves : List Leaf
  pub fixed : Bool

-- a program: its functions, its globals, and the functions' names
pub record PlainOmega : Type 0 where
  pub lambdas : List PlainLambda
  pub deltas : List PlainDelta
  pub names : List (List ℕ)

-- the shapes of the blocks of objects
abbrev pub shapes_of : List PlainObject → List BlockShape
shapes_of objects = map (λ o. record { size = o.size; leaves = o.leaves }) objects
