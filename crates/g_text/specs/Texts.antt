-- The text of a lambda: a line for each thing, and what belongs to it below, two blanks deeper.
use Rattle.std.specs.Prelude.{ℕ, zero, suc, ◌+◌, List, [], ◌∷◌, ◌++◌, map, codes, decimal, flat_map}
use Rattle.std.specs.declared.option.Option.{Option}
use Rattle.std.specs.declared.option.Option.TheVariants.{Some, None}
use Rattle.val_core.specs.declared.leaf.Leaf.{Leaf}
use Rattle.g_graph.specs.declared.op.Kind.{Kind}
use Rattle.g_graph.specs.declared.op.Kind.TheVariants.{Value, Memory, Io}
use Rattle.g_graph.specs.declared.op.Origin.{Origin}
use Rattle.g_graph.specs.declared.op.Origin.TheVariants.{Arg, Out}
use Rattle.g_graph.specs.declared.op.Op.{Op}
use Rattle.g_graph.specs.declared.op.Op.TheVariants.{Const, Undef, Local, Delta, Bin, Un, Load, Store, Clear, PtrEq, Apply, Put, Exit, Get, Gamma, Theta}
use Rattle.g_graph.specs.Plain.{RegionTree, region, NodeTree, node, NodeTrees, no_nodes, node_then, RegionTrees, no_regions, region_then, PlainObject, PlainLambda}
use Rattle.g_graph.specs.Signatures.{outputs_of}
use Rattle.g_graph.specs.Count.{saturated, region_values}
use Rattle.g_text.specs.Ops.{binary_name, unary_name}

-- a word, a blank and a number
abbrev pub numbered : (word : List ℕ) → ℕ → List ℕ
numbered word n = word ++ codes " " ++ decimal n

-- ---- kinds and origins

-- `?` is the output of a node that is not well formed
abbrev pub kind_text : Option Kind → List ℕ
kind_text (Some Value) = codes "v"
kind_text (Some Memory) = codes "m"
kind_text (Some Io) = codes "i"
kind_text None = codes "?"

-- a blank before the letters, if there are any
abbrev pub kinds_text : List (Option Kind) → List ℕ
kinds_text [] = []
kinds_text (k ∷ ks) = codes " " ++ flat_map kind_text (k ∷ ks)

abbrev pub out_text : (node port : ℕ) → List ℕ
out_text n zero = codes "n" ++ decimal n
out_text n (suc p) = codes "n" ++ decimal n ++ codes "." ++ decimal (suc p)

abbrev pub origin_text : Origin → List ℕ
origin_text (Arg k) = codes "a" ++ decimal k
origin_text (Out n p) = out_text n p

-- a blank before each
abbrev pub origins_text : List Origin → List ℕ
origins_text = flat_map (λ o. codes " " ++ origin_text o)

-- a blank between two
abbrev pub inputs_text : List Origin → List ℕ
inputs_text [] = []
inputs_text (o ∷ os) = origin_text o ++ origins_text os

-- ---- nodes and regions

abbrev pub op_text : Op → List ℕ
op_text (Const w) = numbered (codes "Const") w
op_text Undef = codes "Undef"
op_text (Local k) = numbered (codes "Local") k
op_text (Delta k) = numbered (codes "Delta") k
op_text (Bin op) = binary_name op
op_text (Un op) = unary_name op
op_text (Load width) = numbered (codes "Load") width
op_text (Store width) = numbered (codes "Store") width
op_text (Clear k) = numbered (codes "Clear") k
op_text PtrEq = codes "PtrEq"
op_text (Apply f) = numbered (codes "Apply") f
op_text Put = codes "Put"
op_text Exit = codes "Exit"
op_text Get = codes "Get"
op_text Gamma = codes "Gamma"
op_text Theta = codes "Theta"

-- the blanks of a line so deep
abbrev pub blanks : ℕ → List ℕ
blanks zero = []
blanks (suc depth) = codes "  " ++ blanks depth

-- the depth of what belongs to a line; no memory has room for a line of the last depth
abbrev pub deeper : ℕ → ℕ
deeper depth = saturated (depth + 1)

abbrev pub args_line : (depth : ℕ) → List Kind → List ℕ
args_line depth args = blanks depth ++ codes "args" ++ kinds_text (map Some args) ++ codes "\n"

abbrev pub results_line : (depth : ℕ) → List Origin → List ℕ
results_line depth results = blanks depth ++ codes "results" ++ origins_text results ++ codes "\n"

-- the line of a node up to the inputs
abbrev pub node_start : (depth id : ℕ) → Op → List Origin → List ℕ
node_start depth id op inputs =
    blanks depth ++ decimal id ++ codes ": " ++ op_text op ++ codes " (" ++ inputs_text inputs ++ codes ") ->"

abbrev pub region_line : (depth index : ℕ) → List ℕ
region_line depth index = blanks depth ++ numbered (codes "region") index ++ codes "\n"

-- `regions_text` counts the regions from `index` on
abbrev mutual
  pub region_text : (depth : ℕ) → RegionTree → List ℕ
  region_text depth (region args nodes results) = args_line depth args ++ nodes_text depth nodes ++ results_line depth results

  pub node_text : (depth : ℕ) → NodeTree → List ℕ
  node_text depth (node id op inputs rs) =
      (node_start depth id op inputs ++ kinds_text (outputs_of op rs) ++ codes "\n") ++ regions_text (deeper depth) 0 rs

  pub nodes_text : (depth : ℕ) → NodeTrees → List ℕ
  nodes_text depth no_nodes = []
  nodes_text depth (node_then x xs) = node_text depth x ++ nodes_text depth xs

  pub regions_text : (depth index : ℕ) → RegionTrees → List ℕ
  regions_text depth index no_regions = []
  regions_text depth index (region_then r rs) = (region_line depth index ++ region_text (deeper depth) r) ++ regions_text depth (index + 1) rs

-- ---- lambdas

abbrev pub leaf_text : Leaf → List ℕ
leaf_text l = codes " " ++ decimal l.offset ++ codes ":" ++ decimal l.width

abbrev pub leaves_text : List Leaf → List ℕ
leaves_text leaves = codes " leaves" ++ flat_map leaf_text leaves ++ codes "\n"

abbrev pub object_text : (index : ℕ) → PlainObject → List ℕ
object_text index o = numbered (codes "  object") index ++ numbered (codes " size") o.size ++ leaves_text o.leaves

-- the objects, from this index on
abbrev pub objects_text : (index : ℕ) → List PlainObject → List ℕ
objects_text index [] = []
objects_text index (o ∷ os) = object_text index o ++ objects_text (index + 1) os

abbrev pub head_text : (name : List ℕ) → PlainLambda → List ℕ
head_text name l =
    numbered (codes "function") l.number ++ codes " " ++ name ++ numbered (codes " params") l.params ++ numbered (codes " values") (saturated (region_values l.body))
    ++ numbered (codes " next") l.next ++ codes "\n"

-- the function of this name
abbrev pub lambda_text : (name : List ℕ) → PlainLambda → List ℕ
lambda_text name l = head_text name l ++ objects_text 0 l.objects ++ region_text 1 l.body
