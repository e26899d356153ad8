-- The edges of a lambda, one for each input of a node and for each result of a region, and their lines.
use Rattle.std.specs.Prelude.{ℕ, ◌+◌, Bool, true, false, List, [], ◌∷◌, ◌++◌, codes, decimal}
use Rattle.g_graph.specs.declared.op.Origin.{Origin}
use Rattle.g_graph.specs.declared.op.Origin.TheVariants.{Arg, Out}
use Rattle.g_graph.specs.Plain.{RegionTree, region, NodeTree, node, NodeTrees, no_nodes, node_then, RegionTrees, no_regions, region_then}
use Rattle.g_text.specs.declared.edges.Place.{Place}
use Rattle.g_text.specs.declared.edges.Place.TheVariants.{Body, Within}
use Rattle.g_text.specs.declared.edges.Target.{Target}
use Rattle.g_text.specs.declared.edges.Target.TheVariants.{Input, Final}
use Rattle.g_text.specs.declared.edges.Ends.{Ends}
use Rattle.g_text.specs.declared.edges.Style.{Style}
use Rattle.g_text.specs.declared.edges.Style.TheVariants.{Plain, Memory, Io, Predicate}
use Rattle.g_text.specs.declared.edges.Edge.{Edge}

-- ---- the edges

-- to the inputs of a node, from this index on
abbrev pub input_edges : Place → (node k : ℕ) → List Origin → List Ends
input_edges place n k [] = []
input_edges place n k (o ∷ os) = record { place = place; origin = o; target = Input n k } ∷ input_edges place n (k + 1) os

-- to the results of a region, from this index on
abbrev pub result_edges : Place → (k : ℕ) → List Origin → List Ends
result_edges place k [] = []
result_edges place k (o ∷ os) = record { place = place; origin = o; target = Final k } ∷ result_edges place (k + 1) os

-- those that start in a region, and in the regions of its nodes
abbrev mutual
  pub region_edges : Place → RegionTree → List Ends
  region_edges place (region args nodes results) = nodes_edges place nodes ++ result_edges place 0 results

  pub node_edges : Place → NodeTree → List Ends
  node_edges place (node id op inputs rs) = input_edges place id 0 inputs ++ regions_edges id 0 rs

  pub nodes_edges : Place → NodeTrees → List Ends
  nodes_edges place no_nodes = []
  nodes_edges place (node_then x xs) = node_edges place x ++ nodes_edges place xs

  pub regions_edges : (node k : ℕ) → RegionTrees → List Ends
  regions_edges n k no_regions = []
  regions_edges n k (region_then r rs) = region_edges (Within n k) r ++ regions_edges n (k + 1) rs

-- ---- their lines

-- what the names of a region's parts begin with
abbrev pub place_text : Place → List ℕ
place_text Body = codes "body"
place_text (Within n k) = codes "n" ++ decimal n ++ codes "_" ++ decimal k

-- outputs of a node with regions leave from its foot
abbrev pub foot_text : (exit : Bool) → List ℕ
foot_text true = codes "_x:o"
foot_text false = codes ":o"

-- an argument stands in the strip on top of its region
abbrev pub source_text : Place → (exit : Bool) → Origin → List ℕ
source_text place exit (Arg k) = place_text place ++ codes "_a:p" ++ decimal k
source_text place exit (Out n p) = codes "n" ++ decimal n ++ foot_text exit ++ decimal p

-- a result stands in the strip below
abbrev pub target_text : Place → Target → List ℕ
target_text place (Input n k) = codes "n" ++ decimal n ++ codes ":i" ++ decimal k
target_text place (Final k) = place_text place ++ codes "_r:p" ++ decimal k

abbrev pub style_text : Style → List ℕ
style_text Plain = codes ""
style_text Memory = codes " [color=\"#b45309\", style=dashed]"
style_text Io = codes " [color=\"#0f766e\", style=dashed]"
style_text Predicate = codes " [color=\"#7c3aed\"]"

abbrev pub edge_text : Edge → List ℕ
edge_text e =
    source_text e.ends.place e.exit e.ends.origin ++ codes ":s -> " ++ target_text e.ends.place e.ends.target ++ codes ":n" ++ style_text e.style ++ codes ";\n"
