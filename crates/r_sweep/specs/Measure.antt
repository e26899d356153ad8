-- How large a list of nodes is, node by node, and how many uses name one of some nodes.
use Rattle.std.specs.Prelude.{ℕ, ◌+◌, if◌then◌else◌, List, [], ◌∷◌, length}
use Rattle.std.specs.declared.option.Option.TheVariants.{Some}
use Rattle.g_graph.specs.declared.op.Origin.{Origin}
use Rattle.g_graph.specs.declared.op.Origin.TheVariants.{Arg, Out}
use Rattle.g_arena_def.specs.Flat.{FlatRegion, FlatNode, Flat, is_in}

-- a region with its arguments and results, and a node with its inputs, outputs and regions
abbrev pub region_size : FlatRegion → ℕ
region_size r = 1 + length r.args + length r.results

abbrev pub regions_size : List FlatRegion → ℕ
regions_size [] = 0
regions_size (r ∷ rs) = region_size r + regions_size rs

abbrev pub node_size : FlatNode → ℕ
node_size x = 1 + length x.inputs + length x.outputs + regions_size x.regions

abbrev pub nodes_size : List FlatNode → ℕ
nodes_size [] = 0
nodes_size (x ∷ xs) = node_size x + nodes_size xs

abbrev pub flat_size : Flat → ℕ
flat_size a = region_size a.body + nodes_size a.nodes

-- ---- uses that name an output of one of some nodes

abbrev pub named : List ℕ → List Origin → ℕ
named ns [] = 0
named ns (Arg k ∷ os) = named ns os
named ns (Out n k ∷ os) = (if is_in ns (Some n) then 1 else 0) + named ns os

abbrev pub inputs_named : List ℕ → List FlatNode → ℕ
inputs_named ns [] = 0
inputs_named ns (x ∷ xs) = named ns x.inputs + inputs_named ns xs

abbrev pub regions_named : List ℕ → List FlatRegion → ℕ
regions_named ns [] = 0
regions_named ns (r ∷ rs) = named ns r.results + regions_named ns rs

abbrev pub results_named : List ℕ → List FlatNode → ℕ
results_named ns [] = 0
results_named ns (x ∷ xs) = regions_named ns x.regions + results_named ns xs

abbrev pub flat_named : List ℕ → Flat → ℕ
flat_named ns a = named ns a.body.results + inputs_named ns a.nodes + results_named ns a.nodes
