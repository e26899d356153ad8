-- What the sweep knows of a node before it asks and changes it.
use Rattle.std.specs.Prelude.{◌≡◌, ℕ, suc, ◌<◌, ◌≤◌, false, if◌then◌else◌, IsSome, length, slice_get, option_and_then}
use Rattle.std.specs.declared.option.Option.TheVariants.{Some}
use Rattle.g_graph.specs.declared.op.Origin.TheVariants.{Arg, Out}
use Rattle.g_graph.specs.WellFormed.{is_origin}
use Rattle.g_arena_def.specs.Flat.{FlatRegion, FlatNode, Flat, place_in, same_node}
use Rattle.g_arena_def.specs.Reads.{found, uses_in}
use Rattle.r_dne.specs.declared.judging.Shape.{Shape}

pub record IsShape (s : Shape) (a : Flat) : Type 0 where
  pub node : FlatNode
  pub there : found s.node a.nodes ≡ Some node
  pub op : s.op ≡ node.op
  pub home : s.home ≡ node.home
  pub inputs : s.inputs ≡ length node.inputs
  pub outputs : s.outputs ≡ length node.outputs
  pub regions : s.regions ≡ length node.regions

-- Node n is in no region of its own, has more than so many inputs, and each of its regions has so many arguments.
pub record HasEntries (n regions count : ℕ) (a : Flat) : Type 0 where
  pub node : FlatNode
  pub there : found n a.nodes ≡ Some node
  pub number : node.id ≡ n
  pub apart : same_node node.home.node (Some n) ≡ false
  pub inputs : count < length node.inputs
  pub args : (j k : ℕ) → j < regions → k < count → IsSome (option_and_then (λ (r : FlatRegion). slice_get r.args k) (slice_get node.regions j))

-- A loop variable of node n that may go: its output has no use, and its argument at most the one in its own result.
pub record IsVariable (n k : ℕ) (a : Flat) : Type 0 where
  pub node : FlatNode
  pub there : found n a.nodes ≡ Some node
  pub number : node.id ≡ n
  pub apart : same_node node.home.node (Some n) ≡ false
  pub output : k < length node.outputs
  pub input : k < length node.inputs
  pub region : FlatRegion
  pub regions : slice_get node.regions 0 ≡ Some region
  pub argument : k < length region.args
  pub result : suc k < length region.results
  pub unused : uses_in node.home (Out n k) a ≡ 0
  pub own : uses_in (place_in n 0) (Arg k) a ≤ (if is_origin (slice_get region.results (suc k)) (Arg k) then 1 else 0)
