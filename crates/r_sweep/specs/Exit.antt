-- An exit variable that may go.
use Rattle.std.specs.Prelude.{◌≡◌, ℕ, ◌<◌, false, IsSome, length, slice_get, option_and_then}
use Rattle.std.specs.declared.option.Option.TheVariants.{Some}
use Rattle.g_graph.specs.declared.op.Origin.TheVariants.{Out}
use Rattle.g_arena_def.specs.Flat.{FlatRegion, FlatNode, Flat, same_node}
use Rattle.g_arena_def.specs.Reads.{found, uses_in}

-- Node n is in no region of its own, its output has no use, and each of its regions has the result.
pub record IsExit (n count port : ℕ) (a : Flat) : Type 0 where
  pub node : FlatNode
  pub there : found n a.nodes ≡ Some node
  pub number : node.id ≡ n
  pub apart : same_node node.home.node (Some n) ≡ false
  pub output : port < length node.outputs
  pub unused : uses_in node.home (Out n port) a ≡ 0
  pub results : (j : ℕ) → j < count → IsSome (option_and_then (λ (r : FlatRegion). slice_get r.results port) (slice_get node.regions j))
