-- The kinds so far.
use Rattle.std.proofs.Common.{◌≡◌, map, take}
use Rattle.std.specs.Prelude.{nat_eq}
use Rattle.indexmap.specs.IndexMap.{get}
use Rattle.g_graph.specs.Signatures.{kind_of}
use Rattle.g_arena_nodes.specs.Listed.{kind_at}
use Rattle.g_arena_nodes.proofs.flatten.kinds_in.Given as goal

abbrev pub invariant-loop-origin : goal.invariant-loop-origin
invariant-loop-origin l = l.kinds.items ≡ map (kind_of l.args (λ n p. kind_at (get nat_eq l.outputs n) p)) (take l.origin-index l.origins)
