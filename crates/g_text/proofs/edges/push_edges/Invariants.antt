-- The edges so far are written.
use Rattle.std.proofs.Common.{◌≡◌, ◌++◌, take, flat_map}
use Rattle.g_text.specs.Edges.{edge_text}
use Rattle.g_text.proofs.edges.push_edges.Given as goal

-- the edges so far are written
abbrev pub invariant-loop-edge : goal.invariant-loop-edge
invariant-loop-edge l = l.out.items ≡ l.fn.out.items ++ flat_map edge_text (take l.edge-index l.edges)
