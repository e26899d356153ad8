-- The edges to the results that are left come after those so far.
use Rattle.std.proofs.Common.{◌≡◌, ◌++◌, drop}
use Rattle.g_text.specs.Edges.{result_edges}
use Rattle.g_text.specs.Drawing.{ends_of}
use Rattle.g_text.proofs.edges.add_results.Given as goal

-- what is left comes after what is there
abbrev pub invariant-loop-index : goal.invariant-loop-index
invariant-loop-index l =
    ends_of l.edges.items ++ result_edges l.place l.index (drop l.index l.results) ≡ ends_of l.fn.edges.items ++ result_edges l.place 0 l.results
