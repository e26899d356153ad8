use Rattle.std.proofs.Common.{IsTrue, map}
use Rattle.g_graph.specs.WellFormed.{all_of}
use Rattle.s_linear.specs.Lines.{names_below}
use Rattle.s_linear.specs.Views.{line_of}
use Rattle.g_rows.proofs.code.code_of.Given as goal

-- the names of the lines so far are small
abbrev pub invariant-loop-part : goal.invariant-loop-part
invariant-loop-part l = IsTrue (all_of (names_below 4294967295) (map line_of l.lines.items))
