use Rattle.std.proofs.Common.{IsTrue, map}
use Rattle.g_graph.specs.WellFormed.{all_of}
use Rattle.s_linear.specs.Lines.{names_below}
use Rattle.s_linear.specs.Views.{line_of}
use Rattle.c_rows.proofs.places.lines.Given as goal

abbrev pub invariant-loop-name : goal.invariant-loop-name
invariant-loop-name l = IsTrue (all_of (names_below 4294967295) (map line_of l.lines.items))

abbrev pub invariant-loop-name-2 : goal.invariant-loop-name-2
invariant-loop-name-2 l = IsTrue (all_of (names_below 4294967295) (map line_of l.lines.items))
