-- The loop over the functions: the graphs of those before are drawn.
use Rattle.std.proofs.Common.{map}
use Rattle.std.specs.Arc.{arc_value}
use Rattle.cc_view_source.specs.Drawn.{AreShown}
use Rattle.cc_view_source.proofs.all.graphs.Given as goal

-- the functions so far are shown
abbrev pub invariant-loop-function : goal.invariant-loop-function
invariant-loop-function l = AreShown l.drawing l.names (map arc_value l.answers) l.function l.out.items
