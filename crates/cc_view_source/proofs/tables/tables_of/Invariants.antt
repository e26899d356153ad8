-- The loop over the functions: the tables of those before are written.
use Rattle.std.proofs.Common.{map}
use Rattle.std.specs.Arc.{arc_value}
use Rattle.cc_view_source.specs.Tables.{AreTables}
use Rattle.cc_view_source.proofs.tables.tables_of.Given as goal

-- the tables so far
abbrev pub invariant-loop-function : goal.invariant-loop-function
invariant-loop-function l = AreTables l.recipe l.made.omega (map arc_value l.made.answers.items) l.function l.out.items
