use Rattle.std.proofs.Common.{IsTrue, nat_lt}
use Rattle.g_graph.specs.WellFormed.{all_of}
use Rattle.c_rows.proofs.places.read_all.Given as goal

abbrev pub invariant-loop-name : goal.invariant-loop-name
invariant-loop-name l = IsTrue (all_of (λ x. nat_lt x 4294967295) l.arguments.items)
