use Rattle.std.proofs.Common.{IsTrue, nat_lt}
use Rattle.g_graph.specs.WellFormed.{all_of}
use Rattle.g_rows.proofs.code.names.Given as goal

-- the names so far are small
abbrev pub invariant-loop-word : goal.invariant-loop-word
invariant-loop-word l = IsTrue (all_of (λ x. nat_lt x 4294967295) l.names.items)
