use Rattle.std.proofs.Common.{◌≡◌, drop}
use Rattle.g_graph.specs.WellFormed.{some_of}
use Rattle.r_edit.specs.Entries.{is_gone_argument}
use Rattle.r_pull.specs.Rule.{other_entries}
use Rattle.r_pull.proofs.reads.some_gone.Given as goal

abbrev pub invariant-loop-origin : goal.invariant-loop-origin
invariant-loop-origin l = some_of (is_gone_argument (other_entries l.id l.entries)) (drop l.origin-index l.origins) ≡ some_of (is_gone_argument (other_entries l.id l.entries)) l.origins
