use Rattle.std.proofs.Common.{◌≡◌, ◌≤◌, ◌+◌, drop}
use Rattle.r_pull.specs.Rule.{other_entries, gone_among}
use Rattle.r_pull.proofs.count.gone_among.Given as goal

abbrev pub invariant-loop-entry : goal.invariant-loop-entry
invariant-loop-entry l = record {
  value : l.gone + gone_among (other_entries l.id (drop l.entry-index l.entries)) l.rest ≡ gone_among (other_entries l.id l.entries) l.args;
  bound : l.gone ≤ l.entry-index;
}
