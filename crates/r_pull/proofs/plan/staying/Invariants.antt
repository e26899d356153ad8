use Rattle.std.proofs.Common.{◌≡◌, take}
use Rattle.r_pull.specs.Rule.{other_entries}
use Rattle.r_pull.proofs.plan.staying.Given as goal

abbrev pub invariant-loop-entry : goal.invariant-loop-entry
invariant-loop-entry l = l.stays.items ≡ other_entries l.id (take l.entry-index l.entries)
