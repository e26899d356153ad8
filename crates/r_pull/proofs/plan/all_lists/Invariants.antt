use Rattle.std.proofs.Common.{length}
use Rattle.r_pull.specs.Rule.{other_entries}
use Rattle.r_pull.proofs.Filled.{Making}
use Rattle.r_pull.proofs.plan.all_lists.Given as goal

abbrev pub invariant-loop-region : goal.invariant-loop-region
invariant-loop-region l = Making (other_entries l.form.id l.form.entries.now) l.next (length l.form.entries.now) l.form.op l.form.inputs.now l.region-index l.copy l.regions l.lists.items
