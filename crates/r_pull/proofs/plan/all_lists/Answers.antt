use Rattle.std.proofs.Common.{length, arith}
use Rattle.r_pull.specs.Rule.{other_entries}
use Rattle.r_pull.proofs.Filled.{made_all}
use Rattle.r_pull.proofs.plan.all_lists.Goals as goal

pub returns : goal.returns
returns c =
    let entries = c.args.form.now.entries.now in
    made_all (other_entries c.args.form.now.id entries) c.args.next (length entries) c.args.form.now.op c.args.form.now.inputs.now c.loop-region.region-index c.loop-region.copy c.args.regions.now
    c.loop-region.lists.items c.loop-region.invariant (omega arith)
