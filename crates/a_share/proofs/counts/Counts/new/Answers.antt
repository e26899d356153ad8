use Rattle.std.proofs.Common.{refl}
use Rattle.a_share.specs.declared.counts.Counts.{Counts}
use Rattle.a_share.proofs.Counting.{empty_between, empty_counts}
use Rattle.a_share.proofs.counts.Counts.new.Goals as goal

pub returns-clause-counts : goal.returns-clause-counts
returns-clause-counts c =
    let new : Counts = record { sums = c.new.result; size = c.args.size; total = 0 } in empty_counts new c.requires refl c.new.ensures.len

pub returns-clause-none : goal.returns-clause-none
returns-clause-none c = let new : Counts = record { sums = c.new.result; size = c.args.size; total = 0 } in empty_between new c.new.ensures.len
