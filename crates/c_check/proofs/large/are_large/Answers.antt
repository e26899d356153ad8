use Rattle.c_check.proofs.LargeLemmas.{end-first}
use Rattle.c_check.proofs.large.are_large.Goals as goal

pub loop-t-init : goal.loop-t-init
loop-t-init c = end-first c.args.types.now c.args.members.now c.requires
