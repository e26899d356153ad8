use Rattle.std.proofs.Common.{slice_index}
use Rattle.std.proofs.lemmas.List.Elements.{Contains-get_or}
use Rattle.g_pass_work.proofs.Numbers.{mapped-more}
use Rattle.g_pass_work.proofs.numbering.ranks_of.Goals as goal

pub bounds-ranks-function : goal.bounds-ranks-function
bounds-ranks-function c = c.requires _ (Contains-get_or c.args.functions.now c.loop-function.function-index 0 c.loop-function-test.true)

pub loop-function-preserved : goal.loop-function-preserved
loop-function-preserved c =
    mapped-more (slice_index c.args.ranks.now) c.args.functions.now c.loop-function.function-index c.loop-function.own.items c.push.new.self.items c.loop-function-test.true
    c.loop-function.invariant c.in_ok-push.ensures.items
