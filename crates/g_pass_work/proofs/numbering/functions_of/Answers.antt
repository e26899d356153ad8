use Rattle.g_pass_work.proofs.Numbers.{functions-more}
use Rattle.g_pass_work.proofs.numbering.functions_of.Goals as goal

pub loop-function-preserved : goal.loop-function-preserved
loop-function-preserved c =
    functions-more c.args.stale.now c.loop-function.function c.is_stale.result c.loop-function.functions.items c.push_if.new.list.items c.loop-function.invariant c.is_stale.ensures
    c.in_ok-push_if.ensures
