-- A sweep over an arena is the sweep.
use Rattle.std.proofs.Common.{map, sym, ◌∙◌}
use Rattle.std.specs.Arc.{arc_value}
use Rattle.g_pass_def.specs.Answers.{lambdas_of}
use Rattle.g_pass.proofs.FastSweeps.{alone_ok, not_inline}
use Rattle.g_pass.proofs.fast.swept_whole.Goals as goal

pub returns-then-is_in_arena-clause-ok : goal.returns-then-is_in_arena-clause-ok
returns-then-is_in_arena-clause-ok c =
    alone_ok c.swept_in.result c.args.rule (lambdas_of (map arc_value c.args.callees.now)) c.args.lambda c.args.log.now.items c.swept_in.new.log.items
    (not_inline c.args.rule (sym c.is_in_arena.ensures ∙ c.if-is_in_arena.true)) c.swept_in.ensures.ok
