-- Sweeps over one arena are the sweeps.
use Rattle.g_pass.proofs.FastSweeps.{each_ok}
use Rattle.g_pass.proofs.fast.swept_together.Goals as goal

pub returns-clause-ok : goal.returns-clause-ok
returns-clause-ok c = λ callees. each_ok c.swept_in.result callees c.args.sweeps.now c.requires.in_arena c.args.lambda c.args.log.now.items c.swept_in.new.log.items c.swept_in.ensures.ok
