use Rattle.std.proofs.Common.{arith}
use Rattle.g_pass_work.proofs.Numbers.{stale-read}
use Rattle.g_pass_work.proofs.numbering.is_stale.Goals as goal

pub returns : goal.returns
returns c = stale-read c.args.stale.now c.args.function (omega arith)
