use Rattle.std.proofs.Common.{◌∙◌}
use Rattle.c_interp.proofs.Newest.{newest_set}
use Rattle.c_interp.proofs.streams.replace_newest.Goals as goal

pub returns : goal.returns
returns c = λ few w e. newest_set c.args.operands.now.items few c.args.v w c.len-count.result e (c.len-count.ensures ∙ c.args.operands.now.ok.0)
