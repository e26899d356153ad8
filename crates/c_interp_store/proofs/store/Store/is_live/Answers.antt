use Rattle.std.proofs.Common.{◌∙◌}
use Rattle.c_interp_store.proofs.Holding.{life}
use Rattle.c_interp_store.proofs.store.Store.is_live.Goals as goal

pub returns : goal.returns
returns c = λ calls m h. c.is_some.ensures ∙ life c.args.self.now.blocks.items c.args.name m c.find.result (c.find.ensures.named calls m h)
