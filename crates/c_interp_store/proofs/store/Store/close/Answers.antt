use Rattle.std.proofs.Common.{refl, ◌∙◌, ap, take, ◌-◌}
use Rattle.c_interp_store.specs.Holding.{opened_of}
use Rattle.c_interp_store.proofs.Holding.{dropped}
use Rattle.c_interp_store.proofs.store.Store.close.Goals as goal

pub returns : goal.returns
returns c = λ calls m h.
    dropped c.args.self.now _ (opened_of c.args.objects) calls m h
    (c.truncate.ensures.items ∙ ap (λ k. take k c.args.self.now.blocks.items) (c.saturating_sub-left.ensures ∙ ap (λ n. n - c.args.objects.count) (c.len.ensures ∙ c.args.self.now.blocks.ok.0))) refl
