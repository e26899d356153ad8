use Rattle.std.proofs.Common.{refl, sym, ap, ◌∙◌, subst}
use Rattle.std.specs.Vec.{with_item}
use Rattle.std.proofs.lemmas.List.{get_or_default}
use Rattle.val_core.specs.declared.values.Value.{Value}
use Rattle.val_core.specs.Memory.{store}
use Rattle.c_interp_store.specs.declared.block.Block.{Block}
use Rattle.c_interp_store.specs.declared.store.Store.{Store}
use Rattle.c_interp_store.specs.Holding.{IsChanged}
use Rattle.c_interp_store.proofs.Holding.{stored}
use Rattle.c_interp_store.proofs.store.Store.store.Goals as goal

pub returns : goal.returns
returns c = λ calls m h.
    let at = c.in-Some-find.ensures.named calls m h in
    let t : Store = record { blocks = with_item c.args.self.now.blocks c.in-Some-find.i c.write.new.self; made = c.args.self.now.made } in
    let same = c.index_mut.ensures.value ∙ get_or_default c.args.self.now.blocks.items c.in-Some-find.i c.index_mut.result.now c.index.result.now c.in-Some-find.ensures.inside ∙ sym c.index.ensures in
    subst (λ (a : Value). IsChanged calls (store c.args.width a c.args.value m) t c.write.result) (sym c.in-At.is)
    (stored calls c.in-At.block m c.args.width c.in-At.offset c.args.value c.args.self.now t h c.in-Some-find.i at c.index_mut.result.now c.index_mut.ensures.value c.in-Some.value c.write.new.self
    c.write.result
    (sym c.in-Some.ensures) (ap (λ (x : Block). x.fixed) same ∙ c.if-index.false) c.write.ensures.there c.write.ensures.written c.write.ensures.number refl refl)
