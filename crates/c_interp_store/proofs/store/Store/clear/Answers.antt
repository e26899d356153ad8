use Rattle.std.proofs.Common.{◌≡◌, refl, sym, subst, true}
use Rattle.std.specs.Vec.{with_item}
use Rattle.val_core.specs.declared.values.Value.{Value}
use Rattle.val_core.specs.Memory.{cleared_at}
use Rattle.c_interp_store.specs.declared.store.Store.{Store}
use Rattle.c_interp_store.specs.Ascending.{ascends, IsFoundAt, IsAbsent}
use Rattle.c_interp_store.specs.Blocks.{number_of}
use Rattle.c_interp_store.specs.Holding.{IsChanged}
use Rattle.c_interp_store.proofs.Holding.{holds_ascends, cleared_listed, cleared_absent}
use Rattle.c_interp_store.proofs.store.Store.clear.Goals as goal

pub returns-in-Some : goal.returns-in-Some
returns-in-Some c = λ calls m h.
    let found = subst (λ bs. IsFoundAt number_of bs c.in-At.block.number c.in-Some.i) c.deref.ensures.value c.in-Some.ensures.some in
    let t : Store = record { blocks = with_item c.args.self.now.blocks c.in-Some.i c.clear.new.self; made = c.args.self.now.made } in
    subst (λ (a : Value). IsChanged calls (cleared_at a m) t true) (sym c.in-At.is) (
      refl,
      cleared_listed c.args.self.now t calls m h c.in-At.block c.in-Some.i found c.index_mut.result.now c.clear.new.self c.index_mut.ensures.value c.clear.ensures.zeroed c.clear.ensures.number
          refl refl,
    )

pub returns-in_default-block_index : goal.returns-in_default-block_index
returns-in_default-block_index c = λ calls m h.
    let up = subst (λ bs. ascends number_of 0 bs ≡ true) (sym c.deref.ensures.value) (holds_ascends c.args.self.now calls m h) in
    let none = subst (λ bs. IsAbsent number_of bs c.in-At.block.number) c.deref.ensures.value (c.in_default-block_index.ensures.none up) in
    let t : Store = record { blocks = c.args.self.now.blocks; made = c.args.self.now.made } in
    subst (λ (a : Value). IsChanged calls (cleared_at a m) t true) (sym c.in-At.is)
    (refl, cleared_absent t calls m h c.in-At.block none)
