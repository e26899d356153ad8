use Rattle.std.proofs.Common.{◌≡◌, sym, subst, true}
use Rattle.c_interp_store.specs.Ascending.{ascends, IsFoundAt, IsAbsent}
use Rattle.c_interp_store.specs.Blocks.{number_of}
use Rattle.c_interp_store.proofs.Holding.{holds_ascends, named_at, named_other, named_absent}
use Rattle.c_interp_store.proofs.store.Store.find.Goals as goal

pub returns-in-Some-clause-named : goal.returns-in-Some-clause-named
returns-in-Some-clause-named c = λ calls m h.
    let found = subst (λ bs. IsFoundAt number_of bs c.args.name.number c.in-Some.i) c.deref.ensures.value c.in-Some.ensures.some in
    named_at c.args.self.now calls c.args.name m h c.in-Some.i c.index.result.now found c.index.ensures c.if-index-name.true

pub returns-in_default-clause-named : goal.returns-in_default-clause-named
returns-in_default-clause-named c = λ calls m h.
    let found = subst (λ bs. IsFoundAt number_of bs c.args.name.number c.in-Some.i) c.deref.ensures.value c.in-Some.ensures.some in
    named_other c.args.self.now calls c.args.name m h c.in-Some.i c.index.result.now found c.index.ensures c.if-index-name.false

pub returns-in_default-2-clause-named : goal.returns-in_default-2-clause-named
returns-in_default-2-clause-named c = λ calls m h.
    let none = subst (λ bs. IsAbsent number_of bs c.args.name.number) c.deref.ensures.value
    (c.in_default.ensures.none (subst (λ bs. ascends number_of 0 bs ≡ true) (sym c.deref.ensures.value) (holds_ascends c.args.self.now calls m h))) in
    named_absent c.args.self.now calls c.args.name m h none
