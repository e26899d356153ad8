use Rattle.std.proofs.Common.{refl, arith}
use Rattle.c_interp.proofs.Characters.{characters_more, characters_not, characters_done}
use Rattle.c_interp.proofs.begin.store_characters.Goals as goal

pub loop-c-init : goal.loop-c-init
loop-c-init c = λ calls m h. (m, h, refl)

pub loop-c-preserved : goal.loop-c-preserved
loop-c-preserved c = λ calls m h.
    characters_more c.args.object c.in-Some.to c.loop-c.at c.in-Some-checked_add.next c.args.characters.now c.loop-c.c-index c.from.result calls c.loop-c.store c.store.new.self c.store.result _
    c.loop-c-test.true c.from.ensures c.in-Some.ensures c.in-Some-checked_add.ensures.1 c.if-not-store.false (λ k held. c.store.ensures calls k held) (c.loop-c.invariant calls m h)

pub returns-then-not-store : goal.returns-then-not-store
returns-then-not-store c = λ calls m h.
    characters_not c.args.object c.in-Some.to c.loop-c.at c.args.characters.now c.loop-c.c-index c.from.result calls c.loop-c.store c.store.new.self c.store.result _
    c.loop-c-test.true c.from.ensures c.in-Some.ensures c.if-not-store.true (λ k held. c.store.ensures calls k held) (c.loop-c.invariant calls m h)

pub returns : goal.returns
returns c = λ calls m h. characters_done c.args.object c.loop-c.at c.args.characters.now c.loop-c.c-index calls c.loop-c.store _ (omega arith) (c.loop-c.invariant calls m h)
