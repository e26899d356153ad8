use Rattle.std.proofs.Common.{◌-◌, map, ◌≡◌, ◌+◌, ◌*◌, ◌<◌, sym, ap, ◌∙◌, ◌++◌, arith, append_assoc}
use Rattle.c_type.specs.Layout.{size, leaves_at, repeated}
use Rattle.c_type.proofs.LeafLemmas.{repeated-next}
use Rattle.c_type.proofs.MovedLemmas.{again-last, leaves-can-move, next-element, room-again}
use Rattle.c_type.specs.Moved.{moved}
use Rattle.c_type.proofs.listing.list_elements.Goals as goal

pub push_again-requires-clause-room : goal.push_again-requires-clause-room
push_again-requires-clause-room c =
    let defs = c.args.types.now in
    let i = c.loop-i._i in
    let s = c.size_of-stride.result in
    let pos : 0 < i = omega arith in
    let room = room-again c.args.at c.args.count s (size defs c.args.of.now) i c.size_of-stride.ensures c.requires.room pos c.loop-i-test.true in
    rw c.loop-i.invariant.last (leaves-can-move s defs c.args.of.now (c.args.at + (i - 1) * s) room)

pub loop-i-preserved : goal.loop-i-preserved
loop-i-preserved c =
    let defs = c.args.types.now in
    let f = leaves_at defs c.args.of.now in
    let i = c.loop-i._i in
    let s = c.size_of-stride.result in
    let out = c.loop-i.out.items in
    let new = c.push_again.new.out.items in
    let old = c.args.out.now.items in
    let pos : 0 < i = omega arith in
    let prev = f (c.args.at + (i - 1) * s) in
    let next = next-element defs c.args.of.now c.args.at s i pos in
    let inv = c.loop-i.invariant in
    let is : new ≡ out ++ map (moved s) prev = c.in_ok-push_again.ensures ∙ ap (λ r. out ++ map (moved s) r) inv.last in
    let a = again-last out new prev _ s inv.room inv.last is in
    let back : i + 1 - 1 ≡ i = omega arith in
    record {
      whole = is
          ∙ ap (λ r. out ++ r) (sym next)
          ∙ ap (λ r. r ++ f (c.args.at + i * s)) inv.whole
          ∙ append_assoc old (repeated (i - 1) s (c.args.at + s) f) (f (c.args.at + i * s))
          ∙ ap (λ r. old ++ r) (sym (repeated-next i s c.args.at f pos))
          ∙ ap (λ k. old ++ repeated k s (c.args.at + s) f) (sym back);
      last = a.1 ∙ sym next ∙ ap (λ k. f (c.args.at + k * s)) (sym back);
      room = a.0;
    }
