use Rattle.std.proofs.Common.{◌≡◌, ◌+◌, ◌^◌, ◌<◌, ◌≤◌, ap, ◌∙◌, subst, arith}
use Rattle.base.specs.Limits.{most_type_bytes}
use Rattle.c_type.specs.Layout.{align, rounded_up, size}
use Rattle.c_type.specs.LaidUpTo.{LaidUpTo}
use Rattle.c_type.proofs.MemberLemmas.{at-member}
use Rattle.c_type.proofs.LayLemmas.{nothing-laid, one-laid, too-large-end, lay-room, lay-next}
use Rattle.c_type.proofs.defining.lay_out.Goals as goal

pub loop-t-init : goal.loop-t-init
loop-t-init c = rw c.new-offsets.ensures.items (nothing-laid c.args.types.now c.args.members.now c.requires)

pub rounded_up-offset-requires-clause-positive : goal.rounded_up-offset-requires-clause-positive
rounded_up-offset-requires-clause-positive c =
    let defs = c.args.types.now in
    let ms = c.args.members.now in
    let t = c.t-item.result in
    let at = at-member ms c.loop-t.t-index t c.loop-t-test.true c.t-item.is in
    let l = subst (λ r. LaidUpTo defs ms r c.loop-t.offsets.items c.loop-t.end c.loop-t.align) at c.loop-t.invariant in
    let n = lay-next defs c.loop-t.end t l.small l.laid_out.0 in
    omega (arith, n.0, c.align_of-own.ensures)

pub rounded_up-offset-requires-clause-room : goal.rounded_up-offset-requires-clause-room
rounded_up-offset-requires-clause-room c =
    let defs = c.args.types.now in
    let ms = c.args.members.now in
    let t = c.t-item.result in
    let at = at-member ms c.loop-t.t-index t c.loop-t-test.true c.t-item.is in
    let l = subst (λ r. LaidUpTo defs ms r c.loop-t.offsets.items c.loop-t.end c.loop-t.align) at c.loop-t.invariant in
    let n = lay-next defs c.loop-t.end t l.small l.laid_out.0 in
    omega (arith, n.1, c.align_of-own.ensures)

pub overflow_add-end : goal.overflow_add-end
overflow_add-end c =
    let defs = c.args.types.now in
    let ms = c.args.members.now in
    let t = c.t-item.result in
    let at = at-member ms c.loop-t.t-index t c.loop-t-test.true c.t-item.is in
    let l = subst (λ r. LaidUpTo defs ms r c.loop-t.offsets.items c.loop-t.end c.loop-t.align) at c.loop-t.invariant in
    let n = lay-next defs c.loop-t.end t l.small l.laid_out.0 in
    let e : c.rounded_up-offset.result ≡ rounded_up c.loop-t.end (align defs t) = c.rounded_up-offset.ensures ∙ ap (rounded_up c.loop-t.end) c.align_of-own.ensures in
    let k : c.rounded_up-offset.result + c.size_of.result < 2 ^ 32 = rw (e, c.size_of.ensures) n.2 in
    omega (arith, k)

pub loop-t-preserved : goal.loop-t-preserved
loop-t-preserved c =
    let defs = c.args.types.now in
    let ms = c.args.members.now in
    let t = c.t-item.result in
    let at = at-member ms c.loop-t.t-index t c.loop-t-test.true c.t-item.is in
    let l = subst (λ r. LaidUpTo defs ms r c.loop-t.offsets.items c.loop-t.end c.loop-t.align) at c.loop-t.invariant in
    let e : c.rounded_up-offset.result ≡ rounded_up c.loop-t.end (align defs t) = c.rounded_up-offset.ensures ∙ ap (rounded_up c.loop-t.end) c.align_of-own.ensures in
    let small : rounded_up c.loop-t.end (align defs t) + size defs t ≤ most_type_bytes = rw (e, c.size_of.ensures) at c.if-end-gt-MOST_TYPE_BYTES.false in
    rw (c.in_ok-push.ensures.items, c.max-align.ensures, e, c.size_of.ensures, c.align_of-own.ensures) (one-laid defs ms t _ _ _ _ l small)

pub returns-then-end-gt-MOST_TYPE_BYTES-clause-too_large : goal.returns-then-end-gt-MOST_TYPE_BYTES-clause-too_large
returns-then-end-gt-MOST_TYPE_BYTES-clause-too_large c =
    let defs = c.args.types.now in
    let ms = c.args.members.now in
    let t = c.t-item.result in
    let at = at-member ms c.loop-t.t-index t c.loop-t-test.true c.t-item.is in
    let l = subst (λ r. LaidUpTo defs ms r c.loop-t.offsets.items c.loop-t.end c.loop-t.align) at c.loop-t.invariant in
    let e : c.rounded_up-offset.result ≡ rounded_up c.loop-t.end (align defs t) = c.rounded_up-offset.ensures ∙ ap (rounded_up c.loop-t.end) c.align_of-own.ensures in
    let large : most_type_bytes < rounded_up c.loop-t.end (align defs t) + size defs t = rw (e, c.size_of.ensures) at c.if-end-gt-MOST_TYPE_BYTES.true in
    λ same. too-large-end defs ms t _ _ _ _ l large

pub rounded_up-size-requires-clause-room : goal.rounded_up-size-requires-clause-room
rounded_up-size-requires-clause-room c = lay-room c.args.types.now c.args.members.now _ _ _ _ c.loop-t.invariant
