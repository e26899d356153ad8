use Rattle.std.proofs.Common.{◌+◌, ◌++◌, ◌∷◌, [], sym, ap, ap₂, ◌∙◌, subst, arith}
use Rattle.c_type.specs.Layout.{rounded_up}
use Rattle.c_type.specs.Pending.{HasGoneOn}
use Rattle.c_type.specs.declared.listing.Pending.TheVariants.{Whole, Members}
use Rattle.c_type.proofs.PendingLemmas.{member_fits, gone_member}
use Rattle.c_type.proofs.listing.list_member.Goals as goal

pub align_of-requires : goal.align_of-requires
align_of-requires c = (member_fits c.args.types.now c.args.ts c.in-Some.rest c.in-Some.t c.args.at c.args.end _ _ c.in-Some.ensures.cases.0 c.requires).laid_out.complete

pub rounded_up-offset-requires-clause-positive : goal.rounded_up-offset-requires-clause-positive
rounded_up-offset-requires-clause-positive c =
    let f = member_fits c.args.types.now c.args.ts c.in-Some.rest c.in-Some.t c.args.at c.args.end _ _ c.in-Some.ensures.cases.0 c.requires in
    let a = c.align_of.ensures in
    omega (arith, f.positive, a)

pub rounded_up-offset-requires-clause-room : goal.rounded_up-offset-requires-clause-room
rounded_up-offset-requires-clause-room c =
    let f = member_fits c.args.types.now c.args.ts c.in-Some.rest c.in-Some.t c.args.at c.args.end _ _ c.in-Some.ensures.cases.0 c.requires in
    let a = c.align_of.ensures in
    let b = f.within in
    let d = f.room in
    omega (arith, d, a)

pub size_of-requires : goal.size_of-requires
size_of-requires c = (member_fits c.args.types.now c.args.ts c.in-Some.rest c.in-Some.t c.args.at c.args.end _ _ c.in-Some.ensures.cases.0 c.requires).laid_out

pub overflow_add-offset : goal.overflow_add-offset
overflow_add-offset c =
    let f = member_fits c.args.types.now c.args.ts c.in-Some.rest c.in-Some.t c.args.at c.args.end _ _ c.in-Some.ensures.cases.0 c.requires in
    let w = f.within in
    let s = c.size_of.ensures in
    let r = c.rounded_up-offset.ensures ∙ ap (rounded_up c.args.end) c.align_of.ensures in
    omega (arith, w, s, r)

pub overflow_add-at : goal.overflow_add-at
overflow_add-at c =
    let f = member_fits c.args.types.now c.args.ts c.in-Some.rest c.in-Some.t c.args.at c.args.end _ _ c.in-Some.ensures.cases.0 c.requires in
    let w = f.within in
    let r = c.rounded_up-offset.ensures ∙ ap (rounded_up c.args.end) c.align_of.ensures in
    omega (arith, w, r)

pub returns-in_ok-push-2 : goal.returns-in_ok-push-2
returns-in_ok-push-2 c =
    let defs = c.args.types.now in
    let t = c.in-Some.t in
    let r = c.rounded_up-offset.ensures ∙ ap (rounded_up c.args.end) c.align_of.ensures in
    let first = c.in_ok-push.ensures.items ∙ ap (λ n. c.args.pending.now.items ++ Members c.in-Some.rest c.args.at n ∷ []) (ap₂ (λ x y. x + y) r c.size_of.ensures) in
    let last = c.in_ok-push-2.ensures.items ∙ ap₂ (λ ps n. ps ++ Whole t (c.args.at + n) ∷ []) first r in
    subst (λ left. HasGoneOn defs (Members c.args.ts c.args.at c.args.end) c.args.pending.now.items left c.args.out.now.items c.args.out.now.items)
    (sym last)
    (gone_member defs c.args.ts c.in-Some.rest t c.args.at c.args.end _ _ c.in-Some.ensures.cases.0 c.requires)
