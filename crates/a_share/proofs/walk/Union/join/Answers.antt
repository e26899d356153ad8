use Rattle.std.proofs.Common.{subst, sym, length}
use Rattle.a_share.specs.Bounds.{needed_now}
use Rattle.a_share.specs.Unions.{IsUnion}
use Rattle.a_share.proofs.Joining.{union_joined}
use Rattle.a_share.proofs.walk.Union.join.Goals as goal

pub returns-clause-changes : goal.returns-clause-changes
returns-clause-changes c = λ S u.
    let n = length c.args.needs.now.toggles in
    let N = needed_now c.args.needs.now.toggles in
    let u' = subst (λ z. IsUnion n z c.args.self.now.dropped.items N S) (sym c.deref.ensures.value) u in
    let u'' = subst (λ z. IsUnion n c.deref.result.now z N S) (sym c.deref-2.ensures.value) u' in
    (union_joined c.args.needs.now c.set_all.new.self c.set_all-2.new.self c.args.bound c.deref.result.now c.deref-2.result.now S u''
    c.in_ok-set_all.ensures.changes c.in_ok-set_all.ensures.now c.in_ok-set_all-2.ensures.changes c.in_ok-set_all-2.ensures.now).0

pub returns-clause-now : goal.returns-clause-now
returns-clause-now c = λ S u.
    let n = length c.args.needs.now.toggles in
    let N = needed_now c.args.needs.now.toggles in
    let u' = subst (λ z. IsUnion n z c.args.self.now.dropped.items N S) (sym c.deref.ensures.value) u in
    let u'' = subst (λ z. IsUnion n c.deref.result.now z N S) (sym c.deref-2.ensures.value) u' in
    (union_joined c.args.needs.now c.set_all.new.self c.set_all-2.new.self c.args.bound c.deref.result.now c.deref-2.result.now S u''
    c.in_ok-set_all.ensures.changes c.in_ok-set_all.ensures.now c.in_ok-set_all-2.ensures.changes c.in_ok-set_all-2.ensures.now).1
