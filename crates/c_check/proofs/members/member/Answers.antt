use Rattle.std.proofs.Common.{◌≡◌, false, OnOk, map, sym, ap, subst, ◌∙◌}
use Rattle.c_ast.specs.Expressions.{dimensions as dimension_trees}
use Rattle.c_check_def.specs.declared.dimension.Dimension.TheVariants as dimension
use Rattle.c_check_def.specs.Expressions.{dimensions}
use Rattle.c_check_def.specs.DeclaredTypes.{object_type}
use Rattle.c_check.proofs.MemberLemmas.{member-of}
use Rattle.c_check.proofs.members.member.Goals as goal

pub returns-clause-members : goal.returns-clause-members
returns-clause-members c =
    let y = c.args.m.now in
    let s = c.args.state.now in
    let x = c.args.x.now in
    let at = y.name.span.at in
    let s1 = c.dimensions.new.state in
    let ns = c.in_ok-sizes.sizes.items in
    let ds = c.in_ok-sized.sized.items in
    let n = c.len.result in
    let bounds = ap (λ ts. dimensions (dimension_trees ts) s) c.as_slice.ensures in
    let typed = ap (λ ds. object_type false at x n ds s1) c.deref-2.ensures.value in
    let all =
    member-of x c.args.out.now y s s1 ns ds n c.in_ok-ty.ty c.object_type.new.state
    (c.in_ok-sizes.ensures.value ∙ ap (λ r. r.0) bounds)
    (c.in_ok-sizes.ensures.state ∙ ap (λ r. r.1) bounds)
    (c.in_ok-sized.ensures ∙ ap (map dimension.Sized) c.deref.ensures.value)
    c.len.ensures
    (c.in_ok-ty.ensures.value ∙ ap (λ r. r.0) typed)
    (c.in_ok-ty.ensures.state ∙ ap (λ r. r.1) typed) in
    subst (λ z. OnOk c.member_typed.result (c.member_typed.new.out ≡ z.0)) (sym all) c.member_typed.ensures.members

pub returns-clause-state : goal.returns-clause-state
returns-clause-state c =
    let y = c.args.m.now in
    let s = c.args.state.now in
    let x = c.args.x.now in
    let at = y.name.span.at in
    let s1 = c.dimensions.new.state in
    let ns = c.in_ok-sizes.sizes.items in
    let ds = c.in_ok-sized.sized.items in
    let n = c.len.result in
    let bounds = ap (λ ts. dimensions (dimension_trees ts) s) c.as_slice.ensures in
    let typed = ap (λ ds. object_type false at x n ds s1) c.deref-2.ensures.value in
    let all =
    member-of x c.args.out.now y s s1 ns ds n c.in_ok-ty.ty c.object_type.new.state
    (c.in_ok-sizes.ensures.value ∙ ap (λ r. r.0) bounds)
    (c.in_ok-sizes.ensures.state ∙ ap (λ r. r.1) bounds)
    (c.in_ok-sized.ensures ∙ ap (map dimension.Sized) c.deref.ensures.value)
    c.len.ensures
    (c.in_ok-ty.ensures.value ∙ ap (λ r. r.0) typed)
    (c.in_ok-ty.ensures.state ∙ ap (λ r. r.1) typed) in
    subst (λ z. OnOk c.member_typed.result (c.member_typed.new.state ≡ z.1)) (sym all) c.member_typed.ensures.state
