use Rattle.std.proofs.Common.{◌≡◌, OnOk, sym, ap, subst, ◌∙◌}
use Rattle.c_ast.specs.Externals.{more_members as member_trees}
use Rattle.c_check_def.specs.Externals.{more_member}
use Rattle.c_check.proofs.MemberLemmas.{members-of}
use Rattle.c_check.proofs.members.members.Goals as goal

pub returns-clause-members : goal.returns-clause-members
returns-clause-members c =
    let y = c.args.x.now in
    let x = c.in_ok-specified.specified in
    let xs = c.args.out.now in
    let ys = c.member.new.out in
    let s2 = c.member.new.state in
    let all =
    members-of xs y c.args.state.now c.specified_type.new.state x ys s2 c.in_ok-specified.ensures.value c.in_ok-specified.ensures.state
    c.in_ok-member.ensures.members c.in_ok-member.ensures.state in
    subst (λ z. OnOk c.more_member.result (c.more_member.new.out ≡ z.0)) (ap (λ ms. more_member x ys (member_trees ms) s2) c.as_slice.ensures ∙ sym all)
    c.more_member.ensures.members

pub returns-clause-state : goal.returns-clause-state
returns-clause-state c =
    let y = c.args.x.now in
    let x = c.in_ok-specified.specified in
    let xs = c.args.out.now in
    let ys = c.member.new.out in
    let s2 = c.member.new.state in
    let all =
    members-of xs y c.args.state.now c.specified_type.new.state x ys s2 c.in_ok-specified.ensures.value c.in_ok-specified.ensures.state
    c.in_ok-member.ensures.members c.in_ok-member.ensures.state in
    subst (λ z. OnOk c.more_member.result (c.more_member.new.state ≡ z.1)) (ap (λ ms. more_member x ys (member_trees ms) s2) c.as_slice.ensures ∙ sym all)
    c.more_member.ensures.state
