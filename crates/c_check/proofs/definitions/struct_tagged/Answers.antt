use Rattle.std.proofs.Common.{◌≡◌, OnOk, ap, subst, ◌∙◌}
use Rattle.c_ast.specs.Externals.{members as members_tree}
use Rattle.c_type.specs.Layout.{is_defined}
use Rattle.c_check_def.specs.declared.refusal_kind.RefusalKind.TheVariants.{Redeclared}
use Rattle.c_check_def.specs.State.{breaks_if}
use Rattle.c_check_def.specs.Externals.{members, more_members}
use Rattle.c_check.specs.Structs.{members_trees}
use Rattle.c_check.proofs.KeptLemmas.{members-ready}
use Rattle.c_check.proofs.StructLemmas.{struct-steps}
use Rattle.c_check.proofs.definitions.struct_tagged.Goals as goal

pub defined-requires : goal.defined-requires
defined-requires c =
    let b = c.args.body.now in
    let s = c.args.state.now in
    let s1 = c.breaks_if.new.self in
    let s2 = c.members.new.state in
    let xs = c.members.new.out in
    members-ready c.args.tag c.args.offset b.first b.more s s1 s2 c.more_members.new.state xs c.more_members.new.out
    (c.breaks_if.ensures ∙ ap (λ w. (breaks_if w Redeclared c.args.offset s).1) (c.is_defined-wrong.ensures.value ∙ ap (λ d. is_defined d c.args.tag) c.types.ensures))
    (c.in_ok-members.ensures.members ∙ ap (λ z. (members z (members_tree b.first) s1).0) c.new-all.ensures)
    (c.in_ok-members.ensures.state ∙ ap (λ z. (members z (members_tree b.first) s1).1) c.new-all.ensures)
    (c.in_ok-more_members.ensures.members ∙ ap (λ z. (more_members xs (members_trees z) s2).0) c.as_slice.ensures)
    (c.in_ok-more_members.ensures.state ∙ ap (λ z. (more_members xs (members_trees z) s2).1) c.as_slice.ensures)

pub returns : goal.returns
returns c =
    let b = c.args.body.now in
    let s = c.args.state.now in
    let s1 = c.breaks_if.new.self in
    let s2 = c.members.new.state in
    let xs = c.members.new.out in
    let all =
    struct-steps c.args.tag c.args.offset (members_tree b.first) (members_trees b.more) s s1 s2 c.more_members.new.state xs c.more_members.new.out
    (c.breaks_if.ensures ∙ ap (λ w. (breaks_if w Redeclared c.args.offset s).1) (c.is_defined-wrong.ensures.value ∙ ap (λ d. is_defined d c.args.tag) c.types.ensures))
    (c.in_ok-members.ensures.members ∙ ap (λ z. (members z (members_tree b.first) s1).0) c.new-all.ensures)
    (c.in_ok-members.ensures.state ∙ ap (λ z. (members z (members_tree b.first) s1).1) c.new-all.ensures)
    (c.in_ok-more_members.ensures.members ∙ ap (λ z. (more_members xs (members_trees z) s2).0) c.as_slice.ensures)
    (c.in_ok-more_members.ensures.state ∙ ap (λ z. (more_members xs (members_trees z) s2).1) c.as_slice.ensures) in
    subst (λ z. OnOk c.defined.result (c.defined.new.state ≡ z)) all c.defined.ensures
