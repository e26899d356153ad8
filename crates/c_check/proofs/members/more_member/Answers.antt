use Rattle.std.proofs.Common.{◌≡◌, ◌+◌, ◌++◌, ◌∷◌, [], take, sym, ap, ◌∙◌, arith}
use Rattle.std.proofs.lemmas.List.{take_more}
use Rattle.c_ast.specs.Externals.{member as member_tree, more_members as member_trees}
use Rattle.c_check_def.specs.Externals.{member, more_member}
use Rattle.c_check.proofs.MemberLemmas.{member-none, member-more}
use Rattle.c_check.proofs.members.more_member.Goals as goal

pub loop-next-init : goal.loop-next-init
loop-next-init c = record {
  members = ap (λ r. r.0) (sym (member-none c.args.x.now c.args.out.now c.args.state.now));
  state = ap (λ r. r.1) (sym (member-none c.args.x.now c.args.out.now c.args.state.now));
}

pub loop-next-preserved : goal.loop-next-preserved
loop-next-preserved c =
    let i = c.loop-next.next-index in
    let all = c.args.more.now in
    let y = c.next-item.result in
    let s = c.args.state.now in
    let x = c.args.x.now in
    let xs = c.args.out.now in
    let before = more_member x xs (member_trees (take i all)) s in
    let grown : take (i + 1) all ≡ take i all ++ y ∷ [] = take_more all i y (omega arith) ∙ ap (λ z. take i all ++ z ∷ []) (sym c.next-item.is) in
    let whole = ap (λ ys. more_member x xs (member_trees ys) s) grown ∙ member-more x xs (take i all) y s in
    let one =
    ap (λ ys. member x ys (member_tree y.element) c.loop-next.state) c.loop-next.invariant.members
    ∙ ap (member x before.0 (member_tree y.element)) c.loop-next.invariant.state in
    record {
      members = c.in_ok-member.ensures.members ∙ ap (λ r. r.0) one ∙ ap (λ r. r.0) (sym whole);
      state = c.in_ok-member.ensures.state ∙ ap (λ r. r.1) one ∙ ap (λ r. r.1) (sym whole);
    }
