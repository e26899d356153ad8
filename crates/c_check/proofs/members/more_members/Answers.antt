use Rattle.std.proofs.Common.{◌≡◌, ◌+◌, ◌++◌, ◌∷◌, [], take, sym, ap, ◌∙◌, arith}
use Rattle.std.proofs.lemmas.List.{take_more}
use Rattle.c_ast.specs.Externals.{members as members_tree}
use Rattle.c_check_def.specs.Externals.{members, more_members}
use Rattle.c_check.specs.Structs.{members_trees}
use Rattle.c_check.proofs.MemberLemmas.{members-none, members-more}
use Rattle.c_check.proofs.members.more_members.Goals as goal

pub loop-x-init : goal.loop-x-init
loop-x-init c = record {
  members = ap (λ r. r.0) (sym (members-none c.args.out.now c.args.state.now));
  state = ap (λ r. r.1) (sym (members-none c.args.out.now c.args.state.now));
}

pub loop-x-preserved : goal.loop-x-preserved
loop-x-preserved c =
    let i = c.loop-x.x-index in
    let all = c.args.more.now in
    let x = c.x-item.result in
    let s = c.args.state.now in
    let xs = c.args.out.now in
    let before = more_members xs (members_trees (take i all)) s in
    let grown : take (i + 1) all ≡ take i all ++ x ∷ [] = take_more all i x (omega arith) ∙ ap (λ z. take i all ++ z ∷ []) (sym c.x-item.is) in
    let whole = ap (λ ys. more_members xs (members_trees ys) s) grown ∙ members-more xs (take i all) x s in
    let one =
    ap (λ ys. members ys (members_tree x) c.loop-x.state) c.loop-x.invariant.members ∙ ap (members before.0 (members_tree x)) c.loop-x.invariant.state in
    record {
      members = c.in_ok-members.ensures.members ∙ ap (λ r. r.0) one ∙ ap (λ r. r.0) (sym whole);
      state = c.in_ok-members.ensures.state ∙ ap (λ r. r.1) one ∙ ap (λ r. r.1) (sym whole);
    }
