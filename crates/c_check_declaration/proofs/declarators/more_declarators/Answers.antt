use Rattle.std.proofs.Common.{◌≡◌, ◌+◌, ◌++◌, ◌∷◌, [], take, sym, ap, ◌∙◌, arith}
use Rattle.std.proofs.lemmas.List.{take_more}
use Rattle.c_ast.specs.Declarations as trees
use Rattle.c_typed.specs.StmtViews.{items_of}
use Rattle.c_check_def.specs.Declarators.{items_joined, declarator, more_declarators}
use Rattle.c_check_declaration.proofs.lemmas.Declarations.{declarators-none, declarators-more, items-none, items-joined}
use Rattle.c_check_declaration.proofs.declarators.more_declarators.Goals as goal

pub loop-next-init : goal.loop-next-init
loop-next-init c = record {
  items =
      sym (items-none (items_of c.args.out.now.items))
      ∙ ap (λ r. items_joined (items_of c.args.out.now.items) r.0) (sym (declarators-none c.args.x.now c.args.is_const c.args.state.now));
  state = ap (λ r. r.1) (sym (declarators-none c.args.x.now c.args.is_const c.args.state.now));
}

pub loop-next-preserved : goal.loop-next-preserved
loop-next-preserved c =
    let i = c.loop-next.next-index in
    let xs = c.args.more.now in
    let x = c.next-item.result in
    let s = c.args.state.now in
    let y = c.args.x.now in
    let b = c.args.is_const in
    let old = items_of c.args.out.now.items in
    let before = more_declarators y b (trees.more_declarators (take i xs)) s in
    let grown : take (i + 1) xs ≡ take i xs ++ x ∷ [] = take_more xs i x (omega arith) ∙ ap (λ z. take i xs ++ z ∷ []) (sym c.next-item.is) in
    let all = ap (λ ys. more_declarators y b (trees.more_declarators ys) s) grown ∙ declarators-more y b (take i xs) x s in
    let one = ap (λ r. declarator y b (trees.declarator x.element) r) c.loop-next.invariant.state in
    record {
      items =
          c.in_ok-declarator.ensures.items
          ∙ ap (λ z. items_joined z (declarator y b (trees.declarator x.element) c.loop-next.state).0) c.loop-next.invariant.items
          ∙ ap (λ r. items_joined (items_joined old before.0) r.0) one
          ∙ items-joined old before.0 (declarator y b (trees.declarator x.element) before.1).0
          ∙ ap (λ r. items_joined old r.0) (sym all);
      state = c.in_ok-declarator.ensures.state ∙ ap (λ r. r.1) one ∙ ap (λ r. r.1) (sym all);
    }
