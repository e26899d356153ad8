use Rattle.std.proofs.Common.{◌≡◌, ◌+◌, ◌++◌, ◌∷◌, [], length, take, sym, ap, ◌∙◌, arith}
use Rattle.std.proofs.lemmas.List.{take_more}
use Rattle.c_ast.specs.Declarations as trees
use Rattle.c_check_def.specs.Declarators.{global_declarator, more_globals}
use Rattle.c_check_declaration.proofs.GlobalLemmas.{globals-none, globals-more}
use Rattle.c_check_declaration.proofs.globals.more_globals.Goals as goal

pub loop-next-init : goal.loop-next-init
loop-next-init c = sym (globals-none c.args.x.now c.args.is_const c.args.state.now)

pub loop-next-preserved : goal.loop-next-preserved
loop-next-preserved c =
    let i = c.loop-next.next-index in
    let xs = c.args.more.now in
    let x = c.next-item.result in
    let d = x.element in
    let s = c.args.state.now in
    let y = c.args.x.now in
    let b = c.args.is_const in
    let grown : take (i + 1) xs ≡ take i xs ++ x ∷ [] = take_more xs i x (omega arith) ∙ ap (λ z. take i xs ++ z ∷ []) (sym c.next-item.is) in
    c.in_ok-global_declared.ensures
    ∙ ap (λ r. (global_declarator y b (length d.stars) d.name.name d.name.span.at (trees.open_dimensions d.dimensions) (trees.initializer d.initializer) r).1) c.loop-next.invariant
    ∙ sym (globals-more y b (take i xs) x s) ∙ sym (ap (λ ys. (more_globals y b (trees.more_declarators ys) s).1) grown)
