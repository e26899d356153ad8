use Rattle.std.proofs.Common.{◌≡◌, OnOk, sym, ap, subst, ◌∙◌}
use Rattle.c_ast.specs.Declarations as trees
use Rattle.c_check_def.specs.Declarators.{open_dimensions}
use Rattle.c_check_declaration.specs.Globals.{global_sized}
use Rattle.c_check_declaration.proofs.GlobalLemmas.{begun-sized}
use Rattle.c_check_declaration.proofs.globals.global_begun.Goals as goal

pub returns : goal.returns
returns c =
    let d = c.args.d.now in
    let x = c.args.x.now in
    let s = c.args.state.now in
    let s1 = c.open_dimensions.new.state in
    let begun = trees.initializer d.initializer in
    let same = ap (λ ds. global_sized x c.args.fixed c.args.stars c.args.number d.name.name d.name.span.at ds begun s1) c.deref.ensures.value in
    let all =
    begun-sized x c.args.fixed c.args.stars c.args.number d.name.name d.name.span.at (trees.open_dimensions d.dimensions) begun s s1 c.in_ok-dimensions.dimensions.items
    (c.in_ok-dimensions.ensures.value ∙ ap (λ z. (open_dimensions (trees.open_dimensions z) s).0) c.as_slice.ensures)
    (c.in_ok-dimensions.ensures.state ∙ ap (λ z. (open_dimensions (trees.open_dimensions z) s).1) c.as_slice.ensures) in
    subst (λ z. OnOk c.global_sized.result (c.global_sized.new.state ≡ z.1)) (same ∙ sym all) c.global_sized.ensures
