use Rattle.std.proofs.Common.{◌≡◌, length, IfOk, OnOk, sym, ap, subst, ◌∙◌}
use Rattle.c_ast.specs.Declarations as trees
use Rattle.c_typed.specs.StmtViews.{declaration_of}
use Rattle.c_check_def.specs.Declarators.{is_fixed, open_dimensions}
use Rattle.c_check_declaration.specs.Bounds.{variable_typed}
use Rattle.c_check_declaration.proofs.lemmas.Declarations.{declared-typed}
use Rattle.c_check_declaration.proofs.declarators.variable_declarator.Goals as goal

pub returns-clause-value : goal.returns-clause-value
returns-clause-value c =
    let d = c.args.d.now in
    let x = c.args.x.now in
    let s = c.args.state.now in
    let begun = trees.initializer d.initializer in
    let same = ap (λ ds. variable_typed x c.is_fixed-fixed.result c.len-stars.result d.name.name d.name.span.at ds begun c.open_dimensions.new.state) c.deref.ensures.value in
    let is =
    ap (λ n. variable_typed x (is_fixed c.args.is_const n) n d.name.name d.name.span.at c.in_ok-dimensions.dimensions.items begun c.open_dimensions.new.state) c.len-stars.ensures in
    let fixed = ap (λ f. variable_typed x f c.len-stars.result d.name.name d.name.span.at c.in_ok-dimensions.dimensions.items begun c.open_dimensions.new.state) c.is_fixed-fixed.ensures in
    let all =
    declared-typed x c.args.is_const (length d.stars) d.name.name d.name.span.at (trees.open_dimensions d.dimensions) begun s c.open_dimensions.new.state
    c.in_ok-dimensions.dimensions.items
    (c.in_ok-dimensions.ensures.value ∙ ap (λ z. (open_dimensions (trees.open_dimensions z) s).0) c.as_slice.ensures)
    (c.in_ok-dimensions.ensures.state ∙ ap (λ z. (open_dimensions (trees.open_dimensions z) s).1) c.as_slice.ensures) in
    subst (λ z. IfOk c.variable_typed.result (λ r. declaration_of r ≡ z.0)) (same ∙ fixed ∙ is ∙ sym all) c.variable_typed.ensures.value

pub returns-clause-state : goal.returns-clause-state
returns-clause-state c =
    let d = c.args.d.now in
    let x = c.args.x.now in
    let s = c.args.state.now in
    let begun = trees.initializer d.initializer in
    let same = ap (λ ds. variable_typed x c.is_fixed-fixed.result c.len-stars.result d.name.name d.name.span.at ds begun c.open_dimensions.new.state) c.deref.ensures.value in
    let is =
    ap (λ n. variable_typed x (is_fixed c.args.is_const n) n d.name.name d.name.span.at c.in_ok-dimensions.dimensions.items begun c.open_dimensions.new.state) c.len-stars.ensures in
    let fixed = ap (λ f. variable_typed x f c.len-stars.result d.name.name d.name.span.at c.in_ok-dimensions.dimensions.items begun c.open_dimensions.new.state) c.is_fixed-fixed.ensures in
    let all =
    declared-typed x c.args.is_const (length d.stars) d.name.name d.name.span.at (trees.open_dimensions d.dimensions) begun s c.open_dimensions.new.state
    c.in_ok-dimensions.dimensions.items
    (c.in_ok-dimensions.ensures.value ∙ ap (λ z. (open_dimensions (trees.open_dimensions z) s).0) c.as_slice.ensures)
    (c.in_ok-dimensions.ensures.state ∙ ap (λ z. (open_dimensions (trees.open_dimensions z) s).1) c.as_slice.ensures) in
    subst (λ z. OnOk c.variable_typed.result (c.variable_typed.new.state ≡ z.1)) (same ∙ fixed ∙ is ∙ sym all) c.variable_typed.ensures.state
