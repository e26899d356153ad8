use Rattle.std.proofs.Common.{◌≡◌, length, is_some, IfOk, OnOk, sym, ap, subst, ◌∙◌}
use Rattle.std.specs.Option.{option_map}
use Rattle.c_ast.specs.Declarations.{open_dimensions as dimension_trees}
use Rattle.c_ast.specs.declared.token.Identifier.{Identifier}
use Rattle.c_check_def.specs.Declarators.{is_fixed, open_dimensions}
use Rattle.c_check.specs.Params.{param_typed}
use Rattle.c_check.proofs.ParamLemmas.{specified-typed}
use Rattle.c_check.proofs.parameters.param_specified.Goals as goal

pub returns-clause-value : goal.returns-clause-value
returns-clause-value c =
    let x = c.args.x.now in
    let s = c.args.state.now in
    let s1 = c.open_dimensions.new.state in
    let y = c.args.specified.now in
    let at = c.args.offset in
    let o = option_map (λ (i : Identifier). i.name) x.name in
    let ds = c.in_ok-dimensions.dimensions.items in
    let n = c.len-stars.result in
    let same = ap (λ ds. param_typed at y c.is_fixed-fixed.result n o ds s1) c.deref.ensures.value in
    let fixed = ap (λ f. param_typed at y f n o ds s1) (c.is_fixed-fixed.ensures ∙ ap (λ b. is_fixed b n) c.is_some.ensures) in
    let count = ap (λ n. param_typed at y (is_fixed (is_some x.qualifier) n) n o ds s1) c.len-stars.ensures in
    let all =
    specified-typed at y (is_some x.qualifier) (length x.stars) o (dimension_trees x.dimensions) s s1 ds
    (c.in_ok-dimensions.ensures.value ∙ ap (λ z. (open_dimensions (dimension_trees z) s).0) c.as_slice.ensures)
    (c.in_ok-dimensions.ensures.state ∙ ap (λ z. (open_dimensions (dimension_trees z) s).1) c.as_slice.ensures) in
    subst (λ z. IfOk c.param_typed.result (λ r. r ≡ z.0)) (same ∙ fixed ∙ count ∙ sym all) c.param_typed.ensures.value

pub returns-clause-state : goal.returns-clause-state
returns-clause-state c =
    let x = c.args.x.now in
    let s = c.args.state.now in
    let s1 = c.open_dimensions.new.state in
    let y = c.args.specified.now in
    let at = c.args.offset in
    let o = option_map (λ (i : Identifier). i.name) x.name in
    let ds = c.in_ok-dimensions.dimensions.items in
    let n = c.len-stars.result in
    let same = ap (λ ds. param_typed at y c.is_fixed-fixed.result n o ds s1) c.deref.ensures.value in
    let fixed = ap (λ f. param_typed at y f n o ds s1) (c.is_fixed-fixed.ensures ∙ ap (λ b. is_fixed b n) c.is_some.ensures) in
    let count = ap (λ n. param_typed at y (is_fixed (is_some x.qualifier) n) n o ds s1) c.len-stars.ensures in
    let all =
    specified-typed at y (is_some x.qualifier) (length x.stars) o (dimension_trees x.dimensions) s s1 ds
    (c.in_ok-dimensions.ensures.value ∙ ap (λ z. (open_dimensions (dimension_trees z) s).0) c.as_slice.ensures)
    (c.in_ok-dimensions.ensures.state ∙ ap (λ z. (open_dimensions (dimension_trees z) s).1) c.as_slice.ensures) in
    subst (λ z. OnOk c.param_typed.result (c.param_typed.new.state ≡ z.1)) (same ∙ fixed ∙ count ∙ sym all) c.param_typed.ensures.state
