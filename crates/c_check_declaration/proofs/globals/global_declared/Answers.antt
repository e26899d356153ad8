use Rattle.std.proofs.Common.{◌≡◌, length, OnOk, sym, ap, subst, ◌∙◌}
use Rattle.c_ast.specs.Declarations as trees
use Rattle.c_check_def.specs.Declarators.{is_fixed}
use Rattle.c_check_declaration.specs.Globals.{global_begun, new_global}
use Rattle.c_check_declaration.proofs.GlobalLemmas.{declared-begun}
use Rattle.c_check_declaration.proofs.globals.global_declared.Goals as goal

pub returns : goal.returns
returns c =
    let d = c.args.d.now in
    let x = c.args.x.now in
    let s = c.args.state.now in
    let s1 = c.add_variable.new.state in
    let at = d.name.span.at in
    let bounds = trees.open_dimensions d.dimensions in
    let begun = trees.initializer d.initializer in
    let k = c.in_ok-number.number in
    let fixed : c.is_fixed-fixed.result ≡ is_fixed c.args.is_const (length d.stars) = c.is_fixed-fixed.ensures ∙ ap (is_fixed c.args.is_const) c.len-stars.ensures in
    let one = ap (λ f. global_begun x f c.len-stars.result k d.name.name at bounds begun s1) fixed in
    let two = ap (λ n. global_begun x (is_fixed c.args.is_const (length d.stars)) n k d.name.name at bounds begun s1) c.len-stars.ensures in
    let all =
    declared-begun x c.args.is_const (length d.stars) d.name.name at bounds begun s s1 k
    (c.in_ok-number.ensures.value ∙ ap (λ f. (new_global at f s).0) fixed) (c.in_ok-number.ensures.state ∙ ap (λ f. (new_global at f s).1) fixed) in
    subst (λ z. OnOk c.global_begun.result (c.global_begun.new.state ≡ z.1)) (one ∙ two ∙ sym all) c.global_begun.ensures
