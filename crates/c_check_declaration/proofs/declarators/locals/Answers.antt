use Rattle.std.proofs.Common.{◌≡◌, OnOk, sym, ap, subst, ◌∙◌}
use Rattle.c_ast.specs.Declarations as trees
use Rattle.c_ast.specs.Specifiers.{spec_tree}
use Rattle.c_typed.specs.StmtViews.{items_of}
use Rattle.c_check_def.specs.Specifiers.{specified_type}
use Rattle.c_check_def.specs.Declarators.{items_joined, declarator, more_declarators}
use Rattle.c_check_declaration.proofs.lemmas.Declarations.{locals-steps, items-joined}
use Rattle.c_check_declaration.proofs.declarators.locals.Goals as goal

pub returns-clause-items : goal.returns-clause-items
returns-clause-items c =
    let x = c.args.x.now in
    let s = c.args.state.now in
    let s1 = c.specified_type.new.state in
    let s2 = c.declarator.new.state in
    let y = c.in_ok-specified.specified in
    let b = c.is_some-is_const.result in
    let old = items_of c.args.out.now.items in
    let d = declarator y b (trees.declarator x.first) s1 in
    let ds = more_declarators y b (trees.more_declarators x.more) d.1 in
    let given = more_declarators y b (trees.more_declarators c.as_slice.result.now) s2 in
    let all =
    locals-steps x s s1 y b (c.in_ok-specified.ensures.value ∙ ap (λ z. (specified_type (spec_tree z) s).0) c.get.ensures)
    (c.in_ok-specified.ensures.state ∙ ap (λ z. (specified_type (spec_tree z) s).1) c.get.ensures) c.is_some-is_const.ensures in
    let first : items_of c.declarator.new.out.items ≡ items_joined old d.0 =
    c.in_ok-declarator.ensures.items ∙ ap (λ z. items_joined old (declarator y b (trees.declarator z) s1).0) c.get-2.ensures in
    let after : s2 ≡ d.1 = c.in_ok-declarator.ensures.state ∙ ap (λ z. (declarator y b (trees.declarator z) s1).1) c.get-2.ensures in
    let more : given ≡ ds =
    ap (λ z. more_declarators y b (trees.more_declarators z) s2) c.as_slice.ensures ∙ ap (λ z. more_declarators y b (trees.more_declarators x.more) z) after in
    subst (λ z. OnOk c.more_declarators.result (items_of c.more_declarators.new.out.items ≡ z))
    (ap (λ z. items_joined z given.0) first ∙ ap (λ r. items_joined (items_joined old d.0) r.0) more ∙ items-joined old d.0 ds.0
    ∙ ap (λ r. items_joined old r.0) (sym all))
    c.more_declarators.ensures.items

pub returns-clause-state : goal.returns-clause-state
returns-clause-state c =
    let x = c.args.x.now in
    let s = c.args.state.now in
    let s1 = c.specified_type.new.state in
    let s2 = c.declarator.new.state in
    let y = c.in_ok-specified.specified in
    let b = c.is_some-is_const.result in
    let d = declarator y b (trees.declarator x.first) s1 in
    let ds = more_declarators y b (trees.more_declarators x.more) d.1 in
    let given = more_declarators y b (trees.more_declarators c.as_slice.result.now) s2 in
    let all =
    locals-steps x s s1 y b (c.in_ok-specified.ensures.value ∙ ap (λ z. (specified_type (spec_tree z) s).0) c.get.ensures)
    (c.in_ok-specified.ensures.state ∙ ap (λ z. (specified_type (spec_tree z) s).1) c.get.ensures) c.is_some-is_const.ensures in
    let after : s2 ≡ d.1 = c.in_ok-declarator.ensures.state ∙ ap (λ z. (declarator y b (trees.declarator z) s1).1) c.get-2.ensures in
    let more : given ≡ ds =
    ap (λ z. more_declarators y b (trees.more_declarators z) s2) c.as_slice.ensures ∙ ap (λ z. more_declarators y b (trees.more_declarators x.more) z) after in
    subst (λ z. OnOk c.more_declarators.result (c.more_declarators.new.state ≡ z)) (ap (λ r. r.1) more ∙ ap (λ r. r.1) (sym all)) c.more_declarators.ensures.state
