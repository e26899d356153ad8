use Rattle.std.proofs.Common.{sym, ap, ◌∙◌}
use Rattle.c_typed.specs.Typed.{no_items, declare_then}
use Rattle.c_typed.specs.StmtViews.{items_of}
use Rattle.c_typed.specs.declared.statement.Item.TheVariants as item
use Rattle.c_check_def.specs.Declarators.{items_joined}
use Rattle.c_check_declaration.proofs.lemmas.Declarations.{declarator-of, items-more}
use Rattle.c_check_declaration.proofs.declarators.declarator.Goals as goal

pub returns-clause-items : goal.returns-clause-items
returns-clause-items c =
    let old = c.args.out.now.items in
    ap items_of c.in_ok-push.ensures.items ∙ items-more old (item.Variable c.in_ok-declaration.declaration)
    ∙ ap (λ d. items_joined (items_of old) (declare_then d no_items)) c.in_ok-declaration.ensures.value
    ∙ ap (λ r. items_joined (items_of old) r.0) (sym (declarator-of c.args.x.now c.args.is_const c.args.d.now c.args.state.now))

pub returns-clause-state : goal.returns-clause-state
returns-clause-state c =
    c.in_ok-declaration.ensures.state ∙ ap (λ r. r.1) (sym (declarator-of c.args.x.now c.args.is_const c.args.d.now c.args.state.now))
