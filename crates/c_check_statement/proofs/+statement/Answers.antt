use Rattle.std.proofs.Common.{◌≡◌, ◌∙◌, IfOk, ap, sym, subst}
use Rattle.c_typed.specs.StmtViews.{items_of, groups_of}
use Rattle.c_ast.specs.Expressions.{list_tree}
use Rattle.c_ast.specs.Statements.{stmt_tree, groups_tree}
use Rattle.c_check_def.specs.Statements.{next_group, in_switch, groups, statement}
use Rattle.c_check_expression.specs.Clauses.{subject_at}
use Rattle.c_check_statement.proofs.lemmas.Arms.{arm_value, arm_return}
use Rattle.c_check_statement.proofs.lemmas.Items.{switch-made}
use Rattle.c_check_statement.specs.Parts.{jumps_of}
use Rattle.c_check_statement.proofs.LoopLemmas.{items-first, items-begun, items-grow, items-go, stmts-first, stmts-begun, stmts-grow, stmts-go, groups-begun, groups-grow}
use Rattle.c_check_statement.proofs.+statement.Goals as goal

pub blocks::items-loop-x-init : goal.blocks::items-loop-x-init
blocks::items-loop-x-init t c =
    let j = jumps_of c.args.jumps c.args.gives.now in
    let s = c.args.state.now in
    (items-first j (items_of c.args.out.now.items) s, ap (λ r. r.1) (sym (items-begun j s)))

pub blocks::items-loop-x-preserved : goal.blocks::items-loop-x-preserved
blocks::items-loop-x-preserved t c =
    let j = jumps_of c.args.jumps c.args.gives.now in
    let xs = c.args.xs.now in
    let v = c.loop-x in
    let x = c.x-item.result in
    let s = c.args.state.now in
    let e = c.in_ok-item.ensures in
    let had = v.invariant in (
      items-grow j xs v.x-index x s v.state (items_of c.args.out.now.items) (items_of v.out.items) (items_of c.item.new.out.items) c.loop-x-test.true c.x-item.is had.0 had.1 e.items,
      items-go j xs v.x-index x s v.state c.item.new.state c.loop-x-test.true c.x-item.is had.1 e.state,
    )

pub blocks::statements-loop-x-init : goal.blocks::statements-loop-x-init
blocks::statements-loop-x-init t c =
    let j = jumps_of c.args.jumps c.args.gives.now in
    let s = c.args.state.now in
    (stmts-first j (items_of c.args.out.now.items) s, ap (λ r. r.1) (sym (stmts-begun j s)))

pub blocks::statements-loop-x-preserved : goal.blocks::statements-loop-x-preserved
blocks::statements-loop-x-preserved t c =
    let j = jumps_of c.args.jumps c.args.gives.now in
    let xs = c.args.xs.now in
    let v = c.loop-x in
    let x = c.x-item.result in
    let s = c.args.state.now in
    let e = c.in_ok-statement_item.ensures in
    let had = v.invariant in (
      stmts-grow j xs v.x-index x s v.state (items_of c.args.out.now.items) (items_of v.out.items) (items_of c.statement_item.new.out.items) c.loop-x-test.true c.x-item.is had.0 had.1 e.items,
      stmts-go j xs v.x-index x s v.state c.statement_item.new.state c.loop-x-test.true c.x-item.is had.1 e.state,
    )

pub switches::groups-loop-x-init : goal.switches::groups-loop-x-init
switches::groups-loop-x-init t c =
    let j = jumps_of c.args.jumps c.args.gives.now in
    let is = sym (groups-begun j c.args.state.now) in
    (c.new-labels.ensures ∙ ap (λ r. next_group r.0.labels) is, ap groups_of c.new-out.ensures.items ∙ ap (λ r. r.0.groups) is, ap (λ r. r.1) is)

pub switches::groups-loop-x-preserved : goal.switches::groups-loop-x-preserved
switches::groups-loop-x-preserved t c =
    let j = jumps_of c.args.jumps c.args.gives.now in
    let v = c.loop-x in
    let s = c.args.state.now in
    let had = v.invariant in
    let e = c.in_ok-labels.ensures in
    let is = groups-grow j c.args.xs.now v.x-index c.x-item.result s v.state v.labels (groups_of v.out.items) c.loop-x-test.true c.x-item.is had.0 had.1 had.2 in
    (e.labels ∙ ap (λ r. next_group r.0.labels) is, e.groups ∙ ap (λ r. r.0.groups) is, e.state ∙ ap (λ r. r.1) is)

pub switches::switch_statement-returns-in-Ok-clause-value : goal.switches::switch_statement-returns-in-Ok-clause-value
switches::switch_statement-returns-in-Ok-clause-value t c =
    let j = jumps_of c.args.jumps c.args.gives.now in
    let gs = groups_tree c.args.xs.now in
    let x = list_tree c.args.subject.now.value in
    let s = c.args.state.now in
    let e = c.in_ok-e.ensures in
    let get = c.get.ensures in
    let value = e.value ∙ ap (λ y. (subject_at c.args.offset (list_tree y) s).0) get in
    let state = e.state ∙ ap (λ y. (subject_at c.args.offset (list_tree y) s).1) get in
    let made = subst (λ r. IfOk r (λ ys. groups_of ys.items ≡ (groups (in_switch j) gs c.subject_at.new.state).0.groups)) c.in-Ok.is c.groups.ensures.value in
    c.switch_stmt.ensures ∙ switch-made j c.args.offset x gs c.in_ok-e.e (groups_of c.in-Ok.made.items) s c.subject_at.new.state value state made

pub statements::statement-returns-in-Expr-clause-value : goal.statements::statement-returns-in-Expr-clause-value
statements::statement-returns-in-Expr-clause-value t c =
    let j = jumps_of c.args.jumps c.args.gives.now in
    let v = c.in-Expr in
    let s = c.args.state.now in
    let is = ap (λ x. statement j (stmt_tree x) s) v.is ∙ arm_value j v.value v.semicolon s in
    subst (λ z. IfOk c.value_statement.result (λ r. r ≡ z.0)) (sym is) c.value_statement.ensures.value

pub statements::statement-returns-in-Return-clause-value : goal.statements::statement-returns-in-Return-clause-value
statements::statement-returns-in-Return-clause-value t c =
    let j = jumps_of c.args.jumps c.args.gives.now in
    let v = c.in-Return in
    let s = c.args.state.now in
    let is = ap (λ x. statement j (stmt_tree x) s) v.is ∙ arm_return j v.keyword v.value v.semicolon s in
    subst (λ z. IfOk c.returned.result (λ r. r ≡ z.0)) (sym is) c.returned.ensures.value
