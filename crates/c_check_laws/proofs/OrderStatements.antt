-- Statements add globals in the order of the tokens.
use Rattle.std.proofs.Common.{ℕ, true, false, refl, ◌∙◌}
use Rattle.std.specs.Prelude.{if◌then◌else◌}
use Rattle.c_ast.specs.Productions as l
use Rattle.c_ast.specs.Tree.{Tree, Node, Cons}
use Rattle.c_typed.specs.Typed as typed
use Rattle.c_check_def.specs.declared.refusal_kind.RefusalKind.TheVariants.{NotConstant, BadLabel, BadReturn}
use Rattle.c_check_def.specs.State.{MaybeType, State, Elaborated, or_broken, within_scope}
use Rattle.c_check_def.specs.Leaves.{offset_of, begin_of}
use Rattle.c_check_def.specs.Operands.{term_constant}
use Rattle.c_check_def.specs.Expressions.{expression, expressions}
use Rattle.c_check_def.specs.Statements.{Jumps, in_loop, in_switch, condition, subject, condition_clause, value_clause, gives_none, returned, Labels, next_group, label, more_labels, Groups, for_start, statement, items, groups, group}
use Rattle.c_check_laws.proofs.lemmas.Later.{entered}
use Rattle.c_check_laws.proofs.lemmas.Quiet.{breaks_if_quiet, or_broken_quiet, if_some_quiet, whole_quiet, condition_quiet, subject_quiet, jump_quiet, case_label_quiet}
use Rattle.c_check_laws.proofs.Order.{KeepsOrder, over, same, between, then_quiet, in_turn, past, node, Named}
use Rattle.c_check_laws.proofs.OrderExpressions.{expression_order, expressions_order}
use Rattle.c_check_laws.proofs.OrderDeclarations.{locals_order}

-- ---- parts of statements

condition_clause_order : (offset : ℕ) (t : Tree) (s : State) → Named t → KeepsOrder t s (condition_clause offset t s).1
condition_clause_order offset (Node (l.Present k) (Cons x none)) s r =
    let a = expressions x s in node (in_turn (expressions_order x s r.0) (same (condition_quiet offset a.0 a.1)))
condition_clause_order offset t s r = over

value_clause_order : (t : Tree) (s : State) → Named t → KeepsOrder t s (value_clause t s).1
value_clause_order (Node (l.Present k) (Cons x none)) s r =
    let a = expressions x s in node (in_turn (expressions_order x s r.0) (same (whole_quiet (begin_of x) a.0 a.1)))
value_clause_order t s r = over

returned_order : (t : MaybeType) (offset : ℕ) (x : Tree) (s : State) → Named x → KeepsOrder x s (returned t offset x s).1
returned_order t offset (Node (l.Present k) (Cons x none)) s r =
    let a = expressions x s in
    node (in_turn (expressions_order x s r.0) (same (if_some_quiet t _ (λ u. if_some_quiet a.0 _ (λ y. or_broken_quiet _ offset _)) a.1)))
returned_order t offset x s r = same (breaks_if_quiet (if gives_none t then false else true) BadReturn offset s)

label_order : (x : Labels) (t : Tree) (s : State) → Named t → KeepsOrder t s (label x t s).1
label_order x (Node l.Case (Cons word (Cons value (Cons colon none)))) s r =
    let a = expression value s in
    let w = or_broken NotConstant (begin_of value) (term_constant a.0) a.1 in
    node (past (in_turn (expression_order value s r.1.0)
    (same (case_label_quiet x (offset_of word) w.0 w.1 ∙ or_broken_quiet NotConstant (begin_of value) (term_constant a.0) a.1))))
label_order x (Node l.Default (Cons word (Cons colon none))) s r = same (breaks_if_quiet _ BadLabel (offset_of word) s)
label_order x t s r = over

more_labels_order : (x : Labels) (t : Tree) (s : State) → Named t → KeepsOrder t s (more_labels x t s).1
more_labels_order x (Node (l.More k) (Cons before (Cons t none))) s r =
    let y = more_labels x before s in node (in_turn (more_labels_order x before s r.0) (in_turn (label_order y.0 t y.1 r.1.0) over))
more_labels_order x t s r = over

for_start_order : (t : Tree) (s : State) → Named t → KeepsOrder t s (for_start t s).1
for_start_order (Node l.ForClause (Cons x (Cons semicolon none))) s r = node (in_turn (value_clause_order x s r.0) over)
for_start_order t s r = locals_order t s r

-- what stands in a scope of its own
module _ {A : Type 0} {t : Tree} where
  pub scope_order : (m : Elaborated A) (s : State) → KeepsOrder t (entered s) (m (entered s)).1 → KeepsOrder t s (within_scope m s).1
  scope_order m s h = between refl h refl

-- ---- statements

mutual
  statement_order : (j : Jumps) (t : Tree) (s : State) → Named t → KeepsOrder t s (statement j t s).1
  statement_order j (Node l.Null children) s r = over
  statement_order j (Node l.Expression (Cons x (Cons semicolon none))) s r =
      let a = expressions x s in node (in_turn (expressions_order x s r.0) (same (whole_quiet (begin_of x) a.0 a.1)))
  statement_order j (Node l.Block (Cons opening (Cons xs (Cons closing none)))) s r = node (past (in_turn (scope_order (items j xs) s (items_order j xs (entered s) r.1.0)) over))
  statement_order j (Node l.If (Cons word (Cons opening (Cons x (Cons closing (Cons t none)))))) s r =
      let a = expressions x s in
      let c = condition (offset_of word) a.0 a.1 in
      node (past (past (in_turn (then_quiet (expressions_order x s r.1.1.0) (condition_quiet (offset_of word) a.0 a.1)) (past (in_turn (statement_order j t c.1 r.1.1.1.1.0) over)))))
  statement_order j (Node l.IfElse (Cons before (Cons word (Cons t none)))) s r =
      let a = statement j before s in node (in_turn (statement_order j before s r.0) (past (in_turn (statement_order j t a.1 r.1.1.0) over)))
  statement_order j (Node l.While (Cons word (Cons opening (Cons x (Cons closing (Cons t none)))))) s r =
      let a = expressions x s in
      let c = condition (offset_of word) a.0 a.1 in
      node (past (past (in_turn (then_quiet (expressions_order x s r.1.1.0) (condition_quiet (offset_of word) a.0 a.1))
      (past (in_turn (statement_order (in_loop j) t c.1 r.1.1.1.1.0) over)))))
  statement_order j (Node l.DoWhile (Cons word (Cons t (Cons until (Cons opening (Cons x more)))))) s r =
      let b = statement (in_loop j) t s in
      let a = expressions x b.1 in
      node (past (in_turn (statement_order (in_loop j) t s r.1.0) (past (past (in_turn (expressions_order x b.1 r.1.1.1.1.0) (same (condition_quiet (offset_of until) a.0 a.1)))))))
  statement_order j (Node l.For (Cons word (Cons opening (Cons start (Cons x (Cons semicolon (Cons y (Cons closing (Cons t none))))))))) s r =
      let is = for_start start (entered s) in
      let c = condition_clause (offset_of word) x is.1 in
      let step = value_clause y c.1 in
      let b = statement (in_loop j) t step.1 in
      let whole : KeepsOrder (Node l.For (Cons word (Cons opening (Cons start (Cons x (Cons semicolon (Cons y (Cons closing (Cons t none))))))))) (entered s) b.1 =
      node (past (past (in_turn (for_start_order start (entered s) r.1.1.0) (in_turn (condition_clause_order (offset_of word) x is.1 r.1.1.1.0)
      (past (in_turn (value_clause_order y c.1 r.1.1.1.1.1.0) (past (in_turn (statement_order (in_loop j) t step.1 r.1.1.1.1.1.1.1.0) over)))))))) in
      between refl whole refl
  statement_order j (Node l.Break (Cons word more)) s r = same (jump_quiet j.may_break (offset_of word) typed.break s)
  statement_order j (Node l.Continue (Cons word more)) s r = same (jump_quiet j.may_continue (offset_of word) typed.continue s)
  statement_order j (Node l.Return (Cons word (Cons x more))) s r = node (past (in_turn (returned_order j.result (offset_of word) x s r.1.0) over))
  statement_order j (Node l.Switch (Cons word (Cons opening (Cons x (Cons closing (Cons begin (Cons gs more))))))) s r =
      let a = expressions x s in
      let e = subject (offset_of word) a.0 a.1 in
      node (past (past (in_turn (then_quiet (expressions_order x s r.1.1.0) (subject_quiet (offset_of word) a.0 a.1))
      (past (past (in_turn (groups_order (in_switch j) gs e.1 r.1.1.1.1.1.0) over))))))
  statement_order j t s r = over

  pub items_order : (j : Jumps) (t : Tree) (s : State) → Named t → KeepsOrder t s (items j t s).1
  items_order j (Node (l.More k) (Cons before (Cons (Node l.Locals children) none))) s r =
      let is = items j before s in node (in_turn (items_order j before s r.0) (in_turn (locals_order (Node l.Locals children) is.1 r.1.0) over))
  items_order j (Node (l.More k) (Cons before (Cons t none))) s r =
      let is = items j before s in node (in_turn (items_order j before s r.0) (in_turn (statement_order j t is.1 r.1.0) over))
  items_order j t s r = over

  groups_order : (j : Jumps) (t : Tree) (s : State) → Named t → KeepsOrder t s (groups j t s).1
  groups_order j (Node (l.More k) (Cons before (Cons t none))) s r =
      let x = groups j before s in node (in_turn (groups_order j before s r.0) (in_turn (group_order j x.0 t x.1 r.1.0) over))
  groups_order j t s r = over

  group_order : (j : Jumps) (x : Groups) (t : Tree) (s : State) → Named t → KeepsOrder t s (group j x t s).1
  group_order j x (Node l.Group (Cons first (Cons more (Cons t (Cons ts none))))) s r =
      let y = label (next_group x.labels) first s in
      let z = more_labels y.0 more y.1 in
      let b = statement j t z.1 in
      node (in_turn (label_order (next_group x.labels) first s r.0) (in_turn (more_labels_order y.0 more y.1 r.1.0)
      (in_turn (statement_order j t z.1 r.1.1.0) (in_turn (items_order j ts b.1 r.1.1.1.0) over))))
  group_order j x t s r = over
