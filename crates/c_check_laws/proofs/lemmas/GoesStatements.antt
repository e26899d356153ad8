-- What statements lead to.
use Rattle.std.proofs.Common.{ℕ, ◌+◌, refl, arith}
use Rattle.c_ast.specs.Productions as l
use Rattle.c_ast.specs.Tree.{Tree, Node, Cons}
use Rattle.c_typed.specs.Typed as typed
use Rattle.c_check_def.specs.State.{State}
use Rattle.c_check_def.specs.Leaves.{offset_of, begin_of}
use Rattle.c_check_def.specs.Expressions.{expressions}
use Rattle.c_check_def.specs.Statements.{Jumps, in_loop, in_switch, condition, subject, condition_clause, value_clause, next_group, label, more_labels, Groups, for_start, statement, items, groups, group}
use Rattle.c_check_laws.proofs.lemmas.States.{step_then}
use Rattle.c_check_laws.proofs.lemmas.Steps.{expressions_steps}
use Rattle.c_check_laws.proofs.lemmas.Terms.{InRange}
use Rattle.c_check_laws.proofs.lemmas.Later.{later_then, step_still, HasScope, still_has_scope, entered}
use Rattle.c_check_laws.proofs.lemmas.StatementSteps.{WellShaped, whole_steps, condition_steps, subject_steps, condition_clause_steps, value_clause_steps, jump_steps, returned_steps, label_steps, more_labels_steps, for_start_later, statement_still, items_later, groups_still}
use Rattle.c_check_laws.proofs.lemmas.Texts.{same_globals, texts_then, expressions_texts}
use Rattle.c_check_laws.proofs.lemmas.Quiet.{whole_quiet, condition_quiet, subject_quiet, jump_quiet}
use Rattle.c_check_laws.proofs.lemmas.StatementTexts.{condition_clause_texts, value_clause_texts, returned_texts, label_texts, more_labels_texts}
use Rattle.c_check_laws.proofs.lemmas.Goes.{Goes, goes_step, goes_then, goes_more, goes_nowhere, goes_within}
use Rattle.c_check_laws.proofs.lemmas.GoesLocals.{declarations, locals_goes}

-- ---- conditions

condition_goes : (x : Tree) (offset : ℕ) (s : State) → InRange x → Goes s (condition offset (expressions x s).0 (expressions x s).1).1 0
condition_goes x offset s r =
    let a = expressions x s in
    goes_step s _ 0 (step_then s a.1 _ (expressions_steps x s) (condition_steps offset a.0 a.1)) (texts_then s a.1 _ (expressions_texts x s r) (same_globals a.1 _ (condition_quiet offset a.0 a.1)))

for_start_goes : (t : Tree) (s : State) → InRange t → WellShaped t → Goes s (for_start t s).1 (declarations t)
for_start_goes (Node l.ForClause (Cons x (Cons semicolon none))) s r w =
    goes_step s _ (declarations (Node l.ForClause (Cons x (Cons semicolon none)))) (value_clause_steps x s) (value_clause_texts x s r.0)
for_start_goes t s r w = locals_goes t s r w

-- ---- statements

mutual
  statement_goes : (j : Jumps) (t : Tree) (s : State) → InRange t → WellShaped t → HasScope s → Goes s (statement j t s).1 (declarations t)
  statement_goes j (Node l.Null children) s r w h = goes_nowhere s (declarations children)
  statement_goes j (Node l.Expression (Cons x (Cons semicolon none))) s r w h =
      let a = expressions x s in
      goes_step s _ (declarations (Cons x (Cons semicolon none))) (step_then s a.1 _ (expressions_steps x s) (whole_steps (begin_of x) a.0 a.1))
      (texts_then s a.1 _ (expressions_texts x s r.0) (same_globals a.1 _ (whole_quiet (begin_of x) a.0 a.1)))
  statement_goes j (Node l.Block (Cons opening (Cons xs (Cons closing none)))) s r w h =
      goes_more s _ (declarations xs) _ (omega arith)
      (goes_within s (items j xs (entered s)).1 (declarations xs) h (items_later j xs (entered s) w.1.0 refl) (items_goes j xs (entered s) r.1.0 w.1.0 refl))
  statement_goes j (Node l.If (Cons word (Cons opening (Cons x (Cons closing (Cons t none)))))) s r w h =
      let a = expressions x s in
      let c = condition (offset_of word) a.0 a.1 in
      let step = step_still s c.1 (step_then s a.1 c.1 (expressions_steps x s) (condition_steps (offset_of word) a.0 a.1)) in
      goes_more s _ (0 + declarations t) _ (omega arith)
      (goes_then s c.1 _ 0 (declarations t) (condition_goes x (offset_of word) s r.1.1.0) (statement_goes j t c.1 r.1.1.1.1.0 w.1.1.1.1.0 (still_has_scope s c.1 step.scopes h)))
  statement_goes j (Node l.IfElse (Cons before (Cons word (Cons t none)))) s r w h =
      let a = statement j before s in
      let first = statement_still j before s w.0 h in
      goes_more s _ (declarations before + declarations t) _ (omega arith)
      (goes_then s a.1 _ (declarations before) (declarations t) (statement_goes j before s r.0 w.0 h) (statement_goes j t a.1 r.1.1.0 w.1.1.0 (still_has_scope s a.1 first.scopes h)))
  statement_goes j (Node l.While (Cons word (Cons opening (Cons x (Cons closing (Cons t none)))))) s r w h =
      let a = expressions x s in
      let c = condition (offset_of word) a.0 a.1 in
      let step = step_still s c.1 (step_then s a.1 c.1 (expressions_steps x s) (condition_steps (offset_of word) a.0 a.1)) in
      goes_more s _ (0 + declarations t) _ (omega arith)
      (goes_then s c.1 _ 0 (declarations t) (condition_goes x (offset_of word) s r.1.1.0) (statement_goes (in_loop j) t c.1 r.1.1.1.1.0 w.1.1.1.1.0 (still_has_scope s c.1 step.scopes h)))
  statement_goes j (Node l.DoWhile (Cons word (Cons t (Cons until (Cons opening (Cons x more)))))) s r w h =
      let b = statement (in_loop j) t s in
      goes_more s _ (declarations t + 0) _ (omega arith)
      (goes_then s b.1 _ (declarations t) 0 (statement_goes (in_loop j) t s r.1.0 w.1.0 h) (condition_goes x (offset_of until) b.1 r.1.1.1.1.0))
  statement_goes j (Node l.For (Cons word (Cons opening (Cons start (Cons x (Cons semicolon (Cons y (Cons closing (Cons t none))))))))) s r w h =
      let is = for_start start (entered s) in
      let c = condition_clause (offset_of word) x is.1 in
      let step = value_clause y c.1 in
      let b = statement (in_loop j) t step.1 in
      let begun = for_start_later start (entered s) in
      let sc = condition_clause_steps (offset_of word) x is.1 in
      let sy = value_clause_steps y c.1 in
      let both = step_then is.1 c.1 step.1 sc sy in
      let scope = still_has_scope is.1 step.1 both.scopes (begun.scope refl) in
      let later = later_then (entered s) is.1 step.1 begun (step_still is.1 step.1 both).later in
      let whole = later_then (entered s) step.1 b.1 later (statement_still (in_loop j) t step.1 w.1.1.1.1.1.1.1.0 scope).later in
      let clauses = goes_step is.1 step.1 0 both (texts_then is.1 c.1 step.1 (condition_clause_texts (offset_of word) x is.1 r.1.1.1.0) (value_clause_texts y c.1 r.1.1.1.1.1.0)) in
      let body = statement_goes (in_loop j) t step.1 r.1.1.1.1.1.1.1.0 w.1.1.1.1.1.1.1.0 scope in
      goes_more s _ (declarations start + (0 + declarations t)) _ (omega arith)
      (goes_within s b.1 (declarations start + (0 + declarations t)) h whole
      (goes_then (entered s) is.1 b.1 (declarations start) (0 + declarations t) (for_start_goes start (entered s) r.1.1.0 w.1.1.0) (goes_then is.1 step.1 b.1 0 (declarations t) clauses body)))
  statement_goes j (Node l.Break (Cons word more)) s r w h = goes_step s _ (declarations (Cons word more)) (jump_steps j.may_break (offset_of word) typed.break s)
      (same_globals s _ (jump_quiet j.may_break (offset_of word) typed.break s))
  statement_goes j (Node l.Continue (Cons word more)) s r w h =
      goes_step s _ (declarations (Cons word more)) (jump_steps j.may_continue (offset_of word) typed.continue s) (same_globals s _ (jump_quiet j.may_continue (offset_of word) typed.continue s))
  statement_goes j (Node l.Return (Cons word (Cons x more))) s r w h =
      goes_step s _ (declarations (Cons word (Cons x more))) (returned_steps j.result (offset_of word) x s) (returned_texts j.result (offset_of word) x s r.1.0)
  statement_goes j (Node l.Switch (Cons word (Cons opening (Cons x (Cons closing (Cons begin (Cons gs more))))))) s r w h =
      let a = expressions x s in
      let e = subject (offset_of word) a.0 a.1 in
      let steps = step_then s a.1 e.1 (expressions_steps x s) (subject_steps (offset_of word) a.0 a.1) in
      let step = step_still s e.1 steps in
      goes_more s _ (0 + declarations gs) _ (omega arith)
      (goes_then s e.1 _ 0 (declarations gs) (goes_step s e.1 0 steps (texts_then s a.1 e.1 (expressions_texts x s r.1.1.0) (same_globals a.1 e.1 (subject_quiet (offset_of word) a.0 a.1))))
      (groups_goes (in_switch j) gs e.1 r.1.1.1.1.1.0 w.1.1.1.1.1.0 (still_has_scope s e.1 step.scopes h)))
  statement_goes j t s r w h = goes_nowhere s (declarations t)

  pub items_goes : (j : Jumps) (t : Tree) (s : State) → InRange t → WellShaped t → HasScope s → Goes s (items j t s).1 (declarations t)
  items_goes j (Node (l.More k) (Cons before (Cons (Node l.Locals children) none))) s r w h =
      let is = items j before s in
      goes_more s _ (declarations before + declarations children) _ (omega arith)
      (goes_then s is.1 _ (declarations before) (declarations children) (items_goes j before s r.0 w.0 h) (locals_goes (Node l.Locals children) is.1 r.1.0 w.1.0))
  items_goes j (Node (l.More k) (Cons before (Cons t none))) s r w h =
      let is = items j before s in
      let first = items_later j before s w.0 h in
      goes_more s _ (declarations before + declarations t) _ (omega arith)
      (goes_then s is.1 _ (declarations before) (declarations t) (items_goes j before s r.0 w.0 h) (statement_goes j t is.1 r.1.0 w.1.0 (first.scope h)))
  items_goes j t s r w h = goes_nowhere s (declarations t)

  groups_goes : (j : Jumps) (t : Tree) (s : State) → InRange t → WellShaped t → HasScope s → Goes s (groups j t s).1 (declarations t)
  groups_goes j (Node (l.More k) (Cons before (Cons t none))) s r w h =
      let x = groups j before s in
      let first = groups_still j before s w.0 h in
      goes_more s _ (declarations before + declarations t) _ (omega arith)
      (goes_then s x.1 _ (declarations before) (declarations t) (groups_goes j before s r.0 w.0 h) (group_goes j x.0 t x.1 r.1.0 w.1.0 (still_has_scope s x.1 first.scopes h)))
  groups_goes j t s r w h = goes_nowhere s (declarations t)

  group_goes : (j : Jumps) (x : Groups) (t : Tree) (s : State) → InRange t → WellShaped t → HasScope s → Goes s (group j x t s).1 (declarations t)
  group_goes j x (Node l.Group (Cons first (Cons more (Cons t (Cons ts none))))) s r w h =
      let y = label (next_group x.labels) first s in
      let z = more_labels y.0 more y.1 in
      let b = statement j t z.1 in
      let steps = step_then s y.1 z.1 (label_steps (next_group x.labels) first s) (more_labels_steps y.0 more y.1) in
      let a = step_still s z.1 steps in
      let scope = still_has_scope s z.1 a.scopes h in
      let still = statement_still j t z.1 w.1 scope in
      let labels = goes_step s z.1 0 steps (texts_then s y.1 z.1 (label_texts (next_group x.labels) first s r.0) (more_labels_texts y.0 more y.1 r.1.0)) in
      goes_more s _ (0 + (declarations t + declarations ts)) _ (omega arith)
      (goes_then s z.1 _ 0 (declarations t + declarations ts) labels
      (goes_then z.1 b.1 _ (declarations t) (declarations ts) (statement_goes j t z.1 r.1.1.0 w.1 scope) (items_goes j ts b.1 r.1.1.1.0 w.2 (still_has_scope z.1 b.1 still.scopes scope))))
  group_goes j x t s r w h = goes_nowhere s (declarations t)
