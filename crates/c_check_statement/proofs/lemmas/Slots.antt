-- Statements add slots after those that are there.
use Rattle.std.proofs.Common.{◌≡◌, ℕ, List, [], ◌∷◌, ◌++◌, length, take, refl, sym, ap, ◌∙◌, append_assoc, append-nil}
use Rattle.std.proofs.Math.Seq.{take-append_seam}
use Rattle.c_ast.specs.Productions as l
use Rattle.c_ast.specs.Tree.{Tree, Node, Cons}
use Rattle.c_typed.specs.Typed as typed
use Rattle.c_check_def.specs.State.{State}
use Rattle.c_check_def.specs.Leaves.{offset_of, begin_of}
use Rattle.c_check_def.specs.Expressions.{expressions}
use Rattle.c_check_def.specs.Statements.{Jumps, in_loop, in_switch, next_group, Groups, condition, subject, condition_clause, value_clause, label, more_labels, for_start, statement, items, groups, group}
use Rattle.c_check_state.specs.Frames.{KeepsSlots}
use Rattle.c_check_statement.specs.Parts.{for_items}
use Rattle.c_check_laws.proofs.lemmas.Later.{Later}
use Rattle.c_check_laws.proofs.lemmas.States.{Step, step_then}
use Rattle.c_check_laws.proofs.lemmas.Steps.{expressions_steps}
use Rattle.c_check_laws.proofs.lemmas.StatementSteps.{locals_later, for_start_later, whole_steps, condition_steps, subject_steps, condition_clause_steps, value_clause_steps, jump_steps, returned_steps, label_steps, more_labels_steps}

pub record Adds (s t : State) : Type 0 where
  pub more : List ℕ
  pub slots : t.slots ≡ s.slots ++ more

pub adds_none : (s t : State) → t.slots ≡ s.slots → Adds s t
adds_none s t e = record { more = []; slots = e ∙ sym (append-nil s.slots) }

pub adds_then : (r s t : State) → Adds r s → Adds s t → Adds r t
adds_then r s t a b = record { more = a.more ++ b.more; slots = b.slots ∙ ap (λ ks. ks ++ b.more) a.slots ∙ append_assoc r.slots a.more b.more }

-- what the laws of later states say of slots
adds_later : (s t : State) → Later s t → Adds s t
adds_later s t a = record { more = a.slots.0; slots = a.slots.1 }

adds_step : (s t : State) → Step s t → Adds s t
adds_step s t a = adds_none s t a.slots

pub keeps_slots : (s t : State) → Adds s t → KeepsSlots s t
keeps_slots s t a = ap (take (length s.slots)) a.slots ∙ take-append_seam s.slots a.more

mutual
  statement_adds : (j : Jumps) (t : Tree) (s : State) → Adds s (statement j t s).1
  statement_adds j (Node l.Null children) s = adds_none s s refl
  statement_adds j (Node l.Expression (Cons x (Cons semicolon none))) s =
      let a = expressions x s in adds_step s _ (step_then s a.1 _ (expressions_steps x s) (whole_steps (begin_of x) a.0 a.1))
  statement_adds j (Node l.Block (Cons opening (Cons xs (Cons closing none)))) s = adds_none s _ refl
  statement_adds j (Node l.If (Cons word (Cons opening (Cons x (Cons closing (Cons t none)))))) s =
      let a = expressions x s in
      let c = condition (offset_of word) a.0 a.1 in
      adds_then s c.1 _ (adds_step s c.1 (step_then s a.1 c.1 (expressions_steps x s) (condition_steps (offset_of word) a.0 a.1))) (statement_adds j t c.1)
  statement_adds j (Node l.IfElse (Cons before (Cons word (Cons t none)))) s =
      let a = statement j before s in adds_then s a.1 _ (statement_adds j before s) (statement_adds j t a.1)
  statement_adds j (Node l.While (Cons word (Cons opening (Cons x (Cons closing (Cons t none)))))) s =
      let a = expressions x s in
      let c = condition (offset_of word) a.0 a.1 in
      adds_then s c.1 _ (adds_step s c.1 (step_then s a.1 c.1 (expressions_steps x s) (condition_steps (offset_of word) a.0 a.1))) (statement_adds (in_loop j) t c.1)
  statement_adds j (Node l.DoWhile (Cons word (Cons t (Cons until (Cons opening (Cons x more)))))) s =
      let b = statement (in_loop j) t s in
      let a = expressions x b.1 in
      adds_then s b.1 _ (statement_adds (in_loop j) t s) (adds_step b.1 _ (step_then b.1 a.1 _ (expressions_steps x b.1) (condition_steps (offset_of until) a.0 a.1)))
  statement_adds j (Node l.For (Cons word (Cons opening (Cons start (Cons x (Cons semicolon (Cons y (Cons closing (Cons t none))))))))) s = adds_none s _ refl
  statement_adds j (Node l.Break (Cons word more)) s = adds_step s _ (jump_steps j.may_break (offset_of word) typed.break s)
  statement_adds j (Node l.Continue (Cons word more)) s = adds_step s _ (jump_steps j.may_continue (offset_of word) typed.continue s)
  statement_adds j (Node l.Return (Cons word (Cons x more))) s = adds_step s _ (returned_steps j.result (offset_of word) x s)
  statement_adds j (Node l.Switch (Cons word (Cons opening (Cons x (Cons closing (Cons begin (Cons gs more))))))) s =
      let a = expressions x s in
      let e = subject (offset_of word) a.0 a.1 in
      adds_then s e.1 _ (adds_step s e.1 (step_then s a.1 e.1 (expressions_steps x s) (subject_steps (offset_of word) a.0 a.1))) (groups_adds (in_switch j) gs e.1)
  statement_adds j t s = adds_none s s refl

  pub items_adds : (j : Jumps) (t : Tree) (s : State) → Adds s (items j t s).1
  items_adds j (Node (l.More k) (Cons before (Cons (Node l.Locals children) none))) s =
      let is = items j before s in adds_then s is.1 _ (items_adds j before s) (adds_later is.1 _ (locals_later (Node l.Locals children) is.1))
  items_adds j (Node (l.More k) (Cons before (Cons t none))) s = let is = items j before s in adds_then s is.1 _ (items_adds j before s) (statement_adds j t is.1)
  items_adds j t s = adds_none s s refl

  groups_adds : (j : Jumps) (t : Tree) (s : State) → Adds s (groups j t s).1
  groups_adds j (Node (l.More k) (Cons before (Cons t none))) s = let x = groups j before s in adds_then s x.1 _ (groups_adds j before s) (group_adds j x.0 t x.1)
  groups_adds j t s = adds_none s s refl

  group_adds : (j : Jumps) (x : Groups) (t : Tree) (s : State) → Adds s (group j x t s).1
  group_adds j x (Node l.Group (Cons first (Cons more (Cons t (Cons ts none))))) s =
      let y = label (next_group x.labels) first s in
      let z = more_labels y.0 more y.1 in
      let b = statement j t z.1 in
      let a = adds_step s z.1 (step_then s y.1 z.1 (label_steps (next_group x.labels) first s) (more_labels_steps y.0 more y.1)) in
      adds_then s z.1 _ a (adds_then z.1 b.1 _ (statement_adds j t z.1) (items_adds j ts b.1))
  group_adds j x t s = adds_none s s refl

-- the state where a scope begins
abbrev pub entered : State → State
entered s = record s { scopes = [] ∷ s.scopes }

-- where a block ends, its slots end
pub items_leave : (j : Jumps) (t : Tree) (s : State) → take (length s.slots) (items j t (entered s)).1.slots ≡ s.slots
items_leave j t s = keeps_slots (entered s) (items j t (entered s)).1 (items_adds j t (entered s))

-- where a `for` ends, the slots of its block end
for_adds : (j : Jumps) (offset : ℕ) (start x y t : Tree) (s : State) → Adds s (for_items j offset start x y t s).1
for_adds j offset start x y t s =
    let is = for_start start s in
    let c = condition_clause offset x is.1 in
    let step = value_clause y c.1 in
    adds_then s is.1 _ (adds_later s is.1 (for_start_later start s))
    (adds_then is.1 step.1 _ (adds_step is.1 step.1 (step_then is.1 c.1 step.1 (condition_clause_steps offset x is.1) (value_clause_steps y c.1))) (statement_adds j t step.1))

pub for_leave : (j : Jumps) (offset : ℕ) (start x y t : Tree) (s : State) → take (length s.slots) (for_items j offset start x y t (entered s)).1.slots ≡ s.slots
for_leave j offset start x y t s = keeps_slots (entered s) (for_items j offset start x y t (entered s)).1 (for_adds j offset start x y t (entered s))
