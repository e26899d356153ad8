-- Code as the walk meets it, from its end on.
use Rattle.std.specs.Prelude.{◌≡◌, ◌≢◌, ◌≤◌, ℕ, suc, ◌+◌, ◌-◌, Bool, false, ◌||◌, List, [], ◌∷◌, ◌++◌, map, slice_get, Option, Some}
use Rattle.s_linear.specs.Linear.{Instr, Step, plain, choice, loop, Code, no_steps, step_then, Codes, no_codes, code_then}
use Rattle.s_linear.specs.Lines.{Line, done, branch_zero, jump, label, counted, step_labels, code_labels, last_from, others_from, code_lines, step_lines}
use Rattle.a_place.specs.Share.{Names, needed_by, needed_by_step, at_label, at_branch}
use Rattle.a_place.specs.Marks.{Mark, mark, instr_marks, code_marks, step_marks}
use Rattle.a_place.specs.Turns.{IsWrittenOr, CodeHasOwnTurns, HaveOwnTurns}

-- these lines stand in `lines` from position a up to b
abbrev pub StandAt : (lines : List Line) → (a : ℕ) → List Line → (b : ℕ) → Type 0
StandAt lines a [] b = a ≡ b
StandAt lines a (l ∷ ls) b = (slice_get lines a ≡ Some l) × StandAt lines (suc a) ls b

-- Instructions, labels that nothing jumps to, loops without their moves in, and choices of two codes or more, the last one
-- outermost. `then_same` has no lines: a choice of one code begins there, and its label ends it.
pub data Row : Type 0 where
  no_row : Row
  then_instr : Row → Instr → Row
  then_label : Row → (label : ℕ) → Row
  then_loop : Row → (label : ℕ) → (body : Code) → (predicate : ℕ) → (back : List Instr) → Row
  then_choice : Row → (label : ℕ) → (predicate : ℕ) → Codes → Row
  then_same : Row → Row

abbrev pub row_instrs : List Instr → Row → Row
row_instrs [] r = r
row_instrs (i ∷ is) r = row_instrs is (then_instr r i)

-- a code after a row, its labels numbered from a number on
abbrev mutual
  pub row_step : (first : ℕ) → Step → Row → Row
  row_step l (plain i) r = then_instr r i
  row_step l (choice p (code_then k no_codes)) r = then_label (row_code (suc l) k (then_same r)) l
  row_step l (choice p cs) r = then_choice r l p cs
  row_step l (loop enter body p back) r = then_loop (row_instrs enter r) l body p back

  pub row_code : (first : ℕ) → Code → Row → Row
  row_code l no_steps r = r
  row_code l (step_then s k) r = row_code (l + step_labels s) k (row_step l s r)

-- ---- lines and marks

abbrev pub turn_lines : (first : ℕ) → (body : Code) → (predicate : ℕ) → (back : List Instr) → List Line
turn_lines l body p back = label l ∷ (code_lines (2 + l) body ++ (branch_zero p (suc l) ∷ (map done back ++ (jump l ∷ label (suc l) ∷ []))))

abbrev pub turn_marks : (depth : ℕ) → (body : Code) → (predicate : ℕ) → (back : List Instr) → Names → List Mark
turn_marks d body p back N =
    mark d N ∷ (code_marks (suc d) body (at_branch body p back N)
    ++ (mark (suc d) N ∷ (instr_marks (suc d) back (at_label body p back N) ++ (mark d N ∷ mark d N ∷ []))))

abbrev pub row_lines : Row → List Line
row_lines no_row = []
row_lines (then_instr r i) = row_lines r ++ done i ∷ []
row_lines (then_label r l) = row_lines r ++ label l ∷ []
row_lines (then_loop r l body p back) = row_lines r ++ turn_lines l body p back
row_lines (then_choice r l p cs) = row_lines r ++ step_lines l (choice p cs)
row_lines (then_same r) = row_lines r

abbrev pub row_needed : Row → Names → Names
row_needed no_row N = N
row_needed (then_instr r i) N = row_needed r (λ x. needed_by i N x)
row_needed (then_label r l) N = row_needed r N
row_needed (then_loop r l body p back) N = row_needed r (at_label body p back N)
row_needed (then_choice r l p cs) N = row_needed r (λ x. needed_by_step (choice p cs) N x)
row_needed (then_same r) N = row_needed r (λ x. N x || false)

abbrev pub row_marks : (depth : ℕ) → Row → Names → List Mark
row_marks d no_row N = []
row_marks d (then_instr r i) N = row_marks d r (λ x. needed_by i N x) ++ mark d N ∷ []
row_marks d (then_label r l) N = row_marks d r N ++ mark d N ∷ []
row_marks d (then_loop r l body p back) N = row_marks d r (at_label body p back N) ++ turn_marks d body p back N
row_marks d (then_choice r l p cs) N = row_marks d r (λ x. needed_by_step (choice p cs) N x) ++ step_marks d (choice p cs) N
row_marks d (then_same r) N = row_marks d r (λ x. N x || false)

-- ---- what the walk asks of code

-- Nothing jumps to the label of a choice of one code.
abbrev mutual
  pub StepIsUnjumped : (is_jumped : ℕ → Bool) → (first : ℕ) → Step → Type 0
  StepIsUnjumped J l (plain i) = Unit {0}
  StepIsUnjumped J l (choice p (code_then k no_codes)) = (J l ≡ false) × CodeIsUnjumped J (suc l) k
  StepIsUnjumped J l (choice p cs) = CodesAreUnjumped J (last_from (l + counted cs) cs) (others_from (l + counted cs) cs) cs
  StepIsUnjumped J l (loop enter body p back) = CodeIsUnjumped J (2 + l) body

  pub CodeIsUnjumped : (is_jumped : ℕ → Bool) → (first : ℕ) → Code → Type 0
  CodeIsUnjumped J l no_steps = Unit {0}
  CodeIsUnjumped J l (step_then s k) = StepIsUnjumped J l s × CodeIsUnjumped J (l + step_labels s) k

  pub CodesAreUnjumped : (is_jumped : ℕ → Bool) → (last others : ℕ) → Codes → Type 0
  CodesAreUnjumped J last others no_codes = Unit {0}
  CodesAreUnjumped J last others (code_then k no_codes) = CodeIsUnjumped J last k
  CodesAreUnjumped J last others (code_then k ks) = CodeIsUnjumped J others k × CodesAreUnjumped J last (others + code_labels k) ks

-- the label at the end of a choice
abbrev pub end_label : (first : ℕ) → Codes → ℕ
end_label l cs = l + (counted cs - 1)

-- The labels at its end are not the one at which the walk stops.
abbrev pub RowFits : (is_jumped : ℕ → Bool) → (stop : Option ℕ) → Row → Names → Type 0
RowFits J stop no_row N = Unit {0}
RowFits J stop (then_instr r i) N = RowFits J stop r (λ x. needed_by i N x)
RowFits J stop (then_label r l) N = (J l ≡ false) × (stop ≢ Some l) × RowFits J stop r N
RowFits J stop (then_loop r l body p back) N =
    (stop ≢ Some l) × (stop ≢ Some (suc l)) × IsWrittenOr (at_label body p back N) back N × CodeHasOwnTurns body (at_branch body p back N)
    × CodeIsUnjumped J (2 + l) body × RowFits J stop r (at_label body p back N)
RowFits J stop (then_choice r l p cs) N =
    (2 ≤ counted cs) × (stop ≢ Some (end_label l cs)) × HaveOwnTurns cs N
    × CodesAreUnjumped J (last_from (l + counted cs) cs) (others_from (l + counted cs) cs) cs × RowFits J stop r (λ x. needed_by_step (choice p cs) N x)
RowFits J stop (then_same r) N = RowFits J stop r (λ x. N x || false)
