-- The row of a code has its lines, marks and need.
use Rattle.std.proofs.Common.{◌≡◌, ◌≢◌, ◌<◌, ◌≤◌, ℕ, suc, ◌+◌, Bool, List, [], ◌∷◌, ◌++◌, map, Option, Some, None, refl, sym, ap, ◌∙◌, append_assoc, arith}
use Rattle.std.proofs.lemmas.List.{append-nil}
use Rattle.s_linear.specs.Linear.{Instr, Step, plain, choice, loop, Code, no_steps, step_then, no_codes, code_then}
use Rattle.s_linear.specs.Lines.{Line, done, jump, label, branch_zero, step_labels, code_labels, step_lines, code_lines}
use Rattle.a_place.specs.Share.{Names, needed_by, needed_by_instrs, needed_by_step, needed_by_code, at_label, at_branch}
use Rattle.a_place.specs.Marks.{mark, instr_marks, step_marks, code_marks}
use Rattle.a_place.specs.Turns.{StepHasOwnTurns, CodeHasOwnTurns}
use Rattle.a_share.specs.Rows.{Row, then_instr, then_same, row_instrs, row_step, row_code, row_lines, row_marks, row_needed, turn_lines, turn_marks, StepIsUnjumped, CodeIsUnjumped, RowFits, end_label}

lines_instrs : (is : List Instr) (r : Row) → row_lines (row_instrs is r) ≡ row_lines r ++ map done is
lines_instrs [] r = sym (append-nil (row_lines r))
lines_instrs (i ∷ is) r = lines_instrs is (then_instr r i) ∙ append_assoc (row_lines r) (done i ∷ []) (map done is)

only_lines : (l n m : ℕ) (k : Code) (xs : List Line) → m ≡ n → (l + 0) ≡ l
    → (xs ++ code_lines n k) ++ label l ∷ [] ≡ xs ++ ((code_lines m k ++ []) ++ label (l + 0) ∷ [])
only_lines l n m k xs e f = rw (e, f, append-nil (code_lines n k)) (append_assoc xs (code_lines n k) (label l ∷ []))

-- two lists after another one, each after a first element
four : {X : Type 0} (xs ys zs us : List X) (y z : X) → ((xs ++ (y ∷ ys)) ++ (z ∷ zs)) ++ us ≡ xs ++ (y ∷ (ys ++ (z ∷ (zs ++ us))))
four xs ys zs us y z = append_assoc (xs ++ (y ∷ ys)) (z ∷ zs) us ∙ append_assoc xs (y ∷ ys) (z ∷ (zs ++ us))

mutual
  lines_step : (l : ℕ) (s : Step) (r : Row) → row_lines (row_step l s r) ≡ row_lines r ++ step_lines l s
  lines_step l (plain i) r = refl
  lines_step l (choice p no_codes) r = refl
  lines_step l (choice p (code_then k no_codes)) r =
      ap (λ z. z ++ label l ∷ []) (lines_code (suc l) k (then_same r)) ∙ only_lines l (suc l) (l + 1) k (row_lines r) (omega arith) (omega arith)
  lines_step l (choice p (code_then k (code_then c cs))) r = refl
  lines_step l (loop enter body p back) r =
      ap (λ z. z ++ turn_lines l body p back) (lines_instrs enter r) ∙ append_assoc (row_lines r) (map done enter) (turn_lines l body p back)
      ∙ ap (λ z. row_lines r ++ z)
      (sym (four (map done enter) (code_lines (2 + l) body) (map done back) (jump l ∷ label (suc l) ∷ []) (label l) (branch_zero p (suc l))))

  pub lines_code : (l : ℕ) (c : Code) (r : Row) → row_lines (row_code l c r) ≡ row_lines r ++ code_lines l c
  lines_code l no_steps r = sym (append-nil (row_lines r))
  lines_code l (step_then s k) r =
      lines_code (l + step_labels s) k (row_step l s r) ∙ ap (λ z. z ++ code_lines (l + step_labels s) k) (lines_step l s r)
      ∙ append_assoc (row_lines r) (step_lines l s) (code_lines (l + step_labels s) k)

needed_instrs : (is : List Instr) (r : Row) (N : Names) → row_needed (row_instrs is r) N ≡ row_needed r (needed_by_instrs is N)
needed_instrs [] r N = refl
needed_instrs (i ∷ is) r N = needed_instrs is (then_instr r i) N

mutual
  needed_step : (l : ℕ) (s : Step) (r : Row) (N : Names) → row_needed (row_step l s r) N ≡ row_needed r (λ x. needed_by_step s N x)
  needed_step l (plain i) r N = refl
  needed_step l (choice p no_codes) r N = refl
  needed_step l (choice p (code_then k no_codes)) r N = needed_code (suc l) k (then_same r) N
  needed_step l (choice p (code_then k (code_then c cs))) r N = refl
  needed_step l (loop enter body p back) r N = needed_instrs enter r (at_label body p back N)

  pub needed_code : (l : ℕ) (c : Code) (r : Row) (N : Names) → row_needed (row_code l c r) N ≡ row_needed r (λ x. needed_by_code c N x)
  needed_code l no_steps r N = refl
  needed_code l (step_then s k) r N = needed_code (l + step_labels s) k (row_step l s r) N ∙ needed_step l s r (λ x. needed_by_code k N x)

marks_instrs : (d : ℕ) (is : List Instr) (r : Row) (N : Names) → row_marks d (row_instrs is r) N ≡ row_marks d r (needed_by_instrs is N) ++ instr_marks d is N
marks_instrs d [] r N = sym (append-nil (row_marks d r N))
marks_instrs d (i ∷ is) r N =
    marks_instrs d is (then_instr r i) N
    ∙ append_assoc (row_marks d r (λ x. needed_by i (needed_by_instrs is N) x)) (mark d (needed_by_instrs is N) ∷ []) (instr_marks d is N)

mutual
  marks_step : (d l : ℕ) (s : Step) (r : Row) (N : Names) → row_marks d (row_step l s r) N ≡ row_marks d r (λ x. needed_by_step s N x) ++ step_marks d s N
  marks_step d l (plain i) r N = refl
  marks_step d l (choice p no_codes) r N = refl
  marks_step d l (choice p (code_then k no_codes)) r N =
      ap (λ z. z ++ mark d N ∷ []) (marks_code d (suc l) k (then_same r) N)
      ∙ append_assoc (row_marks d (then_same r) (λ x. needed_by_code k N x)) (code_marks d k N) (mark d N ∷ [])
      ∙ ap (λ z. row_marks d (then_same r) (λ x. needed_by_code k N x) ++ (z ++ mark d N ∷ [])) (sym (append-nil (code_marks d k N)))
  marks_step d l (choice p (code_then k (code_then c cs))) r N = refl
  marks_step d l (loop enter body p back) r N =
      ap (λ z. z ++ turn_marks d body p back N) (marks_instrs d enter r (at_label body p back N))
      ∙ append_assoc (row_marks d r (needed_by_instrs enter (at_label body p back N))) (instr_marks d enter (at_label body p back N)) (turn_marks d body p back N)
      ∙ ap (λ z. row_marks d r (needed_by_instrs enter (at_label body p back N)) ++ z)
      (sym (four (instr_marks d enter (at_label body p back N)) (code_marks (suc d) body (at_branch body p back N)) (instr_marks (suc d) back (at_label body p back N))
      (mark d N ∷ mark d N ∷ []) (mark d N) (mark (suc d) N)))

  pub marks_code : (d l : ℕ) (c : Code) (r : Row) (N : Names) → row_marks d (row_code l c r) N ≡ row_marks d r (λ x. needed_by_code c N x) ++ code_marks d c N
  marks_code d l no_steps r N = sym (append-nil (row_marks d r N))
  marks_code d l (step_then s k) r N =
      marks_code d (l + step_labels s) k (row_step l s r) N
      ∙ ap (λ z. z ++ code_marks d k N) (marks_step d l s r (λ x. needed_by_code k N x))
      ∙ append_assoc (row_marks d r (λ x. needed_by_step s (needed_by_code k N) x)) (step_marks d s (needed_by_code k N)) (code_marks d k N)

-- the walk does not stop at a label from a number on up to another
abbrev pub StopsBeyond : Option ℕ → (first end : ℕ) → Type 0
StopsBeyond stop l m = (n : ℕ) → l ≤ n → n < m → stop ≢ Some n

abbrev some_or : Option ℕ → ℕ
some_or None = 0
some_or (Some x) = x

pub beyond : (e l m : ℕ) → e < l → StopsBeyond (Some e) l m
beyond e l m h n x y q = absurd (let s : e ≡ n = ap (λ z. some_or z) q in omega arith)

fits_instrs : (J : ℕ → Bool) (stop : Option ℕ) (is : List Instr) (r : Row) (N : Names) → RowFits J stop r (needed_by_instrs is N) → RowFits J stop (row_instrs is r) N
fits_instrs J stop [] r N h = h
fits_instrs J stop (i ∷ is) r N h = fits_instrs J stop is (then_instr r i) N h

mutual
  fits_step : (J : ℕ → Bool) (stop : Option ℕ) (l : ℕ) (s : Step) (r : Row) (N : Names) → StepHasOwnTurns s N → StepIsUnjumped J l s
      → StopsBeyond stop l (l + step_labels s) → RowFits J stop r (λ x. needed_by_step s N x) → RowFits J stop (row_step l s r) N
  fits_step J stop l (plain i) r N o u b h = h
  fits_step J stop l (choice p no_codes) r N o u b h = absurd (omega arith)
  fits_step J stop l (choice p (code_then k no_codes)) r N o u b h =
      (u.0, b l (omega arith) (omega arith), fits_code J stop (suc l) k (then_same r) N o.1.0 u.1 (λ n x y. b n (omega arith) (omega arith)) h)
  fits_step J stop l (choice p (code_then k (code_then c cs))) r N o u b h =
      let all = code_then k (code_then c cs) in (omega arith, b (end_label l all) (omega arith) (omega arith), o.1, u, h)
  fits_step J stop l (loop enter body p back) r N o u b h =
      (b l (omega arith) (omega arith), b (suc l) (omega arith) (omega arith), o.0, o.1, u, fits_instrs J stop enter r (at_label body p back N) h)

  pub fits_code : (J : ℕ → Bool) (stop : Option ℕ) (l : ℕ) (c : Code) (r : Row) (N : Names) → CodeHasOwnTurns c N → CodeIsUnjumped J l c
      → StopsBeyond stop l (l + code_labels c) → RowFits J stop r (λ x. needed_by_code c N x) → RowFits J stop (row_code l c r) N
  fits_code J stop l no_steps r N o u b h = h
  fits_code J stop l (step_then s k) r N o u b h =
      fits_code J stop (l + step_labels s) k (row_step l s r) N o.1 u.1 (λ n x y. b n (omega arith) (omega arith))
      (fits_step J stop l s r (λ x. needed_by_code k N x) o.0 u.0 (λ n x y. b n x (omega arith)) h)
