-- What closed code needs was written before it.
use Rattle.std.proofs.Common.{ℕ, List, [], ◌∷◌, subst, inl, inr}
use Rattle.s_linear.specs.Linear.{Instr, Step, plain, choice, loop, Code, no_steps, step_then, Codes, no_codes, code_then}
use Rattle.s_sequence_keeps.specs.Closed.{sources_of, NameSet, AreIn, after_instr, after_instrs, none_written, after_step, after_code, after_each, InstrsAreClosed, StepIsClosed, CodeIsClosed, AreClosed}
use Rattle.a_place_keeps.specs.Need.{IsIn, joined, needed_by, needed_by_instrs, after_body, needed_by_step, needed_by_code, needed_by_codes, at_label}

-- one set of names is in another
abbrev pub IsSubset : (D C : NameSet) → Type 0
IsSubset D C = (x : ℕ) → D x → C x

pub none_in : (D : NameSet) → IsSubset none_written D
none_in D x z = absurd z

reads_in : (D : NameSet) (xs : List ℕ) → AreIn D xs → (x : ℕ) → IsIn x xs → D x
reads_in D [] h x r = absurd r
reads_in D (y ∷ ys) h x (inl e) = subst D e h.0
reads_in D (y ∷ ys) h x (inr r) = reads_in D ys h.1 x r

are_in_wider : (D C : NameSet) (xs : List ℕ) → IsSubset D C → AreIn D xs → AreIn C xs
are_in_wider D C [] h k = tt
are_in_wider D C (x ∷ xs) h k = (h x k.0, are_in_wider D C xs h k.1)

-- ---- after more names more are written

instr_more : (i : Instr) (D C : NameSet) → IsSubset D C → IsSubset (after_instr D i) (after_instr C i)
instr_more i D C h x (inl w) = inl w
instr_more i D C h x (inr d) = inr (h x d)

pub instrs_more : (is : List Instr) (D C : NameSet) → IsSubset D C → IsSubset (after_instrs D is) (after_instrs C is)
instrs_more [] D C h x d = h x d
instrs_more (i ∷ is) D C h x d = instrs_more is (after_instr D i) (after_instr C i) (instr_more i D C h) x d

mutual
  step_more : (s : Step) (D C : NameSet) → IsSubset D C → IsSubset (after_step D s) (after_step C s)
  step_more (plain i) D C h x d = instr_more i D C h x d
  step_more (choice p no_codes) D C h x d = h x d
  step_more (choice p (code_then c cs)) D C h x d = each_more (code_then c cs) D C h x d
  step_more (loop moves body p back) D C h x (inl w) = inl w
  step_more (loop moves body p back) D C h x (inr d) = inr (h x d)

  pub code_more : (c : Code) (D C : NameSet) → IsSubset D C → IsSubset (after_code D c) (after_code C c)
  code_more no_steps D C h x d = h x d
  code_more (step_then s c) D C h x d = code_more c (after_step D s) (after_step C s) (λ y e. step_more s D C h y e) x d

  each_more : (cs : Codes) (D C : NameSet) → IsSubset D C → IsSubset (after_each D cs) (after_each C cs)
  each_more no_codes D C h x d = tt
  each_more (code_then c cs) D C h x d = (code_more c D C h x d.0, each_more cs D C h x d.1)

-- ---- what is written stays written

pub instrs_grow : (is : List Instr) (D : NameSet) → IsSubset D (after_instrs D is)
instrs_grow [] D x d = d
instrs_grow (i ∷ is) D x d = instrs_grow is (after_instr D i) x (inr d)

mutual
  step_grow : (s : Step) (D : NameSet) → IsSubset D (after_step D s)
  step_grow (plain i) D x d = inr d
  step_grow (choice p no_codes) D x d = d
  step_grow (choice p (code_then c cs)) D x d = each_grow (code_then c cs) D x d
  step_grow (loop moves body p back) D x d = inr d

  pub code_grow : (c : Code) (D : NameSet) → IsSubset D (after_code D c)
  code_grow no_steps D x d = d
  code_grow (step_then s c) D x d = code_grow c (after_step D s) x (step_grow s D x d)

  each_grow : (cs : Codes) (D : NameSet) → IsSubset D (after_each D cs)
  each_grow no_codes D x d = tt
  each_grow (code_then c cs) D x d = (code_grow c D x d, each_grow cs D x d)

-- ---- code that is closed after some names is closed after more

pub instrs_wider : (is : List Instr) (D C : NameSet) → IsSubset D C → InstrsAreClosed D is → InstrsAreClosed C is
instrs_wider [] D C h k = tt
instrs_wider (i ∷ is) D C h k =
    (are_in_wider D C (sources_of i) h k.0, instrs_wider is (after_instr D i) (after_instr C i) (instr_more i D C h) k.1)

mutual
  step_wider : (s : Step) (D C : NameSet) → IsSubset D C → StepIsClosed D s → StepIsClosed C s
  step_wider (plain i) D C h k = are_in_wider D C (sources_of i) h k
  step_wider (choice p cs) D C h k = (h p k.0, each_wider cs D C h k.1)
  step_wider (loop moves body p back) D C h k = (instrs_wider moves D C h k.0, k.1, k.2, k.3, k.4)

  pub code_wider : (c : Code) (D C : NameSet) → IsSubset D C → CodeIsClosed D c → CodeIsClosed C c
  code_wider no_steps D C h k = tt
  code_wider (step_then s c) D C h k = (step_wider s D C h k.0, code_wider c (after_step D s) (after_step C s) (step_more s D C h) k.1)

  each_wider : (cs : Codes) (D C : NameSet) → IsSubset D C → AreClosed D cs → AreClosed C cs
  each_wider no_codes D C h k = tt
  each_wider (code_then c cs) D C h k = (code_wider c D C h k.0, each_wider cs D C h k.1)

-- ---- what is needed

instr_defined : (i : Instr) (D N : NameSet) → AreIn D (sources_of i) → IsSubset N (after_instr D i) → IsSubset (needed_by i N) D
instr_defined i D N k h x (inl read) = reads_in D (sources_of i) k x read
instr_defined i D N k h x (inr m) =
    elim (h x m.1) [
      | inl w ↦ absurd (m.0 w)
      | inr d ↦ d
    ]

pub instrs_defined : (is : List Instr) (D N : NameSet) → InstrsAreClosed D is → IsSubset N (after_instrs D is) → IsSubset (needed_by_instrs is N) D
instrs_defined [] D N k h x n = h x n
instrs_defined (i ∷ is) D N k h x n = instr_defined i D (needed_by_instrs is N) k.0 (instrs_defined is (after_instr D i) N k.1 h) x n

-- what a code needs of names that were written before it or by it was written before it
abbrev AreDefined : Code → Type 1
AreDefined c = (D N : NameSet) → CodeIsClosed D c → IsSubset N (after_code D c) → IsSubset (needed_by_code c N) D

-- with the names of a loop's moves in and others
pub with_others : (body : Code) (E D : NameSet) → IsSubset (after_code E body) (after_code (joined D E) body)
with_others body E D x w = code_more body E (joined D E) (λ y e. inr e) x w

pub label_in : (body : Code) (p : ℕ) (back : List Instr) (E D N : NameSet) → AreDefined body → CodeIsClosed E body → after_code E body p
    → InstrsAreClosed (after_code E body) back → IsSubset N (after_code (joined D E) body) → IsSubset (at_label body p back N) (joined D E)
label_in body p back E D N are b q r h x l = are (joined D E) (after_body p back N) (code_wider body E (joined D E) (λ y e. inr e) b) after x l
  where
    after : IsSubset (after_body p back N) (after_code (joined D E) body)
    after y (inl e) = subst (after_code (joined D E) body) e (with_others body E D p q)
    after y (inr (inl n)) = h y n
    after y (inr (inr read)) =
        instrs_defined back (after_code (joined D E) body) none_written (instrs_wider back (after_code E body) (after_code (joined D E) body) (with_others body E D) r)
        (none_in (after_instrs (after_code (joined D E) body) back)) y read

-- what is written after a loop is written after its body
pub after_loop : (moves back : List Instr) (body : Code) (p : ℕ) (D : NameSet)
    → IsSubset (after_step D (loop moves body p back)) (after_code (joined D (after_instrs none_written moves)) body)
after_loop moves back body p D x (inl w) = with_others body (after_instrs none_written moves) D x w
after_loop moves back body p D x (inr d) = code_grow body (joined D (after_instrs none_written moves)) x (inl d)

pub moved_in : (moves : List Instr) (D : NameSet) → IsSubset (joined D (after_instrs none_written moves)) (after_instrs D moves)
moved_in moves D x (inl d) = instrs_grow moves D x d
moved_in moves D x (inr e) = instrs_more moves none_written D (none_in D) x e

mutual
  step_defined : (s : Step) (D N : NameSet) → StepIsClosed D s → IsSubset N (after_step D s) → IsSubset (needed_by_step s N) D
  step_defined (plain i) D N k h x n = instr_defined i D N k h x n
  step_defined (choice p cs) D N k h x (inl e) = subst D e.1 k.0
  step_defined (choice p no_codes) D N k h x (inr n) = absurd n
  step_defined (choice p (code_then c cs)) D N k h x (inr n) = each_defined (code_then c cs) D N k.1 h x n
  step_defined (loop moves body p back) D N k h x n =
      instrs_defined moves D (at_label body p back N) k.0
      (λ y l.
      moved_in moves D y
      (label_in body p back (after_instrs none_written moves) D N (λ C M b g z m. code_defined body C M b g z m) k.1 k.2 k.3
      (λ z m. after_loop moves back body p D z (h z m)) y l)) x n

  pub code_defined : (c : Code) (D N : NameSet) → CodeIsClosed D c → IsSubset N (after_code D c) → IsSubset (needed_by_code c N) D
  code_defined no_steps D N k h x n = h x n
  code_defined (step_then s c) D N k h x n =
      step_defined s D (needed_by_code c N) k.0 (λ y m. code_defined c (after_step D s) N k.1 h y m) x n

  each_defined : (cs : Codes) (D N : NameSet) → AreClosed D cs → IsSubset N (after_each D cs) → IsSubset (needed_by_codes cs N) D
  each_defined no_codes D N k h x n = absurd n
  each_defined (code_then c cs) D N k h x (inl n) = code_defined c D N k.0 (λ y m. (h y m).0) x n
  each_defined (code_then c cs) D N k h x (inr n) = each_defined cs D N k.1 (λ y m. (h y m).1) x n

-- what is needed at a closed loop's label was written before the loop or by its moves in
pub label_defined : (moves back : List Instr) (body : Code) (p : ℕ) (D N : NameSet) → StepIsClosed D (loop moves body p back)
    → IsSubset N (after_code (joined D (after_instrs none_written moves)) body) → IsSubset (at_label body p back N) (joined D (after_instrs none_written moves))
label_defined moves back body p D N k h = label_in body p back (after_instrs none_written moves) D N (code_defined body) k.1 k.2 k.3 h
