-- Where the names of spanned code start and end: what it writes has started at its end, and what it needs goes on to its start.
use Rattle.std.proofs.Common.{◌≤◌, ℕ, suc, List, [], ◌∷◌, subst, inl, inr, arith}
use Rattle.s_linear.specs.Linear.{Instr, Step, plain, choice, loop, Code, no_steps, step_then, Codes, no_codes, code_then}
use Rattle.s_linear.specs.Lines.{Line}
use Rattle.a_place.specs.Places.{first, last}
use Rattle.a_place.specs.Laws.{IsAliveAt}
use Rattle.s_sequence_keeps.specs.Closed.{NameSet, after_instr, after_instrs, none_written, after_step, after_code}
use Rattle.a_place_keeps.specs.Need.{needed_by_instrs, after_body, needed_by_step, needed_by_code, needed_by_codes, at_label}
use Rattle.a_place_keeps.specs.Spans.{IsBegunAt, SpansInstr, SpansInstrs, SpansStep, SpansCode, SpansCodes}

module _ (lines : List Line) where
  -- ---- code ends after it begins

  pub instrs_le : (is : List Instr) (a b : ℕ) → SpansInstrs lines a is b → a ≤ b
  instrs_le [] a b sp = sp
  instrs_le (i ∷ is) a b sp = let r : suc a ≤ b = instrs_le is (suc a) b sp.1 in omega arith

  mutual
    step_le : (s : Step) (a b : ℕ) → SpansStep lines a s b → a ≤ b
    step_le (plain i) a b sp = let r : suc a ≤ b = sp.1 in omega arith
    step_le (choice p cs) a b sp = sp.2
    step_le (loop moves body p back) a b sp =
        let in_end : a ≤ sp.0 = instrs_le moves a sp.0 sp.3 in
        let body_end : suc sp.0 ≤ sp.1 = code_le body (suc sp.0) sp.1 sp.4 in
        let back_end : suc sp.1 ≤ sp.2 = instrs_le back (suc sp.1) sp.2 sp.6 in
        let end : sp.2 ≤ b = sp.7 in
        omega arith

    pub code_le : (c : Code) (a b : ℕ) → SpansCode lines a c b → a ≤ b
    code_le no_steps a b sp = sp
    code_le (step_then s c) a b sp =
        let one : a ≤ sp.0 = step_le s a sp.0 sp.1 in
        let two : sp.0 ≤ b = code_le c sp.0 b sp.2 in
        omega arith

  -- ---- what has started

  pub begun : (x a : ℕ) → IsAliveAt lines x a → IsBegunAt lines x a
  begun x a h = record { occurs_there = h.occurs_there; started = h.started }

  pub goes_on : (x a : ℕ) → IsBegunAt lines x a → a ≤ last x lines → IsAliveAt lines x a
  goes_on x a h e = record { occurs_there = h.occurs_there; started = h.started; not_ended = e }

  abbrev pub AreBegun : NameSet → (a : ℕ) → Type 0
  AreBegun D a = (x : ℕ) → D x → IsBegunAt lines x a

  pub later : (D : NameSet) (a b : ℕ) → a ≤ b → AreBegun D a → AreBegun D b
  later D a b le h x d =
      let r : IsBegunAt lines x a = h x d in let s : first x lines ≤ a = r.started in record { occurs_there = r.occurs_there; started = omega arith }

  pub begun_or : (D : NameSet) (i : Instr) (a : ℕ) → SpansInstr lines a i → AreBegun D a → AreBegun (after_instr D i) a
  begun_or D i a sp h x (inl w) = begun x a (sp.target x w)
  begun_or D i a sp h x (inr d) = h x d

  pub begun_next : (D : NameSet) (i : Instr) (a : ℕ) → SpansInstr lines a i → AreBegun D a → AreBegun (after_instr D i) (suc a)
  begun_next D i a sp h = later (after_instr D i) a (suc a) (omega arith) (begun_or D i a sp h)

  pub instrs_begun : (is : List Instr) (D : NameSet) (a b : ℕ) → SpansInstrs lines a is b → AreBegun D a → AreBegun (after_instrs D is) b
  instrs_begun [] D a b sp h = later D a b sp h
  instrs_begun (i ∷ is) D a b sp h = instrs_begun is (after_instr D i) (suc a) b sp.1 (begun_next D i a sp.0 h)

  pub moves_begun : (moves : List Instr) (a b : ℕ) → SpansInstrs lines a moves b → AreBegun (after_instrs none_written moves) b
  moves_begun moves a b sp = instrs_begun moves none_written a b sp (λ x z. absurd z)

  mutual
    pub step_begun : (s : Step) (D : NameSet) (a b : ℕ) → SpansStep lines a s b → AreBegun D a → AreBegun (after_step D s) b
    step_begun (plain i) D a b sp h x w = later (after_instr D i) (suc a) b sp.1 (begun_next D i a sp.0 h) x w
    step_begun (choice p no_codes) D a b sp h x w = later D a b sp.2 h x w
    step_begun (choice p (code_then k ks)) D a b sp h x w =
        later (after_code D k) sp.1.0.1 b sp.1.0.4
        (λ y v. code_begun k D sp.1.0.0 sp.1.0.1 sp.1.0.3 (later D a sp.1.0.0 sp.1.0.2 h) y v) x w.0
    step_begun (loop moves body p back) D a b sp h x (inl w) =
        let E : NameSet = after_instrs none_written moves in
        let back_end : suc sp.1 ≤ sp.2 = instrs_le back (suc sp.1) sp.2 sp.6 in
        let end : sp.2 ≤ b = sp.7 in
        later (after_code E body) sp.1 b (omega arith)
        (λ y v. code_begun body E (suc sp.0) sp.1 sp.4 (later E sp.0 (suc sp.0) (omega arith) (moves_begun moves a sp.0 sp.3)) y v) x w
    step_begun (loop moves body p back) D a b sp h x (inr d) = later D a b (step_le (loop moves body p back) a b sp) h x d

    pub code_begun : (c : Code) (D : NameSet) (a b : ℕ) → SpansCode lines a c b → AreBegun D a → AreBegun (after_code D c) b
    code_begun no_steps D a b sp h x w = later D a b sp h x w
    code_begun (step_then s k) D a b sp h x w =
        code_begun k (after_step D s) sp.0 b sp.2 (λ y v. step_begun s D a sp.0 sp.1 h y v) x w

  -- ---- what goes on

  abbrev pub GoOn : NameSet → (b : ℕ) → Type 0
  GoOn N b = (x : ℕ) → N x → b ≤ last x lines

  pub sooner : (N : NameSet) (a b : ℕ) → a ≤ b → GoOn N b → GoOn N a
  sooner N a b le h x n = let r : b ≤ last x lines = h x n in omega arith

  pub instrs_last : (is : List Instr) (a b : ℕ) (N : NameSet) → SpansInstrs lines a is b → GoOn N b → GoOn (needed_by_instrs is N) a
  instrs_last [] a b N sp h x n = sooner N a b sp h x n
  instrs_last (i ∷ is) a b N sp h x (inl read) = (sp.0.source x read).not_ended
  instrs_last (i ∷ is) a b N sp h x (inr m) = let r : suc a ≤ last x lines = instrs_last is (suc a) b N sp.1 h x m.1 in omega arith

  -- what moves back read first
  pub back_last : (back : List Instr) (m e : ℕ) → SpansInstrs lines (suc m) back e → GoOn (needed_by_instrs back none_written) m
  back_last back m e sp =
      sooner (needed_by_instrs back none_written) m (suc m) (omega arith) (instrs_last back (suc m) e none_written sp (λ y z. absurd z))

  -- where a loop's branch stands
  pub branch_le : (moves back : List Instr) (body : Code) (p : ℕ) (a b : ℕ) (sp : SpansStep lines a (loop moves body p back) b) → sp.1 ≤ b
  branch_le moves back body p a b sp =
      let back_end : suc sp.1 ≤ sp.2 = instrs_le back (suc sp.1) sp.2 sp.6 in
      let end : sp.2 ≤ b = sp.7 in
      omega arith

  -- after a loop's body
  after_last : (moves back : List Instr) (body : Code) (p : ℕ) (a b : ℕ) (N : NameSet) (sp : SpansStep lines a (loop moves body p back) b) → GoOn N b
      → GoOn (after_body p back N) sp.1
  after_last moves back body p a b N sp h x (inl e) = subst (λ z. sp.1 ≤ last z lines) e (sp.5.not_ended)
  after_last moves back body p a b N sp h x (inr (inl n)) = sooner N sp.1 b (branch_le moves back body p a b sp) h x n
  after_last moves back body p a b N sp h x (inr (inr read)) = back_last back sp.1 sp.2 sp.6 x read

  mutual
    step_last : (s : Step) (N : NameSet) (a b : ℕ) → SpansStep lines a s b → GoOn N b → GoOn (needed_by_step s N) a
    step_last (plain i) N a b sp h x (inl read) = (sp.0.source x read).not_ended
    step_last (plain i) N a b sp h x (inr m) = let r : b ≤ last x lines = h x m.1 in let e : suc a ≤ b = sp.1 in omega arith
    step_last (choice p cs) N a b sp h x (inl e) = subst (λ z. a ≤ last z lines) e.1 ((sp.0 e.0).not_ended)
    step_last (choice p cs) N a b sp h x (inr n) = codes_last cs N a b sp.1 h x n
    step_last (loop moves body p back) N a b sp h x n =
        instrs_last moves a sp.0 (at_label body p back N) sp.3
        (sooner (at_label body p back N) sp.0 (suc sp.0) (omega arith)
        (λ y l. code_last body (after_body p back N) (suc sp.0) sp.1 sp.4 (after_last moves back body p a b N sp h) y l)) x n

    pub code_last : (k : Code) (N : NameSet) (a b : ℕ) → SpansCode lines a k b → GoOn N b → GoOn (needed_by_code k N) a
    code_last no_steps N a b sp h x n = sooner N a b sp h x n
    code_last (step_then s k) N a b sp h x n =
        step_last s (needed_by_code k N) a sp.0 sp.1 (λ y l. code_last k N sp.0 b sp.2 h y l) x n

    codes_last : (ks : Codes) (N : NameSet) (a b : ℕ) → SpansCodes lines a ks b → GoOn N b → GoOn (needed_by_codes ks N) a
    codes_last no_codes N a b sp h x n = absurd n
    codes_last (code_then k ks) N a b sp h x (inl n) =
        sooner (needed_by_code k N) a sp.0.0 sp.0.2 (λ y m. code_last k N sp.0.0 sp.0.1 sp.0.3 (sooner N sp.0.1 b sp.0.4 h) y m) x n
    codes_last (code_then k ks) N a b sp h x (inr n) = codes_last ks N a b sp.1 h x n

  pub label_last : (moves back : List Instr) (body : Code) (p : ℕ) (N : NameSet) (a b : ℕ)
      → (sp : SpansStep lines a (loop moves body p back) b) → GoOn N b → GoOn (at_label body p back N) sp.0
  label_last moves back body p N a b sp h =
      sooner (at_label body p back N) sp.0 (suc sp.0) (omega arith)
      (code_last body (after_body p back N) (suc sp.0) sp.1 sp.4 (after_last moves back body p a b N sp h))
