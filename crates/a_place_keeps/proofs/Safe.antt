-- Places that are apart are safe for closed code that the intervals span.
use Rattle.std.proofs.Common.{◌≡◌, ◌≢◌, ◌≤◌, ℕ, suc, Bool, false, List, Some, [], ◌∷◌, sym, subst, inl, inr, arith}
use Rattle.s_linear.specs.Linear.{Instr, const, undef, object_address, global_address, binary, unary, load, store, clear, equal_pointers, move, call, put, get, exit, Step, plain, choice, loop, Code, no_steps, step_then, Codes, no_codes, code_then}
use Rattle.s_linear.specs.Lines.{Line}
use Rattle.a_place.specs.Places.{last}
use Rattle.a_place.specs.Laws.{IsAliveAt}
use Rattle.s_sequence_keeps.specs.Closed.{target_of, NameSet, after_instr, after_instrs, none_written, after_step, after_code, after_each, InstrsAreClosed, StepIsClosed, CodeIsClosed, AreClosed}
use Rattle.a_place_keeps.specs.Need.{these, joined, needed_by_instrs, needed_by_code, at_label, at_branch, KeepsPlace, SafeInstr, SafeInstrs, SafeStep, SafeCode, SafeCodes}
use Rattle.a_place_keeps.specs.Spans.{ArePlacesApart, SpansInstr, SpansInstrs, SpansStep, SpansCode, SpansCodes}
use Rattle.a_place_keeps.specs.Laws.{PlacesApartAreSafe}
use Rattle.a_place_keeps.proofs.Needs.{need_back}
use Rattle.a_place_keeps.proofs.Defined.{IsSubset, none_in, instrs_defined, code_grow, code_wider, code_defined, label_defined, moved_in, after_loop}
use Rattle.a_place_keeps.proofs.Loops.{same_written, kept_by, label_split, back_closed, branch_in}
use Rattle.a_place_keeps.proofs.Positions.{instrs_le, code_le, goes_on, AreBegun, later, begun_or, begun_next, moves_begun, step_begun, code_begun, GoOn, sooner, instrs_last, back_last, branch_le, code_last, label_last}

-- every place is kept where calls lose none
keeps_all : (lost : ℕ → Bool) → ((p : ℕ) → lost p ≡ false) → (i : Instr) (p : ℕ) → KeepsPlace lost i p
keeps_all lost none (const t w) p = tt
keeps_all lost none (undef t) p = tt
keeps_all lost none (object_address t k) p = tt
keeps_all lost none (global_address t k) p = tt
keeps_all lost none (binary o t a b) p = tt
keeps_all lost none (unary o t a) p = tt
keeps_all lost none (load width t a) p = tt
keeps_all lost none (store width a v) p = tt
keeps_all lost none (clear k) p = tt
keeps_all lost none (equal_pointers t a b) p = tt
keeps_all lost none (move t a) p = tt
keeps_all lost none (call g t xs) p = none p
keeps_all lost none (put a) p = tt
keeps_all lost none (get t) p = tt
keeps_all lost none (exit a) p = tt

module _ (lines : List Line) (f : ℕ → ℕ) (lost : ℕ → Bool) (apart : ArePlacesApart lines f) (none : (p : ℕ) → lost p ≡ false) where
  -- ---- instructions

  safe_instr : (i : Instr) (D N : NameSet) (a : ℕ) → SpansInstr lines a i → AreBegun lines D a → GoOn lines N (suc a)
      → IsSubset N (after_instr D i) → SafeInstr f lost i N
  safe_instr i D N a sp begins goes h t x w n ne = (
    inl (apart t x a ne (sp.target t w)
        (goes_on lines x a (begun_or lines D i a sp begins x (h x n)) (sooner lines N a (suc a) (omega arith) goes x n))),
    keeps_all lost none i (f x),
  )

  safe_instrs : (is : List Instr) (D N : NameSet) (a b : ℕ) → SpansInstrs lines a is b → InstrsAreClosed D is → AreBegun lines D a → GoOn lines N b
      → IsSubset N (after_instrs D is) → SafeInstrs f lost is N
  safe_instrs [] D N a b sp k begins goes h = tt
  safe_instrs (i ∷ is) D N a b sp k begins goes h = (
    safe_instr i D (needed_by_instrs is N) a sp.0 begins (instrs_last lines is (suc a) b N sp.1 goes) (instrs_defined is (after_instr D i) N k.1 h),
    safe_instrs is (after_instr D i) N (suc a) b sp.1 k.1 (begun_next lines D i a sp.0 begins) goes h,
  )

  -- Moves back from position j: what is needed at the label at l is alive there, and what they write has started there.
  safe_back : (is : List Instr) (D L W : NameSet) (l j e : ℕ) → l ≤ j → SpansInstrs lines j is e → InstrsAreClosed D is → AreBegun lines D j
      → AreBegun lines W l → IsSubset (after_instrs none_written is) W → ((x : ℕ) → L x → IsAliveAt lines x l) → SafeInstrs f lost is L
  safe_back [] D L W l j e le sp k begins starts moved alive = tt
  safe_back (i ∷ is) D L W l j e le sp k begins starts moved alive = (
    safe,
    safe_back is (after_instr D i) L W l (suc j) e (omega arith) sp.1 k.1 (begun_next lines D i j sp.0 begins) starts
        (λ x w. moved x (moved_in is (after_instr none_written i) x (inr w))) alive,
  )
    where
      differ : (t x : ℕ) → target_of i ≡ Some t → needed_by_instrs is L x → t ≢ x → f t ≢ f x
      differ t x w n ne =
          let last_of : j ≤ last t lines = (sp.0.target t w).not_ended in
          elim (need_back is L x n) [
            | inr m ↦
                let written : after_instrs (after_instr none_written i) is t = moved_in is (after_instr none_written i) t (inl (inl w)) in
                apart t x l ne (goes_on lines t l (starts t (moved t written)) (omega arith)) (alive x m)
            | inl read ↦
                let d : after_instr D i x = instrs_defined is (after_instr D i) none_written k.1 (none_in (after_instrs (after_instr D i) is)) x read in
                apart t x j ne (sp.0.target t w)
                (goes_on lines x j (begun_or lines D i j sp.0 begins x d) (back_last lines is j e sp.1 x read))
          ]

      safe : SafeInstr f lost i (needed_by_instrs is L)
      safe t x w n ne = (inl (differ t x w n ne), keeps_all lost none i (f x))

  -- ---- loops

  abbrev Started : (moves : List Instr) → NameSet → NameSet
  Started moves D = joined D (after_instrs none_written moves)

  -- what is needed after the body of a closed loop goes on to its branch
  branch_last : (moves back : List Instr) (body : Code) (p : ℕ) (D N : NameSet) (a b : ℕ) → StepIsClosed D (loop moves body p back)
      → (sp : SpansStep lines a (loop moves body p back) b) → GoOn lines N b → GoOn lines (at_branch body p back N) sp.1
  branch_last moves back body p D N a b k sp h x (inl e) = subst (λ z. sp.1 ≤ last z lines) e (sp.5.not_ended)
  branch_last moves back body p D N a b k sp h x (inr (inl n)) = sooner lines N sp.1 b (branch_le lines moves back body p a b sp) h x n
  branch_last moves back body p D N a b k sp h x (inr (inr m)) =
      elim (kept_by back (at_label body p back N) x m) [
        | inl read ↦ back_last lines back sp.1 sp.2 sp.6 x read
        | inr kept ↦
            elim (label_split moves back body p D N k x kept.1) [
              | inl w ↦ absurd (kept.0 (same_written moves back none_written none_written (λ y z. z) (sym k.4) x w))
              | inr n ↦ sooner lines N sp.1 b (branch_le lines moves back body p a b sp) h x n
            ]
      ]

  begun_body : (moves back : List Instr) (body : Code) (p : ℕ) (D : NameSet) (a b : ℕ) (sp : SpansStep lines a (loop moves body p back) b)
      → AreBegun lines D a → AreBegun lines (Started moves D) sp.0
  begun_body moves back body p D a b sp begins x (inl d) = later lines D a sp.0 (instrs_le lines moves a sp.0 sp.3) begins x d
  begun_body moves back body p D a b sp begins x (inr w) = moves_begun lines moves a sp.0 sp.3 x w

  -- the moves in of a closed loop, and its moves back
  safe_moves : (moves back : List Instr) (body : Code) (p : ℕ) (D N : NameSet) (a b : ℕ) → StepIsClosed D (loop moves body p back)
      → (sp : SpansStep lines a (loop moves body p back) b) → AreBegun lines D a → GoOn lines N b → IsSubset N (after_code (Started moves D) body)
      → SafeInstrs f lost moves (at_label body p back N)
  safe_moves moves back body p D N a b k sp begins goes h =
      safe_instrs moves D (at_label body p back N) a sp.0 sp.3 k.0 begins (label_last lines moves back body p N a b sp goes)
      (λ x l. moved_in moves D x (label_defined moves back body p D N k h x l))

  safe_moves_back : (moves back : List Instr) (body : Code) (p : ℕ) (D N : NameSet) (a b : ℕ) → StepIsClosed D (loop moves body p back)
      → (sp : SpansStep lines a (loop moves body p back) b) → AreBegun lines D a → GoOn lines N b → IsSubset N (after_code (Started moves D) body)
      → SafeInstrs f lost back (at_label body p back N)
  safe_moves_back moves back body p D N a b k sp begins goes h =
      let starts : AreBegun lines (Started moves D) sp.0 = begun_body moves back body p D a b sp begins in
      let le : suc sp.0 ≤ sp.1 = code_le lines body (suc sp.0) sp.1 sp.4 in
      safe_back back (after_code (Started moves D) body) (at_label body p back N) (Started moves D) sp.0 (suc sp.1) sp.2 (omega arith) sp.6
      (back_closed moves back body p D k)
      (later lines (after_code (Started moves D) body) sp.1 (suc sp.1) (omega arith)
      (code_begun lines body (Started moves D) (suc sp.0) sp.1 sp.4 (later lines (Started moves D) sp.0 (suc sp.0) (omega arith) starts)))
      starts (λ x w. inr (same_written back moves none_written none_written (λ y z. z) k.4 x w))
      (λ x l. goes_on lines x sp.0 (starts x (label_defined moves back body p D N k h x l)) (label_last lines moves back body p N a b sp goes x l))

  -- ---- code

  mutual
    safe_step : (s : Step) (D N : NameSet) (a b : ℕ) → StepIsClosed D s → SpansStep lines a s b → AreBegun lines D a → GoOn lines N b
        → IsSubset N (after_step D s) → SafeStep f lost s N
    safe_step (plain i) D N a b k sp begins goes h = safe_instr i D N a sp.0 begins (sooner lines N (suc a) b sp.1 goes) h
    safe_step (choice p no_codes) D N a b k sp begins goes h = tt
    safe_step (choice p (code_then r rs)) D N a b k sp begins goes h = safe_codes (code_then r rs) D N a b k.1 sp.1 begins goes h
    safe_step (loop moves body p back) D N a b k sp begins goes h =
        let after : IsSubset N (after_code (Started moves D) body) = λ x n. after_loop moves back body p D x (h x n) in (
          safe_moves moves back body p D N a b k sp begins goes after,
          safe_code body (Started moves D) (at_branch body p back N) (suc sp.0) sp.1
              (code_wider body (after_instrs none_written moves) (Started moves D) (λ x e. inr e) k.1) sp.4
              (later lines (Started moves D) sp.0 (suc sp.0) (omega arith) (begun_body moves back body p D a b sp begins))
              (branch_last moves back body p D N a b k sp goes) (branch_in moves back body p D N k after (code_grow body (Started moves D))),
          safe_moves_back moves back body p D N a b k sp begins goes after,
        )

    pub safe_code : (k : Code) (D N : NameSet) (a b : ℕ) → CodeIsClosed D k → SpansCode lines a k b → AreBegun lines D a → GoOn lines N b
        → IsSubset N (after_code D k) → SafeCode f lost k N
    safe_code no_steps D N a b k sp begins goes h = tt
    safe_code (step_then s r) D N a b k sp begins goes h = (
      safe_step s D (needed_by_code r N) a sp.0 k.0 sp.1 begins (code_last lines r N sp.0 b sp.2 goes) (code_defined r (after_step D s) N k.1 h),
      safe_code r (after_step D s) N sp.0 b k.1 sp.2 (step_begun lines s D a sp.0 sp.1 begins) goes h,
    )

    safe_codes : (ks : Codes) (D N : NameSet) (a b : ℕ) → AreClosed D ks → SpansCodes lines a ks b → AreBegun lines D a → GoOn lines N b
        → IsSubset N (after_each D ks) → SafeCodes f lost ks N
    safe_codes no_codes D N a b k sp begins goes h = tt
    safe_codes (code_then r rs) D N a b k sp begins goes h = (
      safe_code r D N sp.0.0 sp.0.1 k.0 sp.0.3 (later lines D a sp.0.0 sp.0.2 begins) (sooner lines N sp.0.1 b sp.0.4 goes) (λ x n. (h x n).0),
      safe_codes rs D N a b k.1 sp.1 begins goes (λ x n. (h x n).1),
    )

pub places_apart_are_safe : PlacesApartAreSafe
places_apart_are_safe lines place lost code before after a b apart none spans closed begins goes h =
    safe_code lines place lost apart none code (these before) (these after) a b closed spans begins goes h
