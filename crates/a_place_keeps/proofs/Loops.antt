-- What closed loops need, and what their moves write.
use Rattle.std.proofs.Common.{◌≡◌, ◌⊎◌, ℕ, List, [], ◌∷◌, subst, sym, ◌∙◌, inl, inr}
use Rattle.s_linear.specs.Linear.{Instr, loop, Code}
use Rattle.s_sequence_keeps.specs.Closed.{target_of, targets_of, NameSet, after_instr, after_instrs, none_written, after_code, InstrsAreClosed, StepIsClosed}
use Rattle.a_place_keeps.specs.Need.{joined, needed_by_instrs, after_body, at_label, at_branch}
use Rattle.a_place_keeps.proofs.Needs.{need_after, need_code}
use Rattle.a_place_keeps.proofs.Defined.{IsSubset, instrs_more, instrs_grow, instrs_wider, instrs_defined, code_defined, with_others, label_in, label_defined}

-- what is written after instructions was written before or is their target
pub split_written : (is : List Instr) (D : NameSet) (x : ℕ) → after_instrs D is x → D x ⊎ after_instrs none_written is x
split_written [] D x w = inl w
split_written (i ∷ is) D x w = split (split_written is (after_instr D i) x w)
  where
    split : after_instr D i x ⊎ after_instrs none_written is x → D x ⊎ after_instrs (after_instr none_written i) is x
    split (inl (inl t)) = inr (instrs_grow is (after_instr none_written i) x (inl t))
    split (inl (inr d)) = inl d
    split (inr v) = inr (instrs_more is none_written (after_instr none_written i) (λ y z. absurd z) x v)

-- instructions with the same targets write the same names
pub same_written : (is js : List Instr) (D C : NameSet) → IsSubset D C → targets_of is ≡ targets_of js → IsSubset (after_instrs D is) (after_instrs C js)
same_written [] [] D C h e x w = h x w
same_written [] (j ∷ js) D C h e x w = absurd cc
same_written (i ∷ is) [] D C h e x w = absurd cc
same_written (i ∷ is) (j ∷ js) D C h e x w =
    let here : target_of i ≡ target_of j = cc in
    let rest : targets_of is ≡ targets_of js = cc in
    same_written is js (after_instr D i) (after_instr C j) (first here) rest x w
  where
    first : target_of i ≡ target_of j → IsSubset (after_instr D i) (after_instr C j)
    first here y (inl t) = inl (sym here ∙ t)
    first here y (inr d) = inr (h y d)

-- needed before moves: read by them first, or needed after them and not written by them
pub kept_by : (is : List Instr) (N : NameSet) (x : ℕ) → needed_by_instrs is N x
    → needed_by_instrs is none_written x ⊎ ((¬ after_instrs none_written is x) × N x)
kept_by [] N x n = inr ((λ w. w), n)
kept_by (i ∷ is) N x (inl read) = inl (inl read)
kept_by (i ∷ is) N x (inr m) =
    elim (kept_by is N x m.1) [
      | inl read ↦ inl (inr (m.0, read))
      | inr k ↦ inr ((λ w. neither k.0 (split_written is (after_instr none_written i) x w)), k.1)
    ]
  where
    neither : (¬ after_instrs none_written is x) → after_instr none_written i x ⊎ after_instrs none_written is x → ⊥
    neither k (inl (inl t)) = m.0 t
    neither k (inl (inr z)) = z
    neither k (inr w) = k w

-- what is needed at a closed loop's label is written by the moves in or needed after the loop
pub label_split : (moves back : List Instr) (body : Code) (p : ℕ) (D N : NameSet) → StepIsClosed D (loop moves body p back)
    → (x : ℕ) → at_label body p back N x → after_instrs none_written moves x ⊎ N x
label_split moves back body p D N k x l =
    elim (need_code body (after_body p back N) (after_body p back none_written) N (need_after p back N none_written N (λ y n. inr n)) x l) [
      | inr n ↦ inr n
      | inl m ↦
          inl (moved (label_in body p back (after_instrs none_written moves) none_written none_written (code_defined body) k.1 k.2 k.3 (λ y z. absurd z) x m))
    ]
  where
    moved : joined none_written (after_instrs none_written moves) x → after_instrs none_written moves x
    moved (inl z) = absurd z
    moved (inr w) = w

-- what the moves back need was written by then
pub back_closed : (moves back : List Instr) (body : Code) (p : ℕ) (D : NameSet) → StepIsClosed D (loop moves body p back)
    → InstrsAreClosed (after_code (joined D (after_instrs none_written moves)) body) back
back_closed moves back body p D k =
    instrs_wider back (after_code (after_instrs none_written moves) body) (after_code (joined D (after_instrs none_written moves)) body)
    (with_others body (after_instrs none_written moves) D) k.3

-- what is needed after a closed loop's body was written by then
pub branch_in : (moves back : List Instr) (body : Code) (p : ℕ) (D N : NameSet) → StepIsClosed D (loop moves body p back)
    → IsSubset N (after_code (joined D (after_instrs none_written moves)) body)
    → IsSubset (joined D (after_instrs none_written moves)) (after_code (joined D (after_instrs none_written moves)) body)
    → IsSubset (at_branch body p back N) (after_code (joined D (after_instrs none_written moves)) body)
branch_in moves back body p D N k h grow x (inl e) =
    subst (after_code (joined D (after_instrs none_written moves)) body) e (with_others body (after_instrs none_written moves) D p k.2)
branch_in moves back body p D N k h grow x (inr (inl n)) = h x n
branch_in moves back body p D N k h grow x (inr (inr m)) =
    instrs_defined back (after_code (joined D (after_instrs none_written moves)) body) (at_label body p back N) (back_closed moves back body p D k)
    (λ y l. instrs_grow back (after_code (joined D (after_instrs none_written moves)) body) y (grow y (label_defined moves back body p D N k h y l))) x m
