-- What is needed before a code grows with what is needed after it, and by no more than that.
use Rattle.std.proofs.Common.{◌≡◌, ◌⊎◌, ℕ, List, [], ◌∷◌, Option, None, Some, ap, inl, inr}
use Rattle.s_linear.specs.Linear.{Instr, Step, plain, choice, loop, Code, no_steps, step_then, Codes, no_codes, code_then}
use Rattle.s_sequence_keeps.specs.Closed.{NameSet, none_written}
use Rattle.a_place_keeps.specs.Need.{needed_by, needed_by_instrs, after_body, needed_by_step, needed_by_code, needed_by_codes, at_label, at_branch}

abbrev name_or : ℕ → Option ℕ → ℕ
name_or t None = t
name_or t (Some x) = x

pub target_is : (t x : ℕ) → ◌≡◌ {A = Option ℕ} (Some t) (Some x) → t ≡ x
target_is t x e = ap (name_or t) e

-- each name of one set is in one of two others
abbrev pub IsWithin : (M N K : NameSet) → Type 0
IsWithin M N K = (x : ℕ) → M x → N x ⊎ K x

need_instr : (i : Instr) (M N K : NameSet) → IsWithin M N K → IsWithin (needed_by i M) (needed_by i N) K
need_instr i M N K h x (inl read) = inl (inl read)
need_instr i M N K h x (inr later) =
    elim (h x later.1) [
      | inl n ↦ inl (inr (later.0, n))
      | inr k ↦ inr k
    ]

pub need_instrs : (is : List Instr) (M N K : NameSet) → IsWithin M N K → IsWithin (needed_by_instrs is M) (needed_by_instrs is N) K
need_instrs [] M N K h x m = h x m
need_instrs (i ∷ is) M N K h x m = need_instr i (needed_by_instrs is M) (needed_by_instrs is N) K (need_instrs is M N K h) x m

pub need_after : (p : ℕ) (back : List Instr) (M N K : NameSet) → IsWithin M N K → IsWithin (after_body p back M) (after_body p back N) K
need_after p back M N K h x (inl e) = inl (inl e)
need_after p back M N K h x (inr (inl m)) =
    elim (h x m) [
      | inl n ↦ inl (inr (inl n))
      | inr k ↦ inr k
    ]
need_after p back M N K h x (inr (inr read)) = inl (inr (inr read))

mutual
  need_step : (s : Step) (M N K : NameSet) → IsWithin M N K → IsWithin (needed_by_step s M) (needed_by_step s N) K
  need_step (plain i) M N K h x m = need_instr i M N K h x m
  need_step (choice p cs) M N K h x (inl e) = inl (inl e)
  need_step (choice p cs) M N K h x (inr m) =
      elim (need_codes cs M N K h x m) [
        | inl n ↦ inl (inr n)
        | inr k ↦ inr k
      ]
  need_step (loop moves body p back) M N K h x m =
      need_instrs moves (at_label body p back M) (at_label body p back N) K
      (λ y l. need_code body (after_body p back M) (after_body p back N) K (need_after p back M N K h) y l) x m

  pub need_code : (c : Code) (M N K : NameSet) → IsWithin M N K → IsWithin (needed_by_code c M) (needed_by_code c N) K
  need_code no_steps M N K h x m = h x m
  need_code (step_then s c) M N K h x m =
      need_step s (needed_by_code c M) (needed_by_code c N) K (λ y l. need_code c M N K h y l) x m

  need_codes : (cs : Codes) (M N K : NameSet) → IsWithin M N K → IsWithin (needed_by_codes cs M) (needed_by_codes cs N) K
  need_codes no_codes M N K h x m = absurd m
  need_codes (code_then c cs) M N K h x (inl m) =
      elim (need_code c M N K h x m) [
        | inl n ↦ inl (inl n)
        | inr k ↦ inr k
      ]
  need_codes (code_then c cs) M N K h x (inr m) =
      elim (need_codes cs M N K h x m) [
        | inl n ↦ inl (inr n)
        | inr k ↦ inr k
      ]

-- ---- loops

-- needed by moves back and not read by them first
pub need_back : (back : List Instr) (L : NameSet) → IsWithin (needed_by_instrs back L) (needed_by_instrs back none_written) L
need_back back L = need_instrs back L none_written L (λ x l. inr l)

branch_after : (body : Code) (p : ℕ) (back : List Instr) (N : NameSet) → IsWithin (at_branch body p back N) (after_body p back N) (at_label body p back N)
branch_after body p back N x (inl e) = inl (inl e)
branch_after body p back N x (inr (inl n)) = inl (inr (inl n))
branch_after body p back N x (inr (inr m)) =
    elim (need_back back (at_label body p back N) x m) [
      | inl read ↦ inl (inr (inr read))
      | inr l ↦ inr l
    ]

-- what the next turn needs is needed at the label already
pub label_holds : (body : Code) (p : ℕ) (back : List Instr) (N : NameSet) (x : ℕ) → needed_by_code body (at_branch body p back N) x → at_label body p back N x
label_holds body p back N x m =
    elim (need_code body (at_branch body p back N) (after_body p back N) (at_label body p back N) (branch_after body p back N) x m) [
      | inl l ↦ l
      | inr l ↦ l
    ]
