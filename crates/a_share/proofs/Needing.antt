-- What is needed by code depends on what is needed after it, name by name.
use Rattle.std.proofs.Common.{◌≡◌, ℕ, Bool, true, false, not, ◌&&◌, ◌||◌, List, [], ◌∷◌, refl, sym, ap, ◌∙◌}
use Rattle.std.specs.Prelude.{◌==◌, nat_le, IsTrue}
use Rattle.g_graph.specs.WellFormed.{some_of}
use Rattle.s_linear.specs.Linear.{Instr, Step, plain, choice, loop, Code, no_steps, step_then, Codes, no_codes, code_then}
use Rattle.s_linear.specs.Lines.{counted}
use Rattle.a_place.specs.Share.{Names, writes, reads, needed_by_instrs, needed_by_step, needed_by_code, needed_by_codes, after_body, at_label, at_branch}
use Rattle.a_place.specs.Turns.{IsWrittenOr}

abbrev pub AreSame : Names → Names → Type 0
AreSame N M = (x : ℕ) → N x ≡ M x

pub instrs_alike : (is : List Instr) (N M : Names) → AreSame N M → AreSame (needed_by_instrs is N) (needed_by_instrs is M)
instrs_alike [] N M e x = e x
instrs_alike (i ∷ is) N M e x = ap (λ z. reads i x || (not (writes i x) && z)) (instrs_alike is N M e x)

mutual
  step_alike : (s : Step) (N M : Names) → AreSame N M → AreSame (needed_by_step s N) (needed_by_step s M)
  step_alike (plain i) N M e x = ap (λ z. reads i x || (not (writes i x) && z)) (e x)
  step_alike (choice p cs) N M e x = ap (λ z. (nat_le 2 (counted cs) && (p == x)) || z) (codes_alike cs N M e x)
  step_alike (loop enter body p back) N M e x =
      instrs_alike enter (needed_by_code body (after_body p back N)) (needed_by_code body (after_body p back M))
      (code_alike body (after_body p back N) (after_body p back M) (λ y. ap (λ z. (p == y) || (z || needed_by_instrs back (λ y. false) y)) (e y))) x

  pub code_alike : (c : Code) (N M : Names) → AreSame N M → AreSame (needed_by_code c N) (needed_by_code c M)
  code_alike no_steps N M e x = e x
  code_alike (step_then s k) N M e x = step_alike s (needed_by_code k N) (needed_by_code k M) (code_alike k N M e) x

  pub codes_alike : (cs : Codes) (N M : Names) → AreSame N M → AreSame (needed_by_codes cs N) (needed_by_codes cs M)
  codes_alike no_codes N M e x = refl
  codes_alike (code_then k ks) N M e x = both (code_alike k N M e x) (codes_alike ks N M e x)
    where
      both : {a b c d : Bool} → a ≡ b → c ≡ d → (a || c) ≡ (b || d)
      both {a} {b} {c} {d} p q = ap (λ z. z || c) p ∙ ap (λ z. b || z) q

-- one of these instructions writes a name
abbrev pub written : List Instr → Names
written is x = some_of (λ i. writes i x) is

-- what is read before it is written, and what is needed and not written
pub instrs_parts : (is : List Instr) (N : Names) (x : ℕ) → needed_by_instrs is N x ≡ (needed_by_instrs is (λ y. false) x || (not (written is x) && N x))
instrs_parts [] N x = refl
instrs_parts (i ∷ is) N x =
    ap (λ z. reads i x || (not (writes i x) && z)) (instrs_parts is N x)
    ∙ parts (reads i x) (writes i x) (needed_by_instrs is (λ y. false) x) (written is x) (N x)
  where
    parts : (r w e v n : Bool) → (r || (not w && (e || (not v && n)))) ≡ ((r || (not w && e)) || (not (w || v) && n))
    parts true w e v n = refl
    parts false true e v n = refl
    parts false false e v n = refl

-- of what is needed at the label the moves back need no more than of what is needed after the loop
pub moves_alike : (L N : Names) (back : List Instr) → IsWrittenOr L back N → (x : ℕ)
    → (N x || needed_by_instrs back N x) ≡ (N x || needed_by_instrs back L x)
moves_alike L N back own x =
    ap (λ z. N x || z) (instrs_parts back N x)
    ∙ same (N x) (needed_by_instrs back (λ y. false) x) (written back x) (L x) (own x)
    ∙ ap (λ z. N x || z) (sym (instrs_parts back L x))
  where
    same : (n e w l : Bool) → (IsTrue l → IsTrue (w || n)) → (n || (e || (not w && n))) ≡ (n || (e || (not w && l)))
    same true e w l h = refl
    same false true w l h = refl
    same false false true l h = refl
    same false false false true h = h refl
    same false false false false h = refl

pub after_alike : (L N : Names) (back : List Instr) → IsWrittenOr L back N → (x : ℕ)
    → (N x || needed_by_instrs back L x) ≡ (N x || needed_by_instrs back (λ y. false) x)
after_alike L N back own x =
    ap (λ z. N x || z) (instrs_parts back L x) ∙ same (N x) (needed_by_instrs back (λ y. false) x) (written back x) (L x) (own x)
  where
    same : (n e w l : Bool) → (IsTrue l → IsTrue (w || n)) → (n || (e || (not w && l))) ≡ (n || e)
    same true e w l h = refl
    same false true w l h = refl
    same false false true l h = refl
    same false false false true h = sym (h refl)
    same false false false false h = refl

-- after the body the same is needed as the walk finds
pub branch_alike : (body : Code) (p : ℕ) (back : List Instr) (N : Names) → IsWrittenOr (at_label body p back N) back N
    → AreSame (at_branch body p back N) (after_body p back N)
branch_alike body p back N own x = ap (λ z. (p == x) || z) (after_alike (at_label body p back N) N back own x)

pub label_alike : (body : Code) (p : ℕ) (back : List Instr) (N : Names) → IsWrittenOr (at_label body p back N) back N
    → AreSame (needed_by_code body (at_branch body p back N)) (at_label body p back N)
label_alike body p back N own = code_alike body (at_branch body p back N) (after_body p back N) (branch_alike body p back N own)
