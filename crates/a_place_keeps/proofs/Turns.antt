-- The loops of closed functions need at their labels only what their moves back write and what is needed after them.
use Rattle.std.proofs.Common.{◌≡◌, ◌<◌, ℕ, true, List, [], ◌∷◌, sym, inl, inr, eq-eqb, eqb-true}
use Rattle.std.specs.Prelude.{◌==◌}
use Rattle.std.proofs.lemmas.Bool.{or_left, or_right}
use Rattle.g_graph.specs.WellFormed.{some_of}
use Rattle.s_linear.specs.Linear.{Instr, Step, plain, choice, loop, Code, no_steps, step_then, Codes, no_codes, code_then}
use Rattle.a_place.specs.Share.{Names, writes}
use Rattle.a_place.specs.Share as share
use Rattle.a_place.specs.Turns.{IsWrittenOr, StepHasOwnTurns, CodeHasOwnTurns, HaveOwnTurns}
use Rattle.s_sequence_keeps.specs.Closed.{NameSet, after_instr, after_instrs, none_written, after_step, StepIsClosed, CodeIsClosed, AreClosed}
use Rattle.a_place_keeps.specs.Need.{these, needed_by_code, at_branch}
use Rattle.a_place_keeps.specs.Laws.{StepChooses, CodeChooses, CodesChoose, ClosedHaveOwnTurns}
use Rattle.a_place_keeps.proofs.Loops.{same_written, label_split, split_written}
use Rattle.a_place_keeps.proofs.Names.{IsAbove, written_is, code_below, branch_is_below, label_above, code_above, branch_is_above}

-- what instructions write is written by one of them
some_writes : (is : List Instr) (x : ℕ) → after_instrs none_written is x → some_of (λ i. writes i x) is ≡ true
some_writes [] x w = absurd w
some_writes (i ∷ is) x w = elim (split_written is (after_instr none_written i) x w) [
  | inl (inl t) ↦ or_left (writes i x) (some_of (λ j. writes j x) is) (written_is i x t)
  | inl (inr z) ↦ absurd z
  | inr v ↦ or_right (writes i x) (some_of (λ j. writes j x) is) (some_writes is x v)
]

mutual
  step_turns : (s : Step) (D N : NameSet) (M : Names) → StepIsClosed D s → StepChooses s → IsAbove N M → ((x : ℕ) → N x → M x ≡ true) → StepHasOwnTurns s M
  step_turns (plain i) D N M closed some above below = tt
  step_turns (choice p cs) D N M closed some above below = (some.0, codes_turns cs D N M closed.1 some.1 above below)
  step_turns (loop moves body p back) D N M closed some above below = (
    own,
    code_turns body (after_instrs none_written moves) (at_branch body p back N) (share.at_branch body p back M) closed.1 some
        (branch_is_above body p back N M above) (branch_is_below body p back N M below),
  )
    where
      own : IsWrittenOr (share.at_label body p back M) back M
      own x e = elim (label_split moves back body p D N closed x (label_above body p back N M above x e)) [
        | inl w ↦
            or_left (some_of (λ i. writes i x) back) (M x)
            (some_writes back x (same_written moves back none_written none_written (λ y z. z) (sym closed.4) x w))
        | inr n ↦ or_right (some_of (λ i. writes i x) back) (M x) (below x n)
      ]

  code_turns : (c : Code) (D N : NameSet) (M : Names) → CodeIsClosed D c → CodeChooses c → IsAbove N M → ((x : ℕ) → N x → M x ≡ true) → CodeHasOwnTurns c M
  code_turns no_steps D N M closed some above below = tt
  code_turns (step_then s c) D N M closed some above below = (
    step_turns s D (needed_by_code c N) (share.needed_by_code c M) closed.0 some.0 (code_above c N M above) (code_below c N M below),
    code_turns c (after_step D s) N M closed.1 some.1 above below,
  )

  codes_turns : (cs : Codes) (D N : NameSet) (M : Names) → AreClosed D cs → CodesChoose cs → IsAbove N M → ((x : ℕ) → N x → M x ≡ true) → HaveOwnTurns cs M
  codes_turns no_codes D N M closed some above below = tt
  codes_turns (code_then c cs) D N M closed some above below =
      (code_turns c D N M closed.0 some.0 above below, codes_turns cs D N M closed.1 some.1 above below)

value_above : (v : ℕ) → IsAbove (these (v ∷ [])) (λ x. v == x)
value_above v x e = inl (eqb-true v x e)

value_below : (v x : ℕ) → these (v ∷ []) x → (v == x) ≡ true
value_below v x (inl e) = eq-eqb v x e
value_below v x (inr z) = absurd z

pub closed_have_own_turns : ClosedHaveOwnTurns
closed_have_own_turns f closed some =
    code_turns f.code (λ x. x < f.params) (these (f.value ∷ [])) (λ x. f.value == x) closed.code some (value_above f.value) (value_below f.value)
