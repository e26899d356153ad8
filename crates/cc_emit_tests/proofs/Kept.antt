-- Each sentence of behaviour kept, refuted for machines that break it.
use Rattle.std.proofs.Common.{◌≡◌, ℕ, List, [], ◌∷◌, slice_index_or, refl, ap, arith, inl, inr}
use Rattle.val_core.specs.Answers.{Answer, Exited}
use Rattle.val_core.specs.Events.{wrote}
use Rattle.rv_machine.specs.Machine.{State, Ending, exit, stack, stuck}
use Rattle.rv_machine.specs.Run.{Hart, running, ended, RunResult}
use Rattle.rv_machine.specs.Behaviour.{IsKept}

-- the program writes the byte 255, as at the end of its input, and exits with status 0
abbrev program : (bound : ℕ) → Answer ℕ
program bound = Exited (wrote 255 ∷ []) 0

-- no stack of its calls has a frame
abbrev no_frames : (bound : ℕ) → ℕ
no_frames bound = 0

abbrev result : Hart → (output : List ℕ) → RunResult
result hart output = record { hart = hart; output = output; rest = [] }

is-going : (s : State) (e : Ending) → running s ≡ ended e → ⊥
is-going s e h = cc

has-exited : (status : ℕ) → ended (exit status) ≡ ended stack → ⊥
has-exited status h = cc

same-byte : (a b : ℕ) → a ∷ [] ≡ b ∷ [] → a ≡ b
same-byte a b h = ap (λ (bs : List ℕ). slice_index_or bs 0 0) h

-- start code that does not exit goes on
never-exits : (s : State) → IsKept ℕ program no_frames (λ n. result (running s) (255 ∷ [])) → ⊥
never-exits s kept = elim (kept.forward 0) [
  | inl within ↦ within.1
  | inr stops ↦ is-going s stack stops.1.0
]

-- a stub that reads 0 at the end of the input
writes-another-byte : IsKept ℕ program no_frames (λ n. result (ended (exit 0)) (0 ∷ [])) → ⊥
writes-another-byte kept = elim (kept.back 0) [
  | inl within ↦ (let same = same-byte 0 255 within.1.0 in omega (arith, same))
  | inr stops ↦ has-exited 0 stops.0
]

-- a function that takes its frame without a test comes to a store that is not allowed
is-stuck : (pc : ℕ) → IsKept ℕ program no_frames (λ n. result (ended (stuck pc 3)) []) → ⊥
is-stuck pc kept = kept.goes_on 0 pc 3 refl

-- one that always stops for want of stack
always-stops : IsKept ℕ program no_frames (λ n. result (ended stack) []) → ⊥
always-stops kept = let more = (kept.exceeds 0 refl).1 in omega (arith, more)
