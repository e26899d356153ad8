-- The machine keeps the behaviour of a program: longer runs only go on, so what it does at each bound says both directions.
use Rattle.std.proofs.Common.{◌≡◌, ◌⊎◌, ℕ, ◌<◌, ◌≤◌, List, refl, sym, ap, subst, ◌∙◌, arith, inl, inr}
use Rattle.std.proofs.lemmas.Bool.{cases_lt}
use Rattle.val_core.specs.declared.values.Value.{Value}
use Rattle.val_core.specs.Answers.{Answer, Returned, Cut, Exited, Undefined, IsUndefined, events}
use Rattle.val_core.specs.Events.{output, deepest, IsPrefixOf}
use Rattle.val_core.specs.Within.{Given, Running, behaviour}
use Rattle.val_core.proofs.lemmas.Events.{prefix-self, prefixes_compose}
use Rattle.elf_file.specs.Image.{stack_size}
use Rattle.rv_machine.specs.Machine.{State, Ending, exit, stack, stuck}
use Rattle.rv_machine.specs.Run.{Hart, running, ended, RunResult, run}
use Rattle.rv_machine.proofs.lemmas.RunLaws.{ended_stays, output_grows}
use Rattle.rv_machine.specs.Behaviour.{shown, IsWithin, StopsWithin, IsKept}
use Rattle.s_select_keeps.specs.Functions.{Program, frame_sizes}
use Rattle.s_select_keeps.specs.Kept.{program_at, ProgramIsKept}
use Rattle.s_select_keeps.specs.Mains.{StartOutcome, MainRuns}
use Rattle.s_select_keeps.specs.Steps.{Exceeds}

abbrev Near : Answer (Given Value) → RunResult → Type 0
Near a r = IsWithin (behaviour a) (shown r)

abbrev Back : RunResult → Answer (Given Value) → Type 0
Back r a = IsWithin (shown r) (behaviour a)

shown-running : (o : RunResult) (t : State) → o.hart ≡ running t → shown o ≡ Running o.output
shown-running o t e = subst (λ h. shown (record { hart = h; output = o.output; rest = o.rest }) ≡ Running o.output) (sym e) refl

running-within : (a : Answer (Given Value)) (o : RunResult) (t : State) → (IsUndefined a → ⊥) → o.hart ≡ running t → IsPrefixOf o.output (output (events a)) → Back o a
running-within (Returned g did) o t defined e pre = subst (λ b. IsWithin b (behaviour (Returned g did))) (sym (shown-running o t e)) pre
running-within (Cut did) o t defined e pre = let a : Answer (Given Value) = Cut did in subst (λ b. IsWithin b (behaviour a)) (sym (shown-running o t e)) pre
running-within (Exited did status) o t defined e pre = let a : Answer (Given Value) = Exited did status in
    subst (λ b. IsWithin b (behaviour a)) (sym (shown-running o t e)) pre
running-within (Undefined did) o t defined e pre = absurd (defined tt)

module _ (program : Program) (near : ℕ → Answer (Given Value)) (s : State) (input : List ℕ) (outcome : (n : ℕ) → StartOutcome program n (near n) s input)
    (defined : (n : ℕ) → IsUndefined (near n) → ⊥) where
  abbrev machine : ℕ → RunResult
  machine n = run program.text.flags n (running s) input

  abbrev Over : Answer (Given Value) → Type 0
  Over a = Exceeds program.text.flags (frame_sizes program) stack_size (events a) s input

  -- a run and one that has ended: they are equal, or the first is running
  record IsBefore (n c : ℕ) : Type 0 where
    state : State
    hart : (machine n).hart ≡ running state
    output : IsPrefixOf (machine n).output (machine c).output

  before : (n c : ℕ) → n ≤ c → (h : Hart) → (machine n).hart ≡ h → (machine c ≡ machine n) ⊎ IsBefore n c
  before n c le (running t) e = let more = output_grows program.text.flags n c (running s) input le in inr (record { state = t; hart = e; output = (more.0, sym more.1) })
  before n c le (ended x) e = inl (ended_stays program.text.flags n c (running s) input x e le)

  compare : (n c : ℕ) (x : Ending) → (machine c).hart ≡ ended x → (machine n ≡ machine c) ⊎ IsBefore n c
  compare n c x e = elim (cases_lt n c) [
    | inl less ↦ turned (before n c (omega (arith, less)) (machine n).hart refl)
    | inr more ↦ inl (ended_stays program.text.flags c n (running s) input x e more)
  ]
    where
      turned : (machine c ≡ machine n) ⊎ IsBefore n c → (machine n ≡ machine c) ⊎ IsBefore n c
      turned (inl same) = inl (sym same)
      turned (inr h) = inr h

  compare-running : (n c : ℕ) (t : State) → n ≤ c → (machine c).hart ≡ running t → IsBefore n c
  compare-running n c t le e = by (before n c le (machine n).hart refl)
    where
      by : (machine c ≡ machine n) ⊎ IsBefore n c → IsBefore n c
      by (inl same) = record {
        state = t;
        hart = ap (λ r. r.hart) (sym same) ∙ e;
        output = subst (λ r. IsPrefixOf (machine n).output r.output) (sym same) (prefix-self (machine n).output);
      }
      by (inr h) = h

  stops : (n : ℕ) (a : Answer (Given Value)) → near n ≡ a → (h : Over a) → StopsWithin near (machine h.count)
  stops n a e h =
      let there : IsPrefixOf (machine h.count).output (output (events a)) = subst (λ r. IsPrefixOf r.output (output (events a))) (sym h.runs) h.begins in
      (ap (λ r. r.hart) h.runs, (n, subst (λ x. IsPrefixOf (machine h.count).output (output (events x))) (sym e) there))

  -- ---- both directions

  forward : (n : ℕ) (a : Answer (Given Value)) → near n ≡ a → StartOutcome program n a s input → (IsUndefined a → ⊥) → ((m : ℕ) × Near a (machine m))
      ⊎ ((m : ℕ) × StopsWithin near (machine m))
  forward n a e (inl h) d = inr (h.count, stops n a e h)
  forward n (Returned g did) e (inr h) d = absurd h
  forward n (Cut did) e (inr h) d = inl (h.count, subst (Near (Cut did)) (sym h.reaches.to) (prefix-self (output did)))
  forward n (Exited did status) e (inr h) d = inl (h.count, subst (Near (Exited did status)) (sym h.runs) (refl, refl))
  forward n (Undefined did) e (inr h) d = absurd (d tt)

  -- a run that goes on yet is within what its bound means
  within : (n c : ℕ) (a : Answer (Given Value)) → near n ≡ a → (IsUndefined a → ⊥) → IsBefore n c → IsPrefixOf (machine c).output (output (events a))
      → (m : ℕ) × Back (machine n) (near m)
  within n c a e d h pre = (
    n,
    subst (Back (machine n)) (sym e) (running-within a (machine n) h.state d h.hart
        (prefixes_compose (machine n).output (machine c).output (output (events a)) h.output pre)),
  )

  back : (n : ℕ) (a : Answer (Given Value)) → near n ≡ a → StartOutcome program n a s input → (IsUndefined a → ⊥) → ((m : ℕ) × Back (machine n) (near m))
      ⊎ StopsWithin near (machine n)
  back n a e (inl h) d = by (compare n h.count stack (ap (λ r. r.hart) h.runs))
    where
      by : (machine n ≡ machine h.count) ⊎ IsBefore n h.count → ((m : ℕ) × Back (machine n) (near m)) ⊎ StopsWithin near (machine n)
      by (inl same) = inr (subst (StopsWithin near) (sym same) (stops n a e h))
      by (inr g) = inl (within n h.count a e d g (subst (λ r. IsPrefixOf r.output (output (events a))) (sym h.runs) h.begins))
  back n (Returned g did) e (inr h) d = absurd h
  back n (Cut did) e (inr h) d =
      inl
      (within n h.count (Cut did) e d (compare-running n h.count h.state h.enough (ap (λ r. r.hart) h.reaches.to))
      (subst (λ r. IsPrefixOf r.output (output did)) (sym h.reaches.to) (prefix-self (output did))))
  back n (Exited did status) e (inr h) d = by (compare n h.count (exit status) (ap (λ r. r.hart) h.runs))
    where
      by : (machine n ≡ machine h.count) ⊎ IsBefore n h.count → ((m : ℕ) × Back (machine n) (near m)) ⊎ StopsWithin near (machine n)
      by (inl same) = inl (n, subst (Back (machine n)) (sym e) (subst (λ r. Back r (Exited did status)) (sym (same ∙ h.runs)) (refl, refl)))
      by (inr g) = inl (within n h.count (Exited did status) e d g (subst (λ r. IsPrefixOf r.output (output did)) (sym h.runs) (prefix-self (output did))))
  back n (Undefined did) e (inr h) d = absurd (d tt)

  -- ---- how runs end

  -- a run that has ended has ended as the bound says
  ends-as : (n c : ℕ) (x y : Ending) → (machine n).hart ≡ ended x → (machine c).hart ≡ ended y → ended x ≡ ended y
  ends-as n c x y e d = by (compare n c y d)
    where
      by : (machine n ≡ machine c) ⊎ IsBefore n c → ended x ≡ ended y
      by (inl same) = sym e ∙ ap (λ r. r.hart) same ∙ d
      by (inr h) = let on = h.hart in absurd cc

  ends-in : (n : ℕ) (x : Ending) (a : Answer (Given Value)) → StartOutcome program n a s input → (IsUndefined a → ⊥) → (machine n).hart ≡ ended x
      → (Over a × (ended x ≡ ended stack)) ⊎ ((status : ℕ) × (ended x ≡ ended (exit status)))
  ends-in n x a (inl h) d e = inl (h, ends-as n h.count x stack e (ap (λ r. r.hart) h.runs))
  ends-in n x (Returned g did) (inr h) d e = absurd h
  ends-in n x (Cut did) (inr h) d e =
      let g = compare-running n h.count h.state h.enough (ap (λ r. r.hart) h.reaches.to) in
      let on = g.hart in
      absurd cc
  ends-in n x (Exited did status) (inr h) d e = inr (status, ends-as n h.count x (exit status) e (ap (λ r. r.hart) h.runs))
  ends-in n x (Undefined did) (inr h) d e = absurd (d tt)

  is-kept : IsKept (Given Value) near (λ n. deepest (frame_sizes program) (events (near n))) machine
  is-kept = record {
    forward = λ n. forward n (near n) refl (outcome n) (defined n);
    back = λ n. back n (near n) refl (outcome n) (defined n);
    goes_on = λ n pc why e. never pc why (ends-in n (stuck pc why) (near n) (outcome n) (defined n) e);
    exceeds = λ n e. deep n (ends-in n stack (near n) (outcome n) (defined n) e);
  }
    where
      never : (pc why : ℕ) {X : Type 0} → (X × (ended (stuck pc why) ≡ ended stack)) ⊎ ((status : ℕ) × (ended (stuck pc why) ≡ ended (exit status))) → ⊥
      never pc why (inl h) = let e = h.1 in absurd cc
      never pc why (inr h) = let e = h.1 in absurd cc

      deep : (n : ℕ) → (Over (near n) × (ended stack ≡ ended stack)) ⊎ ((status : ℕ) × (ended stack ≡ ended (exit status)))
          → (m : ℕ) × (stack_size < deepest (frame_sizes program) (events (near m)))
      deep n (inl h) = (n, h.0.more)
      deep n (inr h) = let e = h.1 in absurd cc

pub program_is_kept : MainRuns → ProgramIsKept
program_is_kept main_runs program main bottom e blocks bases input s can start defined =
    is-kept program (program_at program main blocks input) s input (λ n. main_runs program main bottom e n blocks bases input s can start) defined
