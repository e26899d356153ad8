-- From a run that was heard to exit, to what a file does that keeps its meaning.
use Rattle.std.proofs.Common.{◌≡◌, ◌⊎◌, ℕ, ◌<◌, ◌≤◌, List, inl, inr, ap, sym, subst, ◌∙◌, arith}
use Rattle.std.proofs.lemmas.Bool.{cases_lt}
use Rattle.val_core.specs.Events.{output, IsPrefixOf}
use Rattle.val_core.specs.Answers.{Answer, Returned, Cut, Exited, Undefined, events}
use Rattle.val_core.specs.Within.{Terminates, behaviour}
use Rattle.val_core.proofs.lemmas.Events.{prefix-self, prefixes_compose}
use Rattle.val_core.proofs.lemmas.Within.{prefix-eq}
use Rattle.c_typed.specs.Typed.{ProgramTree}
use Rattle.c_mean.specs.Run as source
use Rattle.c_mean.specs.Run.{Heard, run, heard}
use Rattle.c_mean.specs.RunLaws.{HearsAnswer, HeardIsRun, HeardIsUndefined, HeardExtends}
use Rattle.rv_machine.specs.Machine.{exit, stack, stuck}
use Rattle.rv_machine.specs.Run.{Hart, running, ended, RunResult, executed, executed_if_loaded}
use Rattle.rv_machine.specs.Behaviour.{IsWithin, shown}
use Rattle.cc_compile.specs.RunLaws.{IsDefined, HasExited, ExitsAreDefined, KeptFilesExit}

-- ---- what was heard at one bound and at another

module _ (more : HeardExtends) (p : ProgramTree) (n : ℕ) (i : List ℕ) (status : ℕ) (exits : (heard n p i).ending ≡ source.exit status) where
  not-cut : (heard n p i).ending ≡ source.cut → ⊥
  not-cut e = clash (sym exits ∙ e)
    where
      clash : source.exit status ≡ source.cut → ⊥
      clash q = cc

  exit-undefined : source.exit status ≡ source.undefined → ⊥
  exit-undefined q = cc

  undefined-cut : source.undefined ≡ source.cut → ⊥
  undefined-cut q = cc

  -- a greater bound hears the same
  later : (m : ℕ) → n ≤ m → heard n p i ≡ heard m p i
  later m le = (more n m p i le).0 not-cut

  defined-at : (m : ℕ) → (heard m p i).ending ≡ source.undefined → (m < n) ⊎ (n ≤ m) → ⊥
  defined-at m is (inr above) = exit-undefined (sym exits ∙ ap (λ (h : Heard). h.ending) (later m above) ∙ is)
  defined-at m is (inl below) =
      let same : heard m p i ≡ heard n p i = (more m n p i (omega (arith, below))).0 (λ e. undefined-cut (sym is ∙ e)) in
      exit-undefined (sym exits ∙ sym (ap (λ (h : Heard). h.ending) same) ∙ is)

  pub is_defined : IsDefined p i
  is_defined m is = defined-at m is (cases_lt m n)

  -- what is heard at any bound begins what was heard at this one
  begins-at : (m : ℕ) → (m < n) ⊎ (n ≤ m) → IsPrefixOf (heard m p i).output (heard n p i).output
  begins-at m (inl below) = (more m n p i (omega (arith, below))).1
  begins-at m (inr above) = subst (λ (h : Heard). IsPrefixOf h.output (heard n p i).output) (later m above) (prefix-self (heard n p i).output)

  begins : (m : ℕ) → IsPrefixOf (heard m p i).output (heard n p i).output
  begins m = begins-at m (cases_lt m n)

-- ---- what the machine shows

shown-exit : (A : Type 0) (h : Hart) (out rest o : List ℕ) (status : ℕ) → IsWithin {A = A} (Terminates o status) (shown (record { hart = h; output = out; rest = rest }))
    → (h ≡ ended (exit status)) × (out ≡ o)
shown-exit A (running s) out rest o status w = absurd w
shown-exit A (ended (exit t)) out rest o status w = (ap (λ (k : ℕ). ended (exit k)) (sym w.1), sym w.0)
shown-exit A (ended stack) out rest o status w = absurd w
shown-exit A (ended (stuck pc why)) out rest o status w = absurd w

-- a run that was heard to exit, within a run of the machine
exited : (A : Type 0) (a : Answer A) (i : List ℕ) (h : Heard) (status : ℕ) → HearsAnswer i a h → h.ending ≡ source.exit status → (r : RunResult) → IsWithin (behaviour a) (shown r)
    → HasExited status h.output r
exited A (Returned x o) i h status hears is r w = absurd hears.2
exited A (Cut o) i h status hears is r w = absurd (clash (sym is ∙ hears.2))
  where
    clash : source.exit status ≡ source.cut → ⊥
    clash q = cc
exited A (Undefined o) i h status hears is r w = absurd (clash (sym is ∙ hears.2))
  where
    clash : source.exit status ≡ source.undefined → ⊥
    clash q = cc
exited A (Exited o t) i h status hears is r w =
    let shows = shown-exit A r.hart r.output r.rest (output o) t w in
    inl (shows.0 ∙ ap (λ (k : ℕ). ended (exit k)) (same (sym hears.2 ∙ is)), shows.1 ∙ sym hears.0)
  where
    same : source.exit t ≡ source.exit status → t ≡ status
    same q = cc

-- ---- the laws

pub exits_are_defined : HeardExtends → ExitsAreDefined
exits_are_defined more p n i status exits = is_defined more p n i status exits

module _ (agrees : HeardIsRun) (undefined : HeardIsUndefined) (more : HeardExtends) where
  pub kept_files_exit : KeptFilesExit
  kept_files_exit form p ls bytes keeps n i are_bytes status exits =
      let defined = is_defined more p n i status exits in
      let kept = keeps i are_bytes (λ m u. defined m ((undefined m p i).0 u)) in
      elim (kept.runs.forward n) [
        | inl near ↦
            let r = executed near.0 kept.executable i in
            (near.0, (r, ap (λ l. executed_if_loaded near.0 l i) kept.loads, exited _ (run n p i) i (heard n p i) status (agrees n p i) exits r near.1))
        | inr stops ↦
            let r = executed stops.0 kept.executable i in
            let k = stops.1.1.0 in
            let front : IsPrefixOf r.output (heard k p i).output =
            prefix-eq r.output (output (events (run k p i))) (heard k p i).output stops.1.1.1 (sym (agrees k p i).0) in
            let whole = prefixes_compose r.output (heard k p i).output (heard n p i).output front (begins more p n i status exits k) in
            (stops.0, (r, ap (λ l. executed_if_loaded stops.0 l i) kept.loads, inr (stops.1.0, whole)))
      ]
