-- What a machine keeps of a family of bounded runs, it keeps of a nearer family.
use Rattle.std.proofs.Common.{◌⊎◌, inl, inr, ℕ, arith}
use Rattle.val_core.specs.Events.{output, IsPrefixOf}
use Rattle.val_core.specs.Answers.{Answer, Returned, Cut, Exited, Undefined, IsUndefined, events}
use Rattle.val_core.specs.Within.{behaviour, Within}
use Rattle.val_core.proofs.lemmas.Events.{prefix-self, prefixes_compose}
use Rattle.val_core.proofs.lemmas.Within.{within_composes, prefix-eq, fails-within}
use Rattle.rv_machine.specs.Run.{RunResult}
use Rattle.rv_machine.specs.Behaviour.{shown, IsWithin, StopsWithin, IsKept}
use Rattle.rv_machine.specs.BehaviourLaws.{AreWithin, NearerIsKept}

-- what was written is a beginning of what the run that it is within wrote
prefix-within : {A B : Type 0} (R : A → B → Type 0) (a : Answer A) (b : Answer B) → Within R (behaviour a) (behaviour b) →
    IsPrefixOf (output (events a)) (output (events b))
prefix-within R (Returned x o) (Returned y p) h = prefix-eq (output o) (output o) (output p) (prefix-self (output o)) h.1
prefix-within R (Exited o s) (Exited p t) h = prefix-eq (output o) (output o) (output p) (prefix-self (output o)) h.0
prefix-within R (Cut o) (Returned y p) h = h
prefix-within R (Cut o) (Exited p t) h = h
prefix-within R (Cut o) (Cut p) h = h
prefix-within R _ _ h = absurd h

-- an undefined run is within none
pub undefined_is_apart : {A B : Type 0} (R : A → B → Type 0) (a : Answer A) (b : Answer B) → IsUndefined a → Within R (behaviour a) (behaviour b) → ⊥
undefined_is_apart R (Undefined o) b wrong h = fails-within R (behaviour b) h
undefined_is_apart R (Returned x o) b wrong h = absurd wrong
undefined_is_apart R (Cut o) b wrong h = absurd wrong
undefined_is_apart R (Exited o s) b wrong h = absurd wrong

stops-nearer : {A B : Type 0} (R : A → B → Type 0) (near : ℕ → Answer A) (far : ℕ → Answer B) →
    ((n : ℕ) → (m : ℕ) × Within (λ y x. R x y) (behaviour (far n)) (behaviour (near m))) →
    (o : RunResult) → StopsWithin far o → StopsWithin near o
stops-nearer R near far back o h =
    let k = h.1.0 in
    let m = back k in
    (h.0, (m.0, prefixes_compose o.output (output (events (far k))) (output (events (near m.0))) h.1.1 (prefix-within (λ y x. R x y) (far k) (near m.0) m.1)))

module _ (A B : Type 0) (R : A → B → Type 0) (near : ℕ → Answer A) (far : ℕ → Answer B) (deep deeper : ℕ → ℕ) (machine : ℕ → RunResult)
    (both : AreWithin A B R near far deep deeper)
    (kept : IsKept B far deeper machine) where
  forward : (n : ℕ) → ((m : ℕ) × IsWithin (behaviour (near n)) (shown (machine m))) ⊎ ((m : ℕ) × StopsWithin near (machine m))
  forward n = by (kept.forward middle.0)
    where
      middle : (m : ℕ) × Within R (behaviour (near n)) (behaviour (far m))
      middle = both.forward n

      by : ((m : ℕ) × IsWithin (behaviour (far middle.0)) (shown (machine m))) ⊎ ((m : ℕ) × StopsWithin far (machine m)) →
          ((m : ℕ) × IsWithin (behaviour (near n)) (shown (machine m))) ⊎ ((m : ℕ) × StopsWithin near (machine m))
      by (inl h) = inl (h.0, within_composes R (λ a b. ⊥) (λ a b. ⊥) (λ x y z r s. s) (behaviour (near n)) (behaviour (far middle.0)) (shown (machine h.0)) middle.1 h.1)
      by (inr h) = inr (h.0, stops-nearer R near far both.back (machine h.0) h.1)

  back : (n : ℕ) → ((m : ℕ) × IsWithin (shown (machine n)) (behaviour (near m))) ⊎ StopsWithin near (machine n)
  back n = by (kept.back n)
    where
      by : ((m : ℕ) × IsWithin (shown (machine n)) (behaviour (far m))) ⊎ StopsWithin far (machine n) → ((m : ℕ) × IsWithin (shown (machine n)) (behaviour (near m)))
          ⊎ StopsWithin near (machine n)
      by (inl h) =
          let m = both.back h.0 in
          inl (m.0, within_composes (λ a b. ⊥) (λ y x. R x y) (λ a b. ⊥) (λ x y z r s. r) (shown (machine n)) (behaviour (far h.0)) (behaviour (near m.0)) h.1 m.1)
      by (inr h) = inr (stops-nearer R near far both.back (machine n) h)

  runs_kept : IsKept A near deep machine
  runs_kept =
      record {
        forward = forward;
        back = back;
        goes_on = kept.goes_on;
        exceeds = λ n e.
            let far_deep = kept.exceeds n e in
            let m = both.no_deeper far_deep.0 in
            (m.0, let over = far_deep.1 in let under = m.1 in omega (arith, over, under));
      }

pub nearer_is_kept : (A B : Type 0) (R : A → B → Type 0) → NearerIsKept A B R
nearer_is_kept A B R near far deep deeper bytes input both file =
    record { executable = file.executable; loads = file.loads; runs = runs_kept A B R near far deep deeper _ both file.runs }
