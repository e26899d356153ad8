-- A log is right, or it has a fault: functions are taken one after the other, until one is wrong.
use Rattle.std.proofs.Common.{◌≡◌, ◌≢◌, ◌<◌, ◌≤◌, ◌+◌, ◌⊎◌, ℕ, zero, suc, List, [], ◌∷◌, length, take, None, Some, slice_index, slice_index_or, refl, sym, ap, subst, ◌∙◌, inl, inr, arith}
use Rattle.std.specs.Prelude.{option_and_then, slice_set, Option}
use Rattle.std.proofs.lemmas.Bool.{cases_eq}
use Rattle.r_rule.specs.declared.steps.Step.{Step}
use Rattle.g_graph.specs.Plain.{PlainLambda}
use Rattle.g_graph.specs.Program.{lambda_values}
use Rattle.g_pass_order.specs.Calls.{IsOrder}
use Rattle.g_pass_order.specs.Laws.{IsRankedOrder, OrdersAreRanked}
use Rattle.g_pass_order.specs.OrderLaws.{OrdersExist}
use Rattle.g_pass_def.specs.Answers.{lambda_of}
use Rattle.g_pass_def.specs.Sweep.{replayed}
use Rattle.g_pass_def.specs.Replayed.{lambdas_at}
use Rattle.g_pass.specs.Sweep.{rules}
use Rattle.log_check.specs.Log.{PlainPart}
use Rattle.log_check.specs.Right.{part_at, AreRight, AreRightUntil, HasCounts}
use Rattle.log_check.specs.Fault.{IsFunctionFault, IsReplayFault, StopsAfter}
use Rattle.log_check.specs.ReplayLaws.{RightOrFaulty}
use Rattle.log_check.specs.declared.replay_fault.ReplayFault.{ReplayFault}
use Rattle.log_check.specs.declared.replay_fault.ReplayFault.TheVariants.{BadCount, BadStep, NoMemory}
use Rattle.log_check.proofs.Taken.{all-right, begins, is-first, next, passes, rank-up}

-- ---- one function

module _ (callees : List PlainLambda) where
  abbrev Made : List Step → PlainLambda → Type 0
  Made steps l = (k : PlainLambda) × (replayed rules callees steps l ≡ Some k)

  abbrev Stops : List Step → PlainLambda → Type 0
  Stops steps l = (n : ℕ) × StopsAfter callees steps l n

  -- all steps can be made, or they stop at one
  made-or-stops : (steps : List Step) (l : PlainLambda) → Made steps l ⊎ Stops steps l
  made-or-stops [] l = inl (l, refl)
  made-or-stops (s ∷ steps) l = by (rules.step s.rule callees s.node l) refl (λ k. made-or-stops steps k)
    where
      by : (o : Option PlainLambda) → rules.step s.rule callees s.node l ≡ o → ((k : PlainLambda) → Made steps k ⊎ Stops steps k) →
          ((k : PlainLambda) × (option_and_then (replayed rules callees steps) o ≡ Some k)) ⊎ Stops (s ∷ steps) l
      by None e rest = inr (0, record { lambda = l; step = s; made = refl; next = refl; stops = e })
      by (Some k) e rest =
          elim (rest k) [
            | inl all ↦ inl (all.0, all.1)
            | inr at ↦
                inr (
                  suc at.0,
                  record {
                    lambda = at.1.lambda;
                    step = at.1.step;
                    made = ap (option_and_then (replayed rules callees (take at.0 steps))) e ∙ at.1.made;
                    next = at.1.next;
                    stops = at.1.stops;
                  },
                )
          ]

  abbrev IsGood : PlainLambda → PlainPart → Type 0
  IsGood l p = (k : PlainLambda) × (replayed rules callees p.steps l ≡ Some k) × HasCounts p l k

  abbrev IsBad : PlainLambda → PlainPart → Type 0
  IsBad l p = (e : ReplayFault) × (e ≢ NoMemory) × IsFunctionFault callees l p e

  good-or-bad : (l : PlainLambda) (p : PlainPart) → IsGood l p ⊎ IsBad l p
  good-or-bad l p = by-before (cases_eq p.before (lambda_values l))
    where
      by-after : (same : p.before ≡ lambda_values l) (all : Made p.steps l) → (p.after ≡ lambda_values all.0) ⊎ (p.after ≢ lambda_values all.0) → IsGood l p ⊎ IsBad l p
      by-after same all (inl equal) = inl (all.0, all.1, record { before = same; after = equal })
      by-after same all (inr other) = inr (BadCount p.line, (λ e. absurd cc), (refl, inr (record { before = same; lambda = all.0; made = all.1; other = other })))

      by-steps : p.before ≡ lambda_values l → Made p.steps l ⊎ Stops p.steps l → IsGood l p ⊎ IsBad l p
      by-steps same (inl all) = by-after same all (cases_eq p.after (lambda_values all.0))
      by-steps same (inr at) = inr (BadStep (p.line + suc at.0), (λ e. absurd cc), (same, record { index = at.0; line_is = refl; after = at.1 }))

      by-before : (p.before ≡ lambda_values l) ⊎ (p.before ≢ lambda_values l) → IsGood l p ⊎ IsBad l p
      by-before (inl same) = by-steps same (made-or-stops p.steps l)
      by-before (inr other) = inr (BadCount p.line, (λ e. absurd cc), (refl, inl other))

-- ---- one function after the other

above-all : (ranks : List ℕ) → (r : ℕ) × ((j : ℕ) → j < length ranks → slice_index ranks j < r)
above-all [] = (0, λ j inside. absurd (omega (arith, inside)))
above-all (x ∷ ranks) = by (above-all ranks)
  where
    by : (r : ℕ) × ((j : ℕ) → j < length ranks → slice_index ranks j < r) → (r : ℕ) × ((j : ℕ) → j < length (x ∷ ranks) → slice_index (x ∷ ranks) j < r)
    by (r, low) = (suc x + r, within)
      where
        within : (j : ℕ) → j < length (x ∷ ranks) → slice_index (x ∷ ranks) j < suc x + r
        within zero inside = omega arith
        within (suc j) inside = omega (arith, low j (omega (arith, inside)))

module _ (ls : List PlainLambda) (ranks : List ℕ) (deps : List (List ℕ)) (log : List PlainPart) (order : IsOrder ls ranks deps) (ranked : IsRankedOrder ls ranks deps) where
  abbrev Until : (r i : ℕ) → Type 0
  Until r i = (ks : List PlainLambda) × AreRightUntil ls ranks deps log r i ks

  abbrev Faulty : Type 0
  Faulty = (e : ReplayFault) × (e ≢ NoMemory) × IsReplayFault ls log e

  one-more : (r i : ℕ) → i < length ls → Until r i → Until r (i + 1) ⊎ Faulty
  one-more r i inside (ks, now) = by (cases_eq (slice_index ranks i) r)
    where
      take-it : slice_index ranks i ≡ r → AreRightUntil ls ranks deps log (slice_index ranks i) i ks →
          IsGood (lambdas_at ks (slice_index_or deps i [])) (lambda_of ls i) (part_at log i) ⊎ IsBad (lambdas_at ks (slice_index_or deps i [])) (lambda_of ls i) (part_at log i) →
          Until r (i + 1) ⊎ Faulty
      take-it same here (inl good) =
          inl (
            slice_set ks i good.0,
            subst (λ n. AreRightUntil ls ranks deps log n (i + 1) (slice_set ks i good.0)) same (next ls ranks deps log ranked i inside ks good.0 here good.1 good.2),
          )
      take-it same here (inr bad) = inr (bad.0, bad.1, is-first ls ranks deps log order i inside ks here bad.0 bad.2)

      by : (slice_index ranks i ≡ r) ⊎ (slice_index ranks i ≢ r) → Until r (i + 1) ⊎ Faulty
      by (inl same) =
          take-it same (subst (λ n. AreRightUntil ls ranks deps log n i ks) (sym same) now)
          (good-or-bad (lambdas_at ks (slice_index_or deps i [])) (lambda_of ls i) (part_at log i))
      by (inr other) = inl (ks, passes ls ranks deps log ranked r i ks now other)

  in-rank : (r i : ℕ) → i ≤ length ls → Until r 0 → Until r i ⊎ Faulty
  in-rank r zero low now = inl now
  in-rank r (suc i) low now = by (in-rank r i (omega (arith, low)) now)
    where
      by : Until r i ⊎ Faulty → Until r (suc i) ⊎ Faulty
      by (inl so) =
          let one : i + 1 ≡ suc i = omega arith in subst (λ n. Until r n ⊎ Faulty) one (one-more r i (omega (arith, low)) so)
      by (inr faulty) = inr faulty

  all-ranks : (r : ℕ) → Until r 0 ⊎ Faulty
  all-ranks zero = inl (ls, begins ls ranks deps log ranked ls refl)
  all-ranks (suc r) = by (all-ranks r)
    where
      up : Until r (length ls) ⊎ Faulty → Until (suc r) 0 ⊎ Faulty
      up (inl (ks, now)) =
          let one : r + 1 ≡ suc r = omega arith in
          inl (ks, subst (λ n. AreRightUntil ls ranks deps log n 0 ks) one (rank-up ls ranks deps log ranked r (length ls) ks (omega arith) now))
      up (inr faulty) = inr faulty

      by : Until r 0 ⊎ Faulty → Until (suc r) 0 ⊎ Faulty
      by (inl now) = up (in-rank r (length ls) (omega arith) now)
      by (inr faulty) = inr faulty

  pub right-or-faulty : ((ks : List PlainLambda) × AreRight ls log ks) ⊎ Faulty
  right-or-faulty = by (above-all ranks)
    where
      end : (r : ℕ) → ((j : ℕ) → j < length ranks → slice_index ranks j < r) → Until r 0 ⊎ Faulty → ((ks : List PlainLambda) × AreRight ls log ks) ⊎ Faulty
      end r low (inl (ks, now)) = inl (ks, all-right ls ranks deps log ranked order r ks now low)
      end r low (inr faulty) = inr faulty

      by : (r : ℕ) × ((j : ℕ) → j < length ranks → slice_index ranks j < r) → ((ks : List PlainLambda) × AreRight ls log ks) ⊎ Faulty
      by (r, low) = end r low (all-ranks r)

pub right_or_faulty : OrdersAreRanked → OrdersExist → RightOrFaulty
right_or_faulty is_ranked exist ls log =
    let found = exist ls in right-or-faulty ls found.0 found.1 log found.2 (is_ranked ls found.0 found.1 found.2)
