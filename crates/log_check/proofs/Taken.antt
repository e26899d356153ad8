-- What is right of the functions so far, as functions are taken.
use Rattle.std.proofs.Common.{◌≡◌, ◌≢◌, ◌<◌, ◌≤◌, ◌+◌, ℕ, List, [], length, Some, slice_get, slice_index, slice_index_or, sym, ap, subst, ◌∙◌, inl, inr, arith}
use Rattle.std.specs.Prelude.{get_or, slice_set, unwrap_or}
use Rattle.std.proofs.lemmas.Bool.{cases_eq}
use Rattle.std.proofs.lemmas.List.{get_or_default, length-set}
use Rattle.std.proofs.lemmas.Option.{slice_get-get_or}
use Rattle.g_graph.specs.Plain.{PlainLambda}
use Rattle.g_pass_order.specs.Calls.{no_lambda, IsOrder}
use Rattle.g_pass_order.specs.Laws.{IsRankedOrder}
use Rattle.g_pass_def.specs.Answers.{lambda_of}
use Rattle.g_pass_def.specs.Sweep.{replayed}
use Rattle.g_pass_def.specs.Replayed.{lambdas_at}
use Rattle.g_pass_def.proofs.lemmas.Replayed.{same-at}
use Rattle.g_pass.specs.Sweep.{rules}
use Rattle.r_edit.proofs.lemmas.Steps.{set-there, set-elsewhere}
use Rattle.log_check.specs.Log.{PlainPart}
use Rattle.log_check.specs.Right.{no_part, part_at, steps_of, AreRight, AreRightUntil, HasCounts, IsRight, IsTaken}
use Rattle.log_check.specs.Fault.{IsFunctionFault, IsReplayFault}
use Rattle.log_check.specs.declared.replay_fault.ReplayFault.{ReplayFault}
use Rattle.log_check.specs.declared.replay_fault.ReplayFault.TheVariants.{BadCount, BadStep, NoMemory}
use Rattle.log_check.proofs.FirstFaults.{steps-at, some-at}

module _ (ls : List PlainLambda) (ranks : List ℕ) (deps : List (List ℕ)) (log : List PlainPart) (ranked : IsRankedOrder ls ranks deps) where
  abbrev rank : ℕ → ℕ
  rank f = slice_index ranks f

  -- nothing is taken before all
  pub begins : (ks : List PlainLambda) → length ks ≡ length ls → AreRightUntil ls ranks deps log 0 0 ks
  begins ks count =
      record { count = count; each = λ d inside taken. elim taken [ inl low ↦ absurd (omega (arith, low)) | inr same ↦ absurd (omega (arith, same.1)) ] }

  -- a function of another rank is passed over
  pub passes : (r i : ℕ) (ks : List PlainLambda) → AreRightUntil ls ranks deps log r i ks → rank i ≢ r → AreRightUntil ls ranks deps log r (i + 1) ks
  passes r i ks now apart =
      record {
        count = now.count;
        each = λ d inside taken.
            elim taken [
              | inl low ↦ now.each d inside (inl low)
              | inr same ↦
                  elim (cases_eq d i) [
                    | inl q ↦ absurd (apart (subst (λ n. rank n ≡ r) q same.0))
                    | inr q ↦ now.each d inside (inr (same.0, omega (arith, same.1, q)))
                  ]
            ];
      }

  -- all functions of a rank are taken
  pub rank-up : (r i : ℕ) (ks : List PlainLambda) → length ls ≤ i → AreRightUntil ls ranks deps log r i ks → AreRightUntil ls ranks deps log (r + 1) 0 ks
  rank-up r i ks whole now =
      record {
        count = now.count;
        each = λ d inside taken.
            let low : rank d < r + 1 = elim taken [ inl low ↦ low | inr none ↦ absurd (omega (arith, none.1)) ] in
            elim (cases_eq (rank d) r) [
              | inl q ↦ now.each d inside (inr (q, omega (arith, inside, whole)))
              | inr q ↦ now.each d inside (inl (omega (arith, low, q)))
            ];
      }

  -- all ranks are taken
  pub all-right : (order : IsOrder ls ranks deps) (r : ℕ) (ks : List PlainLambda) → AreRightUntil ls ranks deps log r 0 ks → ((j : ℕ) → j < length ranks → rank j < r) → AreRight ls log ks
  all-right order r ks now low =
      let each : (d : ℕ) → d < length ls → IsRight ls deps log ks d = λ d inside. now.each d inside (inl (low d (omega (arith, inside, ranked.ranks_length)))) in
      record {
        replayed = record { ranks = ranks; deps = deps; order = order; count = now.count; each = λ j inside. (each j inside).replayed };
        counts = λ j inside. (each j inside).counts;
      }

  -- the lambda of one function comes in the place of another one
  module _ (i : ℕ) (inside : i < length ls) (ks : List PlainLambda) (k : PlainLambda) (now : AreRightUntil ls ranks deps log (rank i) i ks) where
    elsewhere : (d : ℕ) → d ≢ i → slice_get (slice_set ks i k) d ≡ slice_get ks d
    elsewhere d other = set-elsewhere ks i d k other

    here : slice_get (slice_set ks i k) i ≡ Some k
    here = set-there ks i (lambda_of ks i) k (some-at ks i (omega (arith, inside, now.count)))

    -- a function of no greater rank has the deps that it had
    deps-still : (d : ℕ) → rank d ≤ rank i → lambdas_at (slice_set ks i k) (slice_index_or deps d []) ≡ lambdas_at ks (slice_index_or deps d [])
    deps-still d low =
        same-at (slice_set ks i k) ks (slice_index_or deps d [])
        (λ e h. ap (λ o. unwrap_or o no_lambda)
        (elsewhere e (λ same. let ranks : rank e ≡ rank i = ap rank same in omega (arith, low, ranks, (ranked.dep d e h).smaller))))

    still-right : (d : ℕ) → rank d ≤ rank i → d ≢ i → IsRight ls deps log ks d → IsRight ls deps log (slice_set ks i k) d
    still-right d low other right =
        record {
          replayed =
              ap (λ held. replayed rules held (slice_index_or (steps_of log) d []) (lambda_of ls d)) (deps-still d low) ∙ (right.replayed ∙ sym (elsewhere d other));
          counts = subst (λ o. HasCounts (part_at log d) (lambda_of ls d) (unwrap_or o no_lambda)) (sym (elsewhere d other)) right.counts;
        }

    pub next : replayed rules (lambdas_at ks (slice_index_or deps i [])) (part_at log i).steps (lambda_of ls i) ≡ Some k → HasCounts (part_at log i) (lambda_of ls i) k →
        AreRightUntil ls ranks deps log (rank i) (i + 1) (slice_set ks i k)
    next made counts =
        record {
          count = length-set ks i k ∙ now.count;
          each = λ d within taken.
              elim (cases_eq d i) [
                | inl q ↦
                    subst (λ n. IsRight ls deps log (slice_set ks i k) n) (sym q)
                    (record {
                      replayed =
                          ap (λ held. replayed rules held (slice_index_or (steps_of log) i []) (lambda_of ls i)) (deps-still i (omega arith))
                          ∙ (ap (λ steps. replayed rules (lambdas_at ks (slice_index_or deps i [])) steps (lambda_of ls i)) (steps-at log i) ∙ (made ∙ sym here));
                      counts = subst (λ o. HasCounts (part_at log i) (lambda_of ls i) (unwrap_or o no_lambda)) (sym here) counts;
                    })
                | inr q ↦
                    let was : IsTaken ranks (rank i) i d = elim taken [ inl low ↦ inl low | inr same ↦ inr (same.0, omega (arith, same.1, q)) ] in
                    let low : rank d ≤ rank i = elim taken [ inl low ↦ omega (arith, low) | inr same ↦ omega (arith, same.0) ] in
                    still-right d low q (now.each d within was)
              ];
        }

-- a function that is wrong is the first one
pub is-first : (ls : List PlainLambda) (ranks : List ℕ) (deps : List (List ℕ)) (log : List PlainPart) → IsOrder ls ranks deps → (i : ℕ) → i < length ls → (ks : List PlainLambda) →
    AreRightUntil ls ranks deps log (slice_index ranks i) i ks → (e : ReplayFault) →
    IsFunctionFault (lambdas_at ks (slice_index_or deps i [])) (lambda_of ls i) (part_at log i) e → IsReplayFault ls log e
is-first ls ranks deps log order i inside ks now (BadCount line) wrong =
    record { ranks = ranks; deps = deps; order = order; function = i; inside = inside; lambdas = ks; before = now; wrong = wrong }
is-first ls ranks deps log order i inside ks now (BadStep line) wrong =
    record { ranks = ranks; deps = deps; order = order; function = i; inside = inside; lambdas = ks; before = now; wrong = wrong }
is-first ls ranks deps log order i inside ks now NoMemory wrong = tt

-- ---- the next function, as it is found

module _ (ls : List PlainLambda) (ranks : List ℕ) (deps : List (List ℕ)) (log : List PlainPart) (order : IsOrder ls ranks deps) (ranked : IsRankedOrder ls ranks deps) (i : ℕ)
    (inside : i < length ls)
    (logged : i < length log) (ks : List PlainLambda) (now : AreRightUntil ls ranks deps log (slice_index ranks i) i ks) (callees : List PlainLambda) (l : PlainLambda) (p : PlainPart)
    (callees_are : callees ≡ lambdas_at ks (slice_index_or deps i [])) (l_is : l ≡ get_or ls i l) (p_is : p ≡ get_or log i p) where
  own : l ≡ lambda_of ls i
  own = l_is ∙ ap (λ o. unwrap_or o no_lambda) (sym (slice_get-get_or ls i l inside))

  part : p ≡ part_at log i
  part = p_is ∙ get_or_default log i p no_part logged

  pub wrong-at : (e : ReplayFault) → IsFunctionFault callees l p e → IsReplayFault ls log e
  wrong-at e wrong =
      is-first ls ranks deps log order i inside ks now e
      (subst (λ q. IsFunctionFault (lambdas_at ks (slice_index_or deps i [])) (lambda_of ls i) q e) part
      (subst (λ k. IsFunctionFault (lambdas_at ks (slice_index_or deps i [])) k p e) own (subst (λ cs. IsFunctionFault cs l p e) callees_are wrong)))

  pub right-at : (k : PlainLambda) → replayed rules callees p.steps l ≡ Some k → HasCounts p l k → AreRightUntil ls ranks deps log (slice_index ranks i) (i + 1) (slice_set ks i k)
  right-at k made counts =
      next ls ranks deps log ranked i inside ks k now
      (ap (λ cs. replayed rules cs (part_at log i).steps (lambda_of ls i)) (sym callees_are)
      ∙ (ap (λ x. replayed rules callees (part_at log i).steps x) (sym own) ∙ (ap (λ (q : PlainPart). replayed rules callees q.steps l) (sym part) ∙ made)))
      (subst (λ q. HasCounts q (lambda_of ls i) k) part (subst (λ x. HasCounts p x k) own counts))
