-- A log certifies an image of a source, or there is a fault.
use Rattle.std.proofs.Common.{◌≡◌, ◌≢◌, ◌<◌, ◌≤◌, ◌+◌, ◌⊎◌, ℕ, zero, suc, List, [], ◌∷◌, length, Some, slice_get, refl, sym, ap, subst, inl, inr, arith}
use Rattle.std.proofs.lemmas.Bool.{cases_eq, cases_lt}
use Rattle.c_typed.specs.Typed.{ProgramTree}
use Rattle.g_graph.specs.Plain.{PlainLambda}
use Rattle.g_build_def.specs.Functions.{graph, names}
use Rattle.g_build_def.specs.Functions as built
use Rattle.s_linear.specs.declared.frame.CodeForm.{CodeForm}
use Rattle.cc_emit.specs.Image.{file_of_program}
use Rattle.cc_source.specs.Accepted.{AcceptedOrRefused, Accepts, Refuses}
use Rattle.cc_source.specs.declared.fault.CompileFault.{CompileFault}
use Rattle.cc_source.specs.declared.fault.CompileFault.TheVariants as source_fault
use Rattle.cc_watch.specs.Rows.{PlainRow}
use Rattle.log_check.specs.Log.{most_log_bytes, parts_from, parts_of, rows_of, BreaksAt, IsLogOf, LogOrBreak, PlainPart}
use Rattle.log_check.specs.Right.{AreRight}
use Rattle.log_check.specs.Fault.{IsReplayFault}
use Rattle.log_check.specs.ReplayLaws.{RightOrFaulty}
use Rattle.log_check.specs.declared.replay_fault.ReplayFault.{ReplayFault}
use Rattle.log_check.specs.declared.replay_fault.ReplayFault.TheVariants as replay_fault
use Rattle.log_check.specs.Faults.{of_replay}
use Rattle.log_check.specs.Judgement.{line_of, names_of_log, Certifies, IsJudgeFault, IsLogFault, IsRead}
use Rattle.log_check.specs.JudgeLaws.{CertifiedOrFaulty}
use Rattle.log_check.specs.Parting.{PartAt}
use Rattle.log_check.specs.declared.judge_fault.JudgeFault.{JudgeFault}
use Rattle.log_check.specs.declared.judge_fault.JudgeFault.TheVariants.{Source, LongLog, BadLine, BadFunction, OtherImage, NoMemory}
use Rattle.log_check.proofs.Parting.{never-apart}
use Rattle.log_check.proofs.Told.{of-log, of-name, of-part, of-replay}

-- ---- where lists part

same-or-apart : {X : Type 0} → ((x y : X) → (x ≡ y) ⊎ (x ≢ y)) → (xs ys : List X) → (xs ≡ ys) ⊎ ((n : ℕ) × PartAt xs ys n)
same-or-apart test [] [] = inl refl
same-or-apart test [] (y ∷ ys) = inr (0, record { same = λ j low. absurd (omega (arith, low)); other = λ e. absurd cc })
same-or-apart test (x ∷ xs) [] = inr (0, record { same = λ j low. absurd (omega (arith, low)); other = λ e. absurd cc })
same-or-apart test (x ∷ xs) (y ∷ ys) = by (test x y) (same-or-apart test xs ys)
  where
    by : (x ≡ y) ⊎ (x ≢ y) → (xs ≡ ys) ⊎ ((n : ℕ) × PartAt xs ys n) → (x ∷ xs ≡ y ∷ ys) ⊎ ((n : ℕ) × PartAt (x ∷ xs) (y ∷ ys) n)
    by (inr other) rest =
        inr (0, record { same = λ j low. absurd (omega (arith, low)); other = λ e. other (let equal : x ≡ y = cc in equal) })
    by (inl same) (inl rest) = inl (let equal : x ∷ xs ≡ y ∷ ys = cc in equal)
    by (inl same) (inr at) = inr (suc at.0, record { same = before; other = at.1.other })
      where
        before : (j : ℕ) → j < suc at.0 → slice_get (x ∷ xs) j ≡ slice_get (y ∷ ys) j
        before zero low = ap (λ z. Some z) same
        before (suc j) low = at.1.same j (omega (arith, low))

same-name : (xs ys : List ℕ) → (xs ≡ ys) ⊎ (xs ≢ ys)
same-name xs ys = elim (same-or-apart cases_eq xs ys) [ inl same ↦ inl same | inr at ↦ inr (λ e. never-apart xs ys at.0 e at.1) ]

-- ---- the log that a text is

rows-again : (line : ℕ) (rows : List PlainRow) → rows_of (parts_from line rows) ≡ rows
rows-again line [] = refl
rows-again line (r ∷ rows) = ap (λ t. r ∷ t) (rows-again (line + suc (length r.steps)) rows)

read-of : (log : List ℕ) (rows : List PlainRow) → length log ≤ most_log_bytes → IsLogOf rows log → IsRead log (parts_of rows)
read-of log rows short is =
    let again = rows-again 1 rows in
    record { short = short; text = subst (λ rs. IsLogOf rs log) (sym again) is; lines = ap parts_of (sym again) }

told : (e : ReplayFault) → e ≢ replay_fault.NoMemory → of_replay e ≢ NoMemory
told (replay_fault.BadCount line) some = λ e. absurd cc
told (replay_fault.BadStep line) some = λ e. absurd cc
told replay_fault.NoMemory some = absurd (some refl)

-- ---- one stage after the other

module _ (source : List ℕ) (form : CodeForm) (log image : List ℕ) where
  abbrev Faulty : Type 0
  Faulty = (e : JudgeFault) × (e ≢ NoMemory) × IsJudgeFault e source form log image

  module _ (p : ProgramTree) (accepted : Accepts source p) where
    faulty : (e : JudgeFault) → e ≢ NoMemory → IsLogFault e p form log image → Faulty
    faulty e some wrong = (e, some, of-log e source form log image p accepted wrong)

    module _ (functions : List PlainPart) (read : IsRead log functions) where
      by-image : names_of_log functions ≡ names p → (ks : List PlainLambda) → AreRight (graph p) functions ks →
          (image ≡ file_of_program form (built.omega p) ks) ⊎ ((n : ℕ) × PartAt image (file_of_program form (built.omega p) ks) n) → Certifies source form log image ⊎ Faulty
      by-image named ks right (inl same) =
          inl (record {
            program = p;
            accepted = accepted;
            certified = record { functions = functions; read = read; named = named; lambdas = ks; right = right; file = same };
          })
      by-image named ks right (inr (byte, parts)) =
          inr (faulty (OtherImage byte) (λ e. absurd cc)
          (of-part (OtherImage byte) p form log image functions read named (record { lambdas = ks; right = right; bytes = parts })))

      by-steps : names_of_log functions ≡ names p →
          ((ks : List PlainLambda) × AreRight (graph p) functions ks) ⊎ ((e : ReplayFault) × (e ≢ replay_fault.NoMemory) × IsReplayFault (graph p) functions e) →
          Certifies source form log image ⊎ Faulty
      by-steps named (inl (ks, right)) = by-image named ks right (same-or-apart cases_eq image (file_of_program form (built.omega p) ks))
      by-steps named (inr (e, some, wrong)) =
          inr (faulty (of_replay e) (told e some)
          (of-part (of_replay e) p form log image functions read named (of-replay e (built.omega p) form functions image wrong)))

      by-names : RightOrFaulty → (names_of_log functions ≡ names p) ⊎ ((n : ℕ) × PartAt (names_of_log functions) (names p) n) → Certifies source form log image ⊎ Faulty
      by-names right (inl named) = by-steps named (right (graph p) functions)
      by-names right (inr (index, parts)) =
          inr (faulty (BadFunction (line_of functions index)) (λ e. absurd cc)
          (of-name (line_of functions index) p form log image functions read (record { index = index; names = parts; line_is = refl })))

    by-lines : RightOrFaulty → length log ≤ most_log_bytes → ((rows : List PlainRow) × IsLogOf rows log) ⊎ ((line : ℕ) × BreaksAt line log) → Certifies source form log image ⊎ Faulty
    by-lines right short (inl (rows, is)) =
        by-names (parts_of rows) (read-of log rows short is) right (same-or-apart same-name (names_of_log (parts_of rows)) (names p))
    by-lines right short (inr (line, breaks)) = inr (faulty (BadLine line) (λ e. absurd cc) (short, breaks))

    by-length : RightOrFaulty → LogOrBreak → (most_log_bytes < length log) ⊎ (length log ≤ most_log_bytes) → Certifies source form log image ⊎ Faulty
    by-length right break (inl long) = inr (faulty LongLog (λ e. absurd cc) long)
    by-length right break (inr short) = by-lines right short (break log)

  by-source : RightOrFaulty → LogOrBreak → ((p : ProgramTree) × Accepts source p) ⊎ ((e : CompileFault) × (e ≢ source_fault.NoMemory) × Refuses e source) →
      Certifies source form log image ⊎ Faulty
  by-source right break (inl (p, accepted)) = by-length p accepted right break (cases_lt most_log_bytes (length log))
  by-source right break (inr (e, some, refuses)) = inr (Source e, (λ same. absurd cc), (some, refuses))

pub certified_or_faulty : AcceptedOrRefused → LogOrBreak → RightOrFaulty → CertifiedOrFaulty
certified_or_faulty accepted break right source form log image = by-source source form log image right break (accepted source)
