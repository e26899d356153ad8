-- A source, a log and an image have one fault at most, and none where the log certifies the image.
use Rattle.std.proofs.Common.{◌≡◌, ◌≢◌, ◌<◌, ◌≤◌, ◌⊎◌, ℕ, List, length, refl, sym, ap, subst, ◌∙◌, inl, inr, arith}
use Rattle.c_typed.specs.Typed.{ProgramTree}
use Rattle.g_graph.specs.Plain.{PlainOmega}
use Rattle.g_build_def.specs.Functions.{names}
use Rattle.g_build_def.specs.Functions as built
use Rattle.s_linear.specs.declared.frame.CodeForm.{CodeForm}
use Rattle.cc_emit.specs.Image.{file_of_program}
use Rattle.cc_source.specs.Accepted.{AcceptedIsNotRefused, Accepts, OneProgram, Refuses}
use Rattle.cc_source.specs.Accepted as source_laws
use Rattle.cc_source.specs.declared.fault.CompileFault.{CompileFault}
use Rattle.cc_source.specs.declared.fault.CompileFault.TheVariants as source_fault
use Rattle.log_check.specs.Log.{most_log_bytes, parts_of, rows_of, BreaksAt, LogsDoNotBreak, OneBreak, OneReading, PlainPart}
use Rattle.log_check.specs.Fault.{IsReplayFault}
use Rattle.log_check.specs.ReplayLaws.{OneReplayFault, RightAreUnique, RightHaveNoFault}
use Rattle.log_check.specs.declared.replay_fault.ReplayFault.{ReplayFault}
use Rattle.log_check.specs.declared.replay_fault.ReplayFault.TheVariants as replay_fault
use Rattle.log_check.specs.Faults.{of_replay}
use Rattle.log_check.specs.Judgement.{line_of, names_of_log, IsCertified, IsJudgeFault, IsLogFault, IsMisnamed, IsNamedFault, IsNameFault, IsOtherImage, IsPartFault, IsRead}
use Rattle.log_check.specs.JudgeLaws.{CertifiedHaveNoFault, OneJudgeFault}
use Rattle.log_check.specs.Parting.{PartAt}
use Rattle.log_check.specs.declared.judge_fault.JudgeFault.{JudgeFault}
use Rattle.log_check.specs.declared.judge_fault.JudgeFault.TheVariants.{Source, LongLog, BadLine, BadFunction, BadCount, BadStep, OtherImage, NoMemory}
use Rattle.log_check.proofs.Parting.{part-once, never-apart}

-- ---- the kinds of faults

record IsOfReplay (e : JudgeFault) (o : PlainOmega) (log : List PlainPart) : Type 0 where
  fault : ReplayFault
  some : fault ≢ replay_fault.NoMemory
  is : e ≡ of_replay fault
  wrong : IsReplayFault o.lambdas log fault

record IsOfImage (e : JudgeFault) (o : PlainOmega) (form : CodeForm) (log : List PlainPart) (image : List ℕ) : Type 0 where
  byte : ℕ
  is : e ≡ OtherImage byte
  wrong : IsOtherImage o form log image byte

part-kind : (e : JudgeFault) (o : PlainOmega) (form : CodeForm) (log : List PlainPart) (image : List ℕ) → e ≢ NoMemory → IsPartFault e o form log image → IsOfReplay e o log ⊎ IsOfImage e o form log image
part-kind (BadCount line) o form log image some h = inl (record { fault = replay_fault.BadCount line; some = λ x. absurd cc; is = refl; wrong = h })
part-kind (BadStep line) o form log image some h = inl (record { fault = replay_fault.BadStep line; some = λ x. absurd cc; is = refl; wrong = h })
part-kind (OtherImage byte) o form log image some h = inr (record { byte = byte; is = refl; wrong = h })
part-kind NoMemory o form log image some h = absurd (some refl)
part-kind (Source e) o form log image some h = absurd h
part-kind LongLog o form log image some h = absurd h
part-kind (BadLine line) o form log image some h = absurd h
part-kind (BadFunction line) o form log image some h = absurd h

record IsOfLine (e : JudgeFault) (log : List ℕ) : Type 0 where
  line : ℕ
  is : e ≡ BadLine line
  short : length log ≤ most_log_bytes
  breaks : BreaksAt line log

record IsOfName (e : JudgeFault) (p : ProgramTree) (log : List ℕ) : Type 0 where
  line : ℕ
  is : e ≡ BadFunction line
  fault : IsNameFault p log line

abbrev ReadKind : JudgeFault → ProgramTree → (form : CodeForm) (log image : List ℕ) → Type 0
ReadKind e p form log image = IsOfName e p log ⊎ IsNamedFault e p form log image

abbrev ShortKind : JudgeFault → ProgramTree → (form : CodeForm) (log image : List ℕ) → Type 0
ShortKind e p form log image = IsOfLine e log ⊎ ReadKind e p form log image

log-kind : (e : JudgeFault) (p : ProgramTree) (form : CodeForm) (log image : List ℕ) → e ≢ NoMemory → IsLogFault e p form log image →
    ((e ≡ LongLog) × (most_log_bytes < length log)) ⊎ ShortKind e p form log image
log-kind (Source e) p form log image some h = absurd h
log-kind NoMemory p form log image some h = absurd (some refl)
log-kind LongLog p form log image some h = inl (refl, h)
log-kind (BadLine line) p form log image some h = inr (inl (record { line = line; is = refl; short = h.0; breaks = h.1 }))
log-kind (BadFunction line) p form log image some h = inr (inr (inl (record { line = line; is = refl; fault = h })))
log-kind (BadCount line) p form log image some h = inr (inr (inr h))
log-kind (BadStep line) p form log image some h = inr (inr (inr h))
log-kind (OtherImage byte) p form log image some h = inr (inr (inr h))

record IsOfSource (e : JudgeFault) (source : List ℕ) : Type 0 where
  fault : CompileFault
  some : fault ≢ source_fault.NoMemory
  is : e ≡ Source fault
  refused : Refuses fault source

record IsOfLog (e : JudgeFault) (source : List ℕ) (form : CodeForm) (log image : List ℕ) : Type 0 where
  program : ProgramTree
  accepted : Accepts source program
  wrong : IsLogFault e program form log image

kind : (e : JudgeFault) (source : List ℕ) (form : CodeForm) (log image : List ℕ) → e ≢ NoMemory → IsJudgeFault e source form log image → IsOfSource e source ⊎ IsOfLog e source form log image
kind (Source e) source form log image some h = inl (record { fault = e; some = h.0; is = refl; refused = h.1 })
kind NoMemory source form log image some h = absurd (some refl)
kind LongLog source form log image some h = inr (record { program = h.0; accepted = h.1; wrong = h.2 })
kind (BadLine line) source form log image some h = inr (record { program = h.0; accepted = h.1; wrong = h.2 })
kind (BadFunction line) source form log image some h = inr (record { program = h.0; accepted = h.1; wrong = h.2 })
kind (BadCount line) source form log image some h = inr (record { program = h.0; accepted = h.1; wrong = h.2 })
kind (BadStep line) source form log image some h = inr (record { program = h.0; accepted = h.1; wrong = h.2 })
kind (OtherImage byte) source form log image some h = inr (record { program = h.0; accepted = h.1; wrong = h.2 })

-- ---- one fault

module _ (one_reading : OneReading) (one_break : OneBreak) (whole : LogsDoNotBreak) (one_fault : OneReplayFault) (right_no_fault : RightHaveNoFault) (unique : RightAreUnique) where
  same-log : (bytes : List ℕ) (log others : List PlainPart) → IsRead bytes log → IsRead bytes others → log ≡ others
  same-log bytes log others a b = a.lines ∙ (ap parts_of (one_reading (rows_of log) (rows_of others) bytes a.text b.text) ∙ sym b.lines)

  one-part : (e f : JudgeFault) (o : PlainOmega) (form : CodeForm) (log : List PlainPart) (image : List ℕ) → IsOfReplay e o log ⊎ IsOfImage e o form log image → IsOfReplay f o log ⊎ IsOfImage f o form log image → e ≡ f
  one-part e f o form log image (inl a) (inl b) = a.is ∙ (ap of_replay (one_fault o.lambdas log a.fault b.fault a.some b.some a.wrong b.wrong) ∙ sym b.is)
  one-part e f o form log image (inl a) (inr b) = absurd (right_no_fault o.lambdas log b.wrong.lambdas a.fault a.some b.wrong.right a.wrong)
  one-part e f o form log image (inr a) (inl b) = absurd (right_no_fault o.lambdas log a.wrong.lambdas b.fault b.some a.wrong.right b.wrong)
  one-part e f o form log image (inr a) (inr b) =
      let same = unique o.lambdas log a.wrong.lambdas b.wrong.lambdas a.wrong.right b.wrong.right in
      let moved : PartAt image (file_of_program form o b.wrong.lambdas) a.byte = subst (λ ks. PartAt image (file_of_program form o ks) a.byte) same a.wrong.bytes in
      a.is ∙ (ap (λ n. OtherImage n) (part-once image (file_of_program form o b.wrong.lambdas) a.byte b.byte moved b.wrong.bytes) ∙ sym b.is)

  -- names that part are not the program's
  not-named : (p : ProgramTree) (bytes : List ℕ) (log : List PlainPart) (line : ℕ) → IsNameFault p bytes line → IsRead bytes log → names_of_log log ≡ names p → ⊥
  not-named p bytes log line a read named =
      never-apart (names_of_log a.functions) (names p) a.wrong.index
      (ap names_of_log (same-log bytes a.functions log a.read read) ∙ named) a.wrong.names

  one-name : (p : ProgramTree) (bytes : List ℕ) (line other : ℕ) → IsNameFault p bytes line → IsNameFault p bytes other → line ≡ other
  one-name p bytes line other a b =
      let same = same-log bytes a.functions b.functions a.read b.read in
      let moved : IsMisnamed p b.functions line = subst (λ log. IsMisnamed p log line) same a.wrong in
      moved.line_is
      ∙ (ap (line_of b.functions) (part-once (names_of_log b.functions) (names p) moved.index b.wrong.index moved.names b.wrong.names) ∙ sym b.wrong.line_is)

  one-read : (e f : JudgeFault) (p : ProgramTree) (form : CodeForm) (log image : List ℕ) → e ≢ NoMemory → f ≢ NoMemory → ReadKind e p form log image → ReadKind f p form log image → e ≡ f
  one-read e f p form log image some any (inl a) (inl b) = a.is ∙ (ap (λ n. BadFunction n) (one-name p log a.line b.line a.fault b.fault) ∙ sym b.is)
  one-read e f p form log image some any (inl a) (inr b) = absurd (not-named p log b.functions a.line a.fault b.read b.named)
  one-read e f p form log image some any (inr a) (inl b) = absurd (not-named p log a.functions b.line b.fault a.read a.named)
  one-read e f p form log image some any (inr a) (inr b) =
      let same = same-log log a.functions b.functions a.read b.read in
      one-part e f (built.omega p) form b.functions image
      (part-kind e (built.omega p) form b.functions image some (subst (λ (fs : List PlainPart). IsPartFault e (built.omega p) form fs image) same a.wrong))
      (part-kind f (built.omega p) form b.functions image any b.wrong)

  read-of : (e : JudgeFault) (p : ProgramTree) (form : CodeForm) (log image : List ℕ) → ReadKind e p form log image → (functions : List PlainPart) × IsRead log functions
  read-of e p form log image (inl a) = (a.fault.functions, a.fault.read)
  read-of e p form log image (inr a) = (a.functions, a.read)

  short-of : (e : JudgeFault) (p : ProgramTree) (form : CodeForm) (log image : List ℕ) → ShortKind e p form log image → length log ≤ most_log_bytes
  short-of e p form log image (inl a) = a.short
  short-of e p form log image (inr a) = (read-of e p form log image a).1.short

  not-broken : (log : List ℕ) (functions : List PlainPart) (line : ℕ) → IsRead log functions → BreaksAt line log → ⊥
  not-broken log functions line read breaks = whole (rows_of functions) log line read.text breaks

  one-short : (e f : JudgeFault) (p : ProgramTree) (form : CodeForm) (log image : List ℕ) → e ≢ NoMemory → f ≢ NoMemory → ShortKind e p form log image → ShortKind f p form log image → e ≡ f
  one-short e f p form log image some any (inl a) (inl b) = a.is ∙ (ap (λ n. BadLine n) (one_break log a.line b.line a.breaks b.breaks) ∙ sym b.is)
  one-short e f p form log image some any (inl a) (inr b) = let read = read-of f p form log image b in absurd (not-broken log read.0 a.line read.1 a.breaks)
  one-short e f p form log image some any (inr a) (inl b) = let read = read-of e p form log image a in absurd (not-broken log read.0 b.line read.1 b.breaks)
  one-short e f p form log image some any (inr a) (inr b) = one-read e f p form log image some any a b

  one-log : (e f : JudgeFault) (p : ProgramTree) (form : CodeForm) (log image : List ℕ) → e ≢ NoMemory → f ≢ NoMemory → IsLogFault e p form log image → IsLogFault f p form log image → e ≡ f
  one-log e f p form log image some any h g = by (log-kind e p form log image some h) (log-kind f p form log image any g)
    where
      by : ((e ≡ LongLog) × (most_log_bytes < length log)) ⊎ ShortKind e p form log image → ((f ≡ LongLog) × (most_log_bytes < length log)) ⊎ ShortKind f p form log image → e ≡ f
      by (inl a) (inl b) = a.0 ∙ sym b.0
      by (inl a) (inr b) = absurd (omega (arith, a.1, short-of f p form log image b))
      by (inr a) (inl b) = absurd (omega (arith, b.1, short-of e p form log image a))
      by (inr a) (inr b) = one-short e f p form log image some any a b

  pub one_judge_fault : OneProgram → source_laws.OneFault → AcceptedIsNotRefused → OneJudgeFault
  one_judge_fault one_program one_source never source form log image e f some any h g = by (kind e source form log image some h) (kind f source form log image any g)
    where
      by : IsOfSource e source ⊎ IsOfLog e source form log image → IsOfSource f source ⊎ IsOfLog f source form log image → e ≡ f
      by (inl a) (inl b) = a.is ∙ (ap (λ x. Source x) (one_source source a.fault b.fault a.some b.some a.refused b.refused) ∙ sym b.is)
      by (inl a) (inr b) = absurd (never source b.program a.fault a.some b.accepted a.refused)
      by (inr a) (inl b) = absurd (never source a.program b.fault b.some a.accepted b.refused)
      by (inr a) (inr b) =
          let same = one_program source a.program b.program a.accepted b.accepted in
          one-log e f b.program form log image some any (subst (λ (p : ProgramTree). IsLogFault e p form log image) same a.wrong) b.wrong

  -- ---- none

  no-part : (e : JudgeFault) (p : ProgramTree) (form : CodeForm) (log image : List ℕ) → e ≢ NoMemory → (c : IsCertified p form log image) → IsPartFault e (built.omega p) form c.functions image → ⊥
  no-part e p form log image some c h =
      elim (part-kind e (built.omega p) form c.functions image some h) [
        | inl a ↦ right_no_fault (built.omega p).lambdas c.functions c.lambdas a.fault a.some c.right a.wrong
        | inr a ↦
            never-apart image (file_of_program form (built.omega p) a.wrong.lambdas) a.byte
            (c.file ∙ ap (file_of_program form (built.omega p)) (unique (built.omega p).lambdas c.functions c.lambdas a.wrong.lambdas c.right a.wrong.right)) a.wrong.bytes
      ]

  no-log : (e : JudgeFault) (p : ProgramTree) (form : CodeForm) (log image : List ℕ) → e ≢ NoMemory → IsCertified p form log image → IsLogFault e p form log image → ⊥
  no-log e p form log image some c h = by (log-kind e p form log image some h)
    where
      by : ((e ≡ LongLog) × (most_log_bytes < length log)) ⊎ ShortKind e p form log image → ⊥
      by (inl a) = absurd (omega (arith, a.1, c.read.short))
      by (inr (inl a)) = not-broken log c.functions a.line c.read a.breaks
      by (inr (inr (inl a))) = not-named p log c.functions a.line a.fault c.read c.named
      by (inr (inr (inr a))) =
          no-part e p form log image some c (subst (λ (fs : List PlainPart). IsPartFault e (built.omega p) form fs image) (same-log log a.functions c.functions a.read c.read) a.wrong)

  pub certified_have_no_fault : OneProgram → AcceptedIsNotRefused → CertifiedHaveNoFault
  certified_have_no_fault one_program never source form log image e some c h =
      elim (kind e source form log image some h) [
        | inl a ↦ never source c.program a.fault a.some c.accepted a.refused
        | inr a ↦
            no-log e c.program form log image some c.certified
            (subst (λ (p : ProgramTree). IsLogFault e p form log image) (one_program source a.program c.program a.accepted c.accepted) a.wrong)
      ]
