-- Laws of judgements.
use Rattle.std.specs.Prelude.{◌≡◌, ◌≢◌, ◌≤◌, ◌⊎◌, ℕ, List, length}
use Rattle.base.specs.Limits.{most_image_bytes}
use Rattle.c_typed.specs.Typed.{ProgramTree}
use Rattle.g_graph.specs.Plain.{PlainLambda}
use Rattle.g_build_def.specs.Functions.{graph, omega}
use Rattle.s_linear.specs.declared.frame.CodeForm.{CodeForm}
use Rattle.cc_emit.specs.Image.{file_of_program}
use Rattle.cc_source.specs.SourceLaws.{AreBytes}
use Rattle.cc_source.specs.Accepted.{Accepts}
use Rattle.log_check.specs.Log.{PlainPart}
use Rattle.log_check.specs.Right.{AreRight}
use Rattle.log_check.specs.Judgement.{Certifies, IsJudgeFault}
use Rattle.log_check.specs.declared.judge_fault.JudgeFault.{JudgeFault}
use Rattle.log_check.specs.declared.judge_fault.JudgeFault.TheVariants.{NoMemory}

-- A source, a log and an image have one fault at most,
abbrev pub OneJudgeFault : Type 0
OneJudgeFault =
    (source : List ℕ) (form : CodeForm) (log image : List ℕ) (e f : JudgeFault) → e ≢ NoMemory → f ≢ NoMemory → IsJudgeFault e source form log image → IsJudgeFault f source form log image → e ≡ f

-- and none where the log certifies the image.
abbrev pub CertifiedHaveNoFault : Type 0
CertifiedHaveNoFault = (source : List ℕ) (form : CodeForm) (log image : List ℕ) (e : JudgeFault) → e ≢ NoMemory → Certifies source form log image → IsJudgeFault e source form log image → ⊥

-- and one where it does not.
abbrev pub CertifiedOrFaulty : Type 0
CertifiedOrFaulty = (source : List ℕ) (form : CodeForm) (log image : List ℕ) → Certifies source form log image ⊎ ((e : JudgeFault) × (e ≢ NoMemory) × IsJudgeFault e source form log image)

-- The image that the steps of a log lead to has no more bytes than an image may have, where the source is accepted.
abbrev pub ImagesAreShort : Type 0
ImagesAreShort =
    (form : CodeForm) (source : List ℕ) → AreBytes source → (p : ProgramTree) → Accepts source p → (log : List PlainPart) (ks : List PlainLambda) → AreRight (graph p) log ks →
    length (file_of_program form (omega p) ks) ≤ most_image_bytes
