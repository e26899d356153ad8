-- How `check` ends: the cause of each outcome, and what the files hold then.
use Rattle.std.specs.Prelude.{◌≡◌, ◌⊎◌, ℕ, List, Option}
use Rattle.std.specs.Option.{ForSome}
use Rattle.cc_io.specs.Files.{Name, FileSet, content}
use Rattle.cc_io.specs.Outside.{FilesSeen, ReadFails, Unchanged, IfKnown}
use Rattle.cc_source.specs.Refusal.{refusal_of}
use Rattle.cc_source.specs.Refused.{outcome_of_refusal, IsRefused}
use Rattle.cc_report.specs.declared.log_fault.LogFault.TheVariants as log_fault
use Rattle.cc_report.specs.declared.outcome.Outcome.{Outcome}
use Rattle.cc_report.specs.declared.outcome.Outcome.TheVariants.{ReadFault, Refused, NoMemory, Certified, NotCertified}
use Rattle.s_linear.specs.declared.frame.CodeForm.{CodeForm}
use Rattle.cc_source.specs.Meaning.{KeepsMeaning}
use Rattle.log_check.specs.Judgement.{Certifies, IsJudgeFault}
use Rattle.log_check.specs.declared.judge_fault.JudgeFault.{JudgeFault}
use Rattle.log_check.specs.declared.judge_fault.JudgeFault.TheVariants as fault

-- ---- what is judged of three texts

-- the outcome that a fault is; a log that is too long is so at its line 1
abbrev pub outcome_of : JudgeFault → (source : List ℕ) → Outcome
outcome_of (fault.Source e) source = outcome_of_refusal (refusal_of e source)
outcome_of fault.LongLog source = NotCertified log_fault.LongLog 1
outcome_of (fault.BadLine line) source = NotCertified log_fault.BadLine line
outcome_of (fault.BadFunction line) source = NotCertified log_fault.BadFunction line
outcome_of (fault.BadCount line) source = NotCertified log_fault.BadCount line
outcome_of (fault.BadStep line) source = NotCertified log_fault.BadStep line
outcome_of (fault.OtherImage byte) source = NotCertified log_fault.OtherImage byte
outcome_of fault.NoMemory source = NoMemory

-- The log certifies the image of the source, which keeps the source's meaning.
pub record IsCertain (form : CodeForm) (source log image : List ℕ) : Type 0 where
  pub certifies : Certifies source form log image
  pub meaning : KeepsMeaning form certifies.program certifies.certified.lambdas image

-- It does not, for this fault.
pub record IsUncertain (ended : Outcome) (form : CodeForm) (source log image : List ℕ) : Type 0 where
  pub fault : JudgeFault
  pub wrong : IsJudgeFault fault source form log image
  pub told : ended ≡ outcome_of fault source

abbrev pub IsJudged : Outcome → CodeForm → (source log image : List ℕ) → Type 0
IsJudged ended form source log image = ((ended ≡ Certified) × IsCertain form source log image) ⊎ IsUncertain ended form source log image

-- ---- what is judged of three files

-- The texts are those of the files of these names, where the files are known.
pub record AreTexts (source log image : Name) (known : Option FileSet) (P : (source log image : List ℕ) → Type 0) : Type 0 where
  pub source_text : List ℕ
  pub log_text : List ℕ
  pub bytes : List ℕ
  pub source_is : ForSome known (λ files. source_text ≡ content source files)
  pub log_is : ForSome known (λ files. log_text ≡ content log files)
  pub image_is : ForSome known (λ files. bytes ≡ content image files)
  pub so : P source_text log_text bytes

-- the cause of an outcome
abbrev pub CheckCause : (source log image : Name) → CodeForm → Outcome → (before after : FilesSeen) → Type 0
CheckCause source log image form Certified before after = AreTexts source log image before.known (IsCertain form)
CheckCause source log image form (NotCertified kind place) before after = AreTexts source log image before.known (IsUncertain (NotCertified kind place) form)
CheckCause source log image form (Refused refusal) before after = IfKnown source before (λ text. IsRefused text refusal)
CheckCause source log image form ReadFault before after = ReadFails source before after ⊎ (ReadFails log before after ⊎ ReadFails image before after)
CheckCause source log image form NoMemory before after = Unit {0}
CheckCause source log image form _ before after = ⊥

-- No file changes.
pub record CheckEnds (source log image : Name) (form : CodeForm) (ended : Outcome) (before after : FilesSeen) : Type 0 where
  pub cause : CheckCause source log image form ended before after
  pub files : Unchanged before after

-- ---- a law

-- Where no file was left unread, a log that certifies the image is told to, or memory ran out.
abbrev pub CertifiedIsTold : Type 0
CertifiedIsTold =
    (source log image : Name) (form : CodeForm) (ended : Outcome) (before after : FilesSeen) → CheckEnds source log image form ended before after →
    (ReadFails source before after → ⊥) → (ReadFails log before after → ⊥) → (ReadFails image before after → ⊥) →
    ForSome before.known (λ files.
    Certifies (content source files) form (content log files) (content image files) → (ended ≡ Certified) ⊎ (ended ≡ NoMemory))
