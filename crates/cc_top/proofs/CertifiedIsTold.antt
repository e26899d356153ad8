-- A log that certifies the image is told to, where all was read.
use Rattle.std.proofs.Common.{◌≡◌, ◌≢◌, ◌⊎◌, ℕ, List, Some, refl, ap, subst, ◌∙◌, inl, inr}
use Rattle.s_linear.specs.declared.frame.CodeForm.{CodeForm}
use Rattle.cc_io.specs.Files.{Name, FileSet, content}
use Rattle.cc_io.specs.Outside.{FilesSeen, ReadFails}
use Rattle.cc_source.specs.Refused.{AcceptedIsNotRefused}
use Rattle.cc_report.specs.declared.log_fault.LogFault.{LogFault}
use Rattle.cc_report.specs.declared.outcome.Outcome.{Outcome}
use Rattle.cc_report.specs.declared.outcome.Outcome.TheVariants.{ReadFault, Refused, NoMemory, Certified, NotCertified}
use Rattle.log_check.specs.Judgement.{Certifies}
use Rattle.log_check.specs.JudgeLaws.{CertifiedHaveNoFault}
use Rattle.log_check.specs.declared.judge_fault.JudgeFault.TheVariants as fault
use Rattle.cc_top.specs.CheckEnds.{outcome_of, CertifiedIsTold, CheckCause, IsUncertain}

module _ (no_fault : CertifiedHaveNoFault) (no_refusal : AcceptedIsNotRefused) where
  not-uncertain : (kind : LogFault) (place : ℕ) (form : CodeForm) (source log image : List ℕ) → Certifies source form log image → IsUncertain (NotCertified kind place) form source log image → ⊥
  not-uncertain kind place form source log image certifies u =
      let some : u.fault ≢ fault.NoMemory =
      λ e. (let same : NotCertified kind place ≡ NoMemory = u.told ∙ ap (λ f. outcome_of f source) e in absurd cc) in
      no_fault source form log image u.fault some certifies u.wrong

  ends-so : (source log image : Name) (form : CodeForm) (ended : Outcome) (before after : FilesSeen) → CheckCause source log image form ended before after → (ReadFails source before after → ⊥) →
      (ReadFails log before after → ⊥) → (ReadFails image before after → ⊥) → (files : FileSet) → before.known ≡ Some files →
      Certifies (content source files) form (content log files) (content image files) → (ended ≡ Certified) ⊎ (ended ≡ NoMemory)
  ends-so source log image form Certified before after h a b d files is certifies = inl refl
  ends-so source log image form NoMemory before after h a b d files is certifies = inr refl
  ends-so source log image form (NotCertified kind place) before after h a b d files is certifies =
      absurd (not-uncertain kind place form (content source files) (content log files) (content image files) certifies
      (subst (λ t. IsUncertain (NotCertified kind place) form t (content log files) (content image files)) (h.source_is files is)
      (subst (λ t. IsUncertain (NotCertified kind place) form h.source_text t (content image files)) (h.log_is files is)
      (subst (λ t. IsUncertain (NotCertified kind place) form h.source_text h.log_text t) (h.image_is files is) h.so))))
  ends-so source log image form (Refused refusal) before after h a b d files is certifies =
      absurd (no_refusal (content source files) certifies.program refusal certifies.accepted (h files is))
  ends-so source log image form ReadFault before after h a b d files is certifies =
      elim h [ inl unread ↦ absurd (a unread) | inr rest ↦ elim rest [ inl unread ↦ absurd (b unread) | inr unread ↦ absurd (d unread) ] ]
  ends-so source log image form _ before after h a b d files is certifies = absurd h

pub certified_is_told : CertifiedHaveNoFault → AcceptedIsNotRefused → CertifiedIsTold
certified_is_told no_fault no_refusal source log image form ended before after ends a b d files is certifies =
    ends-so no_fault no_refusal source log image form ended before after ends.cause a b d files is certifies
