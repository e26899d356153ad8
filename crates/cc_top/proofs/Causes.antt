-- The cause of each outcome of what is judged.
use Rattle.std.proofs.Common.{◌≡◌, ◌≤◌, ℕ, List, length, take, Option, None, Some, refl, sym, ap, subst, ◌∙◌, inl, inr}
use Rattle.std.specs.Option.{ForSome}
use Rattle.c_typed.specs.Typed.{ProgramTree}
use Rattle.g_graph.specs.Plain.{PlainLambda}
use Rattle.g_build_def.specs.Functions.{graph}
use Rattle.g_build_def.specs.Functions as built
use Rattle.s_linear.specs.declared.frame.CodeForm.{CodeForm}
use Rattle.cc_emit.specs.Image.{file_of_program}
use Rattle.cc_io.specs.Files.{Name, FileSet, content}
use Rattle.cc_io.specs.Outside.{FilesSeen}
use Rattle.cc_source.specs.Accepted.{Accepts}
use Rattle.cc_source.specs.declared.fault.CompileFault.{CompileFault}
use Rattle.cc_source.specs.Refusal.{refusal_of}
use Rattle.cc_source.specs.Refused.{outcome_of_refusal}
use Rattle.cc_source.proofs.lemmas.Sources.{refused_of_read}
use Rattle.cc_report.specs.declared.outcome.Outcome.{Outcome}
use Rattle.cc_report.specs.declared.refusal.Refusal.{Refusal}
use Rattle.log_check.specs.Log.{PlainPart}
use Rattle.log_check.specs.Right.{AreRight}
use Rattle.log_check.specs.Judgement.{IsJudgeFault}
use Rattle.log_check.specs.declared.judge_fault.JudgeFault.{JudgeFault}
use Rattle.log_check.specs.declared.judge_fault.JudgeFault.TheVariants.{Source, LongLog, BadLine, BadFunction, BadCount, BadStep, OtherImage, NoMemory}
use Rattle.cc_top.specs.CheckEnds.{outcome_of, AreTexts, CheckCause, IsCertain, IsJudged, IsUncertain}
use Rattle.cc_top.specs.Reads.{Unread}
use Rattle.cc_top.proofs.Beginnings.{whole-certain, whole-fault}

module _ (form : CodeForm) (source log image : Name) (known : Option FileSet) (s l i : List ℕ) (source_is : ForSome known (λ files. s ≡ take 1048577 (content source files)))
    (log_is : ForSome known (λ files. l ≡ take 2147483649 (content log files))) (image_is : ForSome known (λ files. i ≡ take 268435457 (content image files))) where
  texts : (P : (source log image : List ℕ) → Type 0) → P s l i →
      ((files : FileSet) → s ≡ take 1048577 (content source files) → l ≡ take 2147483649 (content log files) → i ≡ take 268435457 (content image files) →
      P (content source files) (content log files) (content image files)) →
      (is : Option FileSet) → is ≡ known → AreTexts source log image is P
  texts P here there None is =
      record {
        source_text = s;
        log_text = l;
        bytes = i;
        source_is = λ files e. absurd cc;
        log_is = λ files e. absurd cc;
        image_is = λ files e. absurd cc;
        so = here;
      }
  texts P here there (Some all) is =
      record {
        source_text = content source all;
        log_text = content log all;
        bytes = content image all;
        source_is = λ files e. let same : all ≡ files = cc in ap (content source) same;
        log_is = λ files e. let same : all ≡ files = cc in ap (content log) same;
        image_is = λ files e. let same : all ≡ files = cc in ap (content image) same;
        so = there all (source_is all (sym is)) (log_is all (sym is)) (image_is all (sym is));
      }

  module _ (short : (p : ProgramTree) → Accepts s p → (functions : List PlainPart) (ks : List PlainLambda) → AreRight (graph p) functions ks →
      length (file_of_program form (built.omega p) ks) ≤ 268435456) where
    certain-texts : IsCertain form s l i → AreTexts source log image known (IsCertain form)
    certain-texts c =
        texts (IsCertain form) c (λ files a b d. whole-certain form (content source files) (content log files) (content image files) s l i a b d short c) known refl

    -- the fault is not the source's, and says the same of every source
    uncertain-texts : (e : JudgeFault) (ended : Outcome) → ((f : CompileFault) → e ≡ Source f → ⊥) → ((t : List ℕ) → ended ≡ outcome_of e t) → IsJudgeFault e s form l i →
        AreTexts source log image known (IsUncertain ended form)
    uncertain-texts e ended other told wrong =
        texts (IsUncertain ended form) (record { fault = e; wrong = wrong; told = told s })
        (λ files a b d. record {
          fault = e;
          wrong = whole-fault form (content source files) (content log files) (content image files) s l i a b d short e other wrong;
          told = told (content source files);
        })
        known refl

    module _ (before after : FilesSeen) (seen : before.known ≡ known) where
      of-refusal : (f : CompileFault) (o : Option Refusal) → refusal_of f s ≡ o → IsJudgeFault (Source f) s form l i → CheckCause source log image form (outcome_of_refusal o) before after
      of-refusal f None is wrong = tt
      of-refusal f (Some r) is wrong = λ files e. refused_of_read (content source files) s r (source_is files (sym seen ∙ e)) (f, wrong.1, is)

      moved : (ended : Outcome) → AreTexts source log image known (IsUncertain ended form) → AreTexts source log image before.known (IsUncertain ended form)
      moved ended h = subst (λ k. AreTexts source log image k (IsUncertain ended form)) (sym seen) h

      cause-of : (e : JudgeFault) → IsJudgeFault e s form l i → CheckCause source log image form (outcome_of e s) before after
      cause-of (Source f) wrong = of-refusal f (refusal_of f s) refl wrong
      cause-of NoMemory wrong = tt
      cause-of LongLog wrong = moved _ (uncertain-texts LongLog _ (λ f e. absurd cc) (λ t. refl) wrong)
      cause-of (BadLine line) wrong = moved _ (uncertain-texts (BadLine line) _ (λ f e. absurd cc) (λ t. refl) wrong)
      cause-of (BadFunction line) wrong = moved _ (uncertain-texts (BadFunction line) _ (λ f e. absurd cc) (λ t. refl) wrong)
      cause-of (BadCount line) wrong = moved _ (uncertain-texts (BadCount line) _ (λ f e. absurd cc) (λ t. refl) wrong)
      cause-of (BadStep line) wrong = moved _ (uncertain-texts (BadStep line) _ (λ f e. absurd cc) (λ t. refl) wrong)
      cause-of (OtherImage byte) wrong = moved _ (uncertain-texts (OtherImage byte) _ (λ f e. absurd cc) (λ t. refl) wrong)

      pub judged-so : (ended : Outcome) → IsJudged ended form s l i → CheckCause source log image form ended before after
      judged-so ended (inl h) = subst (λ o. CheckCause source log image form o before after) (sym h.0) (subst (λ k. AreTexts source log image k (IsCertain form)) (sym seen) (certain-texts h.1))
      judged-so ended (inr u) = subst (λ o. CheckCause source log image form o before after) (sym u.told) (cause-of u.fault u.wrong)

-- what was not read
pub unread-so : (source log image : Name) (form : CodeForm) (ended : Outcome) (before after : FilesSeen) → Unread source log image ended before after → CheckCause source log image form ended before after
unread-so source log image form ended before after (inl is) = subst (λ o. CheckCause source log image form o before after) (sym is) tt
unread-so source log image form ended before after (inr h) = subst (λ o. CheckCause source log image form o before after) (sym h.0) h.1
