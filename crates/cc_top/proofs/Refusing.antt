-- Edits that are refused, and what is answered to them.
use Rattle.std.proofs.Common.{◌≡◌, ℕ, List, Option, None, Some, Result, IfOk, IfErr, refl, sym, subst}
use Rattle.cc_source.specs.Refusal.{refusal_of}
use Rattle.cc_report.specs.declared.outcome.Outcome.{Outcome}
use Rattle.cc_report.specs.declared.outcome.Outcome.TheVariants as outcome
use Rattle.cc_report.specs.declared.refusal.Refusal.{Refusal}
use Rattle.cc_session.specs.declared.fault.EditFault.{EditFault}
use Rattle.cc_session.specs.declared.fault.EditFault.TheVariants as fault
use Rattle.cc_source.specs.declared.fault.CompileFault.{CompileFault}
use Rattle.cc_session.specs.Session.{PlainSession, IsReplaceRefused}
use Rattle.cc_script_text.specs.declared.command.Command.TheVariants.{Replace}
use Rattle.cc_top.specs.declared.answer.Answer.{Answer}
use Rattle.cc_top.specs.Answers.{held_first, IsAnswered}
use Rattle.cc_top.specs.Steps.{answer_of, answer_of_refusal}

module _ (old : PlainSession) (name text : List ℕ) where
  told : (cause : CompileFault) (new : List ℕ) (o : Option Refusal) → IsReplaceRefused (fault.Source cause new) old name text → refusal_of cause new ≡ o
      → IfOk (answer_of_refusal o) (λ a. IsAnswered (held_first old) (Replace name text) a (held_first old))
  told cause new None h is = tt
  told cause new (Some refusal) h is = (record { cause = cause; new = new; refused = h; told = is }, refl)

  answered : (e : EditFault) → IsReplaceRefused e old name text → IfOk (answer_of e) (λ a. IsAnswered (held_first old) (Replace name text) a (held_first old))
  answered fault.NoFunction h = (h, refl)
  answered (fault.Source cause new) h = told cause new (refusal_of cause new) h refl
  answered fault.OtherNames h = (h, refl)
  answered fault.NoMemory h = tt

  -- an edit that is refused is answered so, and the session is as it was
  pub refused_is_answered : (e : EditFault) (new : PlainSession) (r : Result Answer Outcome) → r ≡ answer_of e → new ≡ old → IsReplaceRefused e old name text
      → IfOk r (λ a. IsAnswered (held_first old) (Replace name text) a (held_first new))
  refused_is_answered e new r is same h =
      subst (λ (s : PlainSession). IfOk r (λ a. IsAnswered (held_first old) (Replace name text) a (held_first s))) (sym same)
      (subst (λ (x : Result Answer Outcome). IfOk x (λ a. IsAnswered (held_first old) (Replace name text) a (held_first old))) (sym is) (answered e h))

untold : (o : Option Refusal) → IfErr (answer_of_refusal o) (λ e. e ≡ outcome.NoMemory)
untold None = refl
untold (Some refusal) = tt

no_answer : (e : EditFault) → IfErr (answer_of e) (λ e. e ≡ outcome.NoMemory)
no_answer fault.NoFunction = tt
no_answer (fault.Source cause new) = untold (refusal_of cause new)
no_answer fault.OtherNames = tt
no_answer fault.NoMemory = refl

-- an edit that is not answered found no memory
pub unanswered : (e : EditFault) (r : Result Answer Outcome) → r ≡ answer_of e → IfErr r (λ e. e ≡ outcome.NoMemory)
unanswered e r is = subst (λ (x : Result Answer Outcome). IfErr x (λ e. e ≡ outcome.NoMemory)) (sym is) (no_answer e)
