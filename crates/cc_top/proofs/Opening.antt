-- A session that is opened, and what a script on it comes to.
use Rattle.std.proofs.Common.{◌≡◌, ℕ, List, take, Option, Result, Ok, Err, IfOk, ap, subst, ◌∙◌, inl, inr}
use Rattle.std.specs.Option.{ForSome}
use Rattle.r_rule.specs.declared.steps.Rule.{Rule}
use Rattle.s_linear.specs.declared.frame.CodeForm.{CodeForm}
use Rattle.cc_io.specs.Faults.{Increased}
use Rattle.cc_io.specs.Files.{Name, FileSet, content}
use Rattle.cc_io.specs.Outside.{Outside, FilesSeen, ReadFails, WriteFails}
use Rattle.cc_source.specs.Refused.{CompileFails}
use Rattle.cc_source.proofs.lemmas.Sources.{whole_text}
use Rattle.cc_report.specs.declared.outcome.Outcome.{Outcome}
use Rattle.cc_report.specs.declared.outcome.Outcome.TheVariants as outcome
use Rattle.cc_session.specs.Session.{PlainSession, IsAcceptedSource}
use Rattle.cc_top.specs.ScriptEnds.{Leaves, with_image, ScriptEnds}
use Rattle.cc_top.specs.SessionEnds.{opened, IsUntouched, Opens, SessionEnds}
use Rattle.cc_top.specs.Steps.{IsOpened}

-- ---- the text that was read

opened_of_read : (recipe : List Rule) (form : CodeForm) (source : Name) (known : Option FileSet) (read : List ℕ) (session : PlainSession)
    → ForSome known (λ files. read ≡ take 1048577 (content source files)) → IsAcceptedSource read → session ≡ opened read recipe form → IsOpened recipe form source known session
opened_of_read recipe form source known read session same accepted is = record {
  text = read;
  read = λ files at. whole_text (content source files) read accepted.0 (same files at) accepted.1;
  accepted = accepted;
  is = is;
}

pub opened_on_read : (recipe : List Rule) (form : CodeForm) (source : Name) (known : Option FileSet) (read : List ℕ) (r : Result PlainSession Outcome)
    → ForSome known (λ files. read ≡ take 1048577 (content source files)) → IfOk r (λ s. s ≡ opened read recipe form) → IfOk r (λ s. IsAcceptedSource read) → IfOk r (IsOpened recipe form source known)
opened_on_read recipe form source known read (Ok session) same is accepted = opened_of_read recipe form source known read session same accepted is
opened_on_read recipe form source known read (Err e) same is accepted = tt

-- ---- a script on files of which no more is changed than counts of what was not opened or read

module _ (session : PlainSession) (image : Name) (before after : Outside) (files : FilesSeen)
    (known : files.known ≡ before.files.known) (created : files.create_faults ≡ before.files.create_faults) (written : files.write_faults ≡ before.files.write_faults) where
  abbrev mid : Outside
  mid = record before { files = files }

  leaves_since : (out : Option (List ℕ)) (text : List ℕ) → Leaves image out text mid after → Leaves image out text before after
  leaves_since out text h = (h.0 ∙ ap (with_image image out) known, h.1)

  fails_since : WriteFails image files after.files → WriteFails image before.files after.files
  fails_since (inl more) = inl (subst (λ (c : Name → ℕ). Increased (c image) (after.files.create_faults image)) created more)
  fails_since (inr more) = inr (subst (λ (w : ℕ). Increased w after.files.write_faults) written more)

  pub since : (e : Outcome) → ScriptEnds session image e mid after → ScriptEnds session image e before after
  since outcome.Done h = record { has = h.has; ended = h.ended; leaves = leaves_since _ _ h.leaves }
  since (outcome.Script number) h = record { has = h.has; counted = h.counted; broken = h.broken; leaves = leaves_since _ _ h.leaves }
  since outcome.ReadFault h = record { has = h.has; fails = h.fails; lacks = h.lacks; leaves = leaves_since _ _ h.leaves }
  since outcome.NoMemory h = record { has = h.has; leaves = leaves_since _ _ h.leaves }
  since outcome.WriteFault (inl h) = inl (record {
    has = h.has;
    fails = fails_since h.fails;
    next = h.next;
    bytes = h.bytes;
    jobs = h.jobs;
    made = h.made;
    out = h.out;
    out_is = h.out_is;
    leaves = leaves_since _ _ h.leaves;
  })
  since outcome.WriteFault (inr h) = inr (record {
    has = h.has;
    fails = h.fails;
    command = h.command;
    next = h.next;
    answer = h.answer;
    held = h.held;
    answered = h.answered;
    count = h.count;
    leaves = leaves_since _ _ h.leaves;
  })
  since _ h = absurd h

-- ---- the session ends

module _ (recipe : List Rule) (form : CodeForm) (source image : Name) (before after : Outside) where
  opens : (session : PlainSession) → IsOpened recipe form source before.files.known session → (P : PlainSession → Type 0) → P session → Opens recipe form source before P
  opens session o P h = record { text = o.text; read = o.read; accepted = o.accepted; so = subst P o.is h }

  pub ends_opened : (session : PlainSession) (e : Outcome) → IsOpened recipe form source before.files.known session → ScriptEnds session image e before after →
      SessionEnds recipe form source image e before after
  ends_opened session outcome.Done o h = opens session o (λ s. ScriptEnds s image outcome.Done before after) h
  ends_opened session (outcome.Script number) o h = opens session o (λ s. ScriptEnds s image (outcome.Script number) before after) h
  ends_opened session outcome.ReadFault o h = inr (opens session o (λ s. ScriptEnds s image outcome.ReadFault before after) h)
  ends_opened session outcome.WriteFault o h = opens session o (λ s. ScriptEnds s image outcome.WriteFault before after) h
  ends_opened session outcome.NoMemory o h = inr (opens session o (λ s. ScriptEnds s image outcome.NoMemory before after) h)
  ends_opened session _ o h = absurd h

  pub ends_unopened : (e : Outcome) → CompileFails source e before.files.known (ReadFails source before.files after.files) → IsUntouched before after → SessionEnds recipe form source image e before after
  ends_unopened (outcome.Refused refusal) h same = (h, same)
  ends_unopened outcome.ReadFault h same = inl (h, same)
  ends_unopened outcome.NoMemory h same = inl same
  ends_unopened _ h same = absurd h
