-- A command that has what it asks for, and none of whose calls failed, is done, from how it ends.
use Rattle.std.proofs.Common.{◌≡◌, ◌⊎◌, ℕ, List, Option, Some, None, Ok, Err, refl, sym, ap, ◌∙◌, inl, inr, subst}
use Rattle.std.specs.Option.{ForSome}
use Rattle.s_linear.specs.declared.frame.CodeForm.{CodeForm}
use Rattle.c_typed.specs.Typed.{ProgramTree}
use Rattle.cc_command.specs.Command.{Command, accept, build, run, generate, check, session, interpret}
use Rattle.cc_source.specs.Accepted.{Accepts}
use Rattle.cc_io.specs.Faults.{Increased}
use Rattle.cc_io.specs.Files.{Name, content}
use Rattle.cc_watch.specs.Rows.{PlainRow}
use Rattle.elf_file.specs.Loading.{Executable, loaded}
use Rattle.elf_file.specs.declared.fault.ElfFault.{ElfFault}
use Rattle.cc_top.specs.AcceptEnds.{AcceptCause}
use Rattle.cc_top.specs.BuildEnds.{BuildEnds}
use Rattle.cc_io.specs.Outside.{IfKnown, ReadFails, WriteFails, FilesSeen, Outside, StreamSeen}
use Rattle.log_check.specs.Judgement.{Certifies}
use Rattle.cc_top.specs.CompileLaws.{LogsCertifyImages}
use Rattle.cc_top.specs.CheckEnds.{CertifiedIsTold, CheckEnds}
use Rattle.cc_top.specs.InterpretEnds.{InterpretCause}
use Rattle.cc_top.specs.SessionEnds.{SessionEnds}
use Rattle.cc_top.specs.Completes.{CheckCompletes, Completes, IsDone, Works}
use Rattle.cc_top.specs.Ends.{Ends}
use Rattle.cc_top.specs.GenerateEnds.{GenerateEnds}
use Rattle.cc_report.specs.Outcome.{status_of}
use Rattle.cc_source.specs.Refused.{AcceptedIsNotRefused}
use Rattle.cc_report.specs.Report.{IsReported}
use Rattle.cc_top.specs.RunEnds.{RunEnds}
use Rattle.cc_report.specs.declared.outcome.Outcome.{Outcome}
use Rattle.cc_report.specs.declared.outcome.Outcome.TheVariants.{Done, ReadFault, WriteFault, Refused, BadImage, NoMemory, Exit, Stack, Budget, Stuck, Script, Undefined, Cut}

-- the status is that of the outcome, where the report was written
pub status-is : (ended : Outcome) (said : List ℕ) (status : ℕ) (held held' : Option (List ℕ)) (faults faults' : ℕ) → IsReported ended said status held held' faults faults'
    → (Increased faults faults' → ⊥)
    → status ≡ status_of ended
status-is ended said status held held' faults faults' (inl own) works = own.0
status-is ended said status held held' faults faults' (inr cut) works = absurd (works cut.1)

-- ---- one outcome after the other

module _ (law : AcceptedIsNotRefused) where
  module _ {W : Type 0} (named : W → List ℕ) (stands_for : W → List PlainRow → Type 0) (text_of : W → List PlainRow → List ℕ) where
    build-done : (recipe : _) (form : CodeForm) (name : Option (List ℕ)) (source image : Name) (ended : Outcome) (said : List ℕ) (before after : FilesSeen) (ws ws' : List W) →
        BuildEnds named stands_for text_of recipe form name source image ended said before after ws ws' → (ReadFails source before after → ⊥) → (WriteFails image before after → ⊥) →
        IfKnown source before (λ text. (p : ProgramTree) → Accepts text p → IsDone (status_of ended))
    build-done recipe form name source image Done said before after ws ws' h reads writes = λ files is p a. inl refl
    build-done recipe form name source image NoMemory said before after ws ws' h reads writes = λ files is p a. inr refl
    build-done recipe form name source image ReadFault said before after ws ws' h reads writes = absurd (reads h.0)
    build-done recipe form name source image WriteFault said before after ws ws' h reads writes = absurd (writes h.3.0)
    build-done recipe form name source image (Refused refusal) said before after ws ws' h reads writes = λ files is p a. absurd (law (content source files) p refusal a (h.0 files is))
    build-done recipe form name source image _ said before after ws ws' h reads writes = absurd h

  accept-done : (ended : Outcome) (input input' output output' : StreamSeen) → AcceptCause ended input input' output output' → Works input input' → Works output output'
      → ForSome input.bytes (λ text. (p : ProgramTree) → Accepts text p → IsDone (status_of ended))
  accept-done Done input input' output output' h reads writes = λ text is p a. inl refl
  accept-done NoMemory input input' output output' h reads writes = λ text is p a. inr refl
  accept-done ReadFault input input' output output' h reads writes = absurd (reads h.0)
  accept-done WriteFault input input' output output' h reads writes = absurd (writes h.2.0)
  accept-done (Refused refusal) input input' output output' h reads writes = λ text is p a. absurd (law text p refusal a (h.0 text is))
  accept-done _ input input' output output' h reads writes = absurd h

  session-done : (recipe : _) (form : CodeForm) (source image : Name) (ended : Outcome) (before after : Outside) → SessionEnds recipe form source image ended before after
      → (ReadFails source before.files after.files → ⊥)
      → (WriteFails image before.files after.files → ⊥)
      → Works before.input after.input
      → Works before.output after.output
      → IfKnown source before.files (λ text. (p : ProgramTree) → Accepts text p → IsDone (status_of ended) ⊎ (status_of ended ≡ 9))
  session-done recipe form source image Done before after h reads writes input output = λ files is p a. inl (inl refl)
  session-done recipe form source image NoMemory before after h reads writes input output = λ files is p a. inl (inr refl)
  session-done recipe form source image (Script number) before after h reads writes input output = λ files is p a. inr refl
  session-done recipe form source image (Refused refusal) before after h reads writes input output = λ files is p a. absurd (law (content source files) p refusal a (h.0 files is))
  session-done recipe form source image ReadFault before after h reads writes input output = elim h [
    | inl unread ↦ absurd (reads unread.0)
    | inr broken ↦ absurd (input broken.so.fails)
  ]
  session-done recipe form source image WriteFault before after h reads writes input output = elim h.so [
    | inl unsaved ↦ absurd (writes unsaved.fails)
    | inr unsaid ↦ absurd (output unsaid.fails)
  ]
  session-done recipe form source image _ before after h reads writes input output = absurd h

  interpret-done : (source : Name) (bound : ℕ) (ended : Outcome) (before after : Outside) → InterpretCause source bound ended before after
      → (ReadFails source before.files after.files → ⊥)
      → Works before.input after.input
      → Works before.output after.output
      → IfKnown source before.files (λ text. (p : ProgramTree) → Accepts text p → IsDone (status_of ended) ⊎ (status_of ended ≡ 7))
  interpret-done source bound (Exit status) before after h reads input output = λ files is p a. inl (inl refl)
  interpret-done source bound NoMemory before after h reads input output = λ files is p a. inl (inr refl)
  interpret-done source bound Cut before after h reads input output = λ files is p a. inr refl
  interpret-done source bound Undefined before after h reads input output = λ files is p a. inr refl
  interpret-done source bound (Refused refusal) before after h reads input output = λ files is p a. absurd (law (content source files) p refusal a (h.0 files is))
  interpret-done source bound ReadFault before after h reads input output = elim h [
    | inl unread ↦ absurd (reads unread.0)
    | inr ran ↦ absurd (input ran.holds.0)
  ]
  interpret-done source bound WriteFault before after h reads input output = absurd (output h.holds.0)
  interpret-done source bound _ before after h reads input output = absurd h

generate-done : (start functions : ℕ) (out : Name) (ended : Outcome) (before after : FilesSeen) → GenerateEnds start functions out ended before after → (WriteFails out before after → ⊥)
    → IsDone (status_of ended)
generate-done start functions out Done before after h writes = inl refl
generate-done start functions out NoMemory before after h writes = inr refl
generate-done start functions out WriteFault before after h writes = absurd (writes h.0)
generate-done start functions out _ before after h writes = absurd h

not-loaded : (bytes : List ℕ) (e : Executable) (fault : ElfFault) → loaded bytes ≡ Ok e → loaded bytes ≡ Err fault → ⊥
not-loaded bytes e fault is other = clash (sym is ∙ other) where
  clash : Ok e ≡ Err fault → ⊥
  clash q = cc

run-done : (image : Name) (steps : ℕ) (ended : Outcome) (before after : Outside) → RunEnds image steps ended before after → (ReadFails image before.files after.files → ⊥)
    → Works before.input after.input
    → Works before.output after.output → ForSome before.files.known (λ files. (e : Executable) → loaded (content image files) ≡ Ok e → IsDone (status_of ended) ⊎ (status_of ended ≡ 7))
run-done image steps (Exit status) before after h reads input output = λ files is e loads. inl (inl refl)
run-done image steps NoMemory before after h reads input output = λ files is e loads. inl (inr refl)
run-done image steps Stack before after h reads input output = λ files is e loads. inr refl
run-done image steps Budget before after h reads input output = λ files is e loads. inr refl
run-done image steps (Stuck pc why) before after h reads input output = λ files is e loads. inr refl
run-done image steps (BadImage fault) before after h reads input output = λ files is e loads. absurd (not-loaded (content image files) e fault loads (h.run files is))
run-done image steps ReadFault before after h reads input output = elim h.cause [
  | inl unread ↦ absurd (reads unread.0)
  | inr failed ↦ absurd (input failed)
]
run-done image steps WriteFault before after h reads input output = absurd (output h.cause)
run-done image steps _ before after h reads input output = absurd h.cause

certified-done : CertifiedIsTold → (source log image : Name) (form : CodeForm) (ended : Outcome) (before after : FilesSeen) → CheckEnds source log image form ended before after
    → (ReadFails source before after → ⊥) → (ReadFails log before after → ⊥) → (ReadFails image before after → ⊥)
    → ForSome before.known (λ files. Certifies (content source files) form (content log files) (content image files) → IsDone (status_of ended))
certified-done told source log image form ended before after ends a b d files is certifies =
    elim (told source log image form ended before after ends a b d files is certifies) [
      | inl certified ↦ inl (ap status_of certified)
      | inr memory ↦ inr (ap status_of memory)
    ]

check-done : CertifiedIsTold → LogsCertifyImages → (source log image : Name) (form : CodeForm) (ended : Outcome) (before after : FilesSeen) → CheckEnds source log image form ended before after
    → CheckCompletes source log image form (status_of ended) before after
check-done told certify source log image form ended before after ends = record {
  certified = certified-done told source log image form ended before after ends;
  built = λ a b d files is bytes p accepted recipe short rows compiled log_is.
      certified-done told source log image form ended before after ends a b d files is
      (subst (λ l. Certifies (content source files) form l (content image files)) (sym log_is)
      (certify (content source files) bytes p accepted recipe short form (content image files) rows compiled));
}

-- ---- the command

module _ (law : AcceptedIsNotRefused) (told : CertifiedIsTold) (certify : LogsCertifyImages) {W : Type 0} (named : W → List ℕ) (stands_for : W → List PlainRow → Type 0) (text_of : W → List PlainRow → List ℕ) where
  ended-completes : (c : Option Command) (ended : Outcome) (said : List ℕ) (before after : Outside) (ws ws' : List W) → Ends named stands_for text_of c ended said before after ws ws'
      → Completes named c (status_of ended) before after ws
  ended-completes None ended said before after ws ws' h = tt
  ended-completes (Some accept) ended said before after ws ws' h = accept-done law ended before.input after.input before.output after.output h.0.cause
  ended-completes (Some (build source image list workers name form)) ended said before after ws ws' h = λ recipe is some.
      build-done law named stands_for text_of recipe form name source image ended said before.files after.files ws ws' (h.0.build recipe is some)
  ended-completes (Some (generate start functions out)) ended said before after ws ws' h = generate-done start functions out ended before.files after.files h.0
  ended-completes (Some (run image steps)) ended said before after ws ws' h = run-done image steps ended before after h.0
  ended-completes (Some (check source log image form)) ended said before after ws ws' h = check-done told certify source log image form ended before.files after.files h.0
  ended-completes (Some (session source image list workers form)) ended said before after ws ws' h = λ recipe is.
      session-done law recipe form source image ended before after (h.0.session recipe is)
  ended-completes (Some (interpret source bound)) ended said before after ws ws' h = interpret-done law source bound ended before after h.0.cause

  pub completes : (c : Option Command) (ended : Outcome) (said : List ℕ) (before after : Outside) (ws ws' : List W) → Ends named stands_for text_of c ended said before after ws ws'
      → (status : ℕ) (held held' : Option (List ℕ)) (faults faults' : ℕ) → IsReported ended said status held held' faults faults' → (Increased faults faults' → ⊥)
      → Completes named c status before after ws
  completes c ended said before after ws ws' h status held held' faults faults' reported works =
      subst (λ n. Completes named c n before after ws) (sym (status-is ended said status held held' faults faults' reported works)) (ended-completes c ended said before after ws ws' h)
