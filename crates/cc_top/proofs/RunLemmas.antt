-- What the machine and the file's reader say, in the terms of the command `run`.
use Rattle.std.proofs.Common.{◌≡◌, ◌⊎◌, ℕ, ◌<◌, ◌≤◌, ◌+◌, List, Ok, Err, length, take, refl, ap, sym, ◌∙◌, subst, inl, inr, arith}
use Rattle.std.specs.Option.{ForSome}
use Rattle.std.proofs.lemmas.Bool.{cases_lt, lt-ltb}
use Rattle.std.proofs.lemmas.List.{take_all, length-take-le}
use Rattle.base.specs.Limits.{most_image_bytes}
use Rattle.cc_io.specs.Files.{Name, content}
use Rattle.cc_io.specs.Source.{prepend}
use Rattle.elf_file.specs.Loading.{Executable, loaded, fault_of}
use Rattle.elf_file.specs.declared.fault.ElfFault.{ElfFault}
use Rattle.elf_file.specs.declared.fault.ElfFault.TheVariants.{LongFile}
use Rattle.rv_machine.specs.Memory.{flags_of}
use Rattle.rv_machine.specs.Run.{Hart, RunResult, running, start, run, executed, executed_if_loaded, image_at}
use Rattle.rv_machine.specs.Runs.{IsLeft, IsSomeRun, HasCome, IsWhole}
use Rattle.rv_machine.specs.Steps.{Streams, HasIncreased, stop_of}
use Rattle.rv_machine.specs.declared.stop.Stop.{Stop}
use Rattle.rv_machine.specs.declared.stop.Stop.TheVariants as stop
use Rattle.cc_io.specs.Outside.{Unchanged, Outside, KeepsStreams}
use Rattle.cc_top.specs.RunEnds.{RunEnds, RunCause, RunOf, Ran, RanFewer, HasRun}
use Rattle.cc_top.specs.StopOutcomes.{outcome_of}
use Rattle.cc_report.specs.declared.outcome.Outcome.{Outcome}
use Rattle.cc_report.specs.declared.outcome.Outcome.TheVariants.{BadImage, NoMemory}

-- ---- a file that is longer than the limit is refused, so the limit and one more byte decide

too_long : (bytes : List ℕ) → most_image_bytes < length bytes → loaded bytes ≡ Err LongFile
unfolding fault_of
too_long bytes long = rw (lt-ltb most_image_bytes (length bytes) long) refl

pub loaded-take : (bytes : List ℕ) → loaded (take (most_image_bytes + 1) bytes) ≡ loaded bytes
loaded-take bytes =
    elim (cases_lt most_image_bytes (length bytes)) [
      | inl long ↦
          let whole : length (take (most_image_bytes + 1) bytes) ≡ most_image_bytes + 1 = length-take-le (most_image_bytes + 1) bytes (omega arith) in
          too_long (take (most_image_bytes + 1) bytes) (omega arith) ∙ sym (too_long bytes long)
      | inr short ↦ ap loaded (take_all (most_image_bytes + 1) bytes (omega arith))
    ]

-- ---- a run of the machine

abbrev pub streams_of : Outside → Streams
streams_of o = record { held = o.output.bytes; left = o.input.bytes }

image_at_is : (bytes : List ℕ) (e : Executable) → loaded bytes ≡ Ok e → (n : ℕ) (input : List ℕ)
    → image_at n bytes input ≡ Ok (run (flags_of e.segments) n (running (start e)) input)
unfolding executed
image_at_is bytes e is n input = ap (λ l. executed_if_loaded n l input) is

abbrev IsTaken : (before after : Outside) → Type 0
IsTaken before after = (taken : List ℕ) × (before.input.bytes ≡ prepend taken after.input.bytes)

has_run : (o : RunResult) (h : Hart) (before after : Outside) → IsTaken before after → HasCome o h (streams_of before) (streams_of after) → HasRun o before after
has_run o h before after taken come = record { output = come.output; taken = taken.0; rest = taken.1; unread = come.rest }

-- a run that was not cut off
whole : (steps : ℕ) (bytes : List ℕ) (e : Executable) → loaded bytes ≡ Ok e → (before after : Outside) (new : Hart) (s : Stop) (input : List ℕ)
    → IsTaken before after → IsLeft before.input.bytes input
    → IsWhole (flags_of e.segments) steps input (running (start e)) new (streams_of before) (streams_of after) s
    → Ran steps bytes s before after
whole steps bytes e is before after new s input taken left (come, same) =
    let o = run (flags_of e.segments) steps (running (start e)) input in
    (input, left, (o, image_at_is bytes e is steps input, same ∙ ap stop_of come.hart, has_run o new before after taken come))

cut_off : (steps : ℕ) (bytes : List ℕ) (e : Executable) → loaded bytes ≡ Ok e → (before after : Outside) (new : Hart) (input : List ℕ)
    → IsTaken before after → IsLeft before.input.bytes input → (m : ℕ) → m < steps
    → HasCome (run (flags_of e.segments) m (running (start e)) input) new (streams_of before) (streams_of after)
    → RanFewer steps bytes before after
cut_off steps bytes e is before after new input taken left m fewer come =
    let o = run (flags_of e.segments) m (running (start e)) input in
    (input, left, (m, fewer, (o, image_at_is bytes e is m input, has_run o new before after taken come)))

run_of : (steps : ℕ) (bytes : List ℕ) (e : Executable) → loaded bytes ≡ Ok e → (before after : Outside) (new : Hart) (s : Stop)
    → IsTaken before after → IsSomeRun (flags_of e.segments) steps (running (start e)) new (streams_of before) (streams_of after) s
    → RunOf steps (outcome_of s) bytes before after
run_of steps bytes e is before after new (stop.Exit status) taken r = whole steps bytes e is before after new (stop.Exit status) r.0 taken r.1 r.2
run_of steps bytes e is before after new stop.Stack taken r = whole steps bytes e is before after new stop.Stack r.0 taken r.1 r.2
run_of steps bytes e is before after new stop.Budget taken r = whole steps bytes e is before after new stop.Budget r.0 taken r.1 r.2
run_of steps bytes e is before after new (stop.Stuck pc why) taken r = whole steps bytes e is before after new (stop.Stuck pc why) r.0 taken r.1 r.2
run_of steps bytes e is before after new stop.ReadFault taken r = inr (cut_off steps bytes e is before after new r.0 taken r.1 r.2.0 r.2.1 r.2.2)
run_of steps bytes e is before after new stop.WriteFault taken r = cut_off steps bytes e is before after new r.0 taken r.1 r.2.0 r.2.1 r.2.2

run_cause : (image : Name) (s : Stop) (before after : Outside) → HasIncreased s before.input.faults after.input.faults before.output.faults after.output.faults
    → RunCause image (outcome_of s) before after
run_cause image (stop.Exit status) before after increased = tt
run_cause image stop.Stack before after increased = tt
run_cause image stop.Budget before after increased = tt
run_cause image (stop.Stuck pc why) before after increased = tt
run_cause image stop.ReadFault before after increased = inr increased
run_cause image stop.WriteFault before after increased = increased

-- a count that increased has increased at any later moment too
pub increased-later : (s : Stop) (reads reads' writes writes' writes'' : ℕ) → HasIncreased s reads reads' writes writes' → writes' ≤ writes'' → HasIncreased s reads reads' writes writes''
increased-later (stop.Exit status) reads reads' writes writes' writes'' h later = h
increased-later stop.Stack reads reads' writes writes' writes'' h later = h
increased-later stop.Budget reads reads' writes writes' writes'' h later = h
increased-later (stop.Stuck pc why) reads reads' writes writes' writes'' h later = h
increased-later stop.ReadFault reads reads' writes writes' writes'' h later = h
increased-later stop.WriteFault reads reads' writes writes' writes'' h later = omega (arith, h, later)

-- the whole command, where the machine ran
pub run_ends : (image : Name) (steps : ℕ) (before after : Outside) (outcome : Outcome) (s : Stop) (flags : ℕ → ℕ) (old new : Hart) (read : List ℕ)
    → outcome ≡ outcome_of s → Unchanged before.files after.files
    → ForSome before.files.known (λ files. read ≡ take (most_image_bytes + 1) (content image files))
    → (e : Executable) → loaded read ≡ Ok e → old ≡ running (start e) → flags ≡ flags_of e.segments
    → IsSomeRun flags steps old new (streams_of before) (streams_of after) s → IsTaken before after
    → HasIncreased s before.input.faults after.input.faults before.output.faults after.output.faults
    → RunEnds image steps outcome before after
run_ends image steps before after outcome s flags old new read ended keeps bytes e is at allows r taken increased =
    let r' : IsSomeRun (flags_of e.segments) steps (running (start e)) new (streams_of before) (streams_of after) s =
    subst (λ f. IsSomeRun f steps (running (start e)) new (streams_of before) (streams_of after) s) allows
    (subst (λ h. IsSomeRun flags steps h new (streams_of before) (streams_of after) s) at r) in
    subst (λ o. RunEnds image steps o before after) (sym ended) (record {
      cause = run_cause image s before after increased;
      files = keeps;
      run = λ files there.
          let same : loaded (content image files) ≡ Ok e = sym (loaded-take (content image files)) ∙ ap loaded (sym (bytes files there)) ∙ is in
          run_of steps (content image files) e same before after new s taken r';
    })

-- the whole command, where there was no machine to run
pub run_refused : (image : Name) (steps : ℕ) (before after : Outside) (outcome : Outcome) (read : List ℕ)
    → Unchanged before.files after.files → KeepsStreams before after
    → ForSome before.files.known (λ files. read ≡ take (most_image_bytes + 1) (content image files))
    → (outcome ≡ NoMemory) ⊎ ((fault : ElfFault) × (outcome ≡ BadImage fault) × (loaded read ≡ Err fault))
    → RunEnds image steps outcome before after
run_refused image steps before after outcome read keeps streams bytes why = elim why [
  | inl none ↦ subst (λ o. RunEnds image steps o before after) (sym none) (record { cause = streams; files = keeps; run = λ files known. tt })
  | inr bad ↦ subst (λ o. RunEnds image steps o before after) (sym bad.1) (record {
    cause = streams;
    files = keeps;
    run = λ files known. sym (loaded-take (content image files)) ∙ ap loaded (sym (bytes files known)) ∙ bad.2;
  })
]
