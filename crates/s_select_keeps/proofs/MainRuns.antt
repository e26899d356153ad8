-- The start code calls `main`, which runs, and ends the program with its value.
use Rattle.std.proofs.Common.{◌≡◌, ℕ, ◌+◌, ◌-◌, ◌%◌, List, [], ◌++◌, map, slice_index, refl, sym, ap, subst, ◌∙◌, arith, inl, inr, lit<}
use Rattle.std.proofs.lemmas.List.{append-nil}
use Rattle.val_core.specs.declared.values.Value.{Value}
use Rattle.val_core.specs.declared.values.Value.TheVariants.{Num, At, Bad}
use Rattle.val_core.specs.Answers.{Answer, Returned, Cut, Exited, Undefined, then_on, on_number, events}
use Rattle.val_core.specs.Events.{Event, output}
use Rattle.val_core.specs.Memory.{Memory}
use Rattle.val_core.specs.Within.{Given}
use Rattle.val_core.proofs.lemmas.Answers.{added, before-is}
use Rattle.elf_file.specs.Image.{stack_size}
use Rattle.rv_isa.specs.Registers.{sp, s0, a0}
use Rattle.rv_machine.specs.Machine.{State, exit}
use Rattle.rv_machine.specs.Run.{ended, after_output}
use Rattle.rv_machine.specs.Standing.{HasText}
use Rattle.rv_machine.proofs.lemmas.RunLaws.{run_goes_on, reaches_onwards}
use Rattle.rv_machine.proofs.lemmas.Standing.{text_stays}
use Rattle.s_linear.specs.Meaning.{finished}
use Rattle.a_place.specs.Placed.{placed_calls}
use Rattle.s_select_keeps.specs.Functions.{Program, ProgramCanRun, placed_by, frame_sizes, HasBlocks, IsCalled, ComesBack, CallOutcome, FunctionsRun}
use Rattle.s_select_keeps.specs.Mains.{StartOutcome, HasStart, MainRuns}
use Rattle.s_select_keeps.specs.Relation.{Bases, Shows, ShowsMemory}
use Rattle.s_select_keeps.specs.Starts.{main_returns, Started}
use Rattle.s_select_keeps.specs.Steps.{Ends, Exceeds, Exits}
use Rattle.s_select_keeps.proofs.Outcomes.{events-before, exceeds-more}
use Rattle.s_select_keeps.proofs.Starts.{main_is_called, main_exits}

module _ (functions_run : FunctionsRun) (program : Program) (can : ProgramCanRun program) (main stack e bound : ℕ) (blocks : Memory) (bases : Bases)
    (input : List ℕ) (s : State)
    (start : HasStart program main stack e blocks bases input s) where
  started : Started program.text stack (slice_index program.addresses.functions main) s
  started =
      let entry = can.entries main in
      main_is_called program.text s stack (slice_index program.addresses.functions main) e start.has_text start.pc start.there start.low start.after entry.0 entry.1

  is-called : IsCalled program main [] blocks input bases main_returns started.state
  is-called = record {
    pc = started.pc;
    return = started.return;
    back_low = lit< tt;
    back_even = refl;
    values = λ k below. tt;
    stack = record {
      has_text = subst (HasText program.text) (sym started.mem) start.has_text;
      aligned = (let top = started.top in let even = start.aligned in omega (arith, top, even));
      base = (let top = started.top in let base = started.base in omega (arith, top, base));
      low = (let top = started.top in let low = start.low in omega (arith, top, low));
      writable = λ a from to. (let top = started.top in let base = started.base in start.writable a (omega (arith, from, base)) (omega (arith, to, top)));
    };
    readable = λ a from to. (let top = started.top in let base = started.base in start.readable a (omega (arith, from, base)) (omega (arith, to, top)));
    memory = subst (ShowsMemory program.text.flags bases blocks) (sym started.mem) start.memory;
    has =
        subst (λ n. HasBlocks program bases blocks n (started.state.regs sp)) (sym started.base)
        (subst (λ n. HasBlocks program bases blocks stack n) (sym started.top) start.blocks_are);
    bytes = start.bytes;
  }

  -- all that `main` did, and then its end
  ends : (w : ℕ) (g : Given Value) (o : List Event) → g.value ≡ Num w → ComesBack program blocks bases main_returns g o started.state input
      → Ends program.text.flags (o ++ []) (w % 256) s input
  ends w g o is h = record {
    count = started.steps.count + (h.count + last.count);
    rest = g.input;
    runs =
        run_goes_on program.text.flags started.steps.count (h.count + last.count) s started.state input [] input (started.steps.reaches input)
        ∙ ap (after_output []) (run_goes_on program.text.flags h.count last.count started.state h.state input (output o) g.input h.reaches)
        ∙ ap (λ r. after_output [] (after_output (output o) r)) (last.runs g.input)
        ∙ ap (λ out. record { hart = ended (exit (w % 256)); output = out; rest = g.input }) (append-nil (output o) ∙ ap output (sym (append-nil o)));
  }
    where
      value : h.state.regs a0 ≡ w
      value = let shown : Shows h.bases' (Num w) (h.state.regs a0) = subst (λ v. Shows h.bases' v (h.state.regs a0)) is h.value in shown.0

      last : Exits program.text.flags h.state (w % 256)
      last =
          main_exits program.text h.state stack (slice_index program.addresses.functions main) e w
          (text_stays program.text h.count started.state h.state input (output o) g.input h.reaches (subst (HasText program.text) (sym started.mem) start.has_text)) h.pc
          start.there value

  returned : (g : Given Value) (o : List Event) (v : Value) → g.value ≡ v → ComesBack program blocks bases main_returns g o started.state input
      → StartOutcome program bound (then_on (Returned g o) finished) s input
  returned g o (Num w) is h =
      subst (λ a. StartOutcome program bound a s input) (sym (before-is o (finished g)))
      (subst (λ v. StartOutcome program bound (added o (on_number v (λ n. Exited [] (n % 256)))) s input) (sym is) (inr (ends w g o is h)))
  returned g o (At b i) is h =
      subst (λ a. StartOutcome program bound a s input) (sym (before-is o (finished g)))
      (subst (λ v. StartOutcome program bound (added o (on_number v (λ n. Exited [] (n % 256)))) s input) (sym is) (inr tt))
  returned g o Bad is h =
      subst (λ a. StartOutcome program bound a s input) (sym (before-is o (finished g)))
      (subst (λ v. StartOutcome program bound (added o (on_number v (λ n. Exited [] (n % 256)))) s input) (sym is) (inr tt))

  exceeded : (es : List Event) → Exceeds program.text.flags (frame_sizes program) (started.state.regs sp - started.state.regs s0) es started.state input
      → Exceeds program.text.flags (frame_sizes program) stack_size es s input
  exceeded es h = record {
    count = started.steps.count + h.count;
    written = h.written;
    rest = h.rest;
    runs =
        run_goes_on program.text.flags started.steps.count h.count s started.state input [] input (started.steps.reaches input) ∙ ap (after_output []) h.runs;
    begins = h.begins;
    more = (let more = h.more in let top = started.top in let base = started.base in omega (arith, more, top, base));
  }

  finish : (a : Answer (Given Value)) → CallOutcome program bound blocks bases main_returns a started.state input
      → StartOutcome program bound (then_on a finished) s input
  finish (Returned g o) (inl h) =
      inl
      (subst (λ es. Exceeds program.text.flags (frame_sizes program) stack_size es s input) (sym (events-before o (finished g)))
      (exceeds-more program.text.flags (frame_sizes program) stack_size o (events (finished g)) s input (exceeded o h)))
  finish (Cut o) (inl h) = inl (exceeded o h)
  finish (Exited o status) (inl h) = inl (exceeded o h)
  finish (Undefined o) (inl h) = inl (exceeded o h)
  finish (Returned g o) (inr h) = returned g o g.value refl h
  finish (Cut o) (inr h) =
      inr
      (record {
        state = h.state;
        count = started.steps.count + h.count;
        rest = h.rest;
        enough = (let enough = h.enough in omega (arith, enough));
        reaches = reaches_onwards program.text.flags started.steps.count h.count s started.state h.state input [] input (output o) h.rest
            (started.steps.reaches input) h.reaches;
      })
  finish (Exited o status) (inr h) =
      inr
      (record {
        count = started.steps.count + h.count;
        rest = h.rest;
        runs =
            run_goes_on program.text.flags started.steps.count h.count s started.state input [] input (started.steps.reaches input) ∙ ap (after_output []) h.runs;
      })
  finish (Undefined o) (inr h) = inr tt

pub main_runs : FunctionsRun → MainRuns
main_runs functions_run program main stack e bound blocks bases input s can start =
    finish functions_run program can main stack e bound blocks bases input s start (placed_calls (map (placed_by program) program.functions) program.global bound main [] blocks input)
    (functions_run program can bound main [] blocks input bases main_returns (started functions_run program can main stack e bound blocks bases input s start).state
    (is-called functions_run program can main stack e bound blocks bases input s start))
