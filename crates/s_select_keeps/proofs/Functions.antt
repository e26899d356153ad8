-- Functions run: a call takes its frame or ends the run with the status of the stack, puts its parameters, does its body and returns; so at
-- every bound.
use Rattle.std.proofs.Common.{◌≡◌, ◌≢◌, ◌⊎◌, ℕ, zero, suc, ◌+◌, ◌-◌, ◌*◌, ◌^◌, ◌<◌, ◌≤◌, List, [], ◌∷◌, ◌++◌, map, length, slice_get, slice_index, Option, Some, None, option_map, refl, sym, ap, subst, ◌∙◌, arith, inl, inr}
use Rattle.std.proofs.lemmas.Bool.{cases_lt}
use Rattle.std.proofs.lemmas.Option.{slice_get-map, get_or_from_slice_get}
use Rattle.std.proofs.lemmas.List.{append-nil}
use Rattle.val_core.specs.declared.values.Value.{Value}
use Rattle.val_core.specs.Answers.{Answer, Returned, Cut, Exited, Undefined, then_on, active, events}
use Rattle.val_core.specs.Events.{Event, output, called, IsPrefixOf}
use Rattle.val_core.specs.Memory.{Memory, closed}
use Rattle.val_core.specs.MemoryLaws.{StoreKeepsBlocks, ClearKeepsBlocks, NewBlocksKeepLoads, ClosedBlocksKeepLoads}
use Rattle.val_core.specs.Within.{Given}
use Rattle.val_core.proofs.lemmas.Answers.{before-is, events-active}
use Rattle.val_core.proofs.lemmas.Events.{called_keeps_output, called_deepens}
use Rattle.g_graph.specs.Plain.{PlainObject}
use Rattle.rv_isa.specs.Registers.{sp, s0, a0}
use Rattle.rv_machine.specs.Laws.{Reaches}
use Rattle.rv_machine.specs.Machine.{State, exit}
use Rattle.rv_machine.specs.Run.{Hart, RunResult, run, running, ended, standing}
use Rattle.rv_machine.specs.Standing.{Text, CodeStands}
use Rattle.rv_machine.proofs.lemmas.Standing.{code_is_cut}
use Rattle.rv_machine.proofs.lemmas.RunLaws.{run-zero, run_goes_on, reaches_onwards}
use Rattle.s_linear.specs.Frame.{PlainPlaces, is_lost, saved_of, words_of, frame_size}
use Rattle.s_linear.specs.Linear.{LinearFunction}
use Rattle.s_linear.specs.Lines.{enter, leave, code_lines}
use Rattle.val_core.specs.Numbers.{numbers_from}
use Rattle.s_linear.specs.Meaning as linear
use Rattle.s_linear.specs.Meaning.{Call, code_run, first_names, no_names}
use Rattle.a_place.specs.Placed.{placed_code, placed_calls, placed_entered, put_params}
use Rattle.s_select.specs.Operands.{get}
use Rattle.s_select.specs.Templates as select
use Rattle.s_select.specs.Templates.{place_of, take_frame, give_frame, line_items}
use Rattle.s_select_keeps.specs.Codes.{LinesStand}
use Rattle.s_select_keeps.specs.Frames.{Taken}
use Rattle.s_select_keeps.specs.Functions.{Program, ProgramCanRun, FunctionStands, placed_by, frame_of, frame_sizes, IsCalled, ComesBack, CallOutcome, CallsRun, FunctionsRun}
use Rattle.s_select_keeps.specs.Relation.{Bases, Extends, Shows, ShowsMemory, IsOutside, IsLive, Frame, at_bases, Represents}
use Rattle.s_select_keeps.specs.Standing.{ItemsStand}
use Rattle.s_select_keeps.specs.Steps.{Steps, Arrives, Exceeds}
use Rattle.s_select_keeps.specs.Table.{place_at, InstrIsDone}
use Rattle.s_select_keeps.proofs.Arguments.{params_are_put}
use Rattle.s_select_keeps.proofs.CallRows.{BodyStack, InFunction, Out}
use Rattle.s_select_keeps.proofs.Entries as entry
use Rattle.s_select_keeps.proofs.Extended.{shows-more, extends-then}
use Rattle.s_select_keeps.proofs.Frames.{frame_is_taken, stack_is_exceeded}
use Rattle.s_select_keeps.proofs.FunctionBodies.{body-follows}
use Rattle.s_select_keeps.proofs.Items.{words_stand}
use Rattle.s_select_keeps.proofs.Lines.{lines-le, lines-cut, line-cut}
use Rattle.s_select_keeps.proofs.Locations.{place-below}
use Rattle.s_select_keeps.proofs.Opened.{closed-alike, closed-shown, length-closed}
use Rattle.s_select_keeps.proofs.Outcomes.{Shown, Brings, events-before, exceeds-more}
use Rattle.s_select_keeps.proofs.Registers.{steps-then, code-le}
use Rattle.s_select_keeps.proofs.Returns as ending

-- a state that differs takes an instruction at least
-- what a register of a hart holds
abbrev register-of : (r : ℕ) → Hart → ℕ
register-of r (running state) = state.regs r
register-of r (ended e) = 0

steps-some : (flags : ℕ → ℕ) (s t : State) (r : ℕ) → (h : Steps flags s t) → t.regs r ≢ s.regs r → 0 < h.count
steps-some flags s t r h differs = elim (cases_lt 0 h.count) [
  | inl some ↦ some
  | inr none ↦
      let zero_is : h.count ≡ 0 = omega (arith, none) in
      let same : standing (running s) [] ≡ record { hart = running t; output = []; rest = [] } =
      sym (run-zero flags (running s) []) ∙ ap (λ n. run flags n (running s) []) (sym zero_is) ∙ (h.reaches []).to in
      absurd (differs (sym (ap (λ (o : RunResult). register-of r o.hart) same)))
]

-- the frame of a function and what its calls exceed
exceeds-called : (flags sizes : ℕ → ℕ) (left left' f n : ℕ) (es : List Event) (s t : State) (input : List ℕ) → Reaches flags n s input [] t input → left ≤ left' + sizes f
    → Exceeds flags sizes left' es t input → Exceeds flags sizes left (called f es) s input
exceeds-called flags sizes left left' f n es s t input reaches enough h = record {
  count = n + h.count;
  written = h.written;
  rest = h.rest;
  runs = run_goes_on flags n h.count s t input [] input reaches ∙ ap (λ o. record { hart = o.hart; output = [] ++ o.output; rest = o.rest }) h.runs;
  begins = subst (IsPrefixOf h.written) (sym (called_keeps_output f es)) h.begins;
  more = (let more = h.more in let all = called_deepens sizes f es in omega (arith, more, all, enough));
}

-- ---- one call

module _ (program : Program) (can : ProgramCanRun program) (bound : ℕ) (meaning : ℕ → Call) (calls : CallsRun program bound meaning) (done : InstrIsDone)
    (store-keeps : StoreKeepsBlocks)
    (clear-keeps : ClearKeepsBlocks) (new-keep : NewBlocksKeepLoads) (closed-keep : ClosedBlocksKeepLoads) (k : ℕ) (p : PlainPlaces) (f : LinearFunction)
    (stands : FunctionStands program (slice_index program.addresses.functions k) p f) (size-is : frame_sizes program k ≡ frame_size p.count f.objects)
    (vs : List Value) (m : Memory)
    (input : List ℕ) (bases : Bases) (back : ℕ) (s : State) (is-called : IsCalled program k vs m input bases back s) where
  abbrev os : List PlainObject
  os = f.objects

  abbrev text : Text
  text = program.text

  abbrev size : ℕ
  size = frame_size p.count os

  abbrev saved : ℕ
  saved = saved_of p.count

  abbrev xs : List ℕ
  xs = numbers_from 0 f.params

  -- ---- where its lines stand

  whole : (b : ℕ) × ItemsStand text program.addresses stands.labels (slice_index program.addresses.functions k) (line_items p os (enter xs)) b
      × LinesStand text program.addresses stands.labels p os b (code_lines 0 f.code ++ leave f.value ∷ []) stands.end
  whole =
      line-cut text program.addresses stands.labels p os (slice_index program.addresses.functions k) stands.end (enter xs)
      (code_lines 0 f.code ++ leave f.value ∷ []) stands.there

  code : (b : ℕ) × LinesStand text program.addresses stands.labels p os whole.0 (code_lines 0 f.code) b
      × LinesStand text program.addresses stands.labels p os b (leave f.value ∷ []) stands.end
  code = lines-cut text program.addresses stands.labels p os whole.0 stands.end (code_lines 0 f.code) (leave f.value ∷ []) whole.2

  last : (b : ℕ) × ItemsStand text program.addresses stands.labels code.0 (line_items p os (leave f.value)) b
      × LinesStand text program.addresses stands.labels p os b [] stands.end
  last = line-cut text program.addresses stands.labels p os code.0 stands.end (leave f.value) [] code.2

  entered : (b : ℕ) × CodeStands text (slice_index program.addresses.functions k) (take_frame size saved) b × CodeStands text b (select.put_params p a0 xs) whole.0
  entered =
      code_is_cut text (slice_index program.addresses.functions k) whole.0 (take_frame size saved) (select.put_params p a0 xs)
      (words_stand text program.addresses stands.labels (slice_index program.addresses.functions k) whole.0 (take_frame size saved ++ select.put_params p a0 xs) whole.1)

  code-low : code.0 < 2 ^ 32
  code-low = let le = lines-le text program.addresses stands.labels p os code.0 stands.end (leave f.value ∷ []) code.2 in let low = stands.low in omega (arith, le, low)

  whole-low : whole.0 < 2 ^ 32
  whole-low = let le = lines-le text program.addresses stands.labels p os whole.0 code.0 (code_lines 0 f.code) code.1 in let low = code-low in omega (arith, le, low)

  entered-low : entered.0 < 2 ^ 32
  entered-low = let le = code-le text entered.0 (select.put_params p a0 xs) whole.0 entered.2 in let low = whole-low in omega (arith, le, low)

  last-low : last.0 < 2 ^ 32
  last-low = let e : last.0 ≡ stands.end = last.2 in let low = stands.low in omega (arith, e, low)

  taking : CodeStands text s.pc (take_frame size saved) entered.0
  taking = subst (λ a. CodeStands text a (take_frame size saved) entered.0) (sym is-called.pc) entered.1

  -- ---- the stack does not suffice

  exceeds : s.regs sp - s.regs s0 < size → (es : List Event) → Exceeds text.flags (frame_sizes program) (s.regs sp - s.regs s0) (called k es) s input
  exceeds less es =
      let h = stack_is_exceeded text s size saved entered.0 is-called.stack (entry.is-size p os stands.can.range) taking entered-low less in
      record {
        count = h.count;
        written = [];
        rest = input;
        runs = h.runs input;
        begins = (output (called k es), refl);
        more = (let all = called_deepens (frame_sizes program) k es in let is = size-is in omega (arith, less, all, is));
      }

  -- ---- it does

  module _ (enough : size ≤ s.regs sp - s.regs s0) where
    taken : Taken text s size saved entered.0
    taken = frame_is_taken text s size saved entered.0 is-called.stack (entry.is-size p os stands.can.range) taking entered-low enough

    abbrev F : Frame
    F = entry.frame program can p os stands.can.range stands.can.leaves k vs m input bases back s is-called enough entered.0 taken

    abbrev all : Memory
    all = entry.blocks program can p os stands.can.range stands.can.leaves k vs m input bases back s is-called enough entered.0 taken

    abbrev fresh_bases : Bases
    fresh_bases = entry.addresses program can p os stands.can.range stands.can.leaves k vs m input bases back s is-called enough entered.0 taken

    abbrev local : ℕ → Value
    local = entry.local program can p os stands.can.range stands.can.leaves k vs m input bases back s is-called enough entered.0 taken

    abbrev I : Bases → linear.State → Type 0
    I more q = InFunction program F p os local all more q

    -- the parameters are put
    abbrev start : linear.State
    start = record { names = put_params (map (place_at p) xs) 0 vs no_names; memory = all; input = input }

    base-is : taken.state.regs s0 ≡ s.regs s0
    base-is = entry.base-is program can p os stands.can.range stands.can.leaves k vs m input bases back s is-called enough entered.0 taken

    extends : Extends bases fresh_bases
    extends = entry.extends program can p os stands.can.range stands.can.leaves k vs m input bases back s is-called enough entered.0 taken

    put : Arrives text F whole.0 start taken.state
    put =
        params_are_put text F (entry.first program can p os stands.can.range stands.can.leaves k vs m input bases back s is-called enough entered.0 taken) taken.state
        (entry.has-words program can p os stands.can.range stands.can.leaves k vs m input bases back s is-called enough entered.0 taken)
        (entry.represents program can p os stands.can.range stands.can.leaves k vs m input bases back s is-called enough entered.0 taken new-keep) p xs vs whole.0 (refl, refl)
        stands.can.params stands.can.few
        (λ j below.
        subst (Shows fresh_bases (first_names vs j)) (sym (taken.others (a0 + j) (omega arith) (omega arith) (omega arith) (omega arith)))
        (shows-more bases fresh_bases extends (first_names vs j) (s.regs (a0 + j)) (is-called.values j (let few = stands.can.few in omega (arith, few, below)))))
        (subst (λ a. CodeStands text a (select.put_params p a0 xs) whole.0) (sym taken.pc) entered.2) whole-low

    shown : Shown text F I start put.state
    shown =
        let i = entry.in-function program can p os stands.can.range stands.can.leaves k vs m input bases back s is-called enough entered.0 taken in
        record {
          bases = fresh_bases;
          inv = record { body = i.body; bytes = i.bytes; extends = i.extends; alike = i.alike; fresh = i.fresh };
          shows = put.shows;
        }

    lead : Steps text.flags s put.state
    lead = steps-then text.flags s taken.state put.state taken.steps put.steps

    lead-some : 0 < lead.count
    lead-some =
        steps-some text.flags s put.state sp lead
        (λ same. let is = put.shows.stack in let holds = (entry.is-size p os stands.can.range).holds in omega (arith, same, is, holds, enough))

    abbrev answer : Answer linear.State
    answer = code_run (record { bound = bound; call = meaning; lost = is_lost p.temporaries; addresses = record { local = local; global = program.global } }) (placed_code (place_at p) f.code) start

    abbrev give : linear.State → Answer (Given Value)
    give q = Returned (record { value = q.names (place_at p f.value); memory = closed (length m) (length os) q.memory; input = q.input }) []

    stack-body : BodyStack program F all
    stack-body = entry.body-stack program can p os stands.can.range stands.can.leaves k vs m input bases back s is-called enough entered.0 taken

    body : Out program can bound meaning calls F p os local all stack-body stands.labels code.0 answer put.state input
    body =
        body-follows program can bound meaning calls F p os local all stack-body stands.labels (refl, refl) done store-keeps clear-keeps f.code 0 start put.state code.0
        stands.can.code shown
        (subst (λ a. LinesStand text program.addresses stands.labels p os a (code_lines 0 f.code) code.0) (sym put.pc) code.1) code-low

    space : s.regs sp - s.regs s0 ≤ F.sp - F.before.regs s0 + frame_sizes program k
    space = let is = base-is in let sizes = size-is in omega (arith, is, sizes, enough)

    -- the frame is given back
    comes-back : (q : linear.State) (o : List Event) → Brings text F I code.0 q o put.state input
        → ComesBack program m bases back (record { value = q.names (place_at p f.value); memory = closed (length m) (length os) q.memory; input = q.input })
        (called k (o ++ [])) s input
    comes-back q o h = record {
      state = e.state;
      count = lead.count + (h.count + e.steps.count);
      reaches =
          subst (λ out. Reaches text.flags (lead.count + (h.count + e.steps.count)) s input out e.state q.input)
          (append-nil (output o) ∙ ap output (sym (append-nil o)) ∙ sym (called_keeps_output k (o ++ [])))
          (reaches_onwards text.flags lead.count (h.count + e.steps.count) s put.state e.state input [] input (output o ++ []) q.input (lead.reaches input)
          (reaches_onwards text.flags h.count e.steps.count put.state h.state e.state input (output o) q.input [] q.input h.reaches (e.steps.reaches q.input)));
      pc = e.pc;
      stack = e.stack;
      base = e.base;
      kept = e.kept;
      bases' = more;
      extends = extends-then bases fresh_bases more extends inv.extends;
      value = e.value;
      memory = subst (ShowsMemory text.flags more (closed (length m) (length os) q.memory)) (sym e.mem)
          (closed-shown closed-keep text.flags more h.state.mem (length m) (length os) q.memory rep.memory);
      fresh = λ n past. (let same = length-closed (length m) (length os) q.memory in inv.fresh n (omega (arith, past, same)));
      alike = closed-alike m os q.memory inv.alike;
      above = above;
      bytes = inv.bytes;
    }
      where
        more : Bases
        more = h.shown.bases

        inv : InFunction program F p os local all more q
        inv = h.shown.inv

        rep : Represents text (at_bases F more) q h.state
        rep = h.shown.shows

        there : CodeStands text h.state.pc (get a0 (place_of p f.value) ++ give_frame size saved) last.0
        there =
            subst (λ a. CodeStands text a (get a0 (place_of p f.value) ++ give_frame size saved) last.0) (sym h.pc)
            (words_stand text program.addresses stands.labels code.0 last.0 (get a0 (place_of p f.value) ++ give_frame size saved) last.1)

        e : ending.Ended program can p os stands.can.range stands.can.leaves k vs m input bases back s is-called enough entered.0 taken q more
            (place_at p f.value) h.state
        e =
            ending.ends program can p os stands.can.range stands.can.leaves k vs m input bases back s is-called enough entered.0 taken q more inv (place_at p f.value)
            (place-below p F (refl, refl) f.value stands.can.value) h.state rep last.0 there last-low

        above : (a : ℕ) → s.regs sp ≤ a → IsOutside bases m a → e.state.mem a ≡ s.mem a
        above a from out =
            let ends = entry.places-end p os stands.can.range in
            ap (λ mem. mem a) e.mem
            ∙ rep.above a (omega (arith, from, ends, enough))
            (λ live. by (ending.live-now program can p os stands.can.range stands.can.leaves k vs m input bases back s is-called enough entered.0 taken q more inv
            (place_at p f.value)
            (place-below p F (refl, refl) f.value stands.can.value) h.state rep last.0 there last-low a live))
            ∙ taken.memory a (inr from)
          where
            by : IsLive bases m a ⊎ ((F.sp + 4 * words_of p.count ≤ a) × (a < s.regs sp - (4 + 4 * saved))) → ⊥
            by (inl old) = out old
            by (inr inside) = let high = inside.1 in omega (arith, high, from)

    finish : (a : Answer linear.State) → Out program can bound meaning calls F p os local all stack-body stands.labels code.0 a put.state input
        → CallOutcome program (suc bound) m bases back (active k (then_on a give)) s input
    finish a (inl h) =
        inl
        (subst (λ es. Exceeds text.flags (frame_sizes program) (s.regs sp - s.regs s0) es s input) (sym (events-active k (then_on a give)))
        (exceeds-called text.flags (frame_sizes program) (s.regs sp - s.regs s0) (F.sp - F.before.regs s0) k lead.count
        (events (then_on a give)) s put.state input (lead.reaches input) space
        (all-events a h)))
      where
        all-events : (a : Answer linear.State) → Exceeds text.flags (frame_sizes program) (F.sp - F.before.regs s0) (events a) put.state input
            → Exceeds text.flags (frame_sizes program) (F.sp - F.before.regs s0) (events (then_on a give)) put.state input
        all-events (Returned q o) h =
            subst (λ es. Exceeds text.flags (frame_sizes program) (F.sp - F.before.regs s0) es put.state input) (sym (events-before o (give q)))
            (exceeds-more text.flags (frame_sizes program) (F.sp - F.before.regs s0) o [] put.state input h)
        all-events (Cut o) h = h
        all-events (Exited o status) h = h
        all-events (Undefined o) h = h
    finish (Returned q o) (inr h) =
        subst (λ x. CallOutcome program (suc bound) m bases back (active k x) s input) (sym (before-is o (give q))) (inr (comes-back q o h))
    finish (Cut o) (inr h) =
        inr
        (record {
          state = h.state;
          count = lead.count + h.count;
          rest = h.rest;
          enough = (let some = lead-some in let more = h.enough in omega (arith, some, more));
          reaches =
              subst (λ out. Reaches text.flags (lead.count + h.count) s input out h.state h.rest) (sym (called_keeps_output k o))
              (reaches_onwards text.flags lead.count h.count s put.state h.state input [] input (output o) h.rest (lead.reaches input) h.reaches);
        })
    finish (Exited o status) (inr h) =
        inr
        (record {
          count = lead.count + h.count;
          rest = h.rest;
          runs =
              run_goes_on text.flags lead.count h.count s put.state input [] input (lead.reaches input)
              ∙ ap (λ r. record { hart = r.hart; output = [] ++ r.output; rest = r.rest }) h.runs
              ∙ ap (λ out. record { hart = ended (exit status); output = out; rest = h.rest }) (sym (called_keeps_output k o));
        })
    finish (Undefined o) (inr h) = inr tt

    function-runs : CallOutcome program (suc bound) m bases back (active k (then_on answer give)) s input
    function-runs = finish answer body

-- ---- every bound

module _ (program : Program) (can : ProgramCanRun program) (done : InstrIsDone) (store-keeps : StoreKeepsBlocks) (clear-keeps : ClearKeepsBlocks)
    (new-keep : NewBlocksKeepLoads)
    (closed-keep : ClosedBlocksKeepLoads) where
  -- calls at the bound above
  step : (bound : ℕ) (meaning : ℕ → Call) → CallsRun program bound meaning
      → CallsRun program (suc bound) (λ k vs m i. active k (placed_entered bound meaning program.global (slice_get (map (placed_by program) program.functions) k) vs m i))
  step bound meaning calls k vs m input bases back s is-called = by (slice_get program.functions k) refl
    where
      by : (found : Option LinearFunction) → slice_get program.functions k ≡ found
          → CallOutcome program (suc bound) m bases back (active k (placed_entered bound meaning program.global (slice_get (map (placed_by program) program.functions) k) vs m input))
          s input
      by None e =
          subst (λ x. CallOutcome program (suc bound) m bases back (active k (placed_entered bound meaning program.global x vs m input)) s input)
          (sym (slice_get-map (placed_by program) program.functions k ∙ ap (option_map (placed_by program)) e)) (inr tt)
      by (Some f) e =
          subst (λ x. CallOutcome program (suc bound) m bases back (active k (placed_entered bound meaning program.global x vs m input)) s input)
          (sym (slice_get-map (placed_by program) program.functions k ∙ ap (option_map (placed_by program)) e))
          (elim (cases_lt (s.regs sp - s.regs s0) (frame_of program.places f)) [
            | inl less ↦
                inl
                (subst (λ es. Exceeds program.text.flags (frame_sizes program) (s.regs sp - s.regs s0) es s input)
                (sym (events-active k (placed_entered bound meaning program.global (Some (placed_by program f)) vs m input)))
                (exceeds program can bound meaning calls done store-keeps clear-keeps new-keep closed-keep k (program.places f) f (can.functions k f e)
                (size-is f e) vs m input bases back s is-called less
                (events (placed_entered bound meaning program.global (Some (placed_by program f)) vs m input))))
            | inr enough ↦
                function-runs program can bound meaning calls done store-keeps clear-keeps new-keep closed-keep k (program.places f) f (can.functions k f e)
                (size-is f e) vs m input bases back s is-called enough
          ])
        where
          size-is : (f : LinearFunction) → slice_get program.functions k ≡ Some f → frame_sizes program k ≡ frame_of program.places f
          size-is f e = get_or_from_slice_get (map (frame_of program.places) program.functions) k (frame_of program.places f) 0 (slice_get-map (frame_of program.places) program.functions k ∙ ap (option_map (frame_of program.places)) e)

  calls-run : (bound : ℕ) → CallsRun program bound (placed_calls (map (placed_by program) program.functions) program.global bound)
  calls-run zero = λ k vs m input bases back s is-called. inr
      (record { state = s; count = 0; rest = input; enough = omega arith; reaches = record { to = run-zero program.text.flags (running s) input } })
  calls-run (suc bound) = step bound (placed_calls (map (placed_by program) program.functions) program.global bound) (calls-run bound)

pub functions_run : InstrIsDone → StoreKeepsBlocks → ClearKeepsBlocks → NewBlocksKeepLoads → ClosedBlocksKeepLoads → FunctionsRun
functions_run done store-keeps clear-keeps new-keep closed-keep program can bound = calls-run program can done store-keeps clear-keeps new-keep closed-keep bound
