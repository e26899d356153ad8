-- The row of a call, where calls run: arguments into their registers, the call, and its value into its place.
use Rattle.std.proofs.Common.{◌≡◌, ◌≢◌, ℕ, zero, suc, ◌+◌, ◌-◌, ◌%◌, ◌^◌, ◌<◌, ◌≤◌, true, false, List, [], ◌∷◌, ◌++◌, map, length, slice_index, Option, refl, sym, ap, subst, ◌∙◌, arith, inl, inr}
use Rattle.std.specs.Prelude.{All}
use Rattle.std.specs.Prelude.{nat_le, nat_lt}
use Rattle.std.proofs.lemmas.Bool.{cases_lt, cases_Bool, both_ways, and_from, and_parts, le-leb, lt-ltb}
use Rattle.std.proofs.lemmas.List.{append-nil}
use Rattle.val_core.specs.declared.values.Value.{Value}
use Rattle.val_core.specs.declared.values.Value.TheVariants.{Bad}
use Rattle.val_core.specs.Answers.{Answer, Returned, Cut, Exited, Undefined, then_on, events}
use Rattle.val_core.specs.Events.{Event, output}
use Rattle.val_core.specs.Memory.{Memory}
use Rattle.val_core.specs.Within.{Given}
use Rattle.val_core.proofs.lemmas.Answers.{before-is}
use Rattle.g_graph.specs.Plain.{PlainObject}
use Rattle.g_graph.specs.WellFormed.{all_of}
use Rattle.rv_isa.specs.Registers.{sp, s0, ra, a0}
use Rattle.rv_machine.specs.Laws.{Reaches}
use Rattle.rv_machine.specs.Machine.{State}
use Rattle.rv_machine.specs.Memory.{has_flag, to_read, to_write}
use Rattle.rv_machine.specs.Standing.{HasText, CodeStands}
use Rattle.rv_machine.proofs.lemmas.Standing.{text_stays}
use Rattle.rv_machine.proofs.lemmas.RunLaws.{reaches_onwards}
use Rattle.rv_machine.proofs.lemmas.Stores.{load-agrees}
use Rattle.rv_layout.specs.declared.item.Item.TheVariants as item
use Rattle.rv_layout.specs.Layout.{offset_to}
use Rattle.rv_layout.specs.Sequences as sequences
use Rattle.s_linear.specs.Frame.{PlainPlaces, is_lost}
use Rattle.s_linear.specs.Linear.{call}
use Rattle.s_linear.specs.Meaning as linear
use Rattle.s_linear.specs.Meaning.{Call, Context, first_names, names_after, back_from, instr_run}
use Rattle.a_place.specs.Placed.{placed_instr}
use Rattle.s_select.specs.Conditions.{has_place}
use Rattle.s_select.specs.Operands as select
use Rattle.s_select.specs.Operands.{place_register, location_of}
use Rattle.s_select.specs.Templates.{words, place_of, get_arguments, instr_items}
use Rattle.s_select_keeps.specs.Arguments.{Loaded}
use Rattle.s_select_keeps.specs.Calls.{Called}
use Rattle.s_select_keeps.specs.Functions.{Program, ProgramCanRun, frame_sizes, HasBlocks, IsCalled, ComesBack, CallOutcome, CallsRun}
use Rattle.s_select_keeps.specs.Relation.{Bases, Extends, Shows, LivesAlike, IsOutside, AreLaidOut, ShowsMemory, IsSavedRegister, SameWord, held, Frame, IsPlaceOf, at_bases, HasWords, Represents}
use Rattle.s_select_keeps.specs.Standing.{ItemsStand}
use Rattle.s_select_keeps.specs.Steps.{Exceeds}
use Rattle.s_select_keeps.specs.Table.{place_at, HasPlaces, ObjectStands, IsBody}
use Rattle.s_select_keeps.proofs.Arguments.{arguments_are_loaded}
use Rattle.s_select_keeps.proofs.Calls.{call_leads}
use Rattle.s_select_keeps.proofs.Extended.{shows-more, extends-then, same-then, shows-same, alike-then, base-kept, outside-after, outside-before}
use Rattle.s_select_keeps.proofs.Items.{items_are_cut, words_stand}
use Rattle.s_select_keeps.proofs.Locations.{place-above, register-is-saved, saved-is-place, word-within, place-below, HasPlaceIn, locations-same, location-fits, word_address, held-at-register, held-at-word}
use Rattle.s_select_keeps.proofs.Operands.{put-done}
use Rattle.s_select_keeps.proofs.Outcomes.{Shown, Brings, Outcome, words-at, events-before, exceeds-more, steps-outcome}
use Rattle.s_select_keeps.proofs.Registers.{steps-then, code-le}
use Rattle.s_select_keeps.proofs.Represented.{place-written}

-- What stays while a body runs: its stack, and where its memory's blocks were as it began.
pub record BodyStack (program : Program) (f : Frame) (blocks : Memory) : Type 0 where
  pub has : HasWords program.text f
  pub base : f.before.regs s0 ≤ f.sp
  pub low : f.sp < 2 ^ 32
  pub readable : (a : ℕ) → f.before.regs s0 ≤ a → a < f.sp → has_flag (program.text.flags a) to_read ≡ true
  pub writable : (a : ℕ) → f.before.regs s0 ≤ a → a < f.sp → has_flag (program.text.flags a) to_write ≡ true
  pub laid : AreLaidOut program.text.flags f.bases blocks
  pub free : (a : ℕ) → f.before.regs s0 ≤ a → a < f.sp → IsOutside f.bases blocks a
  pub below : program.addresses.data_at < f.before.regs s0

-- what holds of each state of a body
pub record InFunction (program : Program) (f : Frame) (p : PlainPlaces) (os : List PlainObject) (local : ℕ → Value) (blocks : Memory) (bases : Bases)
    (q : linear.State) : Type 0 where
  pub body : IsBody program.text (at_bases f bases) program.addresses p os (record { local = local; global = program.global }) q.memory
  pub bytes : All (λ byte. byte < 2 ^ 8) q.input
  pub extends : Extends f.bases bases
  pub alike : LivesAlike blocks q.memory
  pub fresh : (n : ℕ) → length q.memory ≤ n → bases n ≡ 0

-- the arguments of a call, by their numbers
names-first : (names : ℕ → Value) (place : ℕ → ℕ) (xs : List ℕ) (k : ℕ) → k < length xs → first_names (map names (map place xs)) k ≡ names (place (slice_index xs k))
names-first names place [] k below = absurd (omega (arith, below))
names-first names place (x ∷ xs) zero below = refl
names-first names place (x ∷ xs) (suc k) below = names-first names place xs k (omega (arith, below))

names-none : (names : ℕ → Value) (place : ℕ → ℕ) (xs : List ℕ) (k : ℕ) → length xs ≤ k → first_names (map names (map place xs)) k ≡ Bad
names-none names place [] k past = refl
names-none names place (x ∷ xs) zero past = absurd (omega (arith, past))
names-none names place (x ∷ xs) (suc k) past = names-none names place xs k (omega (arith, past))

module _ (program : Program) (can : ProgramCanRun program) (bound : ℕ) (meaning : ℕ → Call) (run : CallsRun program bound meaning) (f : Frame) (p : PlainPlaces)
    (os : List PlainObject)
    (local : ℕ → Value) (blocks : Memory) (frame : BodyStack program f blocks) (labels : ℕ → Option ℕ) where
  abbrev pub context : Context
  context = record { bound = bound; call = meaning; lost = is_lost f.temporaries; addresses = record { local = local; global = program.global } }

  abbrev Inv : Bases → linear.State → Type 0
  Inv bases q = InFunction program f p os local blocks bases q

  abbrev left : ℕ
  left = f.sp - f.before.regs s0

  abbrev pub Out : (b : ℕ) → Answer linear.State → State → (input : List ℕ) → Type 0
  Out b a s input = Outcome program.text f (frame_sizes program) left Inv b bound a s input

  -- the call's own part of what holds of a body's state
  has-blocks : (bases : Bases) (q : linear.State) → Inv bases q → HasBlocks program bases q.memory (f.before.regs s0) f.sp
  has-blocks bases q inv = record {
    fresh = inv.fresh;
    free = λ a from to. outside-after program.text.flags f.bases bases blocks q.memory frame.laid inv.extends inv.alike a (frame.free a from to);
    globals = inv.body.globals;
    below = frame.below;
    outside = inv.body.buffer.outside;
  }

  -- what the body finds is still there after a call
  body-after : (bases more : Bases) (q : linear.State) (m : Memory) → AreLaidOut program.text.flags bases q.memory → Inv bases q → Extends bases more
      → LivesAlike q.memory m
      → IsBody program.text (at_bases f more) program.addresses p os (record { local = local; global = program.global }) m
  body-after bases more q m laid inv e same = record {
    places = inv.body.places;
    objects = λ k below. object k (inv.body.objects k below);
    globals = λ k below. let g = inv.body.globals k below in (g.0, shows-more bases more e (program.global k) (slice_index program.addresses.globals k) g.1);
    buffer = record {
      below = inv.body.buffer.below;
      outside = outside-after program.text.flags bases more q.memory m laid e same program.addresses.data_at inv.body.buffer.outside;
      readable = inv.body.buffer.readable;
      writable = inv.body.buffer.writable;
    };
    stubs = inv.body.stubs;
  }
    where
      object : (k : ℕ) → ObjectStands (at_bases f bases) p os (local k) q.memory k → ObjectStands (at_bases f more) p os (local k) m k
      object k o =
          let b = same.forth o.name.number o.block o.lives in
          record {
            name = o.name;
            block = b.block;
            is = o.is;
            size = o.size;
            base = base-kept program.text.flags bases more q.memory m laid e same o.name.number o.block o.lives ∙ o.base;
            lives = b.there;
            block_size = ap (λ s. s.size) b.shape ∙ o.block_size;
            free = b.fixed ∙ o.free;
          }

  -- a call has come back: the machine stands for the caller's state, with the memory and the input that the call left
  module _ (bases : Bases) (q : linear.State) (s : State) (rep : Represents program.text (at_bases f bases) q s) (inv : Inv bases q) (back : ℕ)
      (g : Given Value) (did : List Event)
      (called : State) (same : (r : ℕ) → r ≢ ra → called.regs r ≡ s.regs r) (kept-memory : called.mem ≡ s.mem)
      (h : ComesBack program q.memory bases back g did called q.input) where
    abbrev after : linear.State
    after = record { names = names_after (is_lost f.temporaries) q.names; memory = g.memory; input = g.input }

    above : (a : ℕ) → f.sp ≤ a → IsOutside bases q.memory a → h.state.mem a ≡ s.mem a
    above a from out =
        let stack : called.regs sp ≡ f.sp = same sp (omega arith) ∙ rep.stack in
        h.above a (omega (arith, from, stack)) out ∙ ap (λ m. m a) kept-memory

    register-kept : (r : ℕ) → IsSavedRegister r → SameWord (s.regs r) (h.state.regs r)
    register-kept r side =
        let high = place-above r (saved-is-place r side) in
        subst (λ x. SameWord x (h.state.regs r)) (same r (omega (arith, high))) (h.kept r side)

    -- what a place holds is shown still, where the call does not lose it
    kept-place : (k : ℕ) → IsPlaceOf f k → is_lost f.temporaries k ≡ false → Shows h.bases' (q.names k) (held f.sp h.state.regs h.state.mem (location_of f.temporaries k))
    kept-place k inside kept =
        shows-more bases h.bases' h.extends (q.names k) (held f.sp h.state.regs h.state.mem (location_of f.temporaries k)) (elim (cases_lt k (11 + f.temporaries)) [
          | inl low ↦
              subst (Shows bases (q.names k)) (sym (held-at-register f k h.state.regs h.state.mem low))
              (shows-same bases (q.names k) (s.regs (place_register k)) (h.state.regs (place_register k))
              (register-kept (place_register k) (register-is-saved k (saved-where k low kept)))
              (subst (Shows bases (q.names k)) (held-at-register f k s.regs s.mem low) (rep.places k inside)))
          | inr high ↦
              let within = word-within f k inside high in
              subst (Shows bases (q.names k))
              (held-at-word f k s.regs s.mem high
              ∙ sym (load-agrees s.mem h.state.mem (word_address f k) 4
              (λ j under. above (word_address f k + j) (omega arith) (rep.apart (word_address f k + j) (omega arith) (omega (arith, within, high, under)))))
              ∙ sym (held-at-word f k h.state.regs h.state.mem high))
              (rep.places k inside)
        ])
      where
        saved-where : (k : ℕ) → k < 11 + f.temporaries → is_lost f.temporaries k ≡ false → k < 11
        saved-where k low kept = elim (cases_lt k 11) [
          | inl less ↦ less
          | inr more ↦ absurd (both_ways (is_lost f.temporaries k) kept (and_from (nat_le 11 k) (nat_lt k (11 + f.temporaries)) (le-leb 11 k more) (lt-ltb k (11 + f.temporaries) low)))
        ]

    place : (k : ℕ) → IsPlaceOf f k → Shows h.bases' (names_after (is_lost f.temporaries) q.names k) (held f.sp h.state.regs h.state.mem (location_of f.temporaries k))
    place k inside = elim (cases_Bool (is_lost f.temporaries k)) [
      | inl lost ↦ rw lost tt
      | inr kept ↦ rw kept (kept-place k inside kept)
    ]

    represented : Represents program.text (at_bases f h.bases') after h.state
    represented = record {
      stack = h.stack ∙ same sp (omega arith) ∙ rep.stack;
      base = h.base ∙ same s0 (omega arith) ∙ rep.base;
      places = place;
      saved = λ k high low. same-then (f.before.regs (place_register k)) (s.regs (place_register k)) (h.state.regs (place_register k)) (rep.saved k high low)
          (register-kept (place_register k) (register-is-saved k low));
      above = λ a from out.
          let out' = outside-before program.text.flags bases h.bases' q.memory g.memory rep.memory.laid h.extends h.alike a out in
          above a (omega (arith, from)) out' ∙ rep.above a from out';
      memory = h.memory;
      apart = λ a from to. outside-after program.text.flags bases h.bases' q.memory g.memory rep.memory.laid h.extends h.alike a (rep.apart a from to);
      has_text = text_stays program.text h.count called h.state q.input (output did) g.input h.reaches (subst (HasText program.text) (sym kept-memory) rep.has_text);
    }

    in-function : (names : ℕ → Value) → Inv h.bases' (record { names = names; memory = g.memory; input = g.input })
    in-function names = record {
      body = body-after bases h.bases' q g.memory rep.memory.laid inv h.extends h.alike;
      bytes = h.bytes;
      extends = extends-then f.bases bases h.bases' inv.extends h.extends;
      alike = alike-then blocks q.memory g.memory inv.alike h.alike;
      fresh = h.fresh;
    }

    -- its value is put into its place
    put-value : (t b : ℕ) → IsPlaceOf f t → CodeStands program.text h.state.pc (select.put (location_of f.temporaries t) a0) b → b < 2 ^ 32
        → Brings program.text f Inv b (record { names = linear.written (names_after (is_lost f.temporaries) q.names) t g.value; memory = g.memory; input = g.input }) (did ++ []) called q.input
    put-value t b inside there low =
        let has = words-at program.text f h.bases' frame.has in
        let w = put-done program.text (at_bases f h.bases') has h.state b a0 (h.state.regs a0) (location_of f.temporaries t) g.value represented.has_text represented.stack
        (location-fits (at_bases f h.bases') t inside)
        there low (omega arith) (omega arith) refl h.value in
        let last = place-written program.text (at_bases f h.bases') has after h.state b t g.value represented inside w in
        record {
          state = last.state;
          count = h.count + last.steps.count;
          reaches =
              subst (λ out. Reaches program.text.flags (h.count + last.steps.count) called q.input out last.state g.input)
              (append-nil (output did) ∙ ap output (sym (append-nil did)))
              (reaches_onwards program.text.flags h.count last.steps.count called h.state last.state q.input (output did) g.input [] g.input h.reaches
              (last.steps.reaches g.input));
          pc = last.pc;
          shown = record { bases = h.bases'; inv = in-function (linear.written (names_after (is_lost f.temporaries) q.names) t g.value); shows = last.shows };
        }

  -- ---- the row

  module _ (t : ℕ) (bases : Bases) (q : linear.State) (s : State) (rep : Represents program.text (at_bases f bases) q s) (inv : Inv bases q)
      (inside : HasPlaceIn f p t) where
    after-call : (b back : ℕ) (called : State) → ((r : ℕ) → r ≢ ra → called.regs r ≡ s.regs r) → called.mem ≡ s.mem
        → CodeStands program.text back (select.put (place_of p t) a0) b
        → b < 2 ^ 32 → (a : Answer (Given Value)) → CallOutcome program bound q.memory bases back a called q.input
        → Out b (then_on a (back_from (is_lost f.temporaries) q (place_at p t))) called q.input
    after-call b back called same mem there low a (inl h) =
        inl (subst (λ n. Exceeds program.text.flags (frame_sizes program) n (events (then_on a (back_from (is_lost f.temporaries) q (place_at p t)))) called q.input) space (more a h))
      where
        space : called.regs sp - called.regs s0 ≡ left
        space =
            let stack : called.regs sp ≡ f.sp = same sp (omega arith) ∙ rep.stack in
            let base : called.regs s0 ≡ f.before.regs s0 = same s0 (omega arith) ∙ rep.base in
            omega (arith, stack, base)

        more : (a : Answer (Given Value)) → Exceeds program.text.flags (frame_sizes program) (called.regs sp - called.regs s0) (events a) called q.input
            → Exceeds program.text.flags (frame_sizes program) (called.regs sp - called.regs s0) (events (then_on a (back_from (is_lost f.temporaries) q (place_at p t))))
            called q.input
        more (Returned g o) h =
            subst (λ es. Exceeds program.text.flags (frame_sizes program) (called.regs sp - called.regs s0) es called q.input)
            (sym (events-before o (back_from (is_lost f.temporaries) q (place_at p t) g)))
            (exceeds-more program.text.flags (frame_sizes program) (called.regs sp - called.regs s0) o [] called q.input h)
        more (Cut o) h = h
        more (Exited o status) h = h
        more (Undefined o) h = h
    after-call b back called same mem there low (Returned g o) (inr h) =
        subst (λ x. Out b x called q.input) (sym (before-is o (back_from (is_lost f.temporaries) q (place_at p t) g)))
        (inr
        (put-value bases q s rep inv back g o called same mem h (place_at p t) b inside.1
        (subst (λ at. CodeStands program.text h.state.pc (select.put (at (place_at p t)) a0) b) (locations-same p f inside.0)
        (subst (λ n. CodeStands program.text n (select.put (place_of p t) a0) b) (sym h.pc) there)) low))
    after-call b back called same mem there low (Cut o) (inr h) = inr h
    after-call b back called same mem there low (Exited o status) (inr h) = inr h
    after-call b back called same mem there low (Undefined o) (inr h) = inr tt

  pub call-follows : (function t : ℕ) (xs : List ℕ) (q : linear.State) (s : State) (b : ℕ) → all_of (has_place p) (t ∷ xs) ≡ true → length xs ≤ 8 → HasPlaces f p
      → Shown program.text f Inv q s → ItemsStand program.text program.addresses labels s.pc (instr_items p os (call function t xs)) b → b < 2 ^ 32
      → slice_index program.addresses.functions function < 2 ^ 32 → slice_index program.addresses.functions function % 2 ≡ 0
      → Out b (instr_run context (placed_instr (place_at p) (call function t xs)) q) s q.input
  call-follows function t xs q s b placed few same shown there low target-low target-even =
      steps-outcome program.text f (frame_sizes program) left Inv b bound s two.state q.input
      (then_on (meaning function arguments q.memory q.input) (back_from (is_lost f.temporaries) q (place_at p t)))
      (steps-then program.text.flags s one.state two.state one.steps two.steps)
      (after-call t bases q one.state one.shows inv (same, place-below p f same t parts.0) b back.0 two.state two.others two.mem back.1 low
      (meaning function arguments q.memory q.input)
      (run function arguments q.memory q.input bases back.0 two.state is-called))
    where
      bases : Bases
      bases = shown.bases

      inv : InFunction program f p os local blocks bases q
      inv = shown.inv

      arguments : List Value
      arguments = map q.names (map (place_at p) xs)

      target : ℕ
      target = slice_index program.addresses.functions function

      parts : (has_place p t ≡ true) × (all_of (has_place p) xs ≡ true)
      parts = and_parts (has_place p t) (all_of (has_place p) xs) placed

      cut : (m : ℕ) × ItemsStand program.text program.addresses labels s.pc (words (get_arguments p a0 xs)) m
          × ItemsStand program.text program.addresses labels m (item.Call function ∷ words (select.put (place_of p t) a0)) b
      cut = items_are_cut program.text program.addresses labels s.pc b (words (get_arguments p a0 xs))
          (item.Call function ∷ words (select.put (place_of p t) a0)) there

      back : (m : ℕ) × CodeStands program.text m (select.put (place_of p t) a0) b
      back = (cut.0 + 8, words_stand program.text program.addresses labels (cut.0 + 8) b (select.put (place_of p t) a0) cut.2.2)

      back-low : back.0 < 2 ^ 32
      back-low = let le = code-le program.text back.0 (select.put (place_of p t) a0) b back.1 in omega (arith, le, low)

      one : Loaded program.text (at_bases f bases) p cut.0 a0 xs q s
      one =
          arguments_are_loaded program.text (at_bases f bases) q s (words-at program.text f bases frame.has) shown.shows p xs cut.0 same parts.1 few
          (words_stand program.text program.addresses labels s.pc cut.0 (get_arguments p a0 xs) cut.1) (let small = back-low in omega (arith, small))

      code : CodeStands program.text one.state.pc (sequences.call (offset_to one.state.pc target)) (cut.0 + 8)
      code = subst (λ n. CodeStands program.text n (sequences.call (offset_to n target)) (cut.0 + 8)) (sym one.pc) cut.2.1

      two : Called program.text one.state target (cut.0 + 8)
      two = call_leads program.text one.state target (cut.0 + 8) one.shows.has_text code back-low target-low target-even

      stack : two.state.regs sp ≡ f.sp
      stack = two.others sp (omega arith) ∙ one.shows.stack

      base : two.state.regs s0 ≡ f.before.regs s0
      base = two.others s0 (omega arith) ∙ one.shows.base

      argument : (k : ℕ) → Shows bases (first_names arguments k) (two.state.regs (a0 + k))
      argument k = elim (cases_lt k (length xs)) [
        | inl below ↦
            subst (λ v. Shows bases v (two.state.regs (a0 + k))) (sym (names-first q.names (place_at p) xs k below))
            (subst (Shows bases (q.names (place_at p (slice_index xs k)))) (sym (two.others (a0 + k) (omega arith))) (one.values k below))
        | inr past ↦ subst (λ v. Shows bases v (two.state.regs (a0 + k))) (sym (names-none q.names (place_at p) xs k past)) tt
      ]

      is-called : IsCalled program function arguments q.memory q.input bases (cut.0 + 8) two.state
      is-called = record {
        pc = two.pc;
        return = two.return;
        back_low = back-low;
        back_even = (let end : one.state.pc + 4 + 4 ≡ cut.0 + 8 = code.1.1 in let aligned = code.0.aligned in omega (arith, end, aligned));
        values = λ k below. argument k;
        stack = record {
          has_text = subst (HasText program.text) (sym two.mem) one.shows.has_text;
          aligned = (let e = stack in let even = frame.has.aligned in omega (arith, e, even));
          base = (let e = stack in let d = base in let le = frame.base in omega (arith, e, d, le));
          low = (let e = stack in let small = frame.low in omega (arith, e, small));
          writable = λ a from to. (let e = stack in let d = base in frame.writable a (omega (arith, from, d)) (omega (arith, to, e)));
        };
        readable = λ a from to. (let e = stack in let d = base in frame.readable a (omega (arith, from, d)) (omega (arith, to, e)));
        memory = subst (ShowsMemory program.text.flags bases q.memory) (sym two.mem) one.shows.memory;
        has =
            subst (λ n. HasBlocks program bases q.memory n (two.state.regs sp)) (sym base)
            (subst (λ n. HasBlocks program bases q.memory (f.before.regs s0) n) (sym stack) (has-blocks bases q inv));
        bytes = inv.bytes;
      }
