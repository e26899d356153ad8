-- How a function ends: its value is in a0, its frame is given back, and the caller finds its registers and its stack as they were.
use Rattle.std.proofs.Common.{◌≡◌, ◌≢◌, ◌⊎◌, ℕ, ◌+◌, ◌-◌, ◌*◌, ◌%◌, ◌^◌, ◌<◌, ◌≤◌, ◌==◌, true, false, Bool, cond, List, ◌++◌, refl, sym, ap, subst, ◌∙◌, arith, inl, inr, eqb-true}
use Rattle.std.proofs.lemmas.Bool.{cases_lt}
use Rattle.val_core.specs.declared.values.Value.{Value}
use Rattle.val_core.specs.Memory.{Memory}
use Rattle.g_graph.specs.Plain.{PlainObject}
use Rattle.g_graph.specs.WellFormed.{all_of, leaves_fit}
use Rattle.rv_isa.specs.Registers.{sp, s0, a0}
use Rattle.rv_machine.specs.Machine.{State}
use Rattle.rv_machine.specs.Memory.{load_bytes}
use Rattle.rv_machine.specs.Standing.{HasText, CodeStands}
use Rattle.rv_machine.proofs.lemmas.Standing.{code_is_cut}
use Rattle.rv_machine.proofs.lemmas.Stores.{load-agrees}
use Rattle.s_linear.specs.Frame.{PlainPlaces, registers, saved_of, words_of, frame_size}
use Rattle.s_linear.specs.Meaning as linear
use Rattle.s_select.specs.Operands.{place_register, location_of, get}
use Rattle.s_select.specs.Templates.{give_frame}
use Rattle.s_select_keeps.specs.Formats.{IsInRange}
use Rattle.s_select_keeps.specs.Frames.{GivenBack, Taken}
use Rattle.s_select_keeps.specs.Functions.{Program, ProgramCanRun, IsCalled}
use Rattle.s_select_keeps.specs.Relation.{Bases, Shows, IsLive, IsPlaceRegister, IsSavedRegister, SameWord, Frame, IsPlaceOf, at_bases, Represents}
use Rattle.s_select_keeps.specs.Steps.{Steps}
use Rattle.s_select_keeps.proofs.CallRows.{InFunction}
use Rattle.s_select_keeps.proofs.Entries as entry
use Rattle.s_select_keeps.proofs.Extended.{live-back}
use Rattle.s_select_keeps.proofs.Frames.{frame_is_given}
use Rattle.s_select_keeps.proofs.Locations.{location-fits, place-above, register-is-place, registers-apart}
use Rattle.s_select_keeps.proofs.Operands.{get-done}
use Rattle.s_select_keeps.proofs.Outcomes.{words-at}
use Rattle.s_select_keeps.proofs.Registers.{Computes, steps-then, code-le}

-- each saved register is that of a place
place-of-register : (r : ℕ) → IsSavedRegister r → (k : ℕ) × (k < registers) × (r ≡ place_register k)
place-of-register r (inl nine) = (0, omega arith, nine)
place-of-register r (inr high) = (r - 17, (let below = high.1 in omega (arith, below)), by ((r - 17) == 0) refl)
  where
    by : (test : Bool) → ((r - 17) == 0) ≡ test → r ≡ cond test 9 (r - 17 + 17)
    by true e = let zero_is = eqb-true (r - 17) 0 e in let above = high.0 in absurd (omega (arith, zero_is, above))
    by false e = let above = high.0 in omega (arith, above)

module _ (program : Program) (can : ProgramCanRun program) (p : PlainPlaces) (os : List PlainObject) (range : IsInRange p os)
    (leaves : all_of (λ (o : PlainObject). leaves_fit o.size 0 o.leaves) os ≡ true)
    (function : ℕ) (vs : List Value) (m : Memory) (input : List ℕ) (bases : Bases) (back : ℕ) (s : State) (called : IsCalled program function vs m input bases back s)
    (enough : frame_size p.count os ≤ s.regs sp - s.regs s0) (e : ℕ) (taken : Taken program.text s (frame_size p.count os) (saved_of p.count) e) where
  abbrev F : Frame
  F = entry.frame program can p os range leaves function vs m input bases back s called enough e taken

  abbrev all : Memory
  all = entry.blocks program can p os range leaves function vs m input bases back s called enough e taken

  abbrev size : ℕ
  size = frame_size p.count os

  abbrev saved : ℕ
  saved = saved_of p.count

  -- The function has ended: from its last lines on the machine comes to the return address.
  pub record Ended (q : linear.State) (more : Bases) (v : ℕ) (u : State) : Type 0 where
    pub state : State
    pub steps : Steps program.text.flags u state
    pub pc : state.pc ≡ back
    pub stack : state.regs sp ≡ s.regs sp
    pub base : state.regs s0 ≡ s.regs s0
    pub kept : (r : ℕ) → IsSavedRegister r → SameWord (s.regs r) (state.regs r)
    pub value : Shows more (q.names v) (state.regs a0)
    pub mem : state.mem ≡ u.mem

  module _ (q : linear.State) (more : Bases) (inv : InFunction program F p os
      (entry.local program can p os range leaves function vs m input bases back s called enough e taken) all more q) (v : ℕ)
      (inside : IsPlaceOf F v) (u : State) (rep : Represents program.text (at_bases F more) q u) (end : ℕ)
      (there : CodeStands program.text u.pc (get a0 (location_of p.temporaries v) ++ give_frame size saved) end)
      (low : end < 2 ^ 32) where
    -- an address that lives now is one of before, or in an object
    pub live-now : (a : ℕ) → IsLive more q.memory a → IsLive bases m a ⊎ ((F.sp + 4 * words_of p.count ≤ a) × (a < s.regs sp - (4 + 4 * saved)))
    live-now a h =
        entry.live program can p os range leaves function vs m input bases back s called enough e taken a
        (live-back program.text.flags F.bases more all q.memory
        (entry.body-stack program can p os range leaves function vs m input bases back s called enough e taken).laid inv.extends inv.alike a h)

    -- the words that save registers are as they were
    saves-kept : (a : ℕ) → s.regs sp - (4 + 4 * saved) ≤ a → a < s.regs sp → u.mem a ≡ taken.state.mem a
    saves-kept a from to =
        let ends = entry.places-end p os range in
        rep.above a (omega (arith, from, ends, enough)) (λ h. by (live-now a h))
      where
        by : IsLive bases m a ⊎ ((F.sp + 4 * words_of p.count ≤ a) × (a < s.regs sp - (4 + 4 * saved))) → ⊥
        by (inl old) = let holds = (entry.is-size p os range).holds in called.has.free a (omega (arith, from, enough, holds)) to old
        by (inr inside) = let high = inside.1 in omega (arith, high, from)

    saved-word : (a : ℕ) → s.regs sp - (4 + 4 * saved) ≤ a → a + 4 ≤ s.regs sp → load_bytes u.mem a 4 ≡ load_bytes taken.state.mem a 4
    saved-word a from to = load-agrees taken.state.mem u.mem a 4 (λ j below. saves-kept (a + j) (omega (arith, from)) (omega (arith, to, below)))

    cut : (b : ℕ) × CodeStands program.text u.pc (get a0 (location_of p.temporaries v)) b × CodeStands program.text b (give_frame size saved) end
    cut = code_is_cut program.text u.pc end (get a0 (location_of p.temporaries v)) (give_frame size saved) there

    one : (x : ℕ) × Shows more (q.names v) x × Computes program.text u cut.0 a0 x
    one =
        get-done program.text (at_bases F more) (words-at program.text F more
        (entry.has-words program can p os range leaves function vs m input bases back s called enough e taken)) u cut.0 a0 (location_of p.temporaries v)
        (q.names v) rep.has_text rep.stack (location-fits (at_bases F more) v inside) cut.1 (let le = code-le program.text cut.0 (give_frame size saved) end cut.2 in
        omega (arith, le, low)) (omega arith)
        (rep.places v inside)

    abbrev loaded : State
    loaded = one.2.state

    stack-loaded : loaded.regs sp ≡ F.sp
    stack-loaded = one.2.others sp (omega arith) (omega arith) ∙ rep.stack

    top-is : loaded.regs sp + size ≡ s.regs sp
    top-is = let at = stack-loaded in omega (arith, at, enough)

    return-word : load_bytes loaded.mem (loaded.regs sp + size - 4) 4 ≡ back
    return-word =
        let holds = (entry.is-size p os range).holds in
        let small = called.back_low in
        let is = called.return in
        ap (λ mem. load_bytes mem (loaded.regs sp + size - 4) 4) one.2.mem
        ∙ ap (λ n. load_bytes u.mem (n - 4) 4) top-is
        ∙ saved-word (s.regs sp - 4) (omega arith) (omega (arith, holds, enough))
        ∙ taken.return
        ∙ ap (λ n. n % 2 ^ 32) is
        ∙ (let word : back % 2 ^ 32 ≡ back = omega (arith, small) in word)

    given : GivenBack program.text loaded size saved back
    given =
        frame_is_given program.text loaded size saved back end
        (record {
          has_text = subst (HasText program.text) (sym one.2.mem) rep.has_text;
          aligned = (let at = stack-loaded in let aligned = called.stack.aligned in let whole = (entry.is-size p os range).aligned in
              omega (arith, at, aligned, whole, enough));
          low = (let top = top-is in let small = called.stack.low in omega (arith, top, small));
          readable = λ a from to. (let at = stack-loaded in let top = top-is in called.readable a (omega (arith, from, at, enough)) (omega (arith, to, top)));
        })
        (entry.is-size p os range) (subst (λ a. CodeStands program.text a (give_frame size saved) end) (sym one.2.pc) cut.2) low return-word called.back_low
        called.back_even

    -- a place register, by its place
    kept-at : (k : ℕ) → k < registers → SameWord (s.regs (place_register k)) (given.state.regs (place_register k))
    kept-at k few = elim (cases_lt k saved) [
      | inl below ↦
          let at = top-is in
          inr
          (given.restores k below
          ∙ ap (λ mem. load_bytes mem (loaded.regs sp + size - (8 + 4 * k)) 4) one.2.mem
          ∙ ap (λ n. load_bytes u.mem (n - (8 + 4 * k)) 4) at
          ∙ (let holds = (entry.is-size p os range).holds in saved-word (s.regs sp - (8 + 4 * k)) (omega (arith, below)) (omega (arith, below, holds, enough)))
          ∙ taken.saves k below)
      | inr past ↦
          let high = place-above (place_register k) (register-is-place k) in
          let others : given.state.regs (place_register k) ≡ u.regs (place_register k) =
          given.others (place_register k) (omega (arith, high)) (omega (arith, high)) (omega (arith, high)) (omega (arith, high)) (omega (arith, high))
          (λ j under. registers-apart k j (omega (arith, past, under)))
          ∙ one.2.others (place_register k) (not-a0 (register-is-place k)) (omega (arith, high)) in
          let was : taken.state.regs (place_register k) ≡ s.regs (place_register k) =
          taken.others (place_register k) (omega (arith, high)) (omega (arith, high)) (omega (arith, high)) (omega (arith, high)) in
          subst (λ x. SameWord x (given.state.regs (place_register k))) was
          (subst (SameWord (taken.state.regs (place_register k))) (sym others) (rep.saved k (omega (arith, past, few)) few))
    ]
      where
        not-a0 : IsPlaceRegister (place_register k) → place_register k ≢ 10
        not-a0 (inl nine) same = omega (arith, nine, same)
        not-a0 (inr high) same = omega (arith, high, same)

    pub ends : Ended q more v u
    ends = record {
      state = given.state;
      steps = steps-then program.text.flags u loaded given.state one.2.steps given.steps;
      pc = given.pc;
      stack = given.sp_is ∙ top-is;
      base =
          given.others s0 (omega arith) (omega arith) (omega arith) (omega arith) (omega arith) (λ k under. never s0 (omega arith) k (omega (arith, under)))
          ∙ one.2.others s0 (omega arith) (omega arith) ∙ rep.base ∙ entry.base-is program can p os range leaves function vs m input bases back s called enough e taken;
      kept = λ r side. let k = place-of-register r side in subst (λ n. SameWord (s.regs n) (given.state.regs n)) (sym k.2) (kept-at k.0 k.1);
      value =
          subst (Shows more (q.names v))
          (sym (given.others a0 (omega arith) (omega arith) (omega arith) (omega arith) (omega arith) (λ k under. ten k (omega (arith, under))) ∙ one.2.holds))
          one.1;
      mem = given.mem ∙ one.2.mem;
    }
      where
        never : (r : ℕ) → r ≤ 8 → (k : ℕ) → k < 11 → r ≢ place_register k
        never r less k few same = let high = place-above (place_register k) (register-is-place k) in omega (arith, less, high, same)

        ten : (k : ℕ) → k < 11 → 10 ≢ place_register k
        ten k few same = by (register-is-place k)
          where
            by : IsPlaceRegister (place_register k) → ⊥
            by (inl nine) = omega (arith, nine, same)
            by (inr high) = omega (arith, high, same)
