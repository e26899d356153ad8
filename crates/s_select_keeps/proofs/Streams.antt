-- The templates of output and input do what the instructions do, by way of the stubs.
use Rattle.std.proofs.Common.{◌≡◌, ◌≢◌, ℕ, ◌+◌, ◌-◌, ◌%◌, ◌^◌, ◌<◌, ◌==◌, false, List, [], ◌∷◌, refl, sym, ap, subst, ◌∙◌, arith, inl, inr}
use Rattle.std.specs.Prelude.{All}
use Rattle.std.proofs.lemmas.Bool.{cases_lt, ne_eqb}
use Rattle.val_core.specs.declared.values.Value.TheVariants.{Num}
use Rattle.val_core.specs.Events.{Event, took, output}
use Rattle.rv_isa.specs.Registers.{sp, s0, a0}
use Rattle.rv_machine.specs.Laws.{Reaches}
use Rattle.rv_machine.specs.Machine as machine
use Rattle.rv_machine.specs.Memory.{store_bytes}
use Rattle.rv_machine.specs.Standing.{Text, HasText, CodeStands}
use Rattle.rv_machine.proofs.lemmas.RunLaws.{reaches_onwards}
use Rattle.rv_machine.proofs.lemmas.Stores.{load-agrees}
use Rattle.rv_layout.specs.Layout as layout
use Rattle.rv_layout.specs.Layout.{offset_to, get_at}
use Rattle.rv_layout.specs.Sequences.{call, put_stub, get_stub}
use Rattle.s_linear.specs.Meaning as linear
use Rattle.s_linear.specs.Meaning.{got}
use Rattle.s_select.specs.Operands as select
use Rattle.s_select.specs.Operands.{place_register, location_of, get}
use Rattle.s_select_keeps.specs.Calls.{Called}
use Rattle.s_select_keeps.specs.Relation.{IsKept, SameWord, IsLive, Shows, held, Frame, IsPlaceOf, HasWords, Represents}
use Rattle.s_select_keeps.specs.Steps.{Steps, Comes, Follows}
use Rattle.s_select_keeps.specs.Streams.{IsBuffer, PutIsDone, GetIsDone}
use Rattle.s_select_keeps.specs.Stubs.{FromStub, StubIsCalled}
use Rattle.s_select_keeps.proofs.lemmas.Blocks.{memory-same}
use Rattle.s_select_keeps.proofs.Calls.{call_leads}
use Rattle.s_select_keeps.proofs.GetStub.{get_stub_reads}
use Rattle.s_select_keeps.proofs.Locations.{kept-apart, kept-argument, kept-return, register-is-place, word_address, location-fits, held-at-register, held-at-word}
use Rattle.s_select_keeps.proofs.Operands.{get-done, put-done}
use Rattle.s_select_keeps.proofs.PutStub.{put_stub_writes, stored-elsewhere}
use Rattle.s_select_keeps.proofs.Registers.{Computes, steps-then, code-le}
use Rattle.s_select_keeps.proofs.Represented.{place-written}
use Rattle.s_select_keeps.proofs.Stubs.{text-keeps}

module _ (text : Text) (f : Frame) (words : HasWords text f) (q : linear.State) (buffer : ℕ) (is : IsBuffer text f q.memory buffer) where
  -- registers that are kept, and all bytes but the buffer, are as they were
  stays : (s u : machine.State) → Represents text f q s → ((r : ℕ) → IsKept r → u.regs r ≡ s.regs r) → ((a : ℕ) → a ≢ buffer → u.mem a ≡ s.mem a) → Represents text f q u
  stays s u rep regs mem = record {
    stack = regs sp (inl refl) ∙ rep.stack;
    base = regs s0 (inr (inl refl)) ∙ rep.base;
    places = λ p within. subst (Shows f.bases (q.names p)) (sym (same-held p within)) (rep.places p within);
    saved = λ p above low. subst (SameWord (f.before.regs (place_register p))) (sym (regs (place_register p) (inr (inr (register-is-place p)))))
        (rep.saved p above low);
    above = λ a from out. mem a (λ e. let below = is.below in omega (arith, below, from, e)) ∙ rep.above a from out;
    memory =
        memory-same text.flags f.bases q.memory s.mem u.mem (λ a live. mem a (λ e. is.outside (subst (IsLive f.bases q.memory) e live))) rep.memory;
    apart = rep.apart;
    has_text = text-keeps text s.mem u.mem buffer rep.has_text is.writable mem;
  }
    where
      same-held : (p : ℕ) → IsPlaceOf f p → held f.sp u.regs u.mem (location_of f.temporaries p) ≡ held f.sp s.regs s.mem (location_of f.temporaries p)
      same-held p within =
          elim (cases_lt p (11 + f.temporaries)) [
            | inl low ↦
                held-at-register f p u.regs u.mem low ∙ regs (place_register p) (inr (inr (register-is-place p))) ∙ sym (held-at-register f p s.regs s.mem low)
            | inr high ↦
                held-at-word f p u.regs u.mem high
                ∙ load-agrees s.mem u.mem (word_address f p) 4
                (λ j under. mem (word_address f p + j) (λ e. let below = is.below in omega (arith, below, e)))
                ∙ sym (held-at-word f p s.regs s.mem high)
          ]

  buffer-low : buffer < 2 ^ 32
  buffer-low = let below = is.below in let low = words.low in omega (arith, below, low)

  -- a stub is called from an address at which its call stands
  stub-called : (s : machine.State) (target b : ℕ) → HasText text s.mem → CodeStands text s.pc (call (offset_to s.pc target)) b → b < 2 ^ 32
      → (c : Called text s target b)
      → StubIsCalled text c.state buffer b
  stub-called s target b has there low c = record {
    has_text = subst (HasText text) (sym c.mem) has;
    return = c.return;
    low = low;
    even = (let end : s.pc + 4 + 4 ≡ b = there.1.1 in let aligned = there.0.aligned in omega (arith, end, aligned));
    buffer_low = buffer-low;
    readable = is.readable;
    writable = is.writable;
  }

  call-kept : (s : machine.State) (target b : ℕ) (c : Called text s target b) (r : ℕ) → IsKept r → c.state.regs r ≡ s.regs r
  call-kept s target b c r side = c.others r (kept-return r side)

pub put_is_done : PutIsDone
put_is_done text f q s words rep a w buffer m b below is buf stubs there next low = record {
  state = back.state;
  count = before.count + back.count;
  reaches = reaches_onwards text.flags before.count back.count s called.state back.state q.input [] q.input (w % 256 ∷ []) q.input (before.reaches q.input) back.reaches;
  pc = back.pc;
  shows = stays text f words q buffer buf s back.state rep regs mem;
}
  where
    middle : m < 2 ^ 32
    middle = let le = code-le text m (call (offset_to m layout.put_at)) b next in omega (arith, le, low)

    value : (x : ℕ) × Shows f.bases (q.names a) x × Computes text s m a0 x
    value = get-done text f words s m a0 (location_of f.temporaries a) (q.names a) rep.has_text rep.stack (location-fits f a below) there middle (omega arith) (rep.places a below)

    one : Computes text s m a0 value.0
    one = value.2

    has1 : HasText text one.state.mem
    has1 = subst (HasText text) (sym one.mem) rep.has_text

    code1 : CodeStands text one.state.pc (call (offset_to one.state.pc layout.put_at)) b
    code1 = subst (λ n. CodeStands text n (call (offset_to n layout.put_at)) b) (sym one.pc) next

    called : Called text one.state layout.put_at b
    called = call_leads text one.state layout.put_at b has1 code1 low (omega arith) refl

    before : Steps text.flags s called.state
    before = steps-then text.flags s one.state called.state one.steps called.steps

    word : called.state.regs a0 ≡ w
    word =
        called.others a0 (omega arith) ∙ one.holds
        ∙ (let h : Shows f.bases (Num w) value.0 = subst (λ v. Shows f.bases v value.0) is value.1 in h.0)

    back : FromStub text called.state b (store_bytes called.state.mem buffer w 1) q.input (w % 256 ∷ []) q.input
    back =
        put_stub_writes text called.state buffer b w stubs.put_end q.input (stub-called text f words q buffer buf one.state layout.put_at b has1 code1 low called)
        (subst (λ n. CodeStands text n (put_stub buffer) stubs.put_end) (sym called.pc) stubs.put) stubs.put_low word

    regs : (r : ℕ) → IsKept r → back.state.regs r ≡ s.regs r
    regs r side =
        back.kept r side ∙ call-kept text f words q buffer buf one.state layout.put_at b called r side
        ∙ one.others r (kept-argument r a0 side (omega arith) (omega arith)) (kept-apart r 7 side (omega arith) (omega arith))

    mem : (n : ℕ) → n ≢ buffer → back.state.mem n ≡ s.mem n
    mem n ne =
        ap (λ k. k n) back.mem ∙ stored-elsewhere called.state.mem buffer w n ne ∙ ap (λ k. k n) (called.mem ∙ one.mem)

-- ---- input

-- the value that the stub gives is put into its place
placed-after : (text : Text) (f : Frame) (q q' : linear.State) (s u : machine.State) (t x b : ℕ) (input written : List ℕ) → HasWords text f → IsPlaceOf f t
    → Represents text f q' u
    → CodeStands text u.pc (select.put (location_of f.temporaries t) a0) b → b < 2 ^ 32 → u.regs a0 ≡ x → x < 2 ^ 32 → (count : ℕ) → (did : List Event) → output did ≡ []
    → Reaches text.flags count s input [] u q'.input → Comes text f b (linear.set q' t (Num x)) did s input
placed-after text f q q' s u t x b input written words below rep code low is small count did none reaches =
    let w = put-done text f words u b a0 x (location_of f.temporaries t) (Num x) rep.has_text rep.stack (location-fits f t below) code low (omega arith)
    (omega arith) is (refl, small) in
    let last = place-written text f words q' u b t (Num x) rep below w in
    record {
      state = last.state;
      count = count + last.steps.count;
      reaches =
          subst (λ out. Reaches text.flags (count + last.steps.count) s input out last.state q'.input) (sym none)
          (reaches_onwards text.flags count last.steps.count s u last.state input [] q'.input [] q'.input reaches (last.steps.reaches q'.input));
      pc = last.pc;
      shows = last.shows;
    }

-- what is left of the input does not matter to the machine's state
with-input : (text : Text) (f : Frame) (q : linear.State) (rest : List ℕ) (s : machine.State) → Represents text f q s
    → Represents text f (record { names = q.names; memory = q.memory; input = rest }) s
with-input text f q rest s rep = record {
  stack = rep.stack;
  base = rep.base;
  places = rep.places;
  saved = rep.saved;
  above = rep.above;
  memory = rep.memory;
  apart = rep.apart;
  has_text = rep.has_text;
}

pub get_is_done : GetIsDone
get_is_done text f q s words rep t buffer m b least below bytes buf stubs there next low = by q.input refl bytes
  where
    middle : m < 2 ^ 32
    middle = let le = code-le text m (select.put (location_of f.temporaries t) a0) b next in omega (arith, le, low)

    called : Called text s get_at m
    called = call_leads text s get_at m rep.has_text there middle (omega arith) refl

    is-called : StubIsCalled text called.state buffer m
    is-called = stub-called text f words q buffer buf s get_at m rep.has_text there middle called

    code : CodeStands text called.state.pc (get_stub buffer) stubs.get_end
    code = subst (λ n. CodeStands text n (get_stub buffer) stubs.get_end) (sym called.pc) stubs.get

    kept : (u : machine.State) → ((r : ℕ) → IsKept r → u.regs r ≡ called.state.regs r) → (r : ℕ) → IsKept r → u.regs r ≡ s.regs r
    kept u same r side = same r side ∙ call-kept text f words q buffer buf s get_at m called r side

    -- the code of the put stands where the stub comes back to
    put-code : (a : ℕ) → a ≡ m → CodeStands text a (select.put (location_of f.temporaries t) a0) b
    put-code a e = subst (λ n. CodeStands text n (select.put (location_of f.temporaries t) a0) b) (sym e) next

    by : (input : List ℕ) → q.input ≡ input → All (λ byte. byte < 2 ^ 8) input → Follows text f b least (got q t input) s input
    by [] e all =
        let h = get_stub_reads.end text called.state buffer m stubs.get_end is-called code stubs.get_low in
        let back = h.0 in
        let rep' = stays text f words q buffer buf s back.state rep (kept back.state back.kept) (λ n ne. ap (λ k. k n) (back.mem ∙ called.mem)) in
        let reaches = reaches_onwards text.flags called.steps.count back.count s called.state back.state [] [] [] [] [] (called.steps.reaches []) back.reaches in
        placed-after text f q q s back.state t (2 ^ 32 - 1) b [] [] words below rep' (put-code back.state.pc back.pc) low h.1 (omega arith)
        (called.steps.count + back.count) [] refl
        (subst (λ rest. Reaches text.flags (called.steps.count + back.count) s [] [] back.state rest) (sym e) reaches)
    by (c ∷ rest) e all =
        let h = get_stub_reads.byte text called.state buffer m c stubs.get_end rest is-called code stubs.get_low in
        let back = h.0 in
        let rep' = stays text f words q buffer buf s back.state rep (kept back.state back.kept)
        (λ n ne. ap (λ k. k n) back.mem ∙ (let other : (n == buffer) ≡ false = ne_eqb n buffer ne in rw other refl) ∙ ap (λ k. k n) called.mem) in
        let reaches = reaches_onwards text.flags called.steps.count back.count s called.state back.state (c ∷ rest) [] (c ∷ rest) [] rest
        (called.steps.reaches (c ∷ rest)) back.reaches in
        let small : c < 2 ^ 8 = all 0 0 (omega arith) in
        placed-after text f q (record { names = q.names; memory = q.memory; input = rest }) s back.state t c b (c ∷ rest) [] words below
        (with-input text f q rest back.state rep')
        (put-code back.state.pc back.pc) low h.1 (omega (arith, small)) (called.steps.count + back.count) (took c ∷ []) refl reaches
