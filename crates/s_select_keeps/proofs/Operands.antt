-- Values that instructions bring from places and to places.
use Rattle.std.proofs.Common.{◌≡◌, ◌≢◌, ◌⊎◌, ℕ, ◌+◌, ◌*◌, ◌%◌, ◌^◌, ◌<◌, ◌≤◌, true, [], ◌∷◌, refl, sym, ap, subst, ◌∙◌, arith, inl, inr, eq-eqb}
use Rattle.val_core.specs.declared.values.Value.{Value}
use Rattle.val_core.specs.declared.values.Value.TheVariants.{Num, At, Bad}
use Rattle.rv_isa.specs.Registers.{sp}
use Rattle.rv_isa.specs.WordParts.{upper_part, low_part}
use Rattle.rv_isa.specs.declared.instruction.Instr.{Instr}
use Rattle.rv_isa.specs.declared.instruction.Instr.TheVariants.{Lui, Lw, Sw, Addi, Add}
use Rattle.rv_isa.proofs.lemmas.WordParts.{parts_make_word}
use Rattle.rv_machine.specs.Machine.{State, Effect, next, act, give, look, offset, after, access}
use Rattle.rv_machine.specs.Memory.{load_bytes, store_bytes, allowed, to_read, to_write}
use Rattle.rv_machine.proofs.lemmas.Stores.{stored_is_loaded, store_leaves_others}
use Rattle.rv_machine.proofs.lemmas.Texts.{flags_allow}
use Rattle.s_select.specs.declared.location.Location.{Location}
use Rattle.s_select.specs.declared.location.Location.TheVariants.{Register, Near, Far}
use Rattle.s_select.specs.Operands.{t2, get, put, in_of, load_in, out_of, store_out}
use Rattle.rv_machine.specs.Standing.{Text, HasText, CodeStands}
use Rattle.s_select_keeps.specs.Relation.{Bases, Shows, held, Frame, words_end, HasWords}
use Rattle.s_select_keeps.specs.Steps.{Steps}
use Rattle.s_select_keeps.proofs.Registers.{steps-none, steps-then, step-to, look-at, Computes, computes-then, code-after, text-after, one-computes, two-compute}
use Rattle.s_select_keeps.proofs.Locations.{place-above, IsNoTemporary, temporary-apart, LocationFits, IsOtherRegister, IsOtherAddress}

-- what a word shows, the word modulo 2^32 does
pub shows-word : (bases : Bases) (v : Value) (x : ℕ) → Shows bases v x → Shows bases v (x % 2 ^ 32)
shows-word bases (Num w) x h = let e : x ≡ w = h.0 in let low : w < 2 ^ 32 = h.1 in (omega (arith, e, low), low)
shows-word bases (At b o) x h =
    let is = h.is in
    let within = h.within in
    let high = h.high in
    record { is = omega (arith, is, within, high); within = within; low = h.low; high = high }
shows-word bases Bad x h = tt

-- ---- accesses

access-done : (flags : ℕ → ℕ) (flag a : ℕ) (s : State) (effect : Effect) → a % 4 ≡ 0 → allowed flags flag a 4 ≡ true → access flags flag 4 a s effect ≡ effect
access-done flags flag a s effect even good = rw (eq-eqb (a % 4) 0 even, good) refl

pub load-acts : (flags : ℕ → ℕ) (s : State) (rd rs d a : ℕ) → offset (look s.regs rs) d ≡ a → a % 4 ≡ 0 → allowed flags to_read a 4 ≡ true
    → act flags (Lw rd rs d) s ≡ next (give s rd (load_bytes s.mem a 4))
unfolding act
load-acts flags s rd rs d a place even good =
    ap (λ n. access flags to_read 4 n s (next (give s rd (load_bytes s.mem n 4)))) place
    ∙ access-done flags to_read a s (next (give s rd (load_bytes s.mem a 4))) even good

-- the state after a word is stored
abbrev pub stored : State → (a x : ℕ) → State
stored s a x = record { pc = after s.pc; regs = s.regs; mem = store_bytes s.mem a x 4 }

pub store-acts : (flags : ℕ → ℕ) (s : State) (rs rd d a : ℕ) → offset (look s.regs rs) d ≡ a → a % 4 ≡ 0 → allowed flags to_write a 4 ≡ true
    → act flags (Sw rs rd d) s ≡ next (stored s a (look s.regs rd))
unfolding act
store-acts flags s rs rd d a place even good =
    ap (λ n. access flags to_write 4 n s (next (stored s n (look s.regs rd)))) place
    ∙ access-done flags to_write a s (next (stored s a (look s.regs rd))) even good

-- an address in two parts
far-address : (u l o p : ℕ) → (u * 2 ^ 12 + l) % 2 ^ 32 ≡ o → p + o < 2 ^ 32 → ((u * 2 ^ 12 + p) % 2 ^ 32 + l) % 2 ^ 32 ≡ p + o
far-address u l o p parts low = omega (arith, parts, low)

-- Up to address b a value is written to a location: no memory changes but its word, and no register but its own and temporaries.
pub record Writes (text : Text) (f : Frame) (s : State) (b : ℕ) (l : Location) (v : Value) : Type 0 where
  pub state : State
  pub steps : Steps text.flags s state
  pub pc : state.pc ≡ b
  pub shows : Shows f.bases v (held f.sp state.regs state.mem l)
  pub registers : (r : ℕ) → IsNoTemporary r → IsOtherRegister l r → state.regs r ≡ s.regs r
  pub memory : (a : ℕ) → IsOtherAddress f l a → state.mem a ≡ s.mem a

-- An operand is in a register, and nothing else has changed but the register that it was loaded to and t2.
pub record Operand (text : Text) (s : State) (b scratch : ℕ) (l : Location) (x : ℕ) : Type 0 where
  pub state : State
  pub steps : Steps text.flags s state
  pub pc : state.pc ≡ b
  pub is : state.regs (in_of l scratch) ≡ x
  pub others : (r : ℕ) → r ≢ scratch → r ≢ t2 → state.regs r ≡ s.regs r
  pub mem : state.mem ≡ s.mem

module _ (text : Text) (f : Frame) (words : HasWords text f) where
  readable : (o : ℕ) → f.sp + o + 4 ≤ words_end f → allowed text.flags to_read (f.sp + o) 4 ≡ true
  readable o end = flags_allow text.flags to_read (f.sp + o) 4 (λ j below. words.readable (f.sp + o + j) (omega arith) (omega (arith, end, below)))

  writable : (o : ℕ) → f.sp + o + 4 ≤ words_end f → allowed text.flags to_write (f.sp + o) 4 ≡ true
  writable o end = flags_allow text.flags to_write (f.sp + o) 4 (λ j below. words.writable (f.sp + o + j) (omega arith) (omega (arith, end, below)))

  even : (o : ℕ) → o % 4 ≡ 0 → (f.sp + o) % 4 ≡ 0
  even o e = let base = words.aligned in omega (arith, e, base)

  near : (o n : ℕ) → n ≡ f.sp → f.sp + o + 4 ≤ words_end f → offset n o ≡ f.sp + o
  near o n e end = let low = words.low in omega (arith, e, end, low)

  -- the upper part of a far word's address
  far-starts : (s : State) (b o : ℕ) (i : Instr) → HasText text s.mem → s.regs sp ≡ f.sp
      → CodeStands text s.pc (Lui t2 (upper_part o) ∷ Add t2 t2 sp ∷ i ∷ []) b → b < 2 ^ 32
      → Computes text s (s.pc + 4 + 4) t2 ((upper_part o * 2 ^ 12 + f.sp) % 2 ^ 32)
  unfolding act
  far-starts s b o i has stack code low =
      let end : s.pc + 4 + 4 + 4 ≡ b = code.1.1.1 in
      two-compute text s (s.pc + 4 + 4) (Lui t2 (upper_part o)) (Add t2 t2 sp) t2 (upper_part o * 2 ^ 12) t2 ((upper_part o * 2 ^ 12 + f.sp) % 2 ^ 32) has
      (code.0, (code.1.0, refl)) (omega (arith, end, low)) (omega arith) (omega arith) (inl refl) refl
      (λ u is others mem.
      let base : u.regs sp ≡ f.sp = others sp (omega arith) (omega arith) ∙ stack in
      λ j. next (give u t2 ((is j + base j) % 2 ^ 32)))

  pub get-done : (s : State) (b rd : ℕ) (l : Location) (v : Value) → HasText text s.mem → s.regs sp ≡ f.sp → LocationFits f l
      → CodeStands text s.pc (get rd l) b → b < 2 ^ 32
      → rd ≢ 0 → Shows f.bases v (held f.sp s.regs s.mem l) → (x : ℕ) × Shows f.bases v x × Computes text s b rd x
  unfolding act
  get-done s b rd (Register r) v has stack fits code low ne shows =
      let above = place-above r fits in (
        s.regs r % 2 ^ 32,
        shows-word f.bases v (s.regs r) shows,
        one-computes text s b (Addi rd r 0) rd (s.regs r % 2 ^ 32) has code low ne
            (ap (λ n. next (give s rd n)) (ap (λ n. (n + 0) % 2 ^ 32) (look-at s.regs r (omega (arith, above)))
            ∙ (let e : (s.regs r + 0) % 2 ^ 32 ≡ s.regs r % 2 ^ 32 = omega arith in e))),
      )
  get-done s b rd (Near o) v has stack fits code low ne shows = (
    load_bytes s.mem (f.sp + o) 4,
    shows,
    one-computes text s b (Lw rd sp o) rd (load_bytes s.mem (f.sp + o) 4) has code low ne
        (load-acts text.flags s rd sp o (f.sp + o) (near o (s.regs sp) stack fits.1) (even o fits.0) (readable o fits.1)),
  )
  get-done s b rd (Far o) v has stack fits code low ne shows =
      let end = fits.1 in
      let top = words.low in
      let one = far-starts s b o (Lw rd t2 (low_part o)) has stack code low in
      let address = ap (λ n. (n + low_part o) % 2 ^ 32) one.holds
      ∙ far-address (upper_part o) (low_part o) o f.sp (parts_make_word o (omega (arith, end, top))) (omega (arith, end, top)) in (
        load_bytes s.mem (f.sp + o) 4,
        shows,
        computes-then text s (s.pc + 4 + 4) b t2 ((upper_part o * 2 ^ 12 + f.sp) % 2 ^ 32) rd (load_bytes s.mem (f.sp + o) 4) one (inr refl)
            (one-computes text one.state b (Lw rd t2 (low_part o)) rd (load_bytes s.mem (f.sp + o) 4)
            (text-after text s (s.pc + 4 + 4) t2 ((upper_part o * 2 ^ 12 + f.sp) % 2 ^ 32) one has)
            (code-after text s b (s.pc + 4 + 4) t2 ((upper_part o * 2 ^ 12 + f.sp) % 2 ^ 32) (Lw rd t2 (low_part o) ∷ []) one code.1.1) low ne
            (load-acts text.flags one.state rd t2 (low_part o) (f.sp + o) address (even o fits.0) (readable o fits.1)
            ∙ ap (λ m. next (give one.state rd (load_bytes m (f.sp + o) 4))) one.mem)),
      )

  -- ---- operands

  operand-loaded : (s : State) (b scratch : ℕ) (l : Location) (x : ℕ) → in_of l scratch ≡ scratch → Computes text s b scratch x → Operand text s b scratch l x
  operand-loaded s b scratch l x e h = record {
    state = h.state;
    steps = h.steps;
    pc = h.pc;
    is = ap (h.state.regs) e ∙ h.holds;
    others = h.others;
    mem = h.mem;
  }

  pub operand-done : (s : State) (b scratch : ℕ) (l : Location) (v : Value) → HasText text s.mem → s.regs sp ≡ f.sp → LocationFits f l
      → CodeStands text s.pc (load_in scratch l) b
      → b < 2 ^ 32 → scratch ≢ 0 → Shows f.bases v (held f.sp s.regs s.mem l) → (x : ℕ) × Shows f.bases v x × Operand text s b scratch l x
  operand-done s b scratch (Register r) v has stack fits code low ne shows =
      (s.regs r, shows, record { state = s; steps = steps-none text.flags s; pc = code; is = refl; others = λ q a c. refl; mem = refl })
  operand-done s b scratch (Near o) v has stack fits code low ne shows =
      let h = get-done s b scratch (Near o) v has stack fits code low ne shows in (h.0, h.1, operand-loaded s b scratch (Near o) h.0 refl h.2)
  operand-done s b scratch (Far o) v has stack fits code low ne shows =
      let h = get-done s b scratch (Far o) v has stack fits code low ne shows in (h.0, h.1, operand-loaded s b scratch (Far o) h.0 refl h.2)

  -- ---- results

  -- a word that is stored at an offset from the stack pointer
  word-written : (s : State) (b o x : ℕ) (v : Value) → s.pc + 4 ≡ b → b < 2 ^ 32 → Shows f.bases v x
      → Shows f.bases v (load_bytes (stored s (f.sp + o) x).mem (f.sp + o) 4)
  word-written s b o x v end low shows =
      subst (Shows f.bases v) (sym (stored_is_loaded s.mem (f.sp + o) x 4)) (shows-word f.bases v x shows)

  left-elsewhere : (s : State) (o x a : ℕ) → (a < f.sp + o) ⊎ (f.sp + o + 4 ≤ a) → (stored s (f.sp + o) x).mem a ≡ s.mem a
  left-elsewhere s o x a (inl before) = store_leaves_others s.mem (f.sp + o) x 4 a (inl (omega (arith, before)))
  left-elsewhere s o x a (inr beyond) = store_leaves_others s.mem (f.sp + o) x 4 a (inr (omega (arith, beyond)))

  pub put-done : (s : State) (b rs x : ℕ) (l : Location) (v : Value) → HasText text s.mem → s.regs sp ≡ f.sp → LocationFits f l
      → CodeStands text s.pc (put l rs) b → b < 2 ^ 32
      → rs ≢ 0 → rs ≢ t2 → s.regs rs ≡ x → Shows f.bases v x → Writes text f s b l v
  unfolding act
  put-done s b rs x (Register r) v has stack fits code low ne far is shows =
      let above = place-above r fits in
      let one = one-computes text s b (Addi r rs 0) r (x % 2 ^ 32) has code low (omega (arith, above))
      (ap (λ n. next (give s r n)) (ap (λ n. (n + 0) % 2 ^ 32) (look-at s.regs rs ne ∙ is) ∙ (let e : (x + 0) % 2 ^ 32 ≡ x % 2 ^ 32 = omega arith in e))) in
      record {
        state = one.state;
        steps = one.steps;
        pc = one.pc;
        shows = subst (Shows f.bases v) (sym one.holds) (shows-word f.bases v x shows);
        registers = λ q side other. one.others q other (kept q side);
        memory = λ a other. ap (λ m. m a) one.mem;
      }
    where
      kept : (q : ℕ) → IsNoTemporary q → q ≢ t2
      kept q side = temporary-apart q t2 side (omega arith) (omega arith)
  put-done s b rs x (Near o) v has stack fits code low ne far is shows =
      let end = code.1 in
      record {
        state = stored s (f.sp + o) x;
        steps =
            step-to text s (stored s (f.sp + o) x) (Sw sp rs o) has code.0
            (store-acts text.flags s sp rs o (f.sp + o) (near o (s.regs sp) stack fits.1) (even o fits.0) (writable o fits.1)
            ∙ ap (λ n. next (stored s (f.sp + o) n)) (look-at s.regs rs ne ∙ is));
        pc = omega (arith, end, low);
        shows = word-written s b o x v end low shows;
        registers = λ q side other. refl;
        memory = λ a other. left-elsewhere s o x a other;
      }
  put-done s b rs x (Far o) v has stack fits code low ne far is shows =
      let close = fits.1 in
      let top = words.low in
      let one = far-starts s b o (Sw t2 rs (low_part o)) has stack code low in
      let address = ap (λ n. (n + low_part o) % 2 ^ 32) one.holds
      ∙ far-address (upper_part o) (low_part o) o f.sp (parts_make_word o (omega (arith, close, top))) (omega (arith, close, top)) in
      let m = s.pc + 4 + 4 in
      let there = code-after text s b m t2 ((upper_part o * 2 ^ 12 + f.sp) % 2 ^ 32) (Sw t2 rs (low_part o) ∷ []) one code.1.1 in
      let here = text-after text s m t2 ((upper_part o * 2 ^ 12 + f.sp) % 2 ^ 32) one has in
      let end = there.1 in
      record {
        state = stored one.state (f.sp + o) x;
        steps =
            steps-then text.flags s one.state (stored one.state (f.sp + o) x) one.steps
            (step-to text one.state (stored one.state (f.sp + o) x) (Sw t2 rs (low_part o)) here there.0
            (store-acts text.flags one.state t2 rs (low_part o) (f.sp + o) address (even o fits.0) (writable o fits.1)
            ∙ ap (λ n. next (stored one.state (f.sp + o) n)) (look-at one.state.regs rs ne ∙ one.others rs far far ∙ is)));
        pc = omega (arith, end, low);
        shows = word-written one.state b o x v end low shows;
        registers = λ q side other. one.others q (kept q side) (kept q side);
        memory = λ a other. left-elsewhere one.state o x a other ∙ ap (λ n. n a) one.mem;
      }
    where
      kept : (q : ℕ) → IsNoTemporary q → q ≢ t2
      kept q side = temporary-apart q t2 side (omega arith) (omega arith)

  -- a result that is in the register of its location, or in t0
  pub result-stored : (s : State) (b x : ℕ) (l : Location) (v : Value) → HasText text s.mem → s.regs sp ≡ f.sp → LocationFits f l
      → CodeStands text s.pc (store_out l) b → b < 2 ^ 32
      → s.regs (out_of l) ≡ x → Shows f.bases v x → Writes text f s b l v
  result-stored s b x (Register r) v has stack fits code low is shows = record {
    state = s;
    steps = steps-none text.flags s;
    pc = code;
    shows = subst (Shows f.bases v) (sym is) shows;
    registers = λ q side other. refl;
    memory = λ a other. refl;
  }
  result-stored s b x (Near o) v has stack fits code low is shows = put-done s b 5 x (Near o) v has stack fits code low (omega arith) (omega arith) is shows
  result-stored s b x (Far o) v has stack fits code low is shows = put-done s b 5 x (Far o) v has stack fits code low (omega arith) (omega arith) is shows
