-- Clearing an object on the machine, a word a turn.
use Rattle.std.proofs.Common.{◌≡◌, ◌≢◌, ◌⊎◌, ℕ, zero, suc, ◌+◌, ◌-◌, ◌*◌, ◌/◌, ◌%◌, ◌^◌, ◌<◌, ◌≤◌, ◌==◌, nat_lt, true, false, cond, List, [], ◌∷◌, ◌++◌, Some, slice_get, refl, sym, ap, ap₂, subst, ◌∙◌, arith, inl, inr, eq-eqb, eqb-true}
use Rattle.std.proofs.lemmas.Option.{same_Some}
use Rattle.std.proofs.lemmas.Bool.{cases_lt, cases_Bool, eqb-false, lt-ltb, le-ltb, both_ways}
use Rattle.val_core.specs.declared.values.BlockName.{BlockName}
use Rattle.val_core.specs.declared.values.Value.{Value}
use Rattle.val_core.specs.declared.values.Value.TheVariants.{Num, At}
use Rattle.val_core.specs.Memory.{Memory, Block, shape_of, block_named, load, cleared}
use Rattle.val_core.specs.MemoryLaws.{LoadAfterClear, ClearElsewhere, ClearKeepsBlocks}
use Rattle.rv_isa.specs.Registers.{x0, sp, t0, t1}
use Rattle.rv_isa.specs.declared.instruction.Instr.{Instr}
use Rattle.rv_isa.specs.declared.instruction.Instr.TheVariants.{Sw, Addi, Add, Bltu}
use Rattle.rv_machine.specs.Machine.{State, next, act, give, look, offset, after}
use Rattle.rv_machine.specs.Memory.{Bytes, load_bytes, store_bytes, has_flag, to_write}
use Rattle.rv_machine.proofs.lemmas.Stores.{stored_is_loaded, store_leaves_others, load-agrees}
use Rattle.rv_machine.proofs.lemmas.Texts.{flags_allow}
use Rattle.s_select.specs.Operands.{negative, load_immediate}
use Rattle.rv_machine.specs.Standing.{Text, HasText, CodeStands}
use Rattle.s_select_keeps.specs.Relation.{IsKept, Bases, Shows, Lives, BlockFits, ShowsMemory, AreLaidOut}
use Rattle.s_select_keeps.specs.Steps.{Steps, Arrives}
use Rattle.s_select_keeps.specs.Memories.{ClearIsDone}
use Rattle.rv_machine.proofs.lemmas.Standing.{code_is_cut}
use Rattle.s_select_keeps.proofs.Registers.{Computes, steps-then, step-to, look-at, code-le, first-computes, code-after, immediate-loads}
use Rattle.s_select_keeps.proofs.Locations.{kept-apart}
use Rattle.s_select_keeps.proofs.Operands.{stored, store-acts}
use Rattle.s_select_keeps.proofs.lemmas.Blocks.{before-or-after, leaf-of-value, value-there, leaf-there}
use Rattle.s_select_keeps.proofs.Stores.{SameBlocks, same-back, fellow, alike, leaf-same, laid-same}
use Rattle.s_select_keeps.proofs.Represented.{memory-written}

-- the bytes of a zero that is stored
zero-stored : (mem : Bytes) (a n : ℕ) → a ≤ n → n < a + 4 → store_bytes mem a 0 4 n ≡ 0
unfolding load_bytes
zero-stored mem a n from to =
    let m = store_bytes mem a 0 4 in
    let all : m a + 256 * (m (suc a) + 256 * (m (suc (suc a)) + 256 * (m (suc (suc (suc a))) + 256 * 0))) ≡ 0 =
    stored_is_loaded mem a 0 4 ∙ (let e : 0 % 2 ^ (8 * 4) ≡ 0 = omega arith in e) in
    let b0 : m a ≡ 0 = omega (arith, all) in
    let b1 : m (suc a) ≡ 0 = omega (arith, all) in
    let b2 : m (suc (suc a)) ≡ 0 = omega (arith, all) in
    let b3 : m (suc (suc (suc a))) ≡ 0 = omega (arith, all) in
    elim (cases_lt n (suc a)) [
      | inl l ↦ (let e : n ≡ a = omega (arith, l, from) in ap m e ∙ b0)
      | inr g ↦
          elim (cases_lt n (suc (suc a))) [
            | inl l ↦ (let e : n ≡ suc a = omega (arith, l, g) in ap m e ∙ b1)
            | inr h ↦
                elim (cases_lt n (suc (suc (suc a)))) [
                  | inl l ↦ (let e : n ≡ suc (suc a) = omega (arith, l, h) in ap m e ∙ b2)
                  | inr k ↦ (let e : n ≡ suc (suc (suc a)) = omega (arith, to, k) in ap m e ∙ b3)
                ]
          ]
    ]

no-bytes : Bytes
no-bytes = λ a. 0

load-none : (a k : ℕ) → load_bytes no-bytes a k ≡ 0
unfolding load_bytes no-bytes
load-none a zero = refl
load-none a (suc k) = rw (load-none (suc a) k) (omega arith)

load-zero : (mem : Bytes) (a k : ℕ) → ((j : ℕ) → j < k → mem (a + j) ≡ 0) → load_bytes mem a k ≡ 0
unfolding no-bytes
load-zero mem a k none = load-agrees no-bytes mem a k none ∙ load-none a k

-- the instructions of a turn
abbrev turn-code : List Instr
turn-code = Sw t0 x0 0 ∷ Addi t0 t0 4 ∷ Bltu t0 t1 (negative 8) ∷ []

module _ (text : Text) where
  -- a word is cleared, and the address goes on by 4
  record Turned (s : State) (b x e : ℕ) : Type 0 where
    state : State
    steps : Steps text.flags s state
    pc : state.pc ≡ cond (nat_lt (x + 4) e) s.pc b
    address : state.regs t0 ≡ x + 4
    others : (r : ℕ) → r ≢ t0 → r ≢ 7 → state.regs r ≡ s.regs r
    mem : state.mem ≡ store_bytes s.mem x 0 4

  text-kept : (s : State) (x : ℕ) → HasText text s.mem → ((a : ℕ) → x ≤ a → a < x + 4 → has_flag (text.flags a) to_write ≡ true) → HasText text (store_bytes s.mem x 0 4)
  text-kept s x has writable a fixed =
      by (before-or-after a x 4 (λ from to. both_ways (has_flag (text.flags a) to_write) fixed (writable a from to))) ∙ has a fixed
    where
      by : (a < x) ⊎ (x + 4 ≤ a) → store_bytes s.mem x 0 4 a ≡ s.mem a
      by (inl before) = store_leaves_others s.mem x 0 4 a (inl (omega (arith, before)))
      by (inr beyond) = store_leaves_others s.mem x 0 4 a (inr beyond)

  turns : (s : State) (b x e : ℕ) → HasText text s.mem → CodeStands text s.pc turn-code b → b < 2 ^ 32 → s.regs t0 ≡ x → s.regs t1 ≡ e → x % 4 ≡ 0 → x + 4 < 2 ^ 32
      → ((a : ℕ) → x ≤ a → a < x + 4 → has_flag (text.flags a) to_write ≡ true) → Turned s b x e
  unfolding act
  turns s b x e has there low is is' even small writable =
      let end : s.pc + 4 + 4 + 4 ≡ b = there.1.1.1 in
      let s1 = stored s x 0 in
      let place : offset (look s.regs t0) 0 ≡ x = ap (λ n. (n + 0) % 2 ^ 32) is ∙ (let p : (x + 0) % 2 ^ 32 ≡ x = omega (arith, small) in p) in
      let good = flags_allow text.flags to_write x 4 (λ j under. writable (x + j) (omega arith) (omega (arith, under))) in
      let pc1 : s1.pc ≡ s.pc + 4 = omega (arith, end, low) in
      let first = step-to text s s1 (Sw t0 x0 0) has there.0 (store-acts text.flags s t0 x0 0 x place even good) in
      let has1 = text-kept s x has writable in
      let code1 = subst (λ a. CodeStands text a (Addi t0 t0 4 ∷ Bltu t0 t1 (negative 8) ∷ []) b) (sym pc1) there.1 in
      let two = first-computes text s1 b (Addi t0 t0 4) (Bltu t0 t1 (negative 8) ∷ []) t0 (x + 4) has1 code1 low (omega arith)
      (ap (λ n. next (give s1 t0 ((n + 4) % 2 ^ 32))) is ∙ ap (λ n. next (give s1 t0 n)) (let p : (x + 4) % 2 ^ 32 ≡ x + 4 = omega (arith, small) in p)) in
      let u = two.state in
      let pc2 : u.pc ≡ s.pc + 4 + 4 = two.pc ∙ ap (λ n. n + 4) pc1 in
      let code2 = code-after text s1 b (s1.pc + 4) t0 (x + 4) (Bltu t0 t1 (negative 8) ∷ []) two code1.1 in
      let bound : u.regs t1 ≡ e = two.others t1 (omega arith) (omega arith) ∙ is' in
      let back : offset u.pc (negative 8) ≡ s.pc = ap (λ n. (n + (2 ^ 32 - 8)) % 2 ^ 32) pc2
      ∙ (let p : (s.pc + 4 + 4 + (2 ^ 32 - 8)) % 2 ^ 32 ≡ s.pc = omega (arith, end, low) in p) in
      let on : after u.pc ≡ b = ap (λ n. (n + 4) % 2 ^ 32) pc2 ∙ (let p : (s.pc + 4 + 4 + 4) % 2 ^ 32 ≡ b = omega (arith, end, low) in p) in
      let target : cond (nat_lt (u.regs t0) (u.regs t1)) (offset u.pc (negative 8)) (after u.pc) ≡ cond (nat_lt (x + 4) e) s.pc b =
      λ i. cond (nat_lt (two.holds i) (bound i)) (back i) (on i) in
      let final : State = record { pc = cond (nat_lt (x + 4) e) s.pc b; regs = u.regs; mem = u.mem } in
      let has2 = subst (HasText text) (sym two.mem) has1 in
      let last = step-to text u final (Bltu t0 t1 (negative 8)) has2 code2.0 (λ i. next (record { pc = target i; regs = u.regs; mem = u.mem })) in
      record {
        state = final;
        steps = steps-then text.flags s s1 final first (steps-then text.flags s1 u final two.steps last);
        pc = refl;
        address = two.holds;
        others = λ r other far. two.others r other far;
        mem = two.mem;
      }

  -- n words from an address on are cleared, and no other byte changes
  record Cleared (s : State) (b x n : ℕ) : Type 0 where
    state : State
    steps : Steps text.flags s state
    pc : state.pc ≡ b
    kept : (r : ℕ) → IsKept r → state.regs r ≡ s.regs r
    zero : (a : ℕ) → x ≤ a → a < x + 4 * n → state.mem a ≡ 0
    rest : (a : ℕ) → (a < x) ⊎ (x + 4 * n ≤ a) → state.mem a ≡ s.mem a

  -- the last turn is the one after which the address is not below the end
  loops : (n : ℕ) (s : State) (b x e : ℕ) → HasText text s.mem → CodeStands text s.pc turn-code b → b < 2 ^ 32 → s.regs t0 ≡ x → s.regs t1 ≡ e → e ≤ x + 4 * suc n
      → (0 < n → e ≡ x + 4 * suc n) → x % 4 ≡ 0
      → x + 4 * suc n < 2 ^ 32 → ((a : ℕ) → x ≤ a → a < x + 4 * suc n → has_flag (text.flags a) to_write ≡ true) → Cleared s b x (suc n)
  loops zero s b x e has there low is is' most exact even small writable =
      let one = turns s b x e has there low is is' even (omega (arith, small)) (λ a from to. writable a from (omega (arith, to))) in
      let done : nat_lt (x + 4) e ≡ false = le-ltb (x + 4) e (omega (arith, most)) in
      record {
        state = one.state;
        steps = one.steps;
        pc = one.pc ∙ ap (λ t. cond t s.pc b) done;
        kept = λ r kept. one.others r (kept-apart r 5 kept (omega arith) (omega arith)) (kept-apart r 7 kept (omega arith) (omega arith));
        zero = λ a from to. ap (λ m. m a) one.mem ∙ zero-stored s.mem x a from (omega (arith, to));
        rest = λ a side. ap (λ m. m a) one.mem ∙ left a side;
      }
    where
      left : (a : ℕ) → (a < x) ⊎ (x + 4 * suc zero ≤ a) → store_bytes s.mem x 0 4 a ≡ s.mem a
      left a (inl before) = store_leaves_others s.mem x 0 4 a (inl (omega (arith, before)))
      left a (inr beyond) = store_leaves_others s.mem x 0 4 a (inr (omega (arith, beyond)))
  loops (suc n) s b x e has there low is is' most exact even small writable =
      let end : e ≡ x + 4 * suc (suc n) = exact (omega arith) in
      let one = turns s b x e has there low is is' even (omega (arith, small)) (λ a from to. writable a from (omega (arith, to))) in
      let u = one.state in
      let more : nat_lt (x + 4) e ≡ true = lt-ltb (x + 4) e (omega (arith, end)) in
      let pc : u.pc ≡ s.pc = one.pc ∙ ap (λ t. cond t s.pc b) more in
      let has' = subst (HasText text) (sym one.mem) (text-kept s x has (λ a from to. writable a from (omega (arith, to)))) in
      let rest = loops n u b (x + 4) e has' (subst (λ a. CodeStands text a turn-code b) (sym pc) there) low one.address (one.others t1 (omega arith) (omega arith) ∙ is')
      (omega (arith, end)) (λ _. (let p : e ≡ x + 4 + 4 * suc n = omega (arith, end) in p)) (omega (arith, even)) (omega (arith, small))
      (λ a from to. writable a (omega (arith, from)) (omega (arith, to))) in
      record {
        state = rest.state;
        steps = steps-then text.flags s u rest.state one.steps rest.steps;
        pc = rest.pc;
        kept = λ r kept. rest.kept r kept ∙ one.others r (kept-apart r 5 kept (omega arith) (omega arith)) (kept-apart r 7 kept (omega arith) (omega arith));
        zero = λ a from to.
            elim (cases_lt a (x + 4)) [
              | inl here ↦ rest.rest a (inl here) ∙ ap (λ m. m a) one.mem ∙ zero-stored s.mem x a from here
              | inr there ↦ rest.zero a there (omega (arith, to))
            ];
        rest = λ a side. rest.rest a (outer a side) ∙ ap (λ m. m a) one.mem ∙ left a side;
      }
    where
      outer : (a : ℕ) → (a < x) ⊎ (x + 4 * suc (suc n) ≤ a) → (a < x + 4) ⊎ (x + 4 + 4 * suc n ≤ a)
      outer a (inl before) = inl (omega (arith, before))
      outer a (inr beyond) = inr (omega (arith, beyond))

      left : (a : ℕ) → (a < x) ⊎ (x + 4 * suc (suc n) ≤ a) → store_bytes s.mem x 0 4 a ≡ s.mem a
      left a (inl before) = store_leaves_others s.mem x 0 4 a (inl (omega (arith, before)))
      left a (inr beyond) = store_leaves_others s.mem x 0 4 a (inr (omega (arith, beyond)))

module _ (zeroed : LoadAfterClear) (elsewhere : ClearElsewhere) (keeps : ClearKeepsBlocks) where
  clear-same : (b : BlockName) (m : Memory) → SameBlocks m (cleared b m)
  clear-same b m = let h = keeps b m in record { shapes = sym h.0; lives = sym h.1; fixed = sym h.2 }

  named-is : (b : BlockName) (k : Block) (m : Memory) → slice_get m b.number ≡ Some k → k.size ≡ b.size → block_named b m ≡ Some k
  named-is b k m there size = let same : (k.size == b.size) ≡ true = eq-eqb k.size b.size size in rw there rw same refl

  clear-shown : (flags : ℕ → ℕ) (bases : Bases) (mem mem' : Bytes) (b : BlockName) (k : Block) (m : Memory) → ShowsMemory flags bases m mem
      → Lives m b.number k → k.size ≡ b.size
      → ((a : ℕ) → bases b.number ≤ a → a < bases b.number + k.size → mem' a ≡ 0) → ((a : ℕ) → (a < bases b.number) ⊎ (bases b.number + k.size + 4 ≤ a) → mem' a ≡ mem a)
      → ShowsMemory flags bases (cleared b m) mem'
  clear-shown flags bases mem mem' b k m shows lives size none left = record { laid = laid; values = values }
    where
      laid : AreLaidOut flags bases (cleared b m)
      laid = laid-same flags bases m (cleared b m) (alike m (cleared b m) (clear-same b m)) shows.laid

      in-block : (w p : ℕ) (c : BlockName) (v : Value) → load w (At c p) (cleared b m) ≡ Some v → b.number ≡ c.number
          → Shows bases v (load_bytes mem' (bases c.number + p) w)
      in-block w p c v loaded number =
          let found = value-there w p c (cleared b m) v loaded in
          let old = fellow (cleared b m) m (same-back m (cleared b m) (clear-same b m)) c.number found.block found.lives in
          let same : old.block ≡ k = same_Some old.block k (sym old.there.there ∙ ap (slice_get m) (sym number) ∙ lives.there) in
          let shape = ap shape_of (sym same) ∙ old.shape in
          let leaf = leaf-same w p k found.block shape (leaf-of-value w p found.block.cells v found.has) in
          let sizes : b.size ≡ c.size = sym size ∙ ap (λ s. s.size) shape ∙ found.size in
          let name : b ≡ c = ap₂ (λ n s. record { number = n; size = s }) number sizes in
          let zero = zeroed w p b k m (named-is b k m lives.there size) lives.live leaf in
          let value : Some (Num 0) ≡ Some v = sym zero ∙ ap (λ n. load w (At n p) (cleared b m)) name ∙ loaded in
          let is : Num 0 ≡ v = cc in
          let within = (shows.laid.leaves b.number w p k lives leaf).within in
          let base = ap bases number in
          let bytes = load-zero mem' (bases c.number + p) w (λ j under. none (bases c.number + p + j) (omega (arith, base)) (omega (arith, base, within, under))) in
          subst (λ z. Shows bases z (load_bytes mem' (bases c.number + p) w)) is (bytes, omega arith)

      apart : (w p : ℕ) (c : BlockName) (v : Value) → load w (At c p) (cleared b m) ≡ Some v → b.number ≢ c.number
          → Shows bases v (load_bytes mem' (bases c.number + p) w)
      apart w p c v loaded ne =
          let was : load w (At c p) m ≡ Some v = sym (elsewhere w p b c m ne) ∙ loaded in
          let found = value-there w p c m v was in
          let within = (leaf-there flags bases m shows.laid w p c v found).within in
          subst (Shows bases v)
          (sym (load-agrees mem mem' (bases c.number + p) w (λ j under. left (bases c.number + p + j)
          (sides (shows.laid.apart b.number c.number k found.block lives found.lives ne) within j under))))
          (shows.values w p c v was)
        where
          sides : {z : ℕ} → (bases b.number + k.size + 4 ≤ bases c.number) ⊎ (bases c.number + z + 4 ≤ bases b.number) → p + w ≤ z → (j : ℕ) → j < w
              → (bases c.number + p + j < bases b.number) ⊎ (bases b.number + k.size + 4 ≤ bases c.number + p + j)
          sides (inl before) within j under = inr (omega (arith, before))
          sides (inr beyond) within j under = inl (omega (arith, beyond, within, under))

      values : (w p : ℕ) (c : BlockName) (v : Value) → load w (At c p) (cleared b m) ≡ Some v → Shows bases v (load_bytes mem' (bases c.number + p) w)
      values w p c v loaded =
          elim (cases_Bool (b.number == c.number)) [
            | inl same ↦ in-block w p c v loaded (eqb-true b.number c.number same)
            | inr differ ↦ apart w p c v loaded (eqb-false b.number c.number differ)
          ]

  -- the words of an object: n and one more
  pub record IsCount (size n : ℕ) : Type 0 where
    pub low : 4 * suc n ≤ size + 4
    pub high : size ≤ 4 * suc n
    pub end : (size + 3) / 4 * 4 ≤ 4 * suc n
    pub exact : 0 < n → (size + 3) / 4 * 4 ≡ 4 * suc n

  count-of : (size : ℕ) → IsCount size ((size + 3) / 4 - 1)
  count-of size = record { low = omega arith; high = omega arith; end = omega arith; exact = λ some. omega (arith, some) }

  -- ---- the registers before the first turn

  record Started (text : Text) (s : State) (e x y : ℕ) : Type 0 where
    state : State
    steps : Steps text.flags s state
    code : CodeStands text state.pc turn-code e
    address : state.regs t0 ≡ x
    end : state.regs t1 ≡ y
    kept : (r : ℕ) → IsKept r → state.regs r ≡ s.regs r
    mem : state.mem ≡ s.mem

  sum-low : (a b : ℕ) → b + a < 2 ^ 32 → (a + b) % 2 ^ 32 ≡ b + a
  sum-low a b low = omega (arith, low)

  -- a register gets a word, and the code after it stands
  record Made (text : Text) (s : State) (e r x : ℕ) (rest : List Instr) : Type 0 where
    state : State
    steps : Steps text.flags s state
    code : CodeStands text state.pc rest e
    holds : state.regs r ≡ x
    others : (q : ℕ) → q ≢ r → q ≢ 7 → state.regs q ≡ s.regs q
    mem : state.mem ≡ s.mem

  -- a register, to which another one is added
  sum-made : (text : Text) (s : State) (m r q x y : ℕ) (rest : List Instr) → HasText text s.mem → CodeStands text s.pc (Add r r q ∷ rest) m → m < 2 ^ 32 → r ≢ 0 → q ≢ 0
      → s.regs r ≡ x → s.regs q ≡ y
      → y + x < 2 ^ 32 → Made text s m r (y + x) rest
  unfolding act
  sum-made text s m r q x y rest has there low ne ne' is is' small = record {
    state = one.state;
    steps = one.steps;
    code = code-after text s m (s.pc + 4) r (y + x) rest one there.1;
    holds = one.holds;
    others = one.others;
    mem = one.mem;
  }
    where
      sum : (look s.regs r + look s.regs q) % 2 ^ 32 ≡ y + x
      sum = ap₂ (λ a b. (a + b) % 2 ^ 32) (look-at s.regs r ne ∙ is) (look-at s.regs q ne' ∙ is') ∙ sum-low x y small

      one : Computes text s (s.pc + 4) r (y + x)
      one = first-computes text s m (Add r r q) rest r (y + x) has there low ne (ap (λ n. next (give s r n)) sum)

  immediate-made : (text : Text) (s : State) (m e r w : ℕ) (rest : List Instr) → HasText text s.mem → CodeStands text s.pc (load_immediate r w) m
      → CodeStands text m rest e → m < 2 ^ 32 → r ≢ 0 → w < 2 ^ 32
      → Made text s e r w rest
  immediate-made text s m e r w rest has there more low ne small = record {
    state = one.state;
    steps = one.steps;
    code = subst (λ a. CodeStands text a rest e) (sym one.pc) more;
    holds = one.holds;
    others = one.others;
    mem = one.mem;
  }
    where
      one : Computes text s m r w
      one = immediate-loads text s m r w has there low ne small

  -- one after the other, in the same register
  then-made : (text : Text) (s : State) (e r x y : ℕ) (mid rest : List Instr) → (one : Made text s e r x mid) → Made text one.state e r y rest → Made text s e r y rest
  then-made text s e r x y mid rest one two = record {
    state = two.state;
    steps = steps-then text.flags s one.state two.state one.steps two.steps;
    code = two.code;
    holds = two.holds;
    others = λ q other far. two.others q other far ∙ one.others q other far;
    mem = two.mem ∙ one.mem;
  }

  -- the address of the object in t0
  address-made : (text : Text) (s : State) (m o p : ℕ) (rest : List Instr) → HasText text s.mem → s.regs sp ≡ p
      → CodeStands text s.pc (load_immediate t0 o ++ Add t0 t0 sp ∷ rest) m → m < 2 ^ 32
      → p + o < 2 ^ 32 → Made text s m t0 (p + o) rest
  address-made text s m o p rest has stack there low small = then-made text s m t0 o (p + o) (Add t0 t0 sp ∷ rest) rest one two
    where
      cut : (c : ℕ) × CodeStands text s.pc (load_immediate t0 o) c × CodeStands text c (Add t0 t0 sp ∷ rest) m
      cut = code_is_cut text s.pc m (load_immediate t0 o) (Add t0 t0 sp ∷ rest) there

      below : cut.0 < 2 ^ 32
      below = let le = code-le text cut.0 (Add t0 t0 sp ∷ rest) m cut.2 in omega (arith, le, low)

      one : Made text s m t0 o (Add t0 t0 sp ∷ rest)
      one = immediate-made text s cut.0 m t0 o (Add t0 t0 sp ∷ rest) has cut.1 cut.2 below (omega arith) (omega (arith, small))

      two : Made text one.state m t0 (p + o) rest
      two =
          sum-made text one.state m t0 sp o p rest (subst (HasText text) (sym one.mem) has) one.code low (omega arith) (omega arith) one.holds
          (one.others sp (omega arith) (omega arith) ∙ stack) small

  -- the address after it in t1
  end-made : (text : Text) (s : State) (m e x w : ℕ) (rest : List Instr) → HasText text s.mem → s.regs t0 ≡ x → CodeStands text s.pc (load_immediate t1 w) m
      → CodeStands text m (Add t1 t1 t0 ∷ rest) e
      → e < 2 ^ 32 → x + w < 2 ^ 32 → Made text s e t1 (x + w) rest
  end-made text s m e x w rest has is there more low small = then-made text s e t1 w (x + w) (Add t1 t1 t0 ∷ rest) rest one two
    where
      below : m < 2 ^ 32
      below = let le = code-le text m (Add t1 t1 t0 ∷ rest) e more in omega (arith, le, low)

      one : Made text s e t1 w (Add t1 t1 t0 ∷ rest)
      one = immediate-made text s m e t1 w (Add t1 t1 t0 ∷ rest) has there more below (omega arith) (omega (arith, small))

      two : Made text one.state e t1 (x + w) rest
      two =
          sum-made text one.state e t1 t0 w x rest (subst (HasText text) (sym one.mem) has) one.code low (omega arith) (omega arith) one.holds
          (one.others t0 (omega arith) (omega arith) ∙ is) small

  starts : (text : Text) (s : State) (e o p w : ℕ) → HasText text s.mem → s.regs sp ≡ p
      → CodeStands text s.pc (load_immediate t0 o ++ Add t0 t0 sp ∷ load_immediate t1 w ++ Add t1 t1 t0 ∷ turn-code) e → e < 2 ^ 32 → p + o < 2 ^ 32 → p + o + w < 2 ^ 32
      → Started text s e (p + o) (p + o + w)
  starts text s e o p w has stack there low small top = record {
    state = two.state;
    steps = steps-then text.flags s one.state two.state one.steps two.steps;
    code = two.code;
    address = two.others t0 (omega arith) (omega arith) ∙ one.holds;
    end = two.holds;
    kept = λ r kept.
        let far7 = kept-apart r 7 kept (omega arith) (omega arith) in
        two.others r (kept-apart r 6 kept (omega arith) (omega arith)) far7 ∙ one.others r (kept-apart r 5 kept (omega arith) (omega arith)) far7;
    mem = two.mem ∙ one.mem;
  }
    where
      cut : (c : ℕ) × CodeStands text s.pc (load_immediate t0 o ++ Add t0 t0 sp ∷ load_immediate t1 w) c × CodeStands text c (Add t1 t1 t0 ∷ turn-code) e
      cut = code_is_cut text s.pc e (load_immediate t0 o ++ Add t0 t0 sp ∷ load_immediate t1 w) (Add t1 t1 t0 ∷ turn-code) there

      below : cut.0 < 2 ^ 32
      below = let le = code-le text cut.0 (Add t1 t1 t0 ∷ turn-code) e cut.2 in omega (arith, le, low)

      one : Made text s cut.0 t0 (p + o) (load_immediate t1 w)
      one = address-made text s cut.0 o p (load_immediate t1 w) has stack cut.1 below small

      two : Made text one.state e t1 (p + o + w) turn-code
      two = end-made text one.state cut.0 e (p + o) w turn-code (subst (HasText text) (sym one.mem) has) one.holds one.code cut.2 low top

  pub clear_is_done : ClearIsDone
  clear_is_done text f q s words rep o b k lives size free base e there low =
      whole ((b.size + 3) / 4 - 1) ((b.size + 3) / 4 * 4) (count-of b.size).low (count-of b.size).high (count-of b.size).end (count-of b.size).exact there
    where
      fit : BlockFits text.flags (f.bases b.number) k
      fit = rep.memory.laid.blocks_fit b.number k lives

      top-of : (base p n size z : ℕ) → base + z + 4 < 2 ^ 32 → z ≡ size → base ≡ p → 4 * suc n ≤ size + 4 → p + 4 * suc n < 2 ^ 32
      top-of base p n size z high same at count = omega (arith, high, same, at, count)

      even-of : (base p : ℕ) → base % 4 ≡ 0 → base ≡ p → p % 4 ≡ 0
      even-of base p even at = omega (arith, even, at)

      inside : (a p base n size z : ℕ) → base ≡ p → z ≡ size → 4 * suc n ≤ size + 4 → a < p + 4 * suc n → a < base + z + 4
      inside a p base n size z at same count to = omega (arith, at, same, count, to)

      whole : (n w : ℕ) → 4 * suc n ≤ b.size + 4 → b.size ≤ 4 * suc n → w ≤ 4 * suc n → (0 < n → w ≡ 4 * suc n)
          → CodeStands text s.pc (load_immediate t0 o ++ Add t0 t0 sp ∷ load_immediate t1 w ++ Add t1 t1 t0 ∷ turn-code) e
          → Arrives text f e (record { names = q.names; memory = cleared b q.memory; input = q.input }) s
      whole n w count least end exact code =
          let x : ℕ = f.sp + o in
          let top = top-of (f.bases b.number) x n b.size k.size fit.high size base count in
          let writes : (a : ℕ) → x ≤ a → a < x + 4 * suc n → has_flag (text.flags a) to_write ≡ true =
          (λ a from to.
          let under = inside a x (f.bases b.number) n b.size k.size base size count to in
          let at : f.bases b.number + (a - f.bases b.number) ≡ a = omega (arith, from, base) in
          subst (λ z. has_flag (text.flags z) to_write ≡ true) at (fit.writable free (a - f.bases b.number) (omega (arith, under, from, base)))) in
          let first = starts text s e o f.sp w rep.has_text rep.stack code low (omega (arith, top)) (omega (arith, top, end)) in
          let u = first.state in
          let c = loops text n u e x (x + w) (subst (HasText text) (sym first.mem) rep.has_text) first.code low first.address first.end (omega (arith, end))
          (λ some. let same = exact some in ap (λ z. x + z) same) (even-of (f.bases b.number) x fit.aligned base) top writes in
          record {
            state = c.state;
            steps = steps-then text.flags s u c.state first.steps c.steps;
            pc = c.pc;
            shows =
                memory-written text f words q s c.state (cleared b q.memory) rep (clear-same b q.memory) (λ r kept. c.kept r kept ∙ first.kept r kept)
                (λ a out.
                c.rest a
                (before-or-after a x (4 * suc n)
                (λ from to.
                out
                (record {
                  number = b.number;
                  block = k;
                  lives = lives;
                  low = omega (arith, from, base);
                  high = inside a x (f.bases b.number) n b.size k.size base size count to;
                })))
                ∙ ap (λ m. m a) first.mem)
                (λ a fixed.
                c.rest a (before-or-after a x (4 * suc n) (λ from to. both_ways (has_flag (text.flags a) to_write) fixed (writes a from to))) ∙ ap (λ m. m a) first.mem)
                (clear-shown text.flags f.bases s.mem c.state.mem b k q.memory rep.memory lives size
                (λ a from to. c.zero a (omega (arith, from, base)) (omega (arith, to, base, size, least)))
                (λ a side. c.rest a (outer a n count side) ∙ ap (λ m. m a) first.mem));
          }
        where
          outer : (a m : ℕ) → 4 * suc m ≤ b.size + 4 → (a < f.bases b.number) ⊎ (f.bases b.number + k.size + 4 ≤ a) → (a < f.sp + o) ⊎ (f.sp + o + 4 * suc m ≤ a)
          outer a m count (inl before) = inl (omega (arith, before, base))
          outer a m count (inr beyond) = inr (omega (arith, beyond, base, size, count))
