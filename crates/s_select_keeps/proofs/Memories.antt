-- A load on the machine gives what shows the value at the address.
use Rattle.std.proofs.Common.{◌≡◌, ◌⊎◌, ℕ, ◌+◌, ◌-◌, ◌%◌, ◌^◌, ◌<◌, ◌≤◌, true, [], ◌∷◌, ◌++◌, None, Some, refl, sym, ap, subst, ◌∙◌, append_assoc, arith, inl, inr, eq-eqb}
use Rattle.std.proofs.lemmas.Bool.{both_ways}
use Rattle.val_core.specs.declared.values.BlockName.{BlockName}
use Rattle.val_core.specs.declared.values.Value.{Value}
use Rattle.val_core.specs.declared.values.Value.TheVariants.{Num, At, Bad}
use Rattle.val_core.specs.Memory as mem
use Rattle.val_core.specs.MemoryLaws.{LoadAfterStore, LoadElsewhere, StoreKeepsBlocks}
use Rattle.rv_isa.specs.Registers.{t0, t1}
use Rattle.rv_machine.specs.Machine as machine
use Rattle.rv_machine.specs.Machine.{Effect, next, act, give, look, offset, after, access}
use Rattle.rv_machine.specs.Memory.{load_bytes, store_bytes, allowed, has_flag, IsWidth, to_read, to_write}
use Rattle.rv_machine.proofs.lemmas.Stores.{store_leaves_others}
use Rattle.rv_machine.proofs.lemmas.Texts.{flags_allow}
use Rattle.s_select.specs.Operands.{location_of, in_of, load_in, out_of, store_out}
use Rattle.s_select.specs.Templates.{load_instr, store_instr}
use Rattle.rv_machine.specs.Standing.{CodeStands}
use Rattle.s_select_keeps.specs.Relation.{Shows, ShowsMemory}
use Rattle.s_select_keeps.specs.Memories.{LoadIsDone, StoreIsDone}
use Rattle.s_select_keeps.proofs.Registers.{steps-then, step-to, look-at, one-computes}
use Rattle.s_select_keeps.proofs.Locations.{temporary-apart, kept-apart, location-fits, held-same}
use Rattle.s_select_keeps.proofs.lemmas.Blocks.{before-or-after, value-there, address-there, leaf-there}
use Rattle.s_select_keeps.proofs.Stores.{same-blocks, stored-there, store-shown}
use Rattle.s_select_keeps.proofs.Represented.{place-written, memory-written}
use Rattle.s_select_keeps.proofs.Templates.{in-apart, out-apart, made, loads, finishes, writes-after}

-- ---- accesses of each width

access-goes : (flags : ℕ → ℕ) (flag width a : ℕ) (s : machine.State) (effect : Effect) → a % width ≡ 0 → allowed flags flag a width ≡ true
    → access flags flag width a s effect ≡ effect
access-goes flags flag width a s effect even good = rw (eq-eqb (a % width) 0 even, good) refl

-- a load of a width, from the address in a register
abbrev LoadActs : ℕ → Type 0
LoadActs width =
    (flags : ℕ → ℕ) (s : machine.State) (rd r a : ℕ) → offset (look s.regs r) 0 ≡ a → a % width ≡ 0 → allowed flags to_read a width ≡ true
    → act flags (load_instr width rd r) s ≡ next (give s rd (load_bytes s.mem a width))

load-goes : (flags : ℕ → ℕ) (width : ℕ) (s : machine.State) (rd r a : ℕ) → offset (look s.regs r) 0 ≡ a → a % width ≡ 0 → allowed flags to_read a width ≡ true
    → machine.load flags width (λ n. n) rd r 0 s ≡ next (give s rd (load_bytes s.mem a width))
load-goes flags width s rd r a place even good =
    ap (λ n. access flags to_read width n s (next (give s rd (load_bytes s.mem n width)))) place
    ∙ access-goes flags to_read width a s (next (give s rd (load_bytes s.mem a width))) even good

load-1 : LoadActs 1
unfolding act
load-1 flags s rd r a place even good = load-goes flags 1 s rd r a place even good

load-2 : LoadActs 2
unfolding act
load-2 flags s rd r a place even good = load-goes flags 2 s rd r a place even good

load-4 : LoadActs 4
unfolding act
load-4 flags s rd r a place even good = load-goes flags 4 s rd r a place even good

load-acts-at : (width : ℕ) → IsWidth width → LoadActs width
load-acts-at width (inl e) = subst LoadActs (sym e) load-1
load-acts-at width (inr (inl e)) = subst LoadActs (sym e) load-2
load-acts-at width (inr (inr e)) = subst LoadActs (sym e) load-4

pub load_is_done : LoadIsDone
load_is_done text f q s words rep width t a v below within loaded b there low =
    let l = location_of f.temporaries t in
    let la = location_of f.temporaries a in
    let fits = location-fits f t below in
    let fitsa = location-fits f a within in
    let source = address-there width (q.names a) q.memory v loaded in
    let k = source.0 in
    let o = source.1 in
    let read = subst (λ x. mem.load width x q.memory ≡ Some v) source.2 loaded in
    let from = value-there width o k q.memory v read in
    let leaf = leaf-there text.flags f.bases q.memory rep.memory.laid width o k v from in
    let instr = load_instr width (out_of l) (in_of la t0) in
    let whole = subst (λ c. CodeStands text s.pc c b) (append_assoc (load_in t0 la) (instr ∷ []) (store_out l)) there in
    let one = loads text f words s b 5 la (q.names a) (instr ∷ store_out l) rep.has_text rep.stack fitsa whole low (omega arith) (omega arith) (rep.places a within) in
    let u = one.operand.state in
    let shown = subst (λ x. Shows f.bases x one.word) source.2 one.shows in
    let is = shown.is in
    let inside = shown.within in
    let high = shown.high in
    let end = leaf.within in
    let size = from.size in
    let fit = rep.memory.laid.blocks_fit k.number from.block from.lives in
    let place : offset (look u.regs (in_of la t0)) 0 ≡ one.word =
    ap (λ n. (n + 0) % 2 ^ 32) (look-at u.regs (in_of la t0) (in-apart f la 5 0 fitsa (omega arith) (omega arith)) ∙ one.operand.is)
    ∙ (let e : (one.word + 0) % 2 ^ 32 ≡ one.word = omega (arith, is, inside, high) in e) in
    let even : one.word % width ≡ 0 = ap (λ n. n % width) is ∙ leaf.aligned in
    let good : allowed text.flags to_read one.word width ≡ true =
    flags_allow text.flags to_read one.word width
    (λ j under.
    let at : one.word + j ≡ f.bases k.number + (o + j) = omega (arith, is) in
    subst (λ n. has_flag (text.flags n) to_read ≡ true) (sym at) (fit.readable (o + j) (omega (arith, end, under)))) in
    let bytes : load_bytes u.mem one.word width ≡ load_bytes s.mem (f.bases k.number + o) width =
    ap (λ n. load_bytes u.mem n width) is ∙ ap (λ m. load_bytes m (f.bases k.number + o) width) one.operand.mem in
    place-written text f words q s b t v rep below
    (writes-after text f words s u b l v one.operand.steps
    (λ r kept other. one.operand.others r (temporary-apart r 5 kept (omega arith) (omega arith)) (temporary-apart r 7 kept (omega arith) (omega arith))) one.operand.mem
    (finishes text f words u b (load_bytes u.mem one.word width) l v (load_instr width (out_of l) (in_of la t0) ∷ []) one.has one.stack fits one.code low
    (λ m small code.
    made text u m (out_of l) (load_bytes u.mem one.word width)
    (one-computes text u m (load_instr width (out_of l) (in_of la t0)) (out_of l) (load_bytes u.mem one.word width) one.has code small (out-apart f l fits)
    (load-acts-at width leaf.is_width text.flags u (out_of l) (in_of la t0) one.word place even good)))
    (subst (Shows f.bases v) (sym bytes) (rep.memory.values width o k v read))))

-- ---- stores

address-stored : (width : ℕ) (x v : Value) (m m' : mem.Memory) → mem.store width x v m ≡ Some m' → (b : BlockName) × (offset : ℕ) × (x ≡ At b offset)
address-stored width (Num w) v m m' e = absurd (let f : None ≡ Some m' = e in cc)
address-stored width Bad v m m' e = absurd (let f : None ≡ Some m' = e in cc)
address-stored width (At b o) v m m' e = (b, o, refl)

-- the state after the low bytes of a word are stored
abbrev bytes-stored : machine.State → (width a x : ℕ) → machine.State
bytes-stored s width a x = record { pc = after s.pc; regs = s.regs; mem = store_bytes s.mem a x width }

abbrev StoreActs : ℕ → Type 0
StoreActs width =
    (flags : ℕ → ℕ) (s : machine.State) (ra rv a : ℕ) → offset (look s.regs ra) 0 ≡ a → a % width ≡ 0 → allowed flags to_write a width ≡ true
    → act flags (store_instr width ra rv) s ≡ next (bytes-stored s width a (look s.regs rv))

store-goes : (flags : ℕ → ℕ) (width : ℕ) (s : machine.State) (ra rv a : ℕ) → offset (look s.regs ra) 0 ≡ a → a % width ≡ 0 → allowed flags to_write a width ≡ true
    → machine.store flags width ra rv 0 s ≡ next (bytes-stored s width a (look s.regs rv))
store-goes flags width s ra rv a place even good =
    ap (λ n. access flags to_write width n s (next (bytes-stored s width n (look s.regs rv)))) place
    ∙ access-goes flags to_write width a s (next (bytes-stored s width a (look s.regs rv))) even good

store-1 : StoreActs 1
unfolding act
store-1 flags s ra rv a place even good = store-goes flags 1 s ra rv a place even good

store-2 : StoreActs 2
unfolding act
store-2 flags s ra rv a place even good = store-goes flags 2 s ra rv a place even good

store-4 : StoreActs 4
unfolding act
store-4 flags s ra rv a place even good = store-goes flags 4 s ra rv a place even good

store-acts-at : (width : ℕ) → IsWidth width → StoreActs width
store-acts-at width (inl e) = subst StoreActs (sym e) store-1
store-acts-at width (inr (inl e)) = subst StoreActs (sym e) store-2
store-acts-at width (inr (inr e)) = subst StoreActs (sym e) store-4

pub store_is_done : LoadAfterStore → LoadElsewhere → StoreKeepsBlocks → StoreIsDone
store_is_done after-store elsewhere keeps text f q s words rep width a v m ina inv stored b there low =
    let la = location_of f.temporaries a in
    let lv = location_of f.temporaries v in
    let fitsa = location-fits f a ina in
    let fitsv = location-fits f v inv in
    let instr = store_instr width (in_of la t0) (in_of lv t1) in
    let whole = subst (λ c. CodeStands text s.pc c b) (append_assoc (load_in t0 la) (load_in t1 lv) (instr ∷ [])) there in
    let one = loads text f words s b 5 la (q.names a) (load_in t1 lv ++ instr ∷ []) rep.has_text rep.stack fitsa whole low (omega arith) (omega arith)
    (rep.places a ina) in
    let u = one.operand.state in
    let still = held-same f lv fitsv s.regs u.regs s.mem u.mem
    (λ r place. one.operand.others r (kept-apart r 5 (inr (inr place)) (omega arith) (omega arith)) (kept-apart r 7 (inr (inr place)) (omega arith) (omega arith)))
    one.operand.mem in
    let two = loads text f words u b 6 lv (q.names v) (instr ∷ []) one.has one.stack fitsv one.code low (omega arith) (omega arith)
    (subst (Shows f.bases (q.names v)) (sym still) (rep.places v inv)) in
    let w = two.operand.state in
    let first : w.regs (in_of la t0) ≡ one.word =
    two.operand.others (in_of la t0) (in-apart f la 5 6 fitsa (omega arith) (omega arith)) (in-apart f la 5 7 fitsa (omega arith) (omega arith)) ∙ one.operand.is in
    let source = address-stored width (q.names a) (q.names v) q.memory m stored in
    let k = source.0 in
    let o = source.1 in
    let made = subst (λ x. mem.store width x (q.names v) q.memory ≡ Some m) source.2 stored in
    let target = stored-there width o k (q.names v) q.memory m made in
    let leaf = rep.memory.laid.leaves k.number width o target.block target.lives target.leaf in
    let fit = rep.memory.laid.blocks_fit k.number target.block target.lives in
    let shown = subst (λ x. Shows f.bases x one.word) source.2 one.shows in
    let is = shown.is in
    let inside = shown.within in
    let high = shown.high in
    let end = leaf.within in
    let place : offset (look w.regs (in_of la t0)) 0 ≡ one.word =
    ap (λ n. (n + 0) % 2 ^ 32) (look-at w.regs (in_of la t0) (in-apart f la 5 0 fitsa (omega arith) (omega arith)) ∙ first)
    ∙ (let e : (one.word + 0) % 2 ^ 32 ≡ one.word = omega (arith, is, inside, high) in e) in
    let even : one.word % width ≡ 0 = ap (λ n. n % width) is ∙ leaf.aligned in
    let flag : (j : ℕ) → j < width → has_flag (text.flags (one.word + j)) to_write ≡ true =
    (λ j under.
    let at : one.word + j ≡ f.bases k.number + (o + j) = omega (arith, is) in
    subst (λ n. has_flag (text.flags n) to_write ≡ true) (sym at) (fit.writable target.free (o + j) (omega (arith, end, under)))) in
    let value : look w.regs (in_of lv t1) ≡ two.word = look-at w.regs (in_of lv t1) (in-apart f lv 6 0 fitsv (omega arith) (omega arith)) ∙ two.operand.is in
    let final = bytes-stored w width one.word two.word in
    let memory : w.mem ≡ s.mem = two.operand.mem ∙ one.operand.mem in
    let acts = store-acts-at width leaf.is_width text.flags w (in_of la t0) (in_of lv t1) one.word place even (flags_allow text.flags to_write one.word width flag)
    ∙ ap (λ n. next (bytes-stored w width one.word n)) value in
    let pc = two.code.1 in
    let left : (n : ℕ) → (n < one.word) ⊎ (one.word + width ≤ n) → final.mem n ≡ s.mem n =
    (λ n side. bytes-left w width one.word two.word n side ∙ ap (λ z. z n) memory) in
    let shows = store-shown after-store elsewhere keeps text.flags f.bases w.mem width o two.word k (q.names v) q.memory m
    (subst (ShowsMemory text.flags f.bases q.memory) (sym memory) rep.memory) made two.shows in
    record {
      state = final;
      steps =
          steps-then text.flags s u final one.operand.steps
          (steps-then text.flags u w final two.operand.steps (step-to text w final instr two.has two.code.0 acts));
      pc = omega (arith, pc, low);
      shows =
          memory-written text f words q s final m rep (same-blocks after-store elsewhere keeps width (q.names a) (q.names v) q.memory m stored)
          (λ r kept.
          two.operand.others r (kept-apart r 6 kept (omega arith) (omega arith)) (kept-apart r 7 kept (omega arith) (omega arith))
          ∙ one.operand.others r (kept-apart r 5 kept (omega arith) (omega arith)) (kept-apart r 7 kept (omega arith) (omega arith)))
          (λ n out.
          left n
          (before-or-after n one.word width
          (λ from to. out (record { number = k.number; block = target.block; lives = target.lives; low = omega (arith, from, is); high = omega (arith, to, is, end) }))))
          (λ n fixed.
          left n
          (before-or-after n one.word width
          (λ from to.
          let at : one.word + (n - one.word) ≡ n = omega (arith, from) in
          both_ways (has_flag (text.flags n) to_write) fixed (subst (λ z. has_flag (text.flags z) to_write ≡ true) at (flag (n - one.word) (omega (arith, from, to)))))))
          (subst (λ z. ShowsMemory text.flags f.bases m (store_bytes w.mem z two.word width)) (sym is) shows);
    }
  where
    bytes-left : (w : machine.State) (width at x n : ℕ) → (n < at) ⊎ (at + width ≤ n) → (bytes-stored w width at x).mem n ≡ w.mem n
    bytes-left w width at x n (inl before) = store_leaves_others w.mem at x width n (inl (omega (arith, before)))
    bytes-left w width at x n (inr beyond) = store_leaves_others w.mem at x width n (inr beyond)
