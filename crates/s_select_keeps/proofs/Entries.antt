-- How a function begins: its frame is taken, its objects get addresses in it, and the machine stands for the state that it begins with.
use Rattle.std.proofs.Common.{◌≡◌, ◌⊎◌, ℕ, ◌+◌, ◌-◌, ◌*◌, ◌<◌, ◌≤◌, true, List, ◌++◌, map, length, slice_get, slice_index, Some, None, option_map, get_or, refl, sym, ap, ◌∙◌, arith, inl, inr}
use Rattle.std.specs.List.{sum_by}
use Rattle.std.proofs.lemmas.Bool.{cases_lt}
use Rattle.std.proofs.lemmas.Option.{slice_get-map, slice_get_cases, get_or_from_slice_get}
use Rattle.val_core.specs.declared.values.BlockName.{BlockName}
use Rattle.val_core.specs.declared.values.Value.{Value}
use Rattle.val_core.specs.Memory.{Memory, new_block}
use Rattle.val_core.specs.MemoryLaws.{NewBlocksKeepLoads}
use Rattle.val_core.specs.Objects.{word_of, block_address, address_in, opened}
use Rattle.g_graph.specs.Plain.{PlainObject, shapes_of}
use Rattle.g_graph.specs.WellFormed.{all_of, leaves_fit}
use Rattle.g_graph.proofs.lemmas.Elements.{get-all}
use Rattle.rv_isa.specs.Registers.{sp, s0}
use Rattle.rv_machine.specs.Machine.{State}
use Rattle.s_linear.specs.Frame.{PlainPlaces, saved_of, words_of, object_room, object_at, frame_size}
use Rattle.s_linear.specs.Meaning as linear
use Rattle.s_linear.specs.Meaning.{no_names}
use Rattle.s_select_keeps.specs.Formats.{IsInRange}
use Rattle.s_select_keeps.specs.Frames.{IsFrameSize, Taken}
use Rattle.s_select_keeps.specs.Functions.{Program, ProgramCanRun, IsCalled}
use Rattle.s_select_keeps.specs.Relation.{Bases, Extends, IsLive, IsOutside, Frame, HasWords, Represents}
use Rattle.s_select_keeps.specs.Table.{ObjectStands}
use Rattle.s_select_keeps.proofs.CallRows.{BodyStack, InFunction}
use Rattle.s_select_keeps.proofs.Extended.{shows-more, extends-self, alike-self}
use Rattle.s_select_keeps.proofs.Opened.{ObjectsFit, opened_bases, base-new, in-back, new-is, opened-extends, opened-fresh, opened-laid, opened-live, opened-shown}
use Rattle.s_select_keeps.proofs.Rooms.{rooms-even, rooms-within, rooms-order}

module _ (p : PlainPlaces) (os : List PlainObject) (range : IsInRange p os) where
  abbrev size : ℕ
  size = frame_size p.count os

  abbrev saved : ℕ
  saved = saved_of p.count

  pub is-size : IsFrameSize size saved
  is-size = record { saved_low = omega arith; holds = omega arith; low = range.frame; aligned = omega arith }

  -- objects end below the words that save registers
  objects-end : 4 * words_of p.count + sum_by object_room os + (4 + 4 * saved) ≤ size
  objects-end = omega arith

  pub places-end : 4 * words_of p.count + (4 + 4 * saved) ≤ size
  places-end = omega arith

module _ (program : Program) (can : ProgramCanRun program) (p : PlainPlaces) (os : List PlainObject) (range : IsInRange p os)
    (leaves : all_of (λ (o : PlainObject). leaves_fit o.size 0 o.leaves) os ≡ true)
    (function : ℕ) (vs : List Value) (m : Memory) (input : List ℕ) (bases : Bases) (back : ℕ) (s : State) (called : IsCalled program function vs m input bases back s)
    (enough : frame_size p.count os ≤ s.regs sp - s.regs s0) (e : ℕ) (taken : Taken program.text s (frame_size p.count os) (saved_of p.count) e) where
  -- the stack pointer of the function
  abbrev bottom : ℕ
  bottom = s.regs sp - frame_size p.count os

  -- where its saved registers begin
  abbrev saves_at : ℕ
  saves_at = s.regs sp - (4 + 4 * saved_of p.count)

  abbrev at : ℕ → ℕ
  at k = bottom + object_at p.count os k

  fit : ObjectsFit program.text.flags os at (s.regs s0) saves_at
  fit = record {
    low = (let below = called.has.below in omega (arith, below));
    high = (let low = called.stack.low in omega (arith, low));
    readable = λ a from to. called.readable a from (omega (arith, to));
    writable = λ a from to. called.stack.writable a from (omega (arith, to));
    from = λ k o there. omega (arith, enough);
    to = λ k o there.
        let within = rooms-within os k o there in
        let end = objects-end p os range in
        omega (arith, enough, within, end);
    aligned = λ k o there.
        let even = rooms-even os k in
        let aligned = called.stack.aligned in
        let whole = (is-size p os range).aligned in
        omega (arith, even, aligned, whole, enough);
    order = λ j k o u there there' less. let order = rooms-order os j k o u there there' less in omega (arith, order);
    leaves = λ k o there. get-all (λ (o : PlainObject). leaves_fit o.size 0 o.leaves) os k o leaves there;
  }

  free : (a : ℕ) → s.regs s0 ≤ a → a < saves_at → IsOutside bases m a
  free a from to = called.has.free a from (omega (arith, to))

  abbrev pub blocks : Memory
  blocks = m ++ opened (shapes_of os)

  abbrev pub addresses : Bases
  addresses = opened_bases bases (length m) (length os) at

  abbrev pub frame : Frame
  frame = record { count = p.count; temporaries = p.temporaries; sp = bottom; bases = addresses; before = taken.state }

  pub base-is : taken.state.regs s0 ≡ s.regs s0
  base-is = taken.others s0 (omega arith) (omega arith) (omega arith) (omega arith)

  pub extends : Extends bases addresses
  extends = opened-extends program.text.flags bases m os at (s.regs s0) saves_at fit called.has.fresh free called.memory.laid

  -- a live address is one of before, or in an object of the frame
  pub live : (a : ℕ) → IsLive addresses blocks a → IsLive bases m a ⊎ ((bottom + 4 * words_of p.count ≤ a) × (a < saves_at))
  live a h = by (opened-live program.text.flags bases m os at (s.regs s0) saves_at fit called.has.fresh free called.memory.laid a h)
    where
      by : IsLive bases m a ⊎ ((k : ℕ) × (o : PlainObject) × (slice_get os k ≡ Some o) × (at k ≤ a) × (a < at k + o.size + 4)) → IsLive bases m a
          ⊎ ((bottom + 4 * words_of p.count ≤ a) × (a < saves_at))
      by (inl old) = inl old
      by (inr h) =
          let from = h.3 in
          let below = h.4 in
          let to = fit.to h.0 h.1 h.2 in
          inr (omega (arith, from), omega (arith, below, to))

  -- what lies in the free stack is in no block but an object
  stack-outside : (a : ℕ) → s.regs s0 ≤ a → a < s.regs sp → (a < bottom + 4 * words_of p.count) ⊎ (saves_at ≤ a) → IsOutside addresses blocks a
  stack-outside a from to sides h = by (live a h) sides
    where
      by : IsLive bases m a ⊎ ((bottom + 4 * words_of p.count ≤ a) × (a < saves_at)) → (a < bottom + 4 * words_of p.count) ⊎ (saves_at ≤ a) → ⊥
      by (inl old) sides = called.has.free a from to old
      by (inr inside) (inl before) = let low = inside.0 in omega (arith, low, before)
      by (inr inside) (inr after) = let high = inside.1 in omega (arith, high, after)

  pub has-words : HasWords program.text frame
  has-words = record {
    aligned = (let aligned = called.stack.aligned in let whole = (is-size p os range).aligned in omega (arith, aligned, whole, enough));
    low = (let end = places-end p os range in let low = called.stack.low in omega (arith, end, low, enough));
    readable = λ a from to. (let end = places-end p os range in called.readable a (omega (arith, from, enough)) (omega (arith, to, end, enough)));
    writable = λ a from to. (let end = places-end p os range in called.stack.writable a (omega (arith, from, enough)) (omega (arith, to, end, enough)));
  }

  pub body-stack : BodyStack program frame blocks
  body-stack = record {
    has = has-words;
    base = (let is = base-is in omega (arith, is, enough));
    low = (let low = called.stack.low in omega (arith, low));
    readable = λ a from to. (let is = base-is in called.readable a (omega (arith, from, is)) (omega (arith, to)));
    writable = λ a from to. (let is = base-is in called.stack.writable a (omega (arith, from, is)) (omega (arith, to)));
    laid = opened-laid program.text.flags bases m os at (s.regs s0) saves_at fit called.has.fresh free called.memory.laid;
    free = λ a from to. (let is = base-is in stack-outside a (omega (arith, from, is)) (omega (arith, to)) (inl (omega (arith, to))));
    below = (let is = base-is in let below = called.has.below in omega (arith, is, below));
  }

  -- ---- the first state

  abbrev pub first : linear.State
  first = record { names = no_names; memory = blocks; input = input }

  pub represents : NewBlocksKeepLoads → Represents program.text frame first taken.state
  represents keep = record {
    stack = taken.sp_is;
    base = refl;
    places = λ k inside. tt;
    saved = λ k above low. inl refl;
    above = λ a from out. refl;
    memory =
        opened-shown program.text.flags bases m os at (s.regs s0) saves_at fit called.has.fresh free called.memory.laid keep s.mem taken.state.mem
        (λ a h. taken.memory a (elim (cases_lt a saves_at) [
          | inl low ↦ inl low
          | inr from ↦ elim (cases_lt a (s.regs sp)) [
            | inl below ↦
                let holds = (is-size p os range).holds in
                absurd (called.has.free a (omega (arith, from, enough, holds)) below h)
            | inr past ↦ inr past
          ]
        ]))
        called.memory;
    apart = λ a from to. (let end = places-end p os range in stack-outside a (omega (arith, from, enough)) (omega (arith, to, end, enough)) (inl to));
    has_text = taken.has_text;
  }

  abbrev pub local : ℕ → Value
  local = address_in (length m) (map (λ (o : PlainObject). o.size) os)

  object : (k : ℕ) → k < length os → ObjectStands frame p os (local k) blocks k
  object k below = by (slice_get_cases os k).1
    where
      make : (o : PlainObject) → slice_get os k ≡ Some o → ObjectStands frame p os (local k) blocks k
      make o there =
          let small : word_of o.size ≡ o.size = (let to = fit.to k o there in let high = fit.high in omega (arith, to, high)) in
          let name : BlockName = record { number = length m + k; size = word_of o.size } in
          let sizes : slice_get (map (λ (x : PlainObject). x.size) os) k ≡ Some o.size = slice_get-map (λ (x : PlainObject). x.size) os k
          ∙ ap (λ found. option_map (λ (x : PlainObject). x.size) found) there in
          record {
            name = name;
            block = new_block (word_of o.size) o.leaves;
            is = ap (block_address (length m + k)) sizes;
            size = small ∙ sym (get_or_from_slice_get (map (λ (x : PlainObject). x.size) os) k o.size 0 sizes);
            base = base-new bases (length m) (length os) at k below;
            lives = record { there = in-back m (opened (shapes_of os)) k (new_block (word_of o.size) o.leaves) (new-is os k o there); live = refl };
            block_size = refl;
            free = refl;
          }

      by : ((o : PlainObject) × (k < length os) × (slice_get os k ≡ Some o) × (get_or os k o ≡ o)) ⊎ ((length os ≤ k) × (slice_get os k ≡ None))
          → ObjectStands frame p os (local k) blocks k
      by (inl h) = make h.0 h.2
      by (inr h) = let past = h.0 in absurd (omega (arith, past, below))

  pub in-function : InFunction program frame p os local blocks addresses first
  in-function = record {
    body = record {
      places = (refl, refl);
      objects = object;
      globals = λ k below. let g = called.has.globals k below in
          (g.0, shows-more bases addresses extends (program.global k) (slice_index program.addresses.globals k) g.1);
      buffer = record {
        below = (let below = called.has.below in omega (arith, below, enough));
        outside = λ h. buffer (live program.addresses.data_at h);
        readable = can.readable;
        writable = can.writable;
      };
      stubs = can.stubs;
    };
    bytes = called.bytes;
    extends = extends-self addresses;
    alike = alike-self blocks;
    fresh = opened-fresh program.text.flags bases m os at (s.regs s0) saves_at fit called.has.fresh free called.memory.laid;
  }
    where
      buffer : IsLive bases m program.addresses.data_at ⊎ ((bottom + 4 * words_of p.count ≤ program.addresses.data_at) × (program.addresses.data_at < saves_at)) → ⊥
      buffer (inl old) = called.has.outside old
      buffer (inr inside) = let low = inside.0 in let below = called.has.below in omega (arith, low, below, enough)
