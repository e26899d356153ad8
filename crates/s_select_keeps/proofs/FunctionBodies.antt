-- The code of a function's body, calls included, does what it means.
use Rattle.std.proofs.Common.{◌≡◌, ℕ, ◌-◌, ◌^◌, ◌<◌, List, length, Option, sym, ap, ◌∙◌, arith, inr}
use Rattle.std.proofs.lemmas.Bool.{leb-true}
use Rattle.std.proofs.lemmas.List.{length-map}
use Rattle.val_core.specs.declared.values.Value.{Value}
use Rattle.val_core.specs.Memory.{Memory, shape_of}
use Rattle.val_core.specs.MemoryLaws.{StoreKeepsBlocks, ClearKeepsBlocks}
use Rattle.g_graph.specs.Plain.{PlainObject}
use Rattle.rv_machine.specs.Machine.{State}
use Rattle.s_linear.specs.Frame.{PlainPlaces}
use Rattle.s_linear.specs.Linear.{Instr, const, undef, object_address, global_address, binary, unary, load, store, clear, equal_pointers, move, call, put, get, exit, Code}
use Rattle.s_linear.specs.Lines.{code_lines}
use Rattle.s_linear.specs.Meaning as linear
use Rattle.s_linear.specs.Meaning.{Call, instr_run, code_run}
use Rattle.a_place.specs.Placed.{placed_instr, placed_code}
use Rattle.s_select_keeps.specs.Codes.{CodeFits, LinesStand}
use Rattle.s_select_keeps.specs.Functions.{Program, ProgramCanRun, InstrCanRun, frame_sizes, CallsRun}
use Rattle.s_select_keeps.specs.Relation.{Bases, Frame, at_bases}
use Rattle.s_select_keeps.specs.Table.{place_at, HasPlaces, IsPlain, InstrIsDone}
use Rattle.s_select_keeps.proofs.Bodies.{Leaves, leaves, body-same, gives-more, reached}
use Rattle.s_select_keeps.proofs.CallRows.{BodyStack, InFunction, context, Out, call-follows}
use Rattle.s_select_keeps.proofs.Codes.{code-follows}
use Rattle.s_select_keeps.proofs.Extended.{alike-then}
use Rattle.s_select_keeps.proofs.Follows.{InstrFollows}
use Rattle.s_select_keeps.proofs.Outcomes.{Shown, words-at}
use Rattle.s_select_keeps.proofs.Stores.{SameBlocks, alike}

module _ (program : Program) (can : ProgramCanRun program) (bound : ℕ) (meaning : ℕ → Call) (run : CallsRun program bound meaning) (f : Frame) (p : PlainPlaces)
    (os : List PlainObject)
    (local : ℕ → Value) (blocks : Memory) (frame : BodyStack program f blocks) (labels : ℕ → Option ℕ) (same : HasPlaces f p) (done : InstrIsDone)
    (store-keeps : StoreKeepsBlocks)
    (clear-keeps : ClearKeepsBlocks) where
  abbrev C : linear.Context
  C = context program can bound meaning run f p os local blocks frame labels

  abbrev I : Bases → linear.State → Type 0
  I bases q = InFunction program f p os local blocks bases q

  abbrev Follow : Instr → Type 0
  Follow i = InstrFollows program.text f (frame_sizes program) (f.sp - f.before.regs 8) I frame.has program.addresses labels p os C i

  length-same : (m m' : Memory) → SameBlocks m m' → length m' ≡ length m
  length-same m m' h = sym (length-map m' shape_of) ∙ ap length (sym h.shapes) ∙ length-map m shape_of

  kept : (bases : Bases) (q x : linear.State) → I bases q → Leaves q x → I bases x
  kept bases q x inv h = record {
    body = body-same program.text (at_bases f bases) program.addresses p os C q.memory x.memory (alike q.memory x.memory h.0) inv.body;
    bytes = h.1;
    extends = inv.extends;
    alike = alike-then blocks q.memory x.memory inv.alike (alike q.memory x.memory h.0);
    fresh = λ n past. (let equal = length-same q.memory x.memory h.0 in inv.fresh n (omega (arith, past, equal)));
  }

  plain-follows : (i : Instr) → InstrCanRun p (length os) (length program.addresses.globals) i → IsPlain i → Follow i
  plain-follows i fits plain q s b shown there low =
      let answer = instr_run C (placed_instr (place_at p) i) q in
      inr
      (reached program.text f (frame_sizes program) (f.sp - f.before.regs 8) I shown.bases b bound answer s q.input
      (done program.text (at_bases f shown.bases) program.addresses labels p os C q s i b bound (words-at program.text f shown.bases frame.has) shown.shows shown.inv.body
      shown.inv.bytes fits.0 fits.1
      fits.2 plain there low)
      (gives-more (Leaves q) (I shown.bases) answer (λ x h. kept shown.bases q x shown.inv h) (leaves C p store-keeps clear-keeps q shown.inv.bytes i plain)))

  instr-follows : (i : Instr) → InstrCanRun p (length os) (length program.addresses.globals) i → Follow i
  instr-follows (const t w) fits = plain-follows (const t w) fits fits.3
  instr-follows (call n t xs) fits = λ q s b shown there low.
      let entry = can.entries n in
      call-follows program can bound meaning run f p os local blocks frame labels n t xs q s b fits.0 (leb-true (length xs) 8 fits.4) same shown there low
      entry.0 entry.1
  instr-follows (undef t) fits = plain-follows (undef t) fits tt
  instr-follows (object_address t k) fits = plain-follows (object_address t k) fits tt
  instr-follows (global_address t k) fits = plain-follows (global_address t k) fits tt
  instr-follows (binary o t x y) fits = plain-follows (binary o t x y) fits tt
  instr-follows (unary o t x) fits = plain-follows (unary o t x) fits tt
  instr-follows (load w t x) fits = plain-follows (load w t x) fits tt
  instr-follows (store w x v) fits = plain-follows (store w x v) fits tt
  instr-follows (clear k) fits = plain-follows (clear k) fits tt
  instr-follows (equal_pointers t x y) fits = plain-follows (equal_pointers t x y) fits tt
  instr-follows (move t x) fits = plain-follows (move t x) fits tt
  instr-follows (put x) fits = plain-follows (put x) fits tt
  instr-follows (get t) fits = plain-follows (get t) fits tt
  instr-follows (exit x) fits = plain-follows (exit x) fits tt

  pub body-follows : (k : Code) (first : ℕ) (q : linear.State) (s : State) (b : ℕ) → CodeFits (InstrCanRun p (length os) (length program.addresses.globals)) p k
      → Shown program.text f I q s
      → LinesStand program.text program.addresses labels p os s.pc (code_lines first k) b → b < 2 ^ 32
      → Out program can bound meaning run f p os local blocks frame labels b (code_run C (placed_code (place_at p) k) q) s q.input
  body-follows k first q s b fits shown there low =
      code-follows program.text f (frame_sizes program) (f.sp - f.before.regs 8) I frame.has program.addresses labels p os C same
      (InstrCanRun p (length os) (length program.addresses.globals))
      instr-follows k first fits q s b shown there low
