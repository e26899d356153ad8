-- The templates of instructions without memory do what the instructions do.
use Rattle.std.proofs.Common.{◌≡◌, ◌≢◌, ℕ, ◌+◌, ◌%◌, ◌^◌, ◌<◌, ◌==◌, if◌then◌else◌, Bool, true, false, [], ◌∷◌, ◌++◌, refl, sym, ap, ap₂, subst, ◌∙◌, arith, inl, inr, eqb-true}
use Rattle.std.proofs.lemmas.Bool.{cases_Bool}
use Rattle.val_core.specs.declared.values.Value.TheVariants.{Num}
use Rattle.val_core.specs.Values.{value1, value2}
use Rattle.rv_isa.specs.Registers.{sp, t0}
use Rattle.rv_isa.specs.declared.instruction.Instr.TheVariants.{Add}
use Rattle.rv_machine.specs.Machine as machine
use Rattle.rv_machine.specs.Machine.{next, act, give}
use Rattle.rv_layout.specs.Sequences.{load_address}
use Rattle.s_linear.specs.Meaning as linear
use Rattle.s_select.specs.Operands.{location_of, load_immediate, out_of}
use Rattle.s_select.specs.Templates.{binary_code, unary_code, move_code}
use Rattle.rv_machine.specs.Standing.{Text, HasText, CodeStands}
use Rattle.s_select_keeps.specs.Computed.{computed1, computed2}
use Rattle.s_select_keeps.specs.Relation.{Shows, held, Frame, Represents}
use Rattle.s_select_keeps.specs.Rows.{ConstIsDone, UndefIsDone, ObjectAddressIsDone, GlobalAddressIsDone, BinaryIsDone, UnaryIsDone, MoveIsDone}
use Rattle.s_select_keeps.specs.Steps.{Arrives}
use Rattle.rv_machine.proofs.lemmas.Standing.{code_is_cut}
use Rattle.s_select_keeps.proofs.Registers.{steps-none, steps-then, code-le, one-computes, address-loads, immediate-loads}
use Rattle.s_select_keeps.proofs.Locations.{temporary-apart, location-fits}
use Rattle.s_select_keeps.proofs.Values.{shows1, shows2}
use Rattle.s_select_keeps.proofs.Represented.{place-written}
use Rattle.s_select_keeps.proofs.Templates.{out-apart, Makes, made, binary-computes, unary-computes, finishes, one-writes, two-write, move-writes}

pub const_is_done : ConstIsDone
const_is_done text f q s words rep t w below fits b there low =
    let place = location-fits f t below in
    let rd = out_of (location_of f.temporaries t) in
    place-written text f words q s b t (Num w) rep below
    (finishes text f words s b w (location_of f.temporaries t) (Num w) (load_immediate rd w) rep.has_text rep.stack place there low
    (λ m small code. made text s m rd w (immediate-loads text s m rd w rep.has_text code small (out-apart f (location_of f.temporaries t) place) fits)) (refl, fits))

pub undef_is_done : UndefIsDone
undef_is_done text f q s words rep t b there low = record {
  state = s;
  steps = steps-none text.flags s;
  pc = there;
  shows = record {
    stack = rep.stack;
    base = rep.base;
    places = λ p within.
        elim (cases_Bool (p == t)) [
          | inl same ↦ rw same tt
          | inr other ↦ rw other (rep.places p within)
        ];
    saved = rep.saved;
    above = rep.above;
    memory = rep.memory;
    apart = rep.apart;
    has_text = rep.has_text;
  };
}

-- the offset in t0, and the sum with the stack pointer
object-makes : (text : Text) (f : Frame) (s : machine.State) (m rd offset : ℕ) → HasText text s.mem → s.regs sp ≡ f.sp
    → CodeStands text s.pc (load_immediate t0 offset ++ Add rd t0 sp ∷ []) m
    → m < 2 ^ 32 → rd ≢ 0 → f.sp + offset < 2 ^ 32 → Makes text s m rd (f.sp + offset)
unfolding act
object-makes text f s m rd offset has stack there low ne fits =
    let cut = code_is_cut text s.pc m (load_immediate t0 offset) (Add rd t0 sp ∷ []) there in
    let le = code-le text cut.0 (Add rd t0 sp ∷ []) m cut.2 in
    let one = immediate-loads text s cut.0 5 offset has cut.1 (omega (arith, le, low)) (omega arith) (omega (arith, fits)) in
    let u = one.state in
    let base : u.regs sp ≡ f.sp = one.others sp (omega arith) (omega arith) ∙ stack in
    let sum : (offset + f.sp) % 2 ^ 32 ≡ f.sp + offset = omega (arith, fits) in
    let two = one-computes text u m (Add rd t0 sp) rd (f.sp + offset) (subst (HasText text) (sym one.mem) has)
    (subst (λ a. CodeStands text a (Add rd t0 sp ∷ []) m) (sym one.pc) cut.2) low ne
    (ap (λ n. next (give u rd n)) (ap₂ (λ x y. (x + y) % 2 ^ 32) one.holds base ∙ sum)) in
    record {
      state = two.state;
      steps = steps-then text.flags s u two.state one.steps two.steps;
      pc = two.pc;
      holds = two.holds;
      others = λ r kept other.
          two.others r other (temporary-apart r 7 kept (omega arith) (omega arith))
          ∙ one.others r (temporary-apart r 5 kept (omega arith) (omega arith)) (temporary-apart r 7 kept (omega arith) (omega arith));
      mem = two.mem ∙ one.mem;
    }

pub object_address_is_done : ObjectAddressIsDone
object_address_is_done text f q s words rep t offset v below fits shows b there low =
    let place = location-fits f t below in
    let rd = out_of (location_of f.temporaries t) in
    place-written text f words q s b t v rep below
    (finishes text f words s b (f.sp + offset) (location_of f.temporaries t) v (load_immediate t0 offset ++ Add rd t0 sp ∷ []) rep.has_text rep.stack place there low
    (λ m small code. object-makes text f s m rd offset rep.has_text rep.stack code small (out-apart f (location_of f.temporaries t) place) fits) shows)

pub global_address_is_done : GlobalAddressIsDone
global_address_is_done text f q s words rep t address v below fits shows b there low =
    let place = location-fits f t below in
    let rd = out_of (location_of f.temporaries t) in
    place-written text f words q s b t v rep below
    (finishes text f words s b address (location_of f.temporaries t) v (load_address rd address) rep.has_text rep.stack place there low
    (λ m small code. made text s m rd address (address-loads text s m rd address rep.has_text code small (out-apart f (location_of f.temporaries t) place) fits)) shows)

pub binary_is_done : BinaryIsDone
binary_is_done text f q s words rep o t x y below inx iny b there low =
    place-written text f words q s b t (value2 o (q.names x) (q.names y)) rep below
    (two-write text f words s b (location_of f.temporaries t) (location_of f.temporaries x) (location_of f.temporaries y) (value2 o (q.names x) (q.names y)) (q.names x) (q.names y) (binary_code o)
    (computed2 o) rep.has_text rep.stack
    (location-fits f t below) (location-fits f x inx) (location-fits f y iny) there low (rep.places x inx) (rep.places y iny)
    (λ u m rd a c v w has code small ne nea nec is is'. binary-computes text o u m rd a c v w has code small ne nea nec is is')
    (λ v w p p'. shows2 f.bases o (q.names x) (q.names y) v w p p'))

pub unary_is_done : UnaryIsDone
unary_is_done text f q s words rep o t x below inx b there low =
    place-written text f words q s b t (value1 o (q.names x)) rep below
    (one-writes text f words s b (location_of f.temporaries t) (location_of f.temporaries x) (value1 o (q.names x)) (q.names x) (unary_code o) (computed1 o) rep.has_text rep.stack
    (location-fits f t below)
    (location-fits f x inx) there low (rep.places x inx)
    (λ u m rd a v has code small ne nea is. unary-computes text o u m rd a v has code small ne nea is) (λ v p. shows1 f.bases o (q.names x) v p))

-- a place holds already what it holds
place-stays : (text : Text) (f : Frame) (q : linear.State) (s : machine.State) (b t : ℕ) → Represents text f q s → s.pc ≡ b
    → Arrives text f b (linear.set q t (q.names t)) s
place-stays text f q s b t rep there = record {
  state = s;
  steps = steps-none text.flags s;
  pc = there;
  shows = record {
    stack = rep.stack;
    base = rep.base;
    places = λ p within.
        elim (cases_Bool (p == t)) [
          | inl same ↦ rw same (subst (λ n. Shows f.bases (q.names n) (held f.sp s.regs s.mem (location_of f.temporaries p))) (eqb-true p t same) (rep.places p within))
          | inr other ↦ rw other (rep.places p within)
        ];
    saved = rep.saved;
    above = rep.above;
    memory = rep.memory;
    apart = rep.apart;
    has_text = rep.has_text;
  };
}

pub move_is_done : MoveIsDone
move_is_done text f q s words rep t x below inx b there low = by (t == x) refl there
  where
    by : (same : Bool) → (t == x) ≡ same → CodeStands text s.pc (if same then [] else move_code (location_of f.temporaries t) (location_of f.temporaries x)) b
        → Arrives text f b (linear.set q t (q.names x)) s
    by true e here = subst (λ n. Arrives text f b (linear.set q t (q.names n)) s) (eqb-true t x e) (place-stays text f q s b t rep here)
    by false e code =
        place-written text f words q s b t (q.names x) rep below
        (move-writes text f words s b (location_of f.temporaries t) (location_of f.temporaries x) (q.names x) rep.has_text rep.stack (location-fits f t below)
        (location-fits f x inx) code low (rep.places x inx))
