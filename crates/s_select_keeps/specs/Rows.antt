-- What the templates of instructions without memory do, over places.
use Rattle.std.specs.Prelude.{ℕ, ◌+◌, ◌^◌, ◌<◌, List, [], ◌∷◌, ◌++◌}
use Rattle.val_core.specs.declared.values.Value.{Value}
use Rattle.val_core.specs.declared.values.Value.TheVariants.{Num, Bad}
use Rattle.val_core.specs.declared.operation.Op1.{Op1}
use Rattle.val_core.specs.declared.operation.Op2.{Op2}
use Rattle.val_core.specs.Values.{value1, value2}
use Rattle.rv_isa.specs.Registers.{sp, t0}
use Rattle.rv_isa.specs.declared.instruction.Instr.{Instr}
use Rattle.rv_isa.specs.declared.instruction.Instr.TheVariants.{Add}
use Rattle.rv_machine.specs.Machine as machine
use Rattle.rv_layout.specs.Sequences.{load_address}
use Rattle.s_linear.specs.Meaning as linear
use Rattle.s_linear.specs.Meaning.{set}
use Rattle.s_select.specs.Operands.{location_of, load_immediate, out_of, store_out}
use Rattle.s_select.specs.Templates.{binary_code, unary_code, with_two, with_one, with_none, move_between}
use Rattle.rv_machine.specs.Standing.{Text, CodeStands}
use Rattle.s_select_keeps.specs.Relation.{Shows, Frame, IsPlaceOf, HasWords, Represents}
use Rattle.s_select_keeps.specs.Steps.{Arrives}

-- from a state of the machine on, code that stands at pc leads to its end, where the machine stands for a state of linear code
abbrev pub Does : Text → Frame → machine.State → List Instr → linear.State → Type 0
Does text f s code q = (b : ℕ) → CodeStands text s.pc code b → b < 2 ^ 32 → Arrives text f b q s

-- in the body of a function, wherever the machine stands for a state of linear code
abbrev pub InBody : (Text → Frame → linear.State → machine.State → Type 0) → Type 0
InBody P = (text : Text) (f : Frame) (q : linear.State) (s : machine.State) → HasWords text f → Represents text f q s → P text f q s

abbrev pub ConstIsDone : Type 0
ConstIsDone =
    InBody (λ text f q s. (t w : ℕ) → IsPlaceOf f t → w < 2 ^ 32 → Does text f s (with_none (location_of f.temporaries t) (λ rd. load_immediate rd w)) (set q t (Num w)))

abbrev pub UndefIsDone : Type 0
UndefIsDone = InBody (λ text f q s. (t : ℕ) → Does text f s [] (set q t Bad))

-- the address of an object, at an offset from the stack pointer
abbrev pub ObjectAddressIsDone : Type 0
ObjectAddressIsDone =
    InBody (λ text f q s. (t offset : ℕ) (v : Value) → IsPlaceOf f t → f.sp + offset < 2 ^ 32 → Shows f.bases v (f.sp + offset)
    → Does text f s (with_none (location_of f.temporaries t) (λ rd. load_immediate t0 offset ++ Add rd t0 sp ∷ [])) (set q t v))

abbrev pub GlobalAddressIsDone : Type 0
GlobalAddressIsDone =
    InBody (λ text f q s. (t address : ℕ) (v : Value) → IsPlaceOf f t → address < 2 ^ 32 → Shows f.bases v address
    → Does text f s (load_address (out_of (location_of f.temporaries t)) address ++ store_out (location_of f.temporaries t)) (set q t v))

abbrev pub BinaryIsDone : Type 0
BinaryIsDone =
    InBody (λ text f q s. (o : Op2) (t a b : ℕ) → IsPlaceOf f t → IsPlaceOf f a → IsPlaceOf f b
    → Does text f s (with_two (location_of f.temporaries t) (location_of f.temporaries a) (location_of f.temporaries b) (binary_code o)) (set q t (value2 o (q.names a) (q.names b))))

abbrev pub UnaryIsDone : Type 0
UnaryIsDone =
    InBody (λ text f q s. (o : Op1) (t a : ℕ) → IsPlaceOf f t → IsPlaceOf f a
    → Does text f s (with_one (location_of f.temporaries t) (location_of f.temporaries a) (unary_code o)) (set q t (value1 o (q.names a))))

abbrev pub MoveIsDone : Type 0
MoveIsDone =
    InBody (λ text f q s. (t a : ℕ) → IsPlaceOf f t → IsPlaceOf f a → Does text f s (move_between f.temporaries t a) (set q t (q.names a)))
