-- What an expression does (ISO/IEC 9899:2011, 6.5): operands are evaluated from left to right, and what is undefined is said
-- where it is used.
use Rattle.std.specs.Prelude.{ℕ, ◌-◌, ◌%◌, ◌^◌, true, false, not, if◌then◌else◌, List, [], ◌∷◌, slice_get, slice_set, Option, None, Some}
use Rattle.val_core.specs.Words.{one_if}
use Rattle.val_core.specs.declared.values.Value.{Value}
use Rattle.val_core.specs.declared.values.Value.TheVariants.{Num, Bad}
use Rattle.val_core.specs.Memory.{Memory, load, store}
use Rattle.val_core.specs.Objects.{Addresses}
use Rattle.val_core.specs.Events.{wrote, took}
use Rattle.val_core.specs.Answers.{Answer, Returned, Exited, Undefined, then_on, on_number, on_defined}
use Rattle.val_core.specs.Within.{Given}
use Rattle.val_core.specs.declared.operation.Op2.TheVariants as op
use Rattle.c_type.specs.Trees.{TypeTree}
use Rattle.c_typed.specs.declared.operator.UnaryOp.{UnaryOp}
use Rattle.c_typed.specs.declared.operator.UnaryOp.TheVariants as unary_op
use Rattle.c_typed.specs.declared.operator.BinaryOp.{BinaryOp}
use Rattle.c_typed.specs.declared.operator.BinaryOp.TheVariants as binary_op
use Rattle.c_typed.specs.declared.operator.CompoundOp.{CompoundOp}
use Rattle.c_typed.specs.declared.operator.CompoundOp.TheVariants as compound_op
use Rattle.c_typed.specs.declared.operator.IncDec.{IncDec}
use Rattle.c_typed.specs.Typed.{ExprTree, expr, FormTree, constant, read, address, unary, binary, logical_and, logical_or, conditional, comma, assign, compound, inc_dec, call, get, ExprTrees, no_exprs, expr_then, PlaceTree, place, PlaceFormTree, local, global, at, member}
use Rattle.c_typed.specs.WellTyped.{type_of, step_op}
use Rattle.c_mean.specs.State.{Slot, holds, object, State, Valued, gives, with_memory, with_slots, used, is_pointer, converted, extended, arithmetic, compared, truth, pointer_moved, pointer_difference, member_address}
use Rattle.c_typed.specs.Objects.{access_width}

-- from arguments, memory and input to what a function gives: a value, or none
abbrev pub Call : Type 0
Call = List Value → Memory → List ℕ → Answer (Given (Option Value))

-- what an expression takes from outside: how many turns a loop may take, what calls do, and the addresses of the call's
-- objects and of the globals
pub record Context : Type 0 where
  pub bound : ℕ
  pub calls : ℕ → Call
  pub addresses : Addresses

-- What a place is once it is evaluated: a value variable, or what stands at an address.
pub data Spot : Type 0 where
  in_slot : (slot : ℕ) → Spot
  at_address : Value → Spot

pub record Located : Type 0 where
  pub spot : Spot
  pub state : State

abbrev pub found : State → Spot → Answer Located
found s p = Returned (record { spot = p; state = s }) []

abbrev pub slot_get : State → ℕ → Option Slot
slot_get s k = slice_get s.slots k

-- the values of arguments, and the state after them
pub record Arguments : Type 0 where
  pub values : List Value
  pub state : State

abbrev pub address_of : Spot → State → Answer Valued
address_of (in_slot k) s = Undefined []
address_of (at_address a) s = gives s a

abbrev pub member_spot : Spot → (offset : ℕ) → State → Answer Located
member_spot (in_slot k) n s = Undefined []
member_spot (at_address a) n s = on_defined (member_address a n s.memory) (λ v. found s (at_address v))

-- ---- reading and writing

abbrev pub slot_spot : Context → (slot : ℕ) → Option Slot → State → Answer Located
slot_spot c k None s = Undefined []
slot_spot c k (Some (holds v)) s = found s (in_slot k)
slot_spot c k (Some (object n)) s = found s (at_address (c.addresses.local n))

abbrev pub slot_value : Option Slot → Value
slot_value (Some (holds v)) = v
slot_value _ = Bad

-- Reading what has no value is undefined (6.3.2.1p2).
abbrev pub spot_read : TypeTree → Spot → State → Answer Valued
spot_read t (in_slot k) s = used (slot_value (slot_get s k)) (gives s)
spot_read t (at_address a) s = on_defined (load (access_width t) a s.memory) (λ v. used (extended t v) (gives s))

-- the value becomes that of a place, and is the value of the assignment (6.5.16p3)
abbrev pub spot_written : TypeTree → Spot → Value → State → Answer Valued
spot_written t (in_slot k) v s = gives (with_slots s (slice_set s.slots k (holds v))) v
spot_written t (at_address a) v s = on_defined (store (access_width t) a v s.memory) (λ m. gives (with_memory s m) v)

-- ---- operations

abbrev pub given_word : State → ℕ → Answer Valued
given_word s w = gives s (Num w)

abbrev pub unary_done : UnaryOp → (t operand : TypeTree) → Value → State → Answer Valued
unary_done unary_op.Convert t u v s = used v (λ x. used (converted t x) (gives s))
unary_done unary_op.Discard t u v s = gives s Bad
unary_done unary_op.Negate t u v s = on_defined (arithmetic op.Sub (Num 0) v) (gives s)
unary_done unary_op.Complement t u v s = on_defined (arithmetic op.Xor v (Num (2 ^ 32 - 1))) (gives s)
unary_done unary_op.LogicalNot t u v s = on_defined (truth u v) (λ b. given_word s (one_if (not b)))
unary_done unary_op.Put t u v s = on_number v (λ w. Returned (record { value = Num (w % 256); state = s }) (wrote (w % 256) ∷ []))
unary_done unary_op.Exit t u v s = on_number v (λ w. Exited [] (w % 256))

abbrev pub binary_done : BinaryOp → (left right : TypeTree) → Value → Value → State → Answer Valued
binary_done (binary_op.Arithmetic o) t u a b s = on_defined (arithmetic o a b) (gives s)
binary_done (binary_op.Compare r) t u a b s = used a (λ x. used b (λ y. on_defined (compared r t x y s.memory) (given_word s)))
binary_done (binary_op.PointerPlus size) t u a b s = on_defined (pointer_moved true size u a b s.memory) (gives s)
binary_done (binary_op.IntegerPlus size) t u a b s = on_defined (pointer_moved true size t b a s.memory) (gives s)
binary_done (binary_op.PointerMinus size) t u a b s = on_defined (pointer_moved false size u a b s.memory) (gives s)
binary_done (binary_op.PointerDifference size) t u a b s = on_defined (pointer_difference size a b s.memory) (gives s)

-- what a compound assignment makes of the old value and of its operand, before the conversion to the place's type
abbrev pub compound_done : CompoundOp → (operand : TypeTree) → Value → Value → State → Option Value
compound_done (compound_op.Arithmetic o unsigned) u a b s = arithmetic o a b
compound_done (compound_op.PointerPlus size) u a b s = pointer_moved true size u a b s.memory
compound_done (compound_op.PointerMinus size) u a b s = pointer_moved false size u a b s.memory

abbrev pub stepped : IncDec → TypeTree → Value → State → Option Value
stepped i t v s = if is_pointer t then pointer_moved i.up i.by t v (Num 1) s.memory else arithmetic (step_op i.up) v (Num i.by)

-- the next byte of the input, or -1 at its end
abbrev pub got : State → List ℕ → Answer Valued
got s [] = given_word s (2 ^ 32 - 1)
got s (b ∷ i) = Returned (record { value = Num b; state = record { slots = s.slots; memory = s.memory; input = i } }) (took b ∷ [])

abbrev pub value_or_none : Option Value → Value
value_or_none None = Bad
value_or_none (Some v) = v

-- after a call
abbrev pub back_from : State → Given (Option Value) → Answer Valued
back_from s g = gives (record { slots = s.slots; memory = g.memory; input = g.input }) (value_or_none g.value)

-- one of two continuations by the truth of a condition
abbrev pub branched : {A : Type 0} → TypeTree → Value → (if_true if_false : Answer A) → Answer A
branched t v a b = on_defined (truth t v) (λ d. if d then a else b)

-- ---- expressions, and places, of which only the address is computed

abbrev mutual
  pub expr_run : Context → ExprTree → State → Answer Valued
  expr_run c (expr t f) s = form_run c t f s

  pub form_run : Context → TypeTree → FormTree → State → Answer Valued
  form_run c t (constant w) s = given_word s w
  form_run c t (read p) s = then_on (place_run c p s) (λ x. spot_read t x.spot x.state)
  form_run c t (address p) s = then_on (place_run c p s) (λ x. address_of x.spot x.state)
  form_run c t (unary o e) s = then_on (expr_run c e s) (λ x. unary_done o t (type_of e) x.value x.state)
  form_run c t (binary o a b) s =
      then_on (expr_run c a s) (λ x. then_on (expr_run c b x.state) (λ y. binary_done o (type_of a) (type_of b) x.value y.value y.state))
  form_run c t (logical_and a b) s =
      then_on (expr_run c a s) (λ x.
      branched (type_of a) x.value
      (then_on (expr_run c b x.state) (λ y. branched (type_of b) y.value (given_word y.state 1) (given_word y.state 0)))
      (given_word x.state 0))
  form_run c t (logical_or a b) s =
      then_on (expr_run c a s) (λ x.
      branched (type_of a) x.value
      (given_word x.state 1)
      (then_on (expr_run c b x.state) (λ y. branched (type_of b) y.value (given_word y.state 1) (given_word y.state 0))))
  form_run c t (conditional d a b) s = then_on (expr_run c d s) (λ x. branched (type_of d) x.value (expr_run c a x.state) (expr_run c b x.state))
  form_run c t (comma es e) s = then_on (dropped_run c es s) (expr_run c e)
  form_run c t (assign p e) s =
      then_on (place_run c p s) (λ x. then_on (expr_run c e x.state) (λ y. used y.value (λ v. spot_written t x.spot v y.state)))
  form_run c t (compound o p e) s =
      then_on (place_run c p s) (λ x.
      then_on (spot_read t x.spot x.state) (λ old.
      then_on (expr_run c e old.state) (λ y.
      on_defined (compound_done o (type_of e) old.value y.value y.state) (λ v. used (converted t v) (λ w. spot_written t x.spot w y.state)))))
  form_run c t (inc_dec i p) s =
      then_on (place_run c p s) (λ x.
      then_on (spot_read t x.spot x.state) (λ old.
      on_defined (stepped i t old.value old.state) (λ v.
      used (converted t v) (λ w.
      then_on (spot_written t x.spot w old.state) (λ y. gives y.state (if i.gives_old then old.value else w))))))
  form_run c t (call f es) s = then_on (arguments_run c es s) (λ x. then_on (c.calls f x.values x.state.memory x.state.input) (back_from x.state))
  form_run c t get s = got s s.input

  -- operands of commas, whose values are dropped
  pub dropped_run : Context → ExprTrees → State → Answer State
  dropped_run c no_exprs s = Returned s []
  dropped_run c (expr_then e es) s = then_on (expr_run c e s) (λ x. dropped_run c es x.state)

  -- arguments, each of which is used
  pub arguments_run : Context → ExprTrees → State → Answer Arguments
  arguments_run c no_exprs s = Returned (record { values = []; state = s }) []
  arguments_run c (expr_then e es) s =
      then_on (expr_run c e s) (λ x. used x.value (λ v. then_on (arguments_run c es x.state) (λ y. Returned (record { values = v ∷ y.values; state = y.state }) [])))

  pub place_run : Context → PlaceTree → State → Answer Located
  place_run c (place t f) s = place_form_run c f s

  pub place_form_run : Context → PlaceFormTree → State → Answer Located
  place_form_run c (local k) s = slot_spot c k (slot_get s k) s
  place_form_run c (global k) s = found s (at_address (c.addresses.global k))
  place_form_run c (at e) s = then_on (expr_run c e s) (λ x. used x.value (λ a. found x.state (at_address a)))
  place_form_run c (member p offset) s = then_on (place_run c p s) (λ x. member_spot x.spot offset x.state)
