-- An expression takes its input from the state.
use Rattle.std.proofs.Common.{ℕ, ◌-◌, ◌%◌, ◌^◌, true, false, not, if◌then◌else◌, List, [], ◌∷◌, slice_get, Option, None, Some, refl}
use Rattle.val_core.specs.Words.{one_if}
use Rattle.val_core.specs.declared.operation.Op2.TheVariants as op
use Rattle.val_core.specs.declared.values.Value.{Value}
use Rattle.val_core.specs.declared.values.Value.TheVariants.{Num}
use Rattle.val_core.specs.Events.{wrote}
use Rattle.val_core.specs.Memory.{Memory, load, store}
use Rattle.val_core.specs.Answers.{Returned, Exited, then_on, on_defined}
use Rattle.val_core.specs.Within.{Given}
use Rattle.c_type.specs.Trees.{TypeTree}
use Rattle.c_typed.specs.declared.operator.UnaryOp.{UnaryOp}
use Rattle.c_typed.specs.declared.operator.UnaryOp.TheVariants as unary_op
use Rattle.c_typed.specs.declared.operator.BinaryOp.{BinaryOp}
use Rattle.c_typed.specs.declared.operator.BinaryOp.TheVariants as binary_op
use Rattle.c_typed.specs.declared.operator.IncDec.{IncDec}
use Rattle.c_typed.specs.Typed.{ExprTree, expr, FormTree, constant, read, address, unary, binary, logical_and, logical_or, conditional, comma, assign, compound, inc_dec, call, get, ExprTrees, no_exprs, expr_then, PlaceTree, place, PlaceFormTree, local, global, at, member}
use Rattle.c_typed.specs.WellTyped.{type_of}
use Rattle.c_mean.specs.State.{Slot, holds, object, State, Valued, gives, with_memory, used, converted, extended, arithmetic, compared, truth, pointer_moved, pointer_difference, member_address}
use Rattle.c_typed.specs.Objects.{access_width}
use Rattle.c_mean.specs.Expressions.{Context, Arguments, Spot, in_slot, at_address, Located, found, slot_get, slot_value, address_of, member_spot, slot_spot, spot_read, spot_written, unary_done, binary_done, compound_done, stepped, branched, given_word, got, expr_run, form_run, dropped_run, arguments_run, place_run, place_form_run}
use Rattle.c_mean.proofs.Taken.{Takes, takes-then, takes-defined, takes-number, takes-used, takes-branched}

abbrev pub of_value : Valued → List ℕ
of_value x = x.state.input

abbrev of_place : Located → List ℕ
of_place x = x.state.input

abbrev of_arguments : Arguments → List ℕ
of_arguments x = x.state.input

abbrev pub of_given : Given (Option Value) → List ℕ
of_given g = g.input

abbrev pub of_state : State → List ℕ
of_state s = s.input

used-takes : (v : Value) (s : State) → Takes of_value s.input (used v (gives s))
used-takes v s = takes-used of_value s.input v (gives s) (λ w. refl)

defined-takes : {X : Type 0} (x : Option X) (f : X → Value) (s : State) → Takes of_value s.input (on_defined x (λ y. gives s (f y)))
defined-takes x f s = takes-defined of_value s.input x (λ y. gives s (f y)) (λ y. refl)

address-takes : (p : Spot) (s : State) → Takes of_value s.input (address_of p s)
address-takes (in_slot k) s = (s.input, refl)
address-takes (at_address a) s = refl

member-takes : (p : Spot) (n : ℕ) (s : State) → Takes of_place s.input (member_spot p n s)
member-takes (in_slot k) n s = (s.input, refl)
member-takes (at_address a) n s = takes-defined of_place s.input (member_address a n s.memory) (λ v. found s (at_address v)) (λ v. refl)

slot-takes : (c : Context) (k : ℕ) (x : Option Slot) (s : State) → Takes of_place s.input (slot_spot c k x s)
slot-takes c k None s = (s.input, refl)
slot-takes c k (Some (holds v)) s = refl
slot-takes c k (Some (object n)) s = refl

read-takes : (t : TypeTree) (p : Spot) (s : State) → Takes of_value s.input (spot_read t p s)
read-takes t (in_slot k) s = used-takes (slot_value (slot_get s k)) s
read-takes t (at_address a) s =
    takes-defined of_value s.input (load (access_width t) a s.memory) (λ v. used (extended t v) (gives s)) (λ v. used-takes (extended t v) s)

written-takes : (t : TypeTree) (p : Spot) (v : Value) (s : State) → Takes of_value s.input (spot_written t p v s)
written-takes t (in_slot k) v s = refl
written-takes t (at_address a) v s = takes-defined of_value s.input (store (access_width t) a v s.memory) (λ m. gives (with_memory s m) v) (λ m. refl)

unary-takes : (o : UnaryOp) (t u : TypeTree) (v : Value) (s : State) → Takes of_value s.input (unary_done o t u v s)
unary-takes unary_op.Convert t u v s = takes-used of_value s.input v (λ x. used (converted t x) (gives s)) (λ x. used-takes (converted t x) s)
unary-takes unary_op.Discard t u v s = refl
unary-takes unary_op.Negate t u v s = defined-takes (arithmetic op.Sub (Num 0) v) (λ x. x) s
unary-takes unary_op.Complement t u v s = defined-takes (arithmetic op.Xor v (Num (2 ^ 32 - 1))) (λ x. x) s
unary-takes unary_op.LogicalNot t u v s = defined-takes (truth u v) (λ b. Num (one_if (not b))) s
unary-takes unary_op.Put t u v s =
    takes-number of_value s.input v (λ w. Returned (record { value = Num (w % 256); state = s }) (wrote (w % 256) ∷ [])) (λ w. refl)
unary-takes unary_op.Exit t u v s = takes-number of_value s.input v (λ w. Exited [] (w % 256)) (λ w. (s.input, refl))

binary-takes : (o : BinaryOp) (t u : TypeTree) (a b : Value) (s : State) → Takes of_value s.input (binary_done o t u a b s)
binary-takes (binary_op.Arithmetic o) t u a b s = defined-takes (arithmetic o a b) (λ x. x) s
binary-takes (binary_op.Compare r) t u a b s =
    takes-used of_value s.input a (λ x. used b (λ y. on_defined (compared r t x y s.memory) (given_word s))) (λ x.
    takes-used of_value s.input b (λ y. on_defined (compared r t x y s.memory) (given_word s)) (λ y.
    defined-takes (compared r t x y s.memory) (λ w. Num w) s))
binary-takes (binary_op.PointerPlus size) t u a b s = defined-takes (pointer_moved true size u a b s.memory) (λ x. x) s
binary-takes (binary_op.IntegerPlus size) t u a b s = defined-takes (pointer_moved true size t b a s.memory) (λ x. x) s
binary-takes (binary_op.PointerMinus size) t u a b s = defined-takes (pointer_moved false size u a b s.memory) (λ x. x) s
binary-takes (binary_op.PointerDifference size) t u a b s = defined-takes (pointer_difference size a b s.memory) (λ x. x) s

stored-takes : (t : TypeTree) (p : Spot) (v : Value) (s : State) → Takes of_value s.input (used (converted t v) (λ w. spot_written t p w s))
stored-takes t p v s = takes-used of_value s.input (converted t v) (λ w. spot_written t p w s) (λ w. written-takes t p w s)

step-takes : (i : IncDec) (t : TypeTree) (p : Spot) (old v : Value) (s : State) →
    Takes of_value s.input (used (converted t v) (λ w. then_on (spot_written t p w s) (λ y. gives y.state (if i.gives_old then old else w))))
step-takes i t p old v s =
    takes-used of_value s.input (converted t v) (λ w. then_on (spot_written t p w s) (λ y. gives y.state (if i.gives_old then old else w))) (λ w.
    takes-then of_value of_value s.input (spot_written t p w s) (λ y. gives y.state (if i.gives_old then old else w)) (written-takes t p w s) (λ y. refl))

truth-takes : (t : TypeTree) (v : Value) (s : State) → Takes of_value s.input (branched t v (given_word s 1) (given_word s 0))
truth-takes t v s = takes-branched of_value s.input t v (given_word s 1) (given_word s 0) refl refl

got-takes : (slots : List Slot) (m : Memory) (i : List ℕ) → Takes of_value i (got (record { slots = slots; memory = m; input = i }) i)
got-takes slots m [] = refl
got-takes slots m (b ∷ i) = refl

module _ (c : Context) (calls : (f : ℕ) (vs : List Value) (m : Memory) (i : List ℕ) → Takes of_given i (c.calls f vs m i)) where
  mutual
    pub expr-takes : (e : ExprTree) (s : State) → Takes of_value s.input (expr_run c e s)
    expr-takes (expr t f) s = form-takes t f s

    form-takes : (t : TypeTree) (f : FormTree) (s : State) → Takes of_value s.input (form_run c t f s)
    form-takes t (constant w) s = refl
    form-takes t (read p) s = takes-then of_place of_value s.input _ _ (place-takes p s) (λ x. read-takes t x.spot x.state)
    form-takes t (address p) s = takes-then of_place of_value s.input _ _ (place-takes p s) (λ x. address-takes x.spot x.state)
    form-takes t (unary o e) s = takes-then of_value of_value s.input _ _ (expr-takes e s) (λ x. unary-takes o t (type_of e) x.value x.state)
    form-takes t (binary o a b) s =
        takes-then of_value of_value s.input _ _ (expr-takes a s) (λ x.
        takes-then of_value of_value x.state.input _ _ (expr-takes b x.state) (λ y. binary-takes o (type_of a) (type_of b) x.value y.value y.state))
    form-takes t (logical_and a b) s =
        takes-then of_value of_value s.input _ _ (expr-takes a s) (λ x.
        takes-branched of_value x.state.input (type_of a) x.value _ (given_word x.state 0)
        (takes-then of_value of_value x.state.input _ _ (expr-takes b x.state) (λ y. truth-takes (type_of b) y.value y.state)) refl)
    form-takes t (logical_or a b) s =
        takes-then of_value of_value s.input _ _ (expr-takes a s) (λ x.
        takes-branched of_value x.state.input (type_of a) x.value (given_word x.state 1) _ refl
        (takes-then of_value of_value x.state.input _ _ (expr-takes b x.state) (λ y. truth-takes (type_of b) y.value y.state)))
    form-takes t (conditional e a b) s =
        takes-then of_value of_value s.input _ _ (expr-takes e s) (λ x.
        takes-branched of_value x.state.input (type_of e) x.value _ _ (expr-takes a x.state) (expr-takes b x.state))
    form-takes t (comma es e) s = takes-then of_state of_value s.input _ _ (dropped-takes es s) (λ x. expr-takes e x)
    form-takes t (assign p e) s =
        takes-then of_place of_value s.input _ _ (place-takes p s) (λ x.
        takes-then of_value of_value x.state.input _ _ (expr-takes e x.state) (λ y.
        takes-used of_value y.state.input y.value (λ v. spot_written t x.spot v y.state) (λ v. written-takes t x.spot v y.state)))
    form-takes t (compound o p e) s =
        takes-then of_place of_value s.input _ _ (place-takes p s) (λ x.
        takes-then of_value of_value x.state.input _ _ (read-takes t x.spot x.state) (λ old.
        takes-then of_value of_value old.state.input _ _ (expr-takes e old.state) (λ y.
        takes-defined of_value y.state.input (compound_done o (type_of e) old.value y.value y.state) (λ v. used (converted t v) (λ w. spot_written t x.spot w y.state))
        (λ v. stored-takes t x.spot v y.state))))
    form-takes t (inc_dec i p) s =
        takes-then of_place of_value s.input _ _ (place-takes p s) (λ x.
        takes-then of_value of_value x.state.input _ _ (read-takes t x.spot x.state) (λ old.
        takes-defined of_value old.state.input (stepped i t old.value old.state)
        (λ v. used (converted t v) (λ w. then_on (spot_written t x.spot w old.state) (λ y. gives y.state (if i.gives_old then old.value else w))))
        (λ v. step-takes i t x.spot old.value v old.state)))
    form-takes t (call f es) s =
        takes-then of_arguments of_value s.input _ _ (arguments-take es s) (λ x.
        takes-then of_given of_value x.state.input _ _ (calls f x.values x.state.memory x.state.input) (λ g. refl))
    form-takes t get s = got-takes s.slots s.memory s.input

    dropped-takes : (es : ExprTrees) (s : State) → Takes of_state s.input (dropped_run c es s)
    dropped-takes no_exprs s = refl
    dropped-takes (expr_then e es) s = takes-then of_value of_state s.input _ _ (expr-takes e s) (λ x. dropped-takes es x.state)

    arguments-take : (es : ExprTrees) (s : State) → Takes of_arguments s.input (arguments_run c es s)
    arguments-take no_exprs s = refl
    arguments-take (expr_then e es) s =
        takes-then of_value of_arguments s.input _ _ (expr-takes e s) (λ x.
        takes-used of_arguments x.state.input x.value (λ v. then_on (arguments_run c es x.state) (λ y. Returned (record { values = v ∷ y.values; state = y.state }) [])) (λ v.
        takes-then of_arguments of_arguments x.state.input _ _ (arguments-take es x.state) (λ y. refl)))

    place-takes : (p : PlaceTree) (s : State) → Takes of_place s.input (place_run c p s)
    place-takes (place t f) s = place-form-takes f s

    place-form-takes : (p : PlaceFormTree) (s : State) → Takes of_place s.input (place_form_run c p s)
    place-form-takes (local k) s = slot-takes c k (slice_get s.slots k) s
    place-form-takes (global k) s = refl
    place-form-takes (at e) s =
        takes-then of_value of_place s.input _ _ (expr-takes e s) (λ x. takes-used of_place x.state.input x.value (λ a. found x.state (at_address a)) (λ a. refl))
    place-form-takes (member p n) s = takes-then of_place of_place s.input _ _ (place-takes p s) (λ x. member-takes x.spot n x.state)
