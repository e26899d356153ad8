-- What is left to do of an expression (ISO/IEC 9899:2011, 6.5), as tasks: operands wait until their operator is applied.
use Rattle.std.specs.Prelude.{ℕ, suc, ◌%◌, if◌then◌else◌, List, [], ◌∷◌, ◌++◌, take, drop, reverse, slice_get, Option, None, Some}
use Rattle.val_core.specs.declared.values.Value.{Value}
use Rattle.val_core.specs.declared.values.Value.TheVariants.{Num}
use Rattle.val_core.specs.Events.{wrote}
use Rattle.val_core.specs.Answers.{Answer, Returned, Exited, then_on, on_number, on_defined}
use Rattle.c_type.specs.Trees.{TypeTree}
use Rattle.c_typed.specs.declared.operator.UnaryOp.{UnaryOp}
use Rattle.c_typed.specs.declared.operator.UnaryOp.TheVariants as unary_op
use Rattle.c_typed.specs.declared.operator.BinaryOp.{BinaryOp}
use Rattle.c_typed.specs.declared.operator.CompoundOp.{CompoundOp}
use Rattle.c_typed.specs.declared.operator.IncDec.{IncDec}
use Rattle.c_typed.specs.Typed as tree
use Rattle.c_typed.specs.Typed.{ExprTree, expr, FormTree, ExprTrees, no_exprs, expr_then, PlaceTree, place, PlaceFormTree, ProgramTree}
use Rattle.c_typed.specs.WellTyped.{type_of}
use Rattle.c_mean.specs.State.{Slot, holds, State, Valued, gives, used, converted, member_address}
use Rattle.c_mean.specs.Expressions.{Context, Spot, in_slot, at_address, slot_get, address_of, slot_spot, spot_read, spot_written, given_word, unary_done, binary_done, compound_done, stepped, got, back_from, branched, expr_run, dropped_run, arguments_run, place_run}
use Rattle.c_mean.specs.Statements.{normal}
use Rattle.c_interp_def.specs.Configurations.{Configuration, Reached, reaches, state_of, with_operands, gives_value, goes_on_at, on_operand, on_operands, on_three, context_of}

pub data ExprTask : Type 0 where
  -- these parts of a program: an expression, a place, whose address is the operand, operands of commas, and arguments
  evaluate : ExprTree → ExprTask
  locate : PlaceTree → ExprTask
  drop_each : ExprTrees → ExprTask
  pass_each : ExprTrees → ExprTask
  -- a value becomes an operand; the address of an object, or of a global
  give : Value → ExprTask
  local_at : (slot : ℕ) → ExprTask
  global_at : (number : ℕ) → ExprTask
  member_at : (offset : ℕ) → ExprTask
  -- the newest operand is dropped, has to be a value, or is replaced by 1 where it is true and 0 where it is not
  discard : ExprTask
  use_it : ExprTask
  test : TypeTree → ExprTask
  -- operators on the newest operands
  unary : UnaryOp → (type operand : TypeTree) → ExprTask
  binary : BinaryOp → (left right : TypeTree) → ExprTask
  and_also : TypeTree → (right : ExprTree) → ExprTask
  or_else : TypeTree → (right : ExprTree) → ExprTask
  choose : TypeTree → (chosen otherwise : ExprTree) → ExprTask
  -- the object at an address is read, and the address dropped or kept; it is written
  load_from : TypeTree → ExprTask
  load_at : TypeTree → ExprTask
  store_at : TypeTree → ExprTask
  compound_at : CompoundOp → (type operand : TypeTree) → ExprTask
  step_at : IncDec → TypeTree → ExprTask
  -- the same of a value variable
  load_slot : (slot : ℕ) → TypeTree → ExprTask
  store_slot : (slot : ℕ) → TypeTree → ExprTask
  compound_slot : (slot : ℕ) → CompoundOp → (type operand : TypeTree) → ExprTask
  step_slot : (slot : ℕ) → IncDec → TypeTree → ExprTask
  -- a byte is read or written, the program ends, a function is called with so many operands
  read_byte : ExprTask
  write_byte : ExprTask
  end_program : ExprTask
  call : (function count : ℕ) → ExprTask

-- ---- what each does

-- a place that is evaluated, of which the address is wanted
abbrev pub address_run : Context → PlaceTree → State → Answer Valued
address_run c p s = then_on (place_run c p s) (λ x. address_of x.spot x.state)

abbrev pub compound_written : CompoundOp → (type operand : TypeTree) → Spot → (old value : Value) → State → Answer Valued
compound_written o t u p old v s = on_defined (compound_done o u old v s) (λ w. used (converted t w) (λ z. spot_written t p z s))

abbrev pub step_written : IncDec → TypeTree → Spot → (old : Value) → State → Answer Valued
step_written i t p old s =
    on_defined (stepped i t old s) (λ v. used (converted t v) (λ w. then_on (spot_written t p w s) (λ y. gives y.state (if i.gives_old then old else w))))

-- the newest `count` operands, the oldest of them first
abbrev pub newest : (count : ℕ) → List Value → List Value
newest n vs = reverse (take n vs)

module _ (p : ProgramTree) (n : ℕ) where
  abbrev pub context : Configuration → Context
  context x = context_of p n x.frame

  abbrev pub expr_task_run : ExprTask → Configuration → Answer Reached
  expr_task_run (evaluate e) x = then_on (expr_run (context x) e (state_of x)) (gives_value x)
  expr_task_run (locate q) x = then_on (address_run (context x) q (state_of x)) (gives_value x)
  expr_task_run (drop_each es) x = then_on (dropped_run (context x) es (state_of x)) (goes_on_at x)
  expr_task_run (pass_each es) x =
      then_on (arguments_run (context x) es (state_of x)) (λ r. goes_on_at (with_operands x (reverse r.values ++ x.operands)) r.state)
  expr_task_run (give v) x = gives_value x (record { value = v; state = state_of x })
  expr_task_run (local_at k) x =
      then_on (slot_spot (context x) k (slot_get (state_of x) k) (state_of x)) (λ r. then_on (address_of r.spot r.state) (gives_value x))
  expr_task_run (global_at k) x = gives_value x (record { value = (context x).addresses.global k; state = state_of x })
  expr_task_run (member_at offset) x = on_operand x (λ v y. on_defined (member_address v offset y.memory) (λ a. gives_value y (record { value = a; state = state_of y })))
  expr_task_run discard x = on_operand x (λ v y. reaches normal y)
  expr_task_run use_it x = on_operand x (λ v y. used v (λ u. gives_value y (record { value = u; state = state_of y })))
  expr_task_run (test t) x = on_operand x (λ v y. then_on (branched t v (given_word (state_of y) 1) (given_word (state_of y) 0)) (gives_value y))
  expr_task_run (unary o t u) x = on_operand x (λ v y. then_on (unary_done o t u v (state_of y)) (gives_value y))
  expr_task_run (binary o t u) x = on_operands x (λ a b y. then_on (binary_done o t u a b (state_of y)) (gives_value y))
  expr_task_run (and_also t b) x =
      on_operand x (λ v y.
      branched t v
      (then_on (expr_run (context y) b (state_of y)) (λ r.
      then_on (branched (type_of b) r.value (given_word r.state 1) (given_word r.state 0)) (gives_value y)))
      (then_on (given_word (state_of y) 0) (gives_value y)))
  expr_task_run (or_else t b) x =
      on_operand x (λ v y.
      branched t v
      (then_on (given_word (state_of y) 1) (gives_value y))
      (then_on (expr_run (context y) b (state_of y)) (λ r.
      then_on (branched (type_of b) r.value (given_word r.state 1) (given_word r.state 0)) (gives_value y))))
  expr_task_run (choose t a b) x =
      on_operand x (λ v y.
      branched t v (then_on (expr_run (context y) a (state_of y)) (gives_value y)) (then_on (expr_run (context y) b (state_of y)) (gives_value y)))
  expr_task_run (load_from t) x = on_operand x (λ a y. then_on (spot_read t (at_address a) (state_of y)) (gives_value y))
  expr_task_run (load_at t) x = on_operand x (λ a y. then_on (spot_read t (at_address a) (state_of x)) (gives_value x))
  expr_task_run (store_at t) x = on_operands x (λ a v y. used v (λ w. then_on (spot_written t (at_address a) w (state_of y)) (gives_value y)))
  expr_task_run (compound_at o t u) x = on_three x (λ a old v y. then_on (compound_written o t u (at_address a) old v (state_of y)) (gives_value y))
  expr_task_run (step_at i t) x = on_operands x (λ a old y. then_on (step_written i t (at_address a) old (state_of y)) (gives_value y))
  expr_task_run (load_slot k t) x = then_on (spot_read t (in_slot k) (state_of x)) (gives_value x)
  expr_task_run (store_slot k t) x = on_operand x (λ v y. used v (λ w. then_on (spot_written t (in_slot k) w (state_of y)) (gives_value y)))
  expr_task_run (compound_slot k o t u) x = on_operands x (λ old v y. then_on (compound_written o t u (in_slot k) old v (state_of y)) (gives_value y))
  expr_task_run (step_slot k i t) x = on_operand x (λ old y. then_on (step_written i t (in_slot k) old (state_of y)) (gives_value y))
  expr_task_run read_byte x = then_on (got (state_of x) x.input) (gives_value x)
  expr_task_run write_byte x = on_operand x (λ v y. on_number v (λ w. Returned (record { flow = normal; at = with_operands y (Num (w % 256) ∷ y.operands) }) (wrote (w % 256) ∷ [])))
  expr_task_run end_program x = on_operand x (λ v y. on_number v (λ w. Exited [] (w % 256)))
  expr_task_run (call f count) x =
      then_on ((context x).calls f (newest count x.operands) x.memory x.input) (λ g.
      then_on (back_from (state_of x) g) (gives_value (with_operands x (drop count x.operands))))

-- ---- what a part of a program comes to, as tasks of which the last is done first

-- the slot of a value variable, where the place is one
abbrev pub holds_value : (slot : ℕ) → Option Slot → Option ℕ
holds_value k (Some (holds v)) = Some k
holds_value k s = None

abbrev pub value_slot : List Slot → PlaceTree → Option ℕ
value_slot slots (place t (tree.local k)) = holds_value k (slice_get slots k)
value_slot slots p = None

abbrev pub place_tasks : PlaceFormTree → List ExprTask
place_tasks (tree.local k) = local_at k ∷ []
place_tasks (tree.global k) = global_at k ∷ []
place_tasks (tree.at e) = use_it ∷ evaluate e ∷ []
place_tasks (tree.member q offset) = member_at offset ∷ locate q ∷ []

abbrev pub read_tasks : TypeTree → PlaceTree → Option ℕ → List ExprTask
read_tasks t q (Some k) = load_slot k t ∷ []
read_tasks t q None = load_from t ∷ locate q ∷ []

abbrev pub assign_tasks : TypeTree → PlaceTree → ExprTree → Option ℕ → List ExprTask
assign_tasks t q e (Some k) = store_slot k t ∷ evaluate e ∷ []
assign_tasks t q e None = store_at t ∷ evaluate e ∷ locate q ∷ []

abbrev pub compound_tasks : CompoundOp → TypeTree → PlaceTree → ExprTree → Option ℕ → List ExprTask
compound_tasks o t q e (Some k) = compound_slot k o t (type_of e) ∷ evaluate e ∷ load_slot k t ∷ []
compound_tasks o t q e None = compound_at o t (type_of e) ∷ evaluate e ∷ load_at t ∷ locate q ∷ []

abbrev pub step_tasks : IncDec → TypeTree → PlaceTree → Option ℕ → List ExprTask
step_tasks i t q (Some k) = step_slot k i t ∷ load_slot k t ∷ []
step_tasks i t q None = step_at i t ∷ load_at t ∷ locate q ∷ []

abbrev pub unary_tasks : UnaryOp → TypeTree → ExprTree → List ExprTask
unary_tasks unary_op.Put t e = write_byte ∷ evaluate e ∷ []
unary_tasks unary_op.Exit t e = end_program ∷ evaluate e ∷ []
unary_tasks o t e = unary o t (type_of e) ∷ evaluate e ∷ []

abbrev pub count_of : ExprTrees → ℕ
count_of no_exprs = 0
count_of (expr_then e es) = suc (count_of es)

abbrev pub form_tasks : List Slot → TypeTree → FormTree → List ExprTask
form_tasks slots t (tree.constant w) = give (Num w) ∷ []
form_tasks slots t (tree.read q) = read_tasks t q (value_slot slots q)
form_tasks slots t (tree.address q) = locate q ∷ []
form_tasks slots t (tree.unary o e) = unary_tasks o t e
form_tasks slots t (tree.binary o a b) = binary o (type_of a) (type_of b) ∷ evaluate b ∷ evaluate a ∷ []
form_tasks slots t (tree.logical_and a b) = and_also (type_of a) b ∷ evaluate a ∷ []
form_tasks slots t (tree.logical_or a b) = or_else (type_of a) b ∷ evaluate a ∷ []
form_tasks slots t (tree.conditional d a b) = choose (type_of d) a b ∷ evaluate d ∷ []
form_tasks slots t (tree.comma es e) = evaluate e ∷ drop_each es ∷ []
form_tasks slots t (tree.assign q e) = assign_tasks t q e (value_slot slots q)
form_tasks slots t (tree.compound o q e) = compound_tasks o t q e (value_slot slots q)
form_tasks slots t (tree.inc_dec i q) = step_tasks i t q (value_slot slots q)
form_tasks slots t (tree.call f es) = call f (count_of es) ∷ pass_each es ∷ []
form_tasks slots t tree.get = read_byte ∷ []

abbrev pub dropped_tasks : ExprTrees → List ExprTask
dropped_tasks no_exprs = []
dropped_tasks (expr_then e es) = drop_each es ∷ discard ∷ evaluate e ∷ []

abbrev pub passed_tasks : ExprTrees → List ExprTask
passed_tasks no_exprs = []
passed_tasks (expr_then e es) = pass_each es ∷ use_it ∷ evaluate e ∷ []

abbrev pub expr_tasks : List Slot → ExprTree → List ExprTask
expr_tasks slots (expr t f) = form_tasks slots t f

abbrev pub place_tasks_of : PlaceTree → List ExprTask
place_tasks_of (place t f) = place_tasks f
