-- What a statement does (ISO/IEC 9899:2011, 6.8) within a bound: it goes on normally, or a jump leaves it.
use Rattle.std.specs.Prelude.{ℕ, zero, suc, ◌-◌, ◌==◌, Bool, true, false, if◌then◌else◌, List, [], ◌∷◌, ◌++◌, take, length, slice_get, Option, None, Some, option_and_then, unwrap_or}
use Rattle.std.specs.List.{list_any}
use Rattle.val_core.specs.declared.values.Value.{Value}
use Rattle.val_core.specs.declared.values.Value.TheVariants.{Num, At, Bad}
use Rattle.val_core.specs.Memory.{Memory, store, cleared}
use Rattle.val_core.specs.Answers.{Answer, Returned, Cut, Undefined, then_on, on_number, on_defined}
use Rattle.c_typed.specs.Typed.{ExprTree, OptionalExpr, no_expr, some_expr, ElementTrees, no_elements, value_then, characters_then, InitialTree, no_initial, initial_value, initial_elements, StmtTree, null, value, block, if_else, loop, do_while, break, continue, return_value, return_none, switch, ItemTrees, no_items, stmt_then, declare_then, GroupTrees, no_groups, group_then, VariableTree}
use Rattle.c_typed.specs.WellTyped.{type_of}
use Rattle.c_typed.specs.Objects.{object_number, access_width}
use Rattle.c_mean.specs.State.{Slot, holds, object, State, with_memory, with_slots, used, bytes_into}
use Rattle.c_mean.specs.Expressions.{Context, expr_run, branched}

-- how a statement ends: normally, by a jump, or by a return with a value or none
pub data Flow : Type 0 where
  normal : Flow
  broke : Flow
  continued : Flow
  returned : Option Value → Flow

pub record Flowed : Type 0 where
  pub flow : Flow
  pub state : State

abbrev pub flows : State → Flow → Answer Flowed
flows s f = Returned (record { flow = f; state = s }) []

abbrev pub goes_on : State → Answer Flowed
goes_on s = flows s normal

-- What follows is done where the statement ended normally.
abbrev pub if_normal : Flow → State → (State → Answer Flowed) → Answer Flowed
if_normal normal s next = next s
if_normal f s next = flows s f

-- a loop or a `switch` has ended: its own `break` ends it alone
abbrev pub past_flow : Flow → Flow
past_flow broke = normal
past_flow f = f

abbrev pub past : Flowed → Answer Flowed
past x = flows x.state (past_flow x.flow)

-- ---- loops

-- a turn has ended: the loop goes on, or is left
abbrev pub after_turn : Flow → State → (again : State → Answer Flowed) → Answer Flowed
after_turn normal s again = again s
after_turn continued s again = again s
after_turn f s again = flows s f

abbrev pub optional_step : Context → OptionalExpr → State → Answer State
optional_step c no_expr s = Returned s []
optional_step c (some_expr e) s = then_on (expr_run c e s) (λ x. Returned x.state [])

-- where the condition holds, or is left out, the turn is done
abbrev pub while_true : Context → OptionalExpr → (turn : State → Answer Flowed) → State → Answer Flowed
while_true c no_expr turn s = turn s
while_true c (some_expr e) turn s = then_on (expr_run c e s) (λ x. branched (type_of e) x.value (turn x.state) (goes_on x.state))

-- At most so many turns. The condition is asked before the turn that would be one too many is cut.
abbrev pub loop_run : (turns : ℕ) → Context → (condition step : OptionalExpr) → (body : State → Answer Flowed) → State → Answer Flowed
loop_run zero c d step body s = while_true c d (λ t. Cut []) s
loop_run (suc n) c d step body s =
    while_true c d (λ t. then_on (body t) (λ x. after_turn x.flow x.state (λ u. then_on (optional_step c step u) (loop_run n c d step body)))) s

abbrev pub do_run : (turns : ℕ) → Context → (condition : ExprTree) → (body : State → Answer Flowed) → State → Answer Flowed
do_run zero c e body s = Cut []
do_run (suc n) c e body s =
    then_on (body s) (λ x. after_turn x.flow x.state (λ t. then_on (expr_run c e t) (λ y. branched (type_of e) y.value (do_run n c e body y.state) (goes_on y.state))))

-- ---- declarations

-- Variables come into scope and leave it.
abbrev pub in_scope : State → Slot → State
in_scope s x = with_slots s (s.slots ++ x ∷ [])

abbrev pub out_of_scope : (count : ℕ) → Flowed → Answer Flowed
out_of_scope n x = flows (with_slots x.state (take n x.state.slots)) x.flow

-- what the newest variable holds
abbrev pub newest_written : State → Value → State
newest_written s v = with_slots s (take (length s.slots - 1) s.slots ++ holds v ∷ [])

abbrev pub characters_stored : (address : Value) → (offset : ℕ) → List ℕ → Memory → Option Memory
characters_stored a o [] m = Some m
characters_stored a o (b ∷ bs) m = option_and_then (characters_stored a (suc o) bs) (store 1 (bytes_into a o) (Num b) m)

-- each element is evaluated and written before the next
abbrev pub elements_run : Context → (address : Value) → ElementTrees → State → Answer State
elements_run c a no_elements s = Returned s []
elements_run c a (value_then o e es) s =
    then_on (expr_run c e s) (λ x.
    used x.value (λ v. on_defined (store (access_width (type_of e)) (bytes_into a o) v x.state.memory) (λ m. elements_run c a es (with_memory x.state m))))
elements_run c a (characters_then o cs es) s = on_defined (characters_stored a o cs s.memory) (λ m. elements_run c a es (with_memory s m))

-- zeros in a whole object
abbrev pub zeros : Value → Memory → Option Memory
zeros (At b o) m = Some (cleared b m)
zeros v m = None

-- the initialiser of a value variable, which is in scope and has no value yet, and that of an object
abbrev pub value_begun : Context → InitialTree → State → Answer State
value_begun c (initial_value e) s = then_on (expr_run c e s) (λ x. used x.value (λ v. Returned (newest_written x.state v) []))
value_begun c i s = Returned s []

abbrev pub object_begun : Context → (address : Value) → InitialTree → State → Answer State
object_begun c a no_initial s = Returned s []
object_begun c a (initial_value e) s =
    then_on (expr_run c e s) (λ x. used x.value (λ v. on_defined (store (access_width (type_of e)) a v x.state.memory) (λ m. Returned (with_memory x.state m) [])))
object_begun c a (initial_elements es) s = on_defined (zeros a s.memory) (λ m. elements_run c a es (with_memory s m))

-- A declaration is reached: a value variable loses its value, an object keeps its contents, and then it begins.
abbrev pub begun : Context → (object : Bool) → (number : ℕ) → InitialTree → State → Answer State
begun c false k i s = value_begun c i (in_scope s (holds Bad))
begun c true k i s = object_begun c (c.addresses.local k) i (in_scope s (object k))

abbrev pub declared : Context → List VariableTree → (variable : ℕ) → Option VariableTree → InitialTree → State → Answer State
declared c vs k None i s = Undefined []
declared c vs k (Some v) i s = begun c v.is_object (object_number vs k) i s

-- ---- switch

abbrev pub has_case : ℕ → List ℕ → Bool
has_case w cases = list_any (λ k. k == w) cases

-- the groups from the one with this label on
abbrev pub from_case : ℕ → GroupTrees → Option GroupTrees
from_case w no_groups = None
from_case w (group_then cases d is gs) = if has_case w cases then Some (group_then cases d is gs) else from_case w gs

-- the groups from that of `default` on
abbrev pub from_default : GroupTrees → GroupTrees
from_default no_groups = no_groups
from_default (group_then cases true is gs) = group_then cases true is gs
from_default (group_then cases false is gs) = from_default gs

abbrev pub group_count : GroupTrees → ℕ
group_count no_groups = 0
group_count (group_then cases d is gs) = suc (group_count gs)

-- the groups that are done: from the label on, else from that of `default` on, else none
abbrev pub chosen_groups : ℕ → GroupTrees → GroupTrees
chosen_groups w gs = unwrap_or (from_case w gs) (from_default gs)

-- so many groups are passed over, and the others are done one after the other
abbrev pub groups_done : (passed : ℕ) → List (State → Answer Flowed) → State → Answer Flowed
groups_done n [] s = goes_on s
groups_done (suc n) (r ∷ rs) s = groups_done n rs s
groups_done zero (r ∷ rs) s = then_on (r s) (λ x. if_normal x.flow x.state (groups_done zero rs))

-- ---- statements

abbrev mutual
  pub stmt_run : Context → List VariableTree → StmtTree → State → Answer Flowed
  stmt_run c vs null s = goes_on s
  stmt_run c vs (value e) s = then_on (expr_run c e s) (λ x. goes_on x.state)
  stmt_run c vs (block is) s = items_run c vs is s
  stmt_run c vs (if_else e a b) s = then_on (expr_run c e s) (λ x. branched (type_of e) x.value (stmt_run c vs a x.state) (stmt_run c vs b x.state))
  stmt_run c vs (loop d step a) s = then_on (loop_run c.bound c d step (stmt_run c vs a) s) past
  stmt_run c vs (do_while a e) s = then_on (do_run c.bound c e (stmt_run c vs a) s) past
  stmt_run c vs break s = flows s broke
  stmt_run c vs continue s = flows s continued
  stmt_run c vs (return_value e) s = then_on (expr_run c e s) (λ x. used x.value (λ v. flows x.state (returned (Some v))))
  stmt_run c vs return_none s = flows s (returned None)
  stmt_run c vs (switch e gs) s =
      then_on (expr_run c e s) (λ x.
      on_number x.value (λ w. then_on (groups_done (group_count gs - group_count (chosen_groups w gs)) (groups_runs c vs gs) x.state) past))

  pub items_run : Context → List VariableTree → ItemTrees → State → Answer Flowed
  items_run c vs no_items s = goes_on s
  items_run c vs (stmt_then a is) s = then_on (stmt_run c vs a s) (λ x. if_normal x.flow x.state (items_run c vs is))
  items_run c vs (declare_then d is) s =
      then_on (declared c vs d.variable (slice_get vs d.variable) d.initial s) (λ t. then_on (items_run c vs is t) (out_of_scope (length s.slots)))

  pub groups_runs : Context → List VariableTree → GroupTrees → List (State → Answer Flowed)
  groups_runs c vs no_groups = []
  groups_runs c vs (group_then cases d is gs) = items_run c vs is ∷ groups_runs c vs gs
