-- The tasks, slots and flows that those of the code stand for, and what a turn adds.
use Rattle.std.specs.Prelude.{◌≡◌, Bool, true, false, List, ◌++◌, map, Option, None, Some}
use Rattle.val_core.specs.declared.values.Value.TheVariants.{Num}
use Rattle.c_typed.specs.Typed.{exprs_of, StmtTree}
use Rattle.c_typed.specs.StmtViews.{elements_of, items_of, groups_of}
use Rattle.c_mean.specs.State as state
use Rattle.c_mean.specs.Statements as stmt
use Rattle.c_interp_def.specs.ExprTasks as e
use Rattle.c_interp_def.specs.StmtTasks as s
use Rattle.c_interp_def.specs.declared.task.Slot.{Slot}
use Rattle.c_interp_def.specs.declared.task.Slot.TheVariants.{Holds, Object}
use Rattle.c_interp_def.specs.declared.task.Flow.{Flow}
use Rattle.c_interp_def.specs.declared.task.Flow.TheVariants.{Normal, Broke, Continued, Returned}
use Rattle.c_interp_def.specs.declared.task.ExprTask.{ExprTask}
use Rattle.c_interp_def.specs.declared.task.ExprTask.TheVariants.{Evaluate, Locate, DropEach, PassEach, Give, LocalAt, GlobalAt, MemberAt, Discard, UseIt, Test, Unary, Binary, AndAlso, OrElse, Choose, LoadFrom, LoadAt, StoreAt, CompoundAt, StepAt, LoadSlot, StoreSlot, CompoundSlot, StepSlot, ReadByte, WriteByte, EndProgram, Call}
use Rattle.c_interp_def.specs.declared.task.Stage.{Stage}
use Rattle.c_interp_def.specs.declared.task.Stage.TheVariants.{Run, Branch, Select, RunTurns, TurnIf}
use Rattle.c_interp_def.specs.declared.task.StmtTask.{StmtTask}
use Rattle.c_interp_def.specs.declared.task.StmtTask.TheVariants.{OnStmt, RunItems, RunGroups, Break, Continue, ReturnNone, ReturnIt, Enter, BeginSlot, BeginObject, ClearObject, BeginElements, BeginElement, BeginCharacters}
use Rattle.c_interp_def.specs.declared.task.Handler.{Handler}
use Rattle.c_interp_def.specs.declared.task.Handler.TheVariants.{EndSwitch, Again, EndScope, EndCall}
use Rattle.c_interp_def.specs.declared.task.Task.{Task}
use Rattle.c_interp_def.specs.declared.task.Task.TheVariants as task

abbrev pub slot_of : Slot → state.Slot
slot_of (Holds v) = state.holds v
slot_of (Object n) = state.object n

abbrev pub slots_of : List Slot → List state.Slot
slots_of xs = map slot_of xs

abbrev pub flow_of : Flow → stmt.Flow
flow_of Normal = stmt.normal
flow_of Broke = stmt.broke
flow_of Continued = stmt.continued
flow_of (Returned v) = stmt.returned v

abbrev pub expr_task_of : ExprTask → e.ExprTask
expr_task_of (Evaluate x) = e.evaluate x.now
expr_task_of (Locate q) = e.locate q.now
expr_task_of (DropEach es) = e.drop_each (exprs_of es.now)
expr_task_of (PassEach es) = e.pass_each (exprs_of es.now)
expr_task_of (Give w) = e.give (Num w)
expr_task_of (LocalAt k) = e.local_at k
expr_task_of (GlobalAt k) = e.global_at k
expr_task_of (MemberAt o) = e.member_at o
expr_task_of Discard = e.discard
expr_task_of UseIt = e.use_it
expr_task_of (Test t) = e.test t.now
expr_task_of (Unary o t u) = e.unary o t.now u.now
expr_task_of (Binary o t u) = e.binary o t.now u.now
expr_task_of (AndAlso t b) = e.and_also t.now b.now
expr_task_of (OrElse t b) = e.or_else t.now b.now
expr_task_of (Choose t a b) = e.choose t.now a.now b.now
expr_task_of (LoadFrom t) = e.load_from t.now
expr_task_of (LoadAt t) = e.load_at t.now
expr_task_of (StoreAt t) = e.store_at t.now
expr_task_of (CompoundAt o t u) = e.compound_at o t.now u.now
expr_task_of (StepAt i t) = e.step_at i t.now
expr_task_of (LoadSlot k t) = e.load_slot k t.now
expr_task_of (StoreSlot k t) = e.store_slot k t.now
expr_task_of (CompoundSlot k o t u) = e.compound_slot k o t.now u.now
expr_task_of (StepSlot k i t) = e.step_slot k i t.now
expr_task_of ReadByte = e.read_byte
expr_task_of WriteByte = e.write_byte
expr_task_of EndProgram = e.end_program
expr_task_of (Call f n) = e.call f n

abbrev pub on_stmt : Stage → StmtTree → s.StmtTask
on_stmt Run a = s.run_stmt a
on_stmt Branch a = s.branch a
on_stmt Select a = s.select a
on_stmt (RunTurns k) a = s.run_turns k a
on_stmt (TurnIf k) a = s.turn_if k a

abbrev pub stmt_task_of : StmtTask → s.StmtTask
stmt_task_of (OnStmt stage a) = on_stmt stage a.now
stmt_task_of (RunItems is) = s.run_items (items_of is.now)
stmt_task_of (RunGroups gs) = s.run_groups (groups_of gs.now)
stmt_task_of Break = s.jump stmt.broke
stmt_task_of Continue = s.jump stmt.continued
stmt_task_of ReturnNone = s.jump (stmt.returned None)
stmt_task_of ReturnIt = s.return_it
stmt_task_of (Enter k) = s.enter k
stmt_task_of BeginSlot = s.begin_slot
stmt_task_of (BeginObject k t) = s.begin_object k t.now
stmt_task_of (ClearObject k) = s.clear_object k
stmt_task_of (BeginElements k es) = s.begin_elements k (elements_of es.now)
stmt_task_of (BeginElement k o t) = s.begin_element k o t.now
stmt_task_of (BeginCharacters k o cs) = s.begin_characters k o cs.now

abbrev pub handler_of : Handler → s.Handler
handler_of EndSwitch = s.end_switch
handler_of (Again k a) = s.again k a.now
handler_of (EndScope n) = s.end_scope n
handler_of EndCall = s.end_call

abbrev pub task_of : Task → s.Task
task_of (task.OfExpr t) = s.of_expr (expr_task_of t)
task_of (task.OfStmt t) = s.of_stmt (stmt_task_of t)
task_of (task.Handler h) = s.handler (handler_of h)

-- all that is left, of which the last is done first
abbrev pub tasks_of : List Task → List s.Task
tasks_of ts = map task_of ts

-- where a turn is left its tasks were added, and where none is, nothing is said of them
abbrev pub IsTurn : Option (List s.Task) → (old new : List s.Task) → (taken : Bool) → Type 0
IsTurn None old new taken = taken ≡ false
IsTurn (Some ts) old new taken = (taken ≡ true) × (new ≡ old ++ ts)
