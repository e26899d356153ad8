-- A task whose variant is known does what that variant does.
use Rattle.std.proofs.Common.{Bor, ◌≡◌, ℕ, true, refl, sym, subst}
use Rattle.std.specs.Prelude.{Result}
use Rattle.c_type.specs.Trees.{TypeTree}
use Rattle.c_typed.specs.declared.operator.UnaryOp.{UnaryOp}
use Rattle.c_typed.specs.declared.operator.UnaryOp.TheVariants as unary_op
use Rattle.c_typed.specs.Typed.{StmtTree, ProgramTree}
use Rattle.c_interp_store.specs.Operators.{is_pure}
use Rattle.c_interp_def.specs.ExprTasks.{unary, expr_task_run}
use Rattle.c_interp_def.specs.StmtTasks.{of_expr, of_stmt, stmt_task_run, handler_run}
use Rattle.c_interp_def.specs.declared.task.ExprTask.{ExprTask}
use Rattle.c_interp_def.specs.declared.task.ExprTask.TheVariants.{ReadByte, WriteByte, Unary}
use Rattle.c_interp_def.specs.declared.task.Stage.{Stage}
use Rattle.c_interp_def.specs.declared.task.StmtTask.{StmtTask}
use Rattle.c_interp_def.specs.declared.task.Handler.{Handler}
use Rattle.c_interp_def.specs.declared.task.Task.{Task}
use Rattle.c_interp_def.specs.declared.task.Flow.{Flow}
use Rattle.c_interp_def.specs.declared.task.Flow.TheVariants.{Normal}
use Rattle.c_interp_answer.specs.TaskViews.{expr_task_of, stmt_task_of, on_stmt, handler_of, task_of, flow_of}
use Rattle.c_interp.specs.declared.stop.Stop.{Stop}
use Rattle.c_interp.specs.declared.machine.Machine.{Machine}
use Rattle.c_interp.specs.Steps.{IsStep, task_from}
use Rattle.c_interp.specs.Ports.{Port, IsStepAt, IsQuiet}

module _ (p : ProgramTree) (n : ℕ) (r : Result Unit Stop) (old new : Machine) where
  pub expr_as : (t u : ExprTask) → t ≡ u → IsStep p n r old new (expr_task_run p n (expr_task_of u)) → IsStep p n r old new (expr_task_run p n (expr_task_of t))
  expr_as t u e h = let P : ExprTask → Type 0 = λ v. IsStep p n r old new (expr_task_run p n (expr_task_of v)) in subst P (sym e) h

  pub stmt_as : (t u : StmtTask) → t ≡ u → IsStep p n r old new (stmt_task_run p n (stmt_task_of u)) → IsStep p n r old new (stmt_task_run p n (stmt_task_of t))
  stmt_as t u e h = let P : StmtTask → Type 0 = λ v. IsStep p n r old new (stmt_task_run p n (stmt_task_of v)) in subst P (sym e) h

  pub stage_as : (a : StmtTree) (t u : Stage) → t ≡ u → IsStep p n r old new (stmt_task_run p n (on_stmt u a)) → IsStep p n r old new (stmt_task_run p n (on_stmt t a))
  stage_as a t u e h = let P : Stage → Type 0 = λ v. IsStep p n r old new (stmt_task_run p n (on_stmt v a)) in subst P (sym e) h

  pub handler_as : (t u : Handler) → t ≡ u → IsStep p n r old new (handler_run p n (handler_of u) (flow_of old.flow)) → IsStep p n r old new (handler_run p n (handler_of t) (flow_of old.flow))
  handler_as t u e h = let P : Handler → Type 0 = λ v. IsStep p n r old new (handler_run p n (handler_of v) (flow_of old.flow)) in subst P (sym e) h

  -- a task of a statement where no jump is on its way
  pub stmt_normally : (t : StmtTask) → old.flow ≡ Normal → IsStep p n r old new (stmt_task_run p n (stmt_task_of t)) → IsStep p n r old new (task_from p n (of_stmt (stmt_task_of t)) (flow_of old.flow))
  stmt_normally t e h = let P : Flow → Type 0 = λ f. IsStep p n r old new (task_from p n (of_stmt (stmt_task_of t)) (flow_of f)) in subst P (sym e) h

module _ (p : ProgramTree) (n : ℕ) (r : Result Unit Stop) (old new : Machine) (first last : Port) (reads writes : Type 0) where
  pub task_as : (t u : Task) → t ≡ u → IsStepAt p n r old new (task_from p n (task_of u) (flow_of old.flow)) first last reads writes →
      IsStepAt p n r old new (task_from p n (task_of t) (flow_of old.flow)) first last reads writes
  task_as t u e h = let P : Task → Type 0 = λ v. IsStepAt p n r old new (task_from p n (task_of v) (flow_of old.flow)) first last reads writes in subst P (sym e) h

  pub expr_normally : (t : ExprTask) → old.flow ≡ Normal → IsStepAt p n r old new (expr_task_run p n (expr_task_of t)) first last reads writes →
      IsStepAt p n r old new (task_from p n (of_expr (expr_task_of t)) (flow_of old.flow)) first last reads writes
  expr_normally t e h = let P : Flow → Type 0 = λ f. IsStepAt p n r old new (task_from p n (of_expr (expr_task_of t)) (flow_of f)) first last reads writes in subst P (sym e) h

  pub expr_at : (t u : ExprTask) → t ≡ u → IsStepAt p n r old new (expr_task_run p n (expr_task_of u)) first last reads writes →
      IsStepAt p n r old new (expr_task_run p n (expr_task_of t)) first last reads writes
  expr_at t u e h = let P : ExprTask → Type 0 = λ v. IsStepAt p n r old new (expr_task_run p n (expr_task_of v)) first last reads writes in subst P (sym e) h

-- ---- tasks that neither read nor write

pub is_quiet : (t : ExprTask) → (t ≡ ReadByte → ⊥) → (t ≡ WriteByte → ⊥) → ((o : UnaryOp) (a b : Bor TypeTree) → t ≡ Unary o a b → ⊥) → IsQuiet t
is_quiet ReadByte r w u = absurd (r refl)
is_quiet WriteByte r w u = absurd (w refl)
is_quiet (Unary o a b) r w u = absurd (u o a b refl)
is_quiet t r w u = tt

pub pure_else : (o : UnaryOp) → (o ≡ unary_op.Put → ⊥) → (o ≡ unary_op.Exit → ⊥) → is_pure o ≡ true
pure_else unary_op.Put p e = absurd (p refl)
pure_else unary_op.Exit p e = absurd (e refl)
pure_else o p e = refl

module _ (p : ProgramTree) (n : ℕ) (r : Result Unit Stop) (old new : Machine) (first last : Port) (reads writes : Type 0) (t u : TypeTree) where
  pub unary_at : (o q : UnaryOp) → o ≡ q → IsStepAt p n r old new (expr_task_run p n (unary q t u)) first last reads writes → IsStepAt p n r old new (expr_task_run p n (unary o t u)) first last reads writes
  unary_at o q e h = let P : UnaryOp → Type 0 = λ v. IsStepAt p n r old new (expr_task_run p n (unary v t u)) first last reads writes in subst P (sym e) h
