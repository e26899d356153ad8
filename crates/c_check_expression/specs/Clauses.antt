-- Statements of expressions, conditions, and what a `switch` goes by, from the expression on.
use Rattle.std.specs.Prelude.{ℕ, Option}
use Rattle.c_ast.specs.Tree.{Tree}
use Rattle.c_typed.specs.Typed.{ExprTree, StmtTree}
use Rattle.c_check_def.specs.State.{Elaborated, ◌>>=◌, pure}
use Rattle.c_check_def.specs.Leaves.{begin_of}
use Rattle.c_check_def.specs.Expressions.{expressions}
use Rattle.c_check_def.specs.Statements.{whole, condition, subject, value_stmt}

abbrev pub value_statement : Tree → Elaborated StmtTree
value_statement x = do
  a ← expressions x
  e ← whole (begin_of x) a
  pure (value_stmt e)

-- a condition, of the statement at an offset
abbrev pub condition_at : (offset : ℕ) → Tree → Elaborated (Option ExprTree)
condition_at offset x = do
  a ← expressions x
  condition offset a

abbrev pub subject_at : (offset : ℕ) → Tree → Elaborated (Option ExprTree)
subject_at offset x = do
  a ← expressions x
  subject offset a
