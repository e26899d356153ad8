-- Parts of the statements of the definition, from one of their steps on, and the jumps that may stand in them.
use Rattle.std.specs.Prelude.{ℕ, Option, None}
use Rattle.c_ast.specs.Productions as l
use Rattle.c_ast.specs.Tree.{Tree, Node}
use Rattle.c_typed.specs.Typed as typed
use Rattle.c_typed.specs.Typed.{ExprTree, StmtTree, ItemTrees, no_items, stmt_then}
use Rattle.c_typed.specs.StmtViews.{optional_of}
use Rattle.c_check_def.specs.State.{MaybeType, Elaborated, ◌>>=◌, pure, within_scope}
use Rattle.c_check_def.specs.Declarators.{items_joined, locals}
use Rattle.c_check_def.specs.Statements.{Jumps, in_switch, condition_clause, value_clause, if_stmt, with_else, do_stmt, switch_stmt, for_start, statement, items, groups}
use Rattle.c_check_expression.specs.Clauses.{condition_at, subject_at}
use Rattle.c_check_statement.specs.declared.jumps.Jumps as code

-- the jumps that may stand in a function with a result of a type
abbrev pub jumps_of : code.Jumps → MaybeType → Jumps
jumps_of j t = record { may_break = j.may_break; may_continue = j.may_continue; result = t }

-- an `if` at an offset without its `else`, and the `else` of an `if`
abbrev pub if_statement : Jumps → (offset : ℕ) → Tree → Tree → Elaborated StmtTree
if_statement j offset x t = do
  c ← condition_at offset x
  s ← statement j t
  pure (if_stmt c s)

abbrev pub else_statement : Jumps → StmtTree → Tree → Elaborated StmtTree
else_statement j s t = do
  otherwise ← statement j t
  pure (with_else s otherwise)

-- ---- loops, by the jumps that may stand in them

-- from the body on
abbrev pub loop : Jumps → (condition step : Option ExprTree) → Tree → Elaborated StmtTree
loop j c step t = do
  s ← statement j t
  pure (typed.loop (optional_of c) (optional_of step) s)

abbrev pub while_statement : Jumps → (offset : ℕ) → Tree → Tree → Elaborated StmtTree
while_statement j offset x t = do
  c ← condition_at offset x
  loop j c None t

abbrev pub do_statement : Jumps → (offset : ℕ) → Tree → Tree → Elaborated StmtTree
do_statement j offset t x = do
  s ← statement j t
  c ← condition_at offset x
  pure (do_stmt s c)

-- a `for` from its condition on
abbrev pub for_loop : Jumps → (offset : ℕ) → (condition step body : Tree) → Elaborated StmtTree
for_loop j offset x y t = do
  c ← condition_clause offset x
  step ← value_clause y
  loop j c step t

-- what stands in the block that a `for` is
abbrev pub for_items : Jumps → (offset : ℕ) → (start condition step body : Tree) → Elaborated ItemTrees
for_items j offset start x y t = do
  is ← for_start start
  s ← for_loop j offset x y t
  pure (items_joined is (stmt_then s no_items))

abbrev pub for_block : Jumps → (offset : ℕ) → (start condition step body : Tree) → Elaborated StmtTree
for_block j offset start x y t = within_scope (do
  is ← for_items j offset start x y t
  pure (typed.block is))

-- ---- `switch`

abbrev pub switch_statement : Jumps → (offset : ℕ) → Tree → Tree → Elaborated StmtTree
switch_statement j offset x gs = do
  e ← subject_at offset x
  y ← groups (in_switch j) gs
  pure (switch_stmt e y.groups)

-- the statements of a group
abbrev pub group_items : Jumps → (first more : Tree) → Elaborated ItemTrees
group_items j t ts = do
  s ← statement j t
  is ← items j ts
  pure (stmt_then s is)

-- ---- blocks

-- an item of a block
abbrev pub item : Jumps → Tree → Elaborated ItemTrees
item j (Node l.Locals children) = locals (Node l.Locals children)
item j t = do
  s ← statement j t
  pure (stmt_then s no_items)
