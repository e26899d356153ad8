-- What the definition says of each variant of a statement, and of an item of a block.
use Rattle.std.proofs.Common.{◌≡◌, Bool, true, false, List, Option, Some, None, refl, ap, ◌∙◌}
use Rattle.c_ast.specs.declared.declaration.Locals.{Locals}
use Rattle.c_ast.specs.declared.expression.ExprList.{ExprList}
use Rattle.c_ast.specs.declared.statement.Block.{Block}
use Rattle.c_ast.specs.declared.statement.BlockItem.{BlockItem}
use Rattle.c_ast.specs.declared.statement.BlockItem.TheFolds.{map-Stmt, fold-Block, fold_out-Stmt, fold_out-Block, fold-BlockItem, fold-Stmt, fold-Else, fold-Group}
use Rattle.c_ast.specs.declared.statement.BlockItem.TheOpen.{Stmt-F}
use Rattle.c_ast.specs.declared.statement.BlockItem.TheVariants as i
use Rattle.c_ast.specs.declared.statement.Else.{Else}
use Rattle.c_ast.specs.declared.statement.ForHeader.{ForHeader}
use Rattle.c_ast.specs.declared.statement.Group.{Group}
use Rattle.c_ast.specs.declared.statement.Stmt.{Stmt}
use Rattle.c_ast.specs.declared.statement.Stmt.TheVariants as e
use Rattle.c_ast.specs.declared.statement.Subject.{Subject}
use Rattle.c_ast.specs.declared.token.Span.{Span}
use Rattle.c_ast.specs.Productions as l
use Rattle.c_ast.specs.Tree.{Tree, Node}
use Rattle.c_ast.specs.Declarations.{locals_tree}
use Rattle.c_ast.specs.Expressions.{list_tree}
use Rattle.c_ast.specs.Statements.{clause, start_tree, stmt_tree, item_tree, block_tree, else_children, groups_tree, item_step, stmt_step, block_step, else_step, group_step}
use Rattle.c_ast.proofs.lemmas.StmtViews.{item-Stmt, item-Locals, tree-Null, tree-Expr, tree-Block, tree-If, tree-IfElse, tree-While, tree-Do, tree-For, tree-Break, tree-Continue, tree-Return, tree-Switch}
use Rattle.c_typed.specs.Typed as typed
use Rattle.c_typed.specs.Typed.{no_items, stmt_then}
use Rattle.c_check_def.specs.State.{State, after}
use Rattle.c_check_def.specs.Declarators.{locals}
use Rattle.c_check_def.specs.Statements.{Jumps, in_loop, jump, returned, statement}
use Rattle.c_check_expression.specs.Clauses.{value_statement}
use Rattle.c_check_statement.specs.Parts.{if_statement, else_statement, while_statement, do_statement, for_block, switch_statement, item}

pub arm_null : (j : Jumps) (a : Span) (s : State) → statement j (stmt_tree (e.Null a)) s ≡ (typed.null, s)
arm_null j a s = ap (λ t. statement j t s) (tree-Null a)

pub arm_value : (j : Jumps) (x : ExprList) (a : Span) (s : State) → statement j (stmt_tree (e.Expr x a)) s ≡ value_statement (list_tree x) s
arm_value j x a s = ap (λ t. statement j t s) (tree-Expr x a)

pub arm_block : (j : Jumps) (x : Block) (s : State) → statement j (stmt_tree (e.Block x)) s ≡ statement j (block_tree x) s
arm_block j x s = ap (λ t. statement j t s) (tree-Block x)

pub arm_if : (j : Jumps) (k a : Span) (x : ExprList) (b : Span) (y : Stmt) (s : State) →
    statement j (stmt_tree (e.If k a x b y None)) s ≡ if_statement j k.at (list_tree x) (stmt_tree y) s
arm_if j k a x b y s = ap (λ t. statement j t s) (tree-If k a x b y)

pub arm_if_else : (j : Jumps) (k a : Span) (x : ExprList) (b : Span) (y : Stmt) (z : Else) (s : State) →
    statement j (stmt_tree (e.If k a x b y (Some z))) s ≡ after (if_statement j k.at (list_tree x) (stmt_tree y) s) (λ c. else_statement j c (stmt_tree z.body))
unfolding else_children
arm_if_else j k a x b y z s = ap (λ t. statement j t s) (tree-IfElse k a x b y z)

pub arm_while : (j : Jumps) (k a : Span) (x : ExprList) (b : Span) (y : Stmt) (s : State) →
    statement j (stmt_tree (e.While k a x b y)) s ≡ while_statement (in_loop j) k.at (list_tree x) (stmt_tree y) s
arm_while j k a x b y s = ap (λ t. statement j t s) (tree-While k a x b y)

pub arm_do : (j : Jumps) (k : Span) (y : Stmt) (u a : Span) (x : ExprList) (b c : Span) (s : State) →
    statement j (stmt_tree (e.Do k y u a x b c)) s ≡ do_statement (in_loop j) u.at (stmt_tree y) (list_tree x) s
arm_do j k y u a x b c s = ap (λ t. statement j t s) (tree-Do k y u a x b c)

pub arm_for : (j : Jumps) (k a : Span) (h : ForHeader) (b : Span) (y : Stmt) (s : State) →
    statement j (stmt_tree (e.For k a h b y)) s
    ≡ for_block (in_loop j) k.at (start_tree h.clauses.start) (clause h.clauses.condition) (clause h.clauses.step) (stmt_tree y) s
arm_for j k a h b y s = ap (λ t. statement j t s) (tree-For k a h b y)

pub arm_break : (j : Jumps) (k a : Span) (s : State) → statement j (stmt_tree (e.Break k a)) s ≡ jump j.may_break k.at typed.break s
arm_break j k a s = ap (λ t. statement j t s) (tree-Break k a)

pub arm_continue : (j : Jumps) (k a : Span) (s : State) → statement j (stmt_tree (e.Continue k a)) s ≡ jump j.may_continue k.at typed.continue s
arm_continue j k a s = ap (λ t. statement j t s) (tree-Continue k a)

pub arm_return : (j : Jumps) (k : Span) (x : Option ExprList) (a : Span) (s : State) →
    statement j (stmt_tree (e.Return k x a)) s ≡ returned j.result k.at (clause x) s
arm_return j k x a s = ap (λ t. statement j t s) (tree-Return k x a)

pub arm_switch : (j : Jumps) (k : Span) (x : Subject) (c : Span) (xs : List Group) (d : Span) (s : State) →
    statement j (stmt_tree (e.Switch k x c xs d)) s ≡ switch_statement j k.at (list_tree x.value) (groups_tree xs) s
arm_switch j k x c xs d s = ap (λ t. statement j t s) (tree-Switch k x c xs d)

-- each variant
pub ruleset arms = (
  arm_null,
  arm_value,
  arm_block,
  arm_if,
  arm_if_else,
  arm_while,
  arm_do,
  arm_for,
  arm_break,
  arm_continue,
  arm_return,
  arm_switch,
)

-- ---- items of blocks

-- a declaration
abbrev is_locals : Tree → Bool
is_locals (Node l.Locals children) = true
is_locals t = false

abbrev of_block : Block → Tree
of_block = fold-Block Tree Tree Tree (List Tree) Tree item_step stmt_step block_step else_step group_step

abbrev of_item : BlockItem → Tree
of_item = fold-BlockItem Tree Tree Tree (List Tree) Tree item_step stmt_step block_step else_step group_step

abbrev of_stmt : Stmt → Tree
of_stmt = fold-Stmt Tree Tree Tree (List Tree) Tree item_step stmt_step block_step else_step group_step

abbrev of_else : Else → List Tree
of_else = fold-Else Tree Tree Tree (List Tree) Tree item_step stmt_step block_step else_step group_step

abbrev of_group : Group → Tree
of_group = fold-Group Tree Tree Tree (List Tree) Tree item_step stmt_step block_step else_step group_step

block_shape : (x : Block) → is_locals (of_block x) ≡ false
block_shape x = ap is_locals (fold_out-Block Tree Tree Tree (List Tree) Tree item_step stmt_step block_step else_step group_step x)

step_shape : (d : Stmt-F BlockItem Stmt Block Else Group) → is_locals (stmt_step (map-Stmt _ _ _ _ _ _ _ _ _ _ of_item of_stmt of_block of_else of_group d)) ≡ false
step_shape (Stmt-F.Block x) = block_shape x
step_shape (Stmt-F.If k a x b y None) = refl
step_shape (Stmt-F.If k a x b y (Some z)) = refl
step_shape d = refl

statement_shape : (x : Stmt) → is_locals (stmt_tree x) ≡ false
unfolding stmt_tree
statement_shape x = ap is_locals (fold_out-Stmt Tree Tree Tree (List Tree) Tree item_step stmt_step block_step else_step group_step x) ∙ step_shape _

item_other : (j : Jumps) (t : Tree) (s : State) → is_locals t ≡ false → item j t s ≡ after (statement j t s) (λ a. λ u. (stmt_then a no_items, u))
item_other j (Node l.Locals children) s h = cc
item_other j t s h = refl

pub arm_statement : (j : Jumps) (x : Stmt) (s : State) →
    item j (item_tree (i.Stmt x)) s ≡ after (statement j (stmt_tree x) s) (λ a. λ u. (stmt_then a no_items, u))
arm_statement j x s = ap (λ t. item j t s) (item-Stmt x) ∙ item_other j (stmt_tree x) s (statement_shape x)

pub arm_locals : (j : Jumps) (x : Locals) (s : State) → item j (item_tree (i.Locals x)) s ≡ locals (locals_tree x) s
unfolding locals_tree
arm_locals j x s = ap (λ t. item j t s) (item-Locals x)

pub ruleset item_arms = (arm_statement, arm_locals)

-- a statement among statements alone
pub item_statement : (j : Jumps) (x : Stmt) (s : State) →
    item j (stmt_tree x) s ≡ after (statement j (stmt_tree x) s) (λ a. λ u. (stmt_then a no_items, u))
item_statement j x s = item_other j (stmt_tree x) s (statement_shape x)
