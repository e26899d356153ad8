-- Statements as plain trees.
use Rattle.std.specs.Prelude.{List, [], ◌∷◌, Option, Some, None}
use Rattle.c_lex.specs.declared.keyword.Keyword.TheVariants as w
use Rattle.c_lex.specs.declared.punct.Punct.TheVariants as m
use Rattle.c_ast.specs.declared.expression.ExprList.{ExprList}
use Rattle.c_ast.specs.declared.statement.Stmt.{Stmt}
use Rattle.c_ast.specs.declared.statement.Block.{Block, out-Block}
use Rattle.c_ast.specs.declared.statement.BlockItem.{BlockItem}
use Rattle.c_ast.specs.declared.statement.Else.{Else}
use Rattle.c_ast.specs.declared.statement.ForStart.{ForStart}
use Rattle.c_ast.specs.declared.statement.ForStart.TheVariants as start
use Rattle.c_ast.specs.declared.statement.Group.{Group, out-Group}
use Rattle.c_ast.specs.declared.statement.Label.{Label}
use Rattle.c_ast.specs.declared.statement.Label.TheVariants as case
use Rattle.c_ast.specs.declared.statement.BlockItem.TheFolds.{fold-Stmt, fold-BlockItem}
use Rattle.c_ast.specs.declared.statement.BlockItem.TheOpen.{Stmt-F, Block-F, BlockItem-F, Else-F, Group-F}
use Rattle.c_ast.specs.Productions as l
use Rattle.c_ast.specs.Tree.{Tree}
use Rattle.c_ast.specs.Nodes.{node, mark, word, many, opt}
use Rattle.c_ast.specs.Expressions.{expr_tree, list_tree}
use Rattle.c_ast.specs.Declarations.{locals_tree}

abbrev pub clause : Option ExprList → Tree
clause x = opt l.Clause (λ e. list_tree e ∷ []) x

unfoldable pub start_tree : ForStart → Tree
start_tree (start.Locals x) = locals_tree x
start_tree (start.Clause value semicolon) = node l.ForClause (clause value ∷ mark m.Semicolon semicolon ∷ [])

unfoldable pub label_tree : Label → Tree
label_tree (case.Case keyword value colon) =
    node l.Case (word w.Case keyword ∷ expr_tree value ∷ mark m.Colon colon ∷ [])
label_tree (case.Default keyword colon) = node l.Default (word w.Default keyword ∷ mark m.Colon colon ∷ [])

-- an `if` with what follows it
abbrev pub with_else : Tree → Option (List Tree) → Tree
with_else before None = before
with_else before (Some more) = node l.IfElse (before ∷ more)

-- A layer of an item of a block, of a statement, a block, what follows an `if`, and a group.
abbrev pub item_step : BlockItem-F Tree Tree Tree (List Tree) Tree → Tree
item_step (BlockItem-F.Stmt t) = t
item_step (BlockItem-F.Locals x) = locals_tree x

abbrev pub stmt_step : Stmt-F Tree Tree Tree (List Tree) Tree → Tree
stmt_step (Stmt-F.Null semicolon) = node l.Null (mark m.Semicolon semicolon ∷ [])
stmt_step (Stmt-F.Expr value semicolon) = node l.Expression (list_tree value ∷ mark m.Semicolon semicolon ∷ [])
stmt_step (Stmt-F.Block x) = x
stmt_step (Stmt-F.If keyword opening condition closing then otherwise) =
    with_else
    (node l.If (word w.If keyword ∷ mark m.LParen opening ∷ list_tree condition ∷ mark m.RParen closing ∷ then ∷ []))
    otherwise
stmt_step (Stmt-F.While keyword opening condition closing body) =
    node l.While (word w.While keyword ∷ mark m.LParen opening ∷ list_tree condition ∷ mark m.RParen closing ∷ body ∷ [])
stmt_step (Stmt-F.Do keyword body until opening condition closing semicolon) =
    node l.DoWhile (word w.Do keyword ∷ body ∷ word w.While until ∷ mark m.LParen opening ∷ list_tree condition ∷ mark m.RParen closing ∷ mark m.Semicolon semicolon ∷ [])
stmt_step (Stmt-F.For keyword opening header closing body) =
    node l.For (word w.For keyword ∷ mark m.LParen opening ∷ start_tree header.clauses.start ∷ clause header.clauses.condition ∷ mark m.Semicolon header.clauses.semicolon ∷
    clause header.clauses.step ∷ mark m.RParen closing ∷ body ∷ [])
stmt_step (Stmt-F.Break keyword semicolon) = node l.Break (word w.Break keyword ∷ mark m.Semicolon semicolon ∷ [])
stmt_step (Stmt-F.Continue keyword semicolon) =
    node l.Continue (word w.Continue keyword ∷ mark m.Semicolon semicolon ∷ [])
stmt_step (Stmt-F.Return keyword value semicolon) =
    node l.Return (word w.Return keyword ∷ clause value ∷ mark m.Semicolon semicolon ∷ [])
stmt_step (Stmt-F.Switch keyword subject begin groups end) =
    node l.Switch (word w.Switch keyword ∷ mark m.LParen subject.open ∷ list_tree subject.value ∷ mark m.RParen subject.close ∷ mark m.LBrace begin ∷ many l.Groups (λ t. t ∷ []) groups ∷
    mark m.RBrace end ∷ [])

abbrev pub block_step : Block-F Tree Tree Tree (List Tree) Tree → Tree
block_step x = node l.Block (mark m.LBrace x.open ∷ many l.Items (λ t. t ∷ []) x.items ∷ mark m.RBrace x.close ∷ [])

abbrev pub else_step : Else-F Tree Tree Tree (List Tree) Tree → List Tree
else_step x = word w.Else x.keyword ∷ x.body ∷ []

abbrev pub labels_tree : List Label → Tree
labels_tree xs = many l.MoreLabels (λ x. label_tree x ∷ []) xs

abbrev pub group_step : Group-F Tree Tree Tree (List Tree) Tree → Tree
group_step x =
    node l.Group (label_tree x.label ∷ labels_tree x.labels ∷ x.first ∷ many l.MoreStmts (λ t. t ∷ []) x.more ∷ [])

unfoldable pub stmt_tree : Stmt → Tree
stmt_tree = fold-Stmt Tree Tree Tree (List Tree) Tree item_step stmt_step block_step else_step group_step

unfoldable pub item_tree : BlockItem → Tree
item_tree = fold-BlockItem Tree Tree Tree (List Tree) Tree item_step stmt_step block_step else_step group_step

-- items of a block
abbrev pub items_tree : List BlockItem → Tree
items_tree xs = many l.Items (λ x. item_tree x ∷ []) xs

unfoldable pub block_tree : Block → Tree
block_tree x =
    let block = out-Block x in
    node l.Block (mark m.LBrace block.open ∷ items_tree block.items ∷ mark m.RBrace block.close ∷ [])

-- what follows an `if`
unfoldable pub else_children : Else → List Tree
else_children x = word w.Else x.keyword ∷ stmt_tree x.body ∷ []

-- statements
abbrev pub stmts_tree : List Stmt → Tree
stmts_tree xs = many l.MoreStmts (λ x. stmt_tree x ∷ []) xs

unfoldable pub group_tree : Group → Tree
group_tree x =
    let group = out-Group x in
    node l.Group (label_tree group.label ∷ labels_tree group.labels ∷ stmt_tree group.first ∷ stmts_tree group.more ∷ [])

abbrev pub groups_tree : List Group → Tree
groups_tree xs = many l.Groups (λ x. group_tree x ∷ []) xs
