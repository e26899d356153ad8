-- One equation for each variant of a statement.
use Rattle.std.proofs.Common.{◌≡◌, List, [], ◌∷◌, Option, Some, None, refl, sym, ◌∙◌, ap}
use Rattle.c_lex.specs.declared.keyword.Keyword.TheVariants as w
use Rattle.c_lex.specs.declared.punct.Punct.TheVariants as m
use Rattle.c_ast.specs.declared.declaration.Locals.{Locals}
use Rattle.c_ast.specs.declared.expression.ExprList.{ExprList}
use Rattle.c_ast.specs.declared.statement.Block.{Block, out-Block}
use Rattle.c_ast.specs.declared.statement.BlockItem.{BlockItem, roll-BlockItem}
use Rattle.c_ast.specs.declared.statement.BlockItem.TheVariants as i
use Rattle.c_ast.specs.declared.statement.BlockItem.TheFolds.{map-Stmt, map-BlockItem, fold-Block, fold-Else, fold-Group, fold-roll-Stmt, fold-roll-BlockItem, fold_out-Block, fold_out-Else, fold_out-Group}
use Rattle.c_ast.specs.declared.statement.BlockItem.TheOpen.{Stmt-F, BlockItem-F}
use Rattle.c_ast.specs.declared.statement.Else.{Else}
use Rattle.c_ast.specs.declared.statement.ForHeader.{ForHeader}
use Rattle.c_ast.specs.declared.statement.Group.{Group, out-Group}
use Rattle.c_ast.specs.declared.statement.Subject.{Subject}
use Rattle.c_ast.specs.declared.statement.Stmt.{Stmt, roll-Stmt}
use Rattle.c_ast.specs.declared.statement.Stmt.TheVariants as e
use Rattle.c_ast.specs.declared.token.Span.{Span}
use Rattle.c_ast.specs.Productions as l
use Rattle.c_ast.specs.Tree.{Tree}
use Rattle.c_ast.specs.Nodes.{node, mark, word}
use Rattle.c_ast.specs.Declarations.{locals_tree}
use Rattle.c_ast.specs.Expressions.{list_tree}
use Rattle.c_ast.specs.Statements.{clause, start_tree, label_tree, labels_tree, stmt_tree, item_tree, block_tree, else_children, group_tree, groups_tree, item_step, stmt_step, block_step, else_step, group_step}
use Rattle.c_ast.proofs.lemmas.Lists.{many-map}

abbrev of_block : Block → Tree
of_block = fold-Block Tree Tree Tree (List Tree) Tree item_step stmt_step block_step else_step group_step

abbrev of_else : Else → List Tree
of_else = fold-Else Tree Tree Tree (List Tree) Tree item_step stmt_step block_step else_step group_step

abbrev of_group : Group → Tree
of_group = fold-Group Tree Tree Tree (List Tree) Tree item_step stmt_step block_step else_step group_step

of_block_is : (x : Block) → of_block x ≡ block_tree x
unfolding item_tree block_tree
of_block_is x =
    let block = out-Block x in
    fold_out-Block Tree Tree Tree (List Tree) Tree item_step stmt_step block_step else_step group_step x
    ∙ ap (λ (t : Tree). node l.Block (mark m.LBrace block.open ∷ t ∷ mark m.RBrace block.close ∷ [])) (many-map l.Items (λ t. t ∷ []) _ (λ y. item_tree y ∷ []) (λ y. refl) block.items)

of_else_is : (x : Else) → of_else x ≡ else_children x
unfolding stmt_tree else_children
of_else_is x = fold_out-Else Tree Tree Tree (List Tree) Tree item_step stmt_step block_step else_step group_step x

of_group_is : (x : Group) → of_group x ≡ group_tree x
unfolding stmt_tree group_tree
of_group_is x =
    let group = out-Group x in
    fold_out-Group Tree Tree Tree (List Tree) Tree item_step stmt_step block_step else_step group_step x
    ∙ ap (λ (t : Tree). node l.Group (label_tree group.label ∷ labels_tree group.labels ∷ stmt_tree group.first ∷ t ∷ [])) (many-map l.MoreStmts (λ t. t ∷ []) _ (λ y. stmt_tree y ∷
    []) (λ y. refl) group.more)

-- one layer
layer : (d : Stmt-F BlockItem Stmt Block Else Group) → stmt_tree (roll-Stmt d) ≡ stmt_step (map-Stmt _ _ _ _ _ _ _ _ _ _ item_tree stmt_tree of_block of_else of_group d)
unfolding stmt_tree item_tree
layer d = fold-roll-Stmt Tree Tree Tree (List Tree) Tree item_step stmt_step block_step else_step group_step d

item_layer : (d : BlockItem-F BlockItem Stmt Block Else Group) → item_tree (roll-BlockItem d) ≡ item_step (map-BlockItem _ _ _ _ _ _ _ _ _ _ item_tree stmt_tree of_block of_else of_group d)
unfolding stmt_tree item_tree
item_layer d = fold-roll-BlockItem Tree Tree Tree (List Tree) Tree item_step stmt_step block_step else_step group_step d

pub item-Stmt : (x : Stmt) → item_tree (i.Stmt x) ≡ stmt_tree x
item-Stmt x = ap item_tree (sym (i.rolls-Stmt x)) ∙ item_layer (BlockItem-F.Stmt x)

pub item-Locals : (x : Locals) → item_tree (i.Locals x) ≡ locals_tree x
item-Locals x = ap item_tree (sym (i.rolls-Locals x)) ∙ item_layer (BlockItem-F.Locals x)

pub tree-Null : (a : Span) →
    stmt_tree (e.Null a) ≡ node l.Null (mark m.Semicolon a ∷ [])
tree-Null a =
    ap stmt_tree (sym (e.rolls-Null a)) ∙ layer (Stmt-F.Null a)

pub tree-Expr : (x : ExprList) (a : Span) →
    stmt_tree (e.Expr x a) ≡ node l.Expression (list_tree x ∷ mark m.Semicolon a ∷ [])
tree-Expr x a =
    ap stmt_tree (sym (e.rolls-Expr x a)) ∙ layer (Stmt-F.Expr x a)

pub tree-Block : (x : Block) →
    stmt_tree (e.Block x) ≡ block_tree x
tree-Block x =
    ap stmt_tree (sym (e.rolls-Block x)) ∙ layer (Stmt-F.Block x)
    ∙ of_block_is x

pub tree-If : (k a : Span) (x : ExprList) (b : Span) (y : Stmt) →
    stmt_tree (e.If k a x b y None) ≡ node l.If (word w.If k ∷ mark m.LParen a ∷ list_tree x ∷ mark m.RParen b ∷ stmt_tree y ∷ [])
tree-If k a x b y = ap stmt_tree (sym (e.rolls-If k a x b y None)) ∙ layer (Stmt-F.If k a x b y None)

pub tree-IfElse : (k a : Span) (x : ExprList) (b : Span) (y : Stmt) (z : Else) →
    stmt_tree (e.If k a x b y (Some z))
    ≡ node l.IfElse (node l.If (word w.If k ∷ mark m.LParen a ∷ list_tree x ∷ mark m.RParen b ∷ stmt_tree y ∷ []) ∷ else_children z)
tree-IfElse k a x b y z =
    ap stmt_tree (sym (e.rolls-If k a x b y (Some z))) ∙ layer (Stmt-F.If k a x b y (Some z))
    ∙ ap (λ (p : List Tree). node l.IfElse (node l.If (word w.If k ∷ mark m.LParen a ∷ list_tree x ∷ mark m.RParen b ∷ stmt_tree y ∷ []) ∷ p)) (of_else_is z)

pub tree-While : (k a : Span) (x : ExprList) (b : Span) (y : Stmt) →
    stmt_tree (e.While k a x b y) ≡ node l.While (word w.While k ∷ mark m.LParen a ∷ list_tree x ∷ mark m.RParen b ∷ stmt_tree y ∷ [])
tree-While k a x b y =
    ap stmt_tree (sym (e.rolls-While k a x b y)) ∙ layer (Stmt-F.While k a x b y)

pub tree-Do : (k : Span) (y : Stmt) (u a : Span) (x : ExprList) (b c : Span) →
    stmt_tree (e.Do k y u a x b c) ≡ node l.DoWhile (word w.Do k ∷ stmt_tree y ∷ word w.While u ∷ mark m.LParen a ∷ list_tree x ∷ mark m.RParen b ∷ mark m.Semicolon c ∷ [])
tree-Do k y u a x b c =
    ap stmt_tree (sym (e.rolls-Do k y u a x b c)) ∙ layer (Stmt-F.Do k y u a x b c)

pub tree-For : (k a : Span) (h : ForHeader) (b : Span) (y : Stmt) →
    stmt_tree (e.For k a h b y) ≡ node l.For (word w.For k ∷ mark m.LParen a ∷ start_tree h.clauses.start ∷ clause h.clauses.condition ∷ mark m.Semicolon h.clauses.semicolon ∷
    clause h.clauses.step ∷ mark m.RParen b ∷ stmt_tree y ∷ [])
tree-For k a h b y =
    ap stmt_tree (sym (e.rolls-For k a h b y)) ∙ layer (Stmt-F.For k a h b y)

pub tree-Break : (k a : Span) →
    stmt_tree (e.Break k a) ≡ node l.Break (word w.Break k ∷ mark m.Semicolon a ∷ [])
tree-Break k a =
    ap stmt_tree (sym (e.rolls-Break k a)) ∙ layer (Stmt-F.Break k a)

pub tree-Continue : (k a : Span) →
    stmt_tree (e.Continue k a) ≡ node l.Continue (word w.Continue k ∷ mark m.Semicolon a ∷ [])
tree-Continue k a =
    ap stmt_tree (sym (e.rolls-Continue k a)) ∙ layer (Stmt-F.Continue k a)

pub tree-Return : (k : Span) (x : Option ExprList) (a : Span) →
    stmt_tree (e.Return k x a) ≡ node l.Return (word w.Return k ∷ clause x ∷ mark m.Semicolon a ∷ [])
tree-Return k x a =
    ap stmt_tree (sym (e.rolls-Return k x a)) ∙ layer (Stmt-F.Return k x a)

pub tree-Switch : (k : Span) (x : Subject) (c : Span) (xs : List Group) (d : Span) →
    stmt_tree (e.Switch k x c xs d) ≡ node l.Switch (word w.Switch k ∷ mark m.LParen x.open ∷ list_tree x.value ∷ mark m.RParen x.close ∷ mark m.LBrace c ∷ groups_tree xs ∷ mark m.RBrace d ∷ [])
tree-Switch k x c xs d =
    ap stmt_tree (sym (e.rolls-Switch k x c xs d)) ∙ layer (Stmt-F.Switch k x c xs d)
    ∙ ap (λ (t : Tree). node l.Switch (word w.Switch k ∷ mark m.LParen x.open ∷ list_tree x.value ∷ mark m.RParen x.close ∷ mark m.LBrace c ∷ t ∷ mark m.RBrace d ∷ [])) (many-map l.Groups (λ t. t ∷
    []) of_group (λ y. group_tree y ∷ []) (λ y. ap (λ (t : Tree). t ∷ []) (of_group_is y)) xs)

-- each variant
pub ruleset stmt_views = (item-Stmt, item-Locals, tree-Null, tree-Expr, tree-Block, tree-If, tree-IfElse, tree-While, tree-Do, tree-For, tree-Break, tree-Continue, tree-Return, tree-Switch)
