-- Type names, blocks and groups that the parser makes.
use Rattle.std.proofs.Common.{◌≡◌, List, [], ◌∷◌, Option, ap}
use Rattle.c_lex.specs.declared.punct.Punct.TheVariants as m
use Rattle.c_ast.specs.declared.expression.Dimension.{Dimension}
use Rattle.c_ast.specs.declared.expression.Expr.TheViews.{out-roll-TypeName}
use Rattle.c_ast.specs.declared.expression.TypeName.{roll-TypeName}
use Rattle.c_ast.specs.declared.specifier.Spec.{Spec}
use Rattle.c_ast.specs.declared.statement.Block.{roll-Block}
use Rattle.c_ast.specs.declared.statement.BlockItem.{BlockItem}
use Rattle.c_ast.specs.declared.statement.BlockItem.TheViews.{out-roll-Block, out-roll-Group}
use Rattle.c_ast.specs.declared.statement.Group.{roll-Group}
use Rattle.c_ast.specs.declared.statement.Label.{Label}
use Rattle.c_ast.specs.declared.statement.Stmt.{Stmt}
use Rattle.c_ast.specs.declared.token.Span.{Span}
use Rattle.c_ast.specs.Expressions.{type_tree, dimensions}
use Rattle.c_ast.specs.Productions as l
use Rattle.c_ast.specs.Nodes.{node, mark}
use Rattle.c_ast.specs.Specifiers.{constant, spec_tree, stars}
use Rattle.c_ast.specs.Statements.{block_tree, items_tree, group_tree, label_tree, labels_tree, stmt_tree, stmts_tree}

pub type-tree : (q : Option Span) (s : Spec) (xs : List Span) (ds : List Dimension) →
    type_tree (roll-TypeName (record { qualifier = q; spec = s; stars = xs; dimensions = ds }))
    ≡ node l.TypeName (constant q ∷ spec_tree s ∷ stars xs ∷ dimensions ds ∷ [])
unfolding type_tree
type-tree q s xs ds =
    ap (λ named. node l.TypeName (constant named.qualifier ∷ spec_tree named.spec ∷ stars named.stars ∷ dimensions named.dimensions ∷ []))
    (out-roll-TypeName (record { qualifier = q; spec = s; stars = xs; dimensions = ds }))

pub block-tree : (a : Span) (xs : List BlockItem) (b : Span) →
    block_tree (roll-Block (record { «open» = a; items = xs; close = b }))
    ≡ node l.Block (mark m.LBrace a ∷ items_tree xs ∷ mark m.RBrace b ∷ [])
unfolding block_tree
block-tree a xs b =
    ap (λ block. node l.Block (mark m.LBrace block.open ∷ items_tree block.items ∷ mark m.RBrace block.close ∷ []))
    (out-roll-Block (record { «open» = a; items = xs; close = b }))

pub group-tree : (x : Label) (xs : List Label) (s : Stmt) (ss : List Stmt) →
    group_tree (roll-Group (record { label = x; labels = xs; first = s; more = ss }))
    ≡ node l.Group (label_tree x ∷ labels_tree xs ∷ stmt_tree s ∷ stmts_tree ss ∷ [])
unfolding group_tree
group-tree x xs s ss =
    ap (λ group. node l.Group (label_tree group.label ∷ labels_tree group.labels ∷ stmt_tree group.first ∷ stmts_tree group.more ∷ []))
    (out-roll-Group (record { label = x; labels = xs; first = s; more = ss }))

pub ruleset type_views = (type-tree, block-tree, group-tree)
