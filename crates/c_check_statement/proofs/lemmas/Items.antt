-- Items and groups, one more at the end, and what one more is in the definition.
use Rattle.std.proofs.Common.{◌≡◌, ℕ, List, [], ◌∷◌, ◌++◌, Option, refl, ap, ◌∙◌}
use Rattle.c_ast.specs.declared.statement.Group.{Group}
use Rattle.c_ast.specs.Productions as l
use Rattle.c_ast.specs.Tree.{Tree, Node, Nil, Cons}
use Rattle.c_ast.specs.Statements.{group_tree}
use Rattle.c_typed.specs.declared.statement.Group as typed
use Rattle.c_typed.specs.Typed.{ExprTree, GroupTrees, group_then}
use Rattle.c_typed.specs.StmtViews.{items_of, groups_of}
use Rattle.c_check_def.specs.State.{State, after}
use Rattle.c_check_def.specs.Declarators.{items_joined}
use Rattle.c_check_def.specs.Statements.{Jumps, Labels, in_switch, next_group, with_group, switch_stmt, items, groups, group}
use Rattle.c_check_expression.specs.Clauses.{subject_at}
use Rattle.c_check_statement.specs.Parts.{switch_statement, item}

pub groups-more : (gs : List typed.Group) (g : typed.Group) → groups_of (gs ++ g ∷ []) ≡ with_group (groups_of gs) g.cases.items g.is_default (items_of g.body.items)
groups-more [] g = refl
groups-more (h ∷ gs) g = ap (group_then h.cases.items h.is_default (items_of h.body.items)) (groups-more gs g)

-- an item more
pub item-next : (j : Jumps) (k : l.Repeated) (before t : Tree) (s : State) →
    items j (Node (l.More k) (Cons before (Cons t Nil))) s ≡ after (items j before s) (λ is. λ u. after (item j t u) (λ ds. λ v. (items_joined is ds, v)))
item-next j k before (Node l.Locals children) s = refl
item-next j k before t s = refl

-- The labels of the group before are no labels of the next one.
pub group-next : (j : Jumps) (y : Labels) (gs : GroupTrees) (x : Group) (s : State) →
    group j (record { labels = next_group y; groups = gs }) (group_tree x) s ≡ group j (record { labels = y; groups = gs }) (group_tree x) s
unfolding group_tree
group-next j y gs x s = refl

-- ---- `switch`

pub switch-made : (j : Jumps) (offset : ℕ) (x gs : Tree) (e : Option ExprTree) (ys : GroupTrees) (s t : State) → e ≡ (subject_at offset x s).0 → t ≡ (subject_at offset x s).1
    → ys ≡ (groups (in_switch j) gs t).0.groups → switch_stmt e ys ≡ (switch_statement j offset x gs s).0
switch-made j offset x gs e ys s t value state made =
    let r = subject_at offset x s in
    ap (λ z. switch_stmt z ys) value ∙ ap (switch_stmt r.0) made ∙ ap (λ u. switch_stmt r.0 (groups (in_switch j) gs u).0.groups) state

pub ruleset joined = (groups-more)
