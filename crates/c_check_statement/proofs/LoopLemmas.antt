-- One more element of a list that is walked.
use Rattle.std.proofs.Common.{◌≡◌, ◌<◌, ℕ, ◌+◌, List, [], ◌∷◌, length, take, get_or, sym, ap, ◌∙◌}
use Rattle.c_ast.specs.declared.statement.BlockItem.{BlockItem}
use Rattle.c_ast.specs.declared.statement.Group.{Group}
use Rattle.c_ast.specs.declared.statement.Stmt.{Stmt}
use Rattle.c_ast.specs.Productions as l
use Rattle.c_ast.specs.Statements.{stmt_tree, item_tree, items_tree, stmts_tree, group_tree, groups_tree}
use Rattle.c_ast.proofs.lemmas.Lists.{many-none}
use Rattle.c_check_expression.proofs.lemmas.Lists.{many_next}
use Rattle.c_typed.specs.Typed.{ItemTrees, GroupTrees, no_items, no_groups, stmt_then}
use Rattle.c_check_def.specs.State.{State, after}
use Rattle.c_check_def.specs.Declarators.{items_joined}
use Rattle.c_check_def.specs.Statements.{Jumps, Labels, Groups, no_labels, next_group, statement, items, groups, group}
use Rattle.c_check_declaration.proofs.lemmas.Declarations.{items-none, items-more, items-joined}
use Rattle.c_check_statement.specs.Parts.{item}
use Rattle.c_check_statement.proofs.lemmas.Arms.{item_statement}
use Rattle.c_check_statement.proofs.lemmas.Items.{item-next, group-next}

-- ---- items

pub ruleset joined = (items-none, items-more)

abbrev joined_after : ItemTrees → ItemTrees → State → ItemTrees × State
joined_after is ds v = (items_joined is ds, v)

pub items-begun : (j : Jumps) (s : State) → items j (items_tree []) s ≡ (no_items, s)
items-begun j s = ap (λ t. items j t s) (many-none l.Items (λ x. item_tree x ∷ []))

items-after : (j : Jumps) (xs : List BlockItem) (i : ℕ) (x : BlockItem) (s : State) → i < length xs → x ≡ get_or xs i x →
    items j (items_tree (take (i + 1) xs)) s ≡ after (items j (items_tree (take i xs)) s) (λ is. λ u. after (item j (item_tree x) u) (joined_after is))
items-after j xs i x s below is =
    ap (λ t. items j t s) (many_next l.Items (λ y. item_tree y ∷ []) xs i x below is) ∙ item-next j l.Items (items_tree (take i xs)) (item_tree x) s

pub items-first : (j : Jumps) (old : ItemTrees) (s : State) → old ≡ items_joined old (items j (items_tree []) s).0
items-first j old s = sym (items-none old) ∙ ap (λ r. items_joined old r.0) (sym (items-begun j s))

pub items-grow : (j : Jumps) (xs : List BlockItem) (i : ℕ) (x : BlockItem) (s t : State) (old now new : ItemTrees) → i < length xs → x ≡ get_or xs i x
    → now ≡ items_joined old (items j (items_tree (take i xs)) s).0 → t ≡ (items j (items_tree (take i xs)) s).1 → new ≡ items_joined now (item j (item_tree x) t).0
    → new ≡ items_joined old (items j (items_tree (take (i + 1) xs)) s).0
items-grow j xs i x s t old now new below is had at made =
    let before = items j (items_tree (take i xs)) s in
    made ∙ ap (λ z. items_joined z (item j (item_tree x) t).0) had ∙ ap (λ u. items_joined (items_joined old before.0) (item j (item_tree x) u).0) at
    ∙ items-joined old before.0 (item j (item_tree x) before.1).0 ∙ ap (λ r. items_joined old r.0) (sym (items-after j xs i x s below is))

pub items-go : (j : Jumps) (xs : List BlockItem) (i : ℕ) (x : BlockItem) (s t u : State) → i < length xs → x ≡ get_or xs i x
    → t ≡ (items j (items_tree (take i xs)) s).1 → u ≡ (item j (item_tree x) t).1 → u ≡ (items j (items_tree (take (i + 1) xs)) s).1
items-go j xs i x s t u below is at new = new ∙ ap (λ v. (item j (item_tree x) v).1) at ∙ ap (λ r. r.1) (sym (items-after j xs i x s below is))

-- ---- statements alone

pub stmts-begun : (j : Jumps) (s : State) → items j (stmts_tree []) s ≡ (no_items, s)
stmts-begun j s = ap (λ t. items j t s) (many-none l.MoreStmts (λ x. stmt_tree x ∷ []))

pub stmts-first : (j : Jumps) (old : ItemTrees) (s : State) → old ≡ items_joined old (items j (stmts_tree []) s).0
stmts-first j old s = sym (items-none old) ∙ ap (λ r. items_joined old r.0) (sym (stmts-begun j s))

stmts-after : (j : Jumps) (xs : List Stmt) (i : ℕ) (x : Stmt) (s : State) → i < length xs → x ≡ get_or xs i x →
    items j (stmts_tree (take (i + 1) xs)) s
    ≡ after (items j (stmts_tree (take i xs)) s) (λ is. λ u. after (statement j (stmt_tree x) u) (λ a. joined_after is (stmt_then a no_items)))
stmts-after j xs i x s below is =
    let before = items j (stmts_tree (take i xs)) s in
    ap (λ t. items j t s) (many_next l.MoreStmts (λ y. stmt_tree y ∷ []) xs i x below is) ∙ item-next j l.MoreStmts (stmts_tree (take i xs)) (stmt_tree x) s
    ∙ ap (λ r. after r (joined_after before.0)) (item_statement j x before.1)

pub stmts-grow : (j : Jumps) (xs : List Stmt) (i : ℕ) (x : Stmt) (s t : State) (old now new : ItemTrees) → i < length xs → x ≡ get_or xs i x
    → now ≡ items_joined old (items j (stmts_tree (take i xs)) s).0 → t ≡ (items j (stmts_tree (take i xs)) s).1
    → new ≡ items_joined now (stmt_then (statement j (stmt_tree x) t).0 no_items)
    → new ≡ items_joined old (items j (stmts_tree (take (i + 1) xs)) s).0
stmts-grow j xs i x s t old now new below is had at made =
    let before = items j (stmts_tree (take i xs)) s in
    made ∙ ap (λ z. items_joined z (stmt_then (statement j (stmt_tree x) t).0 no_items)) had
    ∙ ap (λ u. items_joined (items_joined old before.0) (stmt_then (statement j (stmt_tree x) u).0 no_items)) at
    ∙ items-joined old before.0 (stmt_then (statement j (stmt_tree x) before.1).0 no_items) ∙ ap (λ r. items_joined old r.0) (sym (stmts-after j xs i x s below is))

pub stmts-go : (j : Jumps) (xs : List Stmt) (i : ℕ) (x : Stmt) (s t u : State) → i < length xs → x ≡ get_or xs i x
    → t ≡ (items j (stmts_tree (take i xs)) s).1 → u ≡ (statement j (stmt_tree x) t).1 → u ≡ (items j (stmts_tree (take (i + 1) xs)) s).1
stmts-go j xs i x s t u below is at new = new ∙ ap (λ v. (statement j (stmt_tree x) v).1) at ∙ ap (λ r. r.1) (sym (stmts-after j xs i x s below is))

-- ---- groups

pub groups-begun : (j : Jumps) (s : State) → groups j (groups_tree []) s ≡ (record { labels = no_labels; groups = no_groups }, s)
groups-begun j s = ap (λ t. groups j t s) (many-none l.Groups (λ y. group_tree y ∷ []))

pub groups-after : (j : Jumps) (xs : List Group) (i : ℕ) (x : Group) (s : State) → i < length xs → x ≡ get_or xs i x →
    groups j (groups_tree (take (i + 1) xs)) s ≡ after (groups j (groups_tree (take i xs)) s) (λ y. group j y (group_tree x))
groups-after j xs i x s below is = ap (λ t. groups j t s) (many_next l.Groups (λ y. group_tree y ∷ []) xs i x below is)

-- one more group
pub groups-grow : (j : Jumps) (xs : List Group) (i : ℕ) (x : Group) (s t : State) (y : Labels) (gs : GroupTrees) → i < length xs → x ≡ get_or xs i x
    → y ≡ next_group (groups j (groups_tree (take i xs)) s).0.labels → gs ≡ (groups j (groups_tree (take i xs)) s).0.groups → t ≡ (groups j (groups_tree (take i xs)) s).1
    → group j (record { labels = y; groups = gs }) (group_tree x) t ≡ groups j (groups_tree (take (i + 1) xs)) s
groups-grow j xs i x s t y gs below is labels had at =
    let before = groups j (groups_tree (take i xs)) s in
    ap (λ z. group j (record { labels = z; groups = gs }) (group_tree x) t) labels
    ∙ ap (λ z. group j (record { labels = next_group before.0.labels; groups = z }) (group_tree x) t) had
    ∙ ap (group j (record { labels = next_group before.0.labels; groups = before.0.groups }) (group_tree x)) at
    ∙ group-next j before.0.labels before.0.groups x before.1 ∙ sym (groups-after j xs i x s below is)
