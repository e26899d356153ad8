-- A statement that is elaborated has in each `switch` at most as many groups as stand in its tree.
use Rattle.std.proofs.Common.{◌≡◌, ◌≤◌, ◌<◌, ℕ, suc, ◌+◌, ◌^◌, Bool, refl, ap, arith}
use Rattle.std.specs.Prelude.{Option, None, Some}
use Rattle.c_ast.specs.Productions as l
use Rattle.c_ast.specs.Tree.{Tree, Node, Cons}
use Rattle.c_typed.specs.Typed as typed
use Rattle.c_typed.specs.Typed.{ExprTree, StmtTree, ItemTrees, no_items, stmt_then, declare_then, GroupTrees, no_groups, group_then}
use Rattle.c_mean.specs.Statements.{group_count}
use Rattle.c_check_def.specs.State.{MaybeType, State}
use Rattle.c_check_def.specs.Leaves.{offset_of, is_present}
use Rattle.c_check_def.specs.Specifiers.{Specified, specified_type}
use Rattle.c_check_def.specs.Expressions.{expressions}
use Rattle.c_check_def.specs.Declarators.{items_joined, declarator, more_declarators, locals}
use Rattle.c_check_def.specs.Statements.{Jumps, in_loop, in_switch, condition, subject, condition_clause, value_clause, value_stmt, if_stmt, with_else, do_stmt, switch_stmt, return_stmt, returned, next_group, label, more_labels, with_group, Groups, value_items, for_start, statement, items, groups, group}
use Rattle.c_check_laws.proofs.lemmas.Later.{entered}
use Rattle.g_build_keeps.specs.Groups.{StmtHasFewGroups, ItemsHaveFewGroups, GroupsHaveFewGroups}
use Rattle.cc_source.proofs.GroupShapes.{groups_in}

-- ---- parts

joined_few : (xs ys : ItemTrees) → ItemsHaveFewGroups xs → ItemsHaveFewGroups ys → ItemsHaveFewGroups (items_joined xs ys)
joined_few no_items ys h k = k
joined_few (stmt_then a xs) ys h k = (h.0, joined_few xs ys h.1 k)
joined_few (declare_then d xs) ys h k = joined_few xs ys h k

value_few : (e : Option ExprTree) → StmtHasFewGroups (value_stmt e)
value_few None = tt
value_few (Some e) = tt

items_value_few : (e : Option ExprTree) → ItemsHaveFewGroups (value_items e)
items_value_few None = tt
items_value_few (Some e) = (tt, tt)

if_few : (e : Option ExprTree) (a : StmtTree) → StmtHasFewGroups a → StmtHasFewGroups (if_stmt e a)
if_few None a h = tt
if_few (Some e) a h = (h, tt)

else_few : (a b : StmtTree) → StmtHasFewGroups a → StmtHasFewGroups b → StmtHasFewGroups (with_else a b)
else_few (typed.if_else e a c) b h k = (h.0, k)
else_few a b h k = h

do_few : (a : StmtTree) (e : Option ExprTree) → StmtHasFewGroups a → StmtHasFewGroups (do_stmt a e)
do_few a None h = tt
do_few a (Some e) h = h

switch_few : (e : Option ExprTree) (gs : GroupTrees) → group_count gs < 2 ^ 32 → GroupsHaveFewGroups gs → StmtHasFewGroups (switch_stmt e gs)
switch_few None gs h k = tt
switch_few (Some e) gs h k = (h, k)

return_few : (e : Option ExprTree) → StmtHasFewGroups (return_stmt e)
return_few None = tt
return_few (Some e) = tt

returned_few : (t : MaybeType) (offset : ℕ) (x : Tree) (s : State) → StmtHasFewGroups (returned t offset x s).0
returned_few t offset (Node (l.Present k) (Cons x none)) s = return_few _
returned_few t offset x s = tt

with_group_few : (gs : GroupTrees) (cases : _) (d : Bool) (is : ItemTrees) → GroupsHaveFewGroups gs → ItemsHaveFewGroups is → GroupsHaveFewGroups (with_group gs cases d is)
with_group_few no_groups cases d is h k = (k, tt)
with_group_few (group_then ws e js gs) cases d is h k = (h.0, with_group_few gs cases d is h.1 k)

with_group_count : (gs : GroupTrees) (cases : _) (d : Bool) (is : ItemTrees) → group_count (with_group gs cases d is) ≡ suc (group_count gs)
with_group_count no_groups cases d is = refl
with_group_count (group_then ws e js gs) cases d is = ap suc (with_group_count gs cases d is)

-- ---- declarations

declarator_few : (x : Specified) (is_const : Bool) (t : Tree) (s : State) → ItemsHaveFewGroups (declarator x is_const t s).0
declarator_few x is_const (Node l.Decl (Cons stars (Cons name (Cons bounds (Cons begun none))))) s = tt
declarator_few x is_const t s = tt

more_declarators_few : (x : Specified) (is_const : Bool) (t : Tree) (s : State) → ItemsHaveFewGroups (more_declarators x is_const t s).0
more_declarators_few x is_const (Node (l.More k) (Cons before (Cons comma (Cons t none)))) s =
    let ds = more_declarators x is_const before s in
    joined_few ds.0 (declarator x is_const t ds.1).0 (more_declarators_few x is_const before s) (declarator_few x is_const t ds.1)
more_declarators_few x is_const t s = tt

locals_few : (t : Tree) (s : State) → ItemsHaveFewGroups (locals t s).0
locals_few (Node l.Locals (Cons qualifier (Cons specifier (Cons first (Cons more none))))) s =
    let x = specified_type specifier s in
    let d = declarator x.0 (is_present qualifier) first x.1 in
    joined_few d.0 (more_declarators x.0 (is_present qualifier) more d.1).0 (declarator_few x.0 (is_present qualifier) first x.1) (more_declarators_few x.0 (is_present qualifier) more d.1)
locals_few t s = tt

for_start_few : (t : Tree) (s : State) → ItemsHaveFewGroups (for_start t s).0
for_start_few (Node l.ForClause (Cons x (Cons semicolon none))) s = items_value_few _
for_start_few t s = locals_few t s

-- ---- statements

abbrev AreFew : Groups → (most : ℕ) → Type 0
AreFew x n = GroupsHaveFewGroups x.groups × (group_count x.groups ≤ n)

mutual
  statement_few : (j : Jumps) (t : Tree) (s : State) → groups_in t < 2 ^ 32 → StmtHasFewGroups (statement j t s).0
  statement_few j (Node l.Null children) s h = tt
  statement_few j (Node l.Expression (Cons x (Cons semicolon none))) s h = value_few _
  statement_few j (Node l.Block (Cons opening (Cons xs (Cons closing none)))) s h = items_few j xs (entered s) (omega (arith, h))
  statement_few j (Node l.If (Cons word (Cons opening (Cons x (Cons closing (Cons t none)))))) s h =
      let a = expressions x s in
      let c = condition (offset_of word) a.0 a.1 in
      if_few c.0 (statement j t c.1).0 (statement_few j t c.1 (omega (arith, h)))
  statement_few j (Node l.IfElse (Cons before (Cons word (Cons t none)))) s h =
      let a = statement j before s in
      else_few a.0 (statement j t a.1).0 (statement_few j before s (omega (arith, h))) (statement_few j t a.1 (omega (arith, h)))
  statement_few j (Node l.While (Cons word (Cons opening (Cons x (Cons closing (Cons t none)))))) s h =
      let a = expressions x s in
      let c = condition (offset_of word) a.0 a.1 in
      statement_few (in_loop j) t c.1 (omega (arith, h))
  statement_few j (Node l.DoWhile (Cons word (Cons t (Cons until (Cons opening (Cons x more)))))) s h =
      let b = statement (in_loop j) t s in
      let a = expressions x b.1 in
      do_few b.0 (condition (offset_of until) a.0 a.1).0 (statement_few (in_loop j) t s (omega (arith, h)))
  statement_few j (Node l.For (Cons word (Cons opening (Cons start (Cons x (Cons semicolon (Cons y (Cons closing (Cons t none))))))))) s h =
      let is = for_start start (entered s) in
      let c = condition_clause (offset_of word) x is.1 in
      let step = value_clause y c.1 in
      joined_few is.0 _ (for_start_few start (entered s)) (statement_few (in_loop j) t step.1 (omega (arith, h)), tt)
  statement_few j (Node l.Break (Cons word more)) s h = tt
  statement_few j (Node l.Continue (Cons word more)) s h = tt
  statement_few j (Node l.Return (Cons word (Cons x more))) s h = returned_few j.result (offset_of word) x s
  statement_few j (Node l.Switch (Cons word (Cons opening (Cons x (Cons closing (Cons begin (Cons gs more))))))) s h =
      let a = expressions x s in
      let e = subject (offset_of word) a.0 a.1 in
      let r = each_few (in_switch j) gs e.1 (omega (arith, h)) in
      let count = r.1 in
      switch_few e.0 (groups (in_switch j) gs e.1).0.groups (omega (arith, h, count)) r.0
  statement_few j t s h = tt

  pub items_few : (j : Jumps) (t : Tree) (s : State) → groups_in t < 2 ^ 32 → ItemsHaveFewGroups (items j t s).0
  items_few j (Node (l.More k) (Cons before (Cons (Node l.Locals children) none))) s h =
      let is = items j before s in
      joined_few is.0 (locals (Node l.Locals children) is.1).0 (items_few j before s (omega (arith, h))) (locals_few (Node l.Locals children) is.1)
  items_few j (Node (l.More k) (Cons before (Cons t none))) s h =
      let is = items j before s in
      joined_few is.0 (stmt_then (statement j t is.1).0 no_items) (items_few j before s (omega (arith, h))) (statement_few j t is.1 (omega (arith, h)), tt)
  items_few j t s h = tt

  each_few : (j : Jumps) (t : Tree) (s : State) → groups_in t < 2 ^ 32 → AreFew (groups j t s).0 (groups_in t)
  each_few j (Node (l.More k) (Cons before (Cons t none))) s h =
      let x = groups j before s in
      let r = each_few j before s (omega (arith, h)) in
      let q = group_few j x.0 t x.1 r.0 (omega (arith, h)) in
      let a = r.1 in
      let b = q.1 in
      (q.0, omega (arith, a, b))
  each_few j t s h = (tt, omega arith)

  group_few : (j : Jumps) (x : Groups) (t : Tree) (s : State) → GroupsHaveFewGroups x.groups → groups_in t < 2 ^ 32 → AreFew (group j x t s).0 (group_count x.groups + groups_in t)
  group_few j x (Node l.Group (Cons first (Cons more (Cons t (Cons ts none))))) s k h =
      let y = label (next_group x.labels) first s in
      let z = more_labels y.0 more y.1 in
      let b = statement j t z.1 in
      let is = stmt_then b.0 (items j ts b.1).0 in
      let count = with_group_count x.groups z.0.cases z.0.is_default is in
      (with_group_few x.groups z.0.cases z.0.is_default is k (statement_few j t z.1 (omega (arith, h)), items_few j ts b.1 (omega (arith, h))), omega (arith, count))
  group_few j x t s k h = (k, omega arith)
