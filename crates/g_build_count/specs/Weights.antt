-- How many statements, items and groups a tree has: a part has fewer.
use Rattle.std.specs.Prelude.{ℕ, suc, ◌+◌}
use Rattle.c_typed.specs.Typed.{StmtTree, null, value, block, if_else, loop, do_while, break, continue, return_value, return_none, switch, ItemTrees, no_items, stmt_then, declare_then, GroupTrees, no_groups, group_then}

abbrev mutual
  pub stmt_weight : StmtTree → ℕ
  stmt_weight null = 0
  stmt_weight (value e) = 0
  stmt_weight (block is) = suc (items_weight is)
  stmt_weight (if_else e a b) = suc (stmt_weight a + stmt_weight b)
  stmt_weight (loop d step a) = suc (stmt_weight a)
  stmt_weight (do_while a e) = suc (stmt_weight a)
  stmt_weight break = 0
  stmt_weight continue = 0
  stmt_weight (return_value e) = 0
  stmt_weight return_none = 0
  stmt_weight (switch e gs) = suc (groups_weight gs)

  pub items_weight : ItemTrees → ℕ
  items_weight no_items = 0
  items_weight (stmt_then a is) = suc (stmt_weight a + items_weight is)
  items_weight (declare_then d is) = suc (items_weight is)

  pub groups_weight : GroupTrees → ℕ
  groups_weight no_groups = 0
  groups_weight (group_then cases d is gs) = suc (items_weight is + groups_weight gs)
