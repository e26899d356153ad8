-- Programs with fewer groups in each `switch` than there are words, so that a word numbers its segments.
use Rattle.std.specs.Prelude.{◌≡◌, ◌<◌, ◌^◌, ℕ, slice_get, Some}
use Rattle.c_typed.specs.Typed.{StmtTree, null, value, block, if_else, loop, do_while, break, continue, return_value, return_none, switch, ItemTrees, no_items, stmt_then, declare_then, GroupTrees, no_groups, group_then, FunctionTree, ProgramTree}
use Rattle.c_mean.specs.Statements.{group_count}

abbrev mutual
  pub StmtHasFewGroups : StmtTree → Type 0
  StmtHasFewGroups null = Unit {0}
  StmtHasFewGroups (value e) = Unit {0}
  StmtHasFewGroups (block is) = ItemsHaveFewGroups is
  StmtHasFewGroups (if_else e a b) = StmtHasFewGroups a × StmtHasFewGroups b
  StmtHasFewGroups (loop d step a) = StmtHasFewGroups a
  StmtHasFewGroups (do_while a e) = StmtHasFewGroups a
  StmtHasFewGroups break = Unit {0}
  StmtHasFewGroups continue = Unit {0}
  StmtHasFewGroups (return_value e) = Unit {0}
  StmtHasFewGroups return_none = Unit {0}
  StmtHasFewGroups (switch e gs) = (group_count gs < 2 ^ 32) × GroupsHaveFewGroups gs

  pub ItemsHaveFewGroups : ItemTrees → Type 0
  ItemsHaveFewGroups no_items = Unit {0}
  ItemsHaveFewGroups (stmt_then a is) = StmtHasFewGroups a × ItemsHaveFewGroups is
  ItemsHaveFewGroups (declare_then d is) = ItemsHaveFewGroups is

  pub GroupsHaveFewGroups : GroupTrees → Type 0
  GroupsHaveFewGroups no_groups = Unit {0}
  GroupsHaveFewGroups (group_then cases d is gs) = ItemsHaveFewGroups is × GroupsHaveFewGroups gs

-- each `switch` of the program has fewer than 2^32 groups
abbrev pub HasFewGroups : ProgramTree → Type 0
HasFewGroups p = (k : ℕ) (f : FunctionTree) → slice_get p.functions k ≡ Some f → ItemsHaveFewGroups f.body
