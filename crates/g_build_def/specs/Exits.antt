-- How a statement can be left other than at its end (ISO/IEC 9899:2011, 6.8.6).
use Rattle.std.specs.Prelude.{Bool, true, false, not, ◌&&◌, ◌||◌, if◌then◌else◌}
use Rattle.c_typed.specs.Typed.{StmtTree, null, value, block, if_else, loop, do_while, break, continue, return_value, return_none, switch, ItemTrees, no_items, stmt_then, declare_then, GroupTrees, no_groups, group_then}

-- Which jumps a statement holds that leave it: a `return`, a `break` or a `continue` of a loop or `switch` around it.
pub record Exits : Type 0 where
  pub returns : Bool
  pub breaks : Bool
  pub continues : Bool

abbrev pub no_exits : Exits
no_exits = record { returns = false; breaks = false; continues = false }

abbrev pub either_exits : Exits → Exits → Exits
either_exits a b = record { returns = a.returns || b.returns; breaks = a.breaks || b.breaks; continues = a.continues || b.continues }

-- those of the body of a loop, and of a `switch`, that leave it too
abbrev pub past_loop : Exits → Exits
past_loop a = record { returns = a.returns; breaks = false; continues = false }

abbrev pub past_switch : Exits → Exits
past_switch a = record { returns = a.returns; breaks = false; continues = a.continues }

abbrev mutual
  pub stmt_exits : StmtTree → Exits
  stmt_exits null = no_exits
  stmt_exits (value e) = no_exits
  stmt_exits (block is) = items_exits is
  stmt_exits (if_else e a b) = either_exits (stmt_exits a) (stmt_exits b)
  stmt_exits (loop d step a) = past_loop (stmt_exits a)
  stmt_exits (do_while a e) = past_loop (stmt_exits a)
  stmt_exits break = record { returns = false; breaks = true; continues = false }
  stmt_exits continue = record { returns = false; breaks = false; continues = true }
  stmt_exits (return_value e) = record { returns = true; breaks = false; continues = false }
  stmt_exits return_none = record { returns = true; breaks = false; continues = false }
  stmt_exits (switch e gs) = past_switch (groups_exits gs)

  pub items_exits : ItemTrees → Exits
  items_exits no_items = no_exits
  items_exits (stmt_then a is) = either_exits (stmt_exits a) (items_exits is)
  items_exits (declare_then d is) = items_exits is

  pub groups_exits : GroupTrees → Exits
  groups_exits no_groups = no_exits
  groups_exits (group_then cases d is gs) = either_exits (items_exits is) (groups_exits gs)

-- Of an item: what follows it may be passed over. Of the body of a loop: it can jump.
abbrev pub can_leave : Exits → Bool
can_leave a = a.returns || a.breaks || a.continues

-- ---- functions with jumps

-- a jump stands in the statement, at any depth
abbrev mutual
  pub stmt_jumps : StmtTree → Bool
  stmt_jumps null = false
  stmt_jumps (value e) = false
  stmt_jumps (block is) = items_jump is
  stmt_jumps (if_else e a b) = stmt_jumps a || stmt_jumps b
  stmt_jumps (loop d step a) = stmt_jumps a
  stmt_jumps (do_while a e) = stmt_jumps a
  stmt_jumps break = true
  stmt_jumps continue = true
  stmt_jumps (return_value e) = true
  stmt_jumps return_none = true
  stmt_jumps (switch e gs) = groups_jump gs

  pub items_jump : ItemTrees → Bool
  items_jump no_items = false
  items_jump (stmt_then a is) = stmt_jumps a || items_jump is
  items_jump (declare_then d is) = items_jump is

  pub groups_jump : GroupTrees → Bool
  groups_jump no_groups = false
  groups_jump (group_then cases d is gs) = items_jump is || groups_jump gs

abbrev pub is_return : StmtTree → Bool
is_return (return_value e) = true
is_return return_none = true
is_return _ = false

abbrev pub some_items : ItemTrees → Bool
some_items no_items = false
some_items (stmt_then a is) = true
some_items (declare_then d is) = true

-- a jump other than a `return` as the last item
abbrev pub body_jumps : ItemTrees → Bool
body_jumps no_items = false
body_jumps (stmt_then a is) = if some_items is then stmt_jumps a || body_jumps is else not (is_return a) && stmt_jumps a
body_jumps (declare_then d is) = body_jumps is
