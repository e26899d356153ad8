-- A statement in which no jump stands leaves nowhere.
use Rattle.std.proofs.Common.{◌≡◌, Bool, true, false, refl, ap}
use Rattle.std.specs.Prelude.{◌||◌}
use Rattle.c_typed.specs.Typed.{StmtTree, null, value, block, if_else, loop, do_while, break, continue, return_value, return_none, switch, ItemTrees, no_items, stmt_then, declare_then, GroupTrees, no_groups, group_then}
use Rattle.g_build_def.specs.Writer.{Form, straight, jumping}
use Rattle.g_build_def.specs.Exits.{Exits, no_exits, either_exits, past_loop, past_switch, stmt_exits, items_exits, groups_exits, can_leave, stmt_jumps, items_jump, groups_jump}

-- Only a function with `go` and `ret` has what jumps.
abbrev pub MayJump : Form → Bool → Type 0
MayJump straight b = b ≡ false
MayJump jumping b = Unit {0}

pub neither_left : (a b : Bool) → (a || b) ≡ false → a ≡ false
neither_left true b e = e
neither_left false b e = refl

pub neither_right : (a b : Bool) → (a || b) ≡ false → b ≡ false
neither_right true b e = absurd (cc)
neither_right false b e = e

pub jump_left : (form : Form) (a b : Bool) → MayJump form (a || b) → MayJump form a
jump_left straight a b h = neither_left a b h
jump_left jumping a b h = tt

pub jump_right : (form : Form) (a b : Bool) → MayJump form (a || b) → MayJump form b
jump_right straight a b h = neither_right a b h
jump_right jumping a b h = tt

mutual
  stmt_stays : (a : StmtTree) → stmt_jumps a ≡ false → stmt_exits a ≡ no_exits
  stmt_stays null h = refl
  stmt_stays (value e) h = refl
  stmt_stays (block is) h = items_stay is h
  stmt_stays (if_else e a b) h =
      λ i. either_exits (stmt_stays a (neither_left (stmt_jumps a) (stmt_jumps b) h) i) (stmt_stays b (neither_right (stmt_jumps a) (stmt_jumps b) h) i)
  stmt_stays (loop d step a) h = ap past_loop (stmt_stays a h)
  stmt_stays (do_while a e) h = ap past_loop (stmt_stays a h)
  stmt_stays break h = absurd (cc)
  stmt_stays continue h = absurd (cc)
  stmt_stays (return_value e) h = absurd (cc)
  stmt_stays return_none h = absurd (cc)
  stmt_stays (switch e gs) h = ap past_switch (groups_stay gs h)

  items_stay : (is : ItemTrees) → items_jump is ≡ false → items_exits is ≡ no_exits
  items_stay no_items h = refl
  items_stay (stmt_then a is) h =
      λ i. either_exits (stmt_stays a (neither_left (stmt_jumps a) (items_jump is) h) i) (items_stay is (neither_right (stmt_jumps a) (items_jump is) h) i)
  items_stay (declare_then d is) h = items_stay is h

  groups_stay : (gs : GroupTrees) → groups_jump gs ≡ false → groups_exits gs ≡ no_exits
  groups_stay no_groups h = refl
  groups_stay (group_then cases d is gs) h =
      λ i. either_exits (items_stay is (neither_left (items_jump is) (groups_jump gs) h) i) (groups_stay gs (neither_right (items_jump is) (groups_jump gs) h) i)

pub stmt_leaves : (form : Form) (a : StmtTree) → MayJump form (stmt_jumps a) → MayJump form (can_leave (stmt_exits a))
stmt_leaves straight a h = ap can_leave (stmt_stays a h)
stmt_leaves jumping a h = tt

pub items_leave : (form : Form) (is : ItemTrees) → MayJump form (items_jump is) → MayJump form (can_leave (items_exits is))
items_leave straight is h = ap can_leave (items_stay is h)
items_leave jumping is h = tt

pub groups_break : (form : Form) (gs : GroupTrees) → MayJump form (groups_jump gs) → MayJump form (groups_exits gs).breaks
groups_break straight gs h = ap (λ (a : Exits). a.breaks) (groups_stay gs h)
groups_break jumping gs h = tt
