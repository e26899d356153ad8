-- The statements of a statement are smaller.
use Rattle.std.specs.Prelude.{◌+◌, ◌≤◌, max, List, [], ◌∷◌}
use Rattle.std.proofs.Common.{arith}
use denote.Param.Weighed.{most}
use Rattle.c_typed.specs.Typed.{stmt_size, items_size, groups_size}
use Rattle.c_typed.specs.StmtViews.{stmt_of, items_of, groups_of}
use Rattle.c_typed.specs.declared.statement.StmtForm.{StmtForm}
use Rattle.c_typed.specs.declared.statement.StmtForm.TheVariants as form
use Rattle.c_typed.specs.declared.statement.TStmt.TheDeep.{deep-StmtForm, deep-Item, deep-Group}
use Rattle.c_typed.specs.declared.statement.Item.{Item}
use Rattle.c_typed.specs.declared.statement.Item.TheVariants as item
use Rattle.c_typed.specs.declared.statement.Group.{Group}

most_items : (is : List Item) → most (λ k. deep-Item k) is ≤ items_size (items_of is) + 1
most_items [] = omega arith
most_items (item.Statement s ∷ is) = omega (arith, most_items is)
most_items (item.Variable d ∷ is) = omega (arith, most_items is)

most_groups : (gs : List Group) → most (λ k. deep-Group k) gs ≤ groups_size (groups_of gs) + 1
most_groups [] = omega arith
most_groups (g ∷ gs) = omega (arith, most_groups gs, most_items g.body.items)

pub stmt_height : (f : StmtForm) → max (deep-StmtForm f) 0 ≤ stmt_size (stmt_of f)
stmt_height form.Null = omega arith
stmt_height (form.Value e) = omega arith
stmt_height (form.Block is) = omega (arith, most_items is.items)
stmt_height (form.IfElse e s t) = omega arith
stmt_height (form.Loop c step s) = omega arith
stmt_height (form.DoWhile s c) = omega arith
stmt_height form.Break = omega arith
stmt_height form.Continue = omega arith
stmt_height (form.ReturnValue e) = omega arith
stmt_height form.ReturnNone = omega arith
stmt_height (form.Switch e gs) = omega (arith, most_groups gs.items)
