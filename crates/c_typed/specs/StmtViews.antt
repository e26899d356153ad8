-- The trees that statements of the code stand for.
use Rattle.std.specs.Prelude.{List, [], ◌∷◌, Option, None, Some}
use Rattle.c_typed.specs.Typed.{ExprTree, OptionalExpr, no_expr, some_expr, ElementTrees, no_elements, value_then, characters_then, InitialTree, no_initial, initial_value, initial_elements, DeclarationTree, StmtTree, ItemTrees, no_items, stmt_then, declare_then, GroupTrees, no_groups, group_then, null, value, block, if_else, loop, do_while, break, continue, return_value, return_none, switch}
use Rattle.c_typed.specs.declared.statement.StmtForm.{StmtForm}
use Rattle.c_typed.specs.declared.statement.StmtForm.TheVariants as form
use Rattle.c_typed.specs.declared.statement.Item.{Item}
use Rattle.c_typed.specs.declared.statement.Item.TheVariants as item
use Rattle.c_typed.specs.declared.statement.Group.{Group}
use Rattle.c_typed.specs.declared.statement.Declaration.{Declaration}
use Rattle.c_typed.specs.declared.statement.Initial.{Initial}
use Rattle.c_typed.specs.declared.statement.Initial.TheVariants as initial
use Rattle.c_typed.specs.declared.statement.Element.{Element}
use Rattle.c_typed.specs.declared.statement.Element.TheVariants as element

abbrev pub optional_of : Option ExprTree → OptionalExpr
optional_of None = no_expr
optional_of (Some e) = some_expr e

abbrev pub elements_of : List Element → ElementTrees
elements_of [] = no_elements
elements_of (element.Value offset e ∷ es) = value_then offset e (elements_of es)
elements_of (element.Characters offset cs ∷ es) = characters_then offset cs (elements_of es)

abbrev pub initial_of : Initial → InitialTree
initial_of initial.Nothing = no_initial
initial_of (initial.Value e) = initial_value e
initial_of (initial.Elements es) = initial_elements (elements_of es.items)

abbrev pub declaration_of : Declaration → DeclarationTree
declaration_of d = record { variable = d.variable; names_itself = d.names_itself; initial = initial_of d.initial }

abbrev pub items_of : List Item → ItemTrees
items_of [] = no_items
items_of (item.Statement s ∷ is) = stmt_then s (items_of is)
items_of (item.Variable d ∷ is) = declare_then (declaration_of d) (items_of is)

abbrev pub groups_of : List Group → GroupTrees
groups_of [] = no_groups
groups_of (g ∷ gs) = group_then g.cases.items g.is_default (items_of g.body.items) (groups_of gs)

abbrev pub stmt_of : StmtForm → StmtTree
stmt_of form.Null = null
stmt_of (form.Value e) = value e
stmt_of (form.Block is) = block (items_of is.items)
stmt_of (form.IfElse e s t) = if_else e s.value t.value
stmt_of (form.Loop c step s) = loop (optional_of c) (optional_of step) s.value
stmt_of (form.DoWhile s c) = do_while s.value c
stmt_of form.Break = break
stmt_of form.Continue = continue
stmt_of (form.ReturnValue e) = return_value e
stmt_of form.ReturnNone = return_none
stmt_of (form.Switch e gs) = switch e (groups_of gs.items)
