-- What is typed stays so where more structs are defined.
use Rattle.std.proofs.Common.{◌≡◌, ℕ, ◌+◌, Bool, true, false, List, ◌++◌, length, refl, sym, ap, ◌∙◌, subst}
use Rattle.std.specs.Prelude.{slice_get, Some}
use Rattle.val_core.specs.declared.leaf.Leaf.{Leaf}
use Rattle.c_type.specs.Trees.{TypeTree, scalar_type, pointer_to, struct_type}
use Rattle.c_type.specs.Layout.{Definitions, is_complete, size, leaves}
use Rattle.c_type.specs.WellDefined.{AreDefinitions}
use Rattle.c_typed.specs.declared.operator.BinaryOp.{BinaryOp}
use Rattle.c_typed.specs.declared.operator.BinaryOp.TheVariants as binary_op
use Rattle.c_typed.specs.declared.operator.CompoundOp.{CompoundOp}
use Rattle.c_typed.specs.declared.operator.CompoundOp.TheVariants as compound_op
use Rattle.c_typed.specs.Typed as typed
use Rattle.c_typed.specs.Typed.{ExprTree, expr, FormTree, constant, read, address, unary, binary, logical_and, logical_or, conditional, comma, assign, compound, inc_dec, call, get, ExprTrees, no_exprs, expr_then, PlaceTree, place, PlaceFormTree, local, global, at, member, OptionalExpr, no_expr, some_expr, ElementTrees, no_elements, value_then, characters_then, InitialTree, no_initial, initial_value, initial_elements, StmtTree, ItemTrees, no_items, stmt_then, declare_then, GroupTrees, no_groups, group_then, VariableTree}
use Rattle.c_typed.specs.WellTyped.{Scope, extended, IsScalar, type_of, PointsTo, HasAddress, IsMemberOf, BinaryFits, CompoundFits, IncDecFits, ExprIsTyped, FormIsTyped, ExprsAreTyped, PlaceIsTyped, PlaceFormIsTyped, OptionalIsTyped, IsOptionalCondition, HasLeaf, ElementsFit, InitialFits, Jumps, in_loop, in_switch, initial_scope, StmtIsTyped, ItemsAreTyped, GroupsAreTyped}
use Rattle.c_check_laws.proofs.lemmas.Definitions.{complete_after, size_after, leaves_after, members_after, offset_after, has_members}

-- a scope with more definitions
abbrev pub widened : Definitions → Scope → Scope
widened ds c = record { structs = ds ++ c.structs; functions = c.functions; globals = c.globals; variables = c.variables; slots = c.slots }

module _ (ds : Definitions) where
  points_wider : (defs : Definitions) (t : TypeTree) (bytes : ℕ) → AreDefinitions (ds ++ defs) → PointsTo defs t bytes → PointsTo (ds ++ defs) t bytes
  points_wider defs (pointer_to t) bytes w h = (complete_after defs ds w t h.0, size_after defs ds w t h.0 ∙ h.1)
  points_wider defs t bytes w h = absurd h

  member_wider : (defs : Definitions) (whole : TypeTree) (begins : ℕ) (t : TypeTree) → AreDefinitions (ds ++ defs) → IsMemberOf defs whole begins t → IsMemberOf (ds ++ defs) whole begins t
  member_wider defs (struct_type tag) begins t w h =
      let d = has_members defs tag h.index t h.there in
      record { index = h.index; there = ap (λ ts. slice_get ts h.index) (members_after defs ds w tag d) ∙ h.there; stands = offset_after defs ds w tag h.index d ∙ h.stands }
  member_wider defs whole begins t w h = absurd h

  binary_wider : (defs : Definitions) (o : BinaryOp) (t u v : TypeTree) → AreDefinitions (ds ++ defs) → BinaryFits defs o t u v → BinaryFits (ds ++ defs) o t u v
  binary_wider defs (binary_op.Arithmetic o) t u v w h = h
  binary_wider defs (binary_op.Compare r) t u v w h = h
  binary_wider defs (binary_op.PointerPlus bytes) t u v w h = (points_wider defs t bytes w h.0, h.1, h.2)
  binary_wider defs (binary_op.IntegerPlus bytes) t u v w h = (points_wider defs t bytes w h.0, h.1, h.2)
  binary_wider defs (binary_op.PointerMinus bytes) t u v w h = (points_wider defs t bytes w h.0, h.1, h.2)
  binary_wider defs (binary_op.PointerDifference bytes) t u v w h = (h.0, points_wider defs u bytes w h.1, h.2)

  compound_wider : (defs : Definitions) (o : CompoundOp) (t v : TypeTree) → AreDefinitions (ds ++ defs) → CompoundFits defs o t v → CompoundFits (ds ++ defs) o t v
  compound_wider defs (compound_op.Arithmetic o unsigned) t v w h = h
  compound_wider defs (compound_op.PointerPlus bytes) t v w h = (points_wider defs t bytes w h.0, h.1)
  compound_wider defs (compound_op.PointerMinus bytes) t v w h = (points_wider defs t bytes w h.0, h.1)

  step_wider : (defs : Definitions) (by : ℕ) (t : TypeTree) → AreDefinitions (ds ++ defs) → IncDecFits defs by t → IncDecFits (ds ++ defs) by t
  step_wider defs by (scalar_type s) w h = h
  step_wider defs by t w h = points_wider defs t by w h

  -- ---- expressions

  address_wider : (c : Scope) (p : PlaceTree) → HasAddress c p → HasAddress (widened ds c) p
  address_wider c (place t (local slot)) h = h
  address_wider c (place t (global k)) h = h
  address_wider c (place t (at e)) h = h
  address_wider c (place t (member p n)) h = address_wider c p h

  mutual
    pub expr_wider : (c : Scope) (e : ExprTree) → AreDefinitions (ds ++ c.structs) → ExprIsTyped c e → ExprIsTyped (widened ds c) e
    expr_wider c (expr t f) w h = form_wider c t f w h

    form_wider : (c : Scope) (t : TypeTree) (f : FormTree) → AreDefinitions (ds ++ c.structs) → FormIsTyped c t f → FormIsTyped (widened ds c) t f
    form_wider c t (constant n) w h = h
    form_wider c t (read p) w h = (place_wider c p w h.0, h.1, h.2)
    form_wider c t (address p) w h = (place_wider c p w h.0, address_wider c p h.1, h.2)
    form_wider c t (unary o e) w h = (expr_wider c e w h.0, h.1)
    form_wider c t (binary o a b) w h = (expr_wider c a w h.0, expr_wider c b w h.1, binary_wider c.structs o t (type_of a) (type_of b) w h.2)
    form_wider c t (logical_and a b) w h = (expr_wider c a w h.0, expr_wider c b w h.1, h.2, h.3, h.4)
    form_wider c t (logical_or a b) w h = (expr_wider c a w h.0, expr_wider c b w h.1, h.2, h.3, h.4)
    form_wider c t (conditional d a b) w h = (expr_wider c d w h.0, expr_wider c a w h.1, expr_wider c b w h.2, h.3, h.4, h.5, h.6)
    form_wider c t (comma es e) w h = (exprs_wider c es w h.0, expr_wider c e w h.1, h.2)
    form_wider c t (assign p e) w h = (place_wider c p w h.0, expr_wider c e w h.1, h.2, h.3, h.4)
    form_wider c t (compound o p e) w h = (place_wider c p w h.0, expr_wider c e w h.1, h.2, compound_wider c.structs o t (type_of e) w h.3)
    form_wider c t (inc_dec i p) w h = (place_wider c p w h.0, h.1, step_wider c.structs i.by t w h.2)
    form_wider c t (call f es) w h = (exprs_wider c es w h.0, record { callee = h.1.callee; there = h.1.there; gives = h.1.gives; takes = h.1.takes })
    form_wider c t get w h = h

    exprs_wider : (c : Scope) (es : ExprTrees) → AreDefinitions (ds ++ c.structs) → ExprsAreTyped c es → ExprsAreTyped (widened ds c) es
    exprs_wider c no_exprs w h = tt
    exprs_wider c (expr_then e es) w h = (expr_wider c e w h.0, exprs_wider c es w h.1)

    place_wider : (c : Scope) (p : PlaceTree) → AreDefinitions (ds ++ c.structs) → PlaceIsTyped c p → PlaceIsTyped (widened ds c) p
    place_wider c (place t f) w h = place_form_wider c t f w h

    place_form_wider : (c : Scope) (t : TypeTree) (f : PlaceFormTree) → AreDefinitions (ds ++ c.structs) → PlaceFormIsTyped c t f → PlaceFormIsTyped (widened ds c) t f
    place_form_wider c t (local slot) w h = h
    place_form_wider c t (global k) w h = h
    place_form_wider c t (at e) w h = (expr_wider c e w h.0, h.1)
    place_form_wider c t (member p n) w h = (place_wider c p w h.0, member_wider c.structs (typed_place p) n t w h.1)
      where
        typed_place : PlaceTree → TypeTree
        typed_place (place t f) = t

  optional_wider : (c : Scope) (e : OptionalExpr) → AreDefinitions (ds ++ c.structs) → OptionalIsTyped c e → OptionalIsTyped (widened ds c) e
  optional_wider c no_expr w h = tt
  optional_wider c (some_expr e) w h = expr_wider c e w h

  optional_condition_wider : (c : Scope) (e : OptionalExpr) → AreDefinitions (ds ++ c.structs) → IsOptionalCondition c e → IsOptionalCondition (widened ds c) e
  optional_condition_wider c no_expr w h = tt
  optional_condition_wider c (some_expr e) w h = (expr_wider c e w h.0, h.1)

  -- ---- initialisers

  scalar_size_same : (defs : Definitions) (t : TypeTree) → IsScalar t → size (ds ++ defs) t ≡ size defs t
  scalar_size_same defs (scalar_type s) h = refl
  scalar_size_same defs (pointer_to t) h = refl
  scalar_size_same defs t h = absurd h

  elements_wider : (c : Scope) (ls : List Leaf) (from : ℕ) (es : ElementTrees) → AreDefinitions (ds ++ c.structs) → ElementsFit c ls from es → ElementsFit (widened ds c) ls from es
  elements_wider c ls from no_elements w h = tt
  elements_wider c ls from (value_then offset e es) w h =
      let same = sym (scalar_size_same c.structs (type_of e) h.2) in (
        h.0,
        expr_wider c e w h.1,
        h.2,
        subst (HasLeaf ls offset) same h.3,
        subst (λ n. ElementsFit (widened ds c) ls (offset + n) es) same (elements_wider c ls (offset + size c.structs (type_of e)) es w h.4),
      )
  elements_wider c ls from (characters_then offset cs es) w h = (h.0, h.1, elements_wider c ls (offset + length cs) es w h.2)

  initial_wider : (c : Scope) (v : VariableTree) (i : InitialTree) → AreDefinitions (ds ++ c.structs) → is_complete c.structs v.type ≡ true → InitialFits c v i → InitialFits (widened ds c) v i
  initial_wider c v no_initial w k h = tt
  initial_wider c v (initial_value e) w k h = (expr_wider c e w h.0, h.1, h.2)
  initial_wider c v (initial_elements es) w k h =
      (h.0, subst (λ f. ElementsFit (widened ds c) (f 0) 0 es) (sym (leaves_after c.structs ds w v.type k)) (elements_wider c (leaves c.structs v.type) 0 es w h.1))

  -- ---- statements

  -- the variables of a function have complete types
  abbrev AreComplete : Scope → Type 0
  AreComplete c = (k : ℕ) (v : VariableTree) → slice_get c.variables k ≡ Some v → is_complete c.structs v.type ≡ true

  begun_wider : (b : Bool) (c : Scope) (v : VariableTree) (t : TypeTree) (i : InitialTree) → AreDefinitions (ds ++ c.structs) → is_complete c.structs v.type ≡ true →
      InitialFits (initial_scope b c v t) v i → InitialFits (initial_scope b (widened ds c) v t) v i
  begun_wider true c v t i w k h = initial_wider (extended c (record v { type = t })) v i w k h
  begun_wider false c v t i w k h = initial_wider c v i w k h

  mutual
    stmt_wider : (c : Scope) (j : Jumps) (s : StmtTree) → AreDefinitions (ds ++ c.structs) → AreComplete c → StmtIsTyped c j s → StmtIsTyped (widened ds c) j s
    stmt_wider c j typed.null w k h = tt
    stmt_wider c j (typed.value e) w k h = expr_wider c e w h
    stmt_wider c j (typed.block is) w k h = items_wider c j is w k h
    stmt_wider c j (typed.if_else e s t) w k h = ((expr_wider c e w h.0.0, h.0.1), stmt_wider c j s w k h.1, stmt_wider c j t w k h.2)
    stmt_wider c j (typed.loop d step s) w k h = (optional_condition_wider c d w h.0, optional_wider c step w h.1, stmt_wider c (in_loop j) s w k h.2)
    stmt_wider c j (typed.do_while s e) w k h = (stmt_wider c (in_loop j) s w k h.0, (expr_wider c e w h.1.0, h.1.1))
    stmt_wider c j typed.break w k h = h
    stmt_wider c j typed.continue w k h = h
    stmt_wider c j (typed.return_value e) w k h = (expr_wider c e w h.0, h.1, h.2)
    stmt_wider c j typed.return_none w k h = h
    stmt_wider c j (typed.switch e gs) w k h = (expr_wider c e w h.0, h.1, groups_wider c (in_switch j) gs w k h.2, h.3, h.4, h.5)

    pub items_wider : (c : Scope) (j : Jumps) (is : ItemTrees) → AreDefinitions (ds ++ c.structs) → AreComplete c → ItemsAreTyped c j is → ItemsAreTyped (widened ds c) j is
    items_wider c j no_items w k h = tt
    items_wider c j (stmt_then s is) w k h = (stmt_wider c j s w k h.0, items_wider c j is w k h.1)
    items_wider c j (declare_then d is) w k h = (
      h.0,
      h.1,
      (h.2.0, h.2.1, begun_wider d.names_itself c h.0 h.2.0 d.initial w (k d.variable h.0 h.1) h.2.2),
      items_wider (extended c h.0) j is w k h.3,
    )

    groups_wider : (c : Scope) (j : Jumps) (gs : GroupTrees) → AreDefinitions (ds ++ c.structs) → AreComplete c → GroupsAreTyped c j gs → GroupsAreTyped (widened ds c) j gs
    groups_wider c j no_groups w k h = tt
    groups_wider c j (group_then cases d is gs) w k h = (h.0, items_wider c j is w k h.1, groups_wider c j gs w k h.2)
