-- Every well-typed statement: what is made of it does what the source does.
use Rattle.std.proofs.Common.{◌≡◌, ◌≤◌, ℕ, suc, List, [], ◌∷◌, refl, sym, subst, arith}
use Rattle.std.specs.Prelude.{Bool, true, false, length, slice_get, Some}
use Rattle.std.proofs.lemmas.List.{length-append}
use Rattle.val_core.specs.declared.values.BlockName.{BlockName}
use Rattle.val_core.specs.declared.values.Value.TheVariants.{At}
use Rattle.val_core.specs.declared.leaf.Leaf.{Leaf}
use Rattle.val_core.specs.Refinement.{Direction}
use Rattle.c_type.specs.Trees.{TypeTree}
use Rattle.c_type.specs.Layout.{leaves}
use Rattle.c_typed.specs.Typed.{OptionalExpr, no_expr, some_expr, ElementTrees, no_elements, value_then, characters_then, InitialTree, no_initial, initial_value, initial_elements, StmtTree, null, value, block, if_else, loop, do_while, break, continue, return_value, return_none, switch, ItemTrees, no_items, stmt_then, declare_then, GroupTrees, no_groups, group_then, VariableTree}
use Rattle.c_typed.specs.WellTyped.{Scope, extended, IsScalar, IsOptionalCondition, OptionalIsTyped, ElementsFit, InitialFits, initial_scope, Jumps, in_loop, in_switch, StmtIsTyped, ItemsAreTyped, GroupsAreTyped}
use Rattle.c_typed.specs.Objects.{object_number}
use Rattle.c_mean.specs.Expressions as source
use Rattle.c_mean.specs.Statements.{normal}
use Rattle.g_mean.specs.Meaning.{Context}
use Rattle.g_build_keeps.specs.Groups.{StmtHasFewGroups, ItemsHaveFewGroups, GroupsHaveFewGroups}
use Rattle.g_build_keeps.proofs.Held.{Frame}
use Rattle.g_build_keeps.proofs.Claims.{ContextsFit}
use Rattle.g_build_keeps.proofs.Expressions.{expr-sim, test-sim}
use Rattle.g_build_keeps.proofs.Statements.{StmtClaim, ItemsClaim, null-stmt, value-stmt, block-stmt, if-stmt, break-stmt, continue-stmt, return-value-stmt, return-none-stmt, no-items, items-then}
use Rattle.g_build_keeps.proofs.Turns.{StepClaim}
use Rattle.g_build_keeps.proofs.LoopStatements.{OptionalClaim, loop-stmt, do-stmt}
use Rattle.g_build_keeps.proofs.Declarations.{framed, with_waiting, declare-then}
use Rattle.g_build_keeps.proofs.Switches.{GroupClaims, switch-stmt}
use Rattle.g_build_keeps.proofs.Objects.{AreWithin, ElementClaims}
use Rattle.g_build_keeps.proofs.Begun.{InitialClaims, declaration-sim}

-- ---- objects

-- Where a variable is an object, its block has the elements that it may begin with.
abbrev pub ObjectsFit : Scope → Context → Type 0
ObjectsFit g d =
    (k : ℕ) (v : VariableTree) → slice_get g.variables k ≡ Some v → v.is_object ≡ true → (h : Scope) → h.structs ≡ g.structs → (es : ElementTrees) → ElementsFit h (leaves g.structs v.type) 0 es →
    (b : BlockName) × (d.addresses.local (object_number g.variables k) ≡ At b 0) × AreWithin b.size es

module _ (w : Direction) (c : source.Context) (d : Context) (m : Bool) where
  elements-claimed : (g : Scope) (fit : ContextsFit w g.functions c d) (f : Frame) → length g.slots ≤ f.count → (es : ElementTrees) (ls : List Leaf) (from : ℕ) → ElementsFit g ls from es →
      ElementClaims w g.functions c d fit f es
  elements-claimed g fit f count no_elements ls from h = tt
  elements-claimed g fit f count (value_then o e es) ls from h = (h.2, expr-sim w g c d fit f count normal e h.1, elements-claimed g fit f count es ls _ h.4)
  elements-claimed g fit f count (characters_then o cs es) ls from h = elements-claimed g fit f count es ls _ h.2

  optional-claim : (g : Scope) (fit : ContextsFit w g.functions c d) (f : Frame) → length g.slots ≤ f.count → (e : OptionalExpr) → IsOptionalCondition g e →
      OptionalClaim w g.functions c d fit f e
  optional-claim g fit f count no_expr h = tt
  optional-claim g fit f count (some_expr e) h = test-sim w g c d fit f count normal e h.0 h.1

  step-claim : (g : Scope) (fit : ContextsFit w g.functions c d) (f : Frame) → length g.slots ≤ f.count → (e : OptionalExpr) → OptionalIsTyped g e → StepClaim w g.functions c d fit f e
  step-claim g fit f count no_expr h = tt
  step-claim g fit f count (some_expr e) h = expr-sim w g c d fit f count normal e h

  -- what a variable begins with
  pub initial-claims : (g : Scope) (fit : ContextsFit w g.functions c d) → ObjectsFit g d → (n : ℕ) → length g.slots ≡ n → (hs : List ℕ) (number : ℕ) (v : VariableTree) →
      slice_get g.variables number ≡ Some v →
      (t : TypeTree) (is_object names : Bool) (i : InitialTree) → v.is_object ≡ is_object → InitialFits (initial_scope names g v t) v i →
      InitialClaims w g.functions c d fit hs n m is_object names (object_number g.variables number) i
  initial-claims g fit objects n count hs number v there t false names no_initial z h = by names
    where
      by : (names : Bool) → InitialClaims w g.functions c d fit hs n m false names (object_number g.variables number) no_initial
      by true = tt
      by false = tt
  initial-claims g fit objects n count hs number v there t false true (initial_value e) z h =
      let more = length-append g.slots (record v { type = t } ∷ []) in
      (subst IsScalar (sym h.1) h.2, expr-sim w (extended g (record v { type = t })) c d fit (framed hs (suc n) m) (omega (arith, count, more)) normal e h.0)
  initial-claims g fit objects n count hs number v there t false false (initial_value e) z h =
      (subst IsScalar (sym h.1) h.2, expr-sim w g c d fit (with_waiting hs n m) (omega (arith, count)) normal e h.0)
  initial-claims g fit objects n count hs number v there t false names (initial_elements es) z h = let e = h.0 in absurd cc
  initial-claims g fit objects n count hs number v there t true names no_initial z h = tt
  initial-claims g fit objects n count hs number v there t true true (initial_value e) z h =
      let more = length-append g.slots (record v { type = t } ∷ []) in
      (subst IsScalar (sym h.1) h.2, expr-sim w (extended g (record v { type = t })) c d fit (framed hs (suc n) m) (omega (arith, count, more)) normal e h.0)
  initial-claims g fit objects n count hs number v there t true false (initial_value e) z h =
      (subst IsScalar (sym h.1) h.2, expr-sim w g c d fit (framed hs (suc n) m) (omega (arith, count)) normal e h.0)
  initial-claims g fit objects n count hs number v there t true true (initial_elements es) z h =
      let more = length-append g.slots (record v { type = t } ∷ []) in
      let o = objects number v there z (extended g (record v { type = t })) refl es h.1 in
      (o.0, o.1, o.2, elements-claimed (extended g (record v { type = t })) fit (framed hs (suc n) m) (omega (arith, count, more)) es (leaves g.structs v.type) 0 h.1)
  initial-claims g fit objects n count hs number v there t true false (initial_elements es) z h =
      let o = objects number v there z g refl es h.1 in
      (o.0, o.1, o.2, elements-claimed g fit (framed hs (suc n) m) (omega (arith, count)) es (leaves g.structs v.type) 0 h.1)

  mutual
    pub stmt-sim : (g : Scope) (fit : ContextsFit w g.functions c d) → ObjectsFit g d → (n : ℕ) → length g.slots ≡ n → (j : Jumps) (a : StmtTree) → StmtIsTyped g j a → StmtHasFewGroups a →
        (hs : List ℕ) →
        StmtClaim w g.functions c d fit (framed hs n m) g.variables a
    stmt-sim g fit objects n count j null h k hs = null-stmt w g.functions c d fit (framed hs n m) g.variables
    stmt-sim g fit objects n count j (value e) h k hs =
        value-stmt w g.functions c d fit (framed hs n m) g.variables e (expr-sim w g c d fit (framed hs n m) (omega (arith, count)) normal e h)
    stmt-sim g fit objects n count j (block is) h k hs = block-stmt w g.functions c d fit (framed hs n m) g.variables is (items-sim g fit objects n count j is h k hs)
    stmt-sim g fit objects n count j (if_else e a b) h k hs =
        if-stmt w g.functions c d fit (framed hs n m) g.variables e a b (test-sim w g c d fit (framed hs n m) (omega (arith, count)) normal e h.0.0 h.0.1)
        (stmt-sim g fit objects n count j a h.1 k.0 hs) (stmt-sim g fit objects n count j b h.2 k.1 hs)
    stmt-sim g fit objects n count j (loop e step a) h k hs =
        loop-stmt w g.functions c d fit (framed hs n m) g.variables e step a (optional-claim g fit (framed hs n m) (omega (arith, count)) e h.0)
        (step-claim g fit (framed hs n m) (omega (arith, count)) step h.1) (stmt-sim g fit objects n count (in_loop j) a h.2 k hs)
    stmt-sim g fit objects n count j (do_while a e) h k hs =
        do-stmt w g.functions c d fit (framed hs n m) g.variables a e (test-sim w g c d fit (framed hs n m) (omega (arith, count)) normal e h.1.0 h.1.1)
        (stmt-sim g fit objects n count (in_loop j) a h.0 k hs)
    stmt-sim g fit objects n count j break h k hs = break-stmt w g.functions c d fit (framed hs n m) g.variables
    stmt-sim g fit objects n count j continue h k hs = continue-stmt w g.functions c d fit (framed hs n m) g.variables
    stmt-sim g fit objects n count j (return_value e) h k hs =
        return-value-stmt w g.functions c d fit (framed hs n m) g.variables e (subst IsScalar (sym h.1) h.2) (expr-sim w g c d fit (framed hs n m) (omega (arith, count)) normal e h.0)
    stmt-sim g fit objects n count j return_none h k hs = return-none-stmt w g.functions c d fit (framed hs n m) g.variables
    stmt-sim g fit objects n count j (switch e gs) h k hs =
        switch-stmt w g.functions c d fit n m g.variables hs gs h.3 h.4 k.0 (groups-sim g fit objects n count (in_switch j) gs h.2 k.1) e h.1
        (expr-sim w g c d fit (framed hs n m) (omega (arith, count)) normal e h.0)

    pub items-sim : (g : Scope) (fit : ContextsFit w g.functions c d) → ObjectsFit g d → (n : ℕ) → length g.slots ≡ n → (j : Jumps) (is : ItemTrees) → ItemsAreTyped g j is → ItemsHaveFewGroups is →
        (hs : List ℕ) →
        ItemsClaim w g.functions c d fit (framed hs n m) g.variables is
    items-sim g fit objects n count j no_items h k hs = no-items w g.functions c d fit (framed hs n m) g.variables
    items-sim g fit objects n count j (stmt_then a is) h k hs =
        items-then w g.functions c d fit (framed hs n m) g.variables a is (stmt-sim g fit objects n count j a h.0 k.0 hs) (items-sim g fit objects n count j is h.1 k.1 hs)
    items-sim g fit objects n count j (declare_then e is) h k hs =
        let more = length-append g.slots (h.0 ∷ []) in
        declare-then w g.functions c d fit hs n m g.variables e is
        (declaration-sim w g.functions c d fit hs n m g.variables e h.0 h.1
        (initial-claims g fit objects n count hs e.variable h.0 h.1 h.2.0 h.0.is_object e.names_itself e.initial refl h.2.2))
        (items-sim (extended g h.0) fit objects (suc n) (omega (arith, count, more)) j is h.3 k hs)

    groups-sim : (g : Scope) (fit : ContextsFit w g.functions c d) → ObjectsFit g d → (n : ℕ) → length g.slots ≡ n → (j : Jumps) (gs : GroupTrees) → GroupsAreTyped g j gs → GroupsHaveFewGroups gs →
        GroupClaims w g.functions c d fit n m g.variables gs
    groups-sim g fit objects n count j no_groups h k = tt
    groups-sim g fit objects n count j (group_then cases e is gs) h k =
        (λ hs. items-sim g fit objects n count j is h.1 k.0 hs, groups-sim g fit objects n count j gs h.2 k.1)
