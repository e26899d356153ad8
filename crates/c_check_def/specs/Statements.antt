-- Statements (ISO/IEC 9899:2011, 6.8). Where a rule is broken the null statement stands.
use Rattle.std.specs.Prelude.{ℕ, ◌==◌, Bool, true, false, if◌then◌else◌, List, [], ◌∷◌, ◌++◌, Option, None, Some, option_and_then}
use Rattle.std.specs.List.{list_any}
use Rattle.c_ast.specs.Productions as l
use Rattle.c_ast.specs.Tree.{Tree, Node, Cons}
use Rattle.c_typed.specs.Typed as typed
use Rattle.c_typed.specs.Typed.{ExprTree, no_expr, StmtTree, ItemTrees, no_items, stmt_then, GroupTrees, no_groups, group_then}
use Rattle.c_typed.specs.WellTyped.{type_of}
use Rattle.c_typed.specs.StmtViews.{optional_of}
use Rattle.c_check_def.specs.declared.operand.Operand.{Operand}
use Rattle.c_check_def.specs.OperandValues.{value_of}
use Rattle.c_check_def.specs.Operators.{condition_of, plus_by}
use Rattle.c_check_def.specs.declared.refusal_kind.RefusalKind.TheVariants.{BadOperands, NotConstant, BadReturn, BadJump, BadLabel}
use Rattle.c_check_def.specs.State.{MaybeType, Elaborated, ◌>>=◌, ◌>>◌, pure, breaks_if, or_broken, if_some, within_scope}
use Rattle.c_check_def.specs.Leaves.{offset_of, begin_of}
use Rattle.c_check_def.specs.Operands.{Term, term_constant}
use Rattle.c_check_def.specs.Calls.{passed}
use Rattle.c_check_def.specs.DeclaredTypes.{is_void}
use Rattle.c_check_def.specs.Expressions.{expression, expressions}
use Rattle.c_check_def.specs.Declarators.{items_joined, locals}

-- which jumps may stand here, and the type that the function gives
pub record Jumps : Type 0 where
  pub may_break : Bool
  pub may_continue : Bool
  pub result : MaybeType

abbrev pub in_loop : Jumps → Jumps
in_loop j = record j { may_break = true; may_continue = true }

abbrev pub in_switch : Jumps → Jumps
in_switch j = record j { may_break = true }

-- ---- expressions in statements

-- a whole expression has a value, or is of type void
abbrev pub whole : (offset : ℕ) → Term → Elaborated (Option ExprTree)
whole offset a = if_some a (λ x. or_broken BadOperands offset (value_of x))

-- a condition is of an integer or a pointer, reported at the keyword
abbrev pub condition : (offset : ℕ) → Term → Elaborated (Option ExprTree)
condition offset a = if_some a (λ x. or_broken BadOperands offset (condition_of x))

abbrev pub integer_of : Operand → Option ExprTree
integer_of a = option_and_then (λ e. plus_by (type_of e) e) (value_of a)

-- the promoted value that a `switch` goes by
abbrev pub subject : (offset : ℕ) → Term → Elaborated (Option ExprTree)
subject offset a = if_some a (λ x. or_broken BadOperands offset (integer_of x))

abbrev pub condition_clause : (offset : ℕ) → Tree → Elaborated (Option ExprTree)
condition_clause offset (Node (l.Present k) (Cons x none)) = do
  a ← expressions x
  condition offset a
condition_clause offset t = pure None

abbrev pub value_clause : Tree → Elaborated (Option ExprTree)
value_clause (Node (l.Present k) (Cons x none)) = do
  a ← expressions x
  whole (begin_of x) a
value_clause t = pure None

-- ---- statements of expressions

abbrev pub value_stmt : Option ExprTree → StmtTree
value_stmt None = typed.null
value_stmt (Some e) = typed.value e

abbrev pub if_stmt : Option ExprTree → StmtTree → StmtTree
if_stmt None s = typed.null
if_stmt (Some c) s = typed.if_else c s typed.null

-- an `if` with the statement after its `else`
abbrev pub with_else : StmtTree → StmtTree → StmtTree
with_else (typed.if_else c s none) t = typed.if_else c s t
with_else s t = s

abbrev pub do_stmt : StmtTree → Option ExprTree → StmtTree
do_stmt s None = typed.null
do_stmt s (Some c) = typed.do_while s c

abbrev pub switch_stmt : Option ExprTree → GroupTrees → StmtTree
switch_stmt None gs = typed.null
switch_stmt (Some e) gs = typed.switch e gs

-- ---- jumps (6.8.6)

abbrev pub jump : (allowed : Bool) → (offset : ℕ) → StmtTree → Elaborated StmtTree
jump allowed offset s = do
  breaks_if (if allowed then false else true) BadJump offset
  pure s

abbrev pub gives_none : MaybeType → Bool
gives_none None = true
gives_none (Some t) = is_void t

abbrev pub return_stmt : Option ExprTree → StmtTree
return_stmt None = typed.null
return_stmt (Some e) = typed.return_value e

abbrev pub returned : MaybeType → (offset : ℕ) → Tree → Elaborated StmtTree
returned t offset (Node (l.Present k) (Cons x none)) = do
  a ← expressions x
  e ← if_some t (λ u. if_some a (λ y. or_broken BadReturn offset (passed u y)))
  pure (return_stmt e)
returned t offset x = do
  breaks_if (if gives_none t then false else true) BadReturn offset
  pure typed.return_none

-- ---- labels of a `switch` (6.8.4.2)

-- The groups so far: the words of all their cases, whether there is a `default`, and the labels of the group that begins.
pub record Labels : Type 0 where
  pub words : List ℕ
  pub has_default : Bool
  pub cases : List ℕ
  pub is_default : Bool

abbrev pub no_labels : Labels
no_labels = record { words = []; has_default = false; cases = []; is_default = false }

abbrev pub next_group : Labels → Labels
next_group x = record x { cases = []; is_default = false }

abbrev pub case_label : Labels → (offset : ℕ) → Option ℕ → Elaborated Labels
case_label x offset None = pure x
case_label x offset (Some w) = do
  breaks_if (list_any (λ v. v == w) x.words) BadLabel offset
  pure (record x { words = x.words ++ w ∷ []; cases = x.cases ++ w ∷ [] })

abbrev pub label : Labels → Tree → Elaborated Labels
label x (Node l.Case (Cons word (Cons value (Cons colon none)))) = do
  a ← expression value
  w ← or_broken NotConstant (begin_of value) (term_constant a)
  case_label x (offset_of word) w
label x (Node l.Default (Cons word (Cons colon none))) = do
  breaks_if x.has_default BadLabel (offset_of word)
  pure (record x { has_default = true; is_default = true })
label x t = pure x

abbrev pub more_labels : Labels → Tree → Elaborated Labels
more_labels x (Node (l.More k) (Cons before (Cons t none))) = do
  y ← more_labels x before
  label y t
more_labels x t = pure x

pub record Groups : Type 0 where
  pub labels : Labels
  pub groups : GroupTrees

abbrev pub with_group : GroupTrees → (cases : List ℕ) → (is_default : Bool) → ItemTrees → GroupTrees
with_group no_groups cases is_default xs = group_then cases is_default xs no_groups
with_group (group_then ws d ys gs) cases is_default xs = group_then ws d ys (with_group gs cases is_default xs)

abbrev pub grouped : Groups → Labels → ItemTrees → Groups
grouped x y xs = record { labels = y; groups = with_group x.groups y.cases y.is_default xs }

-- ---- what a `for` begins with

abbrev pub value_items : Option ExprTree → ItemTrees
value_items None = no_items
value_items (Some e) = stmt_then (typed.value e) no_items

abbrev pub for_start : Tree → Elaborated ItemTrees
for_start (Node l.ForClause (Cons x (Cons semicolon none))) = do
  e ← value_clause x
  pure (value_items e)
for_start t = locals t

-- ---- statements, and the items of blocks

abbrev mutual
  pub statement : Jumps → Tree → Elaborated StmtTree
  statement j (Node l.Null children) = pure typed.null
  statement j (Node l.Expression (Cons x (Cons semicolon none))) = do
    a ← expressions x
    e ← whole (begin_of x) a
    pure (value_stmt e)
  statement j (Node l.Block (Cons opening (Cons xs (Cons closing none)))) = within_scope (do
    is ← items j xs
    pure (typed.block is))
  statement j (Node l.If (Cons word (Cons opening (Cons x (Cons closing (Cons t none)))))) = do
    a ← expressions x
    c ← condition (offset_of word) a
    s ← statement j t
    pure (if_stmt c s)
  statement j (Node l.IfElse (Cons before (Cons word (Cons t none)))) = do
    s ← statement j before
    otherwise ← statement j t
    pure (with_else s otherwise)
  statement j (Node l.While (Cons word (Cons opening (Cons x (Cons closing (Cons t none)))))) = do
    a ← expressions x
    c ← condition (offset_of word) a
    s ← statement (in_loop j) t
    pure (typed.loop (optional_of c) no_expr s)
  statement j (Node l.DoWhile (Cons word (Cons t (Cons until (Cons opening (Cons x more)))))) = do
    s ← statement (in_loop j) t
    a ← expressions x
    c ← condition (offset_of until) a
    pure (do_stmt s c)
  statement j (Node l.For (Cons word (Cons opening (Cons start (Cons x (Cons semicolon (Cons y (Cons closing (Cons t none))))))))) = within_scope (do
    is ← for_start start
    c ← condition_clause (offset_of word) x
    step ← value_clause y
    s ← statement (in_loop j) t
    pure (typed.block (items_joined is (stmt_then (typed.loop (optional_of c) (optional_of step) s) no_items))))
  statement j (Node l.Break (Cons word more)) = jump j.may_break (offset_of word) typed.break
  statement j (Node l.Continue (Cons word more)) = jump j.may_continue (offset_of word) typed.continue
  statement j (Node l.Return (Cons word (Cons x more))) = returned j.result (offset_of word) x
  statement j (Node l.Switch (Cons word (Cons opening (Cons x (Cons closing (Cons begin (Cons gs more))))))) = do
    a ← expressions x
    e ← subject (offset_of word) a
    y ← groups (in_switch j) gs
    pure (switch_stmt e y.groups)
  statement j t = pure typed.null

  -- statements and declarations of a block
  pub items : Jumps → Tree → Elaborated ItemTrees
  items j (Node (l.More k) (Cons before (Cons (Node l.Locals children) none))) = do
    is ← items j before
    ds ← locals (Node l.Locals children)
    pure (items_joined is ds)
  items j (Node (l.More k) (Cons before (Cons t none))) = do
    is ← items j before
    s ← statement j t
    pure (items_joined is (stmt_then s no_items))
  items j t = pure no_items

  -- the groups of a `switch`
  pub groups : Jumps → Tree → Elaborated Groups
  groups j (Node (l.More k) (Cons before (Cons t none))) = do
    x ← groups j before
    group j x t
  groups j t = pure (record { labels = no_labels; groups = no_groups })

  pub group : Jumps → Groups → Tree → Elaborated Groups
  group j x (Node l.Group (Cons first (Cons more (Cons t (Cons ts none))))) = do
    y ← label (next_group x.labels) first
    z ← more_labels y more
    s ← statement j t
    is ← items j ts
    pure (grouped x z (stmt_then s is))
  group j x t = pure x
