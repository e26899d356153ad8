-- The typed program as plain trees (ISO/IEC 9899:2011, 6.5 to 6.9): a family of its own, without the code's lists and
-- boxes. Slots and numbers stand for names.
use Rattle.std.specs.Prelude.{ℕ, suc, ◌+◌, Bool, List, [], ◌∷◌}
use Rattle.c_type.specs.Trees.{TypeTree}
use Rattle.c_type.specs.Layout.{Definitions}
use Rattle.c_typed.specs.declared.operator.UnaryOp.{UnaryOp}
use Rattle.c_typed.specs.declared.operator.BinaryOp.{BinaryOp}
use Rattle.c_typed.specs.declared.operator.CompoundOp.{CompoundOp}
use Rattle.c_typed.specs.declared.operator.IncDec.{IncDec}

-- An expression has a type and a form, and so has a place, which designates an object. A slot is the number of variables
-- in scope, values and objects alike, where the variable is declared.
mutual
  pub data ExprTree : Type 0 where
    expr : TypeTree → FormTree → ExprTree

  pub data FormTree : Type 0 where
    constant : (word : ℕ) → FormTree
    read : PlaceTree → FormTree
    address : PlaceTree → FormTree
    unary : UnaryOp → ExprTree → FormTree
    binary : BinaryOp → (left right : ExprTree) → FormTree
    logical_and : (left right : ExprTree) → FormTree
    logical_or : (left right : ExprTree) → FormTree
    conditional : (condition then otherwise : ExprTree) → FormTree
    comma : (dropped : ExprTrees) → (last : ExprTree) → FormTree
    assign : PlaceTree → ExprTree → FormTree
    compound : CompoundOp → PlaceTree → ExprTree → FormTree
    inc_dec : IncDec → PlaceTree → FormTree
    call : (function : ℕ) → ExprTrees → FormTree
    get : FormTree

  pub data ExprTrees : Type 0 where
    no_exprs : ExprTrees
    expr_then : ExprTree → ExprTrees → ExprTrees

  pub data PlaceTree : Type 0 where
    place : TypeTree → PlaceFormTree → PlaceTree

  pub data PlaceFormTree : Type 0 where
    local : (slot : ℕ) → PlaceFormTree
    global : (number : ℕ) → PlaceFormTree
    at : (pointer : ExprTree) → PlaceFormTree
    member : PlaceTree → (offset : ℕ) → PlaceFormTree

-- an expression that may be left out
pub data OptionalExpr : Type 0 where
  no_expr : OptionalExpr
  some_expr : ExprTree → OptionalExpr

-- a written element of an initialiser, at its offset: a value, or the characters of a string
pub data ElementTrees : Type 0 where
  no_elements : ElementTrees
  value_then : (offset : ℕ) → ExprTree → ElementTrees → ElementTrees
  characters_then : (offset : ℕ) → List ℕ → ElementTrees → ElementTrees

-- What a variable begins with: nothing, a value, or zeros and then the written elements.
pub data InitialTree : Type 0 where
  no_initial : InitialTree
  initial_value : ExprTree → InitialTree
  initial_elements : ElementTrees → InitialTree

-- a declared variable by its number in the function, and whether its initialiser names it
pub record DeclarationTree : Type 0 where
  pub variable : ℕ
  pub names_itself : Bool
  pub initial : InitialTree

-- A declaration has the items after it as its scope. A loop asks its condition before each turn and takes its step after
-- it; a group of a `switch` has the words of its `case` labels and whether it is that of `default`.
mutual
  pub data StmtTree : Type 0 where
    null : StmtTree
    value : ExprTree → StmtTree
    block : ItemTrees → StmtTree
    if_else : ExprTree → (then otherwise : StmtTree) → StmtTree
    loop : (condition step : OptionalExpr) → (body : StmtTree) → StmtTree
    do_while : (body : StmtTree) → (condition : ExprTree) → StmtTree
    break : StmtTree
    continue : StmtTree
    return_value : ExprTree → StmtTree
    return_none : StmtTree
    switch : ExprTree → GroupTrees → StmtTree

  pub data ItemTrees : Type 0 where
    no_items : ItemTrees
    stmt_then : StmtTree → ItemTrees → ItemTrees
    declare_then : DeclarationTree → ItemTrees → ItemTrees

  pub data GroupTrees : Type 0 where
    no_groups : GroupTrees
    group_then : (cases : List ℕ) → (is_default : Bool) → ItemTrees → GroupTrees → GroupTrees

-- a variable of a function: its type, and whether it is a memory object
pub record VariableTree : Type 0 where
  pub type : TypeTree
  pub is_object : Bool

-- A function: its name and the offset of that in the source, where its definition begins and ends, its result's type, how
-- many of its variables are parameters, which come first, its variables in order of declaration, and its body.
pub record FunctionTree : Type 0 where
  pub name : List ℕ
  pub at : ℕ
  pub starts : ℕ
  pub ends : ℕ
  pub result : TypeTree
  pub params : ℕ
  pub variables : List VariableTree
  pub body : ItemTrees

-- what a global begins with, at an offset: a word of so many bytes, the address of a global, or characters
pub data WrittenTree : Type 0 where
  word_at : (offset width word : ℕ) → WrittenTree
  link_at : (offset number : ℕ) → WrittenTree
  characters_at : (offset : ℕ) → List ℕ → WrittenTree

-- a variable at file scope or a string literal: its offset in the source, its type, whether it never changes, and what is
-- written in it; the rest is zero
pub record GlobalTree : Type 0 where
  pub at : ℕ
  pub type : TypeTree
  pub fixed : Bool
  pub written : List WrittenTree

-- A program: the struct definitions, the functions in source order, the globals in order of offset, and which function is
-- `main`.
pub record ProgramTree : Type 0 where
  pub structs : Definitions
  pub functions : List FunctionTree
  pub globals : List GlobalTree
  pub main : ℕ

abbrev pub exprs_of : List ExprTree → ExprTrees
exprs_of [] = no_exprs
exprs_of (e ∷ es) = expr_then e (exprs_of es)

-- how many expressions, places and lists there are
abbrev mutual
  pub expr_size : ExprTree → ℕ
  expr_size (expr t f) = suc (form_size f)

  pub form_size : FormTree → ℕ
  form_size (constant w) = 0
  form_size (read p) = place_size p
  form_size (address p) = place_size p
  form_size (unary op e) = expr_size e
  form_size (binary op a b) = expr_size a + expr_size b
  form_size (logical_and a b) = expr_size a + expr_size b
  form_size (logical_or a b) = expr_size a + expr_size b
  form_size (conditional c a b) = expr_size c + expr_size a + expr_size b
  form_size (comma es e) = exprs_size es + expr_size e
  form_size (assign p e) = place_size p + expr_size e
  form_size (compound op p e) = place_size p + expr_size e
  form_size (inc_dec op p) = place_size p
  form_size (call f es) = exprs_size es
  form_size get = 0

  pub exprs_size : ExprTrees → ℕ
  exprs_size no_exprs = 0
  exprs_size (expr_then e es) = expr_size e + exprs_size es

  pub place_size : PlaceTree → ℕ
  place_size (place t f) = suc (place_form_size f)

  pub place_form_size : PlaceFormTree → ℕ
  place_form_size (local slot) = 0
  place_form_size (global number) = 0
  place_form_size (at e) = expr_size e
  place_form_size (member p offset) = place_size p

-- how many statements and lists of statements there are
abbrev mutual
  pub stmt_size : StmtTree → ℕ
  stmt_size null = 0
  stmt_size (value e) = 0
  stmt_size (block is) = suc (items_size is)
  stmt_size (if_else e s t) = suc (stmt_size s + stmt_size t)
  stmt_size (loop c step s) = suc (stmt_size s)
  stmt_size (do_while s c) = suc (stmt_size s)
  stmt_size break = 0
  stmt_size continue = 0
  stmt_size (return_value e) = 0
  stmt_size return_none = 0
  stmt_size (switch e gs) = suc (groups_size gs)

  pub items_size : ItemTrees → ℕ
  items_size no_items = 0
  items_size (stmt_then s is) = stmt_size s + items_size is
  items_size (declare_then d is) = items_size is

  pub groups_size : GroupTrees → ℕ
  groups_size no_groups = 0
  groups_size (group_then cases is_default is gs) = items_size is + groups_size gs
