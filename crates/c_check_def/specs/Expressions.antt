-- What an expression is, and the type that a type name names: one recursion, since a dimension is an expression, and a
-- cast or `sizeof` takes a type name (ISO/IEC 9899:2011, 6.5, 6.7.7).
use Rattle.std.specs.Prelude.{ℕ, ◌&&◌, nat_le, true, false, if◌then◌else◌, List, [], ◌∷◌, ◌++◌, Option, None, Some, option_map, option_and_then}
use Rattle.base.specs.Limits.{most_type_bytes}
use Rattle.c_ast.specs.Productions as l
use Rattle.c_ast.specs.Tree.{Tree, Node, Nil, Cons}
use Rattle.c_check_def.specs.OperandValues.{operand_type}
use Rattle.c_check_def.specs.declared.refusal_kind.RefusalKind.TheVariants.{NotConstant}
use Rattle.c_check_def.specs.State.{MaybeType, Elaborated, ◌>>=◌, pure, or_broken, if_some}
use Rattle.c_check_def.specs.Leaves.{offset_of, begin_of, name_of, selection_op_of, inc_dec_op_of, unary_op_of, binary_op_of, assign_op_of, characters_of, count_of}
use Rattle.c_check_def.specs.Specifiers.{specified_type}
use Rattle.c_check_def.specs.DeclaredTypes.{MaybeSize, named_type}
use Rattle.c_check_def.specs.Operands.{Term, named, constant_of, string, binary, conditional, indexed, cast, measured, unary, stepped, assigned, selected, Sequence, first_of, comma, sequence_term, term_constant}
use Rattle.c_check_def.specs.Calls.{called_name, called_term, called}

-- the characters of the literals that follow one
abbrev pub more_characters : Tree → List ℕ
more_characters (Node (l.More k) (Cons before (Cons x more))) = more_characters before ++ characters_of x
more_characters t = []

-- a size, where a constant is one
abbrev pub size_by : ℕ → Option ℕ
size_by w = if nat_le 1 w && nat_le w most_type_bytes then Some w else None

-- What is no constant size breaks a rule, even where one is broken within it.
abbrev pub size : (offset : ℕ) → Term → Elaborated MaybeSize
size offset a = or_broken NotConstant offset (option_and_then size_by (term_constant a))

abbrev mutual
  -- an expression without commas
  pub expression : Tree → Elaborated Term
  expression (Node l.Name (Cons x more)) = named (name_of x) (offset_of x)
  expression (Node l.Number (Cons x more)) = pure (constant_of x)
  expression (Node l.Character (Cons x more)) = pure (constant_of x)
  expression (Node l.Text (Cons x (Cons xs more))) = string (offset_of x) (characters_of x ++ more_characters xs)
  expression (Node l.Paren (Cons opening (Cons inner more))) = expressions inner
  expression (Node l.Index (Cons array (Cons opening (Cons index more)))) = do
    a ← expression array
    i ← expressions index
    indexed (offset_of opening) a i
  expression (Node l.Call (Cons (Node l.Name (Cons x none)) (Cons opening (Cons xs more)))) = do
    f ← called_name (name_of x) (offset_of x)
    es ← arguments xs
    called (offset_of opening) f es
  expression (Node l.Call (Cons function (Cons opening (Cons xs more)))) = do
    f ← expression function
    es ← arguments xs
    called (offset_of opening) (called_term f) es
  expression (Node l.Dot (Cons object (Cons o (Cons x more)))) = do
    a ← expression object
    if_some (selection_op_of o) (λ op. selected op (offset_of o) (name_of x) (offset_of x) a)
  expression (Node l.Arrow (Cons object (Cons o (Cons x more)))) = do
    a ← expression object
    if_some (selection_op_of o) (λ op. selected op (offset_of o) (name_of x) (offset_of x) a)
  expression (Node l.PostIncrement (Cons operand (Cons o more))) = do
    a ← expression operand
    if_some (inc_dec_op_of o) (λ op. stepped op (offset_of o) true a)
  expression (Node l.Increment (Cons o (Cons operand more))) = do
    a ← expression operand
    if_some (inc_dec_op_of o) (λ op. stepped op (offset_of o) false a)
  expression (Node l.Unary (Cons o (Cons operand more))) = do
    a ← expression operand
    if_some (unary_op_of o) (λ op. unary op (offset_of o) a)
  expression (Node l.Sizeof (Cons word (Cons (Node l.SizeofType (Cons opening (Cons operand none))) more))) = do
    t ← type_name operand
    measured (offset_of word) t
  expression (Node l.Sizeof (Cons word (Cons operand more))) = do
    a ← expression operand
    measured (offset_of word) (option_map operand_type a)
  expression (Node l.Cast (Cons opening (Cons target (Cons closing (Cons operand more))))) = do
    t ← type_name target
    a ← expression operand
    cast (offset_of opening) t a
  expression (Node (l.Binary level) (Cons left (Cons o (Cons right more)))) = do
    a ← expression left
    b ← expression right
    if_some (binary_op_of o) (λ op. binary op (offset_of o) a b)
  expression (Node l.Conditional (Cons condition (Cons question (Cons middle (Cons colon (Cons otherwise more)))))) = do
    c ← expression condition
    a ← expressions middle
    b ← expression otherwise
    conditional (offset_of question) c a b
  expression (Node l.Assignment (Cons target (Cons o (Cons value more)))) = do
    a ← expression target
    b ← expression value
    if_some (assign_op_of o) (λ op. assigned op (offset_of o) a b)
  expression t = pure None

  -- an expression with commas
  pub expressions : Tree → Elaborated Term
  expressions (Node l.Expr (Cons first (Cons more none))) = do
    a ← expression first
    x ← more_expressions (option_map first_of a) more
    pure (sequence_term x)
  expressions t = pure None

  pub more_expressions : Option Sequence → Tree → Elaborated (Option Sequence)
  more_expressions first (Node (l.More k) (Cons before (Cons o (Cons element none)))) = do
    x ← more_expressions first before
    b ← expression element
    comma (offset_of o) x b
  more_expressions first t = pure first

  -- the arguments of a call
  pub arguments : Tree → Elaborated (List Term)
  arguments (Node (l.Present k) (Cons first (Cons more none))) = do
    a ← expression first
    xs ← more_arguments more
    pure (a ∷ xs)
  arguments t = pure []

  pub more_arguments : Tree → Elaborated (List Term)
  more_arguments (Node (l.More k) (Cons before (Cons o (Cons element none)))) = do
    xs ← more_arguments before
    a ← expression element
    pure (xs ++ a ∷ [])
  more_arguments t = pure []

  pub type_name : Tree → Elaborated MaybeType
  type_name (Node l.TypeName (Cons qualifier (Cons specifier (Cons stars (Cons sizes none))))) = do
    x ← specified_type specifier
    ns ← dimensions sizes
    named_type (begin_of (Cons qualifier (Cons specifier Nil))) x (count_of stars) ns
  type_name t = pure None

  -- the sizes in brackets
  pub dimensions : Tree → Elaborated (List MaybeSize)
  dimensions (Node (l.More k) (Cons before (Cons opening (Cons bound none)))) = do
    ns ← dimensions before
    a ← expression bound
    n ← size (begin_of bound) a
    pure (ns ++ n ∷ [])
  dimensions t = pure []
