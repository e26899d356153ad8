-- Expressions add globals for their string literals, in the order of the tokens.
use Rattle.std.proofs.Common.{ℕ, true, false, List, [], ◌∷◌, ◌++◌, refl}
use Rattle.std.specs.Prelude.{Option, Some, option_map}
use Rattle.c_lex.specs.declared.token.Token.{Token}
use Rattle.c_ast.specs.Productions as l
use Rattle.c_ast.specs.Tree.{Tree, Leaf, Node, Nil, Cons}
use Rattle.c_typed.specs.Typed.{characters_at}
use Rattle.c_check_def.specs.OperandValues.{operand_type}
use Rattle.c_check_def.specs.State.{State}
use Rattle.c_check_def.specs.Leaves.{offset_of, begin_of, name_of, selection_op_of, inc_dec_op_of, unary_op_of, binary_op_of, assign_op_of, characters_of, count_of}
use Rattle.c_check_def.specs.Specifiers.{specified_type}
use Rattle.c_check_def.specs.Operands.{string_type, string, Sequence, first_of}
use Rattle.c_check_def.specs.Calls.{called_name, called_term}
use Rattle.c_check_def.specs.Expressions.{more_characters, expression, expressions, more_expressions, arguments, more_arguments, type_name, dimensions}
use Rattle.c_check_laws.proofs.lemmas.Quiet.{specified_type_quiet, size_quiet, named_quiet, binary_quiet, conditional_quiet, indexed_quiet, cast_quiet, measured_quiet, unary_quiet, stepped_quiet, assigned_quiet, selected_quiet, comma_quiet, called_name_quiet, called_quiet, named_type_quiet}
use Rattle.c_check_laws.proofs.Order.{KeepsOrder, over, same, in_turn, past, node, added, Named}

-- a string literal stands at its first token
string_order : (x : Token) (cs : List ℕ) (s : State) → KeepsOrder (Leaf x) s (string x.at cs s).1
string_order x cs s = added x (record { offset = x.at; type = Some (string_type cs); is_variable = false; fixed = true; written = characters_at 0 cs ∷ [] }) s refl

mutual
  pub expression_order : (t : Tree) (s : State) → Named t → KeepsOrder t s (expression t s).1
  expression_order (Node l.Name (Cons x more)) s r = same (named_quiet (name_of x) (offset_of x) s)
  expression_order (Node l.Number (Cons x more)) s r = over
  expression_order (Node l.Character (Cons x more)) s r = over
  expression_order (Node l.Text (Cons (Leaf x) (Cons xs more))) s r = node (in_turn (string_order x (characters_of (Leaf x) ++ more_characters xs) s) over)
  expression_order (Node l.Text (Cons x (Cons xs more))) s r = absurd r.0
  expression_order (Node l.Paren (Cons opening (Cons inner more))) s r = node (past (in_turn (expressions_order inner s r.1.0) over))
  expression_order (Node l.Index (Cons array (Cons opening (Cons index more)))) s r =
      let a = expression array s in
      let i = expressions index a.1 in
      node (in_turn (expression_order array s r.0) (past (in_turn (expressions_order index a.1 r.1.1.0) (same (indexed_quiet (offset_of opening) a.0 i.0 i.1)))))
  expression_order (Node l.Call (Cons (Node l.Name (Cons x none)) (Cons opening (Cons xs more)))) s r =
      let f = called_name (name_of x) (offset_of x) s in
      let es = arguments xs f.1 in
      node (in_turn (same (called_name_quiet (name_of x) (offset_of x) s)) (past (in_turn (arguments_order xs f.1 r.1.1.0) (same (called_quiet (offset_of opening) f.0 es.0 es.1)))))
  expression_order (Node l.Call (Cons function (Cons opening (Cons xs more)))) s r =
      let f = expression function s in
      let es = arguments xs f.1 in
      node (in_turn (expression_order function s r.0) (past (in_turn (arguments_order xs f.1 r.1.1.0) (same (called_quiet (offset_of opening) (called_term f.0) es.0 es.1)))))
  expression_order (Node l.Dot (Cons object (Cons o (Cons x more)))) s r =
      let a = expression object s in node (in_turn (expression_order object s r.0) (same (selected_quiet (selection_op_of o) (offset_of o) (name_of x) (offset_of x) a.0 a.1)))
  expression_order (Node l.Arrow (Cons object (Cons o (Cons x more)))) s r =
      let a = expression object s in node (in_turn (expression_order object s r.0) (same (selected_quiet (selection_op_of o) (offset_of o) (name_of x) (offset_of x) a.0 a.1)))
  expression_order (Node l.PostIncrement (Cons operand (Cons o more))) s r =
      let a = expression operand s in node (in_turn (expression_order operand s r.0) (same (stepped_quiet (inc_dec_op_of o) (offset_of o) true a.0 a.1)))
  expression_order (Node l.Increment (Cons o (Cons operand more))) s r =
      let a = expression operand s in node (past (in_turn (expression_order operand s r.1.0) (same (stepped_quiet (inc_dec_op_of o) (offset_of o) false a.0 a.1))))
  expression_order (Node l.Unary (Cons o (Cons operand more))) s r =
      let a = expression operand s in node (past (in_turn (expression_order operand s r.1.0) (same (unary_quiet (unary_op_of o) (offset_of o) a.0 a.1))))
  expression_order (Node l.Sizeof (Cons word (Cons (Node l.SizeofType (Cons opening (Cons operand none))) more))) s r =
      let t = type_name operand s in node (past (in_turn (node (past (in_turn (type_name_order operand s r.1.0.1.0) over))) (same (measured_quiet (offset_of word) t.0 t.1))))
  expression_order (Node l.Sizeof (Cons word (Cons operand more))) s r =
      let a = expression operand s in node (past (in_turn (expression_order operand s r.1.0) (same (measured_quiet (offset_of word) (option_map operand_type a.0) a.1))))
  expression_order (Node l.Cast (Cons opening (Cons target (Cons closing (Cons operand more))))) s r =
      let t = type_name target s in
      let a = expression operand t.1 in
      node (past (in_turn (type_name_order target s r.1.0) (past (in_turn (expression_order operand t.1 r.1.1.1.0) (same (cast_quiet (offset_of opening) t.0 a.0 a.1))))))
  expression_order (Node (l.Binary level) (Cons left (Cons o (Cons right more)))) s r =
      let a = expression left s in
      let b = expression right a.1 in
      node (in_turn (expression_order left s r.0) (past (in_turn (expression_order right a.1 r.1.1.0) (same (binary_quiet (binary_op_of o) (offset_of o) a.0 b.0 b.1)))))
  expression_order (Node l.Conditional (Cons condition (Cons question (Cons middle (Cons colon (Cons otherwise more)))))) s r =
      let c = expression condition s in
      let a = expressions middle c.1 in
      let b = expression otherwise a.1 in
      node (in_turn (expression_order condition s r.0) (past (in_turn (expressions_order middle c.1 r.1.1.0)
      (past (in_turn (expression_order otherwise a.1 r.1.1.1.1.0) (same (conditional_quiet (offset_of question) c.0 a.0 b.0 b.1)))))))
  expression_order (Node l.Assignment (Cons target (Cons o (Cons value more)))) s r =
      let a = expression target s in
      let b = expression value a.1 in
      node (in_turn (expression_order target s r.0) (past (in_turn (expression_order value a.1 r.1.1.0) (same (assigned_quiet (assign_op_of o) (offset_of o) a.0 b.0 b.1)))))
  expression_order t s r = over

  pub expressions_order : (t : Tree) (s : State) → Named t → KeepsOrder t s (expressions t s).1
  expressions_order (Node l.Expr (Cons first (Cons more none))) s r =
      let a = expression first s in node (in_turn (expression_order first s r.0) (in_turn (more_expressions_order (option_map first_of a.0) more a.1 r.1.0) over))
  expressions_order t s r = over

  more_expressions_order : (first : Option Sequence) (t : Tree) (s : State) → Named t → KeepsOrder t s (more_expressions first t s).1
  more_expressions_order first (Node (l.More k) (Cons before (Cons o (Cons element none)))) s r =
      let x = more_expressions first before s in
      let b = expression element x.1 in
      node (in_turn (more_expressions_order first before s r.0) (past (in_turn (expression_order element x.1 r.1.1.0) (same (comma_quiet (offset_of o) x.0 b.0 b.1)))))
  more_expressions_order first t s r = over

  arguments_order : (t : Tree) (s : State) → Named t → KeepsOrder t s (arguments t s).1
  arguments_order (Node (l.Present k) (Cons first (Cons more none))) s r =
      let a = expression first s in node (in_turn (expression_order first s r.0) (in_turn (more_arguments_order more a.1 r.1.0) over))
  arguments_order t s r = over

  more_arguments_order : (t : Tree) (s : State) → Named t → KeepsOrder t s (more_arguments t s).1
  more_arguments_order (Node (l.More k) (Cons before (Cons o (Cons element none)))) s r =
      let xs = more_arguments before s in node (in_turn (more_arguments_order before s r.0) (past (in_turn (expression_order element xs.1 r.1.1.0) over)))
  more_arguments_order t s r = over

  type_name_order : (t : Tree) (s : State) → Named t → KeepsOrder t s (type_name t s).1
  type_name_order (Node l.TypeName (Cons qualifier (Cons specifier (Cons stars (Cons sizes none))))) s r =
      let x = specified_type specifier s in
      let ns = dimensions sizes x.1 in
      node (past (in_turn (same (specified_type_quiet specifier s)) (past (in_turn (dimensions_order sizes x.1 r.1.1.1.0)
      (same (named_type_quiet (begin_of (Cons qualifier (Cons specifier Nil))) x.0 (count_of stars) ns.0 ns.1))))))
  type_name_order t s r = over

  pub dimensions_order : (t : Tree) (s : State) → Named t → KeepsOrder t s (dimensions t s).1
  dimensions_order (Node (l.More k) (Cons before (Cons opening (Cons bound none)))) s r =
      let ns = dimensions before s in
      let a = expression bound ns.1 in
      node (in_turn (dimensions_order before s r.0) (past (in_turn (expression_order bound ns.1 r.1.1.0) (same (size_quiet (begin_of bound) a.0 a.1)))))
  dimensions_order t s r = over
