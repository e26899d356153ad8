-- An expression adds globals for its string literals only.
use Rattle.std.proofs.Common.{◌≡◌, ℕ, true, false, List, [], ◌∷◌, ◌++◌, refl, sym, ap, ◌∙◌, append_assoc, append-nil}
use Rattle.std.specs.Prelude.{Option, Some, option_map}
use Rattle.c_ast.specs.Productions as l
use Rattle.c_ast.specs.Tree.{Tree, Node, Nil, Cons}
use Rattle.c_check_def.specs.OperandValues.{operand_type}
use Rattle.c_check_scope.specs.Scopes.{Name}
use Rattle.c_check_def.specs.State.{Global, State}
use Rattle.c_check_def.specs.Leaves.{offset_of, begin_of, name_of, selection_op_of, inc_dec_op_of, unary_op_of, binary_op_of, assign_op_of, characters_of, count_of}
use Rattle.c_check_def.specs.Specifiers.{specified_type}
use Rattle.c_check_def.specs.Operands.{string_type, target, Sequence, first_of}
use Rattle.c_check_def.specs.Calls.{called_term, called_name}
use Rattle.c_check_def.specs.Expressions.{more_characters, expression, expressions, more_expressions, arguments, more_arguments, type_name, dimensions}
use Rattle.c_typed.specs.Typed.{characters_at}
use Rattle.c_check_laws.proofs.lemmas.Terms.{InRange}
use Rattle.c_check_laws.proofs.lemmas.Initialisers.{AreBytes, string_in_range}
use Rattle.c_check_laws.proofs.lemmas.Quiet.{size_quiet, specified_type_quiet, named_quiet, binary_quiet, conditional_quiet, indexed_quiet, cast_quiet, measured_quiet, unary_quiet, stepped_quiet, assigned_quiet, selected_quiet, comma_quiet, called_name_quiet, called_quiet, named_type_quiet}

-- the global of a string literal
pub record IsText (g : Global) : Type 0 where
  pub bytes : List ℕ
  pub type : g.type ≡ Some (string_type bytes)
  pub written : g.written ≡ characters_at 0 bytes ∷ []
  pub range : AreBytes bytes

abbrev pub AreTexts : List Global → Type 0
AreTexts [] = Unit {0}
AreTexts (g ∷ gs) = IsText g × AreTexts gs

-- what is added to the globals
pub record Texts (s t : State) : Type 0 where
  pub added : List Global
  pub globals : t.globals ≡ s.globals ++ added
  pub texts : AreTexts added

pub same_globals : (s t : State) → t.globals ≡ s.globals → Texts s t
same_globals s t e = record { added = []; globals = e ∙ sym (append-nil s.globals); texts = tt }

pub no_texts : (s : State) → Texts s s
no_texts s = same_globals s s refl

both_texts : (gs hs : List Global) → AreTexts gs → AreTexts hs → AreTexts (gs ++ hs)
both_texts [] hs a b = b
both_texts (g ∷ gs) hs a b = (a.0, both_texts gs hs a.1 b)

pub texts_then : (r s t : State) → Texts r s → Texts s t → Texts r t
texts_then r s t a b = record {
  added = a.added ++ b.added;
  globals = b.globals ∙ ap (λ gs. gs ++ b.added) a.globals ∙ append_assoc r.globals a.added b.added;
  texts = both_texts a.added b.added a.texts b.texts;
}

-- ---- expressions

mutual
  pub expression_texts : (t : Tree) (s : State) → InRange t → Texts s (expression t s).1
  expression_texts (Node l.Name (Cons x more)) s r = same_globals s _ (named_quiet (name_of x) (offset_of x) s)
  expression_texts (Node l.Number (Cons x more)) s r = no_texts s
  expression_texts (Node l.Character (Cons x more)) s r = no_texts s
  expression_texts (Node l.Text (Cons x (Cons xs more))) s r = record {
    added = _ ∷ [];
    globals = refl;
    texts =
        (record { bytes = characters_of x ++ more_characters xs; type = refl; written = refl; range = string_in_range x xs r.0 r.1.0 }, tt);
  }
  expression_texts (Node l.Paren (Cons opening (Cons inner more))) s r = expressions_texts inner s r.1.0
  expression_texts (Node l.Index (Cons array (Cons opening (Cons index more)))) s r =
      let a = expression array s in
      let i = expressions index a.1 in
      texts_then s a.1 _ (expression_texts array s r.0) (texts_then a.1 i.1 _ (expressions_texts index a.1 r.1.1.0) (same_globals i.1 _ (indexed_quiet (offset_of opening) a.0 i.0 i.1)))
  expression_texts (Node l.Call (Cons (Node l.Name (Cons x none)) (Cons opening (Cons xs more)))) s r =
      let f = called_name (name_of x) (offset_of x) s in
      let es = arguments xs f.1 in
      texts_then s f.1 _ (same_globals s _ (called_name_quiet (name_of x) (offset_of x) s))
      (texts_then f.1 es.1 _ (arguments_texts xs f.1 r.1.1.0) (same_globals es.1 _ (called_quiet (offset_of opening) f.0 es.0 es.1)))
  expression_texts (Node l.Call (Cons function (Cons opening (Cons xs more)))) s r =
      let f = expression function s in
      let es = arguments xs f.1 in
      texts_then s f.1 _ (expression_texts function s r.0) (texts_then f.1 es.1 _ (arguments_texts xs f.1 r.1.1.0) (same_globals es.1 _ (called_quiet (offset_of opening) (called_term f.0) es.0 es.1)))
  expression_texts (Node l.Dot (Cons object (Cons o (Cons x more)))) s r =
      let a = expression object s in texts_then s a.1 _ (expression_texts object s r.0) (same_globals a.1 _ (selected_quiet (selection_op_of o) (offset_of o) (name_of x) (offset_of x) a.0 a.1))
  expression_texts (Node l.Arrow (Cons object (Cons o (Cons x more)))) s r =
      let a = expression object s in texts_then s a.1 _ (expression_texts object s r.0) (same_globals a.1 _ (selected_quiet (selection_op_of o) (offset_of o) (name_of x) (offset_of x) a.0 a.1))
  expression_texts (Node l.PostIncrement (Cons operand (Cons o more))) s r =
      let a = expression operand s in texts_then s a.1 _ (expression_texts operand s r.0) (same_globals a.1 _ (stepped_quiet (inc_dec_op_of o) (offset_of o) true a.0 a.1))
  expression_texts (Node l.Increment (Cons o (Cons operand more))) s r =
      let a = expression operand s in texts_then s a.1 _ (expression_texts operand s r.1.0) (same_globals a.1 _ (stepped_quiet (inc_dec_op_of o) (offset_of o) false a.0 a.1))
  expression_texts (Node l.Unary (Cons o (Cons operand more))) s r =
      let a = expression operand s in texts_then s a.1 _ (expression_texts operand s r.1.0) (same_globals a.1 _ (unary_quiet (unary_op_of o) (offset_of o) a.0 a.1))
  expression_texts (Node l.Sizeof (Cons word (Cons (Node l.SizeofType (Cons opening (Cons operand none))) more))) s r =
      let t = type_name operand s in texts_then s t.1 _ (type_name_texts operand s r.1.0.1.0) (same_globals t.1 _ (measured_quiet (offset_of word) t.0 t.1))
  expression_texts (Node l.Sizeof (Cons word (Cons operand more))) s r =
      let a = expression operand s in texts_then s a.1 _ (expression_texts operand s r.1.0) (same_globals a.1 _ (measured_quiet (offset_of word) (option_map operand_type a.0) a.1))
  expression_texts (Node l.Cast (Cons opening (Cons target (Cons closing (Cons operand more))))) s r =
      let t = type_name target s in
      let a = expression operand t.1 in
      texts_then s t.1 _ (type_name_texts target s r.1.0) (texts_then t.1 a.1 _ (expression_texts operand t.1 r.1.1.1.0) (same_globals a.1 _ (cast_quiet (offset_of opening) t.0 a.0 a.1)))
  expression_texts (Node (l.Binary level) (Cons left (Cons o (Cons right more)))) s r =
      let a = expression left s in
      let b = expression right a.1 in
      texts_then s a.1 _ (expression_texts left s r.0) (texts_then a.1 b.1 _ (expression_texts right a.1 r.1.1.0) (same_globals b.1 _ (binary_quiet (binary_op_of o) (offset_of o) a.0 b.0 b.1)))
  expression_texts (Node l.Conditional (Cons condition (Cons question (Cons middle (Cons colon (Cons otherwise more)))))) s r =
      let c = expression condition s in
      let a = expressions middle c.1 in
      let b = expression otherwise a.1 in
      texts_then s c.1 _ (expression_texts condition s r.0) (texts_then c.1 a.1 _ (expressions_texts middle c.1 r.1.1.0) (texts_then a.1 b.1 _ (expression_texts otherwise a.1 r.1.1.1.1.0)
      (same_globals b.1 _ (conditional_quiet (offset_of question) c.0 a.0 b.0 b.1))))
  expression_texts (Node l.Assignment (Cons target (Cons o (Cons value more)))) s r =
      let a = expression target s in
      let b = expression value a.1 in
      texts_then s a.1 _ (expression_texts target s r.0) (texts_then a.1 b.1 _ (expression_texts value a.1 r.1.1.0) (same_globals b.1 _ (assigned_quiet (assign_op_of o) (offset_of o) a.0 b.0 b.1)))
  expression_texts t s r = no_texts s

  pub expressions_texts : (t : Tree) (s : State) → InRange t → Texts s (expressions t s).1
  expressions_texts (Node l.Expr (Cons first (Cons more none))) s r =
      let a = expression first s in texts_then s a.1 _ (expression_texts first s r.0) (more_expressions_texts (option_map first_of a.0) more a.1 r.1.0)
  expressions_texts t s r = no_texts s

  more_expressions_texts : (first : Option Sequence) (t : Tree) (s : State) → InRange t → Texts s (more_expressions first t s).1
  more_expressions_texts first (Node (l.More k) (Cons before (Cons o (Cons element none)))) s r =
      let x = more_expressions first before s in
      let b = expression element x.1 in
      texts_then s x.1 _ (more_expressions_texts first before s r.0) (texts_then x.1 b.1 _ (expression_texts element x.1 r.1.1.0) (same_globals b.1 _ (comma_quiet (offset_of o) x.0 b.0 b.1)))
  more_expressions_texts first t s r = no_texts s

  arguments_texts : (t : Tree) (s : State) → InRange t → Texts s (arguments t s).1
  arguments_texts (Node (l.Present k) (Cons first (Cons more none))) s r =
      let a = expression first s in texts_then s a.1 _ (expression_texts first s r.0) (more_arguments_texts more a.1 r.1.0)
  arguments_texts t s r = no_texts s

  more_arguments_texts : (t : Tree) (s : State) → InRange t → Texts s (more_arguments t s).1
  more_arguments_texts (Node (l.More k) (Cons before (Cons o (Cons element none)))) s r =
      let xs = more_arguments before s in texts_then s xs.1 _ (more_arguments_texts before s r.0) (expression_texts element xs.1 r.1.1.0)
  more_arguments_texts t s r = no_texts s

  type_name_texts : (t : Tree) (s : State) → InRange t → Texts s (type_name t s).1
  type_name_texts (Node l.TypeName (Cons qualifier (Cons specifier (Cons stars (Cons sizes none))))) s r =
      let x = specified_type specifier s in
      let ns = dimensions sizes x.1 in
      texts_then s x.1 _ (same_globals s _ (specified_type_quiet specifier s)) (texts_then x.1 ns.1 _ (dimensions_texts sizes x.1 r.1.1.1.0)
      (same_globals ns.1 _ (named_type_quiet (begin_of (Cons qualifier (Cons specifier Nil))) x.0 (count_of stars) ns.0 ns.1)))
  type_name_texts t s r = no_texts s

  pub dimensions_texts : (t : Tree) (s : State) → InRange t → Texts s (dimensions t s).1
  dimensions_texts (Node (l.More k) (Cons before (Cons opening (Cons bound none)))) s r =
      let ns = dimensions before s in
      let a = expression bound ns.1 in
      texts_then s ns.1 _ (dimensions_texts before s r.0) (texts_then ns.1 a.1 _ (expression_texts bound ns.1 r.1.1.0) (same_globals a.1 _ (size_quiet (begin_of bound) a.0 a.1)))
  dimensions_texts t s r = no_texts s
