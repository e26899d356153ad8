-- What an expression is, is there where no rule is broken: along the grammar.
use Rattle.std.proofs.Common.{◌≡◌, ℕ, zero, suc, Bool, true, false, List, [], ◌∷◌, ◌++◌, sym, ◌∙◌, subst}
use Rattle.std.specs.Prelude.{Option, None, Some, option_map, option_and_then}
use Rattle.std.proofs.lemmas.Bool.{false≢true}
use Rattle.c_lex.specs.declared.punct.Punct.TheVariants as mark
use Rattle.c_lex.specs.declared.token.TokenKind.{TokenKind}
use Rattle.c_lex.specs.declared.token.TokenKind.TheVariants as kind
use Rattle.c_ast.specs.Operators.{selection_of, inc_dec_of, unary_of, binary_of, assign_of}
use Rattle.c_ast.specs.Productions as l
use Rattle.c_ast.specs.Nonterminals as class
use Rattle.c_ast.specs.Terminals as terminal
use Rattle.c_ast.specs.Grammar as grammar
use Rattle.c_ast.specs.Tree.{Tree, Leaf, Node, Nil, Cons}
use Rattle.c_type.specs.Trees.{TypeTree}
use Rattle.c_check_def.specs.OperandValues.{operand_type}
use Rattle.c_check_def.specs.declared.refusal_kind.RefusalKind.TheVariants.{NotConstant}
use Rattle.c_check_def.specs.State.{MaybeType, State, if_some}
use Rattle.c_check_def.specs.Leaves.{offset_of, begin_of, name_of, punct_by, selection_op_of, inc_dec_op_of, unary_op_of, binary_op_of, assign_op_of, count_of}
use Rattle.c_check_def.specs.Specifiers.{Specified, specified_type}
use Rattle.c_check_def.specs.DeclaredTypes.{MaybeSize, array_by, arrays_of, type_if, small_type, unstarred, starred, named_type, with_elements, is_large, is_void, pointers_to}
use Rattle.c_check_def.specs.Operands.{Term, constant_by, Sequence}
use Rattle.c_check_def.specs.Operands as operands
use Rattle.c_check_def.specs.Calls.{called_name, called_term}
use Rattle.c_check_def.specs.Expressions.{size, expression, expressions, more_expressions, arguments, more_arguments, type_name, dimensions}
use Rattle.c_check_laws.proofs.lemmas.Steps.{indexed_steps, called_name_steps, called_steps, selected_steps, stepped_steps, unary_steps, measured_steps, cast_steps, binary_steps, conditional_steps, assigned_steps, comma_steps, small_type_steps, named_type_steps, size_steps, if_some_steps, expression_steps, expressions_steps, more_expressions_steps, arguments_steps, more_arguments_steps, type_name_steps}
use Rattle.c_check_laws.proofs.lemmas.ExpressionShapes.{IsExpression, operand_is_expression, IsExpressions, is_expressions, AreArguments, are_arguments, AreMoreAssigns, are_more_assigns, IsTypeName, is_type_name, is_sizeof_operand, postfix_small, unary_small, cast_small, cond_small, assign_small, binary_small, tighter_small}
use Rattle.c_check_laws.proofs.lemmas.There.{IsThere, NamesTyped, typed_step, or_broken_there, map_there, named_there, binary_there, conditional_there, indexed_there, cast_there, measured_there, unary_there, stepped_there, assigned_there, selected_there, comma_there, first_there, sequence_there, AllThere, CalledThere, called_term_there, called_name_there, called_there}

-- ---- constants

number_there : (k : TokenKind) → terminal.is terminal.AnyNumber k ≡ true → IsThere (constant_by k)
unfolding terminal.is
number_there (kind.Number w unsigned) e = tt
number_there (kind.Char c) e = tt
number_there k e = absurd (false≢true e)

character_there : (k : TokenKind) → terminal.is terminal.AnyChar k ≡ true → IsThere (constant_by k)
unfolding terminal.is
character_there (kind.Number w unsigned) e = tt
character_there (kind.Char c) e = tt
character_there k e = absurd (false≢true e)

-- ---- operators: a token that the grammar allows is one

dot_there : (k : TokenKind) → terminal.is (terminal.Mark mark.Dot) k ≡ true → IsThere (selection_of (punct_by k))
unfolding terminal.is terminal.mark_number selection_of
dot_there (kind.Punct mark.Dot) e = tt
dot_there (kind.Punct p) e = absurd (false≢true e)
dot_there k e = absurd (false≢true e)

arrow_there : (k : TokenKind) → terminal.is (terminal.Mark mark.Arrow) k ≡ true → IsThere (selection_of (punct_by k))
unfolding terminal.is terminal.mark_number selection_of
arrow_there (kind.Punct mark.Arrow) e = tt
arrow_there (kind.Punct p) e = absurd (false≢true e)
arrow_there k e = absurd (false≢true e)

inc_dec_there : (k : TokenKind) → terminal.is terminal.IncDecMark k ≡ true → IsThere (inc_dec_of (punct_by k))
unfolding terminal.is terminal.is_inc_dec_mark inc_dec_of
inc_dec_there (kind.Punct mark.PlusPlus) e = tt
inc_dec_there (kind.Punct mark.MinusMinus) e = tt
inc_dec_there (kind.Punct p) e = absurd (false≢true e)
inc_dec_there k e = absurd (false≢true e)

unary_op_there : (k : TokenKind) → terminal.is terminal.UnaryMark k ≡ true → IsThere (unary_of (punct_by k))
unfolding terminal.is terminal.is_unary_mark unary_of
unary_op_there (kind.Punct mark.Amp) e = tt
unary_op_there (kind.Punct mark.Star) e = tt
unary_op_there (kind.Punct mark.Plus) e = tt
unary_op_there (kind.Punct mark.Minus) e = tt
unary_op_there (kind.Punct mark.Tilde) e = tt
unary_op_there (kind.Punct mark.Bang) e = tt
unary_op_there (kind.Punct p) e = absurd (false≢true e)
unary_op_there k e = absurd (false≢true e)

binary_op_there : (level : l.Level) (k : TokenKind) → terminal.is (terminal.BinaryMark level) k ≡ true → IsThere (binary_of (punct_by k))
unfolding terminal.is terminal.is_of_level terminal.operator_level binary_of
binary_op_there level (kind.Punct mark.Star) e = tt
binary_op_there level (kind.Punct mark.Slash) e = tt
binary_op_there level (kind.Punct mark.Percent) e = tt
binary_op_there level (kind.Punct mark.Plus) e = tt
binary_op_there level (kind.Punct mark.Minus) e = tt
binary_op_there level (kind.Punct mark.ShiftLeft) e = tt
binary_op_there level (kind.Punct mark.ShiftRight) e = tt
binary_op_there level (kind.Punct mark.Less) e = tt
binary_op_there level (kind.Punct mark.Greater) e = tt
binary_op_there level (kind.Punct mark.LessEqual) e = tt
binary_op_there level (kind.Punct mark.GreaterEqual) e = tt
binary_op_there level (kind.Punct mark.EqualEqual) e = tt
binary_op_there level (kind.Punct mark.BangEqual) e = tt
binary_op_there level (kind.Punct mark.Amp) e = tt
binary_op_there level (kind.Punct mark.Caret) e = tt
binary_op_there level (kind.Punct mark.Pipe) e = tt
binary_op_there level (kind.Punct mark.AmpAmp) e = tt
binary_op_there level (kind.Punct mark.PipePipe) e = tt
binary_op_there level (kind.Punct p) e = absurd (false≢true e)
binary_op_there level k e = absurd (false≢true e)

assign_op_there : (k : TokenKind) → terminal.is terminal.AssignMark k ≡ true → IsThere (assign_of (punct_by k))
unfolding terminal.is terminal.is_assign_mark assign_of
assign_op_there (kind.Punct mark.Equal) e = tt
assign_op_there (kind.Punct mark.StarEqual) e = tt
assign_op_there (kind.Punct mark.SlashEqual) e = tt
assign_op_there (kind.Punct mark.PercentEqual) e = tt
assign_op_there (kind.Punct mark.PlusEqual) e = tt
assign_op_there (kind.Punct mark.MinusEqual) e = tt
assign_op_there (kind.Punct mark.ShiftLeftEqual) e = tt
assign_op_there (kind.Punct mark.ShiftRightEqual) e = tt
assign_op_there (kind.Punct mark.AmpEqual) e = tt
assign_op_there (kind.Punct mark.CaretEqual) e = tt
assign_op_there (kind.Punct mark.PipeEqual) e = tt
assign_op_there (kind.Punct p) e = absurd (false≢true e)
assign_op_there k e = absurd (false≢true e)

-- ---- type names

type_if_there : (wrong : Bool) (offset : ℕ) (t : TypeTree) (s : State) → (type_if wrong offset t s).1.broken ≡ None → IsThere (type_if wrong offset t s).0
type_if_there true offset t s clean = absurd (cc)
type_if_there false offset t s clean = tt

pub small_type_there : (offset : ℕ) (t : TypeTree) (s : State) → (small_type offset t s).1.broken ≡ None → IsThere (small_type offset t s).0
small_type_there offset t s clean = type_if_there (is_large s.structs (with_elements t)) offset t s clean

unstarred_there : (undeclared : Option ℕ) (t : TypeTree) (s : State) → (unstarred undeclared t s).1.broken ≡ None → IsThere (unstarred undeclared t s).0
unstarred_there None t s clean = tt
unstarred_there (Some tag) t s clean = absurd (cc)

starred_there : (x : Specified) (stars offset : ℕ) (s : State) → (starred x stars offset s).1.broken ≡ None → IsThere (starred x stars offset s).0
starred_there x zero offset s clean = unstarred_there x.undeclared x.type s clean
starred_there x (suc n) offset s clean = type_if_there (is_void x.type) offset (pointers_to x.type (suc n)) s clean

abbrev SizesThere : List MaybeSize → Type 0
SizesThere [] = Unit {0}
SizesThere (n ∷ ns) = IsThere n × SizesThere ns

arrays_there : (t : MaybeType) (ns : List MaybeSize) → IsThere t → SizesThere ns → IsThere (arrays_of t ns)
arrays_there t [] h k = h
arrays_there t (n ∷ ns) h k = by_parts n (arrays_of t ns) k.0 (arrays_there t ns h k.1)
  where
    by_parts : (n : MaybeSize) (u : MaybeType) → IsThere n → IsThere u → IsThere (option_and_then (array_by n) u)
    by_parts None u h k = absurd h
    by_parts (Some n) None h k = absurd k
    by_parts (Some n) (Some u) h k = tt

sizes_append : (ns : List MaybeSize) (n : MaybeSize) → SizesThere ns → IsThere n → SizesThere (ns ++ n ∷ [])
sizes_append [] n h k = (k, tt)
sizes_append (m ∷ ns) n h k = (h.0, sizes_append ns n h.1 k)

dimensions_there : (t : Tree) (s : State) → (dimensions t s).1.broken ≡ None → SizesThere (dimensions t s).0
dimensions_there (Node (l.More k) (Cons before (Cons opening (Cons bound none)))) s clean =
    let ns = dimensions before s in
    let a = expression bound ns.1 in
    let ca = (size_steps (begin_of bound) a.0 a.1).broken clean in
    sizes_append ns.0 (size (begin_of bound) a.0 a.1).0 (dimensions_there before s ((expression_steps bound ns.1).broken ca)) (or_broken_there NotConstant (begin_of bound) _ a.1 clean)
dimensions_there t s clean = tt

named_type_there : (offset : ℕ) (x : Specified) (stars : ℕ) (ns : List MaybeSize) (s : State) → SizesThere ns → (named_type offset x stars ns s).1.broken ≡ None →
    IsThere (named_type offset x stars ns s).0
named_type_there offset x stars ns s h clean =
    let t = starred x stars offset s in
    by_type (arrays_of t.0 ns) t.1
    (arrays_there t.0 ns (starred_there x stars offset s ((if_some_steps (arrays_of t.0 ns) (small_type offset) (small_type_steps offset) t.1).broken clean)) h) clean
  where
    by_type : (u : MaybeType) (s : State) → IsThere u → (if_some u (small_type offset) s).1.broken ≡ None → IsThere (if_some u (small_type offset) s).0
    by_type None s h q = absurd h
    by_type (Some u) s h q = small_type_there offset u s q

type_name_there : (t : Tree) (s : State) → IsTypeName t → (type_name t s).1.broken ≡ None → IsThere (type_name t s).0
unfolding grammar.Fits grammar.symbols_of grammar.rule
type_name_there (Node l.TypeName (Cons qualifier (Cons specifier (Cons stars (Cons sizes more))))) s r clean =
    let x = specified_type specifier s in
    let ns = dimensions sizes x.1 in
    let b = begin_of (Cons qualifier (Cons specifier Nil)) in
    named_type_there b x.0 (count_of stars) ns.0 ns.1 (dimensions_there sizes x.1 ((named_type_steps b x.0 (count_of stars) ns.0 ns.1).broken clean)) clean
type_name_there t s r clean = absurd (assumption)

-- ---- expressions

operand_type_there : (a : Term) → IsThere a → IsThere (option_map operand_type a)
operand_type_there a h = map_there operand_type a h

all_there_append : (xs : List Term) (a : Term) → AllThere xs → IsThere a → AllThere (xs ++ a ∷ [])
all_there_append [] a h k = (k, tt)
all_there_append (x ∷ xs) a h k = (h.0, all_there_append xs a h.1 k)

mutual
  unfolding grammar.Fits grammar.symbols_of grammar.rule grammar.optional grammar.repeated

  pub expression_there : (t : Tree) (s : State) → IsExpression t → NamesTyped s → (expression t s).1.broken ≡ None → IsThere (expression t s).0
  expression_there (Node l.Name (Cons x more)) s r h clean = named_there (name_of x) (offset_of x) s h clean
  expression_there (Node l.Number (Cons (Leaf x) more)) s r h clean = number_there x.kind r.1.0
  expression_there (Node l.Character (Cons (Leaf x) more)) s r h clean = character_there x.kind r.1.0
  expression_there (Node l.Text (Cons (Leaf x) (Cons xs more))) s r h clean = tt
  expression_there (Node l.Paren (Cons (Leaf opening) (Cons inner more))) s r h clean = expressions_there inner s (is_expressions inner r.1.1.0) h clean
  expression_there (Node l.Index (Cons array (Cons (Leaf opening) (Cons index more)))) s r h clean =
      let a = expression array s in
      let i = expressions index a.1 in
      let ci = (indexed_steps opening.at a.0 i.0 i.1).broken clean in
      let ca = (expressions_steps index a.1).broken ci in
      indexed_there opening.at a.0 i.0 i.1 (expression_there array s (operand_is_expression class.Postfix array postfix_small r.1.0) h ca)
      (expressions_there index a.1 (is_expressions index r.1.1.1.0) (typed_step s a.1 (expression_steps array s) h) ci) clean
  expression_there (Node l.Call (Cons (Node l.Name (Cons x none)) (Cons (Leaf opening) (Cons xs more)))) s r h clean =
      let f = called_name (name_of x) (offset_of x) s in
      let es = arguments xs f.1 in
      let ce = (called_steps opening.at f.0 es.0 es.1).broken clean in
      let se = arguments_steps xs f.1 in
      let sf = called_name_steps (name_of x) (offset_of x) s in
      called_there opening.at f.0 es.0 es.1
      (subst (λ ds. CalledThere ds f.0) (sym (se.declared ∙ sf.declared)) (called_name_there (name_of x) (offset_of x) s h (se.broken ce)))
      (arguments_there xs f.1 (are_arguments xs r.1.1.1.0) (typed_step s f.1 sf h) ce) clean
  expression_there (Node l.Call (Cons function (Cons (Leaf opening) (Cons xs more)))) s r h clean =
      let f = expression function s in
      let es = arguments xs f.1 in
      let ce = (called_steps opening.at (called_term f.0) es.0 es.1).broken clean in
      let cf = (arguments_steps xs f.1).broken ce in
      called_there opening.at (called_term f.0) es.0 es.1
      (called_term_there es.1.declared f.0 (expression_there function s (operand_is_expression class.Postfix function postfix_small r.1.0) h cf))
      (arguments_there xs f.1 (are_arguments xs r.1.1.1.0) (typed_step s f.1 (expression_steps function s) h) ce) clean
  expression_there (Node l.Dot (Cons object (Cons (Leaf o) (Cons x more)))) s r h clean =
      let a = expression object s in
      let ca = (selected_steps (selection_op_of (Leaf o)) o.at (name_of x) (offset_of x) a.0 a.1).broken clean in
      selected_there (selection_op_of (Leaf o)) o.at (name_of x) (offset_of x) a.0 a.1 (dot_there o.kind r.1.1.0)
      (expression_there object s (operand_is_expression class.Postfix object postfix_small r.1.0) h ca) clean
  expression_there (Node l.Arrow (Cons object (Cons (Leaf o) (Cons x more)))) s r h clean =
      let a = expression object s in
      let ca = (selected_steps (selection_op_of (Leaf o)) o.at (name_of x) (offset_of x) a.0 a.1).broken clean in
      selected_there (selection_op_of (Leaf o)) o.at (name_of x) (offset_of x) a.0 a.1 (arrow_there o.kind r.1.1.0)
      (expression_there object s (operand_is_expression class.Postfix object postfix_small r.1.0) h ca) clean
  expression_there (Node l.PostIncrement (Cons operand (Cons (Leaf o) more))) s r h clean =
      let a = expression operand s in
      let ca = (stepped_steps (inc_dec_op_of (Leaf o)) o.at true a.0 a.1).broken clean in
      stepped_there (inc_dec_op_of (Leaf o)) o.at true a.0 a.1 (inc_dec_there o.kind r.1.1.0) (expression_there operand s (operand_is_expression class.Postfix operand postfix_small r.1.0) h ca) clean
  expression_there (Node l.Increment (Cons (Leaf o) (Cons operand more))) s r h clean =
      let a = expression operand s in
      let ca = (stepped_steps (inc_dec_op_of (Leaf o)) o.at false a.0 a.1).broken clean in
      stepped_there (inc_dec_op_of (Leaf o)) o.at false a.0 a.1 (inc_dec_there o.kind r.1.0) (expression_there operand s (operand_is_expression class.Unary operand unary_small r.1.1.0) h ca) clean
  expression_there (Node l.Unary (Cons (Leaf o) (Cons operand more))) s r h clean =
      let a = expression operand s in
      let ca = (unary_steps (unary_op_of (Leaf o)) o.at a.0 a.1).broken clean in
      unary_there (unary_op_of (Leaf o)) o.at a.0 a.1 (unary_op_there o.kind r.1.0) (expression_there operand s (operand_is_expression class.Cast operand cast_small r.1.1.0) h ca) clean
  expression_there (Node l.Sizeof (Cons (Leaf word) (Cons (Node l.SizeofType (Cons (Leaf opening) (Cons operand none))) more))) s r h clean =
      let t = type_name operand s in
      let ct = (measured_steps word.at t.0 t.1).broken clean in
      let o = is_sizeof_operand (Node l.SizeofType (Cons (Leaf opening) (Cons operand none))) r.1.1.0 in
      measured_there word.at t.0 t.1 (type_name_there operand s (is_type_name operand o.1.0) ct) clean
  expression_there (Node l.Sizeof (Cons (Leaf word) (Cons (Node l.SizeofType children) more))) s r h clean =
      let o = is_sizeof_operand (Node l.SizeofType children) r.1.1.0 in absurd (assumption)
  expression_there (Node l.Sizeof (Cons (Leaf word) (Cons operand more))) s r h clean =
      let a = expression operand s in
      let ca = (measured_steps word.at (option_map operand_type a.0) a.1).broken clean in
      measured_there word.at (option_map operand_type a.0) a.1 (operand_type_there a.0 (expression_there operand s (is_sizeof_operand operand r.1.1.0) h ca)) clean
  expression_there (Node l.Cast (Cons (Leaf opening) (Cons target (Cons (Leaf closing) (Cons operand more))))) s r h clean =
      let t = type_name target s in
      let a = expression operand t.1 in
      let ca = (cast_steps opening.at t.0 a.0 a.1).broken clean in
      let ct = (expression_steps operand t.1).broken ca in
      cast_there opening.at t.0 a.0 a.1 (type_name_there target s (is_type_name target r.1.1.0) ct)
      (expression_there operand t.1 (operand_is_expression class.Cast operand cast_small r.1.1.1.1.0) (typed_step s t.1 (type_name_steps target s) h) ca) clean
  expression_there (Node (l.Binary level) (Cons left (Cons (Leaf o) (Cons right more)))) s r h clean =
      let a = expression left s in
      let b = expression right a.1 in
      let cb = (binary_steps (binary_op_of (Leaf o)) o.at a.0 b.0 b.1).broken clean in
      let ca = (expression_steps right a.1).broken cb in
      binary_there (binary_op_of (Leaf o)) o.at a.0 b.0 b.1 (binary_op_there level o.kind r.1.1.0)
      (expression_there left s (operand_is_expression (class.Binary level) left (binary_small level) r.1.0) h ca)
      (expression_there right a.1 (operand_is_expression (grammar.tighter level) right (tighter_small level) r.1.1.1.0) (typed_step s a.1 (expression_steps left s) h) cb) clean
  expression_there (Node l.Conditional (Cons condition (Cons (Leaf question) (Cons middle (Cons (Leaf colon) (Cons otherwise more)))))) s r h clean =
      let d = expression condition s in
      let a = expressions middle d.1 in
      let b = expression otherwise a.1 in
      let cb = (conditional_steps question.at d.0 a.0 b.0 b.1).broken clean in
      let ca = (expression_steps otherwise a.1).broken cb in
      let cd = (expressions_steps middle d.1).broken ca in
      let hd = typed_step s d.1 (expression_steps condition s) h in
      conditional_there question.at d.0 a.0 b.0 b.1 (expression_there condition s (operand_is_expression (class.Binary l.LogicalOr) condition (binary_small l.LogicalOr) r.1.0) h cd)
      (expressions_there middle d.1 (is_expressions middle r.1.1.1.0) hd ca)
      (expression_there otherwise a.1 (operand_is_expression class.Cond otherwise cond_small r.1.1.1.1.1.0) (typed_step d.1 a.1 (expressions_steps middle d.1) hd) cb) clean
  expression_there (Node l.Assignment (Cons target (Cons (Leaf o) (Cons value more)))) s r h clean =
      let a = expression target s in
      let b = expression value a.1 in
      let cb = (assigned_steps (assign_op_of (Leaf o)) o.at a.0 b.0 b.1).broken clean in
      let ca = (expression_steps value a.1).broken cb in
      assigned_there (assign_op_of (Leaf o)) o.at a.0 b.0 b.1 (assign_op_there o.kind r.1.1.0) (expression_there target s (operand_is_expression class.Unary target unary_small r.1.0) h ca)
      (expression_there value a.1 (operand_is_expression class.Assign value assign_small r.1.1.1.0) (typed_step s a.1 (expression_steps target s) h) cb) clean
  expression_there (Node p children) s r h clean = let a = r.0 in absurd (first_of (assumption, cc))
  expression_there t s r h clean = absurd r

  expressions_there : (t : Tree) (s : State) → IsExpressions t → NamesTyped s → (expressions t s).1.broken ≡ None → IsThere (expressions t s).0
  expressions_there (Node l.Expr (Cons first (Cons more none))) s r h clean =
      let a = expression first s in
      let ca = (more_expressions_steps (option_map operands.first_of a.0) more a.1).broken clean in
      sequence_there (more_expressions (option_map operands.first_of a.0) more a.1).0
      (more_expressions_there (option_map operands.first_of a.0) more a.1 (are_more_assigns more r.1.0)
      (first_there a.0 (expression_there first s (operand_is_expression class.Assign first assign_small r.0) h ca))
      (typed_step s a.1 (expression_steps first s) h) clean)
  expressions_there t s r h clean = absurd (assumption)

  more_expressions_there : (first : Option Sequence) (t : Tree) (s : State) → AreMoreAssigns t → IsThere first → NamesTyped s → (more_expressions first t s).1.broken ≡ None →
      IsThere (more_expressions first t s).0
  more_expressions_there first (Node (l.More l.MoreAssigns) (Cons before (Cons (Leaf o) (Cons element none)))) s r g h clean =
      let x = more_expressions first before s in
      let b = expression element x.1 in
      let cb = (comma_steps o.at x.0 b.0 b.1).broken clean in
      let cx = (expression_steps element x.1).broken cb in
      comma_there o.at x.0 b.0 b.1 (more_expressions_there first before s (are_more_assigns before r.0) g h cx)
      (expression_there element x.1 (operand_is_expression class.Assign element assign_small r.1.1.0) (typed_step s x.1 (more_expressions_steps first before s) h) cb) clean
  more_expressions_there first (Node (l.Empty k) children) s r g h clean = g
  more_expressions_there first t s r g h clean = absurd (assumption)

  arguments_there : (t : Tree) (s : State) → AreArguments t → NamesTyped s → (arguments t s).1.broken ≡ None → AllThere (arguments t s).0
  arguments_there (Node (l.Present l.Arguments) (Cons first (Cons more none))) s r h clean =
      let a = expression first s in
      let ca = (more_arguments_steps more a.1).broken clean in (
        expression_there first s (operand_is_expression class.Assign first assign_small r.0) h ca,
        more_arguments_there more a.1 (are_more_assigns more r.1.0) (typed_step s a.1 (expression_steps first s) h) clean,
      )
  arguments_there (Node (l.Absent k) children) s r h clean = tt
  arguments_there t s r h clean = absurd (assumption)

  more_arguments_there : (t : Tree) (s : State) → AreMoreAssigns t → NamesTyped s → (more_arguments t s).1.broken ≡ None → AllThere (more_arguments t s).0
  more_arguments_there (Node (l.More l.MoreAssigns) (Cons before (Cons (Leaf o) (Cons element none)))) s r h clean =
      let xs = more_arguments before s in
      let cx = (expression_steps element xs.1).broken clean in
      all_there_append xs.0 (expression element xs.1).0 (more_arguments_there before s (are_more_assigns before r.0) h cx)
      (expression_there element xs.1 (operand_is_expression class.Assign element assign_small r.1.1.0) (typed_step s xs.1 (more_arguments_steps before s) h) clean)
  more_arguments_there (Node (l.Empty k) children) s r h clean = tt
  more_arguments_there t s r h clean = absurd (assumption)
