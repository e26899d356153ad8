-- What the checker makes of an expression is typed.
use Rattle.std.proofs.Common.{true, false, List, [], ◌∷◌, ◌++◌, sym, ◌∙◌, subst}
use Rattle.std.specs.Prelude.{Option, option_map}
use Rattle.c_ast.specs.Productions as l
use Rattle.c_ast.specs.Tree.{Tree, Node, Cons}
use Rattle.c_typed.specs.WellTyped.{Scope}
use Rattle.c_check_def.specs.OperandValues.{operand_type}
use Rattle.c_check_def.specs.State.{State}
use Rattle.c_check_def.specs.Leaves.{offset_of, name_of, selection_op_of, inc_dec_op_of, unary_op_of, binary_op_of, assign_op_of, characters_of}
use Rattle.c_check_def.specs.Operands.{Term, Sequence, first_of}
use Rattle.c_check_def.specs.Calls.{called_name, called_term}
use Rattle.c_check_def.specs.Expressions.{more_characters, expression, expressions, more_expressions, arguments, more_arguments, type_name}
use Rattle.c_check_laws.specs.TypedOperands.{IfSome}
use Rattle.c_check_laws.proofs.lemmas.States.{Ending, Fits, fits_back, At, at_step, objects_fit}
use Rattle.c_check_laws.proofs.lemmas.Steps.{indexed_steps, called_name_steps, called_steps, selected_steps, stepped_steps, unary_steps, cast_steps, binary_steps, conditional_steps, assigned_steps, comma_steps, expression_steps, expressions_steps, more_expressions_steps, arguments_steps, more_arguments_steps, type_name_steps}
use Rattle.c_check_laws.proofs.lemmas.Terms.{TermFits, InRange, named_typed, constant_typed, string_typed, binary_term, conditional_term, indexed_term, cast_term, measured_term, unary_term, stepped_term, assigned_term, selected_term, SequenceFits, first_fits, comma_term, sequence_typed, AllFit}
use Rattle.c_check_laws.proofs.lemmas.CalledTerms.{CalledFits, called_name_fits, called_term_fits, called_typed}

all_append : (c : Scope) (xs : List Term) (a : Term) → AllFit c xs → TermFits c a → AllFit c (xs ++ a ∷ [])
all_append c [] a h k = (k, tt)
all_append c (x ∷ xs) a h k = (h.0, all_append c xs a h.1 k)

mutual
  pub expression_typed : (e : Ending) (c : Scope) (t : Tree) (s : State) → InRange t → At e c s → Fits e (expression t s).1 → TermFits c (expression t s).0
  expression_typed e c (Node l.Name (Cons x more)) s r h fit = named_typed e c (name_of x) (offset_of x) s h fit
  expression_typed e c (Node l.Number (Cons x more)) s r h fit = constant_typed c x r.0
  expression_typed e c (Node l.Character (Cons x more)) s r h fit = constant_typed c x r.0
  expression_typed e c (Node l.Text (Cons x (Cons xs more))) s r h fit = string_typed e c (offset_of x) (characters_of x ++ more_characters xs) s h fit
  expression_typed e c (Node l.Paren (Cons opening (Cons inner more))) s r h fit = expressions_typed e c inner s r.1.0 h fit
  expression_typed e c (Node l.Index (Cons array (Cons opening (Cons index more)))) s r h fit =
      let a = expression array s in
      let i = expressions index a.1 in
      let fi = fits_back e i.1 _ (indexed_steps (offset_of opening) a.0 i.0 i.1) fit in
      let fa = fits_back e a.1 i.1 (expressions_steps index a.1) fi in
      let ha = at_step e c s a.1 (expression_steps array s) h in
      let hi = at_step e c a.1 i.1 (expressions_steps index a.1) ha in
      indexed_term e c (offset_of opening) a.0 i.0 i.1 hi (objects_fit e c i.1 hi fi) (expression_typed e c array s r.0 h fa) (expressions_typed e c index a.1 r.1.1.0 ha fi)
  expression_typed e c (Node l.Call (Cons (Node l.Name (Cons x none)) (Cons opening (Cons xs more)))) s r h fit =
      let f = called_name (name_of x) (offset_of x) s in
      let es = arguments xs f.1 in
      let fe = fits_back e es.1 _ (called_steps (offset_of opening) f.0 es.0 es.1) fit in
      let sf = called_name_steps (name_of x) (offset_of x) s in
      let se = arguments_steps xs f.1 in
      let hf = at_step e c s f.1 sf h in
      let he = at_step e c f.1 es.1 se hf in
      called_typed e c (offset_of opening) f.0 es.0 es.1 he (objects_fit e c es.1 he fe)
      (subst (λ ds. CalledFits e ds f.0) (sym (se.declared ∙ sf.declared)) (called_name_fits e c (name_of x) (offset_of x) s h)) (arguments_typed e c xs f.1 r.1.1.0 hf fe)
  expression_typed e c (Node l.Call (Cons function (Cons opening (Cons xs more)))) s r h fit =
      let f = expression function s in
      let es = arguments xs f.1 in
      let fe = fits_back e es.1 _ (called_steps (offset_of opening) (called_term f.0) es.0 es.1) fit in
      let hf = at_step e c s f.1 (expression_steps function s) h in
      let he = at_step e c f.1 es.1 (arguments_steps xs f.1) hf in
      called_typed e c (offset_of opening) (called_term f.0) es.0 es.1 he (objects_fit e c es.1 he fe) (called_term_fits e es.1.declared f.0) (arguments_typed e c xs f.1 r.1.1.0 hf fe)
  expression_typed e c (Node l.Dot (Cons object (Cons o (Cons x more)))) s r h fit =
      let a = expression object s in
      let fa = fits_back e a.1 _ (selected_steps (selection_op_of o) (offset_of o) (name_of x) (offset_of x) a.0 a.1) fit in
      let ha = at_step e c s a.1 (expression_steps object s) h in
      selected_term e c (selection_op_of o) (offset_of o) (name_of x) (offset_of x) a.0 a.1 ha (objects_fit e c a.1 ha fa) (expression_typed e c object s r.0 h fa)
  expression_typed e c (Node l.Arrow (Cons object (Cons o (Cons x more)))) s r h fit =
      let a = expression object s in
      let fa = fits_back e a.1 _ (selected_steps (selection_op_of o) (offset_of o) (name_of x) (offset_of x) a.0 a.1) fit in
      let ha = at_step e c s a.1 (expression_steps object s) h in
      selected_term e c (selection_op_of o) (offset_of o) (name_of x) (offset_of x) a.0 a.1 ha (objects_fit e c a.1 ha fa) (expression_typed e c object s r.0 h fa)
  expression_typed e c (Node l.PostIncrement (Cons operand (Cons o more))) s r h fit =
      let a = expression operand s in
      let fa = fits_back e a.1 _ (stepped_steps (inc_dec_op_of o) (offset_of o) true a.0 a.1) fit in
      let ha = at_step e c s a.1 (expression_steps operand s) h in
      stepped_term e c (inc_dec_op_of o) (offset_of o) true a.0 a.1 ha (expression_typed e c operand s r.0 h fa)
  expression_typed e c (Node l.Increment (Cons o (Cons operand more))) s r h fit =
      let a = expression operand s in
      let fa = fits_back e a.1 _ (stepped_steps (inc_dec_op_of o) (offset_of o) false a.0 a.1) fit in
      let ha = at_step e c s a.1 (expression_steps operand s) h in
      stepped_term e c (inc_dec_op_of o) (offset_of o) false a.0 a.1 ha (expression_typed e c operand s r.1.0 h fa)
  expression_typed e c (Node l.Unary (Cons o (Cons operand more))) s r h fit =
      let a = expression operand s in
      let fa = fits_back e a.1 _ (unary_steps (unary_op_of o) (offset_of o) a.0 a.1) fit in
      let ha = at_step e c s a.1 (expression_steps operand s) h in
      unary_term e c (unary_op_of o) (offset_of o) a.0 a.1 ha (objects_fit e c a.1 ha fa) (expression_typed e c operand s r.1.0 h fa) fit
  expression_typed e c (Node l.Sizeof (Cons word (Cons (Node l.SizeofType (Cons opening (Cons operand none))) more))) s r h fit =
      let t = type_name operand s in measured_term e c (offset_of word) t.0 t.1 (at_step e c s t.1 (type_name_steps operand s) h)
  expression_typed e c (Node l.Sizeof (Cons word (Cons operand more))) s r h fit =
      let a = expression operand s in measured_term e c (offset_of word) (option_map operand_type a.0) a.1 (at_step e c s a.1 (expression_steps operand s) h)
  expression_typed e c (Node l.Cast (Cons opening (Cons target (Cons closing (Cons operand more))))) s r h fit =
      let t = type_name target s in
      let a = expression operand t.1 in
      let fa = fits_back e a.1 _ (cast_steps (offset_of opening) t.0 a.0 a.1) fit in
      let ht = at_step e c s t.1 (type_name_steps target s) h in
      let ha = at_step e c t.1 a.1 (expression_steps operand t.1) ht in
      cast_term c (offset_of opening) t.0 a.0 a.1 (objects_fit e c a.1 ha fa) (expression_typed e c operand t.1 r.1.1.1.0 ht fa)
  expression_typed e c (Node (l.Binary level) (Cons left (Cons o (Cons right more)))) s r h fit =
      let a = expression left s in
      let b = expression right a.1 in
      let fb = fits_back e b.1 _ (binary_steps (binary_op_of o) (offset_of o) a.0 b.0 b.1) fit in
      let fa = fits_back e a.1 b.1 (expression_steps right a.1) fb in
      let ha = at_step e c s a.1 (expression_steps left s) h in
      let hb = at_step e c a.1 b.1 (expression_steps right a.1) ha in
      binary_term e c (binary_op_of o) (offset_of o) a.0 b.0 b.1 hb (objects_fit e c b.1 hb fb) (expression_typed e c left s r.0 h fa) (expression_typed e c right a.1 r.1.1.0 ha fb)
  expression_typed e c (Node l.Conditional (Cons condition (Cons question (Cons middle (Cons colon (Cons otherwise more)))))) s r h fit =
      let d = expression condition s in
      let a = expressions middle d.1 in
      let b = expression otherwise a.1 in
      let fb = fits_back e b.1 _ (conditional_steps (offset_of question) d.0 a.0 b.0 b.1) fit in
      let fa = fits_back e a.1 b.1 (expression_steps otherwise a.1) fb in
      let fd = fits_back e d.1 a.1 (expressions_steps middle d.1) fa in
      let hd = at_step e c s d.1 (expression_steps condition s) h in
      let ha = at_step e c d.1 a.1 (expressions_steps middle d.1) hd in
      let hb = at_step e c a.1 b.1 (expression_steps otherwise a.1) ha in
      conditional_term c (offset_of question) d.0 a.0 b.0 b.1 (objects_fit e c b.1 hb fb) (expression_typed e c condition s r.0 h fd) (expressions_typed e c middle d.1 r.1.1.0 hd fa)
      (expression_typed e c otherwise a.1 r.1.1.1.1.0 ha fb)
  expression_typed e c (Node l.Assignment (Cons target (Cons o (Cons value more)))) s r h fit =
      let a = expression target s in
      let b = expression value a.1 in
      let fb = fits_back e b.1 _ (assigned_steps (assign_op_of o) (offset_of o) a.0 b.0 b.1) fit in
      let fa = fits_back e a.1 b.1 (expression_steps value a.1) fb in
      let ha = at_step e c s a.1 (expression_steps target s) h in
      let hb = at_step e c a.1 b.1 (expression_steps value a.1) ha in
      assigned_term e c (assign_op_of o) (offset_of o) a.0 b.0 b.1 hb (objects_fit e c b.1 hb fb) (expression_typed e c target s r.0 h fa) (expression_typed e c value a.1 r.1.1.0 ha fb)
  expression_typed e c t s r h fit = tt

  pub expressions_typed : (e : Ending) (c : Scope) (t : Tree) (s : State) → InRange t → At e c s → Fits e (expressions t s).1 → TermFits c (expressions t s).0
  expressions_typed e c (Node l.Expr (Cons first (Cons more none))) s r h fit =
      let a = expression first s in
      let ha = at_step e c s a.1 (expression_steps first s) h in
      let fa = fits_back e a.1 _ (more_expressions_steps (option_map first_of a.0) more a.1) fit in
      sequence_typed c (more_expressions (option_map first_of a.0) more a.1).0
      (more_expressions_typed e c (option_map first_of a.0) more a.1 r.1.0 ha (first_fits c a.0 (expression_typed e c first s r.0 h fa)) fit)
  expressions_typed e c t s r h fit = tt

  more_expressions_typed : (e : Ending) (c : Scope) (first : Option Sequence) (t : Tree) (s : State) → InRange t → At e c s → IfSome (SequenceFits c) first → Fits e (more_expressions first t s).1 →
      IfSome (SequenceFits c) (more_expressions first t s).0
  more_expressions_typed e c first (Node (l.More k) (Cons before (Cons o (Cons element none)))) s r h g fit =
      let x = more_expressions first before s in
      let b = expression element x.1 in
      let fb = fits_back e b.1 _ (comma_steps (offset_of o) x.0 b.0 b.1) fit in
      let fx = fits_back e x.1 b.1 (expression_steps element x.1) fb in
      let hx = at_step e c s x.1 (more_expressions_steps first before s) h in
      let hb = at_step e c x.1 b.1 (expression_steps element x.1) hx in
      comma_term c (offset_of o) x.0 b.0 b.1 (objects_fit e c b.1 hb fb) (more_expressions_typed e c first before s r.0 h g fx) (expression_typed e c element x.1 r.1.1.0 hx fb)
  more_expressions_typed e c first t s r h g fit = g

  arguments_typed : (e : Ending) (c : Scope) (t : Tree) (s : State) → InRange t → At e c s → Fits e (arguments t s).1 → AllFit c (arguments t s).0
  arguments_typed e c (Node (l.Present k) (Cons first (Cons more none))) s r h fit =
      let a = expression first s in
      let fa = fits_back e a.1 _ (more_arguments_steps more a.1) fit in
      let ha = at_step e c s a.1 (expression_steps first s) h in
      (expression_typed e c first s r.0 h fa, more_arguments_typed e c more a.1 r.1.0 ha fit)
  arguments_typed e c t s r h fit = tt

  more_arguments_typed : (e : Ending) (c : Scope) (t : Tree) (s : State) → InRange t → At e c s → Fits e (more_arguments t s).1 → AllFit c (more_arguments t s).0
  more_arguments_typed e c (Node (l.More k) (Cons before (Cons o (Cons element none)))) s r h fit =
      let xs = more_arguments before s in
      let fx = fits_back e xs.1 _ (expression_steps element xs.1) fit in
      let hx = at_step e c s xs.1 (more_arguments_steps before s) h in
      all_append c xs.0 (expression element xs.1).0 (more_arguments_typed e c before s r.0 h fx) (expression_typed e c element xs.1 r.1.1.0 hx fit)
  more_arguments_typed e c t s r h fit = tt
