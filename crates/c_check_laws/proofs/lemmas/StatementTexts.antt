-- Parts of statements and declarations add globals for their string literals only.
use Rattle.std.proofs.Common.{ℕ, ◌+◌, Bool, true, false, List, ◌++◌, ◌∙◌}
use Rattle.std.specs.Prelude.{Option, None, Some, option_and_then, if◌then◌else◌}
use Rattle.c_ast.specs.Productions as l
use Rattle.c_ast.specs.Tree.{Tree, Node, Cons}
use Rattle.c_typed.specs.Typed as typed
use Rattle.c_check_def.specs.declared.refusal_kind.RefusalKind.TheVariants.{BadReturn, NotConstant, BadLabel}
use Rattle.c_check_def.specs.State.{MaybeType, State, pure, or_broken, if_some}
use Rattle.c_check_def.specs.Leaves.{offset_of, begin_of, characters_of}
use Rattle.c_check_def.specs.Operands.{term_constant}
use Rattle.c_check_def.specs.Expressions.{more_characters, expression, expressions}
use Rattle.c_check_def.specs.Initialisers.{value, character_array, string_for, sets_to_zero, count_in, part_of, part_at, list_for, initialiser, elements}
use Rattle.c_check_def.specs.Declarators.{open_dimension, open_dimensions}
use Rattle.c_check_def.specs.Statements.{condition_clause, value_clause, gives_none, returned, Labels, label, more_labels}
use Rattle.c_check_laws.proofs.lemmas.Terms.{InRange}
use Rattle.c_check_laws.proofs.lemmas.Quiet.{breaks_if_quiet, or_broken_quiet, if_some_quiet, size_quiet, value_read_quiet, characters_quiet, list_for_quiet, whole_quiet, condition_quiet, case_label_quiet}
use Rattle.c_check_laws.proofs.lemmas.Texts.{Texts, same_globals, no_texts, texts_then, expression_texts, expressions_texts}

-- ---- initialisers

value_texts : (is_static : Bool) (t : MaybeType) (n : ℕ) (x : Tree) (s : State) → InRange x → Texts s (value is_static t n x s).1
value_texts is_static t n x s h = let a = expression x s in texts_then s a.1 _ (expression_texts x s h) (same_globals a.1 _ (value_read_quiet is_static t n (begin_of x) a.0 a.1))

string_for_texts : (is_static : Bool) (t : MaybeType) (n : ℕ) (x : Tree) (cs : List ℕ) (m : Option ℕ) (s : State) → InRange x → Texts s (string_for is_static t n x cs m s).1
string_for_texts is_static t n x cs None s h = value_texts is_static t n x s h
string_for_texts is_static t n x cs (Some m) s h = same_globals s _ (characters_quiet n (begin_of x) cs m s)

mutual
  pub initialiser_texts : (is_static : Bool) (t : MaybeType) (n : ℕ) (x : Tree) (s : State) → InRange x → Texts s (initialiser is_static t n x s).1
  initialiser_texts is_static t n (Node l.InitList (Cons opening (Cons items closing))) s r =
      by_test (sets_to_zero t items) (elements_texts is_static t n items s r.1.0)
    where
      by_test : (b : Bool) → Texts s (elements is_static t n items s).1 →
          Texts s ((if b then pure (Some typed.no_elements) else (λ s. (if_some (elements is_static t n items s).0 (list_for t (offset_of opening) (count_in items))
          (elements is_static t n items s).1))) s).1
      by_test true h = no_texts s
      by_test false h =
          let q = elements is_static t n items s in
          texts_then s q.1 _ h (same_globals q.1 _ (if_some_quiet q.0 (list_for t (offset_of opening) (count_in items)) (list_for_quiet t (offset_of opening) (count_in items)) q.1))
  initialiser_texts is_static t n (Node l.Text (Cons x (Cons xs none))) s r =
      string_for_texts is_static t n (Node l.Text (Cons x (Cons xs none))) (characters_of x ++ more_characters xs) (option_and_then character_array t) s r
  initialiser_texts is_static t n x s r = value_texts is_static t n x s r

  elements_texts : (is_static : Bool) (t : MaybeType) (n : ℕ) (x : Tree) (s : State) → InRange x → Texts s (elements is_static t n x s).1
  elements_texts is_static t n (Node l.InitFirst (Cons x none)) s r = initialiser_texts is_static (part_of s.structs t 0) (n + part_at s.structs t 0) x s r.0
  elements_texts is_static t n (Node l.InitComma (Cons before more)) s r = elements_texts is_static t n before s r.0
  elements_texts is_static t n (Node l.InitNext (Cons before (Cons x none))) s r =
      let xs = elements is_static t n before s in
      texts_then s xs.1 _ (elements_texts is_static t n before s r.0)
      (initialiser_texts is_static (part_of xs.1.structs t (count_in before)) (n + part_at xs.1.structs t (count_in before)) x xs.1 r.1.0)
  elements_texts is_static t n x s r = no_texts s

-- ---- declarators

open_dimension_texts : (t : Tree) (s : State) → InRange t → Texts s (open_dimension t s).1
open_dimension_texts (Node (l.Present k) (Cons bound none)) s r =
    let a = expression bound s in texts_then s a.1 _ (expression_texts bound s r.0) (same_globals a.1 _ (size_quiet (begin_of bound) a.0 a.1))
open_dimension_texts t s r = no_texts s

pub open_dimensions_texts : (t : Tree) (s : State) → InRange t → Texts s (open_dimensions t s).1
open_dimensions_texts (Node (l.More k) (Cons before (Cons opening (Cons bound none)))) s r =
    let ds = open_dimensions before s in texts_then s ds.1 _ (open_dimensions_texts before s r.0) (open_dimension_texts bound ds.1 r.1.1.0)
open_dimensions_texts t s r = no_texts s

-- ---- parts of statements

pub condition_clause_texts : (offset : ℕ) (t : Tree) (s : State) → InRange t → Texts s (condition_clause offset t s).1
condition_clause_texts offset (Node (l.Present k) (Cons x none)) s r =
    let a = expressions x s in texts_then s a.1 _ (expressions_texts x s r.0) (same_globals a.1 _ (condition_quiet offset a.0 a.1))
condition_clause_texts offset t s r = no_texts s

pub value_clause_texts : (t : Tree) (s : State) → InRange t → Texts s (value_clause t s).1
value_clause_texts (Node (l.Present k) (Cons x none)) s r =
    let a = expressions x s in texts_then s a.1 _ (expressions_texts x s r.0) (same_globals a.1 _ (whole_quiet (begin_of x) a.0 a.1))
value_clause_texts t s r = no_texts s

pub returned_texts : (t : MaybeType) (offset : ℕ) (x : Tree) (s : State) → InRange x → Texts s (returned t offset x s).1
returned_texts t offset (Node (l.Present k) (Cons x none)) s r =
    let a = expressions x s in
    texts_then s a.1 _ (expressions_texts x s r.0) (same_globals a.1 _ (if_some_quiet t _ (λ u. if_some_quiet a.0 _ (λ y. or_broken_quiet _ offset _)) a.1))
returned_texts t offset x s r = same_globals s _ (breaks_if_quiet (if gives_none t then false else true) BadReturn offset s)

pub label_texts : (x : Labels) (t : Tree) (s : State) → InRange t → Texts s (label x t s).1
label_texts x (Node l.Case (Cons word (Cons value (Cons colon none)))) s r =
    let a = expression value s in
    let w = or_broken NotConstant (begin_of value) (term_constant a.0) a.1 in
    texts_then s a.1 _ (expression_texts value s r.1.0)
    (same_globals a.1 _ (case_label_quiet x (offset_of word) w.0 w.1 ∙ or_broken_quiet NotConstant (begin_of value) (term_constant a.0) a.1))
label_texts x (Node l.Default (Cons word (Cons colon none))) s r = same_globals s _ (breaks_if_quiet _ BadLabel (offset_of word) s)
label_texts x t s r = no_texts s

pub more_labels_texts : (x : Labels) (t : Tree) (s : State) → InRange t → Texts s (more_labels x t s).1
more_labels_texts x (Node (l.More k) (Cons before (Cons t none))) s r =
    let y = more_labels x before s in texts_then s y.1 _ (more_labels_texts x before s r.0) (label_texts y.0 t y.1 r.1.0)
more_labels_texts x t s r = no_texts s
