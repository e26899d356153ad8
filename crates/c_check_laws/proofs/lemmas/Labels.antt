-- The labels of a `switch`: words, all different, and one `default` at most.
use Rattle.std.proofs.Common.{◌≡◌, ◌≢◌, ◌<◌, ℕ, ◌+◌, Bool, true, false, List, [], ◌∷◌, ◌++◌, refl, sym, ap, ◌∙◌, arith}
use Rattle.std.specs.Prelude.{◌^◌, ◌==◌, ◌||◌, Option, None, Some}
use Rattle.std.specs.List.{list_any}
use Rattle.std.proofs.lemmas.List.{append_assoc, append-nil}
use Rattle.std.proofs.lemmas.Bool.Decides.{nat_tests}
use Rattle.c_ast.specs.Productions as l
use Rattle.c_ast.specs.Tree.{Tree, Node, Cons}
use Rattle.c_typed.specs.Typed.{ItemTrees, GroupTrees, no_groups, group_then}
use Rattle.c_typed.specs.WellTyped.{Scope, Jumps, AreStatements, ItemsAreTyped, GroupsAreTyped, all_cases, defaults, AreWords, IsNotAmong, AreDistinct}
use Rattle.c_check_def.specs.OperandValues.{value_of}
use Rattle.c_check_def.specs.Constants.{constant_value}
use Rattle.c_check_def.specs.declared.refusal_kind.RefusalKind.{RefusalKind}
use Rattle.c_check_def.specs.declared.refusal_kind.RefusalKind.TheVariants.{NotConstant, BadLabel}
use Rattle.c_check_def.specs.State.{State, breaks_if, or_broken}
use Rattle.c_check_def.specs.Leaves.{offset_of, begin_of}
use Rattle.c_check_def.specs.Operands.{Term, term_constant}
use Rattle.c_check_def.specs.Expressions.{expression}
use Rattle.c_check_def.specs.Statements.{Labels, no_labels, next_group, case_label, label, more_labels, Groups, with_group, grouped}
use Rattle.c_check_laws.specs.TypedOperands.{IfSome, ObjectsFit}
use Rattle.c_check_laws.proofs.Options.{and_then_holds}
use Rattle.c_check_laws.proofs.Values.{value_typed}
use Rattle.c_check_laws.proofs.lemmas.ConstantWords.{IsWord, constant_is_word}
use Rattle.c_check_laws.proofs.lemmas.States.{Ending, Fits, fits_back, At, at_step, objects_fit}
use Rattle.c_check_laws.proofs.lemmas.Steps.{expression_steps, or_broken_steps}
use Rattle.c_check_laws.proofs.lemmas.Terms.{TermFits, InRange, or_broken_holds}
use Rattle.c_check_laws.proofs.lemmas.Expressions.{expression_typed}
use Rattle.c_check_laws.proofs.lemmas.StatementSteps.{case_label_steps, label_steps, more_labels_steps}

-- where no rule is broken afterwards, it was not wrong
pub not_wrong : (wrong : Bool) (rule : RefusalKind) (offset : ℕ) (s : State) → (breaks_if wrong rule offset s).1.broken ≡ None → wrong ≡ false
not_wrong true rule offset s h = absurd (cc)
not_wrong false rule offset s h = refl

-- ---- words

not_among : (u w : ℕ) (ws : List ℕ) → IsNotAmong u ws → u ≢ w → IsNotAmong u (ws ++ w ∷ [])
not_among u w [] h n = (n, tt)
not_among u w (v ∷ ws) h n = (h.0, not_among u w ws h.1 n)

distinct_append : (ws : List ℕ) (w : ℕ) → AreDistinct ws → list_any (λ v. v == w) ws ≡ false → AreDistinct (ws ++ w ∷ [])
distinct_append [] w h n = (tt, tt)
distinct_append (v ∷ ws) w h n = (not_among v w ws h.0 (by_test (v == w) refl n), distinct_append ws w h.1 (rest (v == w) n))
  where
    by_test : (t : Bool) → (v == w) ≡ t → (t || list_any (λ v. v == w) ws) ≡ false → v ≢ w
    by_test true q r = absurd (cc)
    by_test false q r = λ same. absurd (grind (arith, nat_tests, q, same))

    rest : (t : Bool) → (t || list_any (λ v. v == w) ws) ≡ false → list_any (λ v. v == w) ws ≡ false
    rest true r = absurd (cc)
    rest false r = r

words_append : (ws : List ℕ) (w : ℕ) → AreWords ws → w < 2 ^ 32 → AreWords (ws ++ w ∷ [])
words_append [] w h n = (n, tt)
words_append (v ∷ ws) w h n = (h.0, words_append ws w h.1 n)

-- ---- labels of one group, after the labels of the groups before

abbrev pub one_if_true : Bool → ℕ
one_if_true true = 1
one_if_true false = 0

pub record LabelsFit (before x : Labels) : Type 0 where
  pub words : x.words ≡ before.words ++ x.cases
  pub distinct : AreDistinct x.words
  pub are_words : AreWords x.words
  pub defaults : one_if_true x.has_default ≡ one_if_true before.has_default + one_if_true x.is_default

pub labels_begin : (x : Labels) → AreDistinct x.words → AreWords x.words → LabelsFit x (next_group x)
labels_begin x d w = record { words = sym (append-nil x.words); distinct = d; are_words = w; defaults = omega arith }

term_constant_word : (c : Scope) (a : Term) → ObjectsFit c → TermFits c a → IfSome IsWord (term_constant a)
term_constant_word c None fit ty = tt
term_constant_word c (Some a) fit ty = and_then_holds _ IsWord constant_value (value_of a) (value_typed c a fit ty) (λ e te. constant_is_word c e te)

case_label_fits : (b x : Labels) (offset : ℕ) (w : Option ℕ) (s : State) → LabelsFit b x → IfSome IsWord w → (case_label x offset w s).1.broken ≡ None → LabelsFit b (case_label x offset w s).0
case_label_fits b x offset None s h k clean = h
case_label_fits b x offset (Some w) s h k clean =
    let new = not_wrong (list_any (λ v. v == w) x.words) BadLabel offset s clean in
    record {
      words = ap (λ ws. ws ++ w ∷ []) h.words ∙ append_assoc b.words x.cases (w ∷ []);
      distinct = distinct_append x.words w h.distinct new;
      are_words = words_append x.words w h.are_words k;
      defaults = h.defaults;
    }

pub label_fits : (e : Ending) (c : Scope) (b x : Labels) (t : Tree) (s : State) → InRange t → At e c s → Fits e (label x t s).1 → LabelsFit b x → LabelsFit b (label x t s).0
label_fits e c b x (Node l.Case (Cons word (Cons value (Cons colon none)))) s r h fit k =
    let a = expression value s in
    let w = or_broken NotConstant (begin_of value) (term_constant a.0) a.1 in
    let fw = fits_back e w.1 _ (case_label_steps x (offset_of word) w.0 w.1) fit in
    let fa = fits_back e a.1 w.1 (or_broken_steps NotConstant (begin_of value) (term_constant a.0) a.1) fw in
    let ha = at_step e c s a.1 (expression_steps value s) h in
    case_label_fits b x (offset_of word) w.0 w.1 k
    (or_broken_holds IsWord NotConstant (begin_of value) (term_constant a.0) a.1 (term_constant_word c a.0 (objects_fit e c a.1 ha fa) (expression_typed e c value s r.1.0 h fa))) fit.clean
label_fits e c b x (Node l.Default (Cons word (Cons colon none))) s r h fit k =
    let none_before = not_wrong x.has_default BadLabel (offset_of word) s fit.clean in
    let d = k.defaults in
    record {
      words = k.words;
      distinct = k.distinct;
      are_words = k.are_words;
      defaults = let q = ap one_if_true none_before in omega (arith, q, d);
    }
label_fits e c b x t s r h fit k = k

pub more_labels_fit : (e : Ending) (c : Scope) (b x : Labels) (t : Tree) (s : State) → InRange t → At e c s → Fits e (more_labels x t s).1 → LabelsFit b x → LabelsFit b (more_labels x t s).0
more_labels_fit e c b x (Node (l.More k) (Cons before (Cons t none))) s r h fit f =
    let y = more_labels x before s in
    let fy = fits_back e y.1 _ (label_steps y.0 t y.1) fit in
    label_fits e c b y.0 t y.1 r.1.0 (at_step e c s y.1 (more_labels_steps x before s) h) fit (more_labels_fit e c b x before s r.0 h fy f)
more_labels_fit e c b x t s r h fit f = f

-- ---- groups

pub record GroupsFit (c : Scope) (j : Jumps) (x : Groups) : Type 0 where
  pub typed : GroupsAreTyped c j x.groups
  pub words : all_cases x.groups ≡ x.labels.words
  pub distinct : AreDistinct x.labels.words
  pub are_words : AreWords x.labels.words
  pub defaults : defaults x.groups ≡ one_if_true x.labels.has_default

with_group_typed : (c : Scope) (j : Jumps) (gs : GroupTrees) (cases : List ℕ) (d : Bool) (is : ItemTrees) → GroupsAreTyped c j gs → AreStatements is → ItemsAreTyped c j is →
    GroupsAreTyped c j (with_group gs cases d is)
with_group_typed c j no_groups cases d is h a b = (a, b, tt)
with_group_typed c j (group_then ws e ys gs) cases d is h a b = (h.0, h.1, with_group_typed c j gs cases d is h.2 a b)

with_group_cases : (gs : GroupTrees) (cases : List ℕ) (d : Bool) (is : ItemTrees) → all_cases (with_group gs cases d is) ≡ all_cases gs ++ cases
with_group_cases no_groups cases d is = append-nil cases
with_group_cases (group_then ws e ys gs) cases d is = ap (λ vs. ws ++ vs) (with_group_cases gs cases d is) ∙ sym (append_assoc ws (all_cases gs) cases)

with_group_defaults : (gs : GroupTrees) (cases : List ℕ) (d : Bool) (is : ItemTrees) → defaults (with_group gs cases d is) ≡ defaults gs + one_if_true d
with_group_defaults no_groups cases true is = refl
with_group_defaults no_groups cases false is = refl
with_group_defaults (group_then ws true ys gs) cases d is = let n = with_group_defaults gs cases d is in omega (arith, n)
with_group_defaults (group_then ws false ys gs) cases d is = with_group_defaults gs cases d is

pub grouped_fits : (c : Scope) (j : Jumps) (x : Groups) (y : Labels) (is : ItemTrees) → GroupsFit c j x → LabelsFit x.labels y → AreStatements is → ItemsAreTyped c j is →
    GroupsFit c j (grouped x y is)
grouped_fits c j x y is h f a b = record {
  typed = with_group_typed c j x.groups y.cases y.is_default is h.typed a b;
  words = with_group_cases x.groups y.cases y.is_default is ∙ ap (λ ws. ws ++ y.cases) h.words ∙ sym f.words;
  distinct = f.distinct;
  are_words = f.are_words;
  defaults = let n = with_group_defaults x.groups y.cases y.is_default is in let m = h.defaults in let k = f.defaults in omega (arith, n, m, k);
}

pub no_groups_fit : (c : Scope) (j : Jumps) → GroupsFit c j (record { labels = no_labels; groups = no_groups })
no_groups_fit c j = record { typed = tt; words = refl; distinct = tt; are_words = tt; defaults = refl }
