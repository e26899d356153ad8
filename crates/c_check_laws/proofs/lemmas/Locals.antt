-- Declarations in blocks are typed.
use Rattle.std.proofs.Common.{◌≡◌, ◌≤◌, ◌<◌, ◌⊎◌, inl, inr, ℕ, ◌+◌, zero, suc, Bool, true, false, cond, List, [], ◌∷◌, ◌++◌, length, refl, sym, ap, ◌∙◌, subst, arith}
use Rattle.std.specs.Prelude.{◌==◌, ◌&&◌, slice_get, not, Option, None, Some}
use Rattle.std.specs.Map.{lookup}
use Rattle.std.specs.Option.{option_or}
use Rattle.std.proofs.lemmas.Bool.{false≢true}
use Rattle.std.proofs.lemmas.Bool.Decides.{nat_tests}
use Rattle.c_ast.specs.Productions as l
use Rattle.c_ast.specs.Tree.{Tree, Node, Cons}
use Rattle.c_type.specs.Trees.{TypeTree, void_type, scalar_type, pointer_to, array_of, struct_type}
use Rattle.c_type.specs.Layout.{Definitions, is_complete, size, leaves_at}
use Rattle.c_type.specs.WellDefined.{AreDefinitions}
use Rattle.c_typed.specs.Typed.{VariableTree, ElementTrees, no_elements, value_then, characters_then, initial_elements}
use Rattle.c_typed.specs.WellTyped.{Scope, IsScalar, IsBegunAs, ElementsFit, InitialFits}
use Rattle.c_check_def.specs.Types.{is_scalar}
use Rattle.c_check_scope.specs.Scopes.{Name, Scopes, same_name, meaning, with_declaration}
use Rattle.c_check_def.specs.declared.meaning.Meaning.{Meaning}
use Rattle.c_check_def.specs.declared.meaning.Meaning.TheVariants as means
use Rattle.c_check_def.specs.State.{MaybeType, State, add_variable}
use Rattle.c_check_def.specs.Leaves.{characters_of}
use Rattle.c_check_def.specs.Initialisers.{Elements, value, string_for, character_array, count_in, completed_by, initial_of, initial, initialiser, completed}
use Rattle.c_check_def.specs.Expressions.{more_characters}
use Rattle.c_check_laws.specs.TypedOperands.{IfSome}
use Rattle.c_check_laws.proofs.lemmas.States.{Ending, Fits, FunctionFits, NamesFit, At}
use Rattle.c_check_laws.proofs.lemmas.ExpressionShapes.{IsExpression}
use Rattle.c_check_laws.proofs.lemmas.StatementSteps.{IsInitialiser}
use Rattle.c_check_laws.proofs.lemmas.Terms.{InRange}
use Rattle.c_check_laws.proofs.lemmas.Types.{LaidOrOpen}
use Rattle.c_check_laws.proofs.lemmas.Parts.{Layouts}
use Rattle.c_check_laws.proofs.lemmas.Initialisers.{ElementsWithin, within_fits, IsValue, value_fits, initialiser_fits, initialiser_value}

-- ---- what an initialiser gives a variable

elements_begin : (c : Scope) (v : VariableTree) (u : TypeTree) (es : ElementTrees) → (IsScalar u → ⊥) → InitialFits c v (initial_elements es) → InitialFits c v (initial_of es u)
elements_begin c v (scalar_type s) es n h = absurd (n tt)
elements_begin c v (pointer_to t) es n h = absurd (n tt)
elements_begin c v u no_elements n h = h
elements_begin c v u (value_then at e no_elements) n h = h
elements_begin c v u (value_then at e (value_then b f es)) n h = h
elements_begin c v u (value_then at e (characters_then b cs es)) n h = h
elements_begin c v u (characters_then at cs es) n h = h

value_begins : (c : Scope) (v : VariableTree) (u : TypeTree) (es : ElementTrees) → IsScalar u → u ≡ v.type → IsValue c u 0 es → InitialFits c v (initial_of es u)
value_begins c v (scalar_type s) es k same h =
    subst (λ es. InitialFits c v (initial_of es (scalar_type s))) (sym h.alone) (h.fits.typed, h.fits.type ∙ same, subst IsScalar same tt)
value_begins c v (pointer_to t) es k same h =
    subst (λ es. InitialFits c v (initial_of es (pointer_to t))) (sym h.alone) (h.fits.typed, h.fits.type ∙ same, subst IsScalar same tt)
value_begins c v u es k same h = absurd k

-- a type is scalar or not
scalar_or : (u : TypeTree) → IsScalar u ⊎ ((IsScalar u → ⊥) × (is_scalar u ≡ false))
scalar_or (scalar_type s) = inl tt
scalar_or (pointer_to t) = inl tt
scalar_or void_type = inr (λ k. k, refl)
scalar_or (array_of t n) = inr (λ k. k, refl)
scalar_or (struct_type tag) = inr (λ k. k, refl)

-- ---- the type that an initialiser completes

-- an initialiser that is one value
abbrev IsOneValue : Tree → TypeTree → Type 0
IsOneValue x u = (is_static : Bool) (s : State) → initialiser is_static (Some u) 0 x s ≡ value is_static (Some u) 0 x s

-- an array that no list and no string completes
pub record Uncompleted (x : Tree) (u : TypeTree) : Type 0 where
  pub one : IsOneValue x u
  pub shape : IsExpression x
  pub element : TypeTree
  pub array : u ≡ array_of element 0

-- the type after the initialiser
pub record Completed (defs : Definitions) (x : Tree) (t : TypeTree) : Type 0 where
  pub type : TypeTree
  pub there : completed x t ≡ Some type
  pub begun : IsBegunAs type t
  pub scalar : is_scalar t ≡ is_scalar type
  pub whole : (is_complete defs type ≡ true) ⊎ Uncompleted x type

pub some_elements : (defs : Definitions) (t : TypeTree) (n : ℕ) → 1 ≤ n → is_complete defs t ≡ true → is_complete defs (array_of t n) ≡ true
some_elements defs t n h c = let some : not (n == 0) ≡ true = grind (arith, nat_tests, h) in λ i. some i && c i

completed_array : (defs : Definitions) (x : Tree) (t : TypeTree) → is_complete defs t ≡ true → IsInitialiser x → Completed defs x (array_of t 0)
completed_array defs (Node l.InitList (Cons opening (Cons items closing))) t c h =
    record { type = array_of t (count_in items); there = refl; begun = inr refl; scalar = refl; whole = inl (some_elements defs t (count_in items) h c) }
completed_array defs (Node l.Text (Cons x (Cons xs none))) t c h = by_array (character_array (array_of t 0)) refl
  where
    by_array : (n : Option ℕ) → character_array (array_of t 0) ≡ n → Completed defs (Node l.Text (Cons x (Cons xs none))) (array_of t 0)
    by_array None q = record {
      type = array_of t 0;
      there = ap (completed_by (Node l.Text (Cons x (Cons xs none))) t) q;
      begun = inr refl;
      scalar = refl;
      whole = inr (record {
        one = λ b s. ap (λ n. string_for b (Some (array_of t 0)) 0 (Node l.Text (Cons x (Cons xs none))) (characters_of x ++ more_characters xs) n s) q;
        shape = h;
        element = t;
        array = refl;
      });
    }
    by_array (Some n) q = record {
      type = array_of t (suc (length (characters_of x ++ more_characters xs)));
      there = ap (completed_by (Node l.Text (Cons x (Cons xs none))) t) q;
      begun = inr refl;
      scalar = refl;
      whole = inl (some_elements defs t (suc (length (characters_of x ++ more_characters xs))) (omega arith) c);
    }
completed_array defs x t c h = record { type = array_of t 0; there = refl; begun = inr refl; scalar = refl; whole = inr (record { one = λ b s. refl; shape = h; element = t; array = refl }) }

completed_laid : (defs : Definitions) (x : Tree) (t : TypeTree) → is_complete defs t ≡ true → Completed defs x t
completed_laid defs x (array_of t zero) c = absurd (false≢true c)
completed_laid defs x (array_of t (suc n)) c = record { type = array_of t (suc n); there = refl; begun = inl refl; scalar = refl; whole = inl c }
completed_laid defs x void_type c = absurd (false≢true c)
completed_laid defs x (scalar_type s) c = record { type = scalar_type s; there = refl; begun = refl; scalar = refl; whole = inl c }
completed_laid defs x (pointer_to t) c = record { type = pointer_to t; there = refl; begun = refl; scalar = refl; whole = inl c }
completed_laid defs x (struct_type tag) c = record { type = struct_type tag; there = refl; begun = refl; scalar = refl; whole = inl c }

pub completed_fits : (defs : Definitions) (may : Bool) (x : Tree) (t : TypeTree) → LaidOrOpen defs may t → IsInitialiser x → Completed defs x t
completed_fits defs may x t (inl laid) h = completed_laid defs x t laid.complete
completed_fits defs may x t (inr o) h = subst (Completed defs x) (sym o.array) (completed_array defs x o.element o.one.complete h)

-- what a variable begins with, of its whole type
pub begins : (y : Layouts) (e : Ending) (c : Scope) (v : VariableTree) (x : Tree) (u : TypeTree) (s : State) → AreDefinitions c.structs → u ≡ v.type → (is_scalar u ≡ false → v.is_object ≡ true) →
    (is_complete c.structs u ≡ true) ⊎ Uncompleted x u → InRange x → At e c s → Fits e (initialiser false (Some u) 0 x s).1 → InitialFits c v (initial (initialiser false (Some u) 0 x s).0 (Some u))
begins y e c v x u s good same object whole r h fit = by_type (scalar_or u) whole
  where
    by_value : IsScalar u → (o : Elements) → IfSome (IsValue c u 0) o → InitialFits c v (initial o (Some u))
    by_value k None q = tt
    by_value k (Some es) q = value_begins c v u es k same q

    by_elements : (IsScalar u → ⊥) → is_scalar u ≡ false → (o : Elements) → IfSome (ElementsWithin c (leaves_at c.structs u 0) 0 (0 + size c.structs u)) o → InitialFits c v (initial o (Some u))
    by_elements n k None q = tt
    by_elements n k (Some es) q =
        elements_begin c v u es n (object k, subst (λ t. ElementsFit c (leaves_at c.structs t 0) 0 es) same (within_fits c (leaves_at c.structs u 0) 0 (0 + size c.structs u) es q))

    no_value : (IsScalar u → ⊥) → (o : Elements) → IfSome (IsValue c u 0) o → InitialFits c v (initial o (Some u))
    no_value n None q = tt
    no_value n (Some es) q = absurd (n q.fits.scalar)

    by_type : IsScalar u ⊎ ((IsScalar u → ⊥) × (is_scalar u ≡ false)) → (is_complete c.structs u ≡ true) ⊎ Uncompleted x u →
        InitialFits c v (initial (initialiser false (Some u) 0 x s).0 (Some u))
    by_type (inl k) w = by_value k (initialiser false (Some u) 0 x s).0 (initialiser_value e c false u 0 x s k r h fit)
    by_type (inr n) (inl w) = by_elements n.0 n.1 (initialiser false (Some u) 0 x s).0 (initialiser_fits y e c good false u 0 x s w r h fit)
    by_type (inr n) (inr w) =
        subst (λ p. InitialFits c v (initial p.0 (Some u))) (sym (w.one false s))
        (no_value n.0 (value false (Some u) 0 x s).0 (value_fits e c false u 0 x s r h (subst (λ p. Fits e p.1) (w.one false s) fit)))

-- ---- names after a declaration

-- a name means what was declared last, or what it meant before
pub declared_meaning : (sc : Scopes Meaning) (name : Name) (m : Meaning) (asked : Name) →
    (meaning (with_declaration sc name m) asked ≡ Some m) ⊎ (meaning (with_declaration sc name m) asked ≡ meaning sc asked)
declared_meaning [] name m asked = by_test (same_name asked name)
  where
    by_test : (b : Bool) → (option_or (cond b (Some m) None) None ≡ Some m) ⊎ (option_or (cond b (Some m) None) None ≡ None)
    by_test true = inl refl
    by_test false = inr refl
declared_meaning (x ∷ rest) name m asked = by_test (same_name asked name)
  where
    by_test : (b : Bool) → (option_or (cond b (Some m) (lookup (same_name asked) x)) (meaning rest asked) ≡ Some m) ⊎
        (option_or (cond b (Some m) (lookup (same_name asked) x)) (meaning rest asked) ≡ option_or (lookup (same_name asked) x) (meaning rest asked))
    by_test true = inl refl
    by_test false = inr refl

pub get_append_cases : {A : Type 0} → (xs : List A) (x y : A) (k : ℕ) → slice_get (xs ++ x ∷ []) k ≡ Some y → (slice_get xs k ≡ Some y) ⊎ ((k ≡ length xs) × (x ≡ y))
get_append_cases [] x y zero h = inr (refl, cc)
get_append_cases [] x y (suc k) h = absurd (cc)
get_append_cases (z ∷ xs) x y zero h = inl h
get_append_cases (z ∷ xs) x y (suc k) h = later (get_append_cases xs x y k h)
  where
    later : (slice_get xs k ≡ Some y) ⊎ ((k ≡ length xs) × (x ≡ y)) → (slice_get xs k ≡ Some y) ⊎ ((suc k ≡ suc (length xs)) × (x ≡ y))
    later (inl a) = inl a
    later (inr a) = inr (ap suc a.0, a.1)

pub length_end : {A : Type 0} → (xs : List A) (x : A) → length (xs ++ x ∷ []) ≡ suc (length xs)
length_end [] x = refl
length_end (z ∷ xs) x = ap suc (length_end xs x)

pub names_added : (e : Ending) (o : MaybeType) (s : State) → NamesFit e s → NamesFit e (add_variable o s).1
names_added e o s h = record {
  slots = λ name slot b m. let k = h.slots name slot b m in let n = length_end s.slots (length s.variables) in omega (arith, k, n);
  variables = λ slot k m. by_slot slot k (get_append_cases s.slots (length s.variables) k slot m);
  functions = h.functions;
  put = h.put;
  get = h.get;
  exit = h.exit;
}
  where
    by_slot : (slot k : ℕ) → (slice_get s.slots slot ≡ Some k) ⊎ ((slot ≡ length s.slots) × (length s.variables ≡ k)) →
        k < length (s.variables ++ record { type = o; is_taken = false; is_named = false } ∷ [])
    by_slot slot k (inl a) = let b = h.variables slot k a in let n = length_end s.variables (record { type = o; is_taken = false; is_named = false }) in omega (arith, b, n)
    by_slot slot k (inr a) = let n = length_end s.variables (record { type = o; is_taken = false; is_named = false }) in omega (arith, a.1, n)

-- a name of a variable that has a slot
pub names_bound : (e : Ending) (name : Name) (slot : ℕ) (fixed : Bool) (s : State) → slot < length s.slots → NamesFit e s →
    NamesFit e (record s { scopes = with_declaration s.scopes name (means.Variable slot fixed) })
names_bound e name slot fixed s below h = record {
  slots = λ asked k b m. by_slot asked k b m (declared_meaning s.scopes name (means.Variable slot fixed) asked);
  variables = h.variables;
  functions = λ asked k m. by_function asked k m (declared_meaning s.scopes name (means.Variable slot fixed) asked);
  put = h.put;
  get = h.get;
  exit = h.exit;
}
  where
    by_slot : (asked : Name) (k : ℕ) (b : Bool) → meaning (with_declaration s.scopes name (means.Variable slot fixed)) asked ≡ Some (means.Variable k b) →
        (meaning (with_declaration s.scopes name (means.Variable slot fixed)) asked ≡ Some (means.Variable slot fixed)) ⊎
        (meaning (with_declaration s.scopes name (means.Variable slot fixed)) asked ≡ meaning s.scopes asked) →
        k < length s.slots
    by_slot asked k b m (inl a) = let same : slot ≡ k = let both : Some (means.Variable slot fixed) ≡ Some (means.Variable k b) = sym a ∙ m in cc in subst (λ k. k < length s.slots) same below
    by_slot asked k b m (inr a) = h.slots asked k b (sym a ∙ m)

    by_function : (asked : Name) (k : ℕ) → meaning (with_declaration s.scopes name (means.Variable slot fixed)) asked ≡ Some (means.Function (suc (suc (suc k)))) →
        (meaning (with_declaration s.scopes name (means.Variable slot fixed)) asked ≡ Some (means.Variable slot fixed)) ⊎
        (meaning (with_declaration s.scopes name (means.Variable slot fixed)) asked ≡ meaning s.scopes asked) →
        FunctionFits e s.defined s.declared asked (suc (suc (suc k)))
    by_function asked k m (inl a) = absurd (let both : Some (means.Variable slot fixed) ≡ Some (means.Function (suc (suc (suc k)))) = sym a ∙ m in cc)
    by_function asked k m (inr a) = h.functions asked k (sym a ∙ m)
