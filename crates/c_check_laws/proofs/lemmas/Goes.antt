-- What statements lead to: names that have types, variables whose types are laid out, and globals for string literals.
use Rattle.std.proofs.Common.{◌≡◌, ◌≤◌, ◌<◌, ◌⊎◌, inl, inr, ℕ, ◌+◌, zero, suc, Bool, true, false, List, [], ◌∷◌, ◌++◌, length, refl, sym, ap, ◌∙◌, subst, arith, eqb-true, eq-eqb}
use Rattle.std.specs.Prelude.{◌==◌, slice_get, Option, None, Some, option_map, option_and_then, unwrap_or, if◌then◌else◌}
use Rattle.std.proofs.Math.ListN.{get_or}
use Rattle.std.proofs.lemmas.Bool.{false≢true}
use Rattle.std.proofs.lemmas.Option.{slice_get-get_or}
use Rattle.c_ast.specs.Tree.{Tree}
use Rattle.c_type.specs.Trees.{TypeTree, void_type, scalar_type, pointer_to, array_of, struct_type}
use Rattle.c_type.specs.Layout.{IsLaidOut}
use Rattle.c_typed.specs.Typed.{ExprTree}
use Rattle.c_typed.specs.WellTyped.{type_of}
use Rattle.c_check_def.specs.declared.operand.Operand.{Operand}
use Rattle.c_check_def.specs.OperandValues.{value_of}
use Rattle.c_check_def.specs.Conversions.{may_convert, converted, converts}
use Rattle.c_check_scope.specs.Scopes.{Name, meaning, is_declared, with_declaration}
use Rattle.c_check_def.specs.declared.meaning.Meaning.TheVariants as means
use Rattle.c_check_def.specs.declared.refusal_kind.RefusalKind.TheVariants.{Redeclared, BadInitialiser}
use Rattle.c_check_def.specs.State.{MaybeType, Global, Variable, State, breaks_if, or_broken, declare, variable_in, add_variable}
use Rattle.c_check_def.specs.Leaves.{begin_of}
use Rattle.c_check_def.specs.Operands.{Term}
use Rattle.c_check_def.specs.Calls.{passed}
use Rattle.c_check_def.specs.Expressions.{expression}
use Rattle.c_check_def.specs.Initialisers.{value, value_at, value_read}
use Rattle.c_check_laws.proofs.lemmas.ExpressionShapes.{IsExpression}
use Rattle.c_check_laws.proofs.lemmas.States.{AreSame, Step, stay, same_length}
use Rattle.c_check_laws.proofs.lemmas.Steps.{breaks_if_steps}
use Rattle.c_check_laws.proofs.lemmas.Later.{Later, HasScope, entered, left, more_length}
use Rattle.c_check_laws.proofs.lemmas.StatementSteps.{value_read_steps}
use Rattle.c_check_laws.proofs.lemmas.There.{IsThere, GlobalTyped, FunctionTyped, NamesTyped}
use Rattle.c_check_laws.proofs.lemmas.ThereExpressions.{expression_there}
use Rattle.c_check_laws.proofs.lemmas.Locals.{declared_meaning, get_append_cases, length_end}
use Rattle.c_check_laws.proofs.lemmas.Texts.{Texts, no_texts, texts_then}

-- ---- names

-- what names mean is there and has a type
pub record Named (s : State) : Type 0 where
  pub there : (k : ℕ) (v : Variable) → slice_get s.variables k ≡ Some v → (t : TypeTree) × (v.type ≡ Some t)
  pub slots : (name : Name) (slot : ℕ) (is_const : Bool) → meaning s.scopes name ≡ Some (means.Variable slot is_const) → slot < length s.slots
  pub variables : (slot k : ℕ) → slice_get s.slots slot ≡ Some k → k < length s.variables
  pub globals : (name : Name) (k : ℕ) (is_const : Bool) → meaning s.scopes name ≡ Some (means.Global k is_const) → GlobalTyped s k
  pub functions : (name : Name) (k : ℕ) → meaning s.scopes name ≡ Some (means.Function k) → FunctionTyped s.declared k

-- the variables' types are laid out
abbrev pub AreLaid : State → Type 0
AreLaid s = (k : ℕ) (v : Variable) → slice_get s.variables k ≡ Some v → (t : TypeTree) × (v.type ≡ Some t) × IsLaidOut s.structs t

pub names_typed : (s : State) → Named s → NamesTyped s
names_typed s h = record {
  variables = λ name slot b m.
      let below = h.slots name slot b m in
      let k = get_or s.slots slot 0 in
      let there : slice_get s.slots slot ≡ Some k = slice_get-get_or s.slots slot 0 below in
      let place : variable_in s.slots slot ≡ k = ap (λ o. unwrap_or o 0) there in
      let v = get_or s.variables k (record { type = None; is_taken = false; is_named = false }) in
      let here : slice_get s.variables k ≡ Some v = slice_get-get_or s.variables k _ (h.variables slot k there) in
      let t = h.there k v here in
      record { variable = v; there = ap (slice_get s.variables) place ∙ here; type = t.0; has = t.1 };
  globals = h.globals;
  functions = h.functions;
}

-- a variable of a later list is one of the earlier
pub same_back : (vs ws : List Variable) (k : ℕ) (w : Variable) → AreSame vs ws → slice_get ws k ≡ Some w → (v : Variable) × (slice_get vs k ≡ Some v) × (w.type ≡ v.type)
same_back [] [] k w a e = absurd (cc)
same_back [] (x ∷ ws) k w a e = absurd a
same_back (v ∷ vs) [] k w a e = absurd a
same_back (v ∷ vs) (x ∷ ws) zero w a e = let same : x ≡ w = cc in (v, refl, ap (λ (v : Variable). v.type) (sym same) ∙ a.0)
same_back (v ∷ vs) (x ∷ ws) (suc k) w a e = same_back vs ws k w a.3 e

global_later : (s t : State) (k : ℕ) → ((j : ℕ) (g : Global) → slice_get s.globals j ≡ Some g → slice_get t.globals j ≡ Some g) → GlobalTyped s k → GlobalTyped t k
global_later s t k h g = record { declared = g.declared; there = h k g.declared g.there; type = g.type; has = g.has }

pub named_step : (s t : State) → Step s t → Named s → Named t
named_step s t a h = record {
  there = λ k w here. let b = same_back s.variables t.variables k w a.variables here in let u = h.there k b.0 b.1 in (u.0, b.2 ∙ u.1);
  slots = λ name slot b m. subst (λ (ks : List ℕ). slot < length ks) (sym a.slots) (h.slots name slot b (sym (ap (λ q. meaning q name) a.scopes) ∙ m));
  variables = λ slot k m. subst (λ n. k < n) (sym (same_length s.variables t.variables a.variables)) (h.variables slot k (sym (ap (λ ks. slice_get ks slot) a.slots) ∙ m));
  globals = λ name k b m. global_later s t k a.globals (h.globals name k b (sym (ap (λ q. meaning q name) a.scopes) ∙ m));
  functions = λ name k m. subst (λ ds. FunctionTyped ds k) (sym a.declared) (h.functions name k (sym (ap (λ q. meaning q name) a.scopes) ∙ m));
}

laid_step : (s t : State) → Step s t → AreLaid s → AreLaid t
laid_step s t a h k w here =
    let b = same_back s.variables t.variables k w a.variables here in
    let u = h k b.0 b.1 in
    (u.0, b.2 ∙ u.1, subst (λ d. IsLaidOut d u.0) (sym a.structs) u.2)

-- ---- from one state to another, with at most so many variables more

pub record Goes (s t : State) (n : ℕ) : Type 0 where
  pub broken : t.broken ≡ None → s.broken ≡ None
  pub texts : Texts s t
  pub few : length t.variables ≤ length s.variables + n
  pub sound : t.broken ≡ None → Named s → AreLaid s → Named t × AreLaid t

pub goes_step : (s t : State) (n : ℕ) → Step s t → Texts s t → Goes s t n
goes_step s t n a b = record {
  broken = a.broken;
  texts = b;
  few = let same = same_length s.variables t.variables a.variables in omega (arith, same);
  sound = λ clean h k. (named_step s t a h, laid_step s t a k);
}

pub goes_then : (r s t : State) (m n : ℕ) → Goes r s m → Goes s t n → Goes r t (m + n)
goes_then r s t m n a b = record {
  broken = λ h. a.broken (b.broken h);
  texts = texts_then r s t a.texts b.texts;
  few = let x = a.few in let y = b.few in omega (arith, x, y);
  sound = λ clean h k. let p = a.sound (b.broken clean) h k in b.sound clean p.0 p.1;
}

pub goes_more : (s t : State) (m n : ℕ) → m ≤ n → Goes s t m → Goes s t n
goes_more s t m n le a = record { broken = a.broken; texts = a.texts; few = let x = a.few in omega (arith, x, le); sound = a.sound }

pub goes_nowhere : (s : State) (n : ℕ) → Goes s s n
goes_nowhere s n = goes_step s s n (stay s) (no_texts s)

-- a scope of its own
named_entered : (s : State) → Named s → Named (entered s)
named_entered s h =
    record {
      there = h.there;
      slots = h.slots;
      variables = h.variables;
      globals = λ name k b m. let g = h.globals name k b m in record { declared = g.declared; there = g.there; type = g.type; has = g.has };
      functions = h.functions;
    }

named_left : (s t : State) → HasScope s → Later (entered s) t → Named s → Named t → Named (left s t)
named_left s t g a h k =
    let scopes = a.outer ∙ g in
    record {
      there = k.there;
      slots = λ name slot b m. h.slots name slot b (sym (ap (λ q. meaning q name) scopes) ∙ m);
      variables = λ slot j m. let below = h.variables slot j m in let more = more_length s.variables t.variables a.variables in omega (arith, below, more);
      globals = λ name j b m. let x = h.globals name j b (sym (ap (λ q. meaning q name) scopes)
          ∙ m) in record { declared = x.declared; there = a.globals j x.declared x.there; type = x.type; has = x.has };
      functions = λ name j m. subst (λ ds. FunctionTyped ds j) (sym a.declared) (h.functions name j (sym (ap (λ q. meaning q name) scopes) ∙ m));
    }

pub goes_within : (s t : State) (n : ℕ) → HasScope s → Later (entered s) t → Goes (entered s) t n → Goes s (left s t) n
goes_within s t n g a b = record {
  broken = b.broken;
  texts = record { added = b.texts.added; globals = b.texts.globals; texts = b.texts.texts };
  few = b.few;
  sound = λ clean h k. let p = b.sound clean (named_entered s h) k in (named_left s t g a h p.0, p.1);
}

-- ---- a variable is added and declared

named_added : (u : TypeTree) (s : State) → Named s → Named (add_variable (Some u) s).1
named_added u s h =
    let v : Variable = record { type = Some u; is_taken = false; is_named = false } in
    record {
      there = λ k w here. by_variable k w (get_append_cases s.variables v w k here);
      slots = λ name slot b m. let k = h.slots name slot b m in let n = length_end s.slots (length s.variables) in omega (arith, k, n);
      variables = λ slot k m. by_slot slot k (get_append_cases s.slots (length s.variables) k slot m);
      globals = λ name k b m. let g = h.globals name k b m in record { declared = g.declared; there = g.there; type = g.type; has = g.has };
      functions = h.functions;
    }
  where
    by_variable : (k : ℕ) (w : Variable) → (slice_get s.variables k ≡ Some w) ⊎ ((k ≡ length s.variables) × (record { type = Some u; is_taken = false; is_named = false } ≡ w)) →
        (t : TypeTree) × (w.type ≡ Some t)
    by_variable k w (inl a) = h.there k w a
    by_variable k w (inr a) = (u, ap (λ (v : Variable). v.type) (sym a.1))

    by_slot : (slot k : ℕ) → (slice_get s.slots slot ≡ Some k) ⊎ ((slot ≡ length s.slots) × (length s.variables ≡ k)) →
        k < length (s.variables ++ record { type = Some u; is_taken = false; is_named = false } ∷ [])
    by_slot slot k (inl a) = let b = h.variables slot k a in let n = length_end s.variables (record { type = Some u; is_taken = false; is_named = false }) in omega (arith, b, n)
    by_slot slot k (inr a) = let n = length_end s.variables (record { type = Some u; is_taken = false; is_named = false }) in omega (arith, a.1, n)

named_bound : (name : Name) (slot : ℕ) (fixed : Bool) (s : State) → slot < length s.slots → Named s → Named (record s { scopes = with_declaration s.scopes name (means.Variable slot fixed) })
named_bound name slot fixed s below h = record {
  there = h.there;
  slots = λ asked k b m. by_slot asked k b m (declared_meaning s.scopes name (means.Variable slot fixed) asked);
  variables = h.variables;
  globals = λ asked k b m. by_global asked k b m (declared_meaning s.scopes name (means.Variable slot fixed) asked);
  functions = λ asked k m. by_function asked k m (declared_meaning s.scopes name (means.Variable slot fixed) asked);
}
  where
    Meant : Name → Type 0
    Meant asked = (meaning (with_declaration s.scopes name (means.Variable slot fixed)) asked ≡ Some (means.Variable slot fixed)) ⊎
        (meaning (with_declaration s.scopes name (means.Variable slot fixed)) asked ≡ meaning s.scopes asked)

    by_slot : (asked : Name) (k : ℕ) (b : Bool) → meaning (with_declaration s.scopes name (means.Variable slot fixed)) asked ≡ Some (means.Variable k b) → Meant asked → k < length s.slots
    by_slot asked k b m (inl a) = let same : slot ≡ k = let both : Some (means.Variable slot fixed) ≡ Some (means.Variable k b) = sym a ∙ m in cc in subst (λ k. k < length s.slots) same below
    by_slot asked k b m (inr a) = h.slots asked k b (sym a ∙ m)

    by_global : (asked : Name) (k : ℕ) (b : Bool) → meaning (with_declaration s.scopes name (means.Variable slot fixed)) asked ≡ Some (means.Global k b) → Meant asked →
        GlobalTyped (record s { scopes = with_declaration s.scopes name (means.Variable slot fixed) }) k
    by_global asked k b m (inl a) = absurd (let both : Some (means.Variable slot fixed) ≡ Some (means.Global k b) = sym a ∙ m in cc)
    by_global asked k b m (inr a) = let g = h.globals asked k b (sym a ∙ m) in record { declared = g.declared; there = g.there; type = g.type; has = g.has }

    by_function : (asked : Name) (k : ℕ) → meaning (with_declaration s.scopes name (means.Variable slot fixed)) asked ≡ Some (means.Function k) → Meant asked → FunctionTyped s.declared k
    by_function asked k m (inl a) = absurd (let both : Some (means.Variable slot fixed) ≡ Some (means.Function k) = sym a ∙ m in cc)
    by_function asked k m (inr a) = h.functions asked k (sym a ∙ m)

-- the state of a new variable that has a name
abbrev pub declared_in : Name → ℕ → Bool → MaybeType → State → State
declared_in name offset fixed o s = (declare name offset (means.Variable (length s.slots) fixed) (add_variable o s).1).1

pub named_declared : (name : Name) (offset : ℕ) (fixed : Bool) (u : TypeTree) (s : State) → Named s → Named (declared_in name offset fixed (Some u) s)
named_declared name offset fixed u s h =
    let k = (add_variable (Some u) s).1 in
    let again = is_declared k.scopes name in
    let b = (breaks_if again Redeclared offset k).1 in
    let steps = breaks_if_steps again Redeclared offset k in
    let below : length s.slots < length b.slots = let a = ap length steps.slots in let n = length_end s.slots (length s.variables) in omega (arith, a, n) in
    named_bound name (length s.slots) fixed b below (named_step k b steps (named_added u s h))

-- the other variables are laid out
abbrev pub AreLaidBut : ℕ → State → Type 0
AreLaidBut n s = (k : ℕ) (v : Variable) → (k ≡ n → ⊥) → slice_get s.variables k ≡ Some v → (t : TypeTree) × (v.type ≡ Some t) × IsLaidOut s.structs t

pub laid_declared : (name : Name) (offset : ℕ) (fixed : Bool) (u : TypeTree) (s : State) → AreLaid s → AreLaidBut (length s.variables) (declared_in name offset fixed (Some u) s)
laid_declared name offset fixed u s h k w other here =
    let v : Variable = record { type = Some u; is_taken = false; is_named = false } in
    let a = (add_variable (Some u) s).1 in
    let steps = breaks_if_steps (is_declared a.scopes name) Redeclared offset a in
    let b = same_back a.variables (declared_in name offset fixed (Some u) s).variables k w steps.variables here in
    let old = by_place k b.0 other (get_append_cases s.variables v b.0 k b.1) in
    let u = h k b.0 old in
    (u.0, b.2 ∙ u.1, subst (λ d. IsLaidOut d u.0) (sym steps.structs) u.2)
  where
    by_place : (k : ℕ) (w : Variable) → (k ≡ length s.variables → ⊥) →
        (slice_get s.variables k ≡ Some w) ⊎ ((k ≡ length s.variables) × (record { type = Some u; is_taken = false; is_named = false } ≡ w)) →
        slice_get s.variables k ≡ Some w
    by_place k w n (inl a) = a
    by_place k w n (inr a) = absurd (n a.0)

-- with the last one laid out, all are
pub all_laid : (n : ℕ) (s : State) → AreLaidBut n s → ((v : Variable) → slice_get s.variables n ≡ Some v → (t : TypeTree) × (v.type ≡ Some t) × IsLaidOut s.structs t) → AreLaid s
all_laid n s h last k v here = by_test (k == n) refl
  where
    by_test : (b : Bool) → (k == n) ≡ b → (t : TypeTree) × (v.type ≡ Some t) × IsLaidOut s.structs t
    by_test true e = last v (ap (slice_get s.variables) (sym (eqb-true k n e)) ∙ here)
    by_test false e = h k v (λ q. false≢true (sym e ∙ eq-eqb k n q)) here

-- ---- an array is no value

no_array_passed : (t : TypeTree) (n : ℕ) (a : Operand) → passed (array_of t n) a ≡ None
no_array_passed t n a = by_value (value_of a)
  where
    by_type : (u : TypeTree) (e : ExprTree) → (if may_convert u (array_of t n) e then Some (converted (array_of t n) e) else None) ≡ None
    by_type void_type e = refl
    by_type (scalar_type s) e = refl
    by_type (pointer_to u) e = refl
    by_type (array_of u m) e = refl
    by_type (struct_type tag) e = refl

    by_value : (o : Option ExprTree) → option_and_then (converts (array_of t n)) o ≡ None
    by_value None = refl
    by_value (Some e) = by_type (type_of e) e

pub no_array_value : (is_static : Bool) (t : TypeTree) (n : ℕ) (x : Tree) (s : State) → IsExpression x → NamesTyped s → (value is_static (Some (array_of t n)) 0 x s).1.broken ≡ None → ⊥
no_array_value is_static t n x s shape h clean =
    let a = expression x s in
    by_term a.0 a.1 (expression_there x s shape h ((value_read_steps is_static (Some (array_of t n)) 0 (begin_of x) a.0 a.1).broken clean)) clean
  where
    by_passed : (o : Option ExprTree) (q : State) → o ≡ None → (or_broken BadInitialiser (begin_of x) (option_map (value_at 0) o) q).1.broken ≡ None → ⊥
    by_passed None q e c = cc
    by_passed (Some e) q none c = cc

    by_term : (a : Term) (q : State) → IsThere a → (value_read is_static (Some (array_of t n)) 0 (begin_of x) a q).1.broken ≡ None → ⊥
    by_term None q k c = k
    by_term (Some y) q k c = by_passed (passed (array_of t n) y) _ (no_array_passed t n y) c
