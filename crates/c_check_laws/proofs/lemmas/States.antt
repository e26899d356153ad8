-- States of the checker along an expression, and what names mean there.
use Rattle.std.proofs.Common.{◌≡◌, ◌<◌, ℕ, zero, suc, Bool, true, false, List, [], ◌∷◌, ◌++◌, length, refl, sym, ap, ◌∙◌, subst}
use Rattle.std.specs.Prelude.{slice_get, Option, None, Some, option_and_then, unwrap_or}
use Rattle.c_type.specs.Trees.{TypeTree, void_type}
use Rattle.c_typed.specs.Typed.{VariableTree}
use Rattle.c_typed.specs.WellTyped.{Signature, Scope, int}
use Rattle.c_typed.specs.Objects.{object_by}
use Rattle.c_check_def.specs.Types.{is_scalar}
use Rattle.c_check_scope.specs.Scopes.{Name, meaning}
use Rattle.c_check_scope.specs.Names.{number_of}
use Rattle.c_check_def.specs.declared.meaning.Meaning.TheVariants as means
use Rattle.c_check_def.specs.State.{MaybeType, Declared, Global, Variable, State, variable_in}
use Rattle.c_check_def.specs.Declarators.{is_named}
use Rattle.c_check_laws.specs.TypedOperands.{ObjectsFit}

-- ---- what is known at the end

-- The functions and globals of the program, and the variables of the function. The last slot may be hidden: that of a
-- variable whose initialiser does not name it.
pub record Ending : Type 0 where
  pub functions : List Signature
  pub globals : List TypeTree
  pub variables : List VariableTree
  pub hides : Bool

-- whether a variable is an object at the end
abbrev pub is_object_then : Ending → (variable : ℕ) → Bool
is_object_then e k = object_by (slice_get e.variables k)

-- the type of a variable now
abbrev pub type_now : List Variable → (variable : ℕ) → TypeTree
type_now vs k = unwrap_or (option_and_then (λ (v : Variable). v.type) (slice_get vs k)) int

abbrev pub slots_in : Ending → List Variable → (slots : List ℕ) → List VariableTree
slots_in e vs [] = []
slots_in e vs (k ∷ ks) = record { type = type_now vs k; is_object = is_object_then e k } ∷ slots_in e vs ks

-- the slots that are not hidden
abbrev pub shown : (hides : Bool) → (slots : List ℕ) → List ℕ
shown false ks = ks
shown true [] = []
shown true (k ∷ []) = []
shown true (k ∷ j ∷ ks) = k ∷ shown true (j ∷ ks)

-- what an expression may name in this state
abbrev pub scope_in : Ending → State → Scope
scope_in e s = record { structs = s.structs; functions = e.functions; globals = e.globals; variables = e.variables; slots = slots_in e s.variables (shown e.hides s.slots) }

-- whether the name of the variable in a slot was used
abbrev is_named_at : State → (slot : ℕ) → Bool
is_named_at s slot = is_named (slice_get s.variables (variable_in s.slots slot))

-- ---- steps

-- a variable keeps its type, its address stays taken, and its name used
abbrev pub AreSame : List Variable → List Variable → Type 0
AreSame [] [] = Unit {0}
AreSame (v ∷ vs) (w ∷ ws) = (w.type ≡ v.type) × (v.is_taken ≡ true → w.is_taken ≡ true) × (w.is_named ≡ false → v.is_named ≡ false) × AreSame vs ws
AreSame vs ws = ⊥

-- An expression leads from one state to another.
pub record Step (s t : State) : Type 0 where
  pub broken : t.broken ≡ None → s.broken ≡ None
  pub scopes : t.scopes ≡ s.scopes
  pub slots : t.slots ≡ s.slots
  pub structs : t.structs ≡ s.structs
  pub members : t.members ≡ s.members
  pub declared : t.declared ≡ s.declared
  pub defined : t.defined ≡ s.defined
  pub functions : t.functions ≡ s.functions
  pub globals : (k : ℕ) (g : Global) → slice_get s.globals k ≡ Some g → slice_get t.globals k ≡ Some g
  pub variables : AreSame s.variables t.variables

pub same_self : (vs : List Variable) → AreSame vs vs
same_self [] = tt
same_self (v ∷ vs) = (refl, λ h. h, λ h. h, same_self vs)

same_then : (us vs ws : List Variable) → AreSame us vs → AreSame vs ws → AreSame us ws
same_then [] [] [] a b = tt
same_then [] [] (w ∷ ws) a b = absurd b
same_then [] (v ∷ vs) ws a b = absurd a
same_then (u ∷ us) [] ws a b = absurd a
same_then (u ∷ us) (v ∷ vs) [] a b = absurd b
same_then (u ∷ us) (v ∷ vs) (w ∷ ws) a b = (b.0 ∙ a.0, λ h. b.1 (a.1 h), λ h. a.2 (b.2 h), same_then us vs ws a.3 b.3)

pub stay : (s : State) → Step s s
stay s = record {
  broken = λ h. h;
  scopes = refl;
  slots = refl;
  structs = refl;
  members = refl;
  declared = refl;
  defined = refl;
  functions = refl;
  globals = λ k g h. h;
  variables = same_self s.variables;
}

pub step_then : (r s t : State) → Step r s → Step s t → Step r t
step_then r s t a b = record {
  broken = λ h. a.broken (b.broken h);
  scopes = b.scopes ∙ a.scopes;
  slots = b.slots ∙ a.slots;
  structs = b.structs ∙ a.structs;
  members = b.members ∙ a.members;
  declared = b.declared ∙ a.declared;
  defined = b.defined ∙ a.defined;
  functions = b.functions ∙ a.functions;
  globals = λ k g h. b.globals k g (a.globals k g h);
  variables = same_then r.variables s.variables t.variables a.variables b.variables;
}

-- ---- what the end says of a state

pub record VariableFitsNow (e : Ending) (k : ℕ) (v : Variable) : Type 0 where
  pub taken : v.is_taken ≡ true → is_object_then e k ≡ true
  pub shape : (t : TypeTree) → v.type ≡ Some t → is_scalar t ≡ false → is_object_then e k ≡ true

pub record Fits (e : Ending) (s : State) : Type 0 where
  pub clean : s.broken ≡ None
  pub globals : (k : ℕ) (g : Global) (t : TypeTree) → slice_get s.globals k ≡ Some g → g.type ≡ Some t → slice_get e.globals k ≡ Some t
  pub variables : (k : ℕ) (v : Variable) → slice_get s.variables k ≡ Some v → VariableFitsNow e k v
  pub unnamed : e.hides ≡ true → (slot : ℕ) → suc slot ≡ length s.slots → is_named_at s slot ≡ false

pub record SameAt (v : Variable) (ws : List Variable) (k : ℕ) : Type 0 where
  pub later : Variable
  pub there : slice_get ws k ≡ Some later
  pub type : later.type ≡ v.type
  pub taken : v.is_taken ≡ true → later.is_taken ≡ true

pub same_at : (vs ws : List Variable) (k : ℕ) (v : Variable) → AreSame vs ws → slice_get vs k ≡ Some v → SameAt v ws k
same_at [] ws k v a e = absurd (cc)
same_at (u ∷ vs) [] k v a e = absurd a
same_at (u ∷ vs) (w ∷ ws) zero v a e = let same : u ≡ v = cc in subst (λ v. SameAt v (w ∷ ws) zero) same (record { later = w; there = refl; type = a.0; taken = a.1 })
same_at (u ∷ vs) (w ∷ ws) (suc k) v a e = let r = same_at vs ws k v a.3 e in record { later = r.later; there = r.there; type = r.type; taken = r.taken }

same_named : (vs ws : List Variable) (k : ℕ) → AreSame vs ws → is_named (slice_get ws k) ≡ false → is_named (slice_get vs k) ≡ false
same_named [] ws k a h = refl
same_named (v ∷ vs) [] k a h = absurd a
same_named (v ∷ vs) (w ∷ ws) zero a h = a.2 h
same_named (v ∷ vs) (w ∷ ws) (suc k) a h = same_named vs ws k a.3 h

-- what fits at the end of a step fits at its start
pub fits_back : (e : Ending) (s t : State) → Step s t → Fits e t → Fits e s
fits_back e s t a h = record {
  clean = a.broken h.clean;
  globals = λ k g u there type. h.globals k g u (a.globals k g there) type;
  variables = λ k v there. by_later k v (same_at s.variables t.variables k v a.variables there);
  unnamed = λ q slot last.
      same_named s.variables t.variables (variable_in s.slots slot) a.variables
      (sym (ap (λ ks. is_named (slice_get t.variables (variable_in ks slot))) a.slots) ∙ h.unnamed q slot (last ∙ sym (ap length a.slots)));
}
  where
    by_later : (k : ℕ) (v : Variable) → SameAt v t.variables k → VariableFitsNow e k v
    by_later k v r = let f = h.variables k r.later r.there in record { taken = λ q. f.taken (r.taken q); shape = λ u q n. f.shape u (r.type ∙ q) n }

-- ---- names

-- a type for each
abbrev pub AllTypes : List MaybeType → List TypeTree → Type 0
AllTypes [] [] = Unit {0}
AllTypes (t ∷ ts) (u ∷ us) = (t ≡ Some u) × AllTypes ts us
AllTypes ts us = ⊥

abbrev pub declared_as : TypeTree → List MaybeType → Declared
declared_as t ts = record { result = Some t; params = ts; is_defined = true }

-- a function that the file declares has the types of its definition
pub record FunctionFits (e : Ending) (defined : List Name) (declared : List Declared) (name : Name) (k : ℕ) : Type 0 where
  pub fits : (n : ℕ) (f : Declared) (t : TypeTree) (ts : List TypeTree) → number_of defined name ≡ Some n → slice_get declared k ≡ Some f → f.result ≡ Some t → AllTypes f.params ts →
      slice_get e.functions n ≡ Some (record { result = t; params = ts })

-- what names mean is there: a variable has a slot, and a function its definition
pub record NamesFit (e : Ending) (s : State) : Type 0 where
  pub slots : (name : Name) (slot : ℕ) (is_const : Bool) → meaning s.scopes name ≡ Some (means.Variable slot is_const) → slot < length s.slots
  pub variables : (slot k : ℕ) → slice_get s.slots slot ≡ Some k → k < length s.variables
  pub functions : (name : Name) (k : ℕ) → meaning s.scopes name ≡ Some (means.Function (suc (suc (suc k)))) → FunctionFits e s.defined s.declared name (suc (suc (suc k)))
  pub put : slice_get s.declared 0 ≡ Some (declared_as int (Some int ∷ []))
  pub get : slice_get s.declared 1 ≡ Some (declared_as int [])
  pub exit : slice_get s.declared 2 ≡ Some (declared_as void_type (Some int ∷ []))

pub same_length : (vs ws : List Variable) → AreSame vs ws → length ws ≡ length vs
same_length [] [] a = refl
same_length [] (w ∷ ws) a = absurd a
same_length (v ∷ vs) [] a = absurd a
same_length (v ∷ vs) (w ∷ ws) a = ap suc (same_length vs ws a.3)

pub names_step : (e : Ending) (s t : State) → Step s t → NamesFit e s → NamesFit e t
names_step e s t a h = record {
  slots = λ name k b m. subst (λ (ks : List ℕ). k < length ks) (sym a.slots) (h.slots name k b (sym (ap (λ q. meaning q name) a.scopes) ∙ m));
  variables = λ slot k m. subst (λ n. k < n) (sym (same_length s.variables t.variables a.variables)) (h.variables slot k (sym (ap (λ ks. slice_get ks slot) a.slots) ∙ m));
  functions = λ name k m.
      subst (λ ds. FunctionFits e ds t.declared name (suc (suc (suc k)))) (sym a.defined)
      (subst (λ ds. FunctionFits e s.defined ds name (suc (suc (suc k)))) (sym a.declared) (h.functions name k (sym (ap (λ q. meaning q name) a.scopes) ∙ m)));
  put = ap (λ ds. slice_get ds 0) a.declared ∙ h.put;
  get = ap (λ ds. slice_get ds 1) a.declared ∙ h.get;
  exit = ap (λ ds. slice_get ds 2) a.declared ∙ h.exit;
}

-- ---- a state in a scope

same_type_now : (vs ws : List Variable) (k : ℕ) → AreSame vs ws → type_now ws k ≡ type_now vs k
same_type_now [] [] k a = refl
same_type_now [] (w ∷ ws) k a = absurd a
same_type_now (v ∷ vs) [] k a = absurd a
same_type_now (v ∷ vs) (w ∷ ws) zero a = ap (λ t. unwrap_or t int) a.0
same_type_now (v ∷ vs) (w ∷ ws) (suc k) a = same_type_now vs ws k a.3

same_slots : (e : Ending) (vs ws : List Variable) (ks : List ℕ) → AreSame vs ws → slots_in e ws ks ≡ slots_in e vs ks
same_slots e vs ws [] a = refl
same_slots e vs ws (k ∷ ks) a = λ i. record { type = same_type_now vs ws k a i; is_object = is_object_then e k } ∷ same_slots e vs ws ks a i

same_scope : (e : Ending) (s t : State) → Step s t → scope_in e t ≡ scope_in e s
same_scope e s t a =
    λ i. record {
      structs = a.structs i;
      functions = e.functions;
      globals = e.globals;
      variables = e.variables;
      slots = (ap (λ ks. slots_in e t.variables (shown e.hides ks)) a.slots ∙ same_slots e s.variables t.variables (shown e.hides s.slots) a.variables) i;
    }

pub record At (e : Ending) (c : Scope) (s : State) : Type 0 where
  pub scope : scope_in e s ≡ c
  pub names : NamesFit e s

pub at_step : (e : Ending) (c : Scope) (s t : State) → Step s t → At e c s → At e c t
at_step e c s t a h = record { scope = same_scope e s t a ∙ h.scope; names = names_step e s t a h.names }

-- ---- variables in slots

pub shown_there : (b : Bool) (ks : List ℕ) (slot k : ℕ) → slice_get (shown b ks) slot ≡ Some k → slice_get ks slot ≡ Some k
shown_there false ks slot k h = h
shown_there true [] slot k h = h
shown_there true (i ∷ []) slot k h = absurd (cc)
shown_there true (i ∷ j ∷ ks) zero k h = h
shown_there true (i ∷ j ∷ ks) (suc slot) k h = shown_there true (j ∷ ks) slot k h

-- a slot that is not the last is not hidden
pub there_shown : (b : Bool) (ks : List ℕ) (slot k : ℕ) → (b ≡ true → suc slot ≡ length ks → ⊥) → slice_get ks slot ≡ Some k → slice_get (shown b ks) slot ≡ Some k
there_shown false ks slot k n h = h
there_shown true [] slot k n h = h
there_shown true (i ∷ []) zero k n h = absurd (n refl refl)
there_shown true (i ∷ []) (suc slot) k n h = absurd (cc)
there_shown true (i ∷ j ∷ ks) zero k n h = h
there_shown true (i ∷ j ∷ ks) (suc slot) k n h = there_shown true (j ∷ ks) slot k (λ q last. n q (ap suc last)) h

pub shown_append : (ks : List ℕ) (k : ℕ) → shown true (ks ++ k ∷ []) ≡ ks
shown_append [] k = refl
shown_append (i ∷ []) k = refl
shown_append (i ∷ j ∷ ks) k = ap (λ l. i ∷ l) (shown_append (j ∷ ks) k)

pub record SlotAt (e : Ending) (vs : List Variable) (ks : List ℕ) (slot : ℕ) (v : VariableTree) : Type 0 where
  pub variable : ℕ
  pub there : slice_get ks slot ≡ Some variable
  pub same : v ≡ record { type = type_now vs variable; is_object = is_object_then e variable }

slot_at : (e : Ending) (vs : List Variable) (ks : List ℕ) (slot : ℕ) (v : VariableTree) → slice_get (slots_in e vs ks) slot ≡ Some v → SlotAt e vs ks slot v
slot_at e vs [] slot v h = absurd (cc)
slot_at e vs (k ∷ ks) zero v h = let same : record { type = type_now vs k; is_object = is_object_then e k } ≡ v = cc in record { variable = k; there = refl; same = sym same }
slot_at e vs (k ∷ ks) (suc slot) v h = let r = slot_at e vs ks slot v h in record { variable = r.variable; there = r.there; same = r.same }

-- the variable in a slot that an expression may name
pub slot_in : (e : Ending) (s : State) (slot : ℕ) (v : VariableTree) → slice_get (scope_in e s).slots slot ≡ Some v → SlotAt e s.variables s.slots slot v
slot_in e s slot v h =
    let r = slot_at e s.variables (shown e.hides s.slots) slot v h in record { variable = r.variable; there = shown_there e.hides s.slots slot r.variable r.there; same = r.same }

pub slot_there : (e : Ending) (vs : List Variable) (ks : List ℕ) (slot k : ℕ) → slice_get ks slot ≡ Some k →
    slice_get (slots_in e vs ks) slot ≡ Some (record { type = type_now vs k; is_object = is_object_then e k })
slot_there e vs [] slot k h = absurd (cc)
slot_there e vs (j ∷ ks) zero k h = let same : j ≡ k = cc in ap (λ n. Some (record { type = type_now vs n; is_object = is_object_then e n })) same
slot_there e vs (j ∷ ks) (suc slot) k h = slot_there e vs ks slot k h

-- a variable that is no scalar is an object at the end
objects_now : (e : Ending) (s : State) → Fits e s → ObjectsFit (scope_in e s)
objects_now e s h slot v there scalar =
    let r = slot_in e s slot v there in
    ap (λ (w : VariableTree). w.is_object) r.same ∙ by_variable r.variable (slice_get s.variables r.variable) refl (sym (ap (λ (w : VariableTree). is_scalar w.type) r.same) ∙ scalar)
  where
    by_type : (k : ℕ) (v : Variable) (t : MaybeType) → v.type ≡ t → VariableFitsNow e k v → is_scalar (unwrap_or t int) ≡ false → is_object_then e k ≡ true
    by_type k v None q f n = absurd (cc)
    by_type k v (Some t) q f n = f.shape t q n

    by_variable : (k : ℕ) (x : Option Variable) → slice_get s.variables k ≡ x → is_scalar (unwrap_or (option_and_then (λ (v : Variable). v.type) x) int) ≡ false → is_object_then e k ≡ true
    by_variable k None q n = absurd (cc)
    by_variable k (Some v) q n = by_type k v v.type refl (h.variables k v q) n

pub objects_fit : (e : Ending) (c : Scope) (s : State) → At e c s → Fits e s → ObjectsFit c
objects_fit e c s at h = subst ObjectsFit at.scope (objects_now e s h)

pub structs_at : (e : Ending) (c : Scope) (s : State) → At e c s → s.structs ≡ c.structs
structs_at e c s at = ap (λ (c : Scope). c.structs) at.scope
