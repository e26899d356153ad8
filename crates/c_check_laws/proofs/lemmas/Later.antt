-- States of the checker along statements: variables come, and names come into scope.
use Rattle.std.proofs.Common.{◌≡◌, ◌≤◌, ◌<◌, ℕ, zero, suc, true, false, List, [], ◌∷◌, ◌++◌, length, refl, sym, ap, ◌∙◌, subst, arith, append_assoc, append-nil}
use Rattle.std.specs.Prelude.{slice_get, None, Some, unwrap_or}
use Rattle.std.proofs.lemmas.Bool.{false≢true}
use Rattle.c_typed.specs.WellTyped.{Scope, int}
use Rattle.c_check_scope.specs.Scopes.{Name, Scopes, meaning, with_declaration, outer}
use Rattle.c_check_def.specs.declared.meaning.Meaning.{Meaning}
use Rattle.c_check_def.specs.State.{MaybeType, Global, Variable, State, add_variable}
use Rattle.c_check_laws.proofs.lemmas.States.{Ending, is_object_then, type_now, slots_in, shown, shown_there, scope_in, AreSame, same_self, Step, stay, VariableFitsNow, Fits, FunctionFits, NamesFit, At}

-- the same variables, and more
abbrev pub AreMore : List Variable → List Variable → Type 0
AreMore [] ws = Unit {0}
AreMore (v ∷ vs) [] = ⊥
AreMore (v ∷ vs) (w ∷ ws) = (w.type ≡ v.type) × (v.is_taken ≡ true → w.is_taken ≡ true) × AreMore vs ws

-- there is a scope
abbrev pub HasScope : State → Type 0
HasScope s = outer ([] ∷ s.scopes) ≡ s.scopes

-- one state later than another in a function
pub record Later (s t : State) : Type 0 where
  pub broken : t.broken ≡ None → s.broken ≡ None
  pub outer : outer t.scopes ≡ outer s.scopes
  pub scope : HasScope s → HasScope t
  pub slots : (more : List ℕ) × (t.slots ≡ s.slots ++ more)
  pub structs : t.structs ≡ s.structs
  pub members : t.members ≡ s.members
  pub declared : t.declared ≡ s.declared
  pub defined : t.defined ≡ s.defined
  pub functions : t.functions ≡ s.functions
  pub globals : (k : ℕ) (g : Global) → slice_get s.globals k ≡ Some g → slice_get t.globals k ≡ Some g
  pub variables : AreMore s.variables t.variables

-- a later state in the same scope
pub record Still (s t : State) : Type 0 where
  pub later : Later s t
  pub scopes : t.scopes ≡ s.scopes
  pub slots : t.slots ≡ s.slots

same_more : (vs ws : List Variable) → AreSame vs ws → AreMore vs ws
same_more [] ws a = tt
same_more (v ∷ vs) [] a = absurd a
same_more (v ∷ vs) (w ∷ ws) a = (a.0, a.1, same_more vs ws a.3)

more_then : (us vs ws : List Variable) → AreMore us vs → AreMore vs ws → AreMore us ws
more_then [] vs ws a b = tt
more_then (u ∷ us) [] ws a b = absurd a
more_then (u ∷ us) (v ∷ vs) [] a b = absurd b
more_then (u ∷ us) (v ∷ vs) (w ∷ ws) a b = (b.0 ∙ a.0, λ h. b.1 (a.1 h), more_then us vs ws a.2 b.2)

more_append : (vs ws : List Variable) → AreMore vs (vs ++ ws)
more_append [] ws = tt
more_append (v ∷ vs) ws = (refl, λ h. h, more_append vs ws)

pub later_then : (r s t : State) → Later r s → Later s t → Later r t
later_then r s t a b = record {
  broken = λ h. a.broken (b.broken h);
  outer = b.outer ∙ a.outer;
  scope = λ h. b.scope (a.scope h);
  slots = (a.slots.0 ++ b.slots.0, b.slots.1 ∙ ap (λ ks. ks ++ b.slots.0) a.slots.1 ∙ append_assoc r.slots a.slots.0 b.slots.0);
  structs = b.structs ∙ a.structs;
  members = b.members ∙ a.members;
  declared = b.declared ∙ a.declared;
  defined = b.defined ∙ a.defined;
  functions = b.functions ∙ a.functions;
  globals = λ k g h. b.globals k g (a.globals k g h);
  variables = more_then r.variables s.variables t.variables a.variables b.variables;
}

pub still_then : (r s t : State) → Still r s → Still s t → Still r t
still_then r s t a b = record { later = later_then r s t a.later b.later; scopes = b.scopes ∙ a.scopes; slots = b.slots ∙ a.slots }

pub still_has_scope : (s t : State) → t.scopes ≡ s.scopes → HasScope s → HasScope t
still_has_scope s t e h = subst (λ sc. outer ([] ∷ sc) ≡ sc) (sym e) h

pub step_still : (s t : State) → Step s t → Still s t
step_still s t a = record {
  later = record {
    broken = a.broken;
    outer = ap outer a.scopes;
    scope = λ h. still_has_scope s t a.scopes h;
    slots = ([], a.slots ∙ sym (append-nil s.slots));
    structs = a.structs;
    members = a.members;
    declared = a.declared;
    defined = a.defined;
    functions = a.functions;
    globals = a.globals;
    variables = same_more s.variables t.variables a.variables;
  };
  scopes = a.scopes;
  slots = a.slots;
}

pub stay_still : (s : State) → Still s s
stay_still s = step_still s s (stay s)

-- ---- what the end says

pub record MoreAt (v : Variable) (ws : List Variable) (k : ℕ) : Type 0 where
  pub later : Variable
  pub there : slice_get ws k ≡ Some later
  pub type : later.type ≡ v.type
  pub taken : v.is_taken ≡ true → later.is_taken ≡ true

pub more_at : (vs ws : List Variable) (k : ℕ) (v : Variable) → AreMore vs ws → slice_get vs k ≡ Some v → MoreAt v ws k
more_at [] ws k v a e = absurd (cc)
more_at (u ∷ vs) [] k v a e = absurd a
more_at (u ∷ vs) (w ∷ ws) zero v a e = let same : u ≡ v = cc in subst (λ v. MoreAt v (w ∷ ws) zero) same (record { later = w; there = refl; type = a.0; taken = a.1 })
more_at (u ∷ vs) (w ∷ ws) (suc k) v a e = let r = more_at vs ws k v a.2 e in record { later = r.later; there = r.there; type = r.type; taken = r.taken }

-- what fits later fits before
pub fits_before : (e : Ending) (s t : State) → e.hides ≡ false → Later s t → Fits e t → Fits e s
fits_before e s t shows a h = record {
  clean = a.broken h.clean;
  globals = λ k g u there type. h.globals k g u (a.globals k g there) type;
  variables = λ k v there. by_later k v (more_at s.variables t.variables k v a.variables there);
  unnamed = λ q slot last. absurd (false≢true (sym shows ∙ q));
}
  where
    by_later : (k : ℕ) (v : Variable) → MoreAt v t.variables k → VariableFitsNow e k v
    by_later k v r = let f = h.variables k r.later r.there in record { taken = λ q. f.taken (r.taken q); shape = λ u q n. f.shape u (r.type ∙ q) n }

-- ---- names and scopes

pub more_length : (vs ws : List Variable) → AreMore vs ws → length vs ≤ length ws
more_length [] ws a = omega arith
more_length (v ∷ vs) [] a = absurd a
more_length (v ∷ vs) (w ∷ ws) a = let n = more_length vs ws a.2 in omega (arith, n)

names_still : (e : Ending) (s t : State) → Still s t → NamesFit e s → NamesFit e t
names_still e s t a h =
    let l = a.later in
    record {
      slots = λ name k b m. subst (λ (ks : List ℕ). k < length ks) (sym a.slots) (h.slots name k b (sym (ap (λ q. meaning q name) a.scopes) ∙ m));
      variables = λ slot k m.
          let n = h.variables slot k (sym (ap (λ ks. slice_get ks slot) a.slots) ∙ m) in let o = more_length s.variables t.variables l.variables in omega (arith, n, o);
      functions = λ name k m.
          subst (λ ds. FunctionFits e ds t.declared name (suc (suc (suc k)))) (sym l.defined)
          (subst (λ ds. FunctionFits e s.defined ds name (suc (suc (suc k)))) (sym l.declared) (h.functions name k (sym (ap (λ q. meaning q name) a.scopes) ∙ m)));
      put = ap (λ ds. slice_get ds 0) l.declared ∙ h.put;
      get = ap (λ ds. slice_get ds 1) l.declared ∙ h.get;
      exit = ap (λ ds. slice_get ds 2) l.declared ∙ h.exit;
    }

more_type_now : (vs ws : List Variable) (k : ℕ) → AreMore vs ws → k < length vs → type_now ws k ≡ type_now vs k
more_type_now [] ws k a h = absurd (omega (arith, h))
more_type_now (v ∷ vs) [] k a h = absurd a
more_type_now (v ∷ vs) (w ∷ ws) zero a h = ap (λ t. unwrap_or t int) a.0
more_type_now (v ∷ vs) (w ∷ ws) (suc k) a h = more_type_now vs ws k a.2 (omega (arith, h))

-- slots of variables that were there name the same
pub more_slots : (e : Ending) (vs ws : List Variable) (ks : List ℕ) → AreMore vs ws → ((slot k : ℕ) → slice_get ks slot ≡ Some k → k < length vs) → slots_in e ws ks ≡ slots_in e vs ks
more_slots e vs ws [] a h = refl
more_slots e vs ws (k ∷ ks) a h =
    λ i. record { type = more_type_now vs ws k a (h 0 k refl) i; is_object = is_object_then e k } ∷ more_slots e vs ws ks a (λ slot j q. h (suc slot) j q) i

pub at_still : (e : Ending) (c : Scope) (s t : State) → Still s t → At e c s → At e c t
at_still e c s t a h =
    let l = a.later in
    let same : scope_in e t ≡ scope_in e s =
    λ i. record {
      structs = l.structs i;
      functions = e.functions;
      globals = e.globals;
      variables = e.variables;
      slots = (ap (λ ks. slots_in e t.variables (shown e.hides ks)) a.slots
          ∙ more_slots e s.variables t.variables (shown e.hides s.slots) l.variables (λ slot k q. h.names.variables slot k (shown_there e.hides s.slots slot k q))) i;
    } in
    record { scope = same ∙ h.scope; names = names_still e s t a h.names }

-- ---- a scope of its own

declared_scope : (sc : Scopes Meaning) (name : Name) (m : Meaning) → outer (with_declaration sc name m) ≡ outer sc
declared_scope [] name m = refl
declared_scope (x ∷ []) name m = refl
declared_scope (x ∷ y ∷ rest) name m = refl

-- the state in a new scope
abbrev pub entered : State → State
entered s = record s { scopes = [] ∷ s.scopes }

entered_has_scope : (s : State) → HasScope (entered s)
entered_has_scope s = refl

-- the state after a scope that began in this one
abbrev pub left : State → State → State
left s t = record t { scopes = outer t.scopes; slots = s.slots }

pub within_still : (s t : State) → HasScope s → Later (entered s) t → Still s (left s t)
within_still s t h l = record {
  later = record {
    broken = l.broken;
    outer = ap outer (l.outer ∙ h);
    scope = λ g. still_has_scope s (left s t) (l.outer ∙ h) g;
    slots = ([], sym (append-nil s.slots));
    structs = l.structs;
    members = l.members;
    declared = l.declared;
    defined = l.defined;
    functions = l.functions;
    globals = l.globals;
    variables = l.variables;
  };
  scopes = l.outer ∙ h;
  slots = refl;
}

names_entered : (e : Ending) (s : State) → NamesFit e s → NamesFit e (entered s)
names_entered e s h = record { slots = h.slots; variables = h.variables; functions = h.functions; put = h.put; get = h.get; exit = h.exit }

pub at_entered : (e : Ending) (c : Scope) (s : State) → At e c s → At e c (entered s)
at_entered e c s h = record { scope = h.scope; names = names_entered e s h.names }

-- ---- declarations

pub add_variable_later : (t : MaybeType) (s : State) → Later s (add_variable t s).1
add_variable_later t s = record {
  broken = λ h. h;
  outer = refl;
  scope = λ h. h;
  slots = (length s.variables ∷ [], refl);
  structs = refl;
  members = refl;
  declared = refl;
  defined = refl;
  functions = refl;
  globals = λ k g h. h;
  variables = more_append s.variables _;
}

some_scope : (sc : Scopes Meaning) (name : Name) (m : Meaning) → outer ([] ∷ with_declaration sc name m) ≡ with_declaration sc name m
some_scope [] name m = refl
some_scope (x ∷ rest) name m = refl

pub declare_after : (name : Name) (m : Meaning) (s : State) → Later s (record s { scopes = with_declaration s.scopes name m })
declare_after name m s = record {
  broken = λ h. h;
  outer = declared_scope s.scopes name m;
  scope = λ h. some_scope s.scopes name m;
  slots = ([], sym (append-nil s.slots));
  structs = refl;
  members = refl;
  declared = refl;
  defined = refl;
  functions = refl;
  globals = λ k g h. h;
  variables = same_more s.variables s.variables (same_self s.variables);
}
