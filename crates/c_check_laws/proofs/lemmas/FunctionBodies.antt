-- A function that is defined is typed.
use Rattle.std.proofs.Common.{◌≡◌, ◌≤◌, ◌<◌, ◌⊎◌, inl, inr, ℕ, ◌+◌, zero, suc, Bool, true, false, List, [], ◌∷◌, ◌++◌, length, map, take, drop, refl, sym, ap, ◌∙◌, subst, arith, append_assoc, append-nil}
use Rattle.std.specs.Prelude.{slice_get, not, ◌||◌, Option, None, Some, is_some, unwrap_or}
use Rattle.c_type.specs.Trees.{TypeTree, void_type, scalar_type, pointer_to}
use Rattle.c_type.specs.Layout.{Definitions, IsLaidOut}
use Rattle.c_type.specs.WellDefined.{AreDefinitions}
use Rattle.c_typed.specs.Typed.{FunctionTree, VariableTree, ProgramTree}
use Rattle.c_typed.specs.WellTyped.{IsScalar, VariableFits, VariablesFit, AreScalar, signature_of}
use Rattle.c_typed.specs.Objects.{object_by}
use Rattle.c_check_def.specs.Types.{is_scalar}
use Rattle.c_check_scope.specs.Scopes.{Name, meaning, with_declaration}
use Rattle.c_check_def.specs.declared.meaning.Meaning.{Meaning}
use Rattle.c_check_def.specs.declared.meaning.Meaning.TheVariants as means
use Rattle.c_check_def.specs.declared.refusal_kind.RefusalKind.TheVariants.{BadType}
use Rattle.c_check_def.specs.State.{Variable, State, breaks_if}
use Rattle.c_check_def.specs.Externals.{Param, bind_if, bind_params, name_params, variable_tree}
use Rattle.c_check_laws.proofs.lemmas.States.{Ending, is_object_then, type_now, slots_in, Step, stay, step_then, FunctionFits, NamesFit, AllTypes}
use Rattle.c_check_laws.proofs.lemmas.Steps.{breaks_if_steps}
use Rattle.c_check_laws.proofs.lemmas.Later.{AreMore, Later, later_then, stay_still, declare_after, entered}
use Rattle.c_check_laws.proofs.lemmas.Locals.{declared_meaning}
use Rattle.c_check_laws.proofs.lemmas.Quiet.{Quiet, breaks_if_quiet}
use Rattle.c_check_laws.proofs.lemmas.Params.{ParamsAre}
use Rattle.c_type.specs.declared.scalar.Scalar.TheVariants as scalar
use Rattle.c_check_def.specs.Check.{program_of}
use Rattle.c_check_laws.proofs.Values.{scalar_is}
use Rattle.c_check_laws.proofs.lemmas.There.{FunctionTyped}
use Rattle.c_check_laws.proofs.lemmas.Goes.{Named, AreLaid}
use Rattle.c_check_laws.proofs.lemmas.File.{Onward}
use Rattle.c_check_laws.proofs.lemmas.DeclaredFunctions.{Core}

-- ---- names and slots of parameters

pub name_params_steps : (ps : List Param) (s : State) → Step s (name_params ps s).1
name_params_steps [] s = stay s
name_params_steps (p ∷ ps) s =
    let wrong = not (is_some p.name) in
    let b = (breaks_if wrong BadType p.offset s).1 in
    step_then s b _ (breaks_if_steps wrong BadType p.offset s) (name_params_steps ps b)

pub name_params_quiet : (ps : List Param) → Quiet (name_params ps)
name_params_quiet [] s = refl
name_params_quiet (p ∷ ps) s =
    let wrong = not (is_some p.name) in
    let b = (breaks_if wrong BadType p.offset s).1 in
    name_params_quiet ps b ∙ breaks_if_quiet wrong BadType p.offset s

-- so many numbers from one on
abbrev pub range : (k n : ℕ) → List ℕ
range k zero = []
range k (suc n) = k ∷ range (suc k) n

-- what a name means after parameters got their slots
pub record BoundName (k n : ℕ) (before : Option Meaning) (m : Meaning) : Type 0 where
  pub cases : ((slot : ℕ) × ((b : Bool) × ((m ≡ means.Variable slot b) × (slot < k + n)))) ⊎ (before ≡ Some m)

-- parameters of these numbers are bound
pub record BoundOut (k n : ℕ) (s t : State) : Type 0 where
  pub later : Later s t
  pub slots : t.slots ≡ s.slots ++ range k n
  pub names : (name : Name) (m : Meaning) → meaning t.scopes name ≡ Some m → BoundName k n (meaning s.scopes name) m
  pub variables : t.variables ≡ s.variables
  pub globals : t.globals ≡ s.globals
  pub broken : t.broken ≡ s.broken

-- one slot more
slot_later : (slot : ℕ) (s : State) → Later s (record s { slots = s.slots ++ slot ∷ [] })
slot_later slot s =
    let same = (stay_still s).later in
    record {
      broken = λ q. q;
      outer = refl;
      scope = λ q. q;
      slots = (slot ∷ [], refl);
      structs = refl;
      members = refl;
      declared = refl;
      defined = refl;
      functions = refl;
      globals = λ k g q. q;
      variables = same.variables;
    }

pub bind_out : (k : ℕ) (ps : List Param) (s : State) → BoundOut k (length ps) s (bind_params k ps s).1
bind_out k [] s = record { later = (stay_still s).later; slots = sym (append-nil s.slots); names = λ name m q. record { cases = inr q }; variables = refl; globals = refl; broken = refl }
bind_out k (p ∷ ps) s =
    let a = record s { slots = s.slots ++ k ∷ [] } in
    let m = means.Variable k p.is_const in
    let b = (bind_if p.name m a).1 in
    let one = by_name p.name a m in
    let rest = bind_out (suc k) ps b in
    let n = length ps in
    record {
      later = later_then s a _ (slot_later k s) (later_then a b _ one.0 rest.later);
      slots = rest.slots ∙ ap (λ ks. ks ++ range (suc k) n) one.1 ∙ append_assoc s.slots (k ∷ []) (range (suc k) n);
      names = λ name x q. by_rest name x (rest.names name x q) (λ h. one.2 name x h);
      variables = rest.variables ∙ one.3;
      globals = rest.globals ∙ one.4;
      broken = rest.broken ∙ one.5;
    }
  where
    by_name : (name : Option Name) (a : State) (m : Meaning) →
        Later a (bind_if name m a).1 × ((bind_if name m a).1.slots ≡ a.slots) ×
        ((asked : Name) (x : Meaning) → meaning (bind_if name m a).1.scopes asked ≡ Some x → (x ≡ m) ⊎ (meaning a.scopes asked ≡ Some x))
        × ((bind_if name m a).1.variables ≡ a.variables) × ((bind_if name m a).1.globals ≡ a.globals) × ((bind_if name m a).1.broken ≡ a.broken)
    by_name None a m = ((stay_still a).later, refl, λ asked x q. inr q, refl, refl, refl)
    by_name (Some name) a m = (declare_after name m a, refl, λ asked x q. meant asked x q (declared_meaning a.scopes name m asked), refl, refl, refl)
      where
        meant : (asked : Name) (x : Meaning) → meaning (with_declaration a.scopes name m) asked ≡ Some x →
            (meaning (with_declaration a.scopes name m) asked ≡ Some m) ⊎ (meaning (with_declaration a.scopes name m) asked ≡ meaning a.scopes asked) → (x ≡ m) ⊎ (meaning a.scopes asked ≡ Some x)
        meant asked x q (inl e) = inl (let both : Some x ≡ Some m = sym q ∙ e in cc)
        meant asked x q (inr e) = inr (sym e ∙ q)

    by_rest : (name : Name) (x : Meaning) → BoundName (suc k) (length ps) (meaning (bind_if p.name (means.Variable k p.is_const) (record s { slots = s.slots ++ k ∷ [] })).1.scopes name) x →
        (meaning (bind_if p.name (means.Variable k p.is_const) (record s { slots = s.slots ++ k ∷ [] })).1.scopes name ≡ Some x →
        (x ≡ means.Variable k p.is_const) ⊎ (meaning s.scopes name ≡ Some x)) →
        BoundName k (suc (length ps)) (meaning s.scopes name) x
    by_rest name x h one = by_cases h.cases one
      where
        by_one : (x ≡ means.Variable k p.is_const) ⊎ (meaning s.scopes name ≡ Some x) → BoundName k (suc (length ps)) (meaning s.scopes name) x
        by_one (inl e) = record { cases = inl (k, (p.is_const, (e, omega arith))) }
        by_one (inr e) = record { cases = inr e }

        by_cases : ((slot : ℕ) × ((b : Bool) × ((x ≡ means.Variable slot b) × (slot < suc k + length ps)))) ⊎
            (meaning (bind_if p.name (means.Variable k p.is_const) (record s { slots = s.slots ++ k ∷ [] })).1.scopes name ≡ Some x) →
            (meaning (bind_if p.name (means.Variable k p.is_const) (record s { slots = s.slots ++ k ∷ [] })).1.scopes name ≡ Some x →
            (x ≡ means.Variable k p.is_const) ⊎ (meaning s.scopes name ≡ Some x)) →
            BoundName k (suc (length ps)) (meaning s.scopes name) x
        by_cases (inl h) one = record { cases = inl (h.0, (h.1.0, (h.1.1.0, let b = h.1.1.1 in omega (arith, b)))) }
        by_cases (inr h) one = by_one (one h)

-- ---- the scope at the start of a body

range_at : (k n slot j : ℕ) → slice_get (range k n) slot ≡ Some j → (j ≡ k + slot) × (slot < n)
range_at k zero slot j h = absurd (cc)
range_at k (suc n) zero j h = let same : k ≡ j = cc in (sym same ∙ omega arith, omega arith)
range_at k (suc n) (suc slot) j h = let r = range_at (suc k) n slot j h in let e = r.0 in let b = r.1 in (omega (arith, e), omega (arith, b))

range_length : (k n : ℕ) → length (range k n) ≡ n
range_length k zero = refl
range_length k (suc n) = ap suc (range_length (suc k) n)

drop_at : {A : Type 0} → (xs : List A) (k : ℕ) (x : A) → slice_get xs k ≡ Some x → drop k xs ≡ x ∷ drop (suc k) xs
drop_at [] k x h = absurd (cc)
drop_at (y ∷ xs) zero x h = let same : y ≡ x = cc in ap (λ z. z ∷ xs) same
drop_at (y ∷ xs) (suc k) x h = drop_at xs k x h

pub slots_range : (e : Ending) (vs : List Variable) (k n : ℕ) → ((i : ℕ) → k ≤ i → i < k + n → (w : VariableTree) × (slice_get e.variables i ≡ Some w) × (type_now vs i ≡ w.type)) →
    slots_in e vs (range k n) ≡ take n (drop k e.variables)
slots_range e vs k zero h = refl
slots_range e vs k (suc n) h =
    let w = h k (omega arith) (omega arith) in
    let first : record { type = type_now vs k; is_object = is_object_then e k } ≡ w.0 = λ i. record { type = w.2 i; is_object = ap object_by w.1 i } in
    (λ i. first i ∷ slots_range e vs (suc k) n (λ j a b. h j (omega (arith, a)) (omega (arith, b))) i) ∙ sym (ap (take (suc n)) (drop_at e.variables k w.0 w.1))

-- ---- what the end of the file says

abbrev pub ending_of : ProgramTree → List VariableTree → Ending
ending_of p vs = record { functions = map signature_of p.functions; globals = map (λ g. g.type) p.globals; variables = vs; hides = false }

-- the functions and globals of the file at its end
pub record Ended (z : State) : Type 0 where
  pub clean : z.broken ≡ None
  pub structs : AreDefinitions z.structs
  pub functions : (vs : List VariableTree) (s : State) → Onward s z → (name : Name) (k : ℕ) → meaning s.scopes name ≡ Some (means.Function k) →
      FunctionFits (ending_of (program_of z) vs) s.defined s.declared name k
  pub few : (k : ℕ) (f : FunctionTree) → slice_get z.functions k ≡ Some f → f.params ≤ 8

-- ---- parameters at the end

scalar_laid : (defs : Definitions) (t : TypeTree) → IsScalar t → IsLaidOut defs t
scalar_laid defs (scalar_type scalar.Char) h = record { complete = refl; small = omega arith }
scalar_laid defs (scalar_type scalar.SignedChar) h = record { complete = refl; small = omega arith }
scalar_laid defs (scalar_type scalar.UnsignedChar) h = record { complete = refl; small = omega arith }
scalar_laid defs (scalar_type scalar.Short) h = record { complete = refl; small = omega arith }
scalar_laid defs (scalar_type scalar.UnsignedShort) h = record { complete = refl; small = omega arith }
scalar_laid defs (scalar_type scalar.Int) h = record { complete = refl; small = omega arith }
scalar_laid defs (scalar_type scalar.UnsignedInt) h = record { complete = refl; small = omega arith }
scalar_laid defs (pointer_to t) h = record { complete = refl; small = omega arith }
scalar_laid defs t h = absurd h

params_at : (ps : List Param) (vs : List Variable) (k : ℕ) (v : Variable) → ParamsAre ps vs → slice_get vs k ≡ Some v → (t : TypeTree) × (v.type ≡ Some t) × IsScalar t
params_at [] [] k v h e = absurd (cc)
params_at [] (w ∷ vs) k v h e = absurd h
params_at (p ∷ ps) [] k v h e = absurd h
params_at (p ∷ ps) (w ∷ vs) zero v h e = let same : w ≡ v = cc in (h.0.0, ap (λ (v : Variable). v.type) (sym same) ∙ h.0.2, h.0.3)
params_at (p ∷ ps) (w ∷ vs) (suc k) v h e = params_at ps vs k v h.1 e

pub params_length : (ps : List Param) (vs : List Variable) → ParamsAre ps vs → length vs ≡ length ps
params_length [] [] h = refl
params_length [] (v ∷ vs) h = absurd h
params_length (p ∷ ps) [] h = absurd h
params_length (p ∷ ps) (v ∷ vs) h = ap suc (params_length ps vs h.1)

pub tree_type : (v : Variable) (t : TypeTree) → v.type ≡ Some t → (variable_tree v).type ≡ t
tree_type v t e = ap (λ o. unwrap_or o void_type) e

pub params_scalar : (ps : List Param) (us vs : List Variable) → ParamsAre ps us → AreMore us vs → AreScalar (map (λ v. v.type) (take (length ps) (map variable_tree vs)))
params_scalar [] us vs h a = tt
params_scalar (p ∷ ps) [] vs h a = absurd h
params_scalar (p ∷ ps) (u ∷ us) [] h a = absurd a
params_scalar (p ∷ ps) (u ∷ us) (v ∷ vs) h a = (subst IsScalar (sym (tree_type v h.0.0 (a.0 ∙ h.0.2))) h.0.3, params_scalar ps us vs h.1 a.2)

-- the types of the parameters are those of its variables
pub params_types : (ps : List Param) (us vs : List Variable) → ParamsAre ps us → AreMore us vs → AllTypes (map (λ (p : Param). p.type) ps) (map (λ v. v.type) (take (length ps) (map variable_tree vs)))
params_types [] us vs h a = tt
params_types (p ∷ ps) [] vs h a = absurd h
params_types (p ∷ ps) (u ∷ us) [] h a = absurd a
params_types (p ∷ ps) (u ∷ us) (v ∷ vs) h a = (h.0.1 ∙ ap Some (sym (tree_type v h.0.0 (a.0 ∙ h.0.2))), params_types ps us vs h.1 a.2)

pub map_length : {A B : Type 0} → (f : A → B) (xs : List A) → length (map f xs) ≡ length xs
map_length f [] = refl
map_length f (x ∷ xs) = ap suc (map_length f xs)

fits_one : (defs : Definitions) (v : Variable) (t : TypeTree) → v.type ≡ Some t → IsLaidOut defs t → VariableFits defs (variable_tree v)
fits_one defs v t e h = (subst (IsLaidOut defs) (sym (tree_type v t e)) h, by_scalar (is_scalar (unwrap_or v.type void_type)) refl)
  where
    or_right : (a b : Bool) → b ≡ true → (a || b) ≡ true
    or_right true b e = refl
    or_right false b e = e

    by_scalar : (b : Bool) → is_scalar (unwrap_or v.type void_type) ≡ b → ((variable_tree v).is_object ≡ true) ⊎ IsScalar (variable_tree v).type
    by_scalar true q = inr (scalar_is (unwrap_or v.type void_type) q)
    by_scalar false q = inl (or_right v.is_taken (not (is_scalar (unwrap_or v.type void_type))) (ap not q))

pub all_fit : (defs : Definitions) (vs : List Variable) → ((k : ℕ) (v : Variable) → slice_get vs k ≡ Some v → (t : TypeTree) × (v.type ≡ Some t) × IsLaidOut defs t) →
    VariablesFit defs (map variable_tree vs)
all_fit defs [] h = tt
all_fit defs (v ∷ vs) h = let t = h 0 v refl in (fits_one defs v t.0 t.1 t.2, all_fit defs vs (λ k w q. h (suc k) w q))

-- ---- names at the start of the body

-- what a body begins with: a file with the parameters' variables
pub record Entry (ps : List Param) (n t : State) : Type 0 where
  pub core : Core n
  pub params : ParamsAre ps n.variables
  pub bound : BoundOut 0 (length ps) (entered n) t

pub entry_slots : (ps : List Param) (n t : State) → Entry ps n t → t.slots ≡ range 0 (length ps)
entry_slots ps n t h = h.bound.slots ∙ ap (λ ks. ks ++ range 0 (length ps)) h.core.slots

entry_slot : (ps : List Param) (n t : State) → Entry ps n t → (name : Name) (slot : ℕ) (b : Bool) → meaning t.scopes name ≡ Some (means.Variable slot b) → slot < length t.slots
entry_slot ps n t h name slot b m = by_cases (h.bound.names name (means.Variable slot b) m).cases
  where
    by_cases : ((x : ℕ) × ((c : Bool) × ((means.Variable slot b ≡ means.Variable x c) × (x < 0 + length ps)))) ⊎ (meaning n.scopes name ≡ Some (means.Variable slot b)) → slot < length t.slots
    by_cases (inl a) =
        let same : slot ≡ a.0 = let e = a.1.1.0 in cc in
        let len = ap length (entry_slots ps n t h) ∙ range_length 0 (length ps) in
        let below = a.1.1.1 in
        omega (arith, same, len, below)
    by_cases (inr a) = absurd (h.core.no_variables name slot b a)

entry_variable : (ps : List Param) (n t : State) → Entry ps n t → (slot k : ℕ) → slice_get t.slots slot ≡ Some k → k < length t.variables
entry_variable ps n t h slot k m =
    let r = range_at 0 (length ps) slot k (ap (λ ks. slice_get ks slot) (sym (entry_slots ps n t h)) ∙ m) in
    let e = r.0 in
    let b = r.1 in
    let len = ap length h.bound.variables ∙ params_length ps n.variables h.params in
    omega (arith, e, b, len)

-- a global or a function is that of the file
entry_global : (ps : List Param) (n t : State) → Entry ps n t → (name : Name) (k : ℕ) (b : Bool) → meaning t.scopes name ≡ Some (means.Global k b) → meaning n.scopes name ≡ Some (means.Global k b)
entry_global ps n t h name k b m = by_cases (h.bound.names name (means.Global k b) m).cases
  where
    by_cases : ((x : ℕ) × ((c : Bool) × ((means.Global k b ≡ means.Variable x c) × (x < 0 + length ps)))) ⊎ (meaning n.scopes name ≡ Some (means.Global k b)) →
        meaning n.scopes name ≡ Some (means.Global k b)
    by_cases (inl a) = absurd (let e = a.1.1.0 in cc)
    by_cases (inr a) = a

entry_function : (ps : List Param) (n t : State) → Entry ps n t → (name : Name) (k : ℕ) → meaning t.scopes name ≡ Some (means.Function k) → meaning n.scopes name ≡ Some (means.Function k)
entry_function ps n t h name k m = by_cases (h.bound.names name (means.Function k) m).cases
  where
    by_cases : ((x : ℕ) × ((c : Bool) × ((means.Function k ≡ means.Variable x c) × (x < 0 + length ps)))) ⊎ (meaning n.scopes name ≡ Some (means.Function k)) →
        meaning n.scopes name ≡ Some (means.Function k)
    by_cases (inl a) = absurd (let e = a.1.1.0 in cc)
    by_cases (inr a) = a

pub entry_param : (ps : List Param) (n t : State) → Entry ps n t → (k : ℕ) (v : Variable) → slice_get t.variables k ≡ Some v → (u : TypeTree) × (v.type ≡ Some u) × IsScalar u
entry_param ps n t h k v q = params_at ps n.variables k v h.params (ap (λ vs. slice_get vs k) (sym h.bound.variables) ∙ q)

pub entry_named : (ps : List Param) (n t : State) → Entry ps n t → Named t
entry_named ps n t h = record {
  there = λ k v q. let u = entry_param ps n t h k v q in (u.0, u.1);
  slots = entry_slot ps n t h;
  variables = entry_variable ps n t h;
  globals = λ name k b m.
      let g = h.core.globals_named name k b (entry_global ps n t h name k b m) in
      record { declared = g.declared; there = ap (λ gs. slice_get gs k) h.bound.globals ∙ g.there; type = g.type; has = g.has };
  functions = λ name k m. subst (λ ds. FunctionTyped ds k) (sym h.bound.later.declared) (h.core.functions_named name k (entry_function ps n t h name k m));
}

pub entry_laid : (ps : List Param) (n t : State) → Entry ps n t → AreLaid t
entry_laid ps n t h k v q = let u = entry_param ps n t h k v q in (u.0, u.1, scalar_laid t.structs u.0 u.2)

pub entry_names : (ps : List Param) (n t z : State) (vs : List VariableTree) → Ended z → Onward n z → Entry ps n t → NamesFit (ending_of (program_of z) vs) t
entry_names ps n t z vs e o h =
    let l = h.bound.later in
    record {
      slots = entry_slot ps n t h;
      variables = entry_variable ps n t h;
      functions = λ name k m.
          subst (λ ds. FunctionFits (ending_of (program_of z) vs) ds t.declared name (suc (suc (suc k)))) (sym l.defined)
          (subst (λ ds. FunctionFits (ending_of (program_of z) vs) n.defined ds name (suc (suc (suc k)))) (sym l.declared)
          (e.functions vs n o name (suc (suc (suc k))) (entry_function ps n t h name (suc (suc (suc k))) m)));
      put = ap (λ ds. slice_get ds 0) l.declared ∙ h.core.put;
      get = ap (λ ds. slice_get ds 1) l.declared ∙ h.core.get;
      exit = ap (λ ds. slice_get ds 2) l.declared ∙ h.core.exit;
    }
