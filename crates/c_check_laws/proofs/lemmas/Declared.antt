-- A declaration in a block leads to a scope with one more variable.
use Rattle.std.proofs.Common.{◌≡◌, ◌<◌, inl, ℕ, zero, suc, Bool, true, false, List, [], ◌∷◌, ◌++◌, length, refl, sym, ap, ◌∙◌, subst, arith, eqb-true, eq-eqb}
use Rattle.std.specs.Prelude.{◌==◌, slice_get, slice_set, Option, None, Some, option_and_then, unwrap_or}
use Rattle.std.proofs.lemmas.Bool.{false≢true}
use Rattle.c_ast.specs.Productions as l
use Rattle.c_ast.specs.Tree.{Tree, Node, Cons}
use Rattle.c_type.specs.Trees.{TypeTree, array_of}
use Rattle.c_type.specs.WellDefined.{AreDefinitions}
use Rattle.c_typed.specs.Typed.{no_initial, DeclarationTree, VariableTree}
use Rattle.c_typed.specs.WellTyped.{Scope, Jumps, extended, int, IsBegunAs, InitialFits, initial_scope}
use Rattle.c_typed.specs.Objects.{object_by}
use Rattle.c_check_def.specs.Types.{is_scalar}
use Rattle.c_check_scope.specs.Scopes.{Name, meaning, is_declared}
use Rattle.c_check_def.specs.declared.meaning.Meaning.TheVariants as means
use Rattle.c_check_def.specs.declared.refusal_kind.RefusalKind.TheVariants.{Redeclared}
use Rattle.c_check_def.specs.State.{MaybeType, Variable, State, breaks_if, if_some, declare, changed_by, changed, variable_in, change_variable, add_variable}
use Rattle.c_check_def.specs.DeclaredTypes.{object_type, small_type, type_if, is_large, with_elements}
use Rattle.c_check_def.specs.Initialisers.{Elements, initial, initialiser, completed}
use Rattle.c_check_def.specs.Leaves.{offset_of, name_of, count_of, is_present}
use Rattle.c_check_def.specs.Specifiers.{Specified, specified_type}
use Rattle.c_check_def.specs.Declarators.{open_dimensions, is_fixed, is_named, initialise_variable, variable_declared, variable_declarator, declarator, more_declarators}
use Rattle.c_check_laws.proofs.lemmas.States.{Ending, is_object_then, type_now, slots_in, shown, shown_append, Step, Fits, VariableFitsNow, FunctionFits, NamesFit, names_step, At, at_step, structs_at, same_at, same_length}
use Rattle.c_check_laws.proofs.lemmas.Steps.{breaks_if_steps, specified_type_steps}
use Rattle.c_check_laws.proofs.lemmas.StatementSteps.{MayBegin, WellShaped, open_dimensions_steps, object_type_steps, initialise_later, declarator_later, more_declarators_later, Begun, begun_step, change_new, declare_later, declare_slots, initialiser_steps}
use Rattle.c_check_laws.proofs.lemmas.Terms.{InRange, get_end, set_there}
use Rattle.c_check_laws.proofs.lemmas.Later.{later_then, add_variable_later, more_slots}
use Rattle.c_check_laws.proofs.lemmas.Types.{IsNoArray, specified_no_array, open_dimensions_fit, TypeThere, object_type_typed, LaidOrOpen}
use Rattle.c_check_laws.proofs.lemmas.Statements.{Ends, ends_before, lead_joined, ItemsOut, LocalsAreTyped}
use Rattle.c_check_laws.proofs.lemmas.Parts.{Layouts}
use Rattle.c_check_laws.proofs.lemmas.Locals.{Completed, completed_fits, begins, names_added, names_bound, length_end}

-- ---- a list with one element changed

pub set_other : {A : Type 0} → (xs : List A) (k j : ℕ) (y : A) → (j ≡ k → ⊥) → slice_get (slice_set xs k y) j ≡ slice_get xs j
set_other [] k j y n = refl
set_other (x ∷ xs) zero zero y n = absurd (n refl)
set_other (x ∷ xs) zero (suc j) y n = refl
set_other (x ∷ xs) (suc k) zero y n = refl
set_other (x ∷ xs) (suc k) (suc j) y n = set_other xs k j y (λ e. n (ap suc e))

pub set_length : {A : Type 0} → (xs : List A) (k : ℕ) (y : A) → length (slice_set xs k y) ≡ length xs
set_length [] k y = refl
set_length (x ∷ xs) zero y = refl
set_length (x ∷ xs) (suc k) y = ap suc (set_length xs k y)

pub changed_length : (f : Variable → Variable) (k : ℕ) (vs : List Variable) → length (changed f k vs) ≡ length vs
changed_length f k vs = by_variable (slice_get vs k)
  where
    by_variable : (x : Option Variable) → length (changed_by f x k vs) ≡ length vs
    by_variable None = refl
    by_variable (Some v) = set_length vs k (f v)

-- a change that keeps whether the name was used
changed_named : (f : Variable → Variable) → ((v : Variable) → (f v).is_named ≡ v.is_named) → (vs : List Variable) (k : ℕ) → is_named (slice_get (changed f k vs) k) ≡ is_named (slice_get vs k)
changed_named f keep vs k = by_variable (slice_get vs k) refl
  where
    by_variable : (x : Option Variable) → slice_get vs k ≡ x → is_named (slice_get (changed_by f x k vs) k) ≡ is_named x
    by_variable None q = ap is_named q
    by_variable (Some v) q = ap is_named (set_there vs k v (f v) q) ∙ keep v

-- ---- scopes with a slot more, or with the last slot hidden

slots_append : (e : Ending) (vs : List Variable) (ks : List ℕ) (k : ℕ) → slots_in e vs (ks ++ k ∷ []) ≡ slots_in e vs ks ++ record { type = type_now vs k; is_object = is_object_then e k } ∷ []
slots_append e vs [] k = refl
slots_append e vs (j ∷ ks) k = ap (λ vars. record { type = type_now vs j; is_object = is_object_then e j } ∷ vars) (slots_append e vs ks k)

slots_hiding : (e : Ending) (b : Bool) (vs : List Variable) (ks : List ℕ) → slots_in (record e { hides = b }) vs ks ≡ slots_in e vs ks
slots_hiding e b vs [] = refl
slots_hiding e b vs (k ∷ ks) = ap (λ vars. record { type = type_now vs k; is_object = is_object_then e k } ∷ vars) (slots_hiding e b vs ks)

names_hiding : (e : Ending) (b : Bool) (s : State) → NamesFit e s → NamesFit (record e { hides = b }) s
names_hiding e b s h = record { slots = h.slots; variables = h.variables; functions = λ name k m. record { fits = (h.functions name k m).fits }; put = h.put; get = h.get; exit = h.exit }

-- a later state with one more variable in one more slot
record Grown (e : Ending) (c : Scope) (s t : State) : Type 0 where
  shows : e.hides ≡ false
  before : At e c s
  begun : Begun s t
  names : NamesFit e t

earlier_slots : (e : Ending) (c : Scope) (s t : State) → Grown e c s t → slots_in e t.variables s.slots ≡ c.slots
earlier_slots e c s t h =
    more_slots e s.variables t.variables s.slots h.begun.later.variables h.before.names.variables
    ∙ ap (λ b. slots_in e s.variables (shown b s.slots)) (sym h.shows)
    ∙ ap (λ (c : Scope). c.slots) h.before.scope

-- the scope with the new variable
at_new : (e : Ending) (c : Scope) (s t : State) (v : Variable) (w : VariableTree) (u : TypeTree) → Grown e c s t → slice_get t.variables (length s.variables) ≡ Some v → v.type ≡ Some u →
    slice_get e.variables (length s.variables) ≡ Some w → At e (extended c (record w { type = u })) t
at_new e c s t v w u h there type final =
    let k = length s.variables in
    let l = h.begun.later in
    let now : type_now t.variables k ≡ u = ap (λ o. unwrap_or (option_and_then (λ (v : Variable). v.type) o) int) there ∙ ap (λ o. unwrap_or o int) type in
    let object : is_object_then e k ≡ w.is_object = ap object_by final in
    let slots : slots_in e t.variables (shown e.hides t.slots) ≡ c.slots ++ record w { type = u } ∷ [] =
    ap (λ b. slots_in e t.variables (shown b t.slots)) h.shows
    ∙ ap (slots_in e t.variables) h.begun.slots
    ∙ slots_append e t.variables s.slots k
    ∙ (λ i. earlier_slots e c s t h i ++ record { type = now i; is_object = object i } ∷ []) in
    let old = h.before.scope in
    record {
      scope = λ i. record {
        structs = (l.structs ∙ ap (λ (c : Scope). c.structs) old) i;
        functions = (ap (λ (c : Scope). c.functions) old) i;
        globals = (ap (λ (c : Scope). c.globals) old) i;
        variables = (ap (λ (c : Scope). c.variables) old) i;
        slots = slots i;
      };
      names = h.names;
    }

-- the scope without it
at_hidden : (e : Ending) (c : Scope) (s t : State) → Grown e c s t → At (record e { hides = true }) c t
at_hidden e c s t h =
    let k = length s.variables in
    let l = h.begun.later in
    let slots : slots_in (record e { hides = true }) t.variables (shown true t.slots) ≡ c.slots =
    slots_hiding e true t.variables (shown true t.slots)
    ∙ ap (λ ks. slots_in e t.variables (shown true ks)) h.begun.slots
    ∙ ap (slots_in e t.variables) (shown_append s.slots k)
    ∙ earlier_slots e c s t h in
    let old = h.before.scope in
    record {
      scope = λ i. record {
        structs = (l.structs ∙ ap (λ (c : Scope). c.structs) old) i;
        functions = (ap (λ (c : Scope). c.functions) old) i;
        globals = (ap (λ (c : Scope). c.globals) old) i;
        variables = (ap (λ (c : Scope). c.variables) old) i;
        slots = slots i;
      };
      names = names_hiding e true t h.names;
    }

-- ---- before the type is completed

fits_hiding : (e : Ending) (b : Bool) (s : State) → Fits e s → ((slot : ℕ) → b ≡ true → suc slot ≡ length s.slots → is_named (slice_get s.variables (variable_in s.slots slot)) ≡ false) →
    Fits (record e { hides = b }) s
fits_hiding e b s h n = record {
  clean = h.clean;
  globals = h.globals;
  variables = λ k v there. let f = h.variables k v there in record { taken = f.taken; shape = f.shape };
  unnamed = λ q slot last. n slot q last;
}

-- what fits after a change of the type fits before it
fits_unchanged : (e : Ending) (q : State) (slot k : ℕ) (v : Variable) (t u : TypeTree) → e.hides ≡ false → variable_in q.slots slot ≡ k → slice_get q.variables k ≡ Some v → v.type ≡ Some t →
    is_scalar t ≡ is_scalar u → Fits e (change_variable slot (λ v. record v { type = Some u }) q).1 → Fits e q
fits_unchanged e q slot k v t u shows place there type same h = record {
  clean = h.clean;
  globals = h.globals;
  variables = λ j w here. by_test j w here (j == k) refl;
  unnamed = λ p slot last. absurd (false≢true (sym shows ∙ p));
}
  where
    after : changed (λ (v : Variable). record v { type = Some u }) (variable_in q.slots slot) q.variables ≡ slice_set q.variables k (record v { type = Some u })
    after = ap (λ n. changed (λ (v : Variable). record v { type = Some u }) n q.variables) place ∙ ap (λ x. changed_by (λ (v : Variable). record v { type = Some u }) x k q.variables) there

    by_test : (j : ℕ) (w : Variable) → slice_get q.variables j ≡ Some w → (b : Bool) → (j == k) ≡ b → VariableFitsNow e j w
    by_test j w here true p =
        let is : j ≡ k = eqb-true j k p in
        let one : v ≡ w = let both : Some v ≡ Some w = sym there ∙ ap (slice_get q.variables) (sym is) ∙ here in cc in
        let f = h.variables k (record v { type = Some u }) (ap (λ vs. slice_get vs k) after ∙ set_there q.variables k v (record v { type = Some u }) there) in
        let now : VariableFitsNow e k v = record {
          taken = f.taken;
          shape = λ x r n.
              let whole : t ≡ x = let both : Some t ≡ Some x = sym type ∙ r in cc in
              f.shape u refl (sym same ∙ ap is_scalar whole ∙ n);
        } in
        subst (λ j. VariableFitsNow e j w) (sym is) (subst (VariableFitsNow e k) one now)
    by_test j w here false p =
        h.variables j w (ap (λ vs. slice_get vs j) after ∙ set_other q.variables k j (record v { type = Some u }) (λ r. false≢true (sym p ∙ eq-eqb j k r)) ∙ here)

-- ---- the declaration

pub record DeclaredOut (e : Ending) (c : Scope) (d : DeclarationTree) (t : State) : Type 0 where
  pub variable : VariableTree
  pub there : slice_get c.variables d.variable ≡ Some variable
  pub begun : TypeTree
  pub type : IsBegunAs variable.type begun
  pub fits : InitialFits (initial_scope d.names_itself c variable begun) variable d.initial
  pub here : At e (extended c variable) t

-- the new variable before its initialiser
record NewAt (s t : State) (u : TypeTree) : Type 0 where
  variable : Variable
  there : slice_get t.variables (length s.variables) ≡ Some variable
  type : variable.type ≡ Some u

new_step : (s t q : State) (u : TypeTree) → NewAt s t u → Step t q → NewAt s q u
new_step s t q u h a = let r = same_at t.variables q.variables (length s.variables) h.variable a.variables h.there in record { variable = r.later; there = r.there; type = r.type ∙ h.type }

pub slot_of : (s t : State) → t.slots ≡ s.slots ++ length s.variables ∷ [] → variable_in t.slots (length s.slots) ≡ length s.variables
slot_of s t h = ap (λ ks. variable_in ks (length s.slots)) h ∙ ap (λ o. unwrap_or o 0) (get_end s.slots (length s.variables))

-- names stay where the types of variables change
pub names_same : (e : Ending) (s t : State) → t.scopes ≡ s.scopes → t.slots ≡ s.slots → length t.variables ≡ length s.variables → t.declared ≡ s.declared → t.defined ≡ s.defined → NamesFit e s →
    NamesFit e t
names_same e s t scopes slots same declared defined h = record {
  slots = λ name k b m. subst (λ (ks : List ℕ). k < length ks) (sym slots) (h.slots name k b (sym (ap (λ q. meaning q name) scopes) ∙ m));
  variables = λ slot k m. subst (λ n. k < n) (sym same) (h.variables slot k (sym (ap (λ ks. slice_get ks slot) slots) ∙ m));
  functions = λ name k m.
      subst (λ ds. FunctionFits e ds t.declared name (suc (suc (suc k)))) (sym defined)
      (subst (λ ds. FunctionFits e s.defined ds name (suc (suc (suc k)))) (sym declared) (h.functions name k (sym (ap (λ q. meaning q name) scopes) ∙ m)));
  put = ap (λ ds. slice_get ds 0) declared ∙ h.put;
  get = ap (λ ds. slice_get ds 1) declared ∙ h.get;
  exit = ap (λ ds. slice_get ds 2) declared ∙ h.exit;
}

-- a variable that begins with nothing
plain_declared : (e : Ending) (c : Scope) (s t : State) (u : TypeTree) → Grown e c s t → NewAt s t u → Ends e t → DeclaredOut e c (variable_declared (length s.slots) no_initial t).0 t
plain_declared e c s t u h n ends =
    let k = length s.variables in
    let w = ends.types k n.variable u n.there n.type in
    let place = slot_of s t h.begun.slots in
    let whole : record w.0 { type = u } ≡ w.0 = λ i. record w.0 { type = sym w.2 i } in
    record {
      variable = w.0;
      there = ap (λ (c : Scope). slice_get c.variables (variable_in t.slots (length s.slots))) (sym h.before.scope) ∙ ap (slice_get e.variables) place ∙ w.1;
      begun = w.0.type;
      type = begun_same w.0.type;
      fits = tt;
      here = subst (λ v. At e (extended c v) t) whole (at_new e c s t n.variable w.0 u h n.there n.type w.1);
    }
  where
    begun_same : (t : TypeTree) → IsBegunAs t t
    begun_same (array_of t n) = inl refl
    begun_same t = refl

-- what is left of the declaration once the initialiser and the whole type are known
WithType : Ending → Scope → ℕ → Elements × State → MaybeType × State → Type 0
WithType e c slot es u =
    Ends e (change_variable slot (λ v. record v { type = u.0 }) u.1).1 →
    DeclaredOut e c (variable_declared slot (initial es.0 u.0) (change_variable slot (λ v. record v { type = u.0 }) u.1).1).0 (change_variable slot (λ v. record v { type = u.0 }) u.1).1

-- a variable that begins with an initialiser
begun_declared : (y : Layouts) (e : Ending) (c : Scope) (x : Tree) (s t : State) (u : TypeTree) (k : Completed c.structs x u) → Grown e c s t → NewAt s t u → InRange x →
    WithType e c (length s.slots) (initialiser false (Some k.type) 0 x t) (Some k.type, (initialiser false (Some k.type) 0 x t).1)
unfolding WithType
begun_declared y e c x s t u k h n r ends =
    let j = length s.variables in
    let slot = length s.slots in
    let q = (initialiser false (Some k.type) 0 x t).1 in
    let steps = initialiser_steps false (Some k.type) 0 x t in
    let nq = new_step s t q u n steps in
    let bq = begun_step s t q h.begun steps in
    let place = slot_of s q bq.slots in
    let f : Variable → Variable = λ v. record v { type = Some k.type } in
    let z = (change_variable slot f q).1 in
    let last : slice_get z.variables j ≡ Some (f nq.variable) =
    ap (λ m. slice_get (changed f m q.variables) j) place
    ∙ ap (λ x. slice_get (changed_by f x j q.variables) j) nq.there
    ∙ set_there q.variables j nq.variable (f nq.variable) nq.there in
    let w = ends.types j (f nq.variable) k.type last refl in
    let fit = fits_unchanged e q slot j nq.variable u k.type h.shows place nq.there nq.type k.scalar ends.fits in
    let later = change_new s q f bq in
    let names = names_same e t z steps.scopes steps.slots (changed_length f (variable_in q.slots slot) q.variables
    ∙ same_length t.variables q.variables steps.variables) steps.declared steps.defined h.names in
    let grown : Grown e c s z = record { shows = h.shows; before = h.before; begun = record { later = later; slots = bq.slots }; names = names } in
    let whole : record w.0 { type = k.type } ≡ w.0 = λ i. record w.0 { type = sym w.2 i } in
    let object : is_scalar k.type ≡ false → w.0.is_object ≡ true = λ m. sym (ap object_by w.1) ∙ (ends.fits.variables j (f nq.variable) last).shape k.type refl m in
    let good : AreDefinitions c.structs = subst AreDefinitions (later.structs ∙ ap (λ (c : Scope). c.structs) h.before.scope) ends.structs in
    record {
      variable = w.0;
      there = ap (λ (c : Scope). slice_get c.variables (variable_in z.slots slot)) (sym h.before.scope) ∙ ap (slice_get e.variables) place ∙ w.1;
      begun = u;
      type = subst (λ t. IsBegunAs t u) (sym w.2) k.begun;
      fits = by_name (is_named (slice_get z.variables (variable_in z.slots slot))) refl w.0 w.1 (sym w.2) object good fit bq;
      here = subst (λ v. At e (extended c v) z) whole (at_new e c s z (f nq.variable) w.0 k.type grown last refl w.1);
    }
  where
    by_name : (b : Bool) → is_named (slice_get (change_variable (length s.slots) (λ v. record v { type = Some k.type }) (initialiser false (Some k.type) 0 x t).1).1.variables
        (variable_in (initialiser false (Some k.type) 0 x t).1.slots (length s.slots))) ≡ b →
        (w : VariableTree) → slice_get e.variables (length s.variables) ≡ Some w → k.type ≡ w.type → (is_scalar k.type ≡ false → w.is_object ≡ true) → AreDefinitions c.structs →
        Fits e (initialiser false (Some k.type) 0 x t).1 → Begun s (initialiser false (Some k.type) 0 x t).1 →
        InitialFits (initial_scope b c w u) w (initial (initialiser false (Some k.type) 0 x t).0 (Some k.type))
    by_name true p w final type object good fit bq =
        begins y e (extended c (record w { type = u })) w x k.type t good type object k.whole r (at_new e c s t n.variable w u h n.there n.type final) fit
    by_name false p w final type object good fit bq =
        let q = (initialiser false (Some k.type) 0 x t).1 in
        let slot = length s.slots in
        begins y (record e { hides = true }) c w x k.type t good type object k.whole r (at_hidden e c s t h)
        (fits_hiding e true q fit (λ m b last.
        let same : m ≡ slot = let len = ap length bq.slots ∙ length_end s.slots (length s.variables) in omega (arith, last, len) in
        ap (λ m. is_named (slice_get q.variables (variable_in q.slots m))) same
        ∙ sym (changed_named (λ v. record v { type = Some k.type }) (λ v. refl) q.variables (variable_in q.slots slot)) ∙ p))

pub small_is : (offset : ℕ) (u : TypeTree) (q : State) → (small_type offset u q).1.broken ≡ None → small_type offset u q ≡ (Some u, q)
small_is offset u q clean = by_test (is_large q.structs (with_elements u)) clean
  where
    by_test : (b : Bool) → (type_if b offset u q).1.broken ≡ None → type_if b offset u q ≡ (Some u, q)
    by_test true c = absurd (cc)
    by_test false c = refl

initialised : (y : Layouts) (e : Ending) (c : Scope) (offset : ℕ) (may : Bool) (begun : Tree) (s t : State) (u : TypeTree) → LaidOrOpen c.structs may u → MayBegin begun → InRange begun →
    Grown e c s t → NewAt s t u → Ends e (initialise_variable (length s.slots) offset (Some u) begun t).1 →
    DeclaredOut e c (variable_declared (length s.slots) (initialise_variable (length s.slots) offset (Some u) begun t).0 (initialise_variable (length s.slots) offset (Some u) begun t).1).0
    (initialise_variable (length s.slots) offset (Some u) begun t).1
unfolding WithType
initialised y e c offset may (Node (l.Present o) (Cons equal (Cons x none))) s t u laid m r h n ends =
    let k = completed_fits c.structs may x u laid m in
    by_type k (completed x u) k.there ends
  where
    by_type : (k : Completed c.structs x u) (o : MaybeType) → o ≡ Some k.type →
        WithType e c (length s.slots) (initialiser false o 0 x t) (if_some o (small_type offset) (initialiser false o 0 x t).1)
    by_type k None q ends = absurd (cc)
    by_type k (Some v) q ends =
        let same : v ≡ k.type = cc in
        let es = initialiser false (Some v) 0 x t in
        let core : WithType e c (length s.slots) es (Some v, es.1) =
        subst (λ v. WithType e c (length s.slots) (initialiser false (Some v) 0 x t) (Some v, (initialiser false (Some v) 0 x t).1)) (sym same) (begun_declared y e c x s t u k h n r.1.0) in
        subst (λ z. WithType e c (length s.slots) es z) (sym (small_is offset v es.1 ends.fits.clean)) core ends
initialised y e c offset may begun s t u laid m r h n ends = plain_declared e c s t u h n ends

-- one declarator

added_declared : (y : Layouts) (e : Ending) (c : Scope) (may : Bool) (name : Name) (offset : ℕ) (fixed : Bool) (u : TypeTree) (begun : Tree) (s : State) → LaidOrOpen c.structs may u → MayBegin begun →
    InRange begun → At e c s →
    Ends e (initialise_variable (length s.slots) offset (Some u) begun (declare name offset (means.Variable (length s.slots) fixed) (add_variable (Some u) s).1).1).1 →
    DeclaredOut e c
    (variable_declared (length s.slots) (initialise_variable (length s.slots) offset (Some u) begun (declare name offset (means.Variable (length s.slots) fixed) (add_variable (Some u) s).1).1).0
    (initialise_variable (length s.slots) offset (Some u) begun (declare name offset (means.Variable (length s.slots) fixed) (add_variable (Some u) s).1).1).1).0
    (initialise_variable (length s.slots) offset (Some u) begun (declare name offset (means.Variable (length s.slots) fixed) (add_variable (Some u) s).1).1).1
added_declared y e c may name offset fixed u begun s laid m r h ends =
    let k = (add_variable (Some u) s).1 in
    let v : Variable = record { type = Some u; is_taken = false; is_named = false } in
    let again = is_declared k.scopes name in
    let b = (breaks_if again Redeclared offset k).1 in
    let steps = breaks_if_steps again Redeclared offset k in
    let meant = means.Variable (length s.slots) fixed in
    let d = (declare name offset meant k).1 in
    let later = later_then s k d (add_variable_later (Some u) s) (declare_later name offset meant k) in
    let below : length s.slots < length b.slots = let a = ap length steps.slots in let n = length_end s.slots (length s.variables) in omega (arith, a, n) in
    let names = names_bound e name (length s.slots) fixed b below (names_step e k b steps (names_added e (Some u) s h.names)) in
    let grown : Grown e c s d = record { shows = ends.shows; before = h; begun = record { later = later; slots = declare_slots name offset meant k }; names = names } in
    let n : NewAt s k u = record { variable = v; there = get_end s.variables v; type = refl } in
    let nb = new_step s k b u n steps in
    initialised y e c offset may begun s d u laid m r grown (record { variable = nb.variable; there = nb.there; type = nb.type }) ends

declarator_out : (y : Layouts) (e : Ending) (c : Scope) (x : Specified) (is_const : Bool) (stars : ℕ) (name : Name) (offset : ℕ) (bounds begun : Tree) (s : State) → IsNoArray x.type → MayBegin begun →
    InRange begun → At e c s → Ends e (variable_declarator x is_const stars name offset bounds begun s).1 →
    DeclaredOut e c (variable_declarator x is_const stars name offset bounds begun s).0 (variable_declarator x is_const stars name offset bounds begun s).1
declarator_out y e c x is_const stars name offset bounds begun s base m r h ends =
    let ds = open_dimensions bounds s in
    let t = object_type (is_present begun) offset x stars ds.0 ds.1 in
    let sd = open_dimensions_steps bounds s in
    let st = object_type_steps (is_present begun) offset x stars ds.0 ds.1 in
    let hd = at_step e c s ds.1 sd h in
    let ht = at_step e c ds.1 t.1 st hd in
    let fixed = is_fixed is_const stars in
    let k = add_variable t.0 t.1 in
    let d = declare name offset (means.Variable k.0 fixed) k.1 in
    let declared = later_then t.1 k.1 d.1 (add_variable_later t.0 t.1) (declare_later name offset (means.Variable k.0 fixed) k.1) in
    let later = initialise_later t.1 d.1 offset t.0 begun (record { later = declared; slots = declare_slots name offset (means.Variable k.0 fixed) k.1 }) in
    let clean = later.broken ends.fits.clean in
    let fit = open_dimensions_fit bounds s (st.broken clean) in
    let typed = object_type_typed (is_present begun) offset x stars ds.0 ds.1 base fit clean in
    by_type typed (structs_at e c ds.1 hd) t.0 typed.there t.1 ht ends
  where
    by_type : (k : TypeThere (LaidOrOpen (open_dimensions bounds s).1.structs (is_present begun))
        (object_type (is_present begun) offset x stars (open_dimensions bounds s).0 (open_dimensions bounds s).1).0) →
        (open_dimensions bounds s).1.structs ≡ c.structs → (o : MaybeType) → o ≡ Some k.type → (t : State) → At e c t →
        Ends e (initialise_variable (length t.slots) offset o begun (declare name offset (means.Variable (length t.slots) (is_fixed is_const stars)) (add_variable o t).1).1).1 →
        DeclaredOut e c
        (variable_declared (length t.slots) (initialise_variable (length t.slots) offset o begun
        (declare name offset (means.Variable (length t.slots) (is_fixed is_const stars)) (add_variable o t).1).1).0
        (initialise_variable (length t.slots) offset o begun (declare name offset (means.Variable (length t.slots) (is_fixed is_const stars)) (add_variable o t).1).1).1).0
        (initialise_variable (length t.slots) offset o begun (declare name offset (means.Variable (length t.slots) (is_fixed is_const stars)) (add_variable o t).1).1).1
    by_type k same None q t ht ends = absurd (cc)
    by_type k same (Some u) q t ht ends =
        let is : k.type ≡ u = cc in
        let laid : LaidOrOpen c.structs (is_present begun) u = subst (λ u. LaidOrOpen c.structs (is_present begun) u) is (subst (λ d. LaidOrOpen d (is_present begun) k.type) same k.holds) in
        added_declared y e c (is_present begun) name offset (is_fixed is_const stars) u begun t laid m r ht ends

declarator_typed : (y : Layouts) (e : Ending) (c : Scope) (q : Jumps) (x : Specified) (is_const : Bool) (t : Tree) (s : State) → IsNoArray x.type → InRange t → WellShaped t → At e c s →
    Ends e (declarator x is_const t s).1 → ItemsOut e c q (declarator x is_const t s).0 (declarator x is_const t s).1
declarator_typed y e c q x is_const (Node l.Decl (Cons stars (Cons name (Cons bounds (Cons begun none))))) s base r w h ends =
    let o = declarator_out y e c x is_const (count_of stars) (name_of name) (offset_of name) bounds begun s base w r.1.1.1.0 h ends in
    record { scope = extended c o.variable; lead = (o.variable, o.there, (o.begun, o.type, o.fits), refl); here = o.here }
declarator_typed y e c q x is_const t s base r w h ends = record { scope = c; lead = refl; here = h }

more_declarators_typed : (y : Layouts) (e : Ending) (c : Scope) (q : Jumps) (x : Specified) (is_const : Bool) (t : Tree) (s : State) → IsNoArray x.type → InRange t → WellShaped t → At e c s →
    Ends e (more_declarators x is_const t s).1 → ItemsOut e c q (more_declarators x is_const t s).0 (more_declarators x is_const t s).1
more_declarators_typed y e c q x is_const (Node (l.More k) (Cons before (Cons comma (Cons t none)))) s base r w h ends =
    let ds = more_declarators x is_const before s in
    let a = more_declarators_typed y e c q x is_const before s base r.0 w.0 h (ends_before e ds.1 _ (declarator_later x is_const t ds.1) ends) in
    let b = declarator_typed y e a.scope q x is_const t ds.1 base r.1.1.0 w.1.1.0 a.here ends in
    record { scope = b.scope; lead = lead_joined c a.scope b.scope q ds.0 _ a.lead b.lead; here = b.here }
more_declarators_typed y e c q x is_const t s base r w h ends = record { scope = c; lead = refl; here = h }

-- Declarations in blocks are typed.
pub locals_typed : (y : Layouts) (e : Ending) → LocalsAreTyped e
locals_typed y e c q (Node l.Locals (Cons qualifier (Cons specifier (Cons first (Cons more none))))) s r w g h ends =
    let x = specified_type specifier s in
    let is_const = is_present qualifier in
    let base = specified_no_array specifier s in
    let d = declarator x.0 is_const first x.1 in
    let hx = at_step e c s x.1 (specified_type_steps specifier s) h in
    let a = declarator_typed y e c q x.0 is_const first x.1 base r.1.1.0 w.1.1.0 hx (ends_before e d.1 _ (more_declarators_later x.0 is_const more d.1) ends) in
    let b = more_declarators_typed y e a.scope q x.0 is_const more d.1 base r.1.1.1.0 w.1.1.1.0 a.here ends in
    record { scope = b.scope; lead = lead_joined c a.scope b.scope q d.0 _ a.lead b.lead; here = b.here }
locals_typed y e c q t s r w g h ends = record { scope = c; lead = refl; here = h }
