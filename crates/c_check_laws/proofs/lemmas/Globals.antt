-- Declarations of globals: what is written in them fits.
use Rattle.std.proofs.Common.{◌≡◌, ◌≤◌, ◌<◌, ◌⊎◌, inl, inr, ℕ, ◌+◌, ◌*◌, ◌^◌, suc, Bool, true, false, List, [], ◌∷◌, ◌++◌, length, map, refl, sym, ap, ◌∙◌, subst, arith, eqb-true, eq-eqb}
use Rattle.std.specs.Prelude.{◌==◌, slice_get, slice_set, None, Some, unwrap_or}
use Rattle.std.proofs.Math.Nat.{mod-lt}
use Rattle.std.proofs.lemmas.Bool.{false≢true}
use Rattle.std.proofs.lemmas.Option.{slice_get_within}
use Rattle.val_core.specs.declared.leaf.Leaf.{Leaf}
use Rattle.c_ast.specs.Tree.{Tree}
use Rattle.c_type.specs.declared.scalar.Scalar.{Scalar}
use Rattle.c_type.specs.declared.scalar.Scalar.TheVariants as scalar
use Rattle.c_type.specs.Trees.{TypeTree, void_type, scalar_type, pointer_to}
use Rattle.c_type.specs.Layout.{is_complete, scalar_size, size, leaves, leaves_at}
use Rattle.c_type.specs.WellDefined.{AreDefinitions}
use Rattle.c_typed.specs.Typed.{ExprTree, expr, address, place, global, ElementTrees, no_elements, value_then, characters_then, WrittenTree}
use Rattle.c_typed.specs.WellTyped.{Scope, IsScalar, type_of, ExprIsTyped, HasLeaf, ElementsFit, WrittenFits}
use Rattle.c_check_scope.specs.Scopes.{Name, meaning, with_declaration}
use Rattle.c_check_def.specs.declared.meaning.Meaning.{Meaning}
use Rattle.c_check_def.specs.declared.meaning.Meaning.TheVariants as means
use Rattle.c_check_def.specs.State.{Global, State, changed_by, changed, add_global, change_global}
use Rattle.c_check_def.specs.Initialisers.{Elements, initialiser, written_value, written_of, written}
use Rattle.c_check_laws.specs.TypedOperands.{IfSome}
use Rattle.c_check_laws.proofs.lemmas.States.{Ending, scope_in, Step, Fits, FunctionFits, NamesFit}
use Rattle.c_check_laws.proofs.lemmas.Terms.{InRange, get_end, set_there}
use Rattle.c_check_laws.proofs.lemmas.StatementSteps.{initialiser_steps}
use Rattle.c_check_laws.proofs.lemmas.Parts.{Layouts}
use Rattle.c_check_laws.proofs.lemmas.Initialisers.{ElementsWithin, within_fits, initialiser_fits}
use Rattle.c_check_laws.proofs.lemmas.Locals.{declared_meaning, get_append_cases}
use Rattle.c_check_laws.proofs.lemmas.Declared.{set_other, set_length}
use Rattle.c_check_laws.proofs.lemmas.Texts.{Texts}
use Rattle.c_check_laws.proofs.lemmas.File.{GlobalFits, File, global_wider, get_split, text_at, text_fits, texts_length, no_variables_after, nothing_at, length_more}
use Rattle.c_check_laws.proofs.lemmas.Names.{name_at, get_map, signature_now, signature_is}
use Rattle.c_check_laws.proofs.lemmas.Steps.{get_append}

-- ---- what is written

byte_power : (s : Scalar) → 0 < 2 ^ (8 * scalar_size s)
byte_power scalar.Char = omega arith
byte_power scalar.SignedChar = omega arith
byte_power scalar.UnsignedChar = omega arith
byte_power scalar.Short = omega arith
byte_power scalar.UnsignedShort = omega arith
byte_power scalar.Int = omega arith
byte_power scalar.UnsignedInt = omega arith

value_written : (c : Scope) (ls : List Leaf) (n from at : ℕ) (e : ExprTree) (ws : List WrittenTree) → length c.globals ≤ n → from ≤ at → ExprIsTyped c e → IsScalar (type_of e) →
    HasLeaf ls at (size c.structs (type_of e)) → WrittenFits ls n (at + size c.structs (type_of e)) ws → WrittenFits ls n from (written_value at e ∷ ws)
value_written c ls n from at (expr (scalar_type s) f) ws le b t k h rest = (b, h, mod-lt _ (byte_power s), rest)
value_written c ls n from at (expr (pointer_to u) (address (place v (global g)))) ws le b t k h rest =
    (b, h, let below = slice_get_within c.globals g v t.0 in omega (arith, below, le), rest)
value_written c ls n from at (expr (pointer_to u) f) ws le b t k h rest = (b, h, omega arith, rest)
value_written c ls n from at (expr u f) ws le b t k h rest = absurd k

elements_written : (c : Scope) (ls : List Leaf) (n from : ℕ) (es : ElementTrees) → length c.globals ≤ n → ElementsFit c ls from es → WrittenFits ls n from (written_of es)
elements_written c ls n from no_elements le h = tt
elements_written c ls n from (value_then at e es) le h = value_written c ls n from at e (written_of es) le h.0 h.1 h.2 h.3 (elements_written c ls n (at + size c.structs (type_of e)) es le h.4)
elements_written c ls n from (characters_then at cs es) le h = (h.0, h.1, elements_written c ls n (at + length cs) es le h.2)

-- ---- the scope of a constant initialiser: what is declared so far

abbrev types_now : State → List TypeTree
types_now s = map (λ (g : Global). unwrap_or g.type void_type) s.globals

abbrev pub ending_now : State → State → Ending
ending_now s t = record { functions = map (signature_now s) s.defined; globals = types_now t; variables = []; hides = false }

pub names_now : (s t : State) → File s → NamesFit (ending_now s t) s
names_now s t h = record {
  slots = λ name slot b m. absurd (h.no_variables name slot b m);
  variables = λ slot k m. absurd (nothing_at s.slots slot k h.slots m);
  functions = λ name k m. record {
    fits = λ n f u us number there result params. get_map (signature_now s) s.defined n name (name_at s.defined name n number)
        ∙ ap Some (signature_is s name (suc (suc (suc k))) f u us m there result params);
  };
  put = h.put;
  get = h.get;
  exit = h.exit;
}

-- names after the name of a global
pub names_global : (e : Ending) (name : Name) (k : ℕ) (fixed : Bool) (s : State) → NamesFit e s → NamesFit e (record s { scopes = with_declaration s.scopes name (means.Global k fixed) })
names_global e name k fixed s h = record {
  slots = λ asked slot b m. by_slot asked slot b m (declared_meaning s.scopes name (means.Global k fixed) asked);
  variables = h.variables;
  functions = λ asked j m. by_function asked j m (declared_meaning s.scopes name (means.Global k fixed) asked);
  put = h.put;
  get = h.get;
  exit = h.exit;
}
  where
    Meant : Name → Type 0
    Meant asked = (meaning (with_declaration s.scopes name (means.Global k fixed)) asked ≡ Some (means.Global k fixed)) ⊎
        (meaning (with_declaration s.scopes name (means.Global k fixed)) asked ≡ meaning s.scopes asked)

    by_slot : (asked : Name) (slot : ℕ) (b : Bool) → meaning (with_declaration s.scopes name (means.Global k fixed)) asked ≡ Some (means.Variable slot b) → Meant asked → slot < length s.slots
    by_slot asked slot b m (inl a) = absurd (let both : Some (means.Global k fixed) ≡ Some (means.Variable slot b) = sym a ∙ m in cc)
    by_slot asked slot b m (inr a) = h.slots asked slot b (sym a ∙ m)

    by_function : (asked : Name) (j : ℕ) → meaning (with_declaration s.scopes name (means.Global k fixed)) asked ≡ Some (means.Function (suc (suc (suc j)))) → Meant asked →
        FunctionFits e s.defined s.declared asked (suc (suc (suc j)))
    by_function asked j m (inl a) = absurd (let both : Some (means.Global k fixed) ≡ Some (means.Function (suc (suc (suc j)))) = sym a ∙ m in cc)
    by_function asked j m (inr a) = h.functions asked j (sym a ∙ m)

-- what is written in a global of this type
pub static_fits : (y : Layouts) (s t : State) (x : Tree) (u : TypeTree) → NamesFit (ending_now s (initialiser true (Some u) 0 x t).1) t → t.variables ≡ [] → AreDefinitions t.structs →
    is_complete t.structs u ≡ true →
    InRange x → (initialiser true (Some u) 0 x t).1.broken ≡ None → (n : ℕ) → length (initialiser true (Some u) 0 x t).1.globals ≤ n →
    WrittenFits (leaves t.structs u) n 0 (written (initialiser true (Some u) 0 x t).0)
static_fits y s t x u names none good complete r clean n le =
    let es = initialiser true (Some u) 0 x t in
    let e = ending_now s es.1 in
    let steps = initialiser_steps true (Some u) 0 x t in
    let fit : Fits e es.1 = record {
      clean = clean;
      globals = λ k g v there type. get_map (λ (g : Global). unwrap_or g.type void_type) es.1.globals k g there ∙ ap (λ o. Some (unwrap_or o void_type)) type;
      variables = λ k v there. absurd (nothing_at es.1.variables k v (no_variables_after t.variables es.1.variables none steps.variables) there);
      unnamed = λ q slot last. absurd (false≢true q);
    } in
    by_elements es.0 (initialiser_fits y e (scope_in e t) good true u 0 x t complete r (record { scope = refl; names = names }) fit) (map_length es.1.globals) le
  where
    map_length : (gs : List Global) → length (map (λ (g : Global). unwrap_or g.type void_type) gs) ≡ length gs
    map_length [] = refl
    map_length (g ∷ gs) = ap suc (map_length gs)

    by_elements : (o : Elements) → IfSome (ElementsWithin (scope_in (ending_now s (initialiser true (Some u) 0 x t).1) t) (leaves_at t.structs u 0) 0 (0 + size t.structs u)) o →
        length (types_now (initialiser true (Some u) 0 x t).1) ≡ length (initialiser true (Some u) 0 x t).1.globals → length (initialiser true (Some u) 0 x t).1.globals ≤ n →
        WrittenFits (leaves t.structs u) n 0 (written o)
    by_elements None h same le = tt
    by_elements (Some es) h same le =
        let c = scope_in (ending_now s (initialiser true (Some u) 0 x t).1) t in
        elements_written c (leaves t.structs u) n 0 es (omega (arith, same, le)) (within_fits c (leaves_at t.structs u 0) 0 (0 + size t.structs u) es h)

-- ---- the other globals

abbrev OthersFit : ℕ → State → Type 0
OthersFit k s = (j : ℕ) (g : Global) → (j ≡ k → ⊥) → slice_get s.globals j ≡ Some g → GlobalFits s.structs (length s.globals) g

others_step : (k : ℕ) (s t : State) → Step s t → Texts s t → AreDefinitions s.structs → OthersFit k s → OthersFit k t
others_step k s t a b w h j g other here = by_place (get_split s.globals b.added j g (ap (λ gs. slice_get gs j) (sym b.globals) ∙ here))
  where
    by_place : (slice_get s.globals j ≡ Some g) ⊎ ((i : ℕ) × (slice_get b.added i ≡ Some g)) → GlobalFits t.structs (length t.globals) g
    by_place (inl e) = subst (λ d. GlobalFits d (length t.globals) g) (sym a.structs) (global_wider s.structs [] (length s.globals) (length t.globals) g w (texts_length s t b) (h j g other e))
    by_place (inr e) = text_fits t.structs (length t.globals) g (text_at b.added e.0 g b.texts e.1)

pub change_is : (k : ℕ) (f : Global → Global) (gs : List Global) (g : Global) → slice_get gs k ≡ Some g → changed f k gs ≡ slice_set gs k (f g)
change_is k f gs g there = ap (λ x. changed_by f x k gs) there

-- a global changes
others_change : (k : ℕ) (f : Global → Global) (s : State) (g : Global) → slice_get s.globals k ≡ Some g → OthersFit k s → OthersFit k (change_global k f s).1
others_change k f s g there h j x other here =
    let same = change_is k f s.globals g there in
    subst (λ n. GlobalFits s.structs n x) (sym (ap length same ∙ set_length s.globals k (f g))) (h j x other (sym (set_other s.globals k j (f g) other) ∙ ap (λ gs. slice_get gs j) (sym same) ∙ here))

change_there : (k : ℕ) (f : Global → Global) (s : State) (g : Global) → slice_get s.globals k ≡ Some g → slice_get (change_global k f s).1.globals k ≡ Some (f g)
change_there k f s g there = ap (λ gs. slice_get gs k) (change_is k f s.globals g there) ∙ set_there s.globals k g (f g) there

change_other : (k j : ℕ) (f : Global → Global) (s : State) (g x : Global) → slice_get s.globals k ≡ Some g → (j ≡ k → ⊥) → slice_get s.globals j ≡ Some x →
    slice_get (change_global k f s).1.globals j ≡ Some x
change_other k j f s g x there other here = ap (λ gs. slice_get gs j) (change_is k f s.globals g there) ∙ set_other s.globals k j (f g) other ∙ here

pub all_fit : (k : ℕ) (s : State) → OthersFit k s → ((g : Global) → slice_get s.globals k ≡ Some g → GlobalFits s.structs (length s.globals) g) → (j : ℕ) (g : Global) →
    slice_get s.globals j ≡ Some g →
    GlobalFits s.structs (length s.globals) g
all_fit k s h last j g here = by_test (j == k) refl
  where
    by_test : (b : Bool) → (j == k) ≡ b → GlobalFits s.structs (length s.globals) g
    by_test true e = last g (ap (slice_get s.globals) (sym (eqb-true j k e)) ∙ here)
    by_test false e = h j g (λ q. false≢true (sym e ∙ eq-eqb j k q)) here

-- ---- one state of the declaration after another

-- what is so of a file but for the global of this number, whose type is being found
pub record Begun (k : ℕ) (s t : State) (global : Global) : Type 0 where
  pub below : length s.globals ≡ k
  pub kept : (j : ℕ) (g : Global) → slice_get s.globals j ≡ Some g → slice_get t.globals j ≡ Some g
  pub others : OthersFit k t
  pub there : slice_get t.globals k ≡ Some global
  pub structs : t.structs ≡ s.structs
  pub defined : t.defined ≡ s.defined
  pub declared : t.declared ≡ s.declared
  pub functions : t.functions ≡ s.functions
  pub variables : t.variables ≡ []
  pub slots : t.slots ≡ []

below_other : (s : State) (j k : ℕ) (g : Global) → length s.globals ≡ k → slice_get s.globals j ≡ Some g → j ≡ k → ⊥
below_other s j k g below here e = let b = slice_get_within s.globals j g here in omega (arith, b, below, e)

pub begun_step : (k : ℕ) (s t u : State) (x : Global) → AreDefinitions s.structs → Begun k s t x → Step t u → Texts t u → Begun k s u x
begun_step k s t u x w h a b = record {
  below = h.below;
  kept = λ j g q. a.globals j g (h.kept j g q);
  others = others_step k t u a b (subst AreDefinitions (sym h.structs) w) h.others;
  there = a.globals k x h.there;
  structs = a.structs ∙ h.structs;
  defined = a.defined ∙ h.defined;
  declared = a.declared ∙ h.declared;
  functions = a.functions ∙ h.functions;
  variables = no_variables_after t.variables u.variables h.variables a.variables;
  slots = a.slots ∙ h.slots;
}

pub begun_change : (k : ℕ) (f : Global → Global) (s t : State) (x : Global) → Begun k s t x → Begun k s (change_global k f t).1 (f x)
begun_change k f s t x h = record {
  below = h.below;
  kept = λ j g q. change_other k j f t x g h.there (below_other s j k g h.below q) (h.kept j g q);
  others = others_change k f t x h.there h.others;
  there = change_there k f t x h.there;
  structs = h.structs;
  defined = h.defined;
  declared = h.declared;
  functions = h.functions;
  variables = h.variables;
  slots = h.slots;
}

pub begun_bound : (name : Name) (k : ℕ) (m : Meaning) (s t : State) (x : Global) → Begun k s t x → Begun k s (record t { scopes = with_declaration t.scopes name m }) x
begun_bound name k m s t x h = record {
  below = h.below;
  kept = h.kept;
  others = h.others;
  there = h.there;
  structs = h.structs;
  defined = h.defined;
  declared = h.declared;
  functions = h.functions;
  variables = h.variables;
  slots = h.slots;
}

pub begun_added : (s : State) (g : Global) → File s → Begun (length s.globals) s (add_global g s).1 g
begun_added s g h = record {
  below = refl;
  kept = λ j x q. get_append s.globals (g ∷ []) j x q;
  others = λ j x other here. by_place j x other (get_append_cases s.globals g x j here);
  there = get_end s.globals g;
  structs = refl;
  defined = refl;
  declared = refl;
  functions = refl;
  variables = h.variables;
  slots = h.slots;
}
  where
    by_place : (j : ℕ) (x : Global) → (j ≡ length s.globals → ⊥) → (slice_get s.globals j ≡ Some x) ⊎ ((j ≡ length s.globals) × (g ≡ x)) → GlobalFits s.structs (length (s.globals ++ g ∷ [])) x
    by_place j x other (inl a) = global_wider s.structs [] (length s.globals) (length (s.globals ++ g ∷ [])) x h.structs (length_more s.globals (g ∷ [])) (h.globals j x a)
    by_place j x other (inr a) = absurd (other a.0)
