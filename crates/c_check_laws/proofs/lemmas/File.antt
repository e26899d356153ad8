-- States of the checker between the declarations of a file.
use Rattle.std.proofs.Common.{◌≡◌, ◌≤◌, ◌⊎◌, inl, inr, ℕ, ◌+◌, zero, suc, Bool, true, List, [], ◌∷◌, ◌++◌, length, map, refl, sym, ap, ◌∙◌, subst, arith, append_assoc}
use Rattle.std.specs.Prelude.{slice_get, None, Some}
use Rattle.val_core.specs.declared.leaf.Leaf.{Leaf}
use Rattle.c_type.specs.declared.scalar.Scalar.TheVariants as scalar
use Rattle.c_type.specs.Trees.{TypeTree, void_type, scalar_type}
use Rattle.c_type.specs.Layout.{Definitions, is_complete, leaves}
use Rattle.c_type.specs.WellDefined.{AreDefinitions}
use Rattle.c_typed.specs.Typed.{FunctionTree, WrittenTree, word_at, link_at, characters_at}
use Rattle.c_typed.specs.WellTyped.{int, AreCharactersAt, WrittenFits, params_of}
use Rattle.c_check_scope.specs.Scopes.{Name, Scope, meaning}
use Rattle.c_check_def.specs.declared.meaning.Meaning.{Meaning}
use Rattle.c_check_def.specs.declared.meaning.Meaning.TheVariants as means
use Rattle.c_check_def.specs.State.{Declared, Global, Variable, State}
use Rattle.c_check_def.specs.Operands.{string_type}
use Rattle.c_check_laws.proofs.lemmas.States.{AllTypes, declared_as, AreSame, Step}
use Rattle.c_check_laws.proofs.lemmas.There.{GlobalTyped, FunctionTyped}
use Rattle.c_check_laws.proofs.lemmas.Definitions.{complete_after, leaves_after}
use Rattle.c_check_laws.proofs.lemmas.Locals.{some_elements}
use Rattle.c_check_laws.proofs.lemmas.Initialisers.{bytes_at, bytes_array}
use Rattle.c_check_laws.proofs.lemmas.Texts.{IsText, AreTexts, Texts}
use Rattle.c_check_laws.proofs.lemmas.Steps.{get_append}

-- ---- one state of a file after another

pub record StillDeclared (f : Declared) (ds : List Declared) (k : ℕ) : Type 0 where
  pub later : Declared
  pub there : slice_get ds k ≡ Some later
  pub result : later.result ≡ f.result
  pub params : later.params ≡ f.params
  pub defined : f.is_defined ≡ true → later.is_defined ≡ true

pub still_declared : (f : Declared) (ds : List Declared) (k : ℕ) → slice_get ds k ≡ Some f → StillDeclared f ds k
still_declared f ds k h = record { later = f; there = h; result = refl; params = refl; defined = λ q. q }

pub record Onward (s t : State) : Type 0 where
  pub broken : t.broken ≡ None → s.broken ≡ None
  pub structs : (ds : Definitions) × (t.structs ≡ ds ++ s.structs)
  pub defined : t.defined ≡ s.defined
  pub globals : (k : ℕ) (g : Global) → slice_get s.globals k ≡ Some g → slice_get t.globals k ≡ Some g
  pub declared : (k : ℕ) (f : Declared) → slice_get s.declared k ≡ Some f → StillDeclared f t.declared k
  pub functions : (k : ℕ) (f : FunctionTree) → slice_get s.functions k ≡ Some f → slice_get t.functions k ≡ Some f
  pub names : t.broken ≡ None → (name : Name) (m : Meaning) → meaning s.scopes name ≡ Some m → meaning t.scopes name ≡ Some m

pub onward_step : (s t : State) → Step s t → Onward s t
onward_step s t a = record {
  broken = a.broken;
  structs = ([], a.structs);
  defined = a.defined;
  globals = a.globals;
  declared = λ k f h. still_declared f t.declared k (ap (λ ds. slice_get ds k) a.declared ∙ h);
  functions = λ k f h. ap (λ fs. slice_get fs k) a.functions ∙ h;
  names = λ clean name m h. ap (λ q. meaning q name) a.scopes ∙ h;
}

pub onward_then : (r s t : State) → Onward r s → Onward s t → Onward r t
onward_then r s t a b = record {
  broken = λ h. a.broken (b.broken h);
  structs = (b.structs.0 ++ a.structs.0, b.structs.1 ∙ ap (λ ds. b.structs.0 ++ ds) a.structs.1 ∙ sym (append_assoc b.structs.0 a.structs.0 r.structs));
  defined = b.defined ∙ a.defined;
  globals = λ k g h. b.globals k g (a.globals k g h);
  declared = λ k f h.
      let x = a.declared k f h in
      let y = b.declared k x.later x.there in
      record { later = y.later; there = y.there; result = y.result ∙ x.result; params = y.params ∙ x.params; defined = λ q. y.defined (x.defined q) };
  functions = λ k f h. b.functions k f (a.functions k f h);
  names = λ clean name m h. b.names clean name m (a.names (b.broken clean) name m h);
}

-- ---- what is known at file scope, where no rule is broken

-- what is written in a global stands at its leaves
pub record GlobalFits (defs : Definitions) (count : ℕ) (g : Global) : Type 0 where
  pub type : TypeTree
  pub has : g.type ≡ Some type
  pub complete : is_complete defs type ≡ true
  pub written : WrittenFits (leaves defs type) count 0 g.written

abbrev pub GlobalsFit : State → Type 0
GlobalsFit s = (k : ℕ) (g : Global) → slice_get s.globals k ≡ Some g → GlobalFits s.structs (length s.globals) g

-- the name of a function that is defined means it
pub record FunctionKnown (s : State) (f : FunctionTree) : Type 0 where
  pub number : ℕ
  pub meant : meaning s.scopes f.name ≡ Some (means.Function number)
  pub declared : Declared
  pub there : slice_get s.declared number ≡ Some declared
  pub defined : declared.is_defined ≡ true
  pub result : declared.result ≡ Some f.result
  pub takes : AllTypes declared.params (map (λ v. v.type) (params_of f))

pub record File (s : State) : Type 0 where
  pub alone : (x : Scope Meaning) × (s.scopes ≡ x ∷ [])
  pub variables : s.variables ≡ []
  pub slots : s.slots ≡ []
  pub no_variables : (name : Name) (slot : ℕ) (is_const : Bool) → meaning s.scopes name ≡ Some (means.Variable slot is_const) → ⊥
  pub globals_named : (name : Name) (k : ℕ) (is_const : Bool) → meaning s.scopes name ≡ Some (means.Global k is_const) → GlobalTyped s k
  pub functions_named : (name : Name) (k : ℕ) → meaning s.scopes name ≡ Some (means.Function k) → FunctionTyped s.declared k
  pub put : slice_get s.declared 0 ≡ Some (declared_as int (Some int ∷ []))
  pub get : slice_get s.declared 1 ≡ Some (declared_as int [])
  pub exit : slice_get s.declared 2 ≡ Some (declared_as void_type (Some int ∷ []))
  pub structs : AreDefinitions s.structs
  pub globals : GlobalsFit s
  pub functions : (k : ℕ) (f : FunctionTree) → slice_get s.functions k ≡ Some f → FunctionKnown s f

pub nothing_at : {A : Type 0} → (xs : List A) (k : ℕ) (x : A) → xs ≡ [] → slice_get xs k ≡ Some x → ⊥
nothing_at xs k x e h = let none : None ≡ Some x = sym (ap (λ ys. slice_get ys k) e) ∙ h in cc

-- ---- globals stay

written_more : (ls : List Leaf) (m n from : ℕ) (ws : List WrittenTree) → m ≤ n → WrittenFits ls m from ws → WrittenFits ls n from ws
written_more ls m n from [] le h = tt
written_more ls m n from (word_at offset width w ∷ ws) le h = (h.0, h.1, h.2, written_more ls m n (offset + width) ws le h.3)
written_more ls m n from (link_at offset k ∷ ws) le h = (h.0, h.1, let b = h.2 in omega (arith, b, le), written_more ls m n (offset + 4) ws le h.3)
written_more ls m n from (characters_at offset cs ∷ ws) le h = (h.0, h.1, written_more ls m n (offset + length cs) ws le h.2)

pub global_wider : (defs ds : Definitions) (m n : ℕ) (g : Global) → AreDefinitions (ds ++ defs) → m ≤ n → GlobalFits defs m g → GlobalFits (ds ++ defs) n g
global_wider defs ds m n g w le h = record {
  type = h.type;
  has = h.has;
  complete = complete_after defs ds w h.type h.complete;
  written = subst (λ f. WrittenFits (f 0) n 0 g.written) (sym (leaves_after defs ds w h.type h.complete)) (written_more (leaves defs h.type) m n 0 g.written le h.written);
}

pub text_fits : (defs : Definitions) (n : ℕ) (g : Global) → IsText g → GlobalFits defs n g
text_fits defs n g h =
    let b = bytes_array defs scalar.Char (suc (length h.bytes)) refl in
    let there : AreCharactersAt (leaves defs (string_type h.bytes)) 0 h.bytes = bytes_at (leaves defs (string_type h.bytes)) 0 0 (suc (length h.bytes)) h.bytes (b.leaf 0) (omega arith) h.range in
    record {
      type = string_type h.bytes;
      has = h.type;
      complete = some_elements defs (scalar_type scalar.Char) (suc (length h.bytes)) (omega arith) refl;
      written = subst
          (WrittenFits (leaves defs (string_type h.bytes)) n 0) (sym h.written) (omega arith, there, tt);
    }

pub get_split : {A : Type 0} → (xs ys : List A) (k : ℕ) (y : A) → slice_get (xs ++ ys) k ≡ Some y → (slice_get xs k ≡ Some y) ⊎ ((j : ℕ) × (slice_get ys j ≡ Some y))
get_split [] ys k y h = inr (k, h)
get_split (x ∷ xs) ys zero y h = inl h
get_split (x ∷ xs) ys (suc k) y h = get_split xs ys k y h

pub text_at : (gs : List Global) (j : ℕ) (g : Global) → AreTexts gs → slice_get gs j ≡ Some g → IsText g
text_at [] j g a h = absurd (cc)
text_at (x ∷ gs) zero g a h = let same : x ≡ g = cc in subst IsText same a.0
text_at (x ∷ gs) (suc j) g a h = text_at gs j g a.1 h

pub length_more : {A : Type 0} → (xs ys : List A) → length xs ≤ length (xs ++ ys)
length_more [] ys = omega arith
length_more (x ∷ xs) ys = let n = length_more xs ys in omega (arith, n)

pub texts_length : (s t : State) → Texts s t → length s.globals ≤ length t.globals
texts_length s t a = let e = ap length a.globals in let n = length_more s.globals a.added in omega (arith, e, n)

texts_keep : (s t : State) → Texts s t → (k : ℕ) (g : Global) → slice_get s.globals k ≡ Some g → slice_get t.globals k ≡ Some g
texts_keep s t a k g h = ap (λ gs. slice_get gs k) a.globals ∙ get_append s.globals a.added k g h

globals_more : (s t : State) (ds : Definitions) → Texts s t → t.structs ≡ ds ++ s.structs → AreDefinitions t.structs → GlobalsFit s → GlobalsFit t
globals_more s t ds a same w h k g here = by_place (get_split s.globals a.added k g (ap (λ gs. slice_get gs k) (sym a.globals) ∙ here))
  where
    by_place : (slice_get s.globals k ≡ Some g) ⊎ ((j : ℕ) × (slice_get a.added j ≡ Some g)) → GlobalFits t.structs (length t.globals) g
    by_place (inl e) =
        subst (λ d. GlobalFits d (length t.globals) g) (sym same)
        (global_wider s.structs ds (length s.globals) (length t.globals) g (subst AreDefinitions same w) (texts_length s t a) (h k g e))
    by_place (inr e) = text_fits t.structs (length t.globals) g (text_at a.added e.0 g a.texts e.1)

-- ---- what is known stays known

pub known_later : (s t : State) (f : FunctionTree) → t.scopes ≡ s.scopes → t.declared ≡ s.declared → FunctionKnown s f → FunctionKnown t f
known_later s t f scopes declared h = record {
  number = h.number;
  meant = ap (λ q. meaning q f.name) scopes ∙ h.meant;
  declared = h.declared;
  there = ap (λ ds. slice_get ds h.number) declared ∙ h.there;
  defined = h.defined;
  result = h.result;
  takes = h.takes;
}

-- a state with the same names
pub record SameNames (s t : State) : Type 0 where
  pub scopes : t.scopes ≡ s.scopes
  pub variables : t.variables ≡ []
  pub slots : t.slots ≡ []
  pub declared : t.declared ≡ s.declared
  pub texts : Texts s t
  pub structs : (ds : Definitions) × (t.structs ≡ ds ++ s.structs)
  pub good : AreDefinitions t.structs

pub file_more : (s t : State) → SameNames s t → ((k : ℕ) (f : FunctionTree) → slice_get t.functions k ≡ Some f → FunctionKnown t f) → File s → File t
file_more s t a known h = record {
  alone = (h.alone.0, a.scopes ∙ h.alone.1);
  variables = a.variables;
  slots = a.slots;
  no_variables = λ name slot b m. h.no_variables name slot b (sym (ap (λ q. meaning q name) a.scopes) ∙ m);
  globals_named = λ name k b m.
      let g = h.globals_named name k b (sym (ap (λ q. meaning q name) a.scopes)
      ∙ m) in record { declared = g.declared; there = texts_keep s t a.texts k g.declared g.there; type = g.type; has = g.has };
  functions_named = λ name k m. subst (λ ds. FunctionTyped ds k) (sym a.declared) (h.functions_named name k (sym (ap (λ q. meaning q name) a.scopes) ∙ m));
  put = ap (λ ds. slice_get ds 0) a.declared ∙ h.put;
  get = ap (λ ds. slice_get ds 1) a.declared ∙ h.get;
  exit = ap (λ ds. slice_get ds 2) a.declared ∙ h.exit;
  structs = a.good;
  globals = globals_more s t a.structs.0 a.texts a.structs.1 a.good h.globals;
  functions = known;
}

-- ---- from one declaration to the next

pub record Moved (s t : State) : Type 0 where
  pub broken : t.broken ≡ None → s.broken ≡ None
  pub go : t.broken ≡ None → File s → Onward s t × File t × (t.functions ≡ s.functions)

pub moved_then : (r s t : State) → Moved r s → Moved s t → Moved r t
moved_then r s t a b = record {
  broken = λ h. a.broken (b.broken h);
  go = λ clean h. let p = a.go (b.broken clean) h in let q = b.go clean p.1 in (onward_then r s t p.0 q.0, q.1, q.2 ∙ p.2);
}

pub no_variables_after : (vs ws : List Variable) → vs ≡ [] → AreSame vs ws → ws ≡ []
no_variables_after [] [] e a = refl
no_variables_after [] (w ∷ ws) e a = absurd a
no_variables_after (v ∷ vs) ws e a = absurd (cc)

pub moved_step : (s t : State) → Step s t → Texts s t → Moved s t
moved_step s t a b = record {
  broken = a.broken;
  go = λ clean h. (
    onward_step s t a,
    file_more s t
        (record {
          scopes = a.scopes;
          variables = no_variables_after s.variables t.variables h.variables a.variables;
          slots = a.slots ∙ h.slots;
          declared = a.declared;
          texts = b;
          structs = ([], a.structs);
          good = subst AreDefinitions (sym a.structs) h.structs;
        })
        (λ k f q. known_later s t f a.scopes a.declared (h.functions k f (sym (ap (λ fs. slice_get fs k) a.functions) ∙ q))) h,
    a.functions,
  );
}
