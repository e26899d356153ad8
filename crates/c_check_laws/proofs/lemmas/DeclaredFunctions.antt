-- A function is declared, again with the same types, and defined once.
use Rattle.std.proofs.Common.{◌≡◌, ◌⊎◌, inl, inr, ℕ, Bool, true, false, List, [], ◌∷◌, ◌++◌, length, map, refl, sym, ap, ◌∙◌, subst, eqb-true, eq-eqb}
use Rattle.std.specs.Prelude.{◌==◌, ◌&&◌, ◌||◌, not, slice_get, slice_set, Option, None, Some}
use Rattle.std.proofs.lemmas.Bool.{false≢true, and_parts, not-false, not-true}
use Rattle.c_type.specs.Trees.{TypeTree, void_type}
use Rattle.c_type.specs.WellDefined.{AreDefinitions}
use Rattle.c_typed.specs.Typed.{FunctionTree}
use Rattle.c_typed.specs.WellTyped.{int, params_of}
use Rattle.c_check_def.proofs.lemmas.SameType.{same_type-true}
use Rattle.c_check_scope.specs.Scopes.{Name, Scope, meaning, with_declaration}
use Rattle.c_check_def.specs.declared.meaning.Meaning.{Meaning}
use Rattle.c_check_def.specs.declared.meaning.Meaning.TheVariants as means
use Rattle.c_check_def.specs.declared.refusal_kind.RefusalKind.{RefusalKind}
use Rattle.c_check_def.specs.declared.refusal_kind.RefusalKind.TheVariants.{Redeclared}
use Rattle.c_check_def.specs.State.{MaybeType, Declared, State, breaks_if, changed_by, changed}
use Rattle.c_check_def.specs.Externals.{agree, all_agree, may_follow, declared_again, function_meant, declare_function}
use Rattle.c_check_laws.proofs.lemmas.States.{AllTypes, declared_as}
use Rattle.c_check_laws.proofs.lemmas.Steps.{breaks_if_steps, get_append}
use Rattle.c_check_laws.proofs.lemmas.Terms.{get_end, set_there}
use Rattle.c_check_laws.proofs.lemmas.Labels.{not_wrong}
use Rattle.c_check_laws.proofs.lemmas.Locals.{declared_meaning}
use Rattle.c_check_laws.proofs.lemmas.Declared.{set_other}
use Rattle.c_check_laws.proofs.lemmas.There.{GlobalTyped, FunctionTyped}
use Rattle.c_check_laws.proofs.lemmas.File.{StillDeclared, still_declared, Onward, GlobalsFit, FunctionKnown, File}
use Rattle.c_check_laws.proofs.lemmas.Names.{kept_new, new_meaning}

-- ---- a file, whatever its variables

pub record Core (s : State) : Type 0 where
  pub alone : (x : Scope Meaning) × (s.scopes ≡ x ∷ [])
  pub slots : s.slots ≡ []
  pub no_variables : (name : Name) (slot : ℕ) (is_const : Bool) → meaning s.scopes name ≡ Some (means.Variable slot is_const) → ⊥
  pub globals_named : (name : Name) (k : ℕ) (is_const : Bool) → meaning s.scopes name ≡ Some (means.Global k is_const) → GlobalTyped s k
  pub functions_named : (name : Name) (k : ℕ) → meaning s.scopes name ≡ Some (means.Function k) → FunctionTyped s.declared k
  pub put : slice_get s.declared 0 ≡ Some (declared_as int (Some int ∷ []))
  pub get : slice_get s.declared 1 ≡ Some (declared_as int [])
  pub exit : slice_get s.declared 2 ≡ Some (declared_as void_type (Some int ∷ []))
  pub structs : AreDefinitions s.structs
  pub globals : GlobalsFit s
  pub functions : (k : ℕ) (f : FunctionTree) → slice_get s.functions k ≡ Some f → FunctionKnown s f

pub core_of : (s : State) → File s → Core s
core_of s h = record {
  alone = h.alone;
  slots = h.slots;
  no_variables = h.no_variables;
  globals_named = h.globals_named;
  functions_named = h.functions_named;
  put = h.put;
  get = h.get;
  exit = h.exit;
  structs = h.structs;
  globals = h.globals;
  functions = h.functions;
}

pub file_cleared : (s : State) → Core s → File (record s { variables = [] })
file_cleared s h = record {
  alone = h.alone;
  variables = refl;
  slots = h.slots;
  no_variables = h.no_variables;
  globals_named = λ name k b m. let g = h.globals_named name k b m in record { declared = g.declared; there = g.there; type = g.type; has = g.has };
  functions_named = h.functions_named;
  put = h.put;
  get = h.get;
  exit = h.exit;
  structs = h.structs;
  globals = h.globals;
  functions = λ k f q.
      let r = h.functions k f q in record { number = r.number; meant = r.meant; declared = r.declared; there = r.there; defined = r.defined; result = r.result; takes = r.takes };
}

-- ---- types agree

agree_is : (a b : MaybeType) (t u : TypeTree) → a ≡ Some t → b ≡ Some u → agree a b ≡ true → t ≡ u
agree_is None b t u p q h = absurd (cc)
agree_is (Some x) None t u p q h = absurd (cc)
agree_is (Some x) (Some y) t u p q h =
    let first : x ≡ t = cc in
    let second : y ≡ u = cc in
    sym first ∙ same_type-true x y h ∙ second

all_agree_is : (ps qs : List MaybeType) (ts us : List TypeTree) → AllTypes ps ts → AllTypes qs us → all_agree ps qs ≡ true → AllTypes ps us
all_agree_is [] [] [] [] p q h = tt
all_agree_is [] [] [] (u ∷ us) p q h = absurd q
all_agree_is [] [] (t ∷ ts) us p q h = absurd p
all_agree_is [] (b ∷ qs) ts us p q h = absurd (false≢true h)
all_agree_is (a ∷ ps) [] ts us p q h = absurd (false≢true h)
all_agree_is (a ∷ ps) (b ∷ qs) [] us p q h = absurd p
all_agree_is (a ∷ ps) (b ∷ qs) (t ∷ ts) [] p q h = absurd q
all_agree_is (a ∷ ps) (b ∷ qs) (t ∷ ts) (u ∷ us) p q h =
    let parts = and_parts (agree a b) (all_agree ps qs) h in
    (p.0 ∙ ap Some (agree_is a b t u p.0 q.0 parts.0), all_agree_is ps qs ts us p.1 q.1 parts.1)

-- ---- what a declaration of a function leads to

pub record FunctionOut (name : Name) (f : Declared) (t : TypeTree) (ts : List TypeTree) (s r : State) : Type 0 where
  pub core : Core r
  pub onward : Onward s r
  pub number : ℕ
  pub meant : meaning r.scopes name ≡ Some (means.Function number)
  pub declared : Declared
  pub there : slice_get r.declared number ≡ Some declared
  pub result : declared.result ≡ Some t
  pub takes : AllTypes declared.params ts
  pub defined : f.is_defined ≡ true → declared.is_defined ≡ true
  pub fresh : f.is_defined ≡ true → (k : ℕ) (g : Declared) → meaning s.scopes name ≡ Some (means.Function k) → slice_get s.declared k ≡ Some g → g.is_defined ≡ true → ⊥
  pub variables : r.variables ≡ s.variables
  pub functions : r.functions ≡ s.functions
  pub structs : r.structs ≡ s.structs
  pub globals : r.globals ≡ s.globals

-- a function that was not declared
new_function : (name : Name) (f : Declared) (t : TypeTree) (ts : List TypeTree) (s : State) → f.result ≡ Some t → AllTypes f.params ts → Core s → meaning s.scopes name ≡ None →
    FunctionOut name f t ts s (record s { declared = s.declared ++ f ∷ []; scopes = with_declaration s.scopes name (means.Function (length s.declared)) })
new_function name f t ts s result params h none =
    let n = length s.declared in
    let m = means.Function n in
    let x = h.alone.0 in
    let is = h.alone.1 in
    let kept : (asked : Name) (k : Meaning) → meaning s.scopes asked ≡ Some k → meaning (with_declaration s.scopes name m) asked ≡ Some k =
    λ asked k q.
    ap (λ sc. meaning (with_declaration sc name m) asked) is
    ∙ kept_new x name m asked k (sym (ap (λ sc. meaning sc name) is) ∙ none) (sym (ap (λ sc. meaning sc asked) is) ∙ q) in
    record {
      core = record {
        alone = ((name, m) ∷ x, ap (λ sc. with_declaration sc name m) is);
        slots = h.slots;
        no_variables = λ asked slot b q. no_variable asked slot b q (declared_meaning s.scopes name m asked);
        globals_named = λ asked k b q. by_global asked k b q (declared_meaning s.scopes name m asked);
        functions_named = λ asked k q. by_function asked k q (declared_meaning s.scopes name m asked);
        put = get_append s.declared (f ∷ []) 0 _ h.put;
        get = get_append s.declared (f ∷ []) 1 _ h.get;
        exit = get_append s.declared (f ∷ []) 2 _ h.exit;
        structs = h.structs;
        globals = h.globals;
        functions = λ k g q.
            let r = h.functions k g q in
            record {
              number = r.number;
              meant = kept g.name (means.Function r.number) r.meant;
              declared = r.declared;
              there = get_append s.declared
                  (f ∷ []) r.number r.declared r.there;
              defined = r.defined;
              result = r.result;
              takes = r.takes;
            };
      };
      onward = record {
        broken = λ q. q;
        structs = ([], refl);
        defined = refl;
        globals = λ k g q. q;
        declared = λ k d q. still_declared d (s.declared ++ f ∷ []) k (get_append s.declared (f ∷ []) k d q);
        functions = λ k g q. q;
        names = λ clean asked k q. kept asked k q;
      };
      number = n;
      meant = ap (λ sc. meaning (with_declaration sc name m) name) is ∙ new_meaning x name m;
      declared = f;
      there = get_end s.declared f;
      result = result;
      takes = params;
      defined = λ q. q;
      fresh = λ q k g e. let both : None ≡ Some (means.Function k) = sym none ∙ e in absurd (cc);
      variables = refl;
      functions = refl;
      structs = refl;
      globals = refl;
    }
  where
    Meant : Name → Type 0
    Meant asked = (meaning (with_declaration s.scopes name (means.Function (length s.declared))) asked ≡ Some (means.Function (length s.declared))) ⊎
        (meaning (with_declaration s.scopes name (means.Function (length s.declared))) asked ≡ meaning s.scopes asked)

    no_variable : (asked : Name) (slot : ℕ) (b : Bool) → meaning (with_declaration s.scopes name (means.Function (length s.declared))) asked ≡ Some (means.Variable slot b) → Meant asked → ⊥
    no_variable asked slot b q (inl a) = let both : Some (means.Function (length s.declared)) ≡ Some (means.Variable slot b) = sym a ∙ q in cc
    no_variable asked slot b q (inr a) = h.no_variables asked slot b (sym a ∙ q)

    by_global : (asked : Name) (k : ℕ) (b : Bool) → meaning (with_declaration s.scopes name (means.Function (length s.declared))) asked ≡ Some (means.Global k b) → Meant asked →
        GlobalTyped (record s { declared = s.declared ++ f ∷ []; scopes = with_declaration s.scopes name (means.Function (length s.declared)) }) k
    by_global asked k b q (inl a) = absurd (let both : Some (means.Function (length s.declared)) ≡ Some (means.Global k b) = sym a ∙ q in cc)
    by_global asked k b q (inr a) = let g = h.globals_named asked k b (sym a ∙ q) in record { declared = g.declared; there = g.there; type = g.type; has = g.has }

    by_function : (asked : Name) (k : ℕ) → meaning (with_declaration s.scopes name (means.Function (length s.declared))) asked ≡ Some (means.Function k) → Meant asked →
        FunctionTyped (s.declared ++ f ∷ []) k
    by_function asked k q (inl a) =
        let same : length s.declared ≡ k = let both : Some (means.Function (length s.declared)) ≡ Some (means.Function k) = sym a ∙ q in cc in
        subst (FunctionTyped (s.declared ++ f ∷ [])) same (record { function = f; there = get_end s.declared f; result = t; has = result; types = ts; takes = params })
    by_function asked k q (inr a) =
        let g = h.functions_named asked k (sym a ∙ q) in
        record { function = g.function; there = get_append s.declared (f ∷ []) k g.function g.there; result = g.result; has = g.has; types = g.types; takes = g.takes }

-- a function that was declared before, with the same types
again_function : (name : Name) (f : Declared) (t : TypeTree) (ts : List TypeTree) (s : State) (k : ℕ) (g : Declared) → f.result ≡ Some t → AllTypes f.params ts → Core s →
    meaning s.scopes name ≡ Some (means.Function k) → slice_get s.declared k ≡ Some g → g.result ≡ Some t → AllTypes g.params ts → (g.is_defined && f.is_defined) ≡ false →
    FunctionOut name f t ts s (record s { declared = changed (declared_again f) k s.declared })
again_function name f t ts s k g result params h meant there same_result same_params once =
    let new = declared_again f g in
    let after : changed (declared_again f) k s.declared ≡ slice_set s.declared k new = ap (λ x. changed_by (declared_again f) x k s.declared) there in
    let here : slice_get (changed (declared_again f) k s.declared) k ≡ Some new = ap (λ ds. slice_get ds k) after ∙ set_there s.declared k g new there in
    let still : (j : ℕ) (d : Declared) → slice_get s.declared j ≡ Some d → StillDeclared d (changed (declared_again f) k s.declared) j =
    λ j d q. by_place j d q here after (j == k) refl in
    record {
      core = record {
        alone = h.alone;
        slots = h.slots;
        no_variables = h.no_variables;
        globals_named = λ asked j b m. let x = h.globals_named asked j b m in record { declared = x.declared; there = x.there; type = x.type; has = x.has };
        functions_named = λ asked j m.
            let x = h.functions_named asked j m in
            let y = still j x.function x.there in
            record { function = y.later; there = y.there; result = x.result; has = y.result ∙ x.has; types = x.types; takes = subst (λ ps. AllTypes ps x.types) (sym y.params) x.takes };
        put = predeclared_there 0 (declared_as int (Some int ∷ [])) refl (still 0 _ h.put);
        get = predeclared_there 1 (declared_as int []) refl (still 1 _ h.get);
        exit = predeclared_there 2 (declared_as void_type (Some int ∷ [])) refl (still 2 _ h.exit);
        structs = h.structs;
        globals = h.globals;
        functions = λ j x q.
            let r = h.functions j x q in
            let y = still r.number r.declared r.there in
            record {
              number = r.number;
              meant = r.meant;
              declared = y.later;
              there = y.there;
              defined = y.defined r.defined;
              result = y.result
                  ∙ r.result;
              takes = subst (λ ps. AllTypes ps (map (λ v. v.type) (params_of x))) (sym y.params) r.takes;
            };
      };
      onward = record { broken = λ q. q; structs = ([], refl); defined = refl; globals = λ j x q. q; declared = still; functions = λ j x q. q; names = λ clean asked m q. q };
      number = k;
      meant = meant;
      declared = new;
      there = here;
      result = same_result;
      takes = same_params;
      defined = λ q. or_right g.is_defined f.is_defined q;
      fresh = λ q j x e z d.
          let place : k ≡ j = let both : Some (means.Function k) ≡ Some (means.Function j) = sym meant ∙ e in cc in
          let is : g ≡ x = let both : Some g ≡ Some x = sym there ∙ ap (slice_get s.declared) place ∙ z in cc in
          let bad : (g.is_defined && f.is_defined) ≡ true = λ i. (ap (λ (d : Declared). d.is_defined) is ∙ d) i && q i in
          false≢true (sym once ∙ bad);
      variables = refl;
      functions = refl;
      structs = refl;
      globals = refl;
    }
  where
    or_right : (a b : Bool) → b ≡ true → (a || b) ≡ true
    or_right true b e = refl
    or_right false b e = e

    or_left : (a b : Bool) → a ≡ true → (a || b) ≡ true
    or_left true b e = refl
    or_left false b e = absurd (false≢true e)

    by_place : (j : ℕ) (d : Declared) → slice_get s.declared j ≡ Some d → slice_get (changed (declared_again f) k s.declared) k ≡ Some (declared_again f g) →
        changed (declared_again f) k s.declared ≡ slice_set s.declared k (declared_again f g) → (b : Bool) → (j == k) ≡ b → StillDeclared d (changed (declared_again f) k s.declared) j
    by_place j d q here after true e =
        let place : j ≡ k = eqb-true j k e in
        let is : g ≡ d = let both : Some g ≡ Some d = sym there ∙ ap (slice_get s.declared) (sym place) ∙ q in cc in
        record {
          later = declared_again f g;
          there = ap (slice_get (changed (declared_again f) k s.declared)) place ∙ here;
          result = ap (λ (d : Declared). d.result) is;
          params = ap (λ (d : Declared). d.params) is;
          defined = λ p. or_left g.is_defined f.is_defined (ap (λ (d : Declared). d.is_defined) is ∙ p);
        }
    by_place j d q here after false e =
        still_declared d (changed (declared_again f) k s.declared) j (ap (λ ds. slice_get ds j) after ∙ set_other s.declared k j (declared_again f g) (λ r. false≢true (sym e ∙ eq-eqb j k r)) ∙ q)

    predeclared_there : (j : ℕ) (d : Declared) → d.is_defined ≡ true → StillDeclared d (changed (declared_again f) k s.declared) j → slice_get (changed (declared_again f) k s.declared) j ≡ Some d
    predeclared_there j d e y =
        let same : y.later ≡ d = λ i. record { result = y.result i; params = y.params i; is_defined = (y.defined e ∙ sym e) i } in
        y.there ∙ ap Some same

-- ---- the declaration

function_broken : (name : Name) (offset : ℕ) (f : Declared) (m : Option Meaning) (s : State) → (function_meant name offset f m s).1.broken ≡ None → s.broken ≡ None
function_broken name offset f None s clean = clean
function_broken name offset f (Some (means.Function k)) s clean = (breaks_if_steps (not (may_follow (slice_get s.declared k) f)) Redeclared offset s).broken clean
function_broken name offset f (Some (means.Variable slot b)) s clean = absurd (cc)
function_broken name offset f (Some (means.Global k b)) s clean = absurd (cc)

pub declare_function_broken : (name : Name) (offset : ℕ) (f : Declared) (s : State) → (declare_function name offset f s).1.broken ≡ None → s.broken ≡ None
declare_function_broken name offset f s clean = function_broken name offset f (meaning s.scopes name) s clean

nothing_breaks : (wrong : Bool) (rule : RefusalKind) (offset : ℕ) (s : State) → wrong ≡ false → (breaks_if wrong rule offset s).1 ≡ s
nothing_breaks true rule offset s e = absurd (false≢true (sym e))
nothing_breaks false rule offset s e = refl

function_out : (name : Name) (offset : ℕ) (f : Declared) (t : TypeTree) (ts : List TypeTree) (m : Option Meaning) (s : State) → f.result ≡ Some t → AllTypes f.params ts → Core s →
    meaning s.scopes name ≡ m →
    (function_meant name offset f m s).1.broken ≡ None → FunctionOut name f t ts s (function_meant name offset f m s).1
function_out name offset f t ts None s result params h e clean = new_function name f t ts s result params h e
function_out name offset f t ts (Some (means.Variable slot b)) s result params h e clean = absurd (cc)
function_out name offset f t ts (Some (means.Global k b)) s result params h e clean = absurd (cc)
function_out name offset f t ts (Some (means.Function k)) s result params h e clean =
    let g = h.functions_named name k e in
    let wrong = not (may_follow (slice_get s.declared k) f) in
    let none = not_wrong wrong Redeclared offset s clean in
    let may : may_follow (Some g.function) f ≡ true = sym (ap (λ x. may_follow x f) g.there) ∙ not-false (may_follow (slice_get s.declared k) f) none in
    let parts = and_parts (agree g.function.result f.result && all_agree g.function.params f.params) (not (g.function.is_defined && f.is_defined)) may in
    let both = and_parts (agree g.function.result f.result) (all_agree g.function.params f.params) parts.0 in
    let same : g.function.result ≡ Some t = g.has ∙ ap Some (agree_is g.function.result f.result g.result t g.has result both.0) in
    let takes = all_agree_is g.function.params f.params g.types ts g.takes params both.1 in
    let once = not-true (g.function.is_defined && f.is_defined) parts.1 in
    subst (λ b. FunctionOut name f t ts s (record b { declared = changed (declared_again f) k b.declared })) (sym (nothing_breaks wrong Redeclared offset s none))
    (again_function name f t ts s k g.function result params h e g.there same takes once)

pub declare_function_out : (name : Name) (offset : ℕ) (f : Declared) (t : TypeTree) (ts : List TypeTree) (s : State) → f.result ≡ Some t → AllTypes f.params ts → Core s →
    (declare_function name offset f s).1.broken ≡ None → FunctionOut name f t ts s (declare_function name offset f s).1
declare_function_out name offset f t ts s result params h clean = function_out name offset f t ts (meaning s.scopes name) s result params h refl clean
