-- Parameters have scalar types, and so have results or none.
use Rattle.std.proofs.Common.{◌≡◌, ℕ, Bool, true, false, List, [], ◌∷◌, ◌++◌, refl, sym, ◌∙◌, subst, append_assoc, append-nil}
use Rattle.std.specs.Prelude.{◌==◌, ◌&&◌, not, Option, None, Some, option_map, option_and_then, if◌then◌else◌}
use Rattle.std.proofs.lemmas.Bool.{false≢true}
use Rattle.c_ast.specs.Productions as l
use Rattle.c_ast.specs.Tree.{Tree, Node, Nil, Cons}
use Rattle.c_type.specs.Trees.{TypeTree, void_type, scalar_type, pointer_to, array_of, struct_type}
use Rattle.c_type.specs.Layout.{Definitions}
use Rattle.c_typed.specs.WellTyped.{IsScalar, IsScalarOrVoid}
use Rattle.c_check_scope.specs.Scopes.{Name, is_declared}
use Rattle.c_check_def.specs.declared.dimension.Dimension.{Dimension}
use Rattle.c_check_def.specs.declared.dimension.Dimension.TheVariants as dimension
use Rattle.c_check_def.specs.declared.meaning.Meaning.{Meaning}
use Rattle.c_check_def.specs.declared.meaning.Meaning.TheVariants as means
use Rattle.c_check_def.specs.declared.refusal_kind.RefusalKind.TheVariants.{Redeclared}
use Rattle.c_check_def.specs.State.{MaybeType, Variable, State, if_some, pure, add_variable}
use Rattle.c_check_def.specs.Leaves.{begin_of, count_of, is_present}
use Rattle.c_check_def.specs.Specifiers.{Specified, specified_type}
use Rattle.c_check_def.specs.DeclaredTypes.{array_by, arrays_of, size_of_dimension, sizes_of, other_is_empty, is_struct, type_if, small_type, unless_empty, starred, is_param_of, elements_specified, elements_type, adjusted, param_type, result_type}
use Rattle.c_check_def.specs.Declarators.{open_dimensions, is_fixed}
use Rattle.c_check_def.specs.Externals.{Param, param_name, param_offset, declare_if, param_at, param, more_params, is_lone_void, params}
use Rattle.c_check_laws.proofs.lemmas.States.{AreSame, same_self, stay, step_then}
use Rattle.c_check_laws.proofs.lemmas.Steps.{Steps, breaks_if_steps, if_some_steps, type_if_steps, small_type_steps, starred_steps, specified_type_steps}
use Rattle.c_check_laws.proofs.lemmas.Terms.{InRange}
use Rattle.c_check_laws.proofs.lemmas.Later.{Later, later_then, step_still, stay_still, add_variable_later}
use Rattle.c_check_laws.proofs.lemmas.StatementSteps.{open_dimensions_steps, unless_empty_steps, declare_later}
use Rattle.c_check_laws.proofs.lemmas.There.{IsThere}
use Rattle.c_check_laws.proofs.lemmas.ThereExpressions.{small_type_there}
use Rattle.c_check_laws.proofs.lemmas.Types.{IsNoArray, specified_no_array, DimensionFits, DimensionsFit, open_dimensions_fit, TypeThere, starred_typed}
use Rattle.c_check_laws.proofs.lemmas.Quiet.{Quiet, if_some_quiet, type_if_quiet, starred_quiet, specified_type_quiet, param_type_quiet, declare_if_quiet}
use Rattle.c_check_laws.proofs.lemmas.Texts.{Texts, same_globals, no_texts, texts_then}
use Rattle.c_check_laws.proofs.lemmas.StatementTexts.{open_dimensions_texts}

-- ---- types of parameters and results

adjusted_steps : (offset : ℕ) (t : MaybeType) (ds : List Dimension) → Steps (adjusted offset t ds)
adjusted_steps offset t [] s = stay s
adjusted_steps offset t (d ∷ ds) s = if_some_steps (elements_type t (size_of_dimension d) ds) (small_type offset) (small_type_steps offset) s

pub param_type_steps : (offset : ℕ) (x : Specified) (stars : ℕ) (ds : List Dimension) → Steps (param_type offset x stars ds)
param_type_steps offset x stars ds s =
    let u = starred (elements_specified x ds) stars offset s in
    let f = λ (t : TypeTree). type_if (not (is_param_of s.structs t ds)) offset t in
    let t = if_some u.0 f u.1 in
    let v = adjusted offset t.0 ds t.1 in
    step_then s u.1 _ (starred_steps (elements_specified x ds) stars offset s)
    (step_then u.1 t.1 _ (if_some_steps u.0 f (λ t. type_if_steps (not (is_param_of s.structs t ds)) offset t) u.1)
    (step_then t.1 v.1 _ (adjusted_steps offset t.0 ds t.1) (unless_empty_steps (other_is_empty ds) offset v.0 v.1)))

arrays_there : (ds : List Dimension) (t : MaybeType) → DimensionsFit ds → IsThere t → IsThere (arrays_of t (sizes_of ds))
arrays_there [] t h k = k
arrays_there (d ∷ ds) t h k = by_size d h.0 (arrays_of t (sizes_of ds)) (arrays_there ds t h.1 k)
  where
    by_size : (d : Dimension) → DimensionFits d → (u : MaybeType) → IsThere u → IsThere (option_and_then (array_by (size_of_dimension d)) u)
    by_size d h None k = absurd k
    by_size dimension.Empty h (Some u) k = tt
    by_size (dimension.Sized None) h (Some u) k = absurd h
    by_size (dimension.Sized (Some n)) h (Some u) k = tt

elements_there : (d : Dimension) (ds : List Dimension) (t : MaybeType) → DimensionFits d → DimensionsFit ds → IsThere t → IsThere (elements_type t (size_of_dimension d) ds)
elements_there dimension.Empty ds t h k m = arrays_there ds t k m
elements_there (dimension.Sized None) ds t h k m = absurd h
elements_there (dimension.Sized (Some n)) ds t h k m = arrays_there ds t k m

-- what may be a parameter by itself is scalar
param_scalar : (defs : Definitions) (t : TypeTree) → IsNoArray t → is_param_of defs t [] ≡ true → IsScalar t
param_scalar defs void_type h e = absurd (false≢true e)
param_scalar defs (scalar_type s) h e = tt
param_scalar defs (pointer_to t) h e = tt
param_scalar defs (array_of t n) h e = absurd h
param_scalar defs (struct_type tag) h e = absurd (false≢true e)

adjusted_typed : (offset : ℕ) (defs : Definitions) (ds : List Dimension) (t : TypeTree) (s : State) → DimensionsFit ds → IsNoArray t → is_param_of defs t ds ≡ true →
    (adjusted offset (Some t) ds s).1.broken ≡ None →
    TypeThere IsScalar (adjusted offset (Some t) ds s).0
adjusted_typed offset defs [] t s fit base e clean = record { type = t; there = refl; holds = param_scalar defs t base e }
adjusted_typed offset defs (d ∷ ds) t s fit base e clean = by_elements (elements_type (Some t) (size_of_dimension d) ds) (elements_there d ds (Some t) fit.0 fit.1 tt) clean
  where
    as_pointer : (o : MaybeType) → IsThere o → TypeThere IsScalar (option_map pointer_to o)
    as_pointer None k = absurd k
    as_pointer (Some u) k = record { type = pointer_to u; there = refl; holds = tt }

    by_elements : (o : MaybeType) → IsThere o → (if_some o (small_type offset) s).1.broken ≡ None → TypeThere IsScalar (option_map pointer_to (if_some o (small_type offset) s).0)
    by_elements None k c = absurd k
    by_elements (Some u) k c = as_pointer (small_type offset u s).0 (small_type_there offset u s c)

elements_no_array : (x : Specified) (ds : List Dimension) → IsNoArray x.type → IsNoArray (elements_specified x ds).type
elements_no_array x [] h = h
elements_no_array x (d ∷ ds) h = h

param_type_typed : (offset : ℕ) (x : Specified) (stars : ℕ) (ds : List Dimension) (s : State) → IsNoArray x.type → DimensionsFit ds → (param_type offset x stars ds s).1.broken ≡ None →
    TypeThere IsScalar (param_type offset x stars ds s).0
param_type_typed offset x stars ds s base fit clean =
    let y = elements_specified x ds in
    let u = starred y stars offset s in
    let f = λ (t : TypeTree). type_if (not (is_param_of s.structs t ds)) offset t in
    let t = if_some u.0 f u.1 in
    let v = adjusted offset t.0 ds t.1 in
    let cv = (unless_empty_steps (other_is_empty ds) offset v.0 v.1).broken clean in
    let ct = (adjusted_steps offset t.0 ds t.1).broken cv in
    let cu = (if_some_steps u.0 f (λ t. type_if_steps (not (is_param_of s.structs t ds)) offset t) u.1).broken ct in
    let k = starred_typed y stars offset s (elements_no_array x ds base) cu in
    by_type u.0 u.1 k clean
  where
    given : (wrong : Bool) (o : MaybeType) (q : State) → TypeThere IsScalar o → (unless_empty wrong offset o q).1.broken ≡ None → TypeThere IsScalar (unless_empty wrong offset o q).0
    given true o q k c = absurd (cc)
    given false o q k c = k

    by_test : (b : Bool) (t : TypeTree) (q : State) → is_param_of s.structs t ds ≡ b → IsNoArray t →
        (unless_empty (other_is_empty ds) offset (adjusted offset (type_if (not b) offset t q).0 ds (type_if (not b) offset t q).1).0
        (adjusted offset (type_if (not b) offset t q).0 ds (type_if (not b) offset t q).1).1).1.broken ≡ None →
        TypeThere IsScalar
        (unless_empty (other_is_empty ds) offset (adjusted offset (type_if (not b) offset t q).0 ds (type_if (not b) offset t q).1).0
        (adjusted offset (type_if (not b) offset t q).0 ds (type_if (not b) offset t q).1).1).0
    by_test true t q e n c =
        let v = adjusted offset (Some t) ds q in
        given (other_is_empty ds) v.0 v.1 (adjusted_typed offset s.structs ds t q fit n e ((unless_empty_steps (other_is_empty ds) offset v.0 v.1).broken c)) c
    by_test false t q e n c =
        let r = type_if true offset t q in
        let v = adjusted offset r.0 ds r.1 in
        let cr = (adjusted_steps offset r.0 ds r.1).broken ((unless_empty_steps (other_is_empty ds) offset v.0 v.1).broken c) in
        absurd (cc)

    by_type : (o : MaybeType) (q : State) → TypeThere IsNoArray o →
        (unless_empty (other_is_empty ds) offset (adjusted offset (if_some o (λ t. type_if (not (is_param_of s.structs t ds)) offset t) q).0 ds
        (if_some o (λ t. type_if (not (is_param_of s.structs t ds)) offset t) q).1).0
        (adjusted offset (if_some o (λ t. type_if (not (is_param_of s.structs t ds)) offset t) q).0 ds (if_some o (λ t. type_if (not (is_param_of s.structs t ds)) offset t) q).1).1).1.broken ≡ None →
        TypeThere IsScalar
        (unless_empty (other_is_empty ds) offset (adjusted offset (if_some o (λ t. type_if (not (is_param_of s.structs t ds)) offset t) q).0 ds
        (if_some o (λ t. type_if (not (is_param_of s.structs t ds)) offset t) q).1).0
        (adjusted offset (if_some o (λ t. type_if (not (is_param_of s.structs t ds)) offset t) q).0 ds (if_some o (λ t. type_if (not (is_param_of s.structs t ds)) offset t) q).1).1).0
    by_type None q k c = let none = k.there in absurd (cc)
    by_type (Some t) q k c = let same : k.type ≡ t = let e = k.there in cc in by_test (is_param_of s.structs t ds) t q refl (subst IsNoArray same k.holds) c

pub result_type_steps : (offset : ℕ) (x : Specified) (stars : ℕ) → Steps (result_type offset x stars)
result_type_steps offset x stars s =
    let t = starred x stars offset s in
    step_then s t.1 _ (starred_steps x stars offset s) (if_some_steps t.0 (λ t. type_if (is_struct t) offset t) (λ t. type_if_steps (is_struct t) offset t) t.1)

pub result_type_quiet : (offset : ℕ) (x : Specified) (stars : ℕ) → Quiet (result_type offset x stars)
result_type_quiet offset x stars s =
    let t = starred x stars offset s in
    if_some_quiet t.0 (λ t. type_if (is_struct t) offset t) (λ t. type_if_quiet (is_struct t) offset t) t.1 ∙ starred_quiet x stars offset s

pub result_type_typed : (offset : ℕ) (x : Specified) (stars : ℕ) (s : State) → IsNoArray x.type → (result_type offset x stars s).1.broken ≡ None →
    TypeThere IsScalarOrVoid (result_type offset x stars s).0
result_type_typed offset x stars s base clean =
    let t = starred x stars offset s in
    by_type t.0 t.1 (starred_typed x stars offset s base ((if_some_steps t.0 (λ t. type_if (is_struct t) offset t) (λ t. type_if_steps (is_struct t) offset t) t.1).broken clean)) clean
  where
    fits : (t : TypeTree) → IsNoArray t → is_struct t ≡ false → IsScalarOrVoid t
    fits void_type h e = tt
    fits (scalar_type s) h e = tt
    fits (pointer_to t) h e = tt
    fits (array_of t n) h e = absurd h
    fits (struct_type tag) h e = absurd (false≢true (sym e))

    by_test : (b : Bool) (t : TypeTree) (q : State) → is_struct t ≡ b → IsNoArray t → (type_if b offset t q).1.broken ≡ None → TypeThere IsScalarOrVoid (type_if b offset t q).0
    by_test true t q e n c = absurd (cc)
    by_test false t q e n c = record { type = t; there = refl; holds = fits t n e }

    by_type : (o : MaybeType) (q : State) → TypeThere IsNoArray o → (if_some o (λ t. type_if (is_struct t) offset t) q).1.broken ≡ None →
        TypeThere IsScalarOrVoid (if_some o (λ t. type_if (is_struct t) offset t) q).0
    by_type None q k c = let none = k.there in absurd (cc)
    by_type (Some t) q k c = let same : k.type ≡ t = let e = k.there in cc in by_test (is_struct t) t q refl (subst IsNoArray same k.holds) c

-- ---- parameters and their variables

abbrev pub ParamsAre : List Param → List Variable → Type 0
ParamsAre [] [] = Unit {0}
ParamsAre (p ∷ ps) (v ∷ vs) = ((t : TypeTree) × (p.type ≡ Some t) × (v.type ≡ Some t) × IsScalar t) × ParamsAre ps vs
ParamsAre ps vs = ⊥

pub params_same : (ps : List Param) (vs ws : List Variable) → ParamsAre ps vs → AreSame vs ws → ParamsAre ps ws
params_same [] [] [] h a = tt
params_same [] [] (w ∷ ws) h a = absurd a
params_same [] (v ∷ vs) ws h a = absurd h
params_same (p ∷ ps) [] ws h a = absurd h
params_same (p ∷ ps) (v ∷ vs) [] h a = absurd a
params_same (p ∷ ps) (v ∷ vs) (w ∷ ws) h a = ((h.0.0, h.0.1, a.0 ∙ h.0.2, h.0.3), params_same ps vs ws h.1 a.3)

params_append : (ps : List Param) (vs : List Variable) (p : Param) (v : Variable) → ParamsAre ps vs → (t : TypeTree) × (p.type ≡ Some t) × (v.type ≡ Some t) × IsScalar t →
    ParamsAre (ps ++ p ∷ []) (vs ++ v ∷ [])
params_append [] [] p v h k = (k, tt)
params_append [] (w ∷ vs) p v h k = absurd h
params_append (q ∷ ps) [] p v h k = absurd h
params_append (q ∷ ps) (w ∷ vs) p v h k = (h.0, params_append ps vs p v h.1 k)

pub record ParamsOut (s t : State) (ps : List Param) : Type 0 where
  pub later : Later s t
  pub texts : Texts s t
  pub are : t.broken ≡ None → (qs : List Param) → ParamsAre qs s.variables → ParamsAre (qs ++ ps) t.variables

params_stay : (s : State) → ParamsOut s s []
params_stay s = record { later = (stay_still s).later; texts = no_texts s; are = λ clean qs h. subst (λ ps. ParamsAre ps s.variables) (sym (append-nil qs)) h }

params_then : (r s t : State) (ps qs : List Param) → ParamsOut r s ps → ParamsOut s t qs → ParamsOut r t (ps ++ qs)
params_then r s t ps qs a b = record {
  later = later_then r s t a.later b.later;
  texts = texts_then r s t a.texts b.texts;
  are = λ clean xs h. subst (λ ys. ParamsAre ys t.variables) (append_assoc xs ps qs) (b.are clean (xs ++ ps) (a.are (b.later.broken clean) xs h));
}

declare_if_later : (name : Option Name) (offset : ℕ) (m : Meaning) (s : State) → Later s (declare_if name offset m s).1
declare_if_later None offset m s = (stay_still s).later
declare_if_later (Some name) offset m s = declare_later name offset m s

declare_if_same : (name : Option Name) (offset : ℕ) (m : Meaning) (s : State) → AreSame s.variables (declare_if name offset m s).1.variables
declare_if_same None offset m s = same_self s.variables
declare_if_same (Some name) offset m s = (breaks_if_steps (is_declared s.scopes name) Redeclared offset s).variables

param_at_out : (offset : ℕ) (is_const : Bool) (specifier stars name bounds : Tree) (s : State) → InRange bounds →
    ParamsOut s (param_at offset is_const specifier stars name bounds s).1 ((param_at offset is_const specifier stars name bounds s).0 ∷ [])
param_at_out offset is_const specifier stars name bounds s r =
    let x = specified_type specifier s in
    let ds = open_dimensions bounds x.1 in
    let t = param_type offset x.0 (count_of stars) ds.0 ds.1 in
    let fixed = is_fixed is_const (count_of stars) in
    let k = add_variable t.0 t.1 in
    let m = means.Variable k.0 fixed in
    let d = declare_if (param_name name) offset m k.1 in
    let sx = specified_type_steps specifier s in
    let sd = open_dimensions_steps bounds x.1 in
    let st = param_type_steps offset x.0 (count_of stars) ds.0 ds.1 in
    let steps = step_then s x.1 t.1 sx (step_then x.1 ds.1 t.1 sd st) in
    let declared = declare_if_later (param_name name) offset m k.1 in
    let v : Variable = record { type = t.0; is_taken = false; is_named = false } in
    let p : Param = record { name = param_name name; offset = offset; type = t.0; is_const = fixed } in
    record {
      later = later_then s t.1 d.1 (step_still s t.1 steps).later (later_then t.1 k.1 d.1 (add_variable_later t.0 t.1) declared);
      texts =
          texts_then s t.1 d.1
          (texts_then s x.1 t.1 (same_globals s x.1 (specified_type_quiet specifier s)) (texts_then x.1 ds.1 t.1 (open_dimensions_texts bounds x.1 r)
          (same_globals ds.1 t.1 (param_type_quiet offset x.0 (count_of stars) ds.0 ds.1))))
          (same_globals t.1 d.1 (declare_if_quiet (param_name name) offset m k.1));
      are = λ clean qs h.
          let ct = declared.broken clean in
          let typed = param_type_typed offset x.0 (count_of stars) ds.0 ds.1 (specified_no_array specifier s) (open_dimensions_fit bounds x.1 (st.broken ct)) ct in
          params_same (qs ++ p ∷ []) k.1.variables d.1.variables
          (params_append qs t.1.variables p v (params_same qs s.variables t.1.variables h steps.variables) (typed.type, typed.there, typed.there, typed.holds))
          (declare_if_same (param_name name) offset m k.1);
    }

param_out : (t : Tree) (s : State) → InRange t → ParamsOut s (param t s).1 (param t s).0
param_out (Node l.Param (Cons qualifier (Cons specifier (Cons stars (Cons name (Cons bounds none)))))) s r =
    param_at_out (param_offset (begin_of (Cons qualifier (Cons specifier Nil))) name) (is_present qualifier) specifier stars name bounds s r.1.1.1.1.0
param_out t s r = params_stay s

more_params_out : (t : Tree) (s : State) → InRange t → ParamsOut s (more_params t s).1 (more_params t s).0
more_params_out (Node (l.More k) (Cons before (Cons comma (Cons t none)))) s r =
    let ps = more_params before s in
    let p = param t ps.1 in
    params_then s ps.1 p.1 ps.0 p.0 (more_params_out before s r.0) (param_out t ps.1 r.1.1.0)
more_params_out t s r = params_stay s

pub params_out : (t : Tree) (s : State) → InRange t → ParamsOut s (params t s).1 (params t s).0
params_out (Node (l.Present k) (Cons first (Cons more none))) s r =
    let p = param first s in
    let ps = more_params more p.1 in
    by_test (is_lone_void first && count_of more == 0) (params_then s p.1 ps.1 p.0 ps.0 (param_out first s r.0) (more_params_out more p.1 r.1.0))
  where
    by_test : (b : Bool) → ParamsOut s (more_params more (param first s).1).1 ((param first s).0 ++ (more_params more (param first s).1).0) →
        ParamsOut s ((if b then pure [] else (λ s. ((param first s).0 ++ (more_params more (param first s).1).0, (more_params more (param first s).1).1))) s).1
        ((if b then pure [] else (λ s. ((param first s).0 ++ (more_params more (param first s).1).0, (more_params more (param first s).1).1))) s).0
    by_test true h = params_stay s
    by_test false h = h
params_out t s r = params_stay s
