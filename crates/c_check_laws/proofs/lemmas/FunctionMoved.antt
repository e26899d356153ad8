-- A function leads from one state of a file to the next.
use Rattle.std.proofs.Common.{◌≡◌, ◌≤◌, ◌⊎◌, inl, inr, ℕ, suc, Bool, true, false, List, [], ◌∷◌, ◌++◌, length, map, refl, sym, ap, ◌∙◌, subst, arith}
use Rattle.std.specs.Prelude.{slice_get, ◌||◌, Option, None, Some, unwrap_or, if◌then◌else◌}
use Rattle.c_ast.specs.Productions as l
use Rattle.c_ast.specs.Tree.{Tree, Node, Cons}
use Rattle.c_type.specs.Trees.{TypeTree, void_type}
use Rattle.c_type.specs.WellDefined.{AreDefinitions}
use Rattle.c_typed.specs.Typed.{FunctionTree}
use Rattle.c_typed.specs.WellTyped.{IsScalarOrVoid, params_of, FunctionIsTyped}
use Rattle.c_check_scope.specs.Scopes.{Name, same_name, meaning, outer}
use Rattle.c_check_scope.specs.Names.{has_name, with_name}
use Rattle.c_check_def.specs.State.{MaybeType, Declared, Variable, State}
use Rattle.c_check_def.specs.Leaves.{end_of}
use Rattle.c_check_def.specs.Specifiers.{Specified}
use Rattle.c_check_def.specs.DeclaredTypes.{result_type}
use Rattle.c_check_def.specs.Statements.{Jumps, items}
use Rattle.c_check_def.specs.Externals.{Param, params, declare_function, bind_params, name_params, function_tree, function_body, is_block, function}
use Rattle.c_check_def.specs.Check.{with_defined, program_of}
use Rattle.c_check_laws.proofs.lemmas.States.{AllTypes}
use Rattle.c_check_laws.proofs.lemmas.Terms.{InRange, get_end}
use Rattle.c_check_laws.proofs.lemmas.Later.{Later, later_then, HasScope, entered, left}
use Rattle.c_check_laws.proofs.lemmas.StatementSteps.{WellShaped, items_later}
use Rattle.c_check_laws.proofs.lemmas.Locals.{get_append_cases}
use Rattle.c_check_laws.proofs.lemmas.Types.{IsNoArray}
use Rattle.c_check_laws.proofs.lemmas.Parts.{Layouts}
use Rattle.c_check_laws.proofs.lemmas.Texts.{Texts, same_globals, texts_then}
use Rattle.c_check_laws.proofs.lemmas.GoesLocals.{declarations}
use Rattle.c_check_laws.proofs.lemmas.GoesStatements.{items_goes}
use Rattle.c_check_laws.proofs.lemmas.File.{Onward, onward_step, onward_then, still_declared, FunctionKnown, known_later, File, file_more, Moved, moved_step}
use Rattle.c_check_laws.proofs.lemmas.Params.{result_type_steps, result_type_quiet, result_type_typed, ParamsAre, params_same, params_out}
use Rattle.c_check_scope.proofs.lemmas.Latest.{same-equal}
use Rattle.c_check_laws.proofs.lemmas.DeclaredFunctions.{Core, core_of, file_cleared, FunctionOut, declare_function_broken, declare_function_out}
use Rattle.c_check_laws.proofs.lemmas.FunctionBodies.{name_params_steps, name_params_quiet, bind_out, params_types, Entry, Ended}
use Rattle.c_check_laws.proofs.lemmas.TypedFunctions.{body_typed}
use Rattle.c_check_laws.proofs.lemmas.Steps.{get_append}

-- ---- states that differ in variables

core_with : (s : State) (vs : List Variable) → Core s → Core (record s { variables = vs })
core_with s vs h = record {
  alone = h.alone;
  slots = h.slots;
  no_variables = h.no_variables;
  globals_named = λ name k b m. let g = h.globals_named name k b m in record { declared = g.declared; there = g.there; type = g.type; has = g.has };
  functions_named = h.functions_named;
  put = h.put;
  get = h.get;
  exit = h.exit;
  structs = h.structs;
  globals = h.globals;
  functions = λ k f q.
      let r = h.functions k f q in record { number = r.number; meant = r.meant; declared = r.declared; there = r.there; defined = r.defined; result = r.result; takes = r.takes };
}

known_with : (s : State) (vs : List Variable) (f : FunctionTree) → FunctionKnown s f → FunctionKnown (record s { variables = vs }) f
known_with s vs f r = record { number = r.number; meant = r.meant; declared = r.declared; there = r.there; defined = r.defined; result = r.result; takes = r.takes }

core_more : (s t : State) → t.scopes ≡ s.scopes → t.slots ≡ [] → t.declared ≡ s.declared → Texts s t → t.structs ≡ s.structs →
    ((k : ℕ) (f : FunctionTree) → slice_get t.functions k ≡ Some f → FunctionKnown t f) →
    Core s → Core t
core_more s t scopes slots declared texts structs known h =
    core_with (record t { variables = [] }) t.variables
    (core_of (record t { variables = [] })
    (file_more (record s { variables = [] }) (record t { variables = [] })
    (record {
      scopes = scopes;
      variables = refl;
      slots = slots;
      declared = declared;
      texts = record { added = texts.added; globals = texts.globals; texts = texts.texts };
      structs = ([], structs);
      good = subst AreDefinitions (sym structs) h.structs;
    })
    (λ k f q. known_with t [] f (known k f q)) (file_cleared s h)))

core_scope : (s : State) → Core s → HasScope s
core_scope s h = subst (λ sc. outer ([] ∷ sc) ≡ sc) (sym h.alone.1) refl

-- what a scope of its own leaves
left_onward : (s t : State) → HasScope s → Later (entered s) t → Onward s (left s t)
left_onward s t g a = record {
  broken = a.broken;
  structs = ([], a.structs);
  defined = a.defined;
  globals = a.globals;
  declared = λ k f q. still_declared f t.declared k (ap (λ ds. slice_get ds k) a.declared ∙ q);
  functions = λ k f q. ap (λ fs. slice_get fs k) a.functions ∙ q;
  names = λ clean name m q. ap (λ sc. meaning sc name) (a.outer ∙ g) ∙ q;
}

cleared_onward : (s : State) → Onward s (record s { variables = [] })
cleared_onward s = record {
  broken = λ q. q;
  structs = ([], refl);
  defined = refl;
  globals = λ k g q. q;
  declared = λ k f q. still_declared f s.declared k q;
  functions = λ k f q. q;
  names = λ clean name m q. q;
}

left_core : (s t : State) → Core s → Later (entered s) t → Texts (entered s) t → Core (left s t)
left_core s t h a b =
    let scopes = a.outer ∙ core_scope s h in
    core_more s (left s t) scopes h.slots a.declared (record { added = b.added; globals = b.globals; texts = b.texts }) a.structs
    (λ k f q. known_later s (left s t) f scopes a.declared (h.functions k f (sym (ap (λ fs. slice_get fs k) a.functions) ∙ q))) h

-- ---- types of parameters

params_have : (ps : List Param) (vs : List Variable) → ParamsAre ps vs → (ts : List TypeTree) × AllTypes (map (λ (p : Param). p.type) ps) ts
params_have [] [] h = ([], tt)
params_have [] (v ∷ vs) h = absurd h
params_have (p ∷ ps) [] h = absurd h
params_have (p ∷ ps) (v ∷ vs) h = let r = params_have ps vs h.1 in (h.0.0 ∷ r.0, (h.0.1, r.1))

pub all_types_same : (ps : List MaybeType) (ts us : List TypeTree) → AllTypes ps ts → AllTypes ps us → ts ≡ us
all_types_same [] [] [] h k = refl
all_types_same [] [] (u ∷ us) h k = absurd k
all_types_same [] (t ∷ ts) us h k = absurd h
all_types_same (p ∷ ps) [] us h k = absurd h
all_types_same (p ∷ ps) (t ∷ ts) [] h k = absurd k
all_types_same (p ∷ ps) (t ∷ ts) (u ∷ us) h k =
    let same : t ≡ u = let both : Some t ≡ Some u = sym h.0 ∙ k.0 in cc in
    λ i. same i ∷ all_types_same ps ts us h.1 k.1 i

-- ---- names of functions

abbrev pub names_of : List FunctionTree → List Name
names_of fs = map (λ (f : FunctionTree). f.name) fs

not_among : (name : Name) (fs : List FunctionTree) → ((k : ℕ) (f : FunctionTree) → slice_get fs k ≡ Some f → f.name ≡ name → ⊥) → has_name (names_of fs) name ≡ false
not_among name [] h = refl
not_among name (f ∷ fs) h = by_test (same_name name f.name) refl (not_among name fs (λ k g q e. h (suc k) g q e))
  where
    by_test : (b : Bool) → same_name name f.name ≡ b → has_name (names_of fs) name ≡ false → (b || has_name (names_of fs) name) ≡ false
    by_test true e k = absurd (h 0 f refl (sym (same-equal name f.name e)))
    by_test false e k = k

names_append : (fs : List FunctionTree) (f : FunctionTree) → names_of (fs ++ f ∷ []) ≡ names_of fs ++ f.name ∷ []
names_append [] f = refl
names_append (g ∷ fs) f = ap (λ ns. g.name ∷ ns) (names_append fs f)

new_name : (name : Name) (fs : List FunctionTree) → has_name (names_of fs) name ≡ false → with_name (names_of fs) name ≡ names_of fs ++ name ∷ []
new_name name fs e = ap (λ b. if b then names_of fs else names_of fs ++ name ∷ []) e

-- ---- what an external declaration leads to

abbrev pub AreTyped : State → List FunctionTree → Type 0
AreTyped z fs = (k : ℕ) (f : FunctionTree) → slice_get fs k ≡ Some f → FunctionIsTyped (program_of z) f

pub record ExternalOut (name : Option Name) (s t : State) : Type 0 where
  pub broken : t.broken ≡ None → s.broken ≡ None
  pub go : t.broken ≡ None → File s → Onward s t × File t × (names_of t.functions ≡ with_defined (names_of s.functions) name)
  pub typed : (z : State) → Ended z → t.broken ≡ None → File s → Onward t z → AreTyped z s.functions → AreTyped z t.functions

pub moved_out : (s t : State) → Moved s t → ExternalOut None s t
moved_out s t a = record {
  broken = a.broken;
  go = λ clean h. let p = a.go clean h in (p.0, p.1, ap names_of p.2);
  typed = λ z e clean h onward k j f q. k j f (ap (λ fs. slice_get fs j) (sym (a.go clean h).2) ∙ q);
}

-- a body is a block with items, or no block
abbrev pub IsBody : Tree → Type 0
IsBody (Node l.Block (Cons opening (Cons xs (Cons closing none)))) = Unit {0}
IsBody (Node l.Block children) = ⊥
IsBody t = Unit {0}

abbrev pub defined_name : Name → Tree → Option Name
defined_name name (Node l.Block children) = Some name
defined_name name t = None

-- the state before the body, where the function was declared
record Declaring (name : Name) (f : Declared) (u : TypeTree) (ps : List Param) (s d : State) : Type 0 where
  core : Core s
  onward : Onward s d
  types : List TypeTree
  takes : AllTypes (map (λ (p : Param). p.type) ps) types
  base : State
  out : FunctionOut name f u types base d
  before : Core base
  same : base.functions ≡ s.functions
  params : ParamsAre ps d.variables

new_known : (b : State) (new : FunctionTree) (fs : List FunctionTree) (m : ℕ) (g : FunctionTree) → FunctionKnown b new → (slice_get fs m ≡ Some g → FunctionKnown b g) →
    (slice_get fs m ≡ Some g) ⊎ ((m ≡ length fs) × (new ≡ g)) → FunctionKnown b g
new_known b new fs m g a old (inl e) = old e
new_known b new fs m g a old (inr e) = subst (FunctionKnown b) e.1 a

new_typed : (z : State) (new : FunctionTree) (fs : List FunctionTree) (m : ℕ) (g : FunctionTree) → FunctionIsTyped (program_of z) new → (slice_get fs m ≡ Some g → FunctionIsTyped (program_of z) g) →
    (slice_get fs m ≡ Some g) ⊎ ((m ≡ length fs) × (new ≡ g)) → FunctionIsTyped (program_of z) g
new_typed z new fs m g a old (inl e) = old e
new_typed z new fs m g a old (inr e) = subst (FunctionIsTyped (program_of z)) e.1 a

block_out : (y : Layouts) (name : Name) (offset starts : ℕ) (r : MaybeType) (u : TypeTree) (ps : List Param) (f : Declared) (opening xs closing none : Tree) (s d : State) → f.is_defined ≡ true →
    unwrap_or r void_type ≡ u →
    (d.broken ≡ None → (r ≡ Some u) × IsScalarOrVoid u) → InRange xs → WellShaped xs → declarations xs ≤ 200000 →
    (d.broken ≡ None → File s → Declaring name f u ps s d) → (d.broken ≡ None → s.broken ≡ None) →
    ExternalOut (Some name) s (record (function_body name offset starts r ps (Node l.Block (Cons opening (Cons xs (Cons closing none)))) d).1 { variables = [] })
block_out y name offset starts r u ps f opening xs closing none s d defined is result range shape few declaring back =
    let j : Jumps = record { may_break = false; may_continue = false; result = r } in
    let n = (name_params ps d).1 in
    let sn = name_params_steps ps d in
    let t = (bind_params 0 ps (entered n)).1 in
    let bound = bind_out 0 ps (entered n) in
    let i = items j xs t in
    let later = later_then (entered n) t i.1 bound.later (items_later j xs t shape (bound.later.scope refl)) in
    let goes = items_goes j xs t range shape (bound.later.scope refl) in
    let w = left n i.1 in
    let new = function_tree name offset starts (end_of closing) r (length ps) i.1.variables i.0 in
    let b = record w { functions = w.functions ++ new ∷ [] } in
    let z1 = record b { variables = [] } in
    let texts : Texts (entered n) i.1 = texts_then (entered n) t i.1 (same_globals (entered n) t bound.globals) goes.texts in
    let core_n : Declaring name f u ps s d → Core n =
    λ k.
    core_more d n sn.scopes (sn.slots ∙ k.out.core.slots) sn.declared (same_globals d n (name_params_quiet ps d)) sn.structs
    (λ m g q. known_later d n g sn.scopes sn.declared (k.out.core.functions m g (sym (ap (λ fs. slice_get fs m) sn.functions) ∙ q))) k.out.core in
    let entry : Declaring name f u ps s d → Entry ps n t = λ k. record { core = core_n k; params = params_same ps d.variables n.variables k.params sn.variables; bound = bound } in
    let n_to_b : Core n → Onward n b =
    λ h.
    let o = left_onward n i.1 (core_scope n h) later in
    record {
      broken = o.broken;
      structs = o.structs;
      defined = o.defined;
      globals = o.globals;
      declared = o.declared;
      functions = λ m g q. get_append w.functions (new ∷ []) m g
          (o.functions m g q);
      names = o.names;
    } in
    let clean_d : z1.broken ≡ None → d.broken ≡ None = λ clean. sn.broken (later.broken clean) in
    let known : (k : Declaring name f u ps s d) → FunctionKnown b new =
    λ k.
    let h = core_n k in
    let scopes = later.outer ∙ core_scope n h in
    let us = map (λ v. v.type) (params_of new) in
    let is_types : k.types ≡ us = all_types_same (map (λ (p : Param). p.type) ps) k.types us k.takes (params_types ps n.variables i.1.variables (entry k).params later.variables) in
    record {
      number = k.out.number;
      meant = ap (λ sc. meaning sc name) (scopes ∙ sn.scopes) ∙ k.out.meant;
      declared = k.out.declared;
      there = ap (λ ds. slice_get ds k.out.number) (later.declared ∙ sn.declared) ∙ k.out.there;
      defined = k.out.defined defined;
      result = k.out.result ∙ ap Some (sym is);
      takes = subst (AllTypes k.out.declared.params) is_types k.out.takes;
    } in
    record {
      broken = λ clean. back (clean_d clean);
      go = λ clean h.
          let k = declaring (clean_d clean) h in
          let cn = core_n k in
          let scopes = later.outer ∙ core_scope n cn in
          let onward_n = onward_step d n sn in
          let all = onward_then s d z1 k.onward (onward_then d n z1 onward_n (onward_then n b z1 (n_to_b cn) (cleared_onward b))) in
          let old : w.functions ≡ s.functions = later.functions ∙ sn.functions ∙ k.out.functions ∙ k.same in
          let core_b = core_more n b scopes cn.slots later.declared (record { added = texts.added; globals = texts.globals; texts = texts.texts }) later.structs
          (λ m g q. new_known b new w.functions m g (known k) (λ e. known_later n b g scopes later.declared (cn.functions m g (sym (ap (λ fs. slice_get fs m) later.functions) ∙ e)))
          (get_append_cases w.functions new g m q)) cn in
          let fresh = not_among name s.functions (λ m g q e.
          let x = k.before.functions m g (ap (λ fs. slice_get fs m) k.same ∙ q) in
          k.out.fresh defined x.number x.declared (ap (meaning k.base.scopes) (sym e) ∙ x.meant) x.there x.defined) in
          (all, file_cleared b core_b, ap (λ fs. names_of (fs ++ new ∷ [])) old ∙ names_append s.functions new ∙ sym (new_name name s.functions fresh));
      typed = λ z e clean h onward typed_s m g q.
          let k = declaring (clean_d clean) h in
          let cn = core_n k in
          let old : w.functions ≡ s.functions = later.functions ∙ sn.functions ∙ k.out.functions ∙ k.same in
          let b_to_z = onward_then b z1 z (cleared_onward b) onward in
          let at_end = b_to_z.functions (length w.functions) new (get_end w.functions new) in
          let most = e.few (length w.functions) new at_end in
          let whole = body_typed y n t z ps xs r u name offset starts (end_of closing) e (onward_then n b z (n_to_b cn) b_to_z) (entry k) (result (clean_d clean)).0
          (result (clean_d clean)).1 range shape clean b_to_z.globals (omega (arith, most, few)) in
          new_typed z new w.functions m g whole (λ q. typed_s m g (ap (λ fs. slice_get fs m) (sym old) ∙ q)) (get_append_cases w.functions new g m q);
    }

-- ---- functions

-- the state where the function is declared
function_declaring : (name : Name) (offset : ℕ) (is_defined : Bool) (x : Specified) (stars : ℕ) (xs : Tree) (s : State) → IsNoArray x.type → InRange xs →
    (let t = result_type offset x stars s in
    let q = params xs (entered t.1) in
    let l = left t.1 q.1 in
    let f : Declared = record { result = t.0; params = map (λ (p : Param). p.type) q.0; is_defined = is_defined } in
    let d = (declare_function name offset f l).1 in
    d.broken ≡ None → File s → Declaring name f (unwrap_or t.0 void_type) q.0 s d)
function_declaring name offset is_defined x stars xs s base r clean h =
    let t = result_type offset x stars s in
    let q = params xs (entered t.1) in
    let l = left t.1 q.1 in
    let f : Declared = record { result = t.0; params = map (λ (p : Param). p.type) q.0; is_defined = is_defined } in
    let d = (declare_function name offset f l).1 in
    let out = params_out xs (entered t.1) r in
    let cq : q.1.broken ≡ None = declare_function_broken name offset f l clean in
    let ct = out.later.broken cq in
    let st = result_type_steps offset x stars s in
    let first = moved_step s t.1 st (same_globals s t.1 (result_type_quiet offset x stars s)) in
    let ft = (first.go ct h).1 in
    let core_t = core_of t.1 ft in
    let core_l = left_core t.1 q.1 core_t out.later out.texts in
    let k = result_type_typed offset x stars s base ct in
    let some : t.0 ≡ Some (unwrap_or t.0 void_type) = k.there ∙ ap Some (sym (ap (λ o. unwrap_or o void_type) k.there)) in
    let are : ParamsAre q.0 q.1.variables = out.are cq [] (subst (ParamsAre []) (sym ft.variables) tt) in
    let ts = params_have q.0 q.1.variables are in
    let o = declare_function_out name offset f (unwrap_or t.0 void_type) ts.0 l some ts.1 core_l clean in
    record {
      core = core_of s h;
      onward = onward_then s t.1 d (onward_step s t.1 st) (onward_then t.1 l d (left_onward t.1 q.1 (core_scope t.1 core_t) out.later) o.onward);
      types = ts.0;
      takes = ts.1;
      base = l;
      out = o;
      before = core_l;
      same = out.later.functions ∙ st.functions;
      params = subst (ParamsAre q.0) (sym o.variables) are;
    }

plain_out : (name : Name) (f : Declared) (u : TypeTree) (ps : List Param) (s d : State) → (d.broken ≡ None → File s → Declaring name f u ps s d) → (d.broken ≡ None → s.broken ≡ None) →
    ExternalOut None s (record d { variables = [] })
plain_out name f u ps s d declaring back = record {
  broken = back;
  go = λ clean h.
      let k = declaring clean h in
      (onward_then s d (record d { variables = [] }) k.onward (cleared_onward d), file_cleared d k.out.core, ap names_of (k.out.functions ∙ k.same));
  typed = λ z e clean h onward typed_s m g q. let k = declaring clean h in typed_s m g (ap (λ fs. slice_get fs m) (sym (k.out.functions ∙ k.same)) ∙ q);
}

pub function_moves : (y : Layouts) (starts : ℕ) (x : Specified) (stars : ℕ) (name : Name) (offset : ℕ) (xs body : Tree) (s : State) → IsNoArray x.type → InRange xs → InRange body →
    WellShaped body → IsBody body →
    declarations body ≤ 200000 → ExternalOut (defined_name name body) s (function starts x stars name offset xs body s).1
function_moves y starts x stars name offset xs (Node l.Block (Cons opening (Cons is (Cons closing none)))) s base rx r w b few =
    let t = result_type offset x stars s in
    let q = params xs (entered t.1) in
    let l = left t.1 q.1 in
    let f : Declared = record { result = t.0; params = map (λ (p : Param). p.type) q.0; is_defined = true } in
    let d = (declare_function name offset f l).1 in
    let out = params_out xs (entered t.1) rx in
    let to_t : d.broken ≡ None → t.1.broken ≡ None = λ clean. out.later.broken (declare_function_broken name offset f l clean) in
    block_out y name offset starts t.0 (unwrap_or t.0 void_type) q.0 f opening is closing none s d refl refl (λ clean.
    let k = result_type_typed offset x stars s base (to_t clean) in
    let value : unwrap_or t.0 void_type ≡ k.type = ap (λ o. unwrap_or o void_type) k.there in
    (k.there ∙ ap Some (sym value), subst IsScalarOrVoid (sym value) k.holds)) r.1.0 w.1.0 (omega (arith, few)) (function_declaring name offset true x stars xs s base rx)
    (λ clean. (result_type_steps offset x stars s).broken (to_t clean))
function_moves y starts x stars name offset xs (Node l.Block children) s base rx r w b few = absurd b
function_moves y starts x stars name offset xs body s base rx r w b few =
    let t = result_type offset x stars s in
    let q = params xs (entered t.1) in
    let l = left t.1 q.1 in
    let f : Declared = record { result = t.0; params = map (λ (p : Param). p.type) q.0; is_defined = is_block body } in
    let d = (declare_function name offset f l).1 in
    let out = params_out xs (entered t.1) rx in
    plain_out name f (unwrap_or t.0 void_type) q.0 s d (function_declaring name offset (is_block body) x stars xs s base rx)
    (λ clean. (result_type_steps offset x stars s).broken (out.later.broken (declare_function_broken name offset f l clean)))
