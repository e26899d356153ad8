-- A declaration of globals leads from one state of a file to the next.
use Rattle.std.proofs.Common.{◌≡◌, ◌⊎◌, inl, inr, ℕ, Bool, true, false, [], ◌∷◌, length, refl, sym, ap, ◌∙◌, subst, arith}
use Rattle.std.specs.Prelude.{slice_get, None, Some, option_and_then}
use Rattle.std.proofs.lemmas.Bool.{false≢true}
use Rattle.c_ast.specs.Productions as l
use Rattle.c_ast.specs.Tree.{Tree, Node, Cons}
use Rattle.c_type.specs.Trees.{TypeTree}
use Rattle.c_type.specs.Layout.{is_complete, leaves}
use Rattle.c_type.specs.WellDefined.{AreDefinitions}
use Rattle.c_typed.specs.Typed.{FunctionTree}
use Rattle.c_typed.specs.WellTyped.{WrittenFits}
use Rattle.c_check_scope.specs.Scopes.{Name, meaning, is_declared, with_declaration}
use Rattle.c_check_def.specs.declared.meaning.Meaning.{Meaning}
use Rattle.c_check_def.specs.declared.meaning.Meaning.TheVariants as means
use Rattle.c_check_def.specs.declared.refusal_kind.RefusalKind.TheVariants.{Redeclared}
use Rattle.c_check_def.specs.State.{MaybeType, Global, State, breaks_if, if_some, declare, add_global, change_global}
use Rattle.c_check_def.specs.Leaves.{offset_of, name_of, count_of, is_present}
use Rattle.c_check_def.specs.Specifiers.{Specified}
use Rattle.c_check_def.specs.DeclaredTypes.{small_type, object_type}
use Rattle.c_check_def.specs.Initialisers.{Elements, value, initialiser, completed, written}
use Rattle.c_check_def.specs.Declarators.{written_in, open_dimensions, is_fixed, initialise_global, global_declarator, global_declared, more_globals}
use Rattle.c_check_laws.proofs.lemmas.States.{stay, step_then, NamesFit}
use Rattle.c_check_laws.proofs.lemmas.Steps.{breaks_if_steps}
use Rattle.c_check_laws.proofs.lemmas.Terms.{InRange}
use Rattle.c_check_laws.proofs.lemmas.Labels.{not_wrong}
use Rattle.c_check_laws.proofs.lemmas.StatementSteps.{MayBegin, WellShaped, open_dimensions_steps, object_type_steps, initialiser_steps, completed_type_steps}
use Rattle.c_check_laws.proofs.lemmas.There.{GlobalTyped, FunctionTyped}
use Rattle.c_check_laws.proofs.lemmas.Types.{IsNoArray, open_dimensions_fit, object_type_typed, LaidOrOpen}
use Rattle.c_check_laws.proofs.lemmas.Parts.{Layouts}
use Rattle.c_check_laws.proofs.lemmas.Locals.{Uncompleted, Completed, completed_fits, declared_meaning}
use Rattle.c_check_laws.proofs.lemmas.Declared.{set_length, small_is, names_same}
use Rattle.c_check_laws.proofs.lemmas.Quiet.{breaks_if_quiet, object_type_quiet}
use Rattle.c_check_laws.proofs.lemmas.Texts.{same_globals, texts_then, no_texts}
use Rattle.c_check_laws.proofs.lemmas.StatementTexts.{initialiser_texts, open_dimensions_texts}
use Rattle.c_check_laws.proofs.lemmas.Goes.{Named, names_typed, no_array_value}
use Rattle.c_check_laws.proofs.lemmas.File.{Onward, still_declared, GlobalFits, FunctionKnown, File, Moved, moved_then, moved_step, nothing_at}
use Rattle.c_check_laws.proofs.lemmas.Names.{kept_meaning}
use Rattle.c_check_laws.proofs.lemmas.Globals.{ending_now, names_now, names_global, static_fits, change_is, all_fit, Begun, begun_step, begun_change, begun_bound, begun_added}

-- ---- the file after the declaration

record GlobalOut (name : Name) (k : ℕ) (fixed : Bool) (s t : State) : Type 0 where
  global : Global
  begun : Begun k s t global
  scopes : t.scopes ≡ with_declaration s.scopes name (means.Global k fixed)
  fits : GlobalFits t.structs (length t.globals) global

-- other names keep their meanings
name_kept : (name : Name) (m : Meaning) (s t : State) → File s → is_declared s.scopes name ≡ false → t.scopes ≡ with_declaration s.scopes name m → (asked : Name) (n : Meaning) →
    meaning s.scopes asked ≡ Some n →
    meaning t.scopes asked ≡ Some n
name_kept name m s t h new scopes asked n q =
    let x = h.alone.0 in
    let is = h.alone.1 in
    ap (λ sc. meaning sc asked) (scopes ∙ ap (λ sc. with_declaration sc name m) is)
    ∙ kept_meaning x name m asked n (sym (ap (λ sc. is_declared sc name) is) ∙ new) (sym (ap (λ sc. meaning sc asked) is) ∙ q)

global_onward : (name : Name) (k : ℕ) (fixed : Bool) (s t : State) → (t.broken ≡ None → s.broken ≡ None) → File s → is_declared s.scopes name ≡ false → GlobalOut name k fixed s t → Onward s t
global_onward name k fixed s t clean h new o = record {
  broken = clean;
  structs = ([], o.begun.structs);
  defined = o.begun.defined;
  globals = o.begun.kept;
  declared = λ j f q. still_declared f t.declared j (ap (λ ds. slice_get ds j) o.begun.declared ∙ q);
  functions = λ j f q. ap (λ fs. slice_get fs j) o.begun.functions ∙ q;
  names = λ c asked n q. name_kept name (means.Global k fixed) s t h new o.scopes asked n q;
}

global_file : (name : Name) (k : ℕ) (fixed : Bool) (s t : State) → File s → is_declared s.scopes name ≡ false → GlobalOut name k fixed s t → File t
global_file name k fixed s t h new o =
    let b = o.begun in
    let m = means.Global k fixed in
    let alone = h.alone in
    record {
      alone = ((name, m) ∷ alone.0, o.scopes ∙ ap (λ sc. with_declaration sc name m) alone.1);
      variables = b.variables;
      slots = b.slots;
      no_variables = λ asked slot c q. no_variable asked slot c (sym (ap (λ sc. meaning sc asked) o.scopes) ∙ q) (declared_meaning s.scopes name m asked);
      globals_named = λ asked j c q. by_global asked j c (sym (ap (λ sc. meaning sc asked) o.scopes) ∙ q) (declared_meaning s.scopes name m asked);
      functions_named = λ asked j q. subst (λ ds. FunctionTyped ds j) (sym b.declared) (by_function asked j (sym (ap (λ sc. meaning sc asked) o.scopes) ∙ q) (declared_meaning s.scopes name m asked));
      put = ap (λ ds. slice_get ds 0) b.declared ∙ h.put;
      get = ap (λ ds. slice_get ds 1) b.declared ∙ h.get;
      exit = ap (λ ds. slice_get ds 2) b.declared ∙ h.exit;
      structs = subst AreDefinitions (sym b.structs) h.structs;
      globals = all_fit k t b.others (λ g q. let same : o.global ≡ g = let both : Some o.global ≡ Some g = sym b.there ∙ q in cc in subst (GlobalFits t.structs (length t.globals)) same o.fits);
      functions = λ j f q. known f (h.functions j f (sym (ap (λ fs. slice_get fs j) b.functions) ∙ q));
    }
  where
    Meant : Name → Type 0
    Meant asked = (meaning (with_declaration s.scopes name (means.Global k fixed)) asked ≡ Some (means.Global k fixed)) ⊎
        (meaning (with_declaration s.scopes name (means.Global k fixed)) asked ≡ meaning s.scopes asked)

    no_variable : (asked : Name) (slot : ℕ) (c : Bool) → meaning (with_declaration s.scopes name (means.Global k fixed)) asked ≡ Some (means.Variable slot c) → Meant asked → ⊥
    no_variable asked slot c q (inl a) = let both : Some (means.Global k fixed) ≡ Some (means.Variable slot c) = sym a ∙ q in cc
    no_variable asked slot c q (inr a) = h.no_variables asked slot c (sym a ∙ q)

    by_global : (asked : Name) (j : ℕ) (c : Bool) → meaning (with_declaration s.scopes name (means.Global k fixed)) asked ≡ Some (means.Global j c) → Meant asked → GlobalTyped t j
    by_global asked j c q (inl a) =
        let same : k ≡ j = let both : Some (means.Global k fixed) ≡ Some (means.Global j c) = sym a ∙ q in cc in
        subst (GlobalTyped t) same (record { declared = o.global; there = o.begun.there; type = o.fits.type; has = o.fits.has })
    by_global asked j c q (inr a) = let g = h.globals_named asked j c (sym a ∙ q) in record { declared = g.declared; there = o.begun.kept j g.declared g.there; type = g.type; has = g.has }

    by_function : (asked : Name) (j : ℕ) → meaning (with_declaration s.scopes name (means.Global k fixed)) asked ≡ Some (means.Function j) → Meant asked → FunctionTyped s.declared j
    by_function asked j q (inl a) = absurd (let both : Some (means.Global k fixed) ≡ Some (means.Function j) = sym a ∙ q in cc)
    by_function asked j q (inr a) = h.functions_named asked j (sym a ∙ q)

    known : (f : FunctionTree) → FunctionKnown s f → FunctionKnown t f
    known f q = record {
      number = q.number;
      meant = name_kept name (means.Global k fixed) s t h new o.scopes f.name (means.Function q.number) q.meant;
      declared = q.declared;
      there = ap (λ ds. slice_get ds q.number) o.begun.declared ∙ q.there;
      defined = q.defined;
      result = q.result;
      takes = q.takes;
    }

-- ---- the initialiser

-- the state where the name of the global was declared
record Ready (name : Name) (k : ℕ) (fixed : Bool) (s t : State) (u : TypeTree) : Type 0 where
  file : File s
  global : Global
  begun : Begun k s t global
  scopes : t.scopes ≡ with_declaration s.scopes name (means.Global k fixed)
  type : global.type ≡ Some u
  empty : global.written ≡ []

ready_named : (name : Name) (k : ℕ) (fixed : Bool) (s t : State) (u : TypeTree) → Ready name k fixed s t u → Named t
ready_named name k fixed s t u o = record {
  there = λ j v q. absurd (nothing_at t.variables j v o.begun.variables q);
  slots = λ asked slot c q. absurd (no_variable asked slot c (sym (ap (λ sc. meaning sc asked) o.scopes) ∙ q) (declared_meaning s.scopes name (means.Global k fixed) asked));
  variables = λ slot j q. absurd (nothing_at t.slots slot j o.begun.slots q);
  globals = λ asked j c q. by_global asked j c (sym (ap (λ sc. meaning sc asked) o.scopes) ∙ q) (declared_meaning s.scopes name (means.Global k fixed) asked);
  functions = λ asked j q. subst (λ ds. FunctionTyped ds j) (sym o.begun.declared)
      (by_function asked j (sym (ap (λ sc. meaning sc asked) o.scopes) ∙ q) (declared_meaning s.scopes name (means.Global k fixed) asked));
}
  where
    Meant : Name → Type 0
    Meant asked = (meaning (with_declaration s.scopes name (means.Global k fixed)) asked ≡ Some (means.Global k fixed)) ⊎
        (meaning (with_declaration s.scopes name (means.Global k fixed)) asked ≡ meaning s.scopes asked)

    no_variable : (asked : Name) (slot : ℕ) (c : Bool) → meaning (with_declaration s.scopes name (means.Global k fixed)) asked ≡ Some (means.Variable slot c) → Meant asked → ⊥
    no_variable asked slot c q (inl a) = let both : Some (means.Global k fixed) ≡ Some (means.Variable slot c) = sym a ∙ q in cc
    no_variable asked slot c q (inr a) = o.file.no_variables asked slot c (sym a ∙ q)

    by_global : (asked : Name) (j : ℕ) (c : Bool) → meaning (with_declaration s.scopes name (means.Global k fixed)) asked ≡ Some (means.Global j c) → Meant asked → GlobalTyped t j
    by_global asked j c q (inl a) =
        let same : k ≡ j = let both : Some (means.Global k fixed) ≡ Some (means.Global j c) = sym a ∙ q in cc in
        subst (GlobalTyped t) same (record { declared = o.global; there = o.begun.there; type = u; has = o.type })
    by_global asked j c q (inr a) = let g = o.file.globals_named asked j c (sym a ∙ q) in record { declared = g.declared; there = o.begun.kept j g.declared g.there; type = g.type; has = g.has }

    by_function : (asked : Name) (j : ℕ) → meaning (with_declaration s.scopes name (means.Global k fixed)) asked ≡ Some (means.Function j) → Meant asked → FunctionTyped s.declared j
    by_function asked j q (inl a) = absurd (let both : Some (means.Global k fixed) ≡ Some (means.Function j) = sym a ∙ q in cc)
    by_function asked j q (inr a) = o.file.functions_named asked j (sym a ∙ q)

ready_names : (name : Name) (k : ℕ) (fixed : Bool) (s t z : State) (u : TypeTree) → Ready name k fixed s t u → NamesFit (ending_now s z) t
ready_names name k fixed s t z u o =
    let e = ending_now s z in
    let m = means.Global k fixed in
    let b = record s { scopes = with_declaration s.scopes name m } in
    names_same e b t o.scopes (o.begun.slots ∙ sym o.file.slots) (ap length o.begun.variables ∙ sym (ap length o.file.variables)) o.begun.declared o.begun.defined
    (names_global e name k fixed s (names_now s z o.file))

-- what is left once the initialiser and the whole type are known
WithType : Name → ℕ → Bool → State → Elements × State → MaybeType × State → Type 0
WithType name k fixed s es u =
    (change_global k (λ g. record g { type = u.0; written = written_in u.0 es.0 }) u.1).1.broken ≡ None →
    GlobalOut name k fixed s (change_global k (λ g. record g { type = u.0; written = written_in u.0 es.0 }) u.1).1

begun_global : (y : Layouts) (name : Name) (k : ℕ) (fixed : Bool) (x : Tree) (s t : State) (u : TypeTree) (c : Completed t.structs x u) → Ready name k fixed s t u → InRange x →
    WithType name k fixed s (initialiser true (Some c.type) 0 x t) (Some c.type, (initialiser true (Some c.type) 0 x t).1)
unfolding WithType
begun_global y name k fixed x s t u c o r clean =
    let es = initialiser true (Some c.type) 0 x t in
    let steps = initialiser_steps true (Some c.type) 0 x t in
    let f : Global → Global = λ g. record g { type = Some c.type; written = written es.0 } in
    let z = (change_global k f es.1).1 in
    let b = begun_step k s t es.1 o.global o.file.structs o.begun steps (initialiser_texts true (Some c.type) 0 x t r) in
    let bz = begun_change k f s es.1 o.global b in
    let good = subst AreDefinitions (sym o.begun.structs) o.file.structs in
    let complete = by_whole c.whole clean in
    let lengths : length z.globals ≡ length es.1.globals = same_length es.1 o.global b.there in
    let fits = static_fits y s t x c.type (ready_names name k fixed s t es.1 u o) o.begun.variables good complete r clean (length z.globals) (omega (arith, lengths)) in
    record {
      global = f o.global;
      begun = bz;
      scopes = steps.scopes ∙ o.scopes;
      fits = record {
        type = c.type;
        has = refl;
        complete = ap (λ d. is_complete d c.type) steps.structs ∙ complete;
        written = subst (λ d. WrittenFits (leaves d c.type) (length z.globals) 0 (written es.0)) (sym steps.structs) fits;
      };
    }
  where
    same_length : (q : State) (g : Global) → slice_get q.globals k ≡ Some g →
        length (change_global k (λ g. record g { type = Some c.type; written = written (initialiser true (Some c.type) 0 x t).0 }) q).1.globals ≡ length q.globals
    same_length q g there = ap length (change_is k _ q.globals g there) ∙ set_length q.globals k _

    by_whole : (is_complete t.structs c.type ≡ true) ⊎ Uncompleted x c.type → (initialiser true (Some c.type) 0 x t).1.broken ≡ None → is_complete t.structs c.type ≡ true
    by_whole (inl w) q = w
    by_whole (inr w) q =
        let value_clean : (value true (Some c.type) 0 x t).1.broken ≡ None = ap (λ (p : Elements × State). p.1.broken) (sym (w.one true t)) ∙ q in
        absurd (no_array_value true w.element 0 x t w.shape (names_typed t (ready_named name k fixed s t u o)) (subst (λ u. (value true (Some u) 0 x t).1.broken ≡ None) w.array value_clean))

initialised_global : (y : Layouts) (name : Name) (k : ℕ) (fixed : Bool) (offset : ℕ) (may : Bool) (begun : Tree) (s t : State) (u : TypeTree) → Ready name k fixed s t u → MayBegin begun →
    InRange begun →
    may ≡ is_present begun → LaidOrOpen t.structs may u → (initialise_global k offset (Some u) begun t).1.broken ≡ None → GlobalOut name k fixed s (initialise_global k offset (Some u) begun t).1
unfolding WithType
initialised_global y name k fixed offset may (Node (l.Present o) (Cons equal (Cons x none))) s t u h m r p laid clean =
    let c = completed_fits t.structs may x u laid m in
    by_type c (completed x u) c.there clean
  where
    by_type : (c : Completed t.structs x u) (o : MaybeType) → o ≡ Some c.type → WithType name k fixed s (initialiser true o 0 x t) (if_some o (small_type offset) (initialiser true o 0 x t).1)
    by_type c None q clean = absurd (cc)
    by_type c (Some v) q clean =
        let same : c.type ≡ v = cc in
        let es = initialiser true (Some v) 0 x t in
        let core : WithType name k fixed s es (Some v, es.1) =
        subst (λ v. WithType name k fixed s (initialiser true (Some v) 0 x t) (Some v, (initialiser true (Some v) 0 x t).1)) same (begun_global y name k fixed x s t u c h r.1.0) in
        subst (λ z. WithType name k fixed s es z) (sym (small_is offset v es.1 clean)) core clean
initialised_global y name k fixed offset may (Node (l.Present o) children) s t u h m r p laid clean = absurd m
initialised_global y name k fixed offset may begun s t u h m r p laid clean =
    let b = h.begun in
    record {
      global = h.global;
      begun = b;
      scopes = h.scopes;
      fits = record {
        type = u;
        has = h.type;
        complete = by_laid (subst (λ b. LaidOrOpen t.structs b u) p laid);
        written = subst (WrittenFits (leaves t.structs u) (length t.globals) 0) (sym h.empty) tt;
      };
    }
  where
    by_laid : LaidOrOpen t.structs false u → is_complete t.structs u ≡ true
    by_laid (inl laid) = laid.complete
    by_laid (inr o) = absurd (false≢true o.may_be)

initialise_broken : (k offset : ℕ) (o : MaybeType) (begun : Tree) (t : State) → (initialise_global k offset o begun t).1.broken ≡ None → t.broken ≡ None
initialise_broken k offset o (Node (l.Present p) (Cons equal (Cons x none))) t clean =
    let es = initialiser true (option_and_then (completed x) o) 0 x t in
    (initialiser_steps true (option_and_then (completed x) o) 0 x t).broken ((completed_type_steps offset x o es.1).broken clean)
initialise_broken k offset o begun t clean = clean

-- ---- declarators

pub global_declarator_moved : (y : Layouts) (x : Specified) (is_const : Bool) (stars : ℕ) (name : Name) (offset : ℕ) (bounds begun : Tree) (s : State) → IsNoArray x.type → InRange bounds →
    InRange begun →
    MayBegin begun → Moved s (global_declarator x is_const stars name offset bounds begun s).1
global_declarator_moved y x is_const stars name offset bounds begun s base rb r m =
    let fixed = is_fixed is_const stars in
    let may = is_present begun in
    let g : Global = record { offset = offset; type = None; is_variable = true; fixed = fixed; written = [] } in
    let k = length s.globals in
    let a = (add_global g s).1 in
    let ds = open_dimensions bounds a in
    let t = object_type may offset x stars ds.0 ds.1 in
    let f : Global → Global = λ g. record g { type = t.0 } in
    let c = (change_global k f t.1).1 in
    let again = is_declared c.scopes name in
    let b = (breaks_if again Redeclared offset c).1 in
    let d = (declare name offset (means.Global k fixed) c).1 in
    let z = (initialise_global k offset t.0 begun d).1 in
    let sd = open_dimensions_steps bounds a in
    let st = object_type_steps may offset x stars ds.0 ds.1 in
    let sb = breaks_if_steps again Redeclared offset c in
    let both = step_then a ds.1 t.1 sd st in
    let to_s : z.broken ≡ None → s.broken ≡ None = λ clean. both.broken (sb.broken (initialise_broken k offset t.0 begun d clean)) in
    record {
      broken = to_s;
      go = λ clean h.
          let cb : b.broken ≡ None = initialise_broken k offset t.0 begun d clean in
          let ct = sb.broken cb in
          let typed = object_type_typed may offset x stars ds.0 ds.1 base (open_dimensions_fit bounds a (st.broken ct)) ct in
          let ba = begun_added s g h in
          let bt = begun_step k s a t.1 g h.structs ba both (texts_then a ds.1 t.1 (open_dimensions_texts bounds a rb) (same_globals ds.1 t.1 (object_type_quiet may offset x stars ds.0 ds.1))) in
          let bc = begun_change k f s t.1 g bt in
          let bb = begun_step k s c b (f g) h.structs bc sb (same_globals c b (breaks_if_quiet again Redeclared offset c)) in
          let bd = begun_bound name k (means.Global k fixed) s b (f g) bb in
          let scopes : d.scopes ≡ with_declaration s.scopes name (means.Global k fixed) = ap (λ sc. with_declaration sc name (means.Global k fixed)) (sb.scopes ∙ both.scopes) in
          let new : is_declared s.scopes name ≡ false = sym (ap (λ sc. is_declared sc name) both.scopes) ∙ not_wrong again Redeclared offset c cb in
          let laid = subst (λ e. LaidOrOpen e may typed.type) (sym (sb.structs ∙ st.structs)) typed.holds in
          let o = by_type t.0 typed.type typed.there d (record { file = h; global = f g; begun = bd; scopes = scopes; type = typed.there; empty = refl }) laid clean in
          (global_onward name k fixed s z to_s h new o, global_file name k fixed s z h new o, o.begun.functions);
    }
  where
    by_type : (o : MaybeType) (u : TypeTree) → o ≡ Some u → (d : State) → Ready name (length s.globals) (is_fixed is_const stars) s d u → LaidOrOpen d.structs (is_present begun) u →
        (initialise_global (length s.globals) offset o begun d).1.broken ≡ None →
        GlobalOut name (length s.globals) (is_fixed is_const stars) s (initialise_global (length s.globals) offset o begun d).1
    by_type None u e d h laid clean = absurd (cc)
    by_type (Some v) u e d h laid clean =
        let same : u ≡ v = cc in
        initialised_global y name (length s.globals) (is_fixed is_const stars) offset (is_present begun) begun s d v
        (subst (Ready name (length s.globals) (is_fixed is_const stars) s d) same h) m r refl
        (subst (LaidOrOpen d.structs (is_present begun)) same laid) clean

global_declared_moved : (y : Layouts) (x : Specified) (is_const : Bool) (t : Tree) (s : State) → IsNoArray x.type → InRange t → WellShaped t → Moved s (global_declared x is_const t s).1
global_declared_moved y x is_const (Node l.Decl (Cons stars (Cons name (Cons bounds (Cons begun none))))) s base r w =
    global_declarator_moved y x is_const (count_of stars) (name_of name) (offset_of name) bounds begun s base r.1.1.0 r.1.1.1.0 w
global_declared_moved y x is_const t s base r w = moved_step s s (stay s) (no_texts s)

pub more_globals_moved : (y : Layouts) (x : Specified) (is_const : Bool) (t : Tree) (s : State) → IsNoArray x.type → InRange t → WellShaped t → Moved s (more_globals x is_const t s).1
more_globals_moved y x is_const (Node (l.More k) (Cons before (Cons comma (Cons t none)))) s base r w =
    let a = (more_globals x is_const before s).1 in moved_then s a _ (more_globals_moved y x is_const before s base r.0 w.0) (global_declared_moved y x is_const t a base r.1.1.0 w.1.1.0)
more_globals_moved y x is_const t s base r w = moved_step s s (stay s) (no_texts s)
