-- What declarations in blocks and statements lead to.
use Rattle.std.proofs.Common.{◌≡◌, ◌⊎◌, inl, inr, ℕ, ◌+◌, suc, Bool, true, false, [], ◌∷◌, ◌++◌, length, refl, sym, ap, ◌∙◌, subst, arith}
use Rattle.std.specs.Prelude.{slice_get, slice_set, None, Some, option_and_then}
use Rattle.std.proofs.lemmas.Bool.{false≢true}
use Rattle.c_ast.specs.Productions as l
use Rattle.c_ast.specs.Tree.{Tree, Node, Cons}
use Rattle.c_type.specs.Trees.{TypeTree}
use Rattle.c_type.specs.Layout.{is_complete, IsLaidOut}
use Rattle.c_check_scope.specs.Scopes.{Name, is_declared}
use Rattle.c_check_def.specs.declared.meaning.Meaning.TheVariants as means
use Rattle.c_check_def.specs.declared.refusal_kind.RefusalKind.TheVariants.{Redeclared}
use Rattle.c_check_def.specs.State.{MaybeType, Variable, State, if_some, changed_by, changed, variable_in, change_variable, add_variable}
use Rattle.c_check_def.specs.Leaves.{offset_of, name_of, count_of, is_present}
use Rattle.c_check_def.specs.Specifiers.{Specified, specified_type}
use Rattle.c_check_def.specs.DeclaredTypes.{small_type, object_type}
use Rattle.c_check_def.specs.Initialisers.{Elements, value, initialiser, completed}
use Rattle.c_check_def.specs.Declarators.{open_dimensions, is_fixed, completed_type, initialise_variable, variable_declarator, declarator, more_declarators, locals}
use Rattle.c_check_laws.proofs.lemmas.States.{Step, step_then, same_length, same_at}
use Rattle.c_check_laws.proofs.lemmas.Steps.{breaks_if_steps, specified_type_steps}
use Rattle.c_check_laws.proofs.lemmas.Terms.{InRange, get_end, set_there}
use Rattle.c_check_laws.proofs.lemmas.Later.{later_then, add_variable_later}
use Rattle.c_check_laws.proofs.lemmas.StatementSteps.{MayBegin, WellShaped, open_dimensions_steps, object_type_steps, initialiser_steps, completed_type_steps, initialise_later, declare_later, declare_slots}
use Rattle.c_check_laws.proofs.lemmas.Types.{IsNoArray, specified_no_array, open_dimensions_fit, TypeThere, object_type_typed, small_typed, LaidOrOpen}
use Rattle.c_check_laws.proofs.lemmas.Locals.{Uncompleted, Completed, completed_fits, length_end}
use Rattle.c_check_laws.proofs.lemmas.Declared.{set_other, changed_length, small_is, slot_of}
use Rattle.c_check_laws.proofs.lemmas.Quiet.{breaks_if_quiet, specified_type_quiet, object_type_quiet, completed_type_quiet}
use Rattle.c_check_laws.proofs.lemmas.Texts.{Texts, same_globals, no_texts, texts_then}
use Rattle.c_check_laws.proofs.lemmas.StatementTexts.{initialiser_texts, open_dimensions_texts}
use Rattle.c_check_laws.proofs.lemmas.Goes.{Named, AreLaid, names_typed, named_step, same_back, Goes, goes_step, goes_then, goes_more, goes_nowhere, declared_in, named_declared, AreLaidBut, laid_declared, all_laid, no_array_value}

-- ---- the new variable gets its whole type

laid_but_step : (n : ℕ) (s t : State) → Step s t → AreLaidBut n s → AreLaidBut n t
laid_but_step n s t a h k w other here =
    let b = same_back s.variables t.variables k w a.variables here in
    let u = h k b.0 other b.1 in
    (u.0, b.2 ∙ u.1, subst (λ d. IsLaidOut d u.0) (sym a.structs) u.2)

retyped : (slot n : ℕ) (u : TypeTree) (q : State) (v : Variable) → variable_in q.slots slot ≡ n → slice_get q.variables n ≡ Some v → Named q → AreLaidBut n q → IsLaidOut q.structs u →
    Named (change_variable slot (λ v. record v { type = Some u }) q).1 × AreLaid (change_variable slot (λ v. record v { type = Some u }) q).1
retyped slot n u q v place there h k laid =
    let f : Variable → Variable = λ v. record v { type = Some u } in
    let z = (change_variable slot f q).1 in
    let after : z.variables ≡ slice_set q.variables n (f v) = ap (λ m. changed f m q.variables) place ∙ ap (λ x. changed_by f x n q.variables) there in
    let new : slice_get z.variables n ≡ Some (f v) = ap (λ vs. slice_get vs n) after ∙ set_there q.variables n v (f v) there in
    let last : (w : Variable) → slice_get z.variables n ≡ Some w → (t : TypeTree) × (w.type ≡ Some t) × IsLaidOut q.structs t =
    λ w here. let same : f v ≡ w = let both : Some (f v) ≡ Some w = sym new ∙ here in cc in (u, ap (λ (v : Variable). v.type) (sym same), laid) in
    let all : AreLaid z = all_laid n z (λ j w other here. k j w other (sym (set_other q.variables n j (f v) other) ∙ ap (λ vs. slice_get vs j) (sym after) ∙ here)) last in (
      record {
        there = λ j w here. let t = all j w here in (t.0, t.1);
        slots = h.slots;
        variables = λ m j e. let below = h.variables m j e in let len = changed_length f (variable_in q.slots slot) q.variables in omega (arith, below, len);
        globals = λ name j b m. let g = h.globals name j b m in record { declared = g.declared; there = g.there; type = g.type; has = g.has };
        functions = h.functions;
      },
      all,
    )

-- a complete type that is small is laid out
small_laid : (offset : ℕ) (u : TypeTree) (q : State) → is_complete q.structs u ≡ true → (small_type offset u q).1.broken ≡ None → IsLaidOut q.structs u
small_laid offset u q c clean =
    let k = small_typed q.structs false offset u q refl (inl c) clean in
    let same : k.type ≡ u = let both : Some k.type ≡ Some u = sym k.there ∙ ap (λ (p : MaybeType × State). p.0) (small_is offset u q clean) in cc in
    by_laid (subst (LaidOrOpen q.structs false) same k.holds)
  where
    by_laid : LaidOrOpen q.structs false u → IsLaidOut q.structs u
    by_laid (inl laid) = laid
    by_laid (inr o) = absurd (false≢true o.may_be)

-- the state of a new variable before its initialiser
record Fresh (s t : State) (u : TypeTree) : Type 0 where
  slots : t.slots ≡ s.slots ++ length s.variables ∷ []
  named : Named t
  laid : AreLaidBut (length s.variables) t
  variable : Variable
  there : slice_get t.variables (length s.variables) ≡ Some variable
  type : variable.type ≡ Some u

abbrev IsSound : State → Type 0
IsSound t = Named t × AreLaid t

completed_sound : (x : Tree) (offset : ℕ) (s t : State) (u : TypeTree) (k : Completed t.structs x u) → Fresh s t u →
    (small_type offset k.type (initialiser false (Some k.type) 0 x t).1).1.broken ≡ None →
    IsSound (change_variable (length s.slots) (λ v. record v { type = Some k.type }) (initialiser false (Some k.type) 0 x t).1).1
completed_sound x offset s t u k h clean =
    let q = (initialiser false (Some k.type) 0 x t).1 in
    let steps = initialiser_steps false (Some k.type) 0 x t in
    let v = same_at t.variables q.variables (length s.variables) h.variable steps.variables h.there in
    let named = named_step t q steps h.named in
    let clean_q : q.broken ≡ None = ap (λ (p : MaybeType × State). p.1.broken) (sym (small_is offset k.type q clean)) ∙ clean in
    retyped (length s.slots) (length s.variables) k.type q v.later (slot_of s q (steps.slots ∙ h.slots)) v.there named (laid_but_step (length s.variables) t q steps h.laid)
    (small_laid offset k.type q (by_whole k.whole clean_q steps.structs) clean)
  where
    by_whole : (is_complete t.structs k.type ≡ true) ⊎ Uncompleted x k.type → (initialiser false (Some k.type) 0 x t).1.broken ≡ None → (initialiser false (Some k.type) 0 x t).1.structs ≡ t.structs →
        is_complete (initialiser false (Some k.type) 0 x t).1.structs k.type ≡ true
    by_whole (inl c) clean same = ap (λ d. is_complete d k.type) same ∙ c
    by_whole (inr w) clean same =
        let value_clean : (value false (Some k.type) 0 x t).1.broken ≡ None = ap (λ (p : Elements × State). p.1.broken) (sym (w.one false t)) ∙ clean in
        absurd (no_array_value false w.element 0 x t w.shape (names_typed t h.named) (subst (λ u. (value false (Some u) 0 x t).1.broken ≡ None) w.array value_clean))

initialised_sound : (offset : ℕ) (may : Bool) (begun : Tree) (s t : State) (u : TypeTree) → MayBegin begun → may ≡ is_present begun → LaidOrOpen t.structs may u → Fresh s t u →
    (initialise_variable (length s.slots) offset (Some u) begun t).1.broken ≡ None → IsSound (initialise_variable (length s.slots) offset (Some u) begun t).1
initialised_sound offset may (Node (l.Present o) (Cons equal (Cons x none))) s t u m p laid h clean =
    let k = completed_fits t.structs may x u laid m in
    by_type k (completed x u) k.there clean
  where
    by_type : (k : Completed t.structs x u) (o : MaybeType) → o ≡ Some k.type → (if_some o (small_type offset) (initialiser false o 0 x t).1).1.broken ≡ None →
        Named (change_variable (length s.slots) (λ v. record v { type = (if_some o (small_type offset) (initialiser false o 0 x t).1).0 })
        (if_some o (small_type offset) (initialiser false o 0 x t).1).1).1
        × AreLaid (change_variable (length s.slots) (λ v. record v { type = (if_some o (small_type offset) (initialiser false o 0 x t).1).0 })
        (if_some o (small_type offset) (initialiser false o 0 x t).1).1).1
    by_type k None q c = absurd (cc)
    by_type k (Some v) q c =
        let same : k.type ≡ v = cc in
        let core : (small_type offset v (initialiser false (Some v) 0 x t).1).1.broken ≡ None →
        IsSound (change_variable (length s.slots) (λ w. record w { type = Some v }) (initialiser false (Some v) 0 x t).1).1 =
        subst (λ v. (small_type offset v (initialiser false (Some v) 0 x t).1).1.broken ≡ None →
        IsSound (change_variable (length s.slots) (λ w. record w { type = Some v }) (initialiser false (Some v) 0 x t).1).1)
        same (completed_sound x offset s t u k h) in
        subst (λ (z : MaybeType × State). IsSound (change_variable (length s.slots) (λ w. record w { type = z.0 }) z.1).1) (sym (small_is offset v (initialiser false (Some v) 0 x t).1 c)) (core c)
initialised_sound offset may (Node (l.Present o) children) s t u m p laid h clean = absurd m
initialised_sound offset may begun s t u m p laid h clean = (
  h.named,
  all_laid (length s.variables) t h.laid (λ w here.
      let same : h.variable ≡ w = let both : Some h.variable ≡ Some w = sym h.there ∙ here in cc in
      (u, ap (λ (v : Variable). v.type) (sym same) ∙ h.type, by_laid (subst (λ b. LaidOrOpen t.structs b u) p laid))),
)
  where
    by_laid : LaidOrOpen t.structs false u → IsLaidOut t.structs u
    by_laid (inl laid) = laid
    by_laid (inr o) = absurd (false≢true o.may_be)

initialised_length : (slot offset : ℕ) (o : MaybeType) (begun : Tree) (t : State) → length (initialise_variable slot offset o begun t).1.variables ≡ length t.variables
initialised_length slot offset o (Node (l.Present k) (Cons equal (Cons x none))) t =
    let es = initialiser false (option_and_then (completed x) o) 0 x t in
    let u = completed_type offset x o es.1 in
    changed_length (λ v. record v { type = u.0 }) (variable_in u.1.slots slot) u.1.variables
    ∙ same_length es.1.variables u.1.variables (completed_type_steps offset x o es.1).variables
    ∙ same_length t.variables es.1.variables (initialiser_steps false (option_and_then (completed x) o) 0 x t).variables
initialised_length slot offset o begun t = refl

initialised_texts : (slot offset : ℕ) (o : MaybeType) (begun : Tree) (t : State) → InRange begun → Texts t (initialise_variable slot offset o begun t).1
initialised_texts slot offset o (Node (l.Present k) (Cons equal (Cons x none))) t r =
    let es = initialiser false (option_and_then (completed x) o) 0 x t in
    texts_then t es.1 _ (initialiser_texts false (option_and_then (completed x) o) 0 x t r.1.0) (same_globals es.1 _ (completed_type_quiet offset x o es.1))
initialised_texts slot offset o begun t r = no_texts t

-- ---- declarators

-- how many variables are declared in a tree
abbrev pub declarations : Tree → ℕ
declarations (Node l.Decl children) = 1
declarations (Node p children) = declarations children
declarations (Cons t ts) = declarations t + declarations ts
declarations t = 0

variable_declarator_goes : (x : Specified) (is_const : Bool) (stars : ℕ) (name : Name) (offset : ℕ) (bounds begun : Tree) (s : State) → IsNoArray x.type → InRange bounds → InRange begun →
    MayBegin begun →
    Goes s (variable_declarator x is_const stars name offset bounds begun s).1 1
variable_declarator_goes x is_const stars name offset bounds begun s base rb r m =
    let may = is_present begun in
    let fixed = is_fixed is_const stars in
    let ds = open_dimensions bounds s in
    let t = object_type may offset x stars ds.0 ds.1 in
    let sd = open_dimensions_steps bounds s in
    let st = object_type_steps may offset x stars ds.0 ds.1 in
    let first : Goes s t.1 0 = goes_step s t.1 0 (step_then s ds.1 t.1 sd st)
    (texts_then s ds.1 t.1 (open_dimensions_texts bounds s rb) (same_globals ds.1 t.1 (object_type_quiet may offset x stars ds.0 ds.1))) in
    let a = (add_variable t.0 t.1).1 in
    let again = is_declared a.scopes name in
    let d = declared_in name offset fixed t.0 t.1 in
    let z = (initialise_variable (length t.1.slots) offset t.0 begun d).1 in
    let declared = later_then t.1 a d (add_variable_later t.0 t.1) (declare_later name offset (means.Variable (length t.1.slots) fixed) a) in
    let later = initialise_later t.1 d offset t.0 begun (record { later = declared; slots = declare_slots name offset (means.Variable (length t.1.slots) fixed) a }) in
    let lengths : length z.variables ≡ suc (length t.1.variables) =
    initialised_length (length t.1.slots) offset t.0 begun d
    ∙ same_length a.variables d.variables (breaks_if_steps again Redeclared offset a).variables
    ∙ length_end t.1.variables _ in
    let second : Goes t.1 z 1 = record {
      broken = later.broken;
      texts = texts_then t.1 d z (same_globals t.1 d (breaks_if_quiet again Redeclared offset a)) (initialised_texts (length t.1.slots) offset t.0 begun d r);
      few = omega (arith, lengths);
      sound = λ clean h k.
          let ct = later.broken clean in
          by_type t.0 t.1 (typed_there t.0 ds.1 t.1 (object_type_typed may offset x stars ds.0 ds.1 base (open_dimensions_fit bounds s (st.broken ct)) ct) st.structs) clean h k;
    } in
    goes_then s t.1 z 0 1 first second
  where
    typed_there : (o : MaybeType) (t q : State) → TypeThere (LaidOrOpen t.structs (is_present begun)) o → q.structs ≡ t.structs → TypeThere (LaidOrOpen q.structs (is_present begun)) o
    typed_there o t q k same = record { type = k.type; there = k.there; holds = subst (λ d. LaidOrOpen d (is_present begun) k.type) (sym same) k.holds }

    by_type : (o : MaybeType) (q : State) → TypeThere (LaidOrOpen q.structs (is_present begun)) o →
        (initialise_variable (length q.slots) offset o begun (declared_in name offset (is_fixed is_const stars) o q)).1.broken ≡ None → Named q → AreLaid q →
        Named (initialise_variable (length q.slots) offset o begun (declared_in name offset (is_fixed is_const stars) o q)).1
        × AreLaid (initialise_variable (length q.slots) offset o begun (declared_in name offset (is_fixed is_const stars) o q)).1
    by_type None q k clean h a = let none = k.there in absurd (cc)
    by_type (Some u) q k clean h a =
        let fixed = is_fixed is_const stars in
        let same : k.type ≡ u = let e = k.there in cc in
        let v : Variable = record { type = Some u; is_taken = false; is_named = false } in
        let b = (add_variable (Some u) q).1 in
        let steps = breaks_if_steps (is_declared b.scopes name) Redeclared offset b in
        let d = declared_in name offset fixed (Some u) q in
        let new = same_at b.variables d.variables (length q.variables) v steps.variables (get_end q.variables v) in
        let laid : LaidOrOpen d.structs (is_present begun) u = subst (λ e. LaidOrOpen e (is_present begun) u) (sym steps.structs) (subst (LaidOrOpen q.structs (is_present begun)) same k.holds) in
        initialised_sound offset (is_present begun) begun q d u m refl laid (record {
          slots = declare_slots name offset (means.Variable (length q.slots) fixed) b;
          named = named_declared name offset fixed u q h;
          laid = laid_declared name offset fixed u q a;
          variable = new.later;
          there = new.there;
          type = new.type;
        }) clean

declarator_goes : (x : Specified) (is_const : Bool) (t : Tree) (s : State) → IsNoArray x.type → InRange t → WellShaped t → Goes s (declarator x is_const t s).1 (declarations t)
declarator_goes x is_const (Node l.Decl (Cons stars (Cons name (Cons bounds (Cons begun none))))) s base r w =
    variable_declarator_goes x is_const (count_of stars) (name_of name) (offset_of name) bounds begun s base r.1.1.0 r.1.1.1.0 w
declarator_goes x is_const t s base r w = goes_nowhere s (declarations t)

more_declarators_goes : (x : Specified) (is_const : Bool) (t : Tree) (s : State) → IsNoArray x.type → InRange t → WellShaped t → Goes s (more_declarators x is_const t s).1 (declarations t)
more_declarators_goes x is_const (Node (l.More k) (Cons before (Cons comma (Cons t none)))) s base r w =
    let ds = more_declarators x is_const before s in
    goes_more s _ (declarations before + declarations t) _ (omega arith)
    (goes_then s ds.1 _ (declarations before) (declarations t) (more_declarators_goes x is_const before s base r.0 w.0) (declarator_goes x is_const t ds.1 base r.1.1.0 w.1.1.0))
more_declarators_goes x is_const t s base r w = goes_nowhere s (declarations t)

pub locals_goes : (t : Tree) (s : State) → InRange t → WellShaped t → Goes s (locals t s).1 (declarations t)
locals_goes (Node l.Locals (Cons qualifier (Cons specifier (Cons first (Cons more none))))) s r w =
    let x = specified_type specifier s in
    let base = specified_no_array specifier s in
    let is_const = is_present qualifier in
    let d = declarator x.0 is_const first x.1 in
    let a = goes_step s x.1 0 (specified_type_steps specifier s) (same_globals s x.1 (specified_type_quiet specifier s)) in
    let b = declarator_goes x.0 is_const first x.1 base r.1.1.0 w.1.1.0 in
    let c = more_declarators_goes x.0 is_const more d.1 base r.1.1.1.0 w.1.1.1.0 in
    goes_more s _ (0 + (declarations first + declarations more)) _ (omega arith)
    (goes_then s x.1 _ 0 (declarations first + declarations more) a (goes_then x.1 d.1 _ (declarations first) (declarations more) b c))
locals_goes t s r w = goes_nowhere s (declarations t)
