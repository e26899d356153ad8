-- Calls are typed.
use Rattle.std.proofs.Common.{◌≡◌, ℕ, zero, suc, Bool, true, false, List, [], ◌∷◌, refl, sym, ap, ◌∙◌, subst}
use Rattle.std.specs.Prelude.{slice_get, Option, None, Some, option_map, if◌then◌else◌}
use Rattle.c_type.specs.Trees.{TypeTree, void_type}
use Rattle.c_typed.specs.Typed.{ExprTree, expr}
use Rattle.c_typed.specs.WellTyped.{Scope, int, ExprIsTyped}
use Rattle.c_check_def.specs.declared.operand.Operand.TheVariants.{Value}
use Rattle.c_check_scope.specs.Scopes.{Name, meaning}
use Rattle.c_check_scope.specs.Names.{number_of}
use Rattle.c_check_def.specs.declared.meaning.Meaning.{Meaning}
use Rattle.c_check_def.specs.declared.meaning.Meaning.TheVariants as means
use Rattle.c_check_def.specs.declared.refusal_kind.RefusalKind.TheVariants.{BadCall}
use Rattle.c_check_def.specs.declared.call.Callee.{Callee}
use Rattle.c_check_def.specs.declared.call.Callee.TheVariants as callees
use Rattle.c_check_def.specs.declared.call.Called.{Called}
use Rattle.c_check_def.specs.declared.call.Called.TheVariants as calls
use Rattle.c_check_def.specs.State.{Declared, State, pure, broken_at}
use Rattle.c_check_def.specs.Operands.{Term, term_meant}
use Rattle.c_check_def.specs.Calls.{callee_of, callee_numbered, called_as, called_term, called_meant, called_name, all_fit, all_passed, call_form, call_term, call_of, called}
use Rattle.c_check_laws.specs.TypedOperands.{IfSome, OperandIsTyped, ObjectsFit}
use Rattle.c_check_laws.proofs.Options.{and_then_holds, map_holds}
use Rattle.c_check_laws.proofs.Operators.{found}
use Rattle.c_check_laws.proofs.lemmas.States.{Ending, AllTypes, declared_as, At}
use Rattle.c_check_laws.proofs.lemmas.Terms.{TermFits, AllFit, ArgumentsFit, PassedFit, all_passed_typed, arguments_typed}

-- A function that is called has this number, and the types of its definition.
abbrev CalleeFits : Ending → List Declared → Callee → (k : ℕ) → Type 0
CalleeFits e ds callees.Putchar k = k ≡ 0
CalleeFits e ds callees.Getchar k = k ≡ 1
CalleeFits e ds callees.Exit k = k ≡ 2
CalleeFits e ds (callees.Defined n) k =
    (f : Declared) (t : TypeTree) (ts : List TypeTree) → slice_get ds k ≡ Some f → f.result ≡ Some t → AllTypes f.params ts → slice_get e.functions n ≡ Some (record { result = t; params = ts })

abbrev pub CalledFits : Ending → List Declared → Called → Type 0
CalledFits e ds calls.Nothing = Unit {0}
CalledFits e ds calls.NoFunction = Unit {0}
CalledFits e ds (calls.Function callee k) = CalleeFits e ds callee k

called_as_fits : (e : Ending) (ds : List Declared) (k : ℕ) (callee : Option Callee) → IfSome (λ c. CalleeFits e ds c k) callee → CalledFits e ds (called_as k callee)
called_as_fits e ds k None h = tt
called_as_fits e ds k (Some callee) h = h

pub called_term_fits : (e : Ending) (ds : List Declared) (a : Term) → CalledFits e ds (called_term a)
called_term_fits e ds None = tt
called_term_fits e ds (Some a) = tt

callee_numbered_fits : (e : Ending) (c : Scope) (k : ℕ) (name : Name) (offset : ℕ) (s : State) → At e c s → meaning s.scopes name ≡ Some (means.Function k) →
    IfSome (λ x. CalleeFits e s.declared x k) (callee_numbered k name offset s).0
callee_numbered_fits e c zero name offset s here m = refl
callee_numbered_fits e c (suc zero) name offset s here m = refl
callee_numbered_fits e c (suc (suc zero)) name offset s here m = refl
callee_numbered_fits e c (suc (suc (suc k))) name offset s here m = by_number (number_of s.defined name) refl
  where
    by_number : (n : Option ℕ) → number_of s.defined name ≡ n → IfSome (λ x. CalleeFits e s.declared x (suc (suc (suc k)))) (callee_of offset n s).0
    by_number None q = tt
    by_number (Some n) q = λ f t ts there result params. (here.names.functions name k m).fits n f t ts q there result params

called_meant_fits : (e : Ending) (c : Scope) (name : Name) (offset : ℕ) (m : Option Meaning) (s : State) → At e c s → meaning s.scopes name ≡ m →
    CalledFits e s.declared (called_meant name offset m s).0
called_meant_fits e c name offset (Some (means.Function k)) s here q = called_as_fits e s.declared k (callee_numbered k name offset s).0 (callee_numbered_fits e c k name offset s here q)
called_meant_fits e c name offset None s here q = tt
called_meant_fits e c name offset (Some (means.Variable slot is_const)) s here q =
    called_term_fits e s.declared (term_meant offset (Some (means.Variable slot is_const)) s).0
called_meant_fits e c name offset (Some (means.Global k is_const)) s here q =
    called_term_fits e s.declared (term_meant offset (Some (means.Global k is_const)) s).0

pub called_name_fits : (e : Ending) (c : Scope) (name : Name) (offset : ℕ) (s : State) → At e c s → CalledFits e s.declared (called_name name offset s).0
called_name_fits e c name offset s here = called_meant_fits e c name offset (meaning s.scopes name) s here refl

-- ---- the call

put_typed : (c : Scope) (t : TypeTree) (ts : List TypeTree) (es : List ExprTree) → Some int ≡ Some t → AllTypes (Some int ∷ []) ts → ArgumentsFit c ts es →
    ExprIsTyped c (expr t (call_form callees.Putchar es))
put_typed c t [] es r a h = absurd a
put_typed c t (u ∷ []) [] r a h = absurd h
put_typed c t (u ∷ []) (x ∷ []) r a h =
    let result : int ≡ t = cc in
    let param : int ≡ u = let e = a.0 in cc in
    (h.0.typed, (sym result, h.0.type ∙ sym param))
put_typed c t (u ∷ []) (x ∷ y ∷ es) r a h = absurd h.1
put_typed c t (u ∷ v ∷ ts) es r a h = absurd a.1

get_typed : (c : Scope) (t : TypeTree) (ts : List TypeTree) (es : List ExprTree) → Some int ≡ Some t → AllTypes [] ts → ArgumentsFit c ts es → ExprIsTyped c (expr t (call_form callees.Getchar es))
get_typed c t [] [] r a h = let result : int ≡ t = cc in sym result
get_typed c t [] (x ∷ es) r a h = absurd h
get_typed c t (u ∷ ts) es r a h = absurd a

exit_typed : (c : Scope) (t : TypeTree) (ts : List TypeTree) (es : List ExprTree) → Some void_type ≡ Some t → AllTypes (Some int ∷ []) ts → ArgumentsFit c ts es →
    ExprIsTyped c (expr t (call_form callees.Exit es))
exit_typed c t [] es r a h = absurd a
exit_typed c t (u ∷ []) [] r a h = absurd h
exit_typed c t (u ∷ []) (x ∷ []) r a h =
    let result : void_type ≡ t = cc in
    let param : int ≡ u = let e = a.0 in cc in
    (h.0.typed, (sym result, h.0.type ∙ sym param))
exit_typed c t (u ∷ []) (x ∷ y ∷ es) r a h = absurd h.1
exit_typed c t (u ∷ v ∷ ts) es r a h = absurd a.1

-- the declaration of this number
declared_is : (ds : List Declared) (k j : ℕ) (f g : Declared) → k ≡ j → slice_get ds k ≡ Some f → slice_get ds j ≡ Some g → g ≡ f
declared_is ds k j f g e there other =
    let same : Some g ≡ Some f = sym other ∙ ap (slice_get ds) (sym e) ∙ there in cc

call_typed : (e : Ending) (c : Scope) (callee : Callee) (k : ℕ) (s : State) (f : Declared) (t : TypeTree) (ts : List TypeTree) (es : List ExprTree) → At e c s → CalleeFits e s.declared callee k →
    slice_get s.declared k ≡ Some f → f.result ≡ Some t → AllTypes f.params ts → ArgumentsFit c ts es → ExprIsTyped c (expr t (call_form callee es))
call_typed e c callees.Putchar k s f t ts es here fits there result params fit =
    let same = declared_is s.declared k 0 f (declared_as int (Some int ∷ [])) fits there here.names.put in
    put_typed c t ts es (ap (λ (f : Declared). f.result) same ∙ result) (subst (λ (f : Declared). AllTypes f.params ts) (sym same) params) fit
call_typed e c callees.Getchar k s f t ts es here fits there result params fit =
    let same = declared_is s.declared k 1 f (declared_as int []) fits there here.names.get in
    get_typed c t ts es (ap (λ (f : Declared). f.result) same ∙ result) (subst (λ (f : Declared). AllTypes f.params ts) (sym same) params) fit
call_typed e c callees.Exit k s f t ts es here fits there result params fit =
    let same = declared_is s.declared k 2 f (declared_as void_type (Some int ∷ [])) fits there here.names.exit in
    exit_typed c t ts es (ap (λ (f : Declared). f.result) same ∙ result) (subst (λ (f : Declared). AllTypes f.params ts) (sym same) params) fit
call_typed e c (callees.Defined n) k s f t ts es here fits there result params fit =
    let a = arguments_typed c ts es fit in (
      a.0,
      record {
        callee = record { result = t; params = ts };
        there = ap (λ (c : Scope). slice_get c.functions n) (sym here.scope) ∙ fits f t ts there result params;
        gives = refl;
        takes = a.1;
      },
    )

call_term_typed : (e : Ending) (c : Scope) (callee : Callee) (k : ℕ) (s : State) (f : Declared) (xs : List Term) → At e c s → ObjectsFit c → CalleeFits e s.declared callee k →
    slice_get s.declared k ≡ Some f →
    AllFit c xs → TermFits c (call_term callee f xs)
call_term_typed e c callee k s f xs here fit fits there h =
    and_then_holds (λ t. f.result ≡ Some t) (OperandIsTyped c) (λ t. option_map (λ es. Value (expr t (call_form callee es))) (all_passed f.params xs)) f.result (found f.result) (λ t r.
    map_holds (PassedFit c f.params) (OperandIsTyped c) (λ es. Value (expr t (call_form callee es))) (all_passed f.params xs) (all_passed_typed c f.params xs fit h) (λ es p.
    call_typed e c callee k s f t p.types es here fits there r p.all p.fit))

call_of_typed : (e : Ending) (c : Scope) (offset : ℕ) (callee : Callee) (k : ℕ) (s : State) (xs : List Term) (f : Option Declared) → At e c s → ObjectsFit c → CalleeFits e s.declared callee k →
    slice_get s.declared k ≡ f → AllFit c xs → TermFits c (call_of offset callee xs f s).0
call_of_typed e c offset callee k s xs None here fit fits there h = tt
call_of_typed e c offset callee k s xs (Some f) here fit fits there h = by_test (all_fit f.params xs)
  where
    by_test : (t : Bool) → TermFits c ((if t then pure (call_term callee f xs) else broken_at BadCall offset) s).0
    by_test true = call_term_typed e c callee k s f xs here fit fits there h
    by_test false = tt

pub called_typed : (e : Ending) (c : Scope) (offset : ℕ) (f : Called) (xs : List Term) (s : State) → At e c s → ObjectsFit c → CalledFits e s.declared f → AllFit c xs →
    TermFits c (called offset f xs s).0
called_typed e c offset calls.Nothing xs s here fit fits h = tt
called_typed e c offset calls.NoFunction xs s here fit fits h = tt
called_typed e c offset (calls.Function callee k) xs s here fit fits h = call_of_typed e c offset callee k s xs (slice_get s.declared k) here fit fits refl h
