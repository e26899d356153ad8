-- What expressions are made of is typed.
use Rattle.std.proofs.Common.{◌≡◌, ◌<◌, ℕ, zero, suc, Bool, true, false, List, [], ◌∷◌, ◌++◌, length, refl, sym, ap, ◌∙◌, subst, arith}
use Rattle.std.specs.Prelude.{slice_get, slice_set, Option, None, Some, option_map, option_and_then, unwrap_or, if◌then◌else◌}
use Rattle.std.proofs.Math.ListN.{get_or}
use Rattle.std.proofs.lemmas.Bool.{false≢true}
use Rattle.std.proofs.lemmas.Option.{slice_get-get_or}
use Rattle.c_ast.specs.declared.operator.Selection.{Selection}
use Rattle.c_ast.specs.declared.operator.IncDec.{IncDec}
use Rattle.c_ast.specs.declared.operator.UnaryOp.{UnaryOp}
use Rattle.c_ast.specs.declared.operator.UnaryOp.TheVariants as unary_operator
use Rattle.c_ast.specs.declared.operator.BinaryOp.{BinaryOp}
use Rattle.c_ast.specs.declared.operator.AssignOp.{AssignOp}
use Rattle.c_lex.specs.declared.token.TokenKind.{TokenKind}
use Rattle.c_lex.specs.declared.token.TokenKind.TheVariants as kind
use Rattle.c_ast.specs.Tree.{Tree, Leaf, Node, Nil, Cons}
use Rattle.c_type.specs.Trees.{TypeTree}
use Rattle.c_typed.specs.Typed as typed
use Rattle.c_typed.specs.Typed.{ExprTree, PlaceTree, place, local, global, member, exprs_of, VariableTree}
use Rattle.c_typed.specs.WellTyped.{Scope, int, HasAddress, types_of, place_type, ExprIsTyped, ExprsAreTyped, PlaceIsTyped}
use Rattle.c_check_def.specs.declared.operand.Operand.{Operand}
use Rattle.c_check_def.specs.declared.operand.Operand.TheVariants.{Place, Value}
use Rattle.c_check_def.specs.OperandValues.{value_of, is_assignable}
use Rattle.c_check_def.specs.Conversions.{converts}
use Rattle.c_check_def.specs.Operators.{binary_typed, unary_typed, conditional_typed, index_typed, selected_tag, member_typed, cast_typed, size_typed}
use Rattle.c_check_def.specs.Assignments.{assigned_typed, step_typed}
use Rattle.c_check_scope.specs.Scopes.{Name, meaning}
use Rattle.c_check_scope.specs.Members.{member_number}
use Rattle.c_check_def.specs.declared.meaning.Meaning.{Meaning}
use Rattle.c_check_def.specs.declared.meaning.Meaning.TheVariants as means
use Rattle.c_check_def.specs.declared.refusal_kind.RefusalKind.{RefusalKind}
use Rattle.c_check_def.specs.declared.refusal_kind.RefusalKind.TheVariants.{Unknown, NotAssignable, BadOperands}
use Rattle.c_check_def.specs.State.{MaybeType, Global, Variable, State, pure, broken_at, or_broken, if_some, changed_by, changed, variable_in, change_variable}
use Rattle.c_check_def.specs.Operands.{Term, term_of, term_meant, named, constant_by, constant_of, string_type, string, binary, conditional, indexed, cast, measured, take_address, address, unary_of, unary, target, stepped, assigned, member_numbered, member_named, selected, Sequence, first_of, followed_by, comma, sequence_value, sequence_term}
use Rattle.c_check_def.specs.Declarators.{is_named}
use Rattle.c_check_def.specs.Calls.{passed, passed_as, all_passed}
use Rattle.c_check_def.specs.CheckLaws.{IsInRange}
use Rattle.c_check_laws.specs.TypedOperands.{IfSome, OperandIsTyped, ObjectsFit, MayBeTaken}
use Rattle.c_check_laws.proofs.Options.{and_then_holds, map_holds}
use Rattle.c_check_laws.proofs.Values.{value_typed, unsigned_promoted, ValueOf, converts_typed, member_of_struct, has_address}
use Rattle.c_check_laws.proofs.Binary.{binary_is_typed, conditional_is_typed}
use Rattle.c_check_laws.proofs.Operators.{found, unary_is_typed, index_is_typed, member_is_typed, cast_is_typed, size_is_typed}
use Rattle.c_check_laws.proofs.Assigning.{assigned_is_typed, step_is_typed}
use Rattle.c_check_laws.proofs.lemmas.States.{Ending, is_object_then, type_now, Fits, fits_back, AllTypes, At, at_step, shown, there_shown, slot_in, slot_there, structs_at}
use Rattle.c_check_laws.proofs.lemmas.Steps.{or_broken_steps, change_variable_steps, named_keeps}

abbrev pub TermFits : Scope → Term → Type 0
TermFits c a = IfSome (OperandIsTyped c) a

-- ---- what a rule gives

pub or_broken_holds : {A : Type 0} → (P : A → Type 0) (rule : RefusalKind) (offset : ℕ) (o : Option A) (s : State) → IfSome P o → IfSome P (or_broken rule offset o s).0
or_broken_holds P rule offset None s h = tt
or_broken_holds P rule offset (Some a) s h = h

term_holds : (c : Scope) (o : Option ExprTree) → IfSome (ExprIsTyped c) o → TermFits c (term_of o)
term_holds c None h = tt
term_holds c (Some e) h = h

-- ---- names

pub set_there : {A : Type 0} → (xs : List A) (k : ℕ) (x y : A) → slice_get xs k ≡ Some x → slice_get (slice_set xs k y) k ≡ Some y
set_there [] k x y e = absurd (cc)
set_there (z ∷ xs) zero x y e = refl
set_there (z ∷ xs) (suc k) x y e = set_there xs k x y e

-- the name of a variable is used
now_named : (vs : List Variable) (k : ℕ) → k < length vs → is_named (slice_get (changed (λ (v : Variable). record v { is_named = true }) k vs) k) ≡ true
now_named vs k below =
    let v = get_or vs k (record { type = None; is_taken = false; is_named = false }) in
    let there : slice_get vs k ≡ Some v = slice_get-get_or vs k _ below in
    ap (λ x. is_named (slice_get (changed_by (λ (v : Variable). record v { is_named = true }) x k vs) k)) there ∙ ap is_named (set_there vs k v (record v { is_named = true }) there)

variable_typed : (e : Ending) (c : Scope) (slot : ℕ) (is_const : Bool) (s : State) → At e c s → slot < length s.slots → Fits e (term_meant 0 (Some (means.Variable slot is_const)) s).1 →
    TermFits c (term_meant 0 (Some (means.Variable slot is_const)) s).0
variable_typed e c slot is_const s at below fit =
    let t = (change_variable slot (λ v. record v { is_named = true }) s).1 in
    let here = at_step e c s t (change_variable_steps slot (λ v. record v { is_named = true }) named_keeps s) at in
    let k = get_or t.slots slot 0 in
    let there : slice_get t.slots slot ≡ Some k = slice_get-get_or t.slots slot 0 below in
    let same : variable_in t.slots slot ≡ k = ap (λ o. unwrap_or o 0) there in
    let named : is_named (slice_get t.variables (variable_in t.slots slot)) ≡ true =
    now_named s.variables (variable_in s.slots slot) (subst (λ k. k < length s.variables) (sym same) (at.names.variables slot k there)) in
    let in_scope = there_shown e.hides t.slots slot k (λ q last. false≢true (sym (fit.unnamed q slot last) ∙ named)) there in
    let type = option_and_then (λ (v : Variable). v.type) (slice_get t.variables (variable_in t.slots slot)) in
    map_holds (λ u. type ≡ Some u) (OperandIsTyped c) (λ u. Place (place u (local slot)) is_const) type (found type) (λ u q. (
      record { type = type_now t.variables k; is_object = is_object_then e k },
      ap (λ (c : Scope). slice_get c.slots slot) (sym here.scope) ∙ slot_there e t.variables (shown e.hides t.slots) slot k in_scope,
      ap (λ n. unwrap_or (option_and_then (λ (v : Variable). v.type) (slice_get t.variables n)) int) (sym same) ∙ ap (λ o. unwrap_or o int) q,
    ))

global_typed : (e : Ending) (c : Scope) (k : ℕ) (is_const : Bool) (s : State) → At e c s → Fits e s → TermFits c (term_meant 0 (Some (means.Global k is_const)) s).0
global_typed e c k is_const s at fit = by_global (slice_get s.globals k) refl
  where
    by_type : (g : Global) (t : MaybeType) → slice_get s.globals k ≡ Some g → g.type ≡ t → IfSome (OperandIsTyped c) (option_map (λ t. Place (place t (global k)) is_const) t)
    by_type g None q r = tt
    by_type g (Some t) q r = ap (λ (c : Scope). slice_get c.globals k) (sym at.scope) ∙ fit.globals k g t q r

    by_global : (x : Option Global) → slice_get s.globals k ≡ x → IfSome (OperandIsTyped c) (option_map (λ t. Place (place t (global k)) is_const) (option_and_then (λ (g : Global). g.type) x))
    by_global None q = tt
    by_global (Some g) q = by_type g g.type q refl

term_meant_typed : (e : Ending) (c : Scope) (name : Name) (offset : ℕ) (m : Option Meaning) (s : State) → At e c s → meaning s.scopes name ≡ m → Fits e (term_meant offset m s).1 →
    TermFits c (term_meant offset m s).0
term_meant_typed e c name offset None s at q fit = tt
term_meant_typed e c name offset (Some (means.Variable slot is_const)) s at q fit = variable_typed e c slot is_const s at (at.names.slots name slot is_const q) fit
term_meant_typed e c name offset (Some (means.Global k is_const)) s at q fit = global_typed e c k is_const s at fit
term_meant_typed e c name offset (Some (means.Function k)) s at q fit = tt

pub named_typed : (e : Ending) (c : Scope) (name : Name) (offset : ℕ) (s : State) → At e c s → Fits e (named name offset s).1 → TermFits c (named name offset s).0
named_typed e c name offset s at fit = term_meant_typed e c name offset (meaning s.scopes name) s at refl fit

-- ---- constants and strings

constant_by_typed : (c : Scope) (k : TokenKind) → IsInRange k → TermFits c (constant_by k)
constant_by_typed c (kind.Number w unsigned) h = (unsigned_promoted unsigned, h)
constant_by_typed c (kind.Char x) h = (tt, omega (arith, h))
constant_by_typed c k h = tt

-- each token of a tree is in range
abbrev pub InRange : Tree → Type 0
InRange (Leaf x) = IsInRange x.kind
InRange (Node p children) = InRange children
InRange Nil = Unit {0}
InRange (Cons t ts) = InRange t × InRange ts

pub constant_typed : (c : Scope) (t : Tree) → InRange t → TermFits c (constant_of t)
constant_typed c (Leaf x) h = constant_by_typed c x.kind h
constant_typed c (Node p children) h = tt
constant_typed c Nil h = tt
constant_typed c (Cons t ts) h = tt

pub get_end : {A : Type 0} → (xs : List A) (x : A) → slice_get (xs ++ x ∷ []) (length xs) ≡ Some x
get_end [] x = refl
get_end (y ∷ xs) x = get_end xs x

pub string_typed : (e : Ending) (c : Scope) (offset : ℕ) (cs : List ℕ) (s : State) → At e c s → Fits e (string offset cs s).1 → TermFits c (string offset cs s).0
string_typed e c offset cs s at fit =
    ap (λ (c : Scope). slice_get c.globals (length s.globals)) (sym at.scope) ∙ fit.globals (length s.globals) _ (string_type cs) (get_end s.globals _) refl

-- ---- operators

pub binary_term : (e : Ending) (c : Scope) (o : Option BinaryOp) (offset : ℕ) (a b : Term) (s : State) → At e c s → ObjectsFit c → TermFits c a → TermFits c b →
    TermFits c (if_some o (λ op. binary op offset a b) s).0
binary_term e c None offset a b s at fit ta tb = tt
binary_term e c (Some o) offset None b s at fit ta tb = tt
binary_term e c (Some o) offset (Some a) None s at fit ta tb = tt
binary_term e c (Some o) offset (Some a) (Some b) s at fit ta tb =
    or_broken_holds (OperandIsTyped c) BadOperands offset (term_of (binary_typed s.structs o a b)) s
    (term_holds c (binary_typed s.structs o a b) (subst (λ defs. IfSome (ExprIsTyped c) (binary_typed defs o a b)) (sym (structs_at e c s at)) (binary_is_typed c o a b fit ta tb)))

pub conditional_term : (c : Scope) (offset : ℕ) (d a b : Term) (s : State) → ObjectsFit c → TermFits c d → TermFits c a → TermFits c b → TermFits c (conditional offset d a b s).0
conditional_term c offset None a b s fit td ta tb = tt
conditional_term c offset (Some d) None b s fit td ta tb = tt
conditional_term c offset (Some d) (Some a) None s fit td ta tb = tt
conditional_term c offset (Some d) (Some a) (Some b) s fit td ta tb =
    or_broken_holds (OperandIsTyped c) BadOperands offset (term_of (conditional_typed d a b)) s (term_holds c (conditional_typed d a b) (conditional_is_typed c d a b fit td ta tb))

pub indexed_term : (e : Ending) (c : Scope) (offset : ℕ) (a b : Term) (s : State) → At e c s → ObjectsFit c → TermFits c a → TermFits c b → TermFits c (indexed offset a b s).0
indexed_term e c offset None b s at fit ta tb = tt
indexed_term e c offset (Some a) None s at fit ta tb = tt
indexed_term e c offset (Some a) (Some b) s at fit ta tb =
    or_broken_holds (OperandIsTyped c) BadOperands offset (index_typed s.structs a b) s
    (subst (λ defs. IfSome (OperandIsTyped c) (index_typed defs a b)) (sym (structs_at e c s at)) (index_is_typed c a b fit ta tb))

pub cast_term : (c : Scope) (offset : ℕ) (t : MaybeType) (a : Term) (s : State) → ObjectsFit c → TermFits c a → TermFits c (cast offset t a s).0
cast_term c offset None a s fit ta = tt
cast_term c offset (Some t) None s fit ta = tt
cast_term c offset (Some t) (Some a) s fit ta = or_broken_holds (OperandIsTyped c) BadOperands offset (term_of (cast_typed t a)) s (term_holds c (cast_typed t a) (cast_is_typed c t a fit ta))

pub measured_term : (e : Ending) (c : Scope) (offset : ℕ) (t : MaybeType) (s : State) → At e c s → TermFits c (measured offset t s).0
measured_term e c offset None s at = tt
measured_term e c offset (Some t) s at =
    or_broken_holds (OperandIsTyped c) BadOperands offset (term_of (size_typed s.structs t)) s
    (term_holds c (size_typed s.structs t) (subst (λ defs. IfSome (ExprIsTyped c) (size_typed defs t)) (sym (structs_at e c s at)) (size_is_typed c t)))

-- ---- addresses

-- a variable whose address was taken is an object at the end
taken_is_object : (e : Ending) (slot : ℕ) (s : State) (v : Variable) → slice_get s.variables (variable_in s.slots slot) ≡ Some v →
    Fits e (change_variable slot (λ v. record v { is_taken = true }) s).1 →
    is_object_then e (variable_in s.slots slot) ≡ true
taken_is_object e slot s v there fit =
    let k = variable_in s.slots slot in
    let set : slice_get (changed (λ (v : Variable). record v { is_taken = true }) k s.variables) k ≡ Some (record v { is_taken = true }) =
    ap (λ x. slice_get (changed_by (λ (v : Variable). record v { is_taken = true }) x k s.variables) k) there ∙ set_there s.variables k v (record v { is_taken = true }) there in
    (fit.variables k (record v { is_taken = true }) set).taken refl

-- what an address is taken of has one
place_taken : (e : Ending) (c : Scope) (p : PlaceTree) (is_const : Bool) (s : State) → At e c s → ObjectsFit c → PlaceIsTyped c p → Fits e (take_address (Place p is_const) s).1 → HasAddress c p
place_taken e c (place t (local slot)) is_const s at fit ty ends =
    let r = slot_in e s slot ty.0 (ap (λ (c : Scope). slice_get c.slots slot) at.scope ∙ ty.1) in
    let same : variable_in s.slots slot ≡ r.variable = ap (λ o. unwrap_or o 0) r.there in
    let v = get_or s.variables r.variable (record { type = None; is_taken = false; is_named = false }) in
    let there : slice_get s.variables r.variable ≡ Some v = slice_get-get_or s.variables r.variable _ (at.names.variables slot r.variable r.there) in
    let object = taken_is_object e slot s v (ap (slice_get s.variables) same ∙ there) ends in
    (ty.0, ty.1, ap (λ (w : VariableTree). w.is_object) r.same ∙ ap (is_object_then e) (sym same) ∙ object)
place_taken e c (place t (global k)) is_const s at fit ty ends = tt
place_taken e c (place t (typed.at p)) is_const s at fit ty ends = tt
place_taken e c (place t (member p n)) is_const s at fit ty ends = has_address c p fit ty.0 (member_of_struct c (place_type p) t n ty.1)

operand_taken : (e : Ending) (c : Scope) (a : Operand) (s : State) → At e c s → ObjectsFit c → OperandIsTyped c a → Fits e (take_address a s).1 → MayBeTaken c a
operand_taken e c (Place p is_const) s at fit ty ends = place_taken e c p is_const s at fit ty ends
operand_taken e c (Value x) s at fit ty ends = tt

address_term : (e : Ending) (c : Scope) (offset : ℕ) (a : Operand) (s : State) → At e c s → ObjectsFit c → OperandIsTyped c a → Fits e (address offset a s).1 → TermFits c (address offset a s).0
address_term e c offset a s at fit ty ends =
    let t = (take_address a s).1 in
    let taken = operand_taken e c a s at fit ty (fits_back e t _ (or_broken_steps NotAssignable offset (unary_typed unary_operator.AddressOf a) t) ends) in
    or_broken_holds (OperandIsTyped c) NotAssignable offset (unary_typed unary_operator.AddressOf a) t (unary_is_typed c unary_operator.AddressOf a fit ty (λ q. taken))

unary_of_term : (e : Ending) (c : Scope) (o : UnaryOp) (offset : ℕ) (a : Operand) (s : State) → At e c s → ObjectsFit c → OperandIsTyped c a → Fits e (unary_of o offset a s).1 →
    TermFits c (unary_of o offset a s).0
unary_of_term e c unary_operator.AddressOf offset a s at fit ty ends = address_term e c offset a s at fit ty ends
unary_of_term e c o offset a s at fit ty ends = or_broken_holds (OperandIsTyped c) BadOperands offset (unary_typed o a) s (unary_is_typed c o a fit ty (λ q. absurd (cc)))

pub unary_term : (e : Ending) (c : Scope) (o : Option UnaryOp) (offset : ℕ) (a : Term) (s : State) → At e c s → ObjectsFit c → TermFits c a →
    Fits e (if_some o (λ op. unary op offset a) s).1 →
    TermFits c (if_some o (λ op. unary op offset a) s).0
unary_term e c None offset a s at fit ty ends = tt
unary_term e c (Some o) offset None s at fit ty ends = tt
unary_term e c (Some o) offset (Some a) s at fit ty ends = unary_of_term e c o offset a s at fit ty ends

-- ---- assignments

target_holds : (c : Scope) (offset : ℕ) (a : Term) (s : State) → TermFits c a → TermFits c (target offset a s).0
target_holds c offset None s ty = tt
target_holds c offset (Some a) s ty = by_test (is_assignable a)
  where
    by_test : (t : Bool) → TermFits c ((if t then pure (Some a) else broken_at NotAssignable offset) s).0
    by_test true = ty
    by_test false = tt

pub stepped_term : (e : Ending) (c : Scope) (o : Option IncDec) (offset : ℕ) (gives_old : Bool) (a : Term) (s : State) → At e c s → TermFits c a →
    TermFits c (if_some o (λ op. stepped op offset gives_old a) s).0
stepped_term e c None offset gives_old a s at ty = tt
stepped_term e c (Some o) offset gives_old a s at ty = by_target (target offset a s).0 (target offset a s).1 (target_holds c offset a s ty)
  where
    by_target : (t : Term) (u : State) → TermFits c t → TermFits c (if_some t (λ x. or_broken BadOperands offset (term_of (step_typed s.structs o gives_old x))) u).0
    by_target None u h = tt
    by_target (Some x) u h =
        or_broken_holds (OperandIsTyped c) BadOperands offset (term_of (step_typed s.structs o gives_old x)) u
        (term_holds c (step_typed s.structs o gives_old x) (subst (λ defs. IfSome (ExprIsTyped c) (step_typed defs o gives_old x)) (sym (structs_at e c s at)) (step_is_typed c o gives_old x h)))

pub assigned_term : (e : Ending) (c : Scope) (o : Option AssignOp) (offset : ℕ) (a b : Term) (s : State) → At e c s → ObjectsFit c → TermFits c a → TermFits c b →
    TermFits c (if_some o (λ op. assigned op offset a b) s).0
assigned_term e c None offset a b s at fit ta tb = tt
assigned_term e c (Some o) offset a b s at fit ta tb = by_target (target offset a s).0 b (target offset a s).1 (target_holds c offset a s ta) tb
  where
    by_target : (t b : Term) (u : State) → TermFits c t → TermFits c b → TermFits c (if_some t (λ x. if_some b (λ y. or_broken BadOperands offset (term_of (assigned_typed s.structs o x y)))) u).0
    by_target None b u h k = tt
    by_target (Some x) None u h k = tt
    by_target (Some x) (Some y) u h k =
        or_broken_holds (OperandIsTyped c) BadOperands offset (term_of (assigned_typed s.structs o x y)) u
        (term_holds c (assigned_typed s.structs o x y) (subst (λ defs. IfSome (ExprIsTyped c) (assigned_typed defs o x y)) (sym (structs_at e c s at)) (assigned_is_typed c o x y fit h k)))

-- ---- members

member_numbered_term : (e : Ending) (c : Scope) (o : Selection) (offset : ℕ) (a : Operand) (k : Option ℕ) (s : State) → At e c s → ObjectsFit c → OperandIsTyped c a →
    TermFits c (member_numbered o offset a k s).0
member_numbered_term e c o offset a None s at fit ty = tt
member_numbered_term e c o offset a (Some k) s at fit ty =
    or_broken_holds (OperandIsTyped c) Unknown offset (member_typed s.structs o a k) s
    (subst (λ defs. IfSome (OperandIsTyped c) (member_typed defs o a k)) (sym (structs_at e c s at)) (member_is_typed c o a k fit ty))

pub selected_term : (e : Ending) (c : Scope) (o : Option Selection) (offset : ℕ) (name : Name) (name_offset : ℕ) (a : Term) (s : State) → At e c s → ObjectsFit c → TermFits c a →
    TermFits c (if_some o (λ op. selected op offset name name_offset a) s).0
selected_term e c None offset name name_offset a s at fit ty = tt
selected_term e c (Some o) offset name name_offset None s at fit ty = tt
selected_term e c (Some o) offset name name_offset (Some a) s at fit ty = by_tag (selected_tag o a)
  where
    by_tag : (tag : Option ℕ) → TermFits c (if_some (or_broken BadOperands offset tag s).0 (member_named o name name_offset a) (or_broken BadOperands offset tag s).1).0
    by_tag None = tt
    by_tag (Some tag) = member_numbered_term e c o name_offset a (member_number s.members tag name) s at fit ty

-- ---- commas

pub record SequenceFits (c : Scope) (x : Sequence) : Type 0 where
  pub dropped : ExprsAreTyped c (exprs_of x.dropped)
  pub last : OperandIsTyped c x.last

pub first_fits : (c : Scope) (a : Term) → TermFits c a → IfSome (SequenceFits c) (option_map first_of a)
first_fits c None ty = tt
first_fits c (Some a) ty = record { dropped = tt; last = ty }

exprs_append : (c : Scope) (xs : List ExprTree) (y : ExprTree) → ExprsAreTyped c (exprs_of xs) → ExprIsTyped c y → ExprsAreTyped c (exprs_of (xs ++ y ∷ []))
exprs_append c [] y h ty = (ty, tt)
exprs_append c (x ∷ xs) y h ty = (h.0, exprs_append c xs y h.1 ty)

followed_typed : (c : Scope) (x : Sequence) (b : Operand) → ObjectsFit c → SequenceFits c x → OperandIsTyped c b → IfSome (SequenceFits c) (followed_by x b)
followed_typed c x b fit h ty =
    and_then_holds (ExprIsTyped c) (SequenceFits c) (λ e. option_map (λ f. record { dropped = x.dropped ++ e ∷ []; last = Value f }) (value_of b)) (value_of x.last) (value_typed c x.last fit h.last)
    (λ e te.
    map_holds (ExprIsTyped c) (SequenceFits c) (λ f. record { dropped = x.dropped ++ e ∷ []; last = Value f }) (value_of b) (value_typed c b fit ty) (λ f tf.
    record { dropped = exprs_append c x.dropped e h.dropped te; last = tf }))

pub comma_term : (c : Scope) (offset : ℕ) (x : Option Sequence) (b : Term) (s : State) → ObjectsFit c → IfSome (SequenceFits c) x → TermFits c b → IfSome (SequenceFits c) (comma offset x b s).0
comma_term c offset None b s fit h ty = tt
comma_term c offset (Some x) None s fit h ty = tt
comma_term c offset (Some x) (Some b) s fit h ty = or_broken_holds (SequenceFits c) BadOperands offset (followed_by x b) s (followed_typed c x b fit h ty)

sequence_value_typed : (c : Scope) (es : List ExprTree) (a : Operand) → ExprsAreTyped c (exprs_of es) → OperandIsTyped c a → OperandIsTyped c (sequence_value es a)
sequence_value_typed c [] a h ty = ty
sequence_value_typed c (x ∷ es) (Value e) h ty = (h, ty, refl)
sequence_value_typed c (x ∷ es) (Place p is_const) h ty = ty

pub sequence_typed : (c : Scope) (x : Option Sequence) → IfSome (SequenceFits c) x → TermFits c (sequence_term x)
sequence_typed c None h = tt
sequence_typed c (Some x) h = sequence_value_typed c x.dropped x.last h.dropped h.last

-- ---- calls

-- arguments of these types
abbrev pub ArgumentsFit : Scope → List TypeTree → List ExprTree → Type 0
ArgumentsFit c [] [] = Unit {0}
ArgumentsFit c (t ∷ ts) (e ∷ es) = ValueOf c t e × ArgumentsFit c ts es
ArgumentsFit c ts es = ⊥

abbrev pub AllFit : Scope → List Term → Type 0
AllFit c [] = Unit {0}
AllFit c (a ∷ xs) = TermFits c a × AllFit c xs

passed_typed : (c : Scope) (t : TypeTree) (a : Operand) → ObjectsFit c → OperandIsTyped c a → IfSome (ValueOf c t) (passed t a)
passed_typed c t a fit ty = and_then_holds (ExprIsTyped c) (ValueOf c t) (converts t) (value_of a) (value_typed c a fit ty) (λ e te. converts_typed c t e te)

-- the types of parameters, and arguments of them
pub record PassedFit (c : Scope) (params : List MaybeType) (es : List ExprTree) : Type 0 where
  pub types : List TypeTree
  pub all : AllTypes params types
  pub fit : ArgumentsFit c types es

passed_as_typed : (c : Scope) (t : MaybeType) (a : Term) → ObjectsFit c → TermFits c a → IfSome (λ e. (u : TypeTree) × (t ≡ Some u) × ValueOf c u e) (passed_as t a)
passed_as_typed c None a fit ty = tt
passed_as_typed c (Some u) None fit ty = tt
passed_as_typed c (Some u) (Some a) fit ty = by_passed (passed u a) (passed_typed c u a fit ty)
  where
    by_passed : (o : Option ExprTree) → IfSome (ValueOf c u) o → IfSome (λ e. (w : TypeTree) × (Some u ≡ Some w) × ValueOf c w e) o
    by_passed None h = tt
    by_passed (Some e) h = (u, refl, h)

pub all_passed_typed : (c : Scope) (params : List MaybeType) (xs : List Term) → ObjectsFit c → AllFit c xs → IfSome (PassedFit c params) (all_passed params xs)
all_passed_typed c [] [] fit h = record { types = []; all = tt; fit = tt }
all_passed_typed c [] (a ∷ xs) fit h = tt
all_passed_typed c (t ∷ ts) [] fit h = tt
all_passed_typed c (t ∷ ts) (a ∷ xs) fit h =
    and_then_holds (λ e. (u : TypeTree) × (t ≡ Some u) × ValueOf c u e) (PassedFit c (t ∷ ts)) (λ e. option_map (λ es. e ∷ es) (all_passed ts xs)) (passed_as t a) (passed_as_typed c t a fit h.0)
    (λ e p.
    map_holds (PassedFit c ts) (PassedFit c (t ∷ ts)) (λ es. e ∷ es) (all_passed ts xs) (all_passed_typed c ts xs fit h.1) (λ es q.
    record { types = p.0 ∷ q.types; all = (p.1, q.all); fit = (p.2, q.fit) }))

pub arguments_typed : (c : Scope) (ts : List TypeTree) (es : List ExprTree) → ArgumentsFit c ts es → ExprsAreTyped c (exprs_of es) × (types_of (exprs_of es) ≡ ts)
arguments_typed c [] [] h = (tt, refl)
arguments_typed c [] (e ∷ es) h = absurd h
arguments_typed c (t ∷ ts) [] h = absurd h
arguments_typed c (t ∷ ts) (e ∷ es) h = let r = arguments_typed c ts es h.1 in ((h.0.typed, r.0), λ i. h.0.type i ∷ r.1 i)
