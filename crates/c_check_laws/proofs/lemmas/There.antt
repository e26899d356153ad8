-- What an expression is, is there where no rule is broken.
use Rattle.std.proofs.Common.{◌≡◌, ℕ, zero, suc, Bool, true, false, List, [], ◌∷◌, refl, sym, ap, ◌∙◌, subst}
use Rattle.std.specs.Prelude.{slice_get, Option, None, Some, option_map, option_and_then, if◌then◌else◌}
use Rattle.std.proofs.lemmas.Bool.{false≢true, and_parts}
use Rattle.c_ast.specs.declared.operator.Selection.{Selection}
use Rattle.c_ast.specs.declared.operator.IncDec.{IncDec}
use Rattle.c_ast.specs.declared.operator.UnaryOp.{UnaryOp}
use Rattle.c_ast.specs.declared.operator.UnaryOp.TheVariants as unary_operator
use Rattle.c_ast.specs.declared.operator.BinaryOp.{BinaryOp}
use Rattle.c_ast.specs.declared.operator.AssignOp.{AssignOp}
use Rattle.c_type.specs.Trees.{TypeTree}
use Rattle.c_typed.specs.Typed as typed
use Rattle.c_typed.specs.Typed.{ExprTree, place, local, global}
use Rattle.c_check_def.specs.declared.operand.Operand.{Operand}
use Rattle.c_check_def.specs.declared.operand.Operand.TheVariants.{Place, Value}
use Rattle.c_check_def.specs.OperandValues.{is_assignable}
use Rattle.c_check_def.specs.Operators.{binary_typed, unary_typed, conditional_typed, index_typed, selected_tag, member_typed, cast_typed, size_typed}
use Rattle.c_check_def.specs.Assignments.{assigned_typed, step_typed}
use Rattle.c_check_scope.specs.Scopes.{Name, meaning}
use Rattle.c_check_scope.specs.Names.{number_of}
use Rattle.c_check_scope.specs.Members.{member_number}
use Rattle.c_check_def.specs.declared.meaning.Meaning.{Meaning}
use Rattle.c_check_def.specs.declared.meaning.Meaning.TheVariants as means
use Rattle.c_check_def.specs.declared.refusal_kind.RefusalKind.{RefusalKind}
use Rattle.c_check_def.specs.declared.refusal_kind.RefusalKind.TheVariants.{Unknown, NotAssignable, BadOperands, BadCall}
use Rattle.c_check_def.specs.declared.call.Callee.{Callee}
use Rattle.c_check_def.specs.declared.call.Called.{Called}
use Rattle.c_check_def.specs.declared.call.Called.TheVariants as calls
use Rattle.c_check_def.specs.State.{MaybeType, Declared, Global, Variable, State, pure, broken_at, or_broken, if_some, variable_in, change_variable}
use Rattle.c_check_def.specs.Operands.{Term, term_of, term_meant, named, binary, conditional, indexed, cast, measured, take_address, unary_of, unary, target, stepped, assigned, member_numbered, member_named, selected, Sequence, first_of, followed_by, comma, sequence_term}
use Rattle.c_check_def.specs.Calls.{callee_of, callee_numbered, called_as, called_term, called_meant, called_name, passed, fits, all_fit, is_some_of, passed_as, all_passed, call_form, call_term, call_of, called}
use Rattle.c_check_laws.proofs.lemmas.States.{AllTypes, Step, same_at}
use Rattle.c_check_laws.proofs.lemmas.Steps.{or_broken_steps, change_variable_steps, named_keeps, if_some_steps}

abbrev pub IsThere : {A : Type 0} → Option A → Type 0
IsThere None = ⊥
IsThere (Some a) = Unit {0}

-- ---- names have types

pub record VariableTyped (s : State) (k : ℕ) : Type 0 where
  pub variable : Variable
  pub there : slice_get s.variables k ≡ Some variable
  pub type : TypeTree
  pub has : variable.type ≡ Some type

pub record GlobalTyped (s : State) (k : ℕ) : Type 0 where
  pub declared : Global
  pub there : slice_get s.globals k ≡ Some declared
  pub type : TypeTree
  pub has : declared.type ≡ Some type

pub record FunctionTyped (ds : List Declared) (k : ℕ) : Type 0 where
  pub function : Declared
  pub there : slice_get ds k ≡ Some function
  pub result : TypeTree
  pub has : function.result ≡ Some result
  pub types : List TypeTree
  pub takes : AllTypes function.params types

-- what names mean has a type
pub record NamesTyped (s : State) : Type 0 where
  pub variables : (name : Name) (slot : ℕ) (is_const : Bool) → meaning s.scopes name ≡ Some (means.Variable slot is_const) → VariableTyped s (variable_in s.slots slot)
  pub globals : (name : Name) (k : ℕ) (is_const : Bool) → meaning s.scopes name ≡ Some (means.Global k is_const) → GlobalTyped s k
  pub functions : (name : Name) (k : ℕ) → meaning s.scopes name ≡ Some (means.Function k) → FunctionTyped s.declared k

variable_step : (s t : State) (k : ℕ) → Step s t → VariableTyped s k → VariableTyped t k
variable_step s t k a h = let r = same_at s.variables t.variables k h.variable a.variables h.there in record { variable = r.later; there = r.there; type = h.type; has = r.type ∙ h.has }

pub typed_step : (s t : State) → Step s t → NamesTyped s → NamesTyped t
typed_step s t a h = record {
  variables = λ name slot b m.
      subst (λ ks. VariableTyped t (variable_in ks slot)) (sym a.slots) (variable_step s t (variable_in s.slots slot) a (h.variables name slot b (sym (ap (λ q. meaning q name) a.scopes) ∙ m)));
  globals = λ name k b m.
      let g = h.globals name k b (sym (ap (λ q. meaning q name) a.scopes) ∙ m) in record { declared = g.declared; there = a.globals k g.declared g.there; type = g.type; has = g.has };
  functions = λ name k m. subst (λ ds. FunctionTyped ds k) (sym a.declared) (h.functions name k (sym (ap (λ q. meaning q name) a.scopes) ∙ m));
}

-- ---- rules

pub or_broken_there : {A : Type 0} → (rule : RefusalKind) (offset : ℕ) (o : Option A) (s : State) → (or_broken rule offset o s).1.broken ≡ None → IsThere (or_broken rule offset o s).0
or_broken_there rule offset None s h = absurd (cc)
or_broken_there rule offset (Some a) s h = tt

-- ---- names

pub map_there : {A B : Type 0} → (f : A → B) (o : Option A) → IsThere o → IsThere (option_map f o)
map_there f None h = h
map_there f (Some a) h = tt

is_there : {A : Type 0} → (o : Option A) (a : A) → o ≡ Some a → IsThere o
is_there o a e = subst IsThere (sym e) tt

term_meant_there : (name : Name) (offset : ℕ) (m : Option Meaning) (s : State) → NamesTyped s → meaning s.scopes name ≡ m → (term_meant offset m s).1.broken ≡ None → IsThere (term_meant offset m s).0
term_meant_there name offset None s h q clean = absurd (cc)
term_meant_there name offset (Some (means.Variable slot b)) s h q clean =
    let t = (change_variable slot (λ v. record v { is_named = true }) s).1 in
    let r = variable_step s t (variable_in s.slots slot) (change_variable_steps slot (λ v. record v { is_named = true }) named_keeps s) (h.variables name slot b q) in
    map_there (λ u. Place (place u (local slot)) b) (option_and_then (λ (v : Variable). v.type) (slice_get t.variables (variable_in t.slots slot)))
    (is_there _ r.type (ap (option_and_then (λ (v : Variable). v.type)) r.there ∙ r.has))
term_meant_there name offset (Some (means.Global k b)) s h q clean =
    let g = h.globals name k b q in
    map_there (λ t. Place (place t (global k)) b) (option_and_then (λ (g : Global). g.type) (slice_get s.globals k)) (is_there _ g.type (ap (option_and_then (λ (g : Global). g.type)) g.there ∙ g.has))
term_meant_there name offset (Some (means.Function k)) s h q clean = absurd (cc)

pub named_there : (name : Name) (offset : ℕ) (s : State) → NamesTyped s → (named name offset s).1.broken ≡ None → IsThere (named name offset s).0
named_there name offset s h clean = term_meant_there name offset (meaning s.scopes name) s h refl clean

-- ---- operators

pub binary_there : (o : Option BinaryOp) (offset : ℕ) (a b : Term) (s : State) → IsThere o → IsThere a → IsThere b → (if_some o (λ op. binary op offset a b) s).1.broken ≡ None →
    IsThere (if_some o (λ op. binary op offset a b) s).0
binary_there None offset a b s m h k clean = absurd m
binary_there (Some o) offset None b s m h k clean = absurd h
binary_there (Some o) offset (Some a) None s m h k clean = absurd k
binary_there (Some o) offset (Some a) (Some b) s m h k clean = or_broken_there BadOperands offset (term_of (binary_typed s.structs o a b)) s clean

pub conditional_there : (offset : ℕ) (d a b : Term) (s : State) → IsThere d → IsThere a → IsThere b → (conditional offset d a b s).1.broken ≡ None → IsThere (conditional offset d a b s).0
conditional_there offset None a b s h k m clean = absurd h
conditional_there offset (Some d) None b s h k m clean = absurd k
conditional_there offset (Some d) (Some a) None s h k m clean = absurd m
conditional_there offset (Some d) (Some a) (Some b) s h k m clean = or_broken_there BadOperands offset (term_of (conditional_typed d a b)) s clean

pub indexed_there : (offset : ℕ) (a b : Term) (s : State) → IsThere a → IsThere b → (indexed offset a b s).1.broken ≡ None → IsThere (indexed offset a b s).0
indexed_there offset None b s h k clean = absurd h
indexed_there offset (Some a) None s h k clean = absurd k
indexed_there offset (Some a) (Some b) s h k clean = or_broken_there BadOperands offset (index_typed s.structs a b) s clean

pub cast_there : (offset : ℕ) (t : MaybeType) (a : Term) (s : State) → IsThere t → IsThere a → (cast offset t a s).1.broken ≡ None → IsThere (cast offset t a s).0
cast_there offset None a s h k clean = absurd h
cast_there offset (Some t) None s h k clean = absurd k
cast_there offset (Some t) (Some a) s h k clean = or_broken_there BadOperands offset (term_of (cast_typed t a)) s clean

pub measured_there : (offset : ℕ) (t : MaybeType) (s : State) → IsThere t → (measured offset t s).1.broken ≡ None → IsThere (measured offset t s).0
measured_there offset None s h clean = absurd h
measured_there offset (Some t) s h clean = or_broken_there BadOperands offset (term_of (size_typed s.structs t)) s clean

unary_of_there : (o : UnaryOp) (offset : ℕ) (a : Operand) (s : State) → (unary_of o offset a s).1.broken ≡ None → IsThere (unary_of o offset a s).0
unary_of_there unary_operator.AddressOf offset a s clean = or_broken_there NotAssignable offset (unary_typed unary_operator.AddressOf a) (take_address a s).1 clean
unary_of_there o offset a s clean = or_broken_there BadOperands offset (unary_typed o a) s clean

pub unary_there : (o : Option UnaryOp) (offset : ℕ) (a : Term) (s : State) → IsThere o → IsThere a → (if_some o (λ op. unary op offset a) s).1.broken ≡ None →
    IsThere (if_some o (λ op. unary op offset a) s).0
unary_there None offset a s m h clean = absurd m
unary_there (Some o) offset None s m h clean = absurd h
unary_there (Some o) offset (Some a) s m h clean = unary_of_there o offset a s clean

target_there : (offset : ℕ) (a : Term) (s : State) → IsThere a → (target offset a s).1.broken ≡ None → IsThere (target offset a s).0
target_there offset None s h clean = absurd h
target_there offset (Some a) s h clean = by_test (is_assignable a) clean
  where
    by_test : (t : Bool) → ((if t then pure (Some a) else broken_at NotAssignable offset) s).1.broken ≡ None → IsThere ((if t then pure (Some a) else broken_at NotAssignable offset) s).0
    by_test true q = tt
    by_test false q = absurd (cc)

pub stepped_there : (o : Option IncDec) (offset : ℕ) (gives_old : Bool) (a : Term) (s : State) → IsThere o → IsThere a → (if_some o (λ op. stepped op offset gives_old a) s).1.broken ≡ None →
    IsThere (if_some o (λ op. stepped op offset gives_old a) s).0
stepped_there None offset gives_old a s m h clean = absurd m
stepped_there (Some o) offset gives_old a s m h clean =
    let r = target offset a s in
    by_target r.0 r.1 (target_there offset a s h ((if_some_steps r.0 (λ x. or_broken BadOperands offset (term_of (step_typed s.structs o gives_old x)))
    (λ x. or_broken_steps BadOperands offset _) r.1).broken clean)) clean
  where
    by_target : (t : Term) (u : State) → IsThere t → (if_some t (λ x. or_broken BadOperands offset (term_of (step_typed s.structs o gives_old x))) u).1.broken ≡ None →
        IsThere (if_some t (λ x. or_broken BadOperands offset (term_of (step_typed s.structs o gives_old x))) u).0
    by_target None u h q = absurd h
    by_target (Some x) u h q = or_broken_there BadOperands offset (term_of (step_typed s.structs o gives_old x)) u q

pub assigned_there : (o : Option AssignOp) (offset : ℕ) (a b : Term) (s : State) → IsThere o → IsThere a → IsThere b → (if_some o (λ op. assigned op offset a b) s).1.broken ≡ None →
    IsThere (if_some o (λ op. assigned op offset a b) s).0
assigned_there None offset a b s m h k clean = absurd m
assigned_there (Some o) offset a b s m h k clean =
    let r = target offset a s in
    by_target r.0 b r.1 (target_there offset a s h ((if_some_steps r.0 (λ x. if_some b (λ y. or_broken BadOperands offset (term_of (assigned_typed s.structs o x y))))
    (λ x. if_some_steps b _ (λ y. or_broken_steps BadOperands offset _)) r.1).broken clean)) k clean
  where
    by_target : (t b : Term) (u : State) → IsThere t → IsThere b → (if_some t (λ x. if_some b (λ y. or_broken BadOperands offset (term_of (assigned_typed s.structs o x y)))) u).1.broken ≡ None →
        IsThere (if_some t (λ x. if_some b (λ y. or_broken BadOperands offset (term_of (assigned_typed s.structs o x y)))) u).0
    by_target None b u h k q = absurd h
    by_target (Some x) None u h k q = absurd k
    by_target (Some x) (Some y) u h k q = or_broken_there BadOperands offset (term_of (assigned_typed s.structs o x y)) u q

member_numbered_there : (o : Selection) (offset : ℕ) (a : Operand) (k : Option ℕ) (s : State) → (member_numbered o offset a k s).1.broken ≡ None → IsThere (member_numbered o offset a k s).0
member_numbered_there o offset a None s clean = absurd (cc)
member_numbered_there o offset a (Some k) s clean = or_broken_there Unknown offset (member_typed s.structs o a k) s clean

pub selected_there : (o : Option Selection) (offset : ℕ) (name : Name) (name_offset : ℕ) (a : Term) (s : State) → IsThere o → IsThere a →
    (if_some o (λ op. selected op offset name name_offset a) s).1.broken ≡ None →
    IsThere (if_some o (λ op. selected op offset name name_offset a) s).0
selected_there None offset name name_offset a s m h clean = absurd m
selected_there (Some o) offset name name_offset None s m h clean = absurd h
selected_there (Some o) offset name name_offset (Some a) s m h clean = by_tag (selected_tag o a) clean
  where
    by_tag : (tag : Option ℕ) → (if_some (or_broken BadOperands offset tag s).0 (member_named o name name_offset a) (or_broken BadOperands offset tag s).1).1.broken ≡ None →
        IsThere (if_some (or_broken BadOperands offset tag s).0 (member_named o name name_offset a) (or_broken BadOperands offset tag s).1).0
    by_tag None q = absurd (cc)
    by_tag (Some tag) q = member_numbered_there o name_offset a (member_number s.members tag name) s q

pub comma_there : (offset : ℕ) (x : Option Sequence) (b : Term) (s : State) → IsThere x → IsThere b → (comma offset x b s).1.broken ≡ None → IsThere (comma offset x b s).0
comma_there offset None b s h k clean = absurd h
comma_there offset (Some x) None s h k clean = absurd k
comma_there offset (Some x) (Some b) s h k clean = or_broken_there BadOperands offset (followed_by x b) s clean

pub first_there : (a : Term) → IsThere a → IsThere (option_map first_of a)
first_there None h = h
first_there (Some a) h = tt

pub sequence_there : (x : Option Sequence) → IsThere x → IsThere (sequence_term x)
sequence_there None h = h
sequence_there (Some x) h = tt

-- ---- calls

abbrev pub AllThere : List Term → Type 0
AllThere [] = Unit {0}
AllThere (a ∷ xs) = IsThere a × AllThere xs

-- a function that is called has types
abbrev pub CalledThere : List Declared → Called → Type 0
CalledThere ds calls.Nothing = ⊥
CalledThere ds calls.NoFunction = Unit {0}
CalledThere ds (calls.Function callee k) = FunctionTyped ds k

called_as_there : (ds : List Declared) (k : ℕ) (callee : Option Callee) → IsThere callee → FunctionTyped ds k → CalledThere ds (called_as k callee)
called_as_there ds k None h f = h
called_as_there ds k (Some callee) h f = f

callee_numbered_there : (k : ℕ) (name : Name) (offset : ℕ) (s : State) → (callee_numbered k name offset s).1.broken ≡ None → IsThere (callee_numbered k name offset s).0
callee_numbered_there zero name offset s clean = tt
callee_numbered_there (suc zero) name offset s clean = tt
callee_numbered_there (suc (suc zero)) name offset s clean = tt
callee_numbered_there (suc (suc (suc k))) name offset s clean = by_number (number_of s.defined name) clean
  where
    by_number : (n : Option ℕ) → (callee_of offset n s).1.broken ≡ None → IsThere (callee_of offset n s).0
    by_number None q = absurd (cc)
    by_number (Some n) q = tt

pub called_term_there : (ds : List Declared) (a : Term) → IsThere a → CalledThere ds (called_term a)
called_term_there ds None h = h
called_term_there ds (Some a) h = tt

called_meant_there : (name : Name) (offset : ℕ) (m : Option Meaning) (s : State) → NamesTyped s → meaning s.scopes name ≡ m → (called_meant name offset m s).1.broken ≡ None →
    CalledThere s.declared (called_meant name offset m s).0
called_meant_there name offset (Some (means.Function k)) s h q clean = called_as_there s.declared k (callee_numbered k name offset s).0 (callee_numbered_there k name offset s clean)
    (h.functions name k q)
called_meant_there name offset None s h q clean = absurd (cc)
called_meant_there name offset (Some (means.Variable slot b)) s h q clean = called_term_there s.declared (term_meant offset (Some (means.Variable slot b)) s).0
    (term_meant_there name offset (Some (means.Variable slot b)) s h q clean)
called_meant_there name offset (Some (means.Global k b)) s h q clean = called_term_there s.declared (term_meant offset (Some (means.Global k b)) s).0
    (term_meant_there name offset (Some (means.Global k b)) s h q clean)

pub called_name_there : (name : Name) (offset : ℕ) (s : State) → NamesTyped s → (called_name name offset s).1.broken ≡ None → CalledThere s.declared (called_name name offset s).0
called_name_there name offset s h clean = called_meant_there name offset (meaning s.scopes name) s h refl clean

some_there : (o : Option ExprTree) → is_some_of o ≡ true → IsThere o
some_there None e = absurd (false≢true e)
some_there (Some e) h = tt

passed_there : (t : MaybeType) (u : TypeTree) (a : Term) → t ≡ Some u → IsThere a → fits t a ≡ true → IsThere (passed_as t a)
passed_there None u a e h f = absurd (cc)
passed_there (Some t) u None e h f = absurd h
passed_there (Some t) u (Some a) e h f = some_there (passed t a) f

all_passed_there : (params : List MaybeType) (ts : List TypeTree) (xs : List Term) → AllTypes params ts → AllThere xs → all_fit params xs ≡ true → IsThere (all_passed params xs)
all_passed_there [] ts [] a h f = tt
all_passed_there [] ts (x ∷ xs) a h f = absurd (false≢true f)
all_passed_there (t ∷ params) ts [] a h f = absurd (false≢true f)
all_passed_there (t ∷ params) [] (x ∷ xs) a h f = absurd a
all_passed_there (t ∷ params) (u ∷ ts) (x ∷ xs) a h f =
    let parts = and_parts (fits t x) (all_fit params xs) f in
    by_parts (passed_as t x) (all_passed params xs) (passed_there t u x a.0 h.0 parts.0) (all_passed_there params ts xs a.1 h.1 parts.1)
  where
    by_parts : (p : Option ExprTree) (ps : Option (List ExprTree)) → IsThere p → IsThere ps → IsThere (option_and_then (λ e. option_map (λ es. e ∷ es) ps) p)
    by_parts None ps h k = absurd h
    by_parts (Some e) None h k = absurd k
    by_parts (Some e) (Some es) h k = tt

call_term_there : (callee : Callee) (k : ℕ) (ds : List Declared) (f : Declared) (xs : List Term) → FunctionTyped ds k → slice_get ds k ≡ Some f → AllThere xs → all_fit f.params xs ≡ true →
    IsThere (call_term callee f xs)
call_term_there callee k ds f xs t there h fit =
    let same : t.function ≡ f = let both : Some t.function ≡ Some f = sym t.there ∙ there in cc in
    by_parts f.result (all_passed f.params xs) (is_there f.result t.result (ap (λ (f : Declared). f.result) (sym same) ∙ t.has))
    (all_passed_there f.params t.types xs (subst (λ (f : Declared). AllTypes f.params t.types) same t.takes) h fit)
  where
    by_parts : (r : MaybeType) (ps : Option (List ExprTree)) → IsThere r → IsThere ps → IsThere (option_and_then (λ t. option_map (λ es. Value (typed.expr t (call_form callee es))) ps) r)
    by_parts None ps h k = absurd h
    by_parts (Some t) None h k = absurd k
    by_parts (Some t) (Some es) h k = tt

call_of_there : (offset : ℕ) (callee : Callee) (k : ℕ) (s : State) (xs : List Term) (f : Option Declared) → FunctionTyped s.declared k → slice_get s.declared k ≡ f → AllThere xs →
    (call_of offset callee xs f s).1.broken ≡ None →
    IsThere (call_of offset callee xs f s).0
call_of_there offset callee k s xs None t there h clean = let none : None ≡ Some t.function = sym there ∙ t.there in absurd (cc)
call_of_there offset callee k s xs (Some f) t there h clean = by_test (all_fit f.params xs) refl clean
  where
    by_test : (b : Bool) → all_fit f.params xs ≡ b → ((if b then pure (call_term callee f xs) else broken_at BadCall offset) s).1.broken ≡ None →
        IsThere ((if b then pure (call_term callee f xs) else broken_at BadCall offset) s).0
    by_test true q r = call_term_there callee k s.declared f xs t there h q
    by_test false q r = absurd (cc)

pub called_there : (offset : ℕ) (f : Called) (xs : List Term) (s : State) → CalledThere s.declared f → AllThere xs → (called offset f xs s).1.broken ≡ None → IsThere (called offset f xs s).0
called_there offset calls.Nothing xs s t h clean = absurd t
called_there offset calls.NoFunction xs s t h clean = absurd (cc)
called_there offset (calls.Function callee k) xs s t h clean = call_of_there offset callee k s xs (slice_get s.declared k) t refl h clean
