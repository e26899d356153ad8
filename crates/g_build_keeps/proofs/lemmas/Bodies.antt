-- The graphs of bodies.
use Rattle.std.proofs.Common.{◌≡◌, ◌<◌, ℕ, suc, Bool, true, false, List, [], ◌∷◌, refl, subst}
use Rattle.std.specs.Prelude.{not, ◌&&◌, if◌then◌else◌}
use Rattle.c_typed.specs.Typed.{StmtTree, return_value, return_none, ItemTrees, no_items, stmt_then, declare_then, VariableTree, FunctionTree}
use Rattle.c_typed.specs.WellTyped.{Scope, Jumps, extended, params_of, StmtIsTyped, ItemsAreTyped}
use Rattle.c_typed.specs.Objects.{access_width}
use Rattle.g_graph.specs.declared.op.Kind.TheVariants.{Value, Memory, Io}
use Rattle.g_graph.specs.declared.op.Origin.{Origin}
use Rattle.g_graph.specs.declared.op.Origin.TheVariants.{Arg}
use Rattle.g_graph.specs.Plain.{nodes_of}
use Rattle.g_build_keeps.specs.Formation.{Standing, Has, NodesForm}
use Rattle.g_build_keeps.proofs.lemmas.Joins.{weaken, join}
use Rattle.g_build_def.specs.Writer.{Form, straight, jumping, Point, with_jumps, Built, given, nothing, bind}
use Rattle.g_build_def.specs.Operations.{const_made, undef_made}
use Rattle.g_build_def.specs.Expressions.{expr_made}
use Rattle.g_build_def.specs.Exits.{stmt_jumps, is_return, body_jumps}
use Rattle.g_build_def.specs.Statements.{object_stored, declared_made, stmt_made, items_made}
use Rattle.g_build_def.specs.Functions.{params_stored, start_of, end_value, jumps_begun, straight_then, straight_made, jumping_body, straight_body, body_built}
use Rattle.g_build_keeps.proofs.Stands.{Frame, allowed, with_mark, IsValue, Grown, NoValue, Stands, Done, Made}
use Rattle.g_build_keeps.proofs.Parts.{bind_made, then_made, given_made, nothing_made}
use Rattle.g_build_keeps.proofs.Operations.{const_ok, undef_ok, is_access_width}
use Rattle.g_build_keeps.proofs.ExpressionGraphs.{FitsScope, expr_ok}
use Rattle.g_build_keeps.proofs.lemmas.Exits.{MayJump, neither_left, neither_right}
use Rattle.g_build_keeps.proofs.lemmas.Declarations.{object_stored_ok, scope_extended, mark_shown, declared_mark, declared_ok}
use Rattle.g_build_keeps.proofs.lemmas.Statements.{stmt_ok, items_ok}

-- ---- the end of a body

-- what the region of a body gives
pub record Ended (b : Built Origin) (d : Standing) : Type 0 where
  pub next : d.next ≡ b.after.next
  pub value : IsValue d b.value
  pub memory : Has d Memory b.after.carried.memory
  pub io : Has d Io b.after.carried.io

abbrev Ends : Frame → Standing → Built Origin → Type 0
Ends f c b = NodesForm (allowed f) c (nodes_of b.nodes) (Ended b)

made_ends : (f : Frame) (c : Standing) (b : Built Origin) → Made f IsValue c b → Ends f c b
made_ends f c b h = weaken (allowed f) c (nodes_of b.nodes) (Done f IsValue c b) (Ended b) h (λ d x. record { next = x.stands.next; value = x.value; memory = x.stands.memory; io = x.stands.io })

then_ends : {A : Type 0} → (f g : Frame) (V : Standing → A → Type 0) (c : Standing) (a : Built A) (k : A → Point → Built Origin) → allowed f ≡ allowed g → Made f V c a →
    ((d : Standing) → Done f V c a d → Ends g d (k a.value a.after)) → Ends g c (bind a k)
then_ends f g V c a k same h go =
    let b = k a.value a.after in
    join (allowed g) c a.nodes b.nodes (Ended (bind a k))
    (weaken (allowed g) c (nodes_of a.nodes) (Done f V c a) (λ d. NodesForm (allowed g) d (nodes_of b.nodes) (Ended (bind a k)))
    (subst (λ ok. NodesForm ok c (nodes_of a.nodes) (Done f V c a)) same h)
    (λ d x. weaken (allowed g) d (nodes_of b.nodes) (Ended b) (Ended (bind a k)) (go d x) (λ e y. record { next = y.next; value = y.value; memory = y.memory; io = y.io })))

end_value_ok : (f : Frame) (is_main : Bool) (c : Standing) (s : Point) → Stands f c s → Made f IsValue c (end_value is_main s)
end_value_ok f true c s h = const_ok f c s 0 h
end_value_ok f false c s h = undef_ok f c s h

-- ---- parameters

abbrev pub Either : Bool → Type 0 → Type 0 → Type 0
Either true A B = A
Either false A B = B

-- arguments are values from this one on, and objects have numbers from this one on
abbrev pub ParamsFit : Frame → Standing → (number argument : ℕ) → List VariableTree → Type 0
ParamsFit f c k a [] = Unit {0}
ParamsFit f c k a (p ∷ ps) = IsValue c (Arg a) × Either p.is_object ((k < f.objects) × ParamsFit f c (suc k) (suc a) ps) (ParamsFit f c k (suc a) ps)

params_grown : (f : Frame) (c d : Standing) (k a : ℕ) (ps : List VariableTree) → Grown c d → ParamsFit f c k a ps → ParamsFit f d k a ps
params_grown f c d k a [] g h = tt
params_grown f c d k a (p ∷ ps) g h = (g (Arg a) Value h.0, by_kind p.is_object (λ q. params_grown f c d (suc k) (suc a) ps g q) (λ q. params_grown f c d k (suc a) ps g q) h.1)
  where
    by_kind : (t : Bool) → (ParamsFit f c (suc k) (suc a) ps → ParamsFit f d (suc k) (suc a) ps) → (ParamsFit f c k (suc a) ps → ParamsFit f d k (suc a) ps) →
        Either t ((k < f.objects) × ParamsFit f c (suc k) (suc a) ps) (ParamsFit f c k (suc a) ps) →
        Either t ((k < f.objects) × ParamsFit f d (suc k) (suc a) ps) (ParamsFit f d k (suc a) ps)
    by_kind true r e q = (q.0, r q.1)
    by_kind false r e q = e q

params_stored_ok : (f : Frame) (k a : ℕ) (ps : List VariableTree) (c : Standing) (s : Point) → ParamsFit f c k a ps → Stands f c s → Made f NoValue c (params_stored k a ps s)
params_stored_ok f k a [] c s q h = nothing_made f c s h
params_stored_ok f k a (p ∷ ps) c s q h = by_kind p.is_object (λ d t r x. params_stored_ok f (suc k) (suc a) ps d t r x) (λ r. params_stored_ok f k (suc a) ps c s r h) q.1
  where
    by_kind : (t : Bool) → ((d : Standing) (t : Point) → ParamsFit f d (suc k) (suc a) ps → Stands f d t → Made f NoValue d (params_stored (suc k) (suc a) ps t)) →
        (ParamsFit f c k (suc a) ps → Made f NoValue c (params_stored k (suc a) ps s)) →
        Either t ((k < f.objects) × ParamsFit f c (suc k) (suc a) ps) (ParamsFit f c k (suc a) ps) →
        Made f NoValue c
        (if t then bind (object_stored k (access_width p.type) (Arg a) s) (λ _ t. params_stored (suc k) (suc a) ps t) else params_stored k (suc a) ps s)
    by_kind true rest others r =
        let b = object_stored k (access_width p.type) (Arg a) s in
        then_made f NoValue NoValue c b (λ _ t. params_stored (suc k) (suc a) ps t) (object_stored_ok f c s k (access_width p.type) (Arg a) h r.0 (is_access_width p.type) q.0)
        (λ d x. rest d b.after (params_grown f c d (suc k) (suc a) ps x.grown r.1) x.stands)
    by_kind false rest others r = others r

-- ---- bodies without jumps

pub may_stay : (form : Form) (b : Bool) → b ≡ false → MayJump form b
may_stay straight b h = h
may_stay jumping b h = tt

-- a last statement, and what a body gives after it
last_ok : (f : Frame) (k : Scope) (j : Jumps) (a : StmtTree) (rest : Point → Built Origin) (c : Standing) (s : Point) → FitsScope f k → StmtIsTyped k j a →
    (not (is_return a) && stmt_jumps a) ≡ false →
    ((d : Standing) (t : Point) → Stands f d t → Ends f d (rest t)) → Stands f c s → Ends f c (straight_then false k.variables a rest s)
last_ok f k j (return_value e) rest c s q ty m go h = made_ends f c (expr_made e s) (expr_ok f k e c s q ty.0 h)
last_ok f k j return_none rest c s q ty m go h = made_ends f c (undef_made s) (undef_ok f c s h)
last_ok f k j a rest c s q ty m go h =
    let b = stmt_made k.variables a s in
    then_ends f f NoValue c b (λ _ t. rest t) refl (stmt_ok f k j a c s q ty (may_stay f.form (stmt_jumps a) m) h) (λ d x. go d b.after x.stands)

middle_ok : (f : Frame) (k : Scope) (j : Jumps) (a : StmtTree) (rest : Point → Built Origin) (c : Standing) (s : Point) → FitsScope f k → StmtIsTyped k j a → stmt_jumps a ≡ false →
    ((d : Standing) (t : Point) → Stands f d t → Ends f d (rest t)) → Stands f c s → Ends f c (bind (stmt_made k.variables a s) (λ _ t. rest t))
middle_ok f k j a rest c s q ty m go h =
    let b = stmt_made k.variables a s in
    then_ends f f NoValue c b (λ _ t. rest t) refl (stmt_ok f k j a c s q ty (may_stay f.form (stmt_jumps a) m) h) (λ d x. go d b.after x.stands)

straight_ok : (f : Frame) (k : Scope) (j : Jumps) (is_main : Bool) (is : ItemTrees) (c : Standing) (s : Point) → FitsScope f k → ItemsAreTyped k j is → body_jumps is ≡ false → Stands f c s →
    Ends f c (straight_made is_main k.variables is s)
straight_ok f k j is_main no_items c s q ty m h = made_ends f c (end_value is_main s) (end_value_ok f is_main c s h)
straight_ok f k j is_main (stmt_then a no_items) c s q ty m h =
    last_ok f k j a (straight_made is_main k.variables no_items) c s q ty.0 m (λ d t x. made_ends f d (end_value is_main t) (end_value_ok f is_main d t x)) h
straight_ok f k j is_main (stmt_then a (stmt_then b is)) c s q ty m h =
    middle_ok f k j a (straight_made is_main k.variables (stmt_then b is)) c s q ty.0 (neither_left (stmt_jumps a) (body_jumps (stmt_then b is)) m)
    (λ d t x. straight_ok f k j is_main (stmt_then b is) d t q ty.1 (neither_right (stmt_jumps a) (body_jumps (stmt_then b is)) m) x) h
straight_ok f k j is_main (stmt_then a (declare_then d is)) c s q ty m h =
    middle_ok f k j a (straight_made is_main k.variables (declare_then d is)) c s q ty.0 (neither_left (stmt_jumps a) (body_jumps (declare_then d is)) m)
    (λ e t x. straight_ok f k j is_main (declare_then d is) e t q ty.1 (neither_right (stmt_jumps a) (body_jumps (declare_then d is)) m) x) h
straight_ok f k j is_main (declare_then d is) c s q ty m h =
    let g = with_mark f (declared_mark k d ty.0) in
    let b = declared_made k.variables d s in
    then_ends g g NoValue c b (λ _ t. straight_made is_main k.variables is t) refl (declared_ok f k ty.0 ty.2.0 d c s q ty.1 ty.2.2 h) (λ e x.
    straight_ok g (extended k ty.0) j is_main is e b.after (scope_extended f k ty.0 (declared_mark k d ty.0) q (mark_shown ty.0.is_object _)) ty.3 m x.stands)

-- ---- whole bodies

abbrev with_form : Frame → Form → Frame
with_form f form = record { lambdas = f.lambdas; globals = f.globals; objects = f.objects; form = form; marks = f.marks }

scope_formed : (f : Frame) (k : Scope) (form : Form) → FitsScope f k → FitsScope (with_form f form) k
scope_formed f k form q = record { slots = q.slots; globals = q.globals; functions = q.functions; variables = q.variables }

params_formed : (f : Frame) (form : Form) (c : Standing) (k a : ℕ) (ps : List VariableTree) → ParamsFit f c k a ps → ParamsFit (with_form f form) c k a ps
params_formed f form c k a [] h = tt
params_formed f form c k a (p ∷ ps) h = (h.0, by_kind p.is_object (λ q. params_formed f form c (suc k) (suc a) ps q) (λ q. params_formed f form c k (suc a) ps q) h.1)
  where
    by_kind : (t : Bool) → (ParamsFit f c (suc k) (suc a) ps → ParamsFit (with_form f form) c (suc k) (suc a) ps) → (ParamsFit f c k (suc a) ps → ParamsFit (with_form f form) c k (suc a) ps) →
        Either t ((k < f.objects) × ParamsFit f c (suc k) (suc a) ps) (ParamsFit f c k (suc a) ps) →
        Either t ((k < f.objects) × ParamsFit (with_form f form) c (suc k) (suc a) ps) (ParamsFit (with_form f form) c k (suc a) ps)
    by_kind true r e q = (q.0, r q.1)
    by_kind false r e q = e q

jumps_begun_ok : (f : Frame) (is_main : Bool) (c : Standing) (s : Point) → Stands f c s → Made (with_form f jumping) NoValue c (jumps_begun is_main s)
jumps_begun_ok f is_main c s h =
    let g = with_form f jumping in
    let z = const_made 0 s in
    let r = end_value is_main z.after in
    bind_made f g IsValue NoValue c z (λ g t. bind (end_value is_main t) (λ r u. nothing (with_jumps u jumping g r))) refl (const_ok f c s 0 h) (λ d1 x1.
    bind_made f g IsValue NoValue d1 r (λ r u. nothing (with_jumps u jumping z.value r)) refl (end_value_ok f is_main d1 z.after x1.stands) (λ d2 x2.
    nothing_made g d2 (with_jumps r.after jumping z.value r.value) (record {
      form = refl;
      next = x2.stands.next;
      slots = x2.stands.slots;
      jumps = (x2.grown z.value Value x1.value, x2.value);
      memory = x2.stands.memory;
      io = x2.stands.io;
      old = x2.stands.old;
    })))

jumping_ok : (f : Frame) (k : Scope) (j : Jumps) (is_main : Bool) (ps : List VariableTree) (is : ItemTrees) (c : Standing) (s : Point) → FitsScope f k → ItemsAreTyped k j is → ParamsFit f c 0 0 ps →
    Stands f c s →
    Ends f c (bind (jumps_begun is_main s) (λ _ s. bind (params_stored 0 0 ps s) (λ _ t. bind (items_made k.variables is t) (λ _ u. given u.carried.ret u))))
jumping_ok f k j is_main ps is c s q ty p h =
    let g = with_form f jumping in
    let a = jumps_begun is_main s in
    let b = params_stored 0 0 ps a.after in
    let r = items_made k.variables is b.after in
    then_ends g f NoValue c a (λ _ s. bind (params_stored 0 0 ps s) (λ _ t. bind (items_made k.variables is t) (λ _ u. given u.carried.ret u))) refl (jumps_begun_ok f is_main c s h) (λ d1 x1.
    then_ends g f NoValue d1 b (λ _ t. bind (items_made k.variables is t) (λ _ u. given u.carried.ret u)) refl
    (params_stored_ok g 0 0 ps d1 a.after (params_formed f jumping d1 0 0 ps (params_grown f c d1 0 0 ps x1.grown p)) x1.stands) (λ d2 x2.
    then_ends g f NoValue d2 r (λ _ u. given u.carried.ret u) refl (items_ok g k j is d2 b.after (scope_formed f k jumping q) ty tt x2.stands) (λ d3 x3.
    made_ends g d3 (given r.after.carried.ret r.after) (given_made g IsValue d3 r.after r.after.carried.ret x3.stands x3.stands.jumps.1))))

pub body_ok : (f : Frame) (k : Scope) (j : Jumps) (is_main : Bool) (g : FunctionTree) (c : Standing) → FitsScope f k → k.variables ≡ g.variables → ItemsAreTyped k j g.body →
    ParamsFit f c 0 0 (params_of g) →
    Stands f c (start_of g) → Ends f c (body_built is_main g)
body_ok f k j is_main g c q same ty p h = by_jumps (body_jumps g.body) refl
  where
    by_jumps : (t : Bool) → body_jumps g.body ≡ t → Ends f c (if t then jumping_body is_main g else straight_body is_main g)
    by_jumps true e =
        subst (λ vs. Ends f c (bind (jumps_begun is_main (start_of g)) (λ _ s. bind (params_stored 0 0 (params_of g) s) (λ _ t. bind (items_made vs g.body t) (λ _ u. given u.carried.ret u))))) same
        (jumping_ok f k j is_main (params_of g) g.body c (start_of g) q ty p h)
    by_jumps false e =
        let b = params_stored 0 0 (params_of g) (start_of g) in
        subst (λ vs. Ends f c (bind (params_stored 0 0 (params_of g) (start_of g)) (λ _ s. straight_made is_main vs g.body s))) same
        (then_ends f f NoValue c b (λ _ s. straight_made is_main k.variables g.body s) refl (params_stored_ok f 0 0 (params_of g) c (start_of g) p h) (λ d x.
        straight_ok f k j is_main g.body d b.after q ty e x.stands))
