-- The graphs of declarations.
use Rattle.std.proofs.Common.{◌≡◌, ◌<◌, ℕ, ◌+◌, suc, Bool, true, false, List, [], ◌∷◌, ◌++◌, length, refl, sym, arith, subst}
use Rattle.std.specs.Prelude.{slice_get}
use Rattle.std.specs.declared.option.Option.{Option}
use Rattle.std.specs.declared.option.Option.TheVariants.{Some}
use Rattle.val_core.specs.declared.leaf.Leaf.{Leaf}
use Rattle.c_typed.specs.Typed.{ElementTrees, no_elements, value_then, characters_then, InitialTree, no_initial, initial_value, initial_elements, DeclarationTree, VariableTree}
use Rattle.c_type.specs.Trees.{TypeTree}
use Rattle.c_typed.specs.WellTyped.{Scope, extended, type_of, ElementsFit, InitialFits, initial_scope}
use Rattle.c_type.specs.Layout.{leaves, size}
use Rattle.g_graph.specs.declared.op.Kind.TheVariants.{Value}
use Rattle.g_graph.specs.declared.op.Origin.{Origin}
use Rattle.g_graph.specs.WellFormed.{is_width}
use Rattle.g_build_keeps.specs.Formation.{Standing}
use Rattle.g_build_def.specs.Writer.{held, object, Point, pushed, popped, newest_set, nothing, bind, dropped}
use Rattle.g_build_def.specs.Operations.{const_made, undef_made, local_made, store_made, clear_made, at_offset_made}
use Rattle.c_typed.specs.Objects.{access_width, object_number}
use Rattle.g_build_def.specs.Expressions.{expr_made}
use Rattle.g_build_def.specs.Statements.{object_stored, element_stored, characters_made, elements_made, value_begun, object_begun, variable_begun, declared_as, declared_made}
use Rattle.g_build_keeps.proofs.Stands.{Frame, Mark, a_value, an_object, with_mark, IsValue, NoValue, Stands, Made}
use Rattle.g_build_keeps.proofs.Parts.{bind_made, then_made, nothing_made, dropped_made}
use Rattle.g_build_keeps.proofs.Operations.{const_ok, undef_ok, local_ok, store_ok, clear_ok, at_offset_ok, is_access_width}
use Rattle.g_build_keeps.proofs.PlaceGraphs.{one_shown, shown_pushed, stands_pushed, stands_popped}
use Rattle.g_build_keeps.proofs.ExpressionGraphs.{FitsScope, expr_ok}

-- ---- objects

pub object_stored_ok : (f : Frame) (c : Standing) (s : Point) (k w : ℕ) (v : Origin) → Stands f c s → k < f.objects → is_width w ≡ true → IsValue c v → Made f NoValue c (object_stored k w v s)
object_stored_ok f c s k w v h l e x =
    let a = local_made k s in
    then_made f IsValue NoValue c a (λ a t. dropped (store_made w a v t)) (local_ok f c s k h l) (λ d y.
    dropped_made f IsValue d (store_made w a.value v a.after) (store_ok f d a.after w a.value v y.stands e y.value (y.grown v Value x)))

element_stored_ok : (f : Frame) (c : Standing) (s : Point) (k o w : ℕ) (v : Origin) → Stands f c s → k < f.objects → is_width w ≡ true → IsValue c v → Made f NoValue c (element_stored k o w v s)
element_stored_ok f c s k o w v h l e x =
    let a = local_made k s in
    let b = at_offset_made a.value o a.after in
    then_made f IsValue NoValue c a (λ a t. bind (at_offset_made a o t) (λ b u. dropped (store_made w b v u))) (local_ok f c s k h l) (λ d1 x1.
    then_made f IsValue NoValue d1 b (λ b u. dropped (store_made w b v u)) (at_offset_ok f d1 a.after a.value o x1.stands x1.value) (λ d2 x2.
    dropped_made f IsValue d2 (store_made w b.value v b.after) (store_ok f d2 b.after w b.value v x2.stands e x2.value (x2.grown v Value (x1.grown v Value x)))))

characters_ok : (f : Frame) (c : Standing) (s : Point) (k o : ℕ) (cs : List ℕ) → Stands f c s → k < f.objects → Made f NoValue c (characters_made k o cs s)
characters_ok f c s k o [] h l = nothing_made f c s h
characters_ok f c s k o (x ∷ cs) h l =
    let v = const_made x s in
    let e = element_stored k o 1 v.value v.after in
    then_made f IsValue NoValue c v (λ v t. bind (element_stored k o 1 v t) (λ _ u. characters_made k (suc o) cs u)) (const_ok f c s x h) (λ d1 x1.
    then_made f NoValue NoValue d1 e (λ _ u. characters_made k (suc o) cs u) (element_stored_ok f d1 v.after k o 1 v.value x1.stands l refl x1.value) (λ d2 x2.
    characters_ok f d2 e.after k (suc o) cs x2.stands l))

elements_ok : (f : Frame) (k : Scope) (ls : List Leaf) (from : ℕ) (n : ℕ) (es : ElementTrees) (c : Standing) (s : Point) → FitsScope f k → ElementsFit k ls from es → n < f.objects → Stands f c s →
    Made f NoValue c (elements_made n es s)
elements_ok f k ls from n no_elements c s q ty l h = nothing_made f c s h
elements_ok f k ls from n (value_then o e es) c s q ty l h =
    let v = expr_made e s in
    let b = element_stored n o (access_width (type_of e)) v.value v.after in
    then_made f IsValue NoValue c v (λ v t. bind (element_stored n o (access_width (type_of e)) v t) (λ _ u. elements_made n es u)) (expr_ok f k e c s q ty.1 h) (λ d1 x1.
    then_made f NoValue NoValue d1 b (λ _ u. elements_made n es u) (element_stored_ok f d1 v.after n o (access_width (type_of e)) v.value x1.stands l (is_access_width (type_of e)) x1.value) (λ d2 x2.
    elements_ok f k ls (o + size k.structs (type_of e)) n es d2 b.after q ty.4 l x2.stands))
elements_ok f k ls from n (characters_then o cs es) c s q ty l h =
    let b = characters_made n o cs s in
    then_made f NoValue NoValue c b (λ _ t. elements_made n es t) (characters_ok f c s n o cs h l) (λ d x. elements_ok f k ls (o + length cs) n es d b.after q ty.2 l x.stands)

-- ---- what comes into scope

-- the scope with one more variable
pub scope_extended : (f : Frame) (k : Scope) (v : VariableTree) (m : Mark) → FitsScope f k → one_shown m ≡ 1 → FitsScope (with_mark f m) (extended k v)
scope_extended f k v m q e = record {
  slots = let n = shown_pushed f.marks m in let l = length_pushed k.slots in omega (arith, n, l, e, q.slots);
  globals = q.globals;
  functions = q.functions;
  variables = q.variables;
}
  where
    length_pushed : (vs : List VariableTree) → length (vs ++ v ∷ []) ≡ length vs + 1
    length_pushed [] = refl
    length_pushed (u ∷ vs) = let n = length_pushed vs in omega (arith, n)

-- the same scope, where one more variable is carried
scope_carried : (f : Frame) (k : Scope) (m : Mark) → FitsScope f k → FitsScope (with_mark f m) k
scope_carried f k m q = record {
  slots = let n = shown_pushed f.marks m in omega (arith, n, q.slots);
  globals = q.globals;
  functions = q.functions;
  variables = q.variables;
}

initial_fits : (names : Bool) (f : Frame) (k : Scope) (v : VariableTree) (t : TypeTree) (m : Mark) → FitsScope f k → one_shown m ≡ 1 → FitsScope (with_mark f m) (initial_scope names k v t)
initial_fits true f k v t m q e = scope_extended f k (record v { type = t }) m q e
initial_fits false f k v t m q e = scope_carried f k m q

value_pushed : (f : Frame) (c : Standing) (s : Point) (v : Origin) → Stands f c s → IsValue c v → Made (with_mark f a_value) NoValue c (nothing (pushed (held v) s))
value_pushed f c s v h x = nothing_made (with_mark f a_value) c (pushed (held v) s) (stands_pushed f c s a_value (held v) h x)

undef_pushed : (f : Frame) (c : Standing) (s : Point) → Stands f c s → Made (with_mark f a_value) NoValue c (bind (undef_made s) (λ o t. nothing (pushed (held o) t)))
undef_pushed f c s h =
    let o = undef_made s in bind_made f (with_mark f a_value) IsValue NoValue c o (λ o t. nothing (pushed (held o) t)) refl (undef_ok f c s h)
    (λ d x. value_pushed f d o.after o.value x.stands x.value)

value_begun_ok : (names : Bool) (f : Frame) (k : Scope) (v : VariableTree) (t : TypeTree) (i : InitialTree) (c : Standing) (s : Point) → FitsScope f k → InitialFits (initial_scope names k v t) v i →
    Stands f c s →
    Made (with_mark f a_value) NoValue c (value_begun names i s)
value_begun_ok true f k v begun (initial_value e) c s q ty h =
    let g = with_mark f a_value in
    let o = undef_made s in
    let b = expr_made e (pushed (held o.value) o.after) in
    bind_made f g IsValue NoValue c o (λ o t. bind (expr_made e (pushed (held o) t)) (λ v u. nothing (newest_set (held v) u))) refl (undef_ok f c s h) (λ d1 x1.
    bind_made g g IsValue NoValue d1 b (λ v u. nothing (newest_set (held v) u)) refl
    (expr_ok g (extended k (record v { type = begun })) e d1 (pushed (held o.value) o.after)
    (scope_extended f k (record v { type = begun }) a_value q refl) ty.0 (stands_pushed f d1 o.after a_value (held o.value) x1.stands x1.value)) (λ d2 x2.
    value_pushed f d2 (popped b.after) b.value (stands_popped f d2 b.after a_value x2.stands) x2.value))
value_begun_ok false f k v begun (initial_value e) c s q ty h =
    let b = expr_made e s in
    bind_made f (with_mark f a_value) IsValue NoValue c b (λ v t. nothing (pushed (held v) t)) refl (expr_ok f k e c s q ty.0 h) (λ d x. value_pushed f d b.after b.value x.stands x.value)
value_begun_ok true f k v begun no_initial c s q ty h = undef_pushed f c s h
value_begun_ok true f k v begun (initial_elements es) c s q ty h = undef_pushed f c s h
value_begun_ok false f k v begun no_initial c s q ty h = undef_pushed f c s h
value_begun_ok false f k v begun (initial_elements es) c s q ty h = undef_pushed f c s h

object_begun_ok : (f : Frame) (k : Scope) (v : VariableTree) (n : ℕ) (i : InitialTree) (c : Standing) (s : Point) → FitsScope f k → InitialFits k v i → n < f.objects → Stands f c s →
    Made f NoValue c (object_begun n i s)
object_begun_ok f k v n no_initial c s q ty l h = nothing_made f c s h
object_begun_ok f k v n (initial_value e) c s q ty l h =
    let b = expr_made e s in
    then_made f IsValue NoValue c b (λ v t. object_stored n (access_width (type_of e)) v t) (expr_ok f k e c s q ty.0 h) (λ d x.
    object_stored_ok f d b.after n (access_width (type_of e)) b.value x.stands l (is_access_width (type_of e)) x.value)
object_begun_ok f k v n (initial_elements es) c s q ty l h =
    let b = clear_made n s in
    then_made f NoValue NoValue c b (λ _ t. elements_made n es t) (clear_ok f c s n h l) (λ d x. elements_ok f k (leaves k.structs v.type) 0 n es d b.after q ty.1 l x.stands)

-- ---- declarations

abbrev mark_by : (is_object : Bool) → (number : ℕ) → Mark
mark_by true k = an_object k
mark_by false k = a_value

pub mark_shown : (is_object : Bool) (k : ℕ) → one_shown (mark_by is_object k) ≡ 1
mark_shown true k = refl
mark_shown false k = refl

variable_begun_ok : (is_object : Bool) (f : Frame) (k : Scope) (v : VariableTree) (t : TypeTree) (n : ℕ) (d : DeclarationTree) (c : Standing) (s : Point) → FitsScope f k →
    InitialFits (initial_scope d.names_itself k v t) v d.initial →
    (is_object ≡ true → n < f.objects) → Stands f c s → Made (with_mark f (mark_by is_object n)) NoValue c (variable_begun is_object n d s)
variable_begun_ok false f k v t n d c s q ty l h = value_begun_ok d.names_itself f k v t d.initial c s q ty h
variable_begun_ok true f k v t n d c s q ty l h =
    object_begun_ok (with_mark f (an_object n)) (initial_scope d.names_itself k v t) v n d.initial c (pushed (object n) s) (initial_fits d.names_itself f k v t (an_object n) q refl) ty (l refl)
    (stands_pushed f c s (an_object n) (object n) h (refl, l refl))

-- the mark of a declared variable
abbrev pub declared_mark : Scope → DeclarationTree → VariableTree → Mark
declared_mark k d v = mark_by v.is_object (object_number k.variables d.variable)

pub declared_ok : (f : Frame) (k : Scope) (v : VariableTree) (t : TypeTree) (d : DeclarationTree) (c : Standing) (s : Point) → FitsScope f k → slice_get k.variables d.variable ≡ Some v →
    InitialFits (initial_scope d.names_itself k v t) v d.initial → Stands f c s → Made (with_mark f (declared_mark k d v)) NoValue c (declared_made k.variables d s)
declared_ok f k v t d c s q there ty h =
    subst (λ (x : Option VariableTree). Made (with_mark f (declared_mark k d v)) NoValue c (declared_as k.variables d x s)) (sym there)
    (variable_begun_ok v.is_object f k v t (object_number k.variables d.variable) d c s q ty (q.variables d.variable v there) h)
