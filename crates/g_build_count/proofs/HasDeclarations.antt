-- How many values the construction of the parts of a statement has: jumps, loops and declarations.
use Rattle.std.proofs.Common.{◌≡◌, ℕ, suc, ◌+◌, ◌*◌, Bool, true, false, List, [], ◌∷◌, ◌++◌, length, slice_get, Option, Some, None, refl, sym, ap, ◌∙◌, arith}
use Rattle.val_core.specs.declared.operation.Op2.TheVariants as op
use Rattle.c_typed.specs.Typed.{ExprTree, OptionalExpr, no_expr, some_expr, ElementTrees, no_elements, value_then, characters_then, InitialTree, no_initial, initial_value, initial_elements, DeclarationTree, VariableTree}
use Rattle.c_typed.specs.WellTyped.{type_of}
use Rattle.g_graph.specs.declared.op.Origin.{Origin}
use Rattle.g_graph.specs.declared.op.Origin.TheVariants.{Arg, Out}
use Rattle.g_graph.specs.declared.op.Op.TheVariants.{Undef, Clear}
use Rattle.g_build_def.specs.Writer.{SlotOrigin, held, object, hidden, Point, with_go, with_go_and_ret, pushed, Built, nothing, bind, dropped, no_value, one_value, choice, repeat}
use Rattle.g_build_def.specs.Operations.{const_made, undef_made, local_made, bin_made, store_made, clear_made, at_offset_made, is_zero_made}
use Rattle.c_typed.specs.Objects.{access_width, object_number, object_by}
use Rattle.g_build_def.specs.Expressions.{expr_made, tested}
use Rattle.g_build_def.specs.Jumps.{jump_made, return_made, jump_ended, break_ended, unless_left, optional_tested, step_made, again_made, turn_made, loop_made, do_again_made, do_made}
use Rattle.g_build_def.specs.Statements.{object_stored, element_stored, characters_made, elements_made, value_begun, object_begun, variable_begun, declared_as, declared_made}
use Rattle.g_build_def.specs.Laws.{shape, Later, variable_shape, shape_as, declared_shape}
use Rattle.g_build_def.proofs.lemmas.Programs.{values_in, values_append}
use Rattle.g_build_def.proofs.lemmas.LaterStatements.{declared_later}
use Rattle.g_build_count.specs.Values.{choice_values, expr_values, leaving_values, jump_ended_values, optional_tested_values, step_values, again_values, loop_values, do_again_values, do_values, elements_values, value_values, object_values, declared_object, variable_values, declared_values_as, declared_values, more_carried}
use Rattle.g_build_count.proofs.Has.{Seen, Sees, Has, Counts, has_equal, given_has, bind_has, node_has, dropped_has, value_count, last_count, marks, numbered_counted, numbered_marks, no_value_gives, one_value_gives, choice_has, repeat_has}
use Rattle.g_build_count.proofs.HasExpressions.{const_has, bin_has, local_has, store_has, is_zero_has, at_offset_has, expr_has, tested_has}

-- ---- what is seen

pub sees_later : (v : Seen) (s t : Point) → Later s t → Sees v s → Sees v t
sees_later v s t l h =
    let after : value_count (shape t.carried.variables) ≡ value_count t.carried.variables = numbered_counted t.carried.variables (λ _. Arg 0) in
    let before : value_count (shape s.carried.variables) ≡ value_count s.carried.variables = numbered_counted s.carried.variables (λ _. Arg 0) in
    let same : value_count (shape t.carried.variables) ≡ value_count (shape s.carried.variables) = ap value_count l.shape in
    let form : last_count t.carried.form ≡ last_count s.carried.form = ap last_count l.form in
    let sum = h.carried in
    record {
      carried = omega (arith, after, before, same, form, sum);
      objects = sym (numbered_marks t.carried.variables (λ _. Arg 0)) ∙ ap marks l.shape ∙ numbered_marks s.carried.variables (λ _. Arg 0) ∙ h.objects;
    }

counted_append : (xs ys : List SlotOrigin) → value_count (xs ++ ys) ≡ value_count xs + value_count ys
counted_append [] ys = omega arith
counted_append (held o ∷ xs) ys = let e = counted_append xs ys in omega (arith, e)
counted_append (object n ∷ xs) ys = counted_append xs ys
counted_append (hidden o ∷ xs) ys = let e = counted_append xs ys in omega (arith, e)

marks_append : (xs ys : List SlotOrigin) → marks (xs ++ ys) ≡ marks xs ++ marks ys
marks_append [] ys = refl
marks_append (held o ∷ xs) ys = ap (λ bs. false ∷ bs) (marks_append xs ys)
marks_append (object n ∷ xs) ys = ap (λ bs. true ∷ bs) (marks_append xs ys)
marks_append (hidden o ∷ xs) ys = marks_append xs ys

-- one more variable
abbrev pub seen_more : Bool → Seen → Seen
seen_more b v = record { carried = more_carried b v.carried; objects = v.objects ++ b ∷ [] }

abbrev pub seen_hidden : Seen → Seen
seen_hidden v = record { carried = suc v.carried; objects = v.objects }

value_pushed : (v : Seen) (s : Point) (o : Origin) → Sees v s → Sees (seen_more false v) (pushed (held o) s)
value_pushed v s o h =
    let xs : List SlotOrigin = s.carried.variables in
    let e = counted_append xs (held o ∷ []) in
    let sum = h.carried in
    record { carried = omega (arith, e, sum); objects = marks_append xs (held o ∷ []) ∙ ap (λ bs. bs ++ false ∷ []) h.objects }

object_pushed : (v : Seen) (s : Point) (n : ℕ) → Sees v s → Sees (seen_more true v) (pushed (object n) s)
object_pushed v s n h =
    let xs : List SlotOrigin = s.carried.variables in
    let e = counted_append xs (object n ∷ []) in
    let sum = h.carried in
    record { carried = omega (arith, e, sum); objects = marks_append xs (object n ∷ []) ∙ ap (λ bs. bs ++ true ∷ []) h.objects }

pub no_more : {A : Type 0} → (xs : List A) → xs ++ [] ≡ xs
no_more [] = refl
no_more (x ∷ xs) = ap (λ ys. x ∷ ys) (no_more xs)

pub hidden_pushed : (v : Seen) (s : Point) (o : Origin) → Sees v s → Sees (seen_hidden v) (pushed (hidden o) s)
hidden_pushed v s o h =
    let xs : List SlotOrigin = s.carried.variables in
    let e = counted_append xs (hidden o ∷ []) in
    let sum = h.carried in
    record { carried = omega (arith, e, sum); objects = marks_append xs (hidden o ∷ []) ∙ no_more (marks xs) ∙ h.objects }

shape_pushed : (v : Seen) (s : Point) (b : Bool) (k : ℕ) → Sees v s → Sees (seen_more b v) (pushed (variable_shape b k) s)
shape_pushed v s false k h = value_pushed v s (Arg 0) h
shape_pushed v s true k h = object_pushed v s k h

shape_as_pushed : (v : Seen) (s : Point) (vs : List VariableTree) (k : ℕ) (x : Option VariableTree) → Sees v s → Sees (seen_more (object_by x) v) (pushed (shape_as vs k x) s)
shape_as_pushed v s vs k None h = value_pushed v s (Arg 0) h
shape_as_pushed v s vs k (Some x) h = shape_pushed v s x.is_object (object_number vs k) h

-- ---- jumps

go_sees : (v : Seen) (s : Point) (g : Origin) → Sees v s → Sees v (with_go s g)
go_sees v s g h = record { carried = h.carried; objects = h.objects }

pub undef_has : (v : Seen) → Counts 2 v undef_made
undef_has v s h = node_has 2 v s Undef [] (Out s.next 0) s.carried.memory s.carried.io refl h

pub jump_has : (v : Seen) (w : ℕ) → Counts 2 v (jump_made w)
jump_has v w s h = bind_has v v (const_made w s) (λ g t. nothing (with_go t g)) (const_has v w s h) (λ g t k. given_has v tt (with_go t g) (go_sees v t g k))

pub return_has : (v : Seen) (x : Origin) → Counts 2 v (return_made x)
return_has v x s h =
    bind_has v v (const_made 3 s) (λ g t. nothing (with_go_and_ret t g x)) (const_has v 3 s h)
    (λ g t k. given_has v tt (with_go_and_ret t g x) (record { carried = k.carried; objects = k.objects }))

jump_ended_has : (v : Seen) (w : ℕ) → Counts 6 v (jump_ended w)
jump_ended_has v w s h =
    bind_has v v (const_made w s)
    (λ k t. bind (bin_made op.Ne t.carried.go k t) (λ x u. bind (bin_made op.Mul u.carried.go x u) (λ g z. nothing (with_go z g)))) (const_has v w s h)
    (λ k t a.
    bind_has v v (bin_made op.Ne t.carried.go k t) (λ x u. bind (bin_made op.Mul u.carried.go x u) (λ g z. nothing (with_go z g)))
    (bin_has v op.Ne t.carried.go k t a)
    (λ x u b.
    bind_has v v (bin_made op.Mul u.carried.go x u) (λ g z. nothing (with_go z g)) (bin_has v op.Mul u.carried.go x u b)
    (λ g z c. given_has v tt (with_go z g) (go_sees v z g c))))

pub break_ended_has : (v : Seen) (l : Bool) → Counts (jump_ended_values l) v (break_ended l)
break_ended_has v true s h = jump_ended_has v 1 s h
break_ended_has v false s h = given_has v tt s h

pub unless_left_has : (v : Seen) (n : ℕ) (l : Bool) (f : Point → Built (Unit {0})) → Counts n v f → Counts (leaving_values v.carried l + n) v (unless_left l f)
unless_left_has v n true f c s h =
    let e : choice_values v.carried 0 n 0 ≡ leaving_values v.carried true + n = omega arith in
    has_equal (choice_values v.carried 0 n 0) (leaving_values v.carried true + n) v (unless_left true f s) e
    (choice_has v no_value 0 s s.carried.go f nothing no_value_gives h c (given_has v tt))
unless_left_has v n false f c s h = let e : n ≡ leaving_values v.carried false + n = omega arith in has_equal n (leaving_values v.carried false + n) v (f s) e (c s h)

-- ---- loops

optional_has : (v : Seen) (d : OptionalExpr) → Counts (optional_tested_values v.carried v.objects d) v (optional_tested d)
optional_has v no_expr s h = const_has v 1 s h
optional_has v (some_expr e) s h = tested_has v e s h

step_has : (v : Seen) (l : Bool) (d : OptionalExpr) → Counts (step_values v.carried v.objects l d) v (step_made l d)
step_has v l no_expr s h = given_has v tt s h
step_has v l (some_expr e) s h =
    unless_left_has v (expr_values v.carried v.objects e) l (λ t. dropped (expr_made e t)) (λ t k. dropped_has v (expr_made e t) (expr_has v e t k)) s h

again_has : (v : Seen) (l : Bool) (d : OptionalExpr) → Counts (again_values v.carried v.objects l d) v (again_made l d)
again_has v true d s h =
    let n : ℕ = step_values v.carried v.objects true d in
    let e : 6 + (n + 4) ≡ again_values v.carried v.objects true d = omega arith in
    has_equal (6 + (n + 4)) (again_values v.carried v.objects true d) v (again_made true d s) e
    (bind_has v v (jump_ended 2 s) (λ _ t. bind (step_made true d t) (λ _ u. is_zero_made u.carried.go u)) (jump_ended_has v 2 s h)
    (λ _ t k. bind_has v v (step_made true d t) (λ _ u. is_zero_made u.carried.go u) (step_has v true d t k) (λ _ u l. is_zero_has v u.carried.go u l)))
again_has v false d s h =
    let n : ℕ = step_values v.carried v.objects false d in
    let e : n + 2 ≡ again_values v.carried v.objects false d = omega arith in
    has_equal (n + 2) (again_values v.carried v.objects false d) v (again_made false d s) e
    (bind_has v v (step_made false d s) (λ _ t. const_made 1 t) (step_has v false d s h) (λ _ t k. const_has v 1 t k))

turn_has : (v : Seen) (n : ℕ) (d step : OptionalExpr) (l : Bool) (f : Point → Built (Unit {0})) → Counts n v f →
    Counts (optional_tested_values v.carried v.objects d + choice_values v.carried 1 2 (n + again_values v.carried v.objects l step)) v (turn_made d step l f)
turn_has v n d step l f c s h =
    bind_has v v (optional_tested d s) (λ p t. choice one_value t p (const_made 0) (λ u. bind (f u) (λ _ z. again_made l step z))) (optional_has v d s h)
    (λ p t k.
    choice_has v one_value 1 t p (const_made 0) (λ u. bind (f u) (λ _ z. again_made l step z)) one_value_gives k (const_has v 0)
    (λ u a. bind_has v v (f u) (λ _ z. again_made l step z) (c u a) (λ _ z b. again_has v l step z b)))

pub loop_has : (v : Seen) (n : ℕ) (d step : OptionalExpr) (l : Bool) (f : Point → Built (Unit {0})) → Counts n v f →
    Counts (loop_values v.carried v.objects d step l n) v (loop_made d step l f)
loop_has v n d step l f c s h =
    bind_has v v (repeat s (turn_made d step l f)) (λ _ t. break_ended l t) (repeat_has v s (turn_made d step l f) h (turn_has v n d step l f c))
    (λ _ t k. break_ended_has v l t k)

do_again_has : (v : Seen) (l : Bool) (e : ExprTree) → Counts (do_again_values v.carried v.objects l e) v (do_again_made l e)
do_again_has v true e s h =
    bind_has v v (jump_ended 2 s) (λ _ t. choice one_value t t.carried.go (tested e) (const_made 0)) (jump_ended_has v 2 s h)
    (λ _ t k. choice_has v one_value 1 t t.carried.go (tested e) (const_made 0) one_value_gives k (tested_has v e) (const_has v 0))
do_again_has v false e s h = tested_has v e s h

pub do_has : (v : Seen) (n : ℕ) (e : ExprTree) (l : Bool) (f : Point → Built (Unit {0})) → Counts n v f → Counts (do_values v.carried v.objects e l n) v (do_made e l f)
do_has v n e l f c s h =
    bind_has v v (repeat s (λ t. bind (f t) (λ _ u. do_again_made l e u))) (λ _ t. break_ended l t)
    (repeat_has v s (λ t. bind (f t) (λ _ u. do_again_made l e u)) h (λ t k. bind_has v v (f t) (λ _ u. do_again_made l e u) (c t k) (λ _ u a. do_again_has v l e u a)))
    (λ _ t k. break_ended_has v l t k)

-- ---- declarations

pub stored_has : (v : Seen) (k w : ℕ) (x : Origin) → Counts 4 v (object_stored k w x)
stored_has v k w x s h =
    bind_has v v (local_made k s) (λ a t. dropped (store_made w a x t)) (local_has v k s h) (λ a t i. dropped_has v (store_made w a x t) (store_has v w a x t i))

element_has : (v : Seen) (k o w : ℕ) (x : Origin) → Counts 8 v (element_stored k o w x)
element_has v k o w x s h =
    bind_has v v (local_made k s) (λ a t. bind (at_offset_made a o t) (λ b u. dropped (store_made w b x u))) (local_has v k s h)
    (λ a t i.
    bind_has v v (at_offset_made a o t) (λ b u. dropped (store_made w b x u)) (at_offset_has v a o t i)
    (λ b u j. dropped_has v (store_made w b x u) (store_has v w b x u j)))

characters_has : (v : Seen) (k o : ℕ) (cs : List ℕ) → Counts (10 * length cs) v (characters_made k o cs)
characters_has v k o [] s h = given_has v tt s h
characters_has v k o (c ∷ cs) s h =
    let e : 2 + (8 + 10 * length cs) ≡ 10 * length (c ∷ cs) = omega arith in
    has_equal (2 + (8 + 10 * length cs)) (10 * length (c ∷ cs)) v (characters_made k o (c ∷ cs) s) e
    (bind_has v v (const_made c s) (λ x t. bind (element_stored k o 1 x t) (λ _ u. characters_made k (suc o) cs u)) (const_has v c s h)
    (λ x t i.
    bind_has v v (element_stored k o 1 x t) (λ _ u. characters_made k (suc o) cs u) (element_has v k o 1 x t i)
    (λ _ u j. characters_has v k (suc o) cs u j)))

elements_has : (v : Seen) (k : ℕ) (es : ElementTrees) → Counts (elements_values v.carried v.objects es) v (elements_made k es)
elements_has v k no_elements s h = given_has v tt s h
elements_has v k (value_then o e es) s h =
    let n : ℕ = expr_values v.carried v.objects e in
    let m : ℕ = elements_values v.carried v.objects es in
    let q : n + (8 + m) ≡ n + 8 + m = omega arith in
    has_equal (n + (8 + m)) (n + 8 + m) v (elements_made k (value_then o e es) s) q
    (bind_has v v (expr_made e s) (λ x t. bind (element_stored k o (access_width (type_of e)) x t) (λ _ u. elements_made k es u)) (expr_has v e s h)
    (λ x t i.
    bind_has v v (element_stored k o (access_width (type_of e)) x t) (λ _ u. elements_made k es u) (element_has v k o (access_width (type_of e)) x t i)
    (λ _ u j. elements_has v k es u j)))
elements_has v k (characters_then o cs es) s h =
    bind_has v v (characters_made k o cs s) (λ _ t. elements_made k es t) (characters_has v k o cs s h) (λ _ t i. elements_has v k es t i)

undef_begun : (v : Seen) (s : Point) → Sees v s → values_in (bind (undef_made s) (λ o t. nothing (pushed (held o) t))).nodes ≡ 2
undef_begun v s h =
    (bind_has v (seen_more false v) (undef_made s) (λ o t. nothing (pushed (held o) t)) (undef_has v s h)
    (λ o t k. given_has (seen_more false v) tt (pushed (held o) t) (value_pushed v t o k))).values

value_counted : (v : Seen) (names : Bool) (i : InitialTree) (s : Point) → Sees v s → values_in (value_begun names i s).nodes ≡ value_values v.carried v.objects names i
value_counted v true (initial_value e) s h =
    let w : Seen = seen_more false v in
    let o : Built Origin = undef_made s in
    let t : Point = pushed (held o.value) o.after in
    let x : Built Origin = expr_made e t in
    let inner = (expr_has w e t (value_pushed v o.after o.value (undef_has v s h).sees)).values in
    let n = values_append x.nodes [] in
    omega (arith, inner, n)
value_counted v false (initial_value e) s h =
    let n = values_append (expr_made e s).nodes [] in let inner = (expr_has v e s h).values in omega (arith, inner, n)
value_counted v true no_initial s h = undef_begun v s h
value_counted v false no_initial s h = undef_begun v s h
value_counted v true (initial_elements es) s h = undef_begun v s h
value_counted v false (initial_elements es) s h = undef_begun v s h

object_counted : (v : Seen) (k : ℕ) (i : InitialTree) (s : Point) → Sees v s → values_in (object_begun k i s).nodes ≡ object_values v.carried v.objects i
object_counted v k no_initial s h = refl
object_counted v k (initial_value e) s h =
    (bind_has v v (expr_made e s) (λ x t. object_stored k (access_width (type_of e)) x t) (expr_has v e s h) (λ x. stored_has v k (access_width (type_of e)) x)).values
object_counted v k (initial_elements es) s h =
    (bind_has v v (clear_made k s) (λ _ t. elements_made k es t)
    (node_has {A = Unit {0}} 2 v s (Clear k) (s.carried.memory ∷ []) tt (Out s.next 0) s.carried.io refl h) (λ _ t i. elements_has v k es t i)).values

variable_counted : (v : Seen) (b : Bool) (k : ℕ) (d : DeclarationTree) (s : Point) → Sees v s →
    values_in (variable_begun b k d s).nodes ≡ variable_values b v.carried v.objects d
variable_counted v false k d s h = value_counted v d.names_itself d.initial s h
variable_counted v true k d s h = object_counted (seen_more true v) k d.initial (pushed (object k) s) (object_pushed v s k h)

declared_as_counted : (v : Seen) (vs : List VariableTree) (d : DeclarationTree) (x : Option VariableTree) (s : Point) → Sees v s →
    values_in (declared_as vs d x s).nodes ≡ declared_values_as x v.carried v.objects d
declared_as_counted v vs d None s h = refl
declared_as_counted v vs d (Some x) s h = variable_counted v x.is_object (object_number vs d.variable) d s h

pub declared_has : (v : Seen) (vs : List VariableTree) (d : DeclarationTree) (s : Point) → Sees v s →
    Has (declared_values vs v.carried v.objects d) (seen_more (declared_object vs d) v) (declared_made vs d s)
declared_has v vs d s h =
    let x : Option VariableTree = slice_get vs d.variable in
    record {
      values = declared_as_counted v vs d x s h;
      sees = sees_later (seen_more (object_by x) v) (pushed (declared_shape vs d) s) (declared_made vs d s).after (declared_later vs d s) (shape_as_pushed v s vs d.variable x h);
    }
