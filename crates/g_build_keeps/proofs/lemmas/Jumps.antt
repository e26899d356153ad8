-- Jumps and loops.
use Rattle.std.proofs.Common.{ℕ, Bool, true, false, [], ◌∷◌}
use Rattle.val_core.specs.declared.operation.Op2.TheVariants as op
use Rattle.c_typed.specs.Typed.{ExprTree, OptionalExpr, no_expr, some_expr}
use Rattle.c_typed.specs.WellTyped.{Scope, OptionalIsTyped, IsCondition, IsOptionalCondition}
use Rattle.g_graph.specs.declared.op.Kind.TheVariants.{Value}
use Rattle.g_graph.specs.declared.op.Origin.{Origin}
use Rattle.g_build_keeps.specs.Formation.{Standing}
use Rattle.g_build_def.specs.Writer.{Form, straight, jumping, Point, with_go, with_go_and_ret, Built, nothing, bind, dropped, no_value, one_value, choice, repeat}
use Rattle.g_build_def.specs.Operations.{const_made, bin_made, is_zero_made}
use Rattle.g_build_def.specs.Expressions.{expr_made, tested}
use Rattle.g_build_def.specs.Jumps.{jump_made, return_made, jump_ended, break_ended, unless_left, optional_tested, step_made, again_made, turn_made, loop_made, do_again_made, do_made}
use Rattle.g_build_keeps.proofs.Stands.{Frame, IsValue, NoValue, JumpsFit, Stands, Made, MadeInside}
use Rattle.g_build_keeps.proofs.Parts.{then_made, nothing_made, dropped_made, no_value_fits, one_value_fits, choice_made, repeat_made}
use Rattle.g_build_keeps.proofs.Operations.{const_ok, bin_ok, is_zero_ok, value_then}
use Rattle.g_build_keeps.proofs.ExpressionGraphs.{FitsScope, expr_ok, tested_ok}
use Rattle.g_build_keeps.proofs.lemmas.Exits.{MayJump}

-- ---- `go` and `ret`

go_of : (form : Form) (c : Standing) (go ret : Origin) → MayJump form true → JumpsFit c form go ret → IsValue c go
go_of straight c go ret m h = absurd (cc)
go_of jumping c go ret m h = h.0

go_value : (f : Frame) (c : Standing) (s : Point) → MayJump f.form true → Stands f c s → IsValue c s.carried.go
go_value f c s m h = go_of f.form c s.carried.go s.carried.ret m h.jumps

jumps_set : (form : Form) (c : Standing) (go ret g : Origin) → JumpsFit c form go ret → IsValue c g → JumpsFit c form g ret
jumps_set straight c go ret g h x = tt
jumps_set jumping c go ret g h x = (x, h.1)

jumps_both : (form : Form) (c : Standing) (g r : Origin) → IsValue c g → IsValue c r → JumpsFit c form g r
jumps_both straight c g r x y = tt
jumps_both jumping c g r x y = (x, y)

go_set : (f : Frame) (c : Standing) (s : Point) (g : Origin) → Stands f c s → IsValue c g → Stands f c (with_go s g)
go_set f c s g h x = record {
  form = h.form;
  next = h.next;
  slots = h.slots;
  jumps = jumps_set f.form c s.carried.go s.carried.ret g h.jumps x;
  memory = h.memory;
  io = h.io;
  old = h.old;
}

both_set : (f : Frame) (c : Standing) (s : Point) (g r : Origin) → Stands f c s → IsValue c g → IsValue c r → Stands f c (with_go_and_ret s g r)
both_set f c s g r h x y =
    record { form = h.form; next = h.next; slots = h.slots; jumps = jumps_both f.form c g r x y; memory = h.memory; io = h.io; old = h.old }

-- ---- jumps

pub jump_made_ok : (f : Frame) (c : Standing) (s : Point) (w : ℕ) → Stands f c s → Made f NoValue c (jump_made w s)
jump_made_ok f c s w h =
    let k = const_made w s in then_made f IsValue NoValue c k (λ g t. nothing (with_go t g)) (const_ok f c s w h) (λ d x. nothing_made f d (with_go k.after k.value)
    (go_set f d k.after k.value x.stands x.value))

pub return_made_ok : (f : Frame) (c : Standing) (s : Point) (v : Origin) → Stands f c s → IsValue c v → Made f NoValue c (return_made v s)
return_made_ok f c s v h y =
    let k = const_made 3 s in
    then_made f IsValue NoValue c k (λ g t. nothing (with_go_and_ret t g v)) (const_ok f c s 3 h) (λ d x.
    nothing_made f d (with_go_and_ret k.after k.value v) (both_set f d k.after k.value v x.stands x.value (x.grown v Value y)))

jump_ended_ok : (f : Frame) (c : Standing) (s : Point) (w : ℕ) → MayJump f.form true → Stands f c s → Made f NoValue c (jump_ended w s)
jump_ended_ok f c s w m h =
    let k = const_made w s in
    let x = bin_made op.Ne k.after.carried.go k.value k.after in
    let g = bin_made op.Mul x.after.carried.go x.value x.after in
    then_made f IsValue NoValue c k (λ k t. bind (bin_made op.Ne t.carried.go k t) (λ x u. bind (bin_made op.Mul u.carried.go x u) (λ g v. nothing (with_go v g)))) (const_ok f c s w h) (λ d1 x1.
    then_made f IsValue NoValue d1 x (λ x u. bind (bin_made op.Mul u.carried.go x u) (λ g v. nothing (with_go v g)))
    (bin_ok f d1 k.after op.Ne k.after.carried.go k.value x1.stands (go_value f d1 k.after m x1.stands) x1.value) (λ d2 x2.
    then_made f IsValue NoValue d2 g (λ g v. nothing (with_go v g)) (bin_ok f d2 x.after op.Mul x.after.carried.go x.value x2.stands (go_value f d2 x.after m x2.stands) x2.value) (λ d3 x3.
    nothing_made f d3 (with_go g.after g.value) (go_set f d3 g.after g.value x3.stands x3.value))))

pub break_ended_ok : (f : Frame) (c : Standing) (s : Point) (l : Bool) → MayJump f.form l → Stands f c s → Made f NoValue c (break_ended l s)
break_ended_ok f c s true m h = jump_ended_ok f c s 1 m h
break_ended_ok f c s false m h = nothing_made f c s h

pub unless_left_ok : (f : Frame) (c : Standing) (s : Point) (l : Bool) (g : Point → Built (Unit {0})) → MayJump f.form l → Stands f c s → MadeInside f NoValue g → Made f NoValue c (unless_left l g s)
unless_left_ok f c s true g m h inner =
    choice_made f NoValue NoValue c s no_value [] s.carried.go g nothing h (go_value f c s m h) (no_value_fits f c s.next) inner (λ d t k. nothing_made f d t k)
unless_left_ok f c s false g m h inner = inner c s h

-- ---- loops

optional_tested_ok : (f : Frame) (k : Scope) (e : OptionalExpr) (c : Standing) (s : Point) → FitsScope f k → IsOptionalCondition k e → Stands f c s → Made f IsValue c (optional_tested e s)
optional_tested_ok f k no_expr c s q ty h = const_ok f c s 1 h
optional_tested_ok f k (some_expr e) c s q ty h = tested_ok f k e c s q ty.0 h

step_made_ok : (f : Frame) (k : Scope) (l : Bool) (e : OptionalExpr) (c : Standing) (s : Point) → FitsScope f k → OptionalIsTyped k e → MayJump f.form l → Stands f c s →
    Made f NoValue c (step_made l e s)
step_made_ok f k l no_expr c s q ty m h = nothing_made f c s h
step_made_ok f k l (some_expr e) c s q ty m h =
    unless_left_ok f c s l (λ t. dropped (expr_made e t)) m h (λ d t g. dropped_made f IsValue d (expr_made e t) (expr_ok f k e d t q ty g))

again_made_ok : (f : Frame) (k : Scope) (l : Bool) (e : OptionalExpr) (c : Standing) (s : Point) → FitsScope f k → OptionalIsTyped k e → MayJump f.form l → Stands f c s →
    Made f IsValue c (again_made l e s)
again_made_ok f k true e c s q ty m h =
    let a = jump_ended 2 s in
    let b = step_made true e a.after in
    then_made f NoValue IsValue c a (λ _ t. bind (step_made true e t) (λ _ u. is_zero_made u.carried.go u)) (jump_ended_ok f c s 2 m h) (λ d1 x1.
    then_made f NoValue IsValue d1 b (λ _ u. is_zero_made u.carried.go u) (step_made_ok f k true e d1 a.after q ty m x1.stands) (λ d2 x2.
    is_zero_ok f d2 b.after b.after.carried.go x2.stands (go_value f d2 b.after m x2.stands)))
again_made_ok f k false e c s q ty m h =
    let b = step_made false e s in then_made f NoValue IsValue c b (λ _ t. const_made 1 t) (step_made_ok f k false e c s q ty m h) (λ d x. const_ok f d b.after 1 x.stands)

turn_made_ok : (f : Frame) (k : Scope) (d e : OptionalExpr) (l : Bool) (g : Point → Built (Unit {0})) (c : Standing) (s : Point) → FitsScope f k → IsOptionalCondition k d → OptionalIsTyped k e →
    MayJump f.form l →
    MadeInside f NoValue g → Stands f c s → Made f IsValue c (turn_made d e l g s)
turn_made_ok f k d e l g c s q test step m inner h =
    let p = optional_tested d s in
    value_then f c p (λ p t. choice one_value t p (const_made 0) (λ u. bind (g u) (λ _ v. again_made l e v))) (optional_tested_ok f k d c s q test h) (λ d1 x1.
    choice_made f IsValue IsValue d1 p.after one_value (Value ∷ []) p.value (const_made 0) (λ u. bind (g u) (λ _ v. again_made l e v)) x1.stands x1.value (one_value_fits f d1 p.after.next)
    (λ d2 u y. const_ok f d2 u 0 y)
    (λ d2 u y. then_made f NoValue IsValue d2 (g u) (λ _ v. again_made l e v) (inner d2 u y) (λ d3 z. again_made_ok f k l e d3 (g u).after q step m z.stands)))

pub loop_made_ok : (f : Frame) (k : Scope) (d e : OptionalExpr) (l : Bool) (g : Point → Built (Unit {0})) (c : Standing) (s : Point) → FitsScope f k → IsOptionalCondition k d → OptionalIsTyped k e →
    MayJump f.form l →
    MadeInside f NoValue g → Stands f c s → Made f NoValue c (loop_made d e l g s)
loop_made_ok f k d e l g c s q test step m inner h =
    let r = repeat s (turn_made d e l g) in
    then_made f NoValue NoValue c r (λ _ t. break_ended l t) (repeat_made f c s (turn_made d e l g) h (λ d1 t y. turn_made_ok f k d e l g d1 t q test step m inner y)) (λ d1 x1.
    break_ended_ok f d1 r.after l m x1.stands)

do_again_made_ok : (f : Frame) (k : Scope) (l : Bool) (e : ExprTree) (c : Standing) (s : Point) → FitsScope f k → IsCondition k e → MayJump f.form l → Stands f c s →
    Made f IsValue c (do_again_made l e s)
do_again_made_ok f k true e c s q test m h =
    let a = jump_ended 2 s in
    then_made f NoValue IsValue c a (λ _ t. choice one_value t t.carried.go (tested e) (const_made 0)) (jump_ended_ok f c s 2 m h) (λ d x.
    choice_made f IsValue IsValue d a.after one_value (Value ∷ []) a.after.carried.go (tested e) (const_made 0) x.stands (go_value f d a.after m x.stands) (one_value_fits f d a.after.next)
    (λ d2 u y. tested_ok f k e d2 u q test.0 y) (λ d2 u y. const_ok f d2 u 0 y))
do_again_made_ok f k false e c s q test m h = tested_ok f k e c s q test.0 h

pub do_made_ok : (f : Frame) (k : Scope) (e : ExprTree) (l : Bool) (g : Point → Built (Unit {0})) (c : Standing) (s : Point) → FitsScope f k → IsCondition k e → MayJump f.form l →
    MadeInside f NoValue g → Stands f c s → Made f NoValue c (do_made e l g s)
do_made_ok f k e l g c s q test m inner h =
    let body = λ (t : Point). bind (g t) (λ _ u. do_again_made l e u) in
    let r = repeat s body in
    then_made f NoValue NoValue c r (λ _ t. break_ended l t)
    (repeat_made f c s body h (λ d1 t y. then_made f NoValue IsValue d1 (g t) (λ _ u. do_again_made l e u) (inner d1 t y) (λ d2 z. do_again_made_ok f k l e d2 (g t).after q test m z.stands)))
    (λ d1 x1.
    break_ended_ok f d1 r.after l m x1.stands)
