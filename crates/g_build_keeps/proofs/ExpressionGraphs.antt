-- The graphs of expressions.
use Rattle.std.proofs.Common.{◌≡◌, ◌≤◌, ◌<◌, ℕ, ◌+◌, Bool, true, false, List, [], ◌∷◌, length, refl, sym, ap, ◌∙◌, arith, subst}
use Rattle.std.specs.Prelude.{◌-◌, ◌^◌, slice_get, if◌then◌else◌}
use Rattle.std.specs.declared.option.Option.TheVariants.{Some}
use Rattle.std.proofs.lemmas.Option.{slice_get_within}
use Rattle.val_core.specs.declared.operation.Op1.TheVariants.{Zext8}
use Rattle.val_core.specs.declared.operation.Op2.TheVariants as op
use Rattle.c_type.specs.Trees.{TypeTree, void_type}
use Rattle.c_typed.specs.declared.operator.UnaryOp.{UnaryOp}
use Rattle.c_typed.specs.declared.operator.UnaryOp.TheVariants as unary_op
use Rattle.c_typed.specs.declared.operator.BinaryOp.{BinaryOp}
use Rattle.c_typed.specs.declared.operator.BinaryOp.TheVariants as binary_op
use Rattle.c_typed.specs.declared.operator.CompoundOp.{CompoundOp}
use Rattle.c_typed.specs.declared.operator.CompoundOp.TheVariants as compound_op
use Rattle.c_typed.specs.declared.operator.IncDec.{IncDec}
use Rattle.c_typed.specs.Typed.{ExprTree, expr, FormTree, constant, read, address, unary, binary, logical_and, logical_or, conditional, comma, assign, compound, inc_dec, call, get, ExprTrees, no_exprs, expr_then, PlaceTree, place, PlaceFormTree, local, global, at, member, VariableTree}
use Rattle.c_typed.specs.WellTyped.{Scope, Signature, type_of, types_of, ExprIsTyped, FormIsTyped, ExprsAreTyped, PlaceIsTyped, PlaceFormIsTyped, step_op}
use Rattle.g_graph.specs.declared.op.Kind.TheVariants.{Value}
use Rattle.g_graph.specs.declared.op.Origin.{Origin}
use Rattle.g_graph.specs.Lists.{HasCallee}
use Rattle.g_build_keeps.specs.Formation.{Standing}
use Rattle.g_build_def.specs.Writer.{Point, Built, given, bind, one_value, void_value, choice}
use Rattle.g_build_def.specs.Places.{spot_address, spot_read, spot_written, member_spot}
use Rattle.g_build_def.specs.Operations.{const_made, delta_made, bin_made, un_made, apply_made, put_made, is_not_zero_made, condition_made, converted_made}
use Rattle.g_build_def.specs.Expressions.{unary_made, binary_made, compound_made, stepped_made, conditional_extra, expr_made, form_made, tested, commas_made, arguments_made, place_made, place_form_made}
use Rattle.c_typed.specs.Objects.{object_number}
use Rattle.g_build_keeps.proofs.Stands.{Frame, IsValue, NoValue, Stands, Made, MadeInside}
use Rattle.g_build_keeps.proofs.Parts.{then_made, given_made, nothing_made, one_value_fits, void_value_fits, choice_made}
use Rattle.g_build_keeps.proofs.Operations.{const_ok, delta_ok, bin_ok, un_ok, put_ok, exit_ok, get_ok, AreValues, apply_ok, converted_ok, is_not_zero_ok, not_ok, condition_ok, compared_ok, moved_ok, difference_ok, value_then}
use Rattle.g_build_keeps.proofs.PlaceGraphs.{shown, SpotFits, spot_grown, address_spot_ok, slot_spot_ok, member_spot_ok, spot_address_ok, spot_read_ok, spot_written_ok}

-- a frame in which what a scope has is there
pub record FitsScope (f : Frame) (k : Scope) : Type 0 where
  pub slots : length k.slots ≤ shown f.marks
  pub globals : f.globals ≡ length k.globals
  pub functions : (n : ℕ) (g : Signature) → slice_get k.functions n ≡ Some g → HasCallee f.lambdas n (length g.params + 2)
  pub variables : (n : ℕ) (v : VariableTree) → slice_get k.variables n ≡ Some v → v.is_object ≡ true → object_number k.variables n < f.objects

-- ---- operations

unary_ok : (f : Frame) (c : Standing) (s : Point) (o : UnaryOp) (t u : TypeTree) (v : Origin) → Stands f c s → IsValue c v → Made f IsValue c (unary_made o t u v s)
unary_ok f c s unary_op.Convert t u v h x = converted_ok f c s t v h x
unary_ok f c s unary_op.Discard t u v h x = given_made f IsValue c s v h x
unary_ok f c s unary_op.Negate t u v h x =
    let z = const_made 0 s in value_then f c z (λ z t. bin_made op.Sub z v t) (const_ok f c s 0 h) (λ d y. bin_ok f d z.after op.Sub z.value v y.stands y.value (y.grown v Value x))
unary_ok f c s unary_op.Complement t u v h x =
    let z = const_made (2 ^ 32 - 1) s in
    value_then f c z (λ z t. bin_made op.Xor v z t) (const_ok f c s (2 ^ 32 - 1) h) (λ d y. bin_ok f d z.after op.Xor v z.value y.stands (y.grown v Value x) y.value)
unary_ok f c s unary_op.LogicalNot t u v h x = not_ok f c s u v h x
unary_ok f c s unary_op.Put t u v h x = let b = put_made v s in value_then f c b (un_made Zext8) (put_ok f c s v h x) (λ d y. un_ok f d b.after Zext8 b.value y.stands y.value)
unary_ok f c s unary_op.Exit t u v h x = exit_ok f c s v h x

binary_ok : (f : Frame) (c : Standing) (s : Point) (o : BinaryOp) (t : TypeTree) (a b : Origin) → Stands f c s → IsValue c a → IsValue c b → Made f IsValue c (binary_made o t a b s)
binary_ok f c s (binary_op.Arithmetic o) t a b h x y = bin_ok f c s o a b h x y
binary_ok f c s (binary_op.Compare r) t a b h x y = compared_ok f c s r t a b h x y
binary_ok f c s (binary_op.PointerPlus n) t a b h x y = moved_ok f c s op.Add a b n h x y
binary_ok f c s (binary_op.IntegerPlus n) t a b h x y = moved_ok f c s op.Add b a n h y x
binary_ok f c s (binary_op.PointerMinus n) t a b h x y = moved_ok f c s op.Sub a b n h x y
binary_ok f c s (binary_op.PointerDifference n) t a b h x y = difference_ok f c s a b n h x y

compound_ok : (f : Frame) (c : Standing) (s : Point) (o : CompoundOp) (a b : Origin) → Stands f c s → IsValue c a → IsValue c b → Made f IsValue c (compound_made o a b s)
compound_ok f c s (compound_op.Arithmetic o unsigned) a b h x y = bin_ok f c s o a b h x y
compound_ok f c s (compound_op.PointerPlus n) a b h x y = moved_ok f c s op.Add a b n h x y
compound_ok f c s (compound_op.PointerMinus n) a b h x y = moved_ok f c s op.Sub a b n h x y

stepped_ok : (f : Frame) (c : Standing) (s : Point) (i : IncDec) (v : Origin) → Stands f c s → IsValue c v → Made f IsValue c (stepped_made i v s)
stepped_ok f c s i v h x =
    let k = const_made i.by s in
    value_then f c k (λ k t. bin_made (step_op i.up) v k t) (const_ok f c s i.by h) (λ d y. bin_ok f d k.after (step_op i.up) v k.value y.stands (y.grown v Value x) y.value)

either_value : (c : Standing) (t : Bool) (a b : Origin) → IsValue c a → IsValue c b → IsValue c (if t then a else b)
either_value c true a b x y = x
either_value c false a b x y = y

conditional_ok : (f : Frame) (c : Standing) (s : Point) (t : TypeTree) (p : Origin) (g k : Point → Built Origin) → Stands f c s → IsValue c p → MadeInside f IsValue g → MadeInside f IsValue k →
    Made f IsValue c (choice (conditional_extra t p) s p g k)
conditional_ok f c s void_type p g k h x a b = choice_made f IsValue IsValue c s (void_value p) [] p g k h x (void_value_fits f c s.next p x) a b
conditional_ok f c s t p g k h x a b = choice_made f IsValue IsValue c s one_value (Value ∷ []) p g k h x (one_value_fits f c s.next) a b

-- ---- expressions

-- arguments, so many
pub record ArgumentsFit (n : ℕ) (c : Standing) (os : List Origin) : Type 0 where
  pub values : AreValues c os
  pub count : length os ≡ n

mutual
  pub expr_ok : (f : Frame) (k : Scope) (e : ExprTree) (c : Standing) (s : Point) → FitsScope f k → ExprIsTyped k e → Stands f c s → Made f IsValue c (expr_made e s)
  expr_ok f k (expr t g) c s q ty h = form_ok f k t g c s q ty h

  form_ok : (f : Frame) (k : Scope) (t : TypeTree) (g : FormTree) (c : Standing) (s : Point) → FitsScope f k → FormIsTyped k t g → Stands f c s → Made f IsValue c (form_made t g s)
  form_ok f k t (constant w) c s q ty h = const_ok f c s w h
  form_ok f k t (read p) c s q ty h =
      let b = place_made p s in then_made f (SpotFits f.marks) IsValue c b (spot_read t) (place_ok f k p c s q ty.0 h) (λ d x. spot_read_ok f d b.after t b.value x.stands x.value)
  form_ok f k t (address p) c s q ty h =
      let b = place_made p s in then_made f (SpotFits f.marks) IsValue c b spot_address (place_ok f k p c s q ty.0 h) (λ d x. spot_address_ok f d b.after b.value x.stands x.value)
  form_ok f k t (unary o e) c s q ty h =
      let b = expr_made e s in value_then f c b (unary_made o t (type_of e)) (expr_ok f k e c s q ty.0 h) (λ d x. unary_ok f d b.after o t (type_of e) b.value x.stands x.value)
  form_ok f k t (binary o a b) c s q ty h =
      let l = expr_made a s in
      let r = expr_made b l.after in
      value_then f c l (λ x u. bind (expr_made b u) (binary_made o (type_of a) x)) (expr_ok f k a c s q ty.0 h) (λ d x.
      value_then f d r (binary_made o (type_of a) l.value) (expr_ok f k b d l.after q ty.1 x.stands) (λ e y.
      binary_ok f e r.after o (type_of a) l.value r.value y.stands (y.grown l.value Value x.value) y.value))
  form_ok f k t (logical_and a b) c s q ty h =
      let l = tested a s in
      value_then f c l (λ p u. choice one_value u p (const_made 0) (λ v. bind (tested b v) is_not_zero_made)) (tested_ok f k a c s q ty.0 h) (λ d x.
      choice_made f IsValue IsValue d l.after one_value (Value ∷ []) l.value (const_made 0) (λ v. bind (tested b v) is_not_zero_made) x.stands x.value (one_value_fits f d l.after.next)
      (λ e v g. const_ok f e v 0 g)
      (λ e v g. value_then f e (tested b v) is_not_zero_made (tested_ok f k b e v q ty.1 g) (λ e2 y. is_not_zero_ok f e2 (tested b v).after (tested b v).value y.stands y.value)))
  form_ok f k t (logical_or a b) c s q ty h =
      let l = tested a s in
      value_then f c l (λ p u. choice one_value u p (λ v. bind (tested b v) is_not_zero_made) (const_made 1)) (tested_ok f k a c s q ty.0 h) (λ d x.
      choice_made f IsValue IsValue d l.after one_value (Value ∷ []) l.value (λ v. bind (tested b v) is_not_zero_made) (const_made 1) x.stands x.value (one_value_fits f d l.after.next)
      (λ e v g. value_then f e (tested b v) is_not_zero_made (tested_ok f k b e v q ty.1 g) (λ e2 y. is_not_zero_ok f e2 (tested b v).after (tested b v).value y.stands y.value))
      (λ e v g. const_ok f e v 1 g))
  form_ok f k t (conditional d a b) c s q ty h =
      let l = tested d s in
      value_then f c l (λ p u. choice (conditional_extra t p) u p (expr_made b) (expr_made a)) (tested_ok f k d c s q ty.0 h) (λ e x.
      conditional_ok f e l.after t l.value (expr_made b) (expr_made a) x.stands x.value (λ e2 v g. expr_ok f k b e2 v q ty.2 g) (λ e2 v g. expr_ok f k a e2 v q ty.1 g))
  form_ok f k t (comma es e) c s q ty h =
      let l = commas_made es s in then_made f NoValue IsValue c l (λ _ u. expr_made e u) (commas_ok f k es c s q ty.0 h) (λ d x. expr_ok f k e d l.after q ty.1 x.stands)
  form_ok f k t (assign p e) c s q ty h =
      let l = place_made p s in
      let r = expr_made e l.after in
      then_made f (SpotFits f.marks) IsValue c l (λ x u. bind (expr_made e u) (spot_written t x)) (place_ok f k p c s q ty.0 h) (λ d x.
      value_then f d r (spot_written t l.value) (expr_ok f k e d l.after q ty.1 x.stands) (λ e2 y.
      spot_written_ok f e2 r.after t l.value r.value y.stands (spot_grown f.marks d e2 l.value y.grown x.value) y.value))
  form_ok f k t (compound o p e) c s q ty h =
      let l = place_made p s in
      let old = spot_read t l.value l.after in
      let r = expr_made e old.after in
      let new = compound_made o old.value r.value r.after in
      let low = converted_made t new.value new.after in
      then_made f (SpotFits f.marks) IsValue c l
      (λ x u. bind (spot_read t x u) (λ old v. bind (expr_made e v) (λ y w. bind (compound_made o old y w) (λ new z. bind (converted_made t new z) (spot_written t x)))))
      (place_ok f k p c s q ty.0 h) (λ d1 x1.
      value_then f d1 old (λ old v. bind (expr_made e v) (λ y w. bind (compound_made o old y w) (λ new z. bind (converted_made t new z) (spot_written t l.value))))
      (spot_read_ok f d1 l.after t l.value x1.stands x1.value) (λ d2 x2.
      value_then f d2 r (λ y w. bind (compound_made o old.value y w) (λ new z. bind (converted_made t new z) (spot_written t l.value))) (expr_ok f k e d2 old.after q ty.1 x2.stands) (λ d3 x3.
      value_then f d3 new (λ new z. bind (converted_made t new z) (spot_written t l.value)) (compound_ok f d3 r.after o old.value r.value x3.stands (x3.grown old.value Value x2.value) x3.value)
      (λ d4 x4.
      value_then f d4 low (spot_written t l.value) (converted_ok f d4 new.after t new.value x4.stands x4.value) (λ d5 x5.
      spot_written_ok f d5 low.after t l.value low.value x5.stands
      (spot_grown f.marks d1 d5 l.value (λ o j i. x5.grown o j (x4.grown o j (x3.grown o j (x2.grown o j i)))) x1.value) x5.value)))))
  form_ok f k t (inc_dec i p) c s q ty h =
      let l = place_made p s in
      let old = spot_read t l.value l.after in
      let new = stepped_made i old.value old.after in
      let low = converted_made t new.value new.after in
      let out = spot_written t l.value low.value low.after in
      then_made f (SpotFits f.marks) IsValue c l
      (λ x u. bind (spot_read t x u) (λ old v. bind (stepped_made i old v) (λ new w. bind (converted_made t new w) (λ c z. bind (spot_written t x c z)
      (λ _ y. given (if i.gives_old then old else c) y)))))
      (place_ok f k p c s q ty.0 h) (λ d1 x1.
      value_then f d1 old (λ old v. bind (stepped_made i old v) (λ new w. bind (converted_made t new w) (λ c z. bind (spot_written t l.value c z) (λ _ y. given (if i.gives_old then old else c) y))))
      (spot_read_ok f d1 l.after t l.value x1.stands x1.value) (λ d2 x2.
      value_then f d2 new (λ new w. bind (converted_made t new w) (λ c z. bind (spot_written t l.value c z) (λ _ y. given (if i.gives_old then old.value else c) y)))
      (stepped_ok f d2 old.after i old.value x2.stands x2.value) (λ d3 x3.
      value_then f d3 low (λ c z. bind (spot_written t l.value c z) (λ _ y. given (if i.gives_old then old.value else c) y)) (converted_ok f d3 new.after t new.value x3.stands x3.value) (λ d4 x4.
      value_then f d4 out (λ _ y. given (if i.gives_old then old.value else low.value) y)
      (spot_written_ok f d4 low.after t l.value low.value x4.stands (spot_grown f.marks d1 d4 l.value (λ o j i. x4.grown o j (x3.grown o j (x2.grown o j i))) x1.value) x4.value) (λ d5 x5.
      given_made f IsValue d5 out.after (if i.gives_old then old.value else low.value) x5.stands
      (either_value d5 i.gives_old old.value low.value (x5.grown old.value Value (x4.grown old.value Value (x3.grown old.value Value x2.value))) (x5.grown low.value Value x4.value)))))))
  form_ok f k t (call n es) c s q ty h =
      let b = arguments_made es s in
      then_made f (ArgumentsFit (length (types_of es))) IsValue c b (apply_made n) (arguments_ok f k es c s q ty.0 h) (λ d x.
      apply_ok f d b.after n b.value x.stands
      (subst (λ m. HasCallee f.lambdas n (m + 2)) (sym (x.value.count ∙ ap length ty.1.takes)) (q.functions n ty.1.callee ty.1.there)) x.value.values)
  form_ok f k t get c s q ty h = get_ok f c s h

  pub tested_ok : (f : Frame) (k : Scope) (e : ExprTree) (c : Standing) (s : Point) → FitsScope f k → ExprIsTyped k e → Stands f c s → Made f IsValue c (tested e s)
  tested_ok f k (expr t g) c s q ty h =
      let b = form_made t g s in value_then f c b (condition_made t) (form_ok f k t g c s q ty h) (λ d x. condition_ok f d b.after t b.value x.stands x.value)

  commas_ok : (f : Frame) (k : Scope) (es : ExprTrees) (c : Standing) (s : Point) → FitsScope f k → ExprsAreTyped k es → Stands f c s → Made f NoValue c (commas_made es s)
  commas_ok f k no_exprs c s q ty h = nothing_made f c s h
  commas_ok f k (expr_then e es) c s q ty h =
      let b = expr_made e s in then_made f IsValue NoValue c b (λ _ u. commas_made es u) (expr_ok f k e c s q ty.0 h) (λ d x. commas_ok f k es d b.after q ty.1 x.stands)

  arguments_ok : (f : Frame) (k : Scope) (es : ExprTrees) (c : Standing) (s : Point) → FitsScope f k → ExprsAreTyped k es → Stands f c s →
      Made f (ArgumentsFit (length (types_of es))) c (arguments_made es s)
  arguments_ok f k no_exprs c s q ty h = given_made f (ArgumentsFit 0) c s [] h (record { values = tt; count = refl })
  arguments_ok f k (expr_then e es) c s q ty h =
      let b = expr_made e s in
      let r = arguments_made es b.after in
      then_made f IsValue (ArgumentsFit (length (types_of (expr_then e es)))) c b (λ x u. bind (arguments_made es u) (λ xs v. given (x ∷ xs) v)) (expr_ok f k e c s q ty.0 h) (λ d x.
      then_made f (ArgumentsFit (length (types_of es))) (ArgumentsFit (length (types_of (expr_then e es)))) d r (λ xs v. given (b.value ∷ xs) v) (arguments_ok f k es d b.after q ty.1 x.stands) (λ g y.
      given_made f (ArgumentsFit (length (types_of (expr_then e es)))) g r.after (b.value ∷ r.value) y.stands
      (record { values = (y.grown b.value Value x.value, y.value.values); count = let n = y.value.count in omega (arith, n) })))

  place_ok : (f : Frame) (k : Scope) (p : PlaceTree) (c : Standing) (s : Point) → FitsScope f k → PlaceIsTyped k p → Stands f c s → Made f (SpotFits f.marks) c (place_made p s)
  place_ok f k (place t g) c s q ty h = place_form_ok f k t g c s q ty h

  place_form_ok : (f : Frame) (k : Scope) (t : TypeTree) (g : PlaceFormTree) (c : Standing) (s : Point) → FitsScope f k → PlaceFormIsTyped k t g → Stands f c s →
      Made f (SpotFits f.marks) c (place_form_made g s)
  place_form_ok f k t (local n) c s q ty h = let l = slice_get_within k.slots n ty.0 ty.1 in slot_spot_ok f c s n h (omega (arith, l, q.slots))
  place_form_ok f k t (global n) c s q ty h =
      let l = slice_get_within k.globals n t ty in address_spot_ok f c (delta_made n s) (delta_ok f c s n h (omega (arith, l, q.globals)))
  place_form_ok f k t (at e) c s q ty h = address_spot_ok f c (expr_made e s) (expr_ok f k e c s q ty.0 h)
  place_form_ok f k t (member p n) c s q ty h =
      let b = place_made p s in
      then_made f (SpotFits f.marks) (SpotFits f.marks) c b (λ x u. member_spot x n u) (place_ok f k p c s q ty.0 h) (λ d x. member_spot_ok f d b.after b.value n x.stands x.value)
