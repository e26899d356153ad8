-- Operations on two operands, of compound assignments, and of `++` and `--`.
use Rattle.std.proofs.Common.{◌≡◌, ℕ, List, [], refl, sym, ◌∙◌, subst}
use Rattle.std.specs.Prelude.{Bool, true, false, cond, Some, None}
use Rattle.val_core.specs.declared.values.Value.{Value}
use Rattle.val_core.specs.declared.values.Value.TheVariants.{Num, At, Bad}
use Rattle.val_core.specs.declared.operation.Op2.{Op2}
use Rattle.val_core.specs.declared.operation.Op2.TheVariants as op
use Rattle.val_core.specs.Words.{word2}
use Rattle.val_core.specs.Refinement.{Direction}
use Rattle.val_core.specs.Answers.{Returned}
use Rattle.c_type.specs.Layout.{Definitions}
use Rattle.c_type.specs.Trees.{TypeTree, void_type, scalar_type, pointer_to, array_of, struct_type}
use Rattle.c_typed.specs.declared.operator.BinaryOp.{BinaryOp}
use Rattle.c_typed.specs.declared.operator.BinaryOp.TheVariants as binary_op
use Rattle.c_typed.specs.declared.operator.CompoundOp.{CompoundOp}
use Rattle.c_typed.specs.declared.operator.CompoundOp.TheVariants as compound_op
use Rattle.c_typed.specs.declared.operator.IncDec.{IncDec}
use Rattle.c_typed.specs.WellTyped.{IsScalar, is_shift, Serves, IsRightOf, if_unsigned, PointsTo, IsCompared, BinaryFits, CompoundFits, IncDecFits, step_op}
use Rattle.c_mean.specs.State.{State, arithmetic, is_defined_on, pointer_moved}
use Rattle.c_mean.specs.Expressions.{binary_done, compound_done, stepped}
use Rattle.c_mean.specs.Statements.{Flow}
use Rattle.g_graph.specs.declared.op.Origin.{Origin}
use Rattle.g_build_def.specs.Writer.{Point, bind}
use Rattle.g_build_def.specs.Operations.{const_made, bin_made}
use Rattle.g_build_def.specs.Expressions.{binary_made, compound_made, stepped_made}
use Rattle.g_mean.specs.Data.{Datum}
use Rattle.g_mean.specs.Meaning.{Context, Outputs, read}
use Rattle.g_build_keeps.proofs.Readings.{IsSoundContext, IsSoundRun}
use Rattle.g_build_keeps.proofs.Toolbox.{Simulates}
use Rattle.g_build_keeps.proofs.Held.{Held, held-is, shown, shown-held, Frame, Holds}
use Rattle.g_build_keeps.proofs.Nodes.{Values, Line, with-const, bin-line}
use Rattle.g_build_keeps.proofs.Unary.{some-inj, integer-scalar, promoted-scalar}
use Rattle.g_build_keeps.proofs.Comparisons.{arithmetic-line, arithmetic-sim, compared-sim}
use Rattle.g_build_keeps.proofs.Pointers.{pointer-moved-line, pointer-moved-sim, stepped-line, difference-sim}

-- ---- operands have values

serves-scalar : (k : Op2) (t : TypeTree) → Serves k t → IsScalar t
serves-scalar op.Add t i = promoted-scalar t i
serves-scalar op.Sub t i = promoted-scalar t i
serves-scalar op.Mul t i = promoted-scalar t i
serves-scalar op.And t i = promoted-scalar t i
serves-scalar op.Or t i = promoted-scalar t i
serves-scalar op.Xor t i = promoted-scalar t i
serves-scalar op.Sll t i = promoted-scalar t i
serves-scalar op.Sra t i = subst IsScalar (sym i) tt
serves-scalar op.Div t i = subst IsScalar (sym i) tt
serves-scalar op.Rem t i = subst IsScalar (sym i) tt
serves-scalar op.Srl t i = subst IsScalar (sym i) tt
serves-scalar op.Divu t i = subst IsScalar (sym i) tt
serves-scalar op.Remu t i = subst IsScalar (sym i) tt
serves-scalar op.Eq t i = absurd i
serves-scalar op.Ne t i = absurd i
serves-scalar op.Slt t i = absurd i
serves-scalar op.Sltu t i = absurd i

right-scalar : (shift : Bool) (t v : TypeTree) → IsScalar t → IsRightOf shift t v → IsScalar v
right-scalar true t v s i = promoted-scalar v i
right-scalar false t v s i = subst IsScalar (sym i) s

points-scalar : (defs : Definitions) (t : TypeTree) (n : ℕ) → PointsTo defs t n → IsScalar t
points-scalar defs (pointer_to u) n i = tt
points-scalar defs void_type n i = absurd i
points-scalar defs (scalar_type u) n i = absurd i
points-scalar defs (array_of u k) n i = absurd i
points-scalar defs (struct_type k) n i = absurd i

compared-scalar : (t : TypeTree) → IsCompared t → IsScalar t
compared-scalar (pointer_to u) i = tt
compared-scalar (scalar_type u) i = tt
compared-scalar void_type i = absurd i
compared-scalar (array_of u k) i = absurd i
compared-scalar (struct_type k) i = absurd i

operands-scalar : (defs : Definitions) (k : BinaryOp) (t u v : TypeTree) → BinaryFits defs k t u v → IsScalar u × IsScalar v
operands-scalar defs (binary_op.Arithmetic o) t u v i =
    let s = serves-scalar o t i.0 in (subst IsScalar (sym i.1) s, right-scalar (is_shift o) t v s i.2)
operands-scalar defs (binary_op.Compare r) t u v i = let s = compared-scalar u i.1 in (s, subst IsScalar (sym i.2) s)
operands-scalar defs (binary_op.PointerPlus n) t u v i = (subst IsScalar (sym i.1) (points-scalar defs t n i.0), integer-scalar v i.2)
operands-scalar defs (binary_op.IntegerPlus n) t u v i = (integer-scalar u i.1, subst IsScalar (sym i.2) (points-scalar defs t n i.0))
operands-scalar defs (binary_op.PointerMinus n) t u v i = (subst IsScalar (sym i.1) (points-scalar defs t n i.0), integer-scalar v i.2)
operands-scalar defs (binary_op.PointerDifference n) t u v i = let s = points-scalar defs u n i.1 in (s, subst IsScalar (sym i.2) s)

pub operand-scalar : (defs : Definitions) (k : CompoundOp) (t v : TypeTree) → CompoundFits defs k t v → IsScalar v
operand-scalar defs (compound_op.Arithmetic o unsigned) t v i = right-scalar (is_shift o) (if_unsigned unsigned) v (of unsigned) i.2
  where
    of : (b : Bool) → IsScalar (if_unsigned b)
    of true = tt
    of false = tt
operand-scalar defs (compound_op.PointerPlus n) t v i = integer-scalar v i.1
operand-scalar defs (compound_op.PointerMinus n) t v i = integer-scalar v i.1

-- ---- operations

module _ (w : Direction) (d : Context) (f : Frame) (flow : Flow) (c : IsSoundContext d) (xs : List Datum) (o : Outputs) (t : IsSoundRun xs o) (s : Point) (q : State)
    (h : Holds f flow (read xs o) s.next s.carried q) where
  binary-held : (defs : Definitions) (k : BinaryOp) (to u v : TypeTree) → BinaryFits defs k to u v → (p r : Origin) (a b : Value) → Held (read xs o) s.next a p →
      Held (read xs o) s.next b r → Simulates w d (Values f flow) xs o s.next (binary_made k u p r s) (binary_done k u v a b q)
  binary-held defs (binary_op.Arithmetic k) to u v i p r a b g g' = arithmetic-sim w d f flow c xs o t s q h k p r a b g g'
  binary-held defs (binary_op.Compare k) to u v i p r a b g g' = compared-sim w d f flow c xs o t s q h k u p r a b i.1 g g'
  binary-held defs (binary_op.PointerPlus n) to u v i p r a b g g' = pointer-moved-sim w d f flow c xs o t s q h true n v p r a b g g'
  binary-held defs (binary_op.IntegerPlus n) to u v i p r a b g g' = pointer-moved-sim w d f flow c xs o t s q h true n u r p b a g' g
  binary-held defs (binary_op.PointerMinus n) to u v i p r a b g g' = pointer-moved-sim w d f flow c xs o t s q h false n v p r a b g g'
  binary-held defs (binary_op.PointerDifference n) to u v i p r a b g g' = difference-sim w d f flow c xs o t s q h p r n a b g g'

  pub binary-sim : (defs : Definitions) (k : BinaryOp) (to u v : TypeTree) → BinaryFits defs k to u v → (p r : Origin) (a b : Value) → Held (read xs o) s.next (shown u a) p →
      Held (read xs o) s.next (shown v b) r → Simulates w d (Values f flow) xs o s.next (binary_made k u p r s) (binary_done k u v a b q)
  binary-sim defs k to u v i p r a b g g' =
      let scalars = operands-scalar defs k to u v i in
      binary-held defs k to u v i p r a b (shown-held (read xs o) s.next u a p scalars.0 g) (shown-held (read xs o) s.next v b r scalars.1 g')

  pub compound-line : (k : CompoundOp) (u : TypeTree) (p r : Origin) (a b v : Value) → Held (read xs o) s.next a p → Held (read xs o) s.next b r → compound_done k u a b q ≡ Some v →
      Simulates w d (Line f flow q v) xs o s.next (compound_made k p r s) (Returned tt [])
  compound-line (compound_op.Arithmetic k unsigned) u p r a b v g g' z = arithmetic-line w d f flow c xs o t s q h k p r a b v g g' z
  compound-line (compound_op.PointerPlus n) u p r a b v g g' z = pointer-moved-line w d f flow c xs o t s q h true n u p r a b v g g' z
  compound-line (compound_op.PointerMinus n) u p r a b v g g' z = pointer-moved-line w d f flow c xs o t s q h false n u p r a b v g g' z

  -- `++` and `--`
  by-one-line : (up : Bool) (p : Origin) (a v : Value) → Held (read xs o) s.next a p → arithmetic (step_op up) a (Num 1) ≡ Some v →
      Simulates w d (Line f flow q v) xs o s.next (bind (const_made 1 s) (λ z u. bin_made (step_op up) p z u)) (Returned tt [])
  by-one-line up p (Num a) v g z =
      subst (λ v. Simulates w d (Line f flow q v) xs o s.next (bind (const_made 1 s) (λ z u. bin_made (step_op up) p z u)) (Returned tt [])) (by (is_defined_on (step_op up) 1) z)
      (with-const w d f flow c xs o t s q h 1 (λ y u. bin_made (step_op up) p y u) (Num (word2 (step_op up) a 1))
      (λ o' y e u h' k. bin-line w d f flow xs o' u q h' (step_op up) p y (Num a) (Num 1) (k p g.below ∙ held-is (read xs o) s.next (Num a) p tt g) e))
    where
      by : (t : Bool) → cond t (Some (Num (word2 (step_op up) a 1))) None ≡ Some v → Num (word2 (step_op up) a 1) ≡ v
      by true z = some-inj z
      by false z = absurd cc
  by-one-line up p (At b n) v g z = absurd cc
  by-one-line up p Bad v g z = absurd cc

  pointer-step : (up : Bool) (n : ℕ) (u : TypeTree) (p : Origin) (a v : Value) → Held (read xs o) s.next a p → pointer_moved up n (pointer_to u) a (Num 1) q.memory ≡ Some v →
      Simulates w d (Line f flow q v) xs o s.next (bind (const_made n s) (λ z y. bin_made (step_op up) p z y)) (Returned tt [])
  pointer-step true n u p a v g z = stepped-line w d f flow c xs o t s q h true (pointer_to u) p a n v refl g z
  pointer-step false n u p a v g z = stepped-line w d f flow c xs o t s q h false (pointer_to u) p a n v refl g z

  pub step-line : (defs : Definitions) (i : IncDec) (u : TypeTree) (p : Origin) (a v : Value) → IncDecFits defs i.by u → Held (read xs o) s.next a p → stepped i u a q ≡ Some v →
      Simulates w d (Line f flow q v) xs o s.next (stepped_made i p s) (Returned tt [])
  step-line defs i (scalar_type k) p a v fits g z =
      subst (λ n. arithmetic (step_op i.up) a (Num n) ≡ Some v → Simulates w d (Line f flow q v) xs o s.next (bind (const_made n s) (λ z u. bin_made (step_op i.up) p z u)) (Returned tt [])) (sym fits)
      (by-one-line i.up p a v g) z
  step-line defs i (pointer_to u) p a v fits g z = pointer-step i.up i.by u p a v g z
  step-line defs i void_type p a v fits g z = absurd fits
  step-line defs i (array_of u n) p a v fits g z = absurd fits
  step-line defs i (struct_type n) p a v fits g z = absurd fits
