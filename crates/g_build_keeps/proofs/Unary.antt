-- Operations on one operand: conversions, signs, tests, and the predeclared functions.
use Rattle.std.proofs.Common.{◌≡◌, inr, ℕ, suc, List, [], ◌∷◌, ◌%◌, ◌^◌, refl, sym, ap, ◌∙◌, subst, arith}
use Rattle.std.specs.Prelude.{◌==◌, ◌-◌, not, Bool, true, false, Some, Option, None}
use Rattle.val_core.specs.declared.values.Value.{Value}
use Rattle.val_core.specs.declared.values.Value.TheVariants.{Num, At, Bad}
use Rattle.val_core.specs.declared.operation.Op1.TheVariants as op1
use Rattle.val_core.specs.declared.operation.Op2.TheVariants as op
use Rattle.val_core.specs.Words.{one_if, word2}
use Rattle.val_core.specs.Memory.{Memory as Blocks}
use Rattle.val_core.specs.Events.{wrote}
use Rattle.val_core.specs.Refinement.{Direction, exactly, Refines}
use Rattle.val_core.specs.Answers.{Answer, Returned, Exited, then_on, on_number, on_defined}
use Rattle.c_type.specs.declared.scalar.Scalar.TheVariants as scalar
use Rattle.c_type.specs.Trees.{TypeTree, void_type, scalar_type, pointer_to, array_of, struct_type}
use Rattle.c_typed.specs.declared.operator.UnaryOp.{UnaryOp}
use Rattle.c_typed.specs.declared.operator.UnaryOp.TheVariants as unary_op
use Rattle.c_typed.specs.WellTyped.{IsScalar, IsInteger, IsPromoted, int, UnaryFits}
use Rattle.c_mean.specs.State.{State, gives, used, converted, extended, arithmetic, truth}
use Rattle.c_mean.specs.Expressions.{unary_done, given_word}
use Rattle.c_mean.specs.Statements.{Flow}
use Rattle.g_graph.specs.declared.op.Op.TheVariants.{Put}
use Rattle.g_graph.specs.declared.op.Origin.{Origin}
use Rattle.g_graph.specs.declared.op.Origin.TheVariants.{Out}
use Rattle.g_graph.specs.Plain.{node, nodes_of, no_regions}
use Rattle.g_build_def.specs.Writer.{Point, with_states, Built, given}
use Rattle.g_build_def.specs.Operations.{bin_made, un_made, put_made, exit_made, converted_made, extended_made, not_made, condition_made, is_zero_made, is_null_made}
use Rattle.g_build_def.specs.Expressions.{unary_made}
use Rattle.g_mean.specs.Data.{Datum, val, memory, input, value_of, on_input}
use Rattle.g_mean.specs.Meaning.{Context, Outputs, extended as outputs_extended, read, node_run, nodes_run}
use Rattle.g_build_keeps.proofs.Readings.{IsBelow, below-later, Keeps, stay-keeps, extended-here, extended-stay, IsSoundContext, IsSoundRun}
use Rattle.g_build_keeps.proofs.Toolbox.{Post, Ran, Simulates, sim-change, sim-given, sim-node, sim-bind}
use Rattle.g_build_keeps.proofs.Held.{Held, held-is, held-exactly, IsThere, shown, shown-held, Frame, Holds, slots-later, jumps-later}
use Rattle.g_build_keeps.proofs.Nodes.{Values, Line, of-line, line-then, bin-line, un-line, with-const, is-zero-line, is-null-line}

-- What follows on a value that is used: where it is not there, the source is undefined.
pub used-there : {A B : Type 0} → (w : Direction) (R : A → B → Type 0) (v : Value) (next : Value → Answer A) (b : Answer B) → (IsThere v → Refines exactly w R (next v) b) →
    Refines exactly w R (used v next) b
used-there w R (Num n) next b go = go tt
used-there w R (At a o) next b go = go tt
used-there w R Bad next b go = tt

-- the states change at a node
pub holds-states : (f : Frame) (flow : Flow) (rd rd' : Origin → Datum) (s : Point) (q : State) (m' : Blocks) (i' : List ℕ) (m i : Origin) → Keeps s.next rd rd' →
    Holds f flow rd s.next s.carried q → rd' m ≡ memory m' → IsBelow (suc s.next) m → rd' i ≡ input i' → IsBelow (suc s.next) i →
    Holds f flow rd' (suc s.next) (with_states s m i).carried (record { slots = q.slots; memory = m'; input = i' })
holds-states f flow rd rd' s q m' i' m i k h e b e' b' =
    record {
      slots = slots-later rd rd' s.next (suc s.next) f.waiting s.carried.variables f.numbers q.slots k (omega arith) h.slots;
      count = h.count;
      jumps = jumps-later rd rd' s.next (suc s.next) f.is_main flow s.carried.form s.carried.go s.carried.ret k (omega arith) h.jumps;
      memory = e;
      memory_below = b;
      io = e';
      io_below = b';
    }

twice-not : (b : Bool) → one_if (not (not b)) ≡ one_if b
twice-not true = refl
twice-not false = refl

pub some-inj : {A : Type 0} {x y : A} → Some x ≡ Some y → x ≡ y
some-inj e = cc

not-of : (x b : Bool) → not x ≡ b → x ≡ not b
not-of true b e = ap not e
not-of false b e = ap not e

zero-of : (b : Bool) → (one_if (one_if (not b) == 0) == 0) ≡ not b
zero-of true = refl
zero-of false = refl

pub integer-scalar : (t : TypeTree) → IsInteger t → IsScalar t
integer-scalar (scalar_type k) i = tt
integer-scalar void_type i = absurd i
integer-scalar (pointer_to t) i = absurd i
integer-scalar (array_of t n) i = absurd i
integer-scalar (struct_type k) i = absurd i

pub promoted-scalar : (t : TypeTree) → IsPromoted t → IsScalar t
promoted-scalar (scalar_type k) i = tt
promoted-scalar void_type i = absurd i
promoted-scalar (pointer_to t) i = absurd i
promoted-scalar (array_of t n) i = absurd i
promoted-scalar (struct_type k) i = absurd i

module _ (w : Direction) (d : Context) (f : Frame) (flow : Flow) where
  pub used-line : (xs : List Datum) (o : Outputs) (n : ℕ) (b : Built Origin) (q : State) (v : Value) → Simulates w d (Line f flow q v) xs o n b (Returned tt []) →
      Simulates w d (Values f flow) xs o n b (used v (gives q))
  used-line xs o n b q (Num a) h = of-line w d f flow xs o n b q (Num a) h
  used-line xs o n b q (At a k) h = of-line w d f flow xs o n b q (At a k) h
  used-line xs o n b q Bad h = tt

  -- a value that the source may not define
  pub defined-line : (xs : List Datum) (o : Outputs) (n : ℕ) (b : Built Origin) (q : State) (x : Option Value) →
      ((v : Value) → x ≡ Some v → Simulates w d (Line f flow q v) xs o n b (Returned tt [])) → Simulates w d (Values f flow) xs o n b (on_defined x (gives q))
  defined-line xs o n b q None go = tt
  defined-line xs o n b q (Some v) go = of-line w d f flow xs o n b q v (go v refl)

  -- an origin given as it is
  given-line : (xs : List Datum) (o : Outputs) (s : Point) (q : State) → Holds f flow (read xs o) s.next s.carried q → (p : Origin) (v : Value) → read xs o p ≡ val v → IsBelow s.next p →
      Simulates w d (Line f flow q v) xs o s.next (given p s) (Returned tt [])
  given-line xs o s q h p v e b =
      sim-given w d (Line f flow q v) xs o s.next p s tt (omega arith) (h, held-exactly (read xs o) s.next v p e b)

  module _ (c : IsSoundContext d) (xs : List Datum) (o : Outputs) (t : IsSoundRun xs o) (s : Point) (q : State) (h : Holds f flow (read xs o) s.next s.carried q) where
    pub converted-line : (to : TypeTree) (p : Origin) (v : Value) → read xs o p ≡ val v → IsBelow s.next p →
        Simulates w d (Line f flow q (converted to v)) xs o s.next (converted_made to p s) (Returned tt [])
    converted-line (scalar_type scalar.Char) p v e b = un-line w d f flow xs o s q h op1.Zext8 p v e
    converted-line (scalar_type scalar.UnsignedChar) p v e b = un-line w d f flow xs o s q h op1.Zext8 p v e
    converted-line (scalar_type scalar.SignedChar) p v e b = un-line w d f flow xs o s q h op1.Sext8 p v e
    converted-line (scalar_type scalar.Short) p v e b = un-line w d f flow xs o s q h op1.Sext16 p v e
    converted-line (scalar_type scalar.UnsignedShort) p v e b = un-line w d f flow xs o s q h op1.Zext16 p v e
    converted-line (scalar_type scalar.Int) p v e b = given-line xs o s q h p v e b
    converted-line (scalar_type scalar.UnsignedInt) p v e b = given-line xs o s q h p v e b
    converted-line void_type p v e b = given-line xs o s q h p v e b
    converted-line (pointer_to u) p v e b = given-line xs o s q h p v e b
    converted-line (array_of u n) p v e b = given-line xs o s q h p v e b
    converted-line (struct_type n) p v e b = given-line xs o s q h p v e b

    pub extended-line : (of : TypeTree) (p : Origin) (v : Value) → read xs o p ≡ val v → IsBelow s.next p →
        Simulates w d (Line f flow q (extended of v)) xs o s.next (extended_made of p s) (Returned tt [])
    extended-line (scalar_type scalar.SignedChar) p v e b = un-line w d f flow xs o s q h op1.Sext8 p v e
    extended-line (scalar_type scalar.Short) p v e b = un-line w d f flow xs o s q h op1.Sext16 p v e
    extended-line (scalar_type scalar.Char) p v e b = given-line xs o s q h p v e b
    extended-line (scalar_type scalar.UnsignedChar) p v e b = given-line xs o s q h p v e b
    extended-line (scalar_type scalar.UnsignedShort) p v e b = given-line xs o s q h p v e b
    extended-line (scalar_type scalar.Int) p v e b = given-line xs o s q h p v e b
    extended-line (scalar_type scalar.UnsignedInt) p v e b = given-line xs o s q h p v e b
    extended-line void_type p v e b = given-line xs o s q h p v e b
    extended-line (pointer_to u) p v e b = given-line xs o s q h p v e b
    extended-line (array_of u n) p v e b = given-line xs o s q h p v e b
    extended-line (struct_type n) p v e b = given-line xs o s q h p v e b

    -- ---- signs

    negate-sim : (p : Origin) (v : Value) → Held (read xs o) s.next v p →
        Simulates w d (Values f flow) xs o s.next (unary_made unary_op.Negate int int p s) (on_defined (arithmetic op.Sub (Num 0) v) (gives q))
    negate-sim p (Num a) g =
        of-line w d f flow xs o s.next (unary_made unary_op.Negate int int p s) q (Num (word2 op.Sub 0 a))
        (with-const w d f flow c xs o t s q h 0 (λ z u. bin_made op.Sub z p u) (Num (word2 op.Sub 0 a))
        (λ o' z e u h' k. bin-line w d f flow xs o' u q h' op.Sub z p (Num 0) (Num a) e (k p g.below ∙ held-is (read xs o) s.next (Num a) p tt g)))
    negate-sim p (At b k) g = tt
    negate-sim p Bad g = tt

    complement-sim : (p : Origin) (v : Value) → Held (read xs o) s.next v p →
        Simulates w d (Values f flow) xs o s.next (unary_made unary_op.Complement int int p s) (on_defined (arithmetic op.Xor v (Num (2 ^ 32 - 1))) (gives q))
    complement-sim p (Num a) g =
        of-line w d f flow xs o s.next (unary_made unary_op.Complement int int p s) q (Num (word2 op.Xor a (2 ^ 32 - 1)))
        (with-const w d f flow c xs o t s q h (2 ^ 32 - 1) (λ z u. bin_made op.Xor p z u) (Num (word2 op.Xor a (2 ^ 32 - 1)))
        (λ o' z e u h' k. bin-line w d f flow xs o' u q h' op.Xor p z (Num a) (Num (2 ^ 32 - 1)) (k p g.below ∙ held-is (read xs o) s.next (Num a) p tt g) e))
    complement-sim p (At b k) g = tt
    complement-sim p Bad g = tt

    -- ---- tests

    -- `!` is the word of the test that a value is not true
    not-line : (u : TypeTree) (p : Origin) (v : Value) (b : Bool) → IsScalar u → truth u v ≡ Some b → Held (read xs o) s.next v p →
        Simulates w d (Line f flow q (Num (one_if (not b)))) xs o s.next (not_made u p s) (Returned tt [])
    not-line (scalar_type k) p (Num a) b i e g =
        subst (λ n. Simulates w d (Line f flow q (Num n)) xs o s.next (is_zero_made p s) (Returned tt [])) (sym (twice-not (a == 0)) ∙ ap (λ y. one_if (not y)) (some-inj e))
        (is-zero-line w d f flow c xs o t s q h p a (held-is (read xs o) s.next (Num a) p tt g) g.below)
    not-line (pointer_to k) p (Num a) b i e g =
        subst (λ n. Simulates w d (Line f flow q (Num n)) xs o s.next (is_null_made p s) (Returned tt [])) (sym (twice-not (a == 0)) ∙ ap (λ y. one_if (not y)) (some-inj e))
        (is-null-line w d f flow c xs o t s q h p (Num a) (one_if (a == 0)) (held-is (read xs o) s.next (Num a) p tt g) g.below refl)
    not-line (pointer_to k) p (At a m) b i e g =
        subst (λ n. Simulates w d (Line f flow q (Num n)) xs o s.next (is_null_made p s) (Returned tt [])) (ap (λ y. one_if (not y)) (some-inj e))
        (is-null-line w d f flow c xs o t s q h p (At a m) 0 (held-is (read xs o) s.next (At a m) p tt g) g.below refl)
    not-line (scalar_type k) p (At a m) b i e g = absurd cc
    not-line (scalar_type k) p Bad b i e g = absurd cc
    not-line (pointer_to k) p Bad b i e g = absurd cc
    not-line void_type p v b i e g = absurd i
    not-line (array_of k n) p v b i e g = absurd i
    not-line (struct_type k) p v b i e g = absurd i

    logical-not-sim : (u : TypeTree) (p : Origin) (v : Value) → IsScalar u → Held (read xs o) s.next v p →
        Simulates w d (Values f flow) xs o s.next (not_made u p s) (on_defined (truth u v) (λ b. given_word q (one_if (not b))))
    logical-not-sim u p v i g = by (truth u v) refl
      where
        by : (a : Option Bool) → truth u v ≡ a → Simulates w d (Values f flow) xs o s.next (not_made u p s) (on_defined a (λ b. given_word q (one_if (not b))))
        by None e = tt
        by (Some b) e = of-line w d f flow xs o s.next (not_made u p s) q (Num (one_if (not b))) (not-line u p v b i e g)

    -- the word of a value as a condition
    abbrev pub Tests : Bool → Post (Unit {0}) Origin
    Tests b _ rd u p = Holds f flow rd u.next u.carried q × ((n : ℕ) × (rd p ≡ val (Num n)) × IsBelow u.next p × ((n == 0) ≡ not b))

    pub condition-line : (u : TypeTree) (p : Origin) (v : Value) (b : Bool) → IsScalar u → truth u v ≡ Some b → Held (read xs o) s.next v p →
        Simulates w d (Tests b) xs o s.next (condition_made u p s) (Returned tt [])
    condition-line (scalar_type k) p (Num a) b i e g =
        sim-given w d (Tests b) xs o s.next p s tt (omega arith)
        (h, (a, held-is (read xs o) s.next (Num a) p tt g, g.below, not-of (a == 0) b (some-inj e)))
    condition-line (pointer_to k) p v b i e g =
        line-then w d f flow c (Tests b) xs o s.next t (is_null_made p s) is_zero_made q (Num (one_if (not b))) (Returned tt []) (not-line (pointer_to k) p v b i e g) (λ o' t' r.
        sim-change w d (Line f flow q (Num (one_if (one_if (not b) == 0)))) (Tests b) xs o' (is_null_made p s).after.next (is_zero_made (is_null_made p s).value (is_null_made p s).after)
        (Returned tt [])
        (λ y o'' r'.
        (r'.post.0, (one_if (one_if (not b) == 0), held-is (read xs o'') _ (Num (one_if (one_if (not b) == 0))) _ tt r'.post.1, r'.post.1.below, zero-of b)))
        (is-zero-line w d f flow c xs o' t' (is_null_made p s).after q r.post.0 (is_null_made p s).value (one_if (not b)) (held-is (read xs o') _ (Num (one_if (not b))) _ tt r.post.1) r.post.1.below))
    condition-line (scalar_type k) p (At a m) b i e g = absurd cc
    condition-line (scalar_type k) p Bad b i e g = absurd cc
    condition-line void_type p v b i e g = absurd i
    condition-line (array_of k n) p v b i e g = absurd i
    condition-line (struct_type k) p v b i e g = absurd i

    -- ---- the predeclared functions

    put-sim : (p : Origin) (v : Value) → Held (read xs o) s.next v p →
        Simulates w d (Values f flow) xs o s.next (unary_made unary_op.Put int int p s)
        (on_number v (λ n. Returned (record { value = Num (n % 256); state = q }) (wrote (n % 256) ∷ [])))
    put-sim p (Num a) g =
        sim-bind w d c (Line f flow q (Num a)) (Values f flow) xs o s.next t (put_made p s) (un_made op1.Zext8) (Returned tt (wrote (a % 256) ∷ [])) (λ _. gives q (Num (a % 256)))
        (sim-node w d (Line f flow q (Num a)) xs o s Put (p ∷ s.carried.io ∷ []) p s.carried.memory (Out s.next 0) tt (input q.input ∷ []) (wrote (a % 256) ∷ []) run (
          holds-states f flow (read xs o) (read xs o1) s q q.memory q.input s.carried.memory (Out s.next 0) same h (same s.carried.memory h.memory_below ∙ h.memory)
              (below-later s.next (suc s.next) s.carried.memory (omega arith) h.memory_below) (extended-here o s.next (input q.input ∷ []) 0) (omega arith),
          held-exactly (read xs o1) (suc s.next) (Num a) p (same p g.below ∙ is) (below-later s.next (suc s.next) p (omega arith) g.below),
        ))
        (λ y o' t' r.
        of-line w d f flow xs o' (suc s.next) (un_made op1.Zext8 p (put_made p s).after) q (Num (a % 256))
        (un-line w d f flow xs o' (put_made p s).after q r.post.0 op1.Zext8 p (Num a) (held-is (read xs o') (suc s.next) (Num a) p tt r.post.1)))
      where
        is : read xs o p ≡ val (Num a)
        is = held-is (read xs o) s.next (Num a) p tt g

        o1 : Outputs
        o1 = outputs_extended o s.next (input q.input ∷ [])

        same : Keeps s.next (read xs o) (read xs o1)
        same = stay-keeps s.next xs o o1 (extended-stay o s.next (input q.input ∷ []))

        run : node_run d (node s.next Put (p ∷ s.carried.io ∷ []) no_regions) xs o ≡ Returned (input q.input ∷ []) (wrote (a % 256) ∷ [])
        run = λ i. on_number (value_of (is i)) (λ n. on_input (h.io i) (λ k. Returned (input k ∷ []) (wrote (n % 256) ∷ [])))
    put-sim p (At b k) g = tt
    put-sim p Bad g = tt

    exit-sim : (p : Origin) (v : Value) → Held (read xs o) s.next v p →
        Simulates w d (Values f flow) xs o s.next (exit_made p s) (on_number v (λ n. Exited [] (n % 256)))
    exit-sim p (Num a) g =
        subst (λ x. Refines exactly w (Ran (Values f flow) xs o s.next (exit_made p s)) (Exited [] (a % 256))
        (then_on (on_number (value_of x) (λ n. Exited [] (n % 256))) (λ ys. Returned (outputs_extended o s.next ys) [])))
        (sym (held-is (read xs o) s.next (Num a) p tt g)) (refl, refl)
    exit-sim p (At b k) g = tt
    exit-sim p Bad g = tt

    pub unary-sim : (k : UnaryOp) (to of : TypeTree) → UnaryFits k to of → (p : Origin) (v : Value) → Held (read xs o) s.next (shown of v) p →
        Simulates w d (Values f flow) xs o s.next (unary_made k to of p s) (unary_done k to of v q)
    unary-sim unary_op.Convert to of i p v g =
        let held = shown-held (read xs o) s.next of v p (integer-scalar of i.0) g in
        used-there w (Ran (Values f flow) xs o s.next (converted_made to p s)) v (λ x. used (converted to x) (gives q)) (nodes_run d (nodes_of (converted_made to p s).nodes) xs o)
        (λ there. used-line xs o s.next (converted_made to p s) q (converted to v) (converted-line to p v (held-is (read xs o) s.next v p there held) held.below))
    unary-sim unary_op.Discard to of i p v g =
        sim-given w d (Values f flow) xs o s.next p s (record { value = Bad; state = q }) (omega arith)
        (h, record { far = g.far; is = g.is; less = inr refl; below = g.below })
    unary-sim unary_op.Negate to of i p v g = negate-sim p v (shown-held (read xs o) s.next of v p (subst IsScalar (sym i.1) (promoted-scalar to i.0)) g)
    unary-sim unary_op.Complement to of i p v g = complement-sim p v (shown-held (read xs o) s.next of v p (subst IsScalar (sym i.1) (promoted-scalar to i.0)) g)
    unary-sim unary_op.LogicalNot to of i p v g = logical-not-sim of p v i.1 (shown-held (read xs o) s.next of v p i.1 g)
    unary-sim unary_op.Put to of i p v g = put-sim p v (shown-held (read xs o) s.next of v p (subst IsScalar (sym i.1) tt) g)
    unary-sim unary_op.Exit to of i p v g = exit-sim p v (shown-held (read xs o) s.next of v p (subst IsScalar (sym i.1) tt) g)
