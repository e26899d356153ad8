-- Arithmetic and comparisons of two operands of one type.
use Rattle.std.proofs.Common.{◌≡◌, ℕ, List, [], refl, ap, subst, arith}
use Rattle.std.specs.Prelude.{◌==◌, ◌&&◌, not, Bool, true, false, cond, Some, Option, None}
use Rattle.std.proofs.lemmas.Bool.Decides.{nat_tests}
use Rattle.val_core.specs.declared.values.BlockName.{BlockName}
use Rattle.val_core.specs.declared.values.Value.{Value}
use Rattle.val_core.specs.declared.values.Value.TheVariants.{Num, At, Bad}
use Rattle.val_core.specs.declared.operation.Op2.{Op2}
use Rattle.val_core.specs.declared.operation.Op2.TheVariants as op
use Rattle.val_core.specs.Words.{one_if, word2}
use Rattle.val_core.specs.Values.{same_block}
use Rattle.val_core.specs.Memory.{pointers_equal}
use Rattle.val_core.specs.Refinement.{Direction}
use Rattle.val_core.specs.Answers.{Returned, on_defined}
use Rattle.c_type.specs.declared.scalar.Scalar.TheVariants as scalar
use Rattle.c_type.specs.Trees.{TypeTree, void_type, scalar_type, pointer_to, array_of, struct_type}
use Rattle.c_typed.specs.declared.operator.Relation.{Relation}
use Rattle.c_typed.specs.declared.operator.Relation.TheVariants as relation
use Rattle.c_typed.specs.WellTyped.{IsCompared}
use Rattle.c_mean.specs.State.{State, gives, arithmetic, is_defined_on, negated, related, compared, pointers_compared, addresses_ordered, is_live_address, negated_option, used}
use Rattle.c_mean.specs.Expressions.{given_word}
use Rattle.c_mean.specs.Statements.{Flow}
use Rattle.g_graph.specs.declared.op.Origin.{Origin}
use Rattle.g_graph.specs.Plain.{nodes_of}
use Rattle.g_build_def.specs.Writer.{Point, Built, bind}
use Rattle.g_build_def.specs.Operations.{bin_made, ptr_eq_made, is_zero_made, compared_made}
use Rattle.g_mean.specs.Data.{Datum, val}
use Rattle.g_mean.specs.Meaning.{Context, Outputs, read, nodes_run}
use Rattle.g_build_keeps.proofs.Readings.{IsSoundContext, IsSoundRun}
use Rattle.g_build_keeps.proofs.Toolbox.{Ran, Simulates}
use Rattle.g_build_keeps.proofs.Held.{Held, held-is, IsThere, Frame, Holds}
use Rattle.g_build_keeps.proofs.Nodes.{Values, Line, of-line, line-then, bin-line, ptr-eq-line, is-zero-line}
use Rattle.g_build_keeps.proofs.Unary.{used-there, some-inj, defined-line}

negated-one : (b : Bool) → one_if (not b) ≡ negated (one_if b)
negated-one true = refl
negated-one false = refl

same-block-turned : (b c : BlockName) → same_block b c ≡ true → same_block c b ≡ true
same-block-turned b c e = grind (arith, nat_tests, e)

-- a comparison by order
abbrev IsOrder : Relation → Type 0
IsOrder relation.Equal = ⊥
IsOrder relation.NotEqual = ⊥
IsOrder k = Unit {0}

module _ (w : Direction) (d : Context) (f : Frame) (flow : Flow) (c : IsSoundContext d) (xs : List Datum) (o : Outputs) (t : IsSoundRun xs o) (s : Point) (q : State)
    (h : Holds f flow (read xs o) s.next s.carried q) where
  pub arithmetic-line : (k : Op2) (p r : Origin) (a b v : Value) → Held (read xs o) s.next a p → Held (read xs o) s.next b r → arithmetic k a b ≡ Some v →
      Simulates w d (Line f flow q v) xs o s.next (bin_made k p r s) (Returned tt [])
  arithmetic-line k p r (Num a) (Num b) v g g' z = by (is_defined_on k b) z
    where
      by : (t : Bool) → cond t (Some (Num (word2 k a b))) None ≡ Some v → Simulates w d (Line f flow q v) xs o s.next (bin_made k p r s) (Returned tt [])
      by true z =
          subst (λ v. Simulates w d (Line f flow q v) xs o s.next (bin_made k p r s) (Returned tt [])) (some-inj z)
          (bin-line w d f flow xs o s q h k p r (Num a) (Num b) (held-is (read xs o) s.next (Num a) p tt g) (held-is (read xs o) s.next (Num b) r tt g'))
      by false z = absurd cc
  arithmetic-line k p r _ _ v g g' z = absurd cc

  pub arithmetic-sim : (k : Op2) (p r : Origin) (a b : Value) → Held (read xs o) s.next a p → Held (read xs o) s.next b r →
      Simulates w d (Values f flow) xs o s.next (bin_made k p r s) (on_defined (arithmetic k a b) (gives q))
  arithmetic-sim k p r a b g g' =
      defined-line w d f flow xs o s.next (bin_made k p r s) q (arithmetic k a b) (λ v z. arithmetic-line k p r a b v g g' z)

  -- ---- comparisons

  -- a value that is a number, negated
  negated-line : (b : Built Origin) (n : ℕ) → Simulates w d (Line f flow q (Num n)) xs o s.next b (Returned tt []) →
      Simulates w d (Line f flow q (Num (negated n))) xs o s.next (bind b is_zero_made) (Returned tt [])
  negated-line b n k =
      line-then w d f flow c (Line f flow q (Num (negated n))) xs o s.next t b is_zero_made q (Num n) (Returned tt []) k
      (λ o' t' r. is-zero-line w d f flow c xs o' t' b.after q r.post.0 b.value n (held-is (read xs o') b.after.next (Num n) b.value tt r.post.1) r.post.1.below)

  numbers-signed : (k : Relation) (p r : Origin) (a b : ℕ) → read xs o p ≡ val (Num a) → read xs o r ≡ val (Num b) →
      Simulates w d (Line f flow q (Num (related k op.Slt a b))) xs o s.next (compared_made k (scalar_type scalar.Int) p r s) (Returned tt [])
  numbers-signed relation.Less p r a b e e' = bin-line w d f flow xs o s q h op.Slt p r (Num a) (Num b) e e'
  numbers-signed relation.Greater p r a b e e' = bin-line w d f flow xs o s q h op.Slt r p (Num b) (Num a) e' e
  numbers-signed relation.LessEqual p r a b e e' = negated-line (bin_made op.Slt r p s) (word2 op.Slt b a) (bin-line w d f flow xs o s q h op.Slt r p (Num b) (Num a) e' e)
  numbers-signed relation.GreaterEqual p r a b e e' = negated-line (bin_made op.Slt p r s) (word2 op.Slt a b) (bin-line w d f flow xs o s q h op.Slt p r (Num a) (Num b) e e')
  numbers-signed relation.Equal p r a b e e' = bin-line w d f flow xs o s q h op.Eq p r (Num a) (Num b) e e'
  numbers-signed relation.NotEqual p r a b e e' =
      subst (λ n. Simulates w d (Line f flow q (Num n)) xs o s.next (bin_made op.Ne p r s) (Returned tt [])) (negated-one (a == b))
      (bin-line w d f flow xs o s q h op.Ne p r (Num a) (Num b) e e')

  numbers-unsigned : (k : Relation) (p r : Origin) (a b : ℕ) → read xs o p ≡ val (Num a) → read xs o r ≡ val (Num b) →
      Simulates w d (Line f flow q (Num (related k op.Sltu a b))) xs o s.next (compared_made k (scalar_type scalar.UnsignedInt) p r s) (Returned tt [])
  numbers-unsigned relation.Less p r a b e e' = bin-line w d f flow xs o s q h op.Sltu p r (Num a) (Num b) e e'
  numbers-unsigned relation.Greater p r a b e e' = bin-line w d f flow xs o s q h op.Sltu r p (Num b) (Num a) e' e
  numbers-unsigned relation.LessEqual p r a b e e' = negated-line (bin_made op.Sltu r p s) (word2 op.Sltu b a) (bin-line w d f flow xs o s q h op.Sltu r p (Num b) (Num a) e' e)
  numbers-unsigned relation.GreaterEqual p r a b e e' = negated-line (bin_made op.Sltu p r s) (word2 op.Sltu a b) (bin-line w d f flow xs o s q h op.Sltu p r (Num a) (Num b) e e')
  numbers-unsigned relation.Equal p r a b e e' = bin-line w d f flow xs o s q h op.Eq p r (Num a) (Num b) e e'
  numbers-unsigned relation.NotEqual p r a b e e' =
      subst (λ n. Simulates w d (Line f flow q (Num n)) xs o s.next (bin_made op.Ne p r s) (Returned tt [])) (negated-one (a == b))
      (bin-line w d f flow xs o s q h op.Ne p r (Num a) (Num b) e e')

  -- addresses in one block
  below-line : (p r : Origin) (b e : BlockName) (x y : ℕ) → same_block b e ≡ true → read xs o p ≡ val (At b x) → read xs o r ≡ val (At e y) →
      Simulates w d (Line f flow q (Num (word2 op.Sltu x y))) xs o s.next (bin_made op.Sltu p r s) (Returned tt [])
  below-line p r b e x y one z z' =
      subst (λ v. Simulates w d (Line f flow q v) xs o s.next (bin_made op.Sltu p r s) (Returned tt [])) (ap (λ t. cond t (Num (word2 op.Sltu x y)) Bad) one)
      (bin-line w d f flow xs o s q h op.Sltu p r (At b x) (At e y) z z')

  ordered-line : (k : Relation) (u : TypeTree) (p r : Origin) (b e : BlockName) (x y : ℕ) → IsOrder k → same_block b e ≡ true → read xs o p ≡ val (At b x) → read xs o r ≡ val (At e y) →
      Simulates w d (Line f flow q (Num (related k op.Sltu x y))) xs o s.next (compared_made k (pointer_to u) p r s) (Returned tt [])
  ordered-line relation.Less u p r b e x y i one z z' = below-line p r b e x y one z z'
  ordered-line relation.Greater u p r b e x y i one z z' = below-line r p e b y x (same-block-turned b e one) z' z
  ordered-line relation.LessEqual u p r b e x y i one z z' =
      negated-line (bin_made op.Sltu r p s) (word2 op.Sltu y x) (below-line r p e b y x (same-block-turned b e one) z' z)
  ordered-line relation.GreaterEqual u p r b e x y i one z z' = negated-line (bin_made op.Sltu p r s) (word2 op.Sltu x y) (below-line p r b e x y one z z')
  ordered-line relation.Equal u p r b e x y i one z z' = absurd i
  ordered-line relation.NotEqual u p r b e x y i one z z' = absurd i

  ordered-sim : (k : Relation) (u : TypeTree) (p r : Origin) (a b : Value) → IsOrder k → Held (read xs o) s.next a p → Held (read xs o) s.next b r →
      Simulates w d (Values f flow) xs o s.next (compared_made k (pointer_to u) p r s) (on_defined (addresses_ordered k a b q.memory) (given_word q))
  ordered-sim k u p r (At b x) (At e y) i g g' = by (same_block b e) (is_live_address (At b x) q.memory) refl
    where
      by : (one live : Bool) → same_block b e ≡ one →
          Simulates w d (Values f flow) xs o s.next (compared_made k (pointer_to u) p r s) (on_defined (cond (one && live) (Some (related k op.Sltu x y)) None) (given_word q))
      by true true z =
          of-line w d f flow xs o s.next (compared_made k (pointer_to u) p r s) q (Num (related k op.Sltu x y))
          (ordered-line k u p r b e x y i z (held-is (read xs o) s.next (At b x) p tt g) (held-is (read xs o) s.next (At e y) r tt g'))
      by true false z = tt
      by false live z = tt
  ordered-sim k u p r _ _ i g g' = tt

  equal-line : (p r : Origin) (a b : Value) (n : ℕ) → IsThere a → IsThere b → Held (read xs o) s.next a p → Held (read xs o) s.next b r → pointers_equal a b q.memory ≡ Some n →
      Simulates w d (Line f flow q (Num n)) xs o s.next (ptr_eq_made p r s) (Returned tt [])
  equal-line p r a b n i i' g g' e = ptr-eq-line w d f flow xs o s q h p r a b n (held-is (read xs o) s.next a p i g) (held-is (read xs o) s.next b r i' g') e

  pointers-sim : (k : Relation) (u : TypeTree) (p r : Origin) (a b : Value) → IsThere a → IsThere b → Held (read xs o) s.next a p → Held (read xs o) s.next b r →
      Simulates w d (Values f flow) xs o s.next (compared_made k (pointer_to u) p r s) (on_defined (pointers_compared k a b q.memory) (given_word q))
  pointers-sim relation.Less u p r a b i i' g g' = ordered-sim relation.Less u p r a b tt g g'
  pointers-sim relation.Greater u p r a b i i' g g' = ordered-sim relation.Greater u p r a b tt g g'
  pointers-sim relation.LessEqual u p r a b i i' g g' = ordered-sim relation.LessEqual u p r a b tt g g'
  pointers-sim relation.GreaterEqual u p r a b i i' g g' = ordered-sim relation.GreaterEqual u p r a b tt g g'
  pointers-sim relation.Equal u p r a b i i' g g' = by (pointers_equal a b q.memory) refl
    where
      by : (x : Option ℕ) → pointers_equal a b q.memory ≡ x → Simulates w d (Values f flow) xs o s.next (ptr_eq_made p r s) (on_defined x (given_word q))
      by None e = tt
      by (Some n) e = of-line w d f flow xs o s.next (ptr_eq_made p r s) q (Num n) (equal-line p r a b n i i' g g' e)
  pointers-sim relation.NotEqual u p r a b i i' g g' = by (pointers_equal a b q.memory) refl
    where
      by : (x : Option ℕ) → pointers_equal a b q.memory ≡ x → Simulates w d (Values f flow) xs o s.next (bind (ptr_eq_made p r s) is_zero_made) (on_defined (negated_option x) (given_word q))
      by None e = tt
      by (Some n) e =
          of-line w d f flow xs o s.next (bind (ptr_eq_made p r s) is_zero_made) q (Num (negated n)) (negated-line (ptr_eq_made p r s) n (equal-line p r a b n i i' g g' e))

  compared-there : (k : Relation) (u : TypeTree) (p r : Origin) (a b : Value) → IsCompared u → IsThere a → IsThere b → Held (read xs o) s.next a p → Held (read xs o) s.next b r →
      Simulates w d (Values f flow) xs o s.next (compared_made k u p r s) (on_defined (compared k u a b q.memory) (given_word q))
  compared-there k (pointer_to u) p r a b i there there' g g' = pointers-sim k u p r a b there there' g g'
  compared-there k (scalar_type scalar.Int) p r (Num a) (Num b) i there there' g g' =
      of-line w d f flow xs o s.next (compared_made k (scalar_type scalar.Int) p r s) q (Num (related k op.Slt a b))
      (numbers-signed k p r a b (held-is (read xs o) s.next (Num a) p tt g) (held-is (read xs o) s.next (Num b) r tt g'))
  compared-there k (scalar_type scalar.UnsignedInt) p r (Num a) (Num b) i there there' g g' =
      of-line w d f flow xs o s.next (compared_made k (scalar_type scalar.UnsignedInt) p r s) q (Num (related k op.Sltu a b))
      (numbers-unsigned k p r a b (held-is (read xs o) s.next (Num a) p tt g) (held-is (read xs o) s.next (Num b) r tt g'))
  compared-there k (scalar_type scalar.Int) p r _ _ i there there' g g' = tt
  compared-there k (scalar_type scalar.UnsignedInt) p r _ _ i there there' g g' = tt
  compared-there k (scalar_type scalar.Char) p r a b i there there' g g' = absurd i
  compared-there k (scalar_type scalar.SignedChar) p r a b i there there' g g' = absurd i
  compared-there k (scalar_type scalar.UnsignedChar) p r a b i there there' g g' = absurd i
  compared-there k (scalar_type scalar.Short) p r a b i there there' g g' = absurd i
  compared-there k (scalar_type scalar.UnsignedShort) p r a b i there there' g g' = absurd i
  compared-there k void_type p r a b i there there' g g' = absurd i
  compared-there k (array_of u n) p r a b i there there' g g' = absurd i
  compared-there k (struct_type n) p r a b i there there' g g' = absurd i

  pub compared-sim : (k : Relation) (u : TypeTree) (p r : Origin) (a b : Value) → IsCompared u → Held (read xs o) s.next a p → Held (read xs o) s.next b r →
      Simulates w d (Values f flow) xs o s.next (compared_made k u p r s) (used a (λ x. used b (λ y. on_defined (compared k u x y q.memory) (given_word q))))
  compared-sim k u p r a b i g g' =
      used-there w (Ran (Values f flow) xs o s.next (compared_made k u p r s)) a (λ x. used b (λ y. on_defined (compared k u x y q.memory) (given_word q)))
      (nodes_run d (nodes_of (compared_made k u p r s).nodes) xs o) (λ there.
      used-there w (Ran (Values f flow) xs o s.next (compared_made k u p r s)) b (λ y. on_defined (compared k u a y q.memory) (given_word q))
      (nodes_run d (nodes_of (compared_made k u p r s).nodes) xs o) (λ there'. compared-there k u p r a b i there there' g g'))
