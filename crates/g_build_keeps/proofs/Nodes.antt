-- Nodes that give a value: what they give on what their inputs carry.
use Rattle.std.proofs.Common.{◌≡◌, inl, ℕ, suc, List, [], ◌∷◌, ◌%◌, ◌^◌, refl, ap, ap₂, ◌∙◌, arith}
use Rattle.std.specs.Prelude.{◌==◌, not, Some}
use Rattle.val_core.specs.declared.values.Value.{Value}
use Rattle.val_core.specs.declared.values.Value.TheVariants.{Num, Bad}
use Rattle.val_core.specs.declared.operation.Op1.{Op1}
use Rattle.val_core.specs.declared.operation.Op2.{Op2}
use Rattle.val_core.specs.declared.operation.Op2.TheVariants as op
use Rattle.val_core.specs.Words.{one_if}
use Rattle.val_core.specs.Values.{value1, value2}
use Rattle.val_core.specs.Memory.{pointers_equal}
use Rattle.val_core.specs.Refinement.{Direction}
use Rattle.val_core.specs.Answers.{Answer, Returned, on_defined}
use Rattle.c_mean.specs.State.{State, Valued, gives}
use Rattle.c_mean.specs.Statements.{Flow}
use Rattle.g_graph.specs.declared.op.Op.{Op}
use Rattle.g_graph.specs.declared.op.Op.TheVariants.{Const, Undef, Local, Delta, Bin, Un, PtrEq}
use Rattle.g_graph.specs.declared.op.Origin.{Origin}
use Rattle.g_graph.specs.declared.op.Origin.TheVariants.{Out}
use Rattle.g_graph.specs.Plain.{node, no_regions}
use Rattle.g_build_def.specs.Writer.{Point, Built, bind}
use Rattle.g_build_def.specs.Operations.{value_node, const_made, undef_made, local_made, delta_made, bin_made, un_made, ptr_eq_made, is_zero_made, is_not_zero_made, is_null_made}
use Rattle.g_mean.specs.Data.{Datum, val, value_of, on_memory}
use Rattle.g_mean.specs.Meaning as graph
use Rattle.g_mean.specs.Meaning.{Context, Outputs, extended, read, node_run}
use Rattle.g_build_keeps.proofs.Readings.{IsBelow, Keeps, stay-keeps, extended-here, extended-stay, IsSoundContext, IsSoundRun}
use Rattle.g_build_keeps.proofs.Toolbox.{Post, Ran, Simulates, sim-goes, sim-node, sim-bind}
use Rattle.g_build_keeps.proofs.Held.{Held, held-later, held-is, Frame, Holds, holds-later}

-- The state after an expression is held, and its value is carried.
abbrev pub Values : Frame → Flow → Post Valued Origin
Values f flow x rd t p = Holds f flow rd t.next t.carried x.state × Held rd t.next x.value p

-- the same of a state and a value that are known
abbrev pub Line : Frame → Flow → State → Value → Post (Unit {0}) Origin
Line f flow q v _ rd t p = Holds f flow rd t.next t.carried q × Held rd t.next v p

-- what is held when a part begins is held when it has run
pub held-after : {B A : Type 0} → (Q : Post B A) (xs : List Datum) (o : Outputs) (n : ℕ) (b : Built A) (y : B) (o' : Outputs) → Ran Q xs o n b y o' → (v : Value) (p : Origin) →
    Held (read xs o) n v p → Held (read xs o') b.after.next v p
held-after Q xs o n b y o' r v p h = held-later (read xs o) (read xs o') n b.after.next v p (stay-keeps n xs o o' r.stay) r.rises h

-- what an origin carries it still carries
pub read-after : {B A : Type 0} → (Q : Post B A) (xs : List Datum) (o : Outputs) (n : ℕ) (b : Built A) (y : B) (o' : Outputs) → Ran Q xs o n b y o' → (p : Origin) → IsBelow n p → (x : Datum) →
    read xs o p ≡ x → read xs o' p ≡ x
read-after Q xs o n b y o' r p below x e = stay-keeps n xs o o' r.stay p below ∙ e

module _ (w : Direction) (d : Context) (f : Frame) (flow : Flow) where
  -- the source gives a known value, and does nothing
  pub of-line : (xs : List Datum) (o : Outputs) (n : ℕ) (b : Built Origin) (q : State) (v : Value) → Simulates w d (Line f flow q v) xs o n b (Returned tt []) →
      Simulates w d (Values f flow) xs o n b (gives q v)
  of-line xs o n b q v h =
      sim-goes w d (Line f flow q v) (Values f flow) xs o n b (Returned tt []) (λ _. record { value = v; state = q }) (λ y o' r. r.post) h

  pub line-then : IsSoundContext d → {B A : Type 0} → (S : Post B A) (xs : List Datum) (o : Outputs) (n : ℕ) → IsSoundRun xs o → (a : Built Origin) (k : Origin → Point → Built A) (q : State)
      (v : Value)
      (x : Answer B) → Simulates w d (Line f flow q v) xs o n a (Returned tt []) →
      ((o' : Outputs) → IsSoundRun xs o' → Ran (Line f flow q v) xs o n a tt o' → Simulates w d S xs o' a.after.next (k a.value a.after) x) →
      Simulates w d S xs o n (bind a k) x
  line-then c S xs o n s a k q v x h go = sim-bind w d c (Line f flow q v) S xs o n s a k (Returned tt []) (λ _. x) h (λ y o' t r. go o' t r)

  -- ---- one node

  pub line-node : (xs : List Datum) (o : Outputs) (s : Point) (o1 : Op) (inputs : List Origin) (q : State) (v : Value) → Holds f flow (read xs o) s.next s.carried q →
      node_run d (node s.next o1 inputs no_regions) xs o ≡ Returned (val v ∷ []) [] → Simulates w d (Line f flow q v) xs o s.next (value_node s o1 inputs) (Returned tt [])
  line-node xs o s o1 inputs q v h run =
      sim-node w d (Line f flow q v) xs o s o1 inputs (Out s.next 0) s.carried.memory s.carried.io tt (val v ∷ []) [] run (
        holds-later f flow (read xs o) (read xs o') s.next (suc s.next) s.carried q (stay-keeps s.next xs o o' (extended-stay o s.next (val v ∷ []))) (omega arith) h,
        record { far = v; is = extended-here o s.next (val v ∷ []) 0; less = inl refl; below = omega arith },
      )
    where
      o' : Outputs
      o' = extended o s.next (val v ∷ [])

  module _ (xs : List Datum) (o : Outputs) (s : Point) (q : State) (h : Holds f flow (read xs o) s.next s.carried q) where
    pub const-line : (n : ℕ) → Simulates w d (Line f flow q (Num (n % 2 ^ 32))) xs o s.next (const_made n s) (Returned tt [])
    const-line n = line-node xs o s (Const n) [] q (Num (n % 2 ^ 32)) h refl

    pub undef-line : Simulates w d (Line f flow q Bad) xs o s.next (undef_made s) (Returned tt [])
    undef-line = line-node xs o s Undef [] q Bad h refl

    pub local-line : (k : ℕ) → Simulates w d (Line f flow q (d.addresses.local k)) xs o s.next (local_made k s) (Returned tt [])
    local-line k = line-node xs o s (Local k) [] q (d.addresses.local k) h refl

    pub delta-line : (k : ℕ) → Simulates w d (Line f flow q (d.addresses.global k)) xs o s.next (delta_made k s) (Returned tt [])
    delta-line k = line-node xs o s (Delta k) [] q (d.addresses.global k) h refl

    pub bin-line : (b : Op2) (p r : Origin) (x y : Value) → read xs o p ≡ val x → read xs o r ≡ val y →
        Simulates w d (Line f flow q (value2 b x y)) xs o s.next (bin_made b p r s) (Returned tt [])
    bin-line b p r x y e e' =
        line-node xs o s (Bin b) (p ∷ r ∷ []) q (value2 b x y) h (ap₂ (λ (u v : Datum). Returned (val (value2 b (value_of u) (value_of v)) ∷ []) []) e e')

    pub un-line : (b : Op1) (p : Origin) (x : Value) → read xs o p ≡ val x → Simulates w d (Line f flow q (value1 b x)) xs o s.next (un_made b p s) (Returned tt [])
    un-line b p x e = line-node xs o s (Un b) (p ∷ []) q (value1 b x) h (ap (λ (u : Datum). Returned (val (value1 b (value_of u)) ∷ []) []) e)

    -- a comparison that the memory answers
    pub ptr-eq-line : (p r : Origin) (x y : Value) (n : ℕ) → read xs o p ≡ val x → read xs o r ≡ val y → pointers_equal x y q.memory ≡ Some n →
        Simulates w d (Line f flow q (Num n)) xs o s.next (ptr_eq_made p r s) (Returned tt [])
    ptr-eq-line p r x y n e e' found = line-node xs o s PtrEq (p ∷ r ∷ s.carried.memory ∷ []) q (Num n) h run
      where
        run : node_run d (node s.next PtrEq (p ∷ r ∷ s.carried.memory ∷ []) no_regions) xs o ≡ Returned (val (Num n) ∷ []) []
        run =
            (λ i. on_memory (h.memory i) (λ m. on_defined (pointers_equal (value_of (e i)) (value_of (e' i)) m) (λ n. graph.given (Num n))))
            ∙ ap (λ a. on_defined a (λ n. graph.given (Num n))) found

  -- ---- tests

  module _ (c : IsSoundContext d) (xs : List Datum) (o : Outputs) (t : IsSoundRun xs o) (s : Point) (q : State) (h : Holds f flow (read xs o) s.next s.carried q) where
    pub with-const : (n : ℕ) (k : Origin → Point → Built Origin) (v : Value) →
        ((o' : Outputs) → (z : Origin) → read xs o' z ≡ val (Num (n % 2 ^ 32)) → (u : Point) → Holds f flow (read xs o') u.next u.carried q → Keeps s.next (read xs o) (read xs o') →
        Simulates w d (Line f flow q v) xs o' u.next (k z u) (Returned tt [])) → Simulates w d (Line f flow q v) xs o s.next (bind (const_made n s) k) (Returned tt [])
    with-const n k v go =
        line-then c (Line f flow q v) xs o s.next t (const_made n s) k q (Num (n % 2 ^ 32)) (Returned tt []) (const-line xs o s q h n)
        (λ o' t' r. go o' (Out s.next 0) (held-is (read xs o') (suc s.next) (Num (n % 2 ^ 32)) (Out s.next 0) tt r.post.1) (const_made n s).after r.post.0 (stay-keeps s.next xs o o' r.stay))

    pub is-zero-line : (p : Origin) (a : ℕ) → read xs o p ≡ val (Num a) → IsBelow s.next p →
        Simulates w d (Line f flow q (Num (one_if (a == 0)))) xs o s.next (is_zero_made p s) (Returned tt [])
    is-zero-line p a e below =
        with-const 0 (λ z u. bin_made op.Eq p z u) (Num (one_if (a == 0))) (λ o' z e' u h' k. bin-line xs o' u q h' op.Eq p z (Num a) (Num 0) (k p below ∙ e) e')

    pub is-not-zero-line : (p : Origin) (a : ℕ) → read xs o p ≡ val (Num a) → IsBelow s.next p →
        Simulates w d (Line f flow q (Num (one_if (not (a == 0))))) xs o s.next (is_not_zero_made p s) (Returned tt [])
    is-not-zero-line p a e below =
        with-const 0 (λ z u. bin_made op.Ne p z u) (Num (one_if (not (a == 0)))) (λ o' z e' u h' k. bin-line xs o' u q h' op.Ne p z (Num a) (Num 0) (k p below ∙ e) e')

    pub is-null-line : (p : Origin) (v : Value) (n : ℕ) → read xs o p ≡ val v → IsBelow s.next p → pointers_equal v (Num 0) q.memory ≡ Some n →
        Simulates w d (Line f flow q (Num n)) xs o s.next (is_null_made p s) (Returned tt [])
    is-null-line p v n e below found =
        with-const 0 (λ z u. ptr_eq_made p z u) (Num n) (λ o' z e' u h' k. ptr-eq-line xs o' u q h' p z v (Num 0) n (k p below ∙ e) e' found)
