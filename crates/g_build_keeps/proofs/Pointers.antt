-- Arithmetic of addresses: where the exact arithmetic of the source stays within the block, the words of the graph are it.
use Rattle.std.proofs.Common.{◌≡◌, ◌≤◌, ◌<◌, ℕ, ◌+◌, ◌*◌, suc, List, [], ◌%◌, ◌^◌, refl, sym, ap, ◌∙◌, subst, arith, leb-true}
use Rattle.std.specs.Prelude.{◌-◌, ◌&&◌, nat_le, Bool, true, false, cond, Some, None}
use Rattle.std.proofs.Math.Nat.{add-mul}
use Rattle.std.proofs.lemmas.Nat.{mul-mod_second}
use Rattle.std.proofs.lemmas.Bool.Decides.{nat_tests}
use Rattle.val_core.specs.declared.values.BlockName.{BlockName}
use Rattle.val_core.specs.declared.values.Value.{Value}
use Rattle.val_core.specs.declared.values.Value.TheVariants.{Num, At, Bad}
use Rattle.val_core.specs.declared.operation.Op2.{Op2}
use Rattle.val_core.specs.declared.operation.Op2.TheVariants as op
use Rattle.val_core.specs.Words.{word2}
use Rattle.val_core.specs.Values.{same_block, value2, IsSound, address}
use Rattle.val_core.specs.Refinement.{Direction}
use Rattle.val_core.specs.Answers.{Returned, on_defined}
use Rattle.c_type.specs.Trees.{TypeTree}
use Rattle.c_mean.specs.State.{State, gives, at_offset, moved_up, moved_down, is_negative, elements_on, pointer_moved, pointer_difference, member_address, is_live_address, is_unsigned}
use Rattle.c_mean.specs.Statements.{Flow}
use Rattle.g_graph.specs.declared.op.Origin.{Origin}
use Rattle.g_graph.specs.declared.op.Origin.TheVariants.{Out}
use Rattle.g_build_def.specs.Writer.{Point, Built, bind}
use Rattle.g_build_def.specs.Operations.{const_made, bin_made, moved_made, difference_made, at_offset_made}
use Rattle.g_mean.specs.Data.{Datum, val}
use Rattle.g_mean.specs.Meaning.{Context, Outputs, read}
use Rattle.g_mean.specs.LessDefined.{IsSoundDatum}
use Rattle.g_build_keeps.proofs.Readings.{IsBelow, below-later, IsSoundContext, IsSoundRun, read-sound}
use Rattle.g_build_keeps.proofs.Toolbox.{Simulates}
use Rattle.g_build_keeps.proofs.Held.{Held, held-is, Frame, Holds}
use Rattle.g_build_keeps.proofs.Nodes.{Values, Line, read-after, of-line, line-then, with-const, const-line, bin-line}
use Rattle.g_build_keeps.proofs.Unary.{defined-line}

-- ---- words

-- so many elements of so many bytes, up and down
add-word : (o w n size : ℕ) → o + w * n ≤ size → size < 2 ^ 32 → word2 op.Add o (word2 op.Mul w (n % 2 ^ 32)) ≡ o + w * n
add-word o w n size h fits = ap (λ x. (o + x) % 2 ^ 32) (mul-mod_second w n (2 ^ 32)) ∙ omega (arith, h, fits)

sub-word : (o w n : ℕ) → w * n ≤ o → o < 2 ^ 32 → word2 op.Sub o (word2 op.Mul w (n % 2 ^ 32)) ≡ o - w * n
sub-word o w n h fits = ap (λ x. (o + (2 ^ 32 - x)) % 2 ^ 32) (mul-mod_second w n (2 ^ 32)) ∙ omega (arith, h, fits)

-- what a negative number of elements and its amount make together
whole : (w n : ℕ) → w < 2 ^ 32 → w * n + (2 ^ 32 - w) * n ≡ 2 ^ 32 * n
whole w n h = sym (add-mul w (2 ^ 32 - w) n) ∙ ap (λ x. x * n) (omega (arith, h))

add-negative : (o w n : ℕ) → w < 2 ^ 32 → (2 ^ 32 - w) * n ≤ o → o < 2 ^ 32 → word2 op.Add o (word2 op.Mul w (n % 2 ^ 32)) ≡ o - (2 ^ 32 - w) * n
add-negative o w n word h fits =
    ap (λ x. (o + x) % 2 ^ 32) (mul-mod_second w n (2 ^ 32)) ∙ by (w * n) ((2 ^ 32 - w) * n) (whole w n word) h
  where
    by : (a b : ℕ) → a + b ≡ 4294967296 * n → b ≤ o → (o + a % 4294967296) % 4294967296 ≡ o - b
    by a b e le = omega (arith, e, le, fits)

sub-negative : (o w n size : ℕ) → w < 2 ^ 32 → o + (2 ^ 32 - w) * n ≤ size → size < 2 ^ 32 → word2 op.Sub o (word2 op.Mul w (n % 2 ^ 32)) ≡ o + (2 ^ 32 - w) * n
sub-negative o w n size word h fits =
    ap (λ x. (o + (2 ^ 32 - x)) % 2 ^ 32) (mul-mod_second w n (2 ^ 32)) ∙ by (w * n) ((2 ^ 32 - w) * n) (whole w n word) h
  where
    by : (a b : ℕ) → a + b ≡ 4294967296 * n → o + b ≤ size → (o + (4294967296 - a % 4294967296)) % 4294967296 ≡ o + b
    by a b e le = omega (arith, e, le, fits)

pub address-is : (b : BlockName) (x y : ℕ) → x ≡ y → y ≤ b.size → address b x ≡ At b y
address-is b x y e le = ap (address b) e ∙ ap (λ t. cond t (At b y) Bad) within
  where
    within : nat_le y b.size ≡ true
    within = grind (arith, nat_tests, le)

-- an address that is there after all
within : (b : BlockName) (t : Bool) (x : ℕ) (v : Value) → at_offset b t x ≡ Some v → (t ≡ true) × (v ≡ At b x)
within b true x v e = (refl, cc)
within b false x v e = absurd cc

abbrev up-op : (up : Bool) → Op2
up-op true = op.Add
up-op false = op.Sub

-- elements from an address on
elements-word : (up unsigned : Bool) (n : ℕ) (b : BlockName) (o w : ℕ) (v : Value) → w < 2 ^ 32 → o ≤ b.size → b.size < 2 ^ 32 → elements_on up unsigned n b o w ≡ Some v →
    value2 (up-op up) (At b o) (Num (word2 op.Mul w (n % 2 ^ 32))) ≡ v
elements-word true unsigned n b o w v word low fits = by (is_negative unsigned w)
  where
    by : (t : Bool) → cond t (moved_down b o ((2 ^ 32 - w) * n)) (moved_up b o (w * n)) ≡ Some v → value2 op.Add (At b o) (Num (word2 op.Mul w (n % 2 ^ 32))) ≡ v
    by true e =
        let r = within b (nat_le ((2 ^ 32 - w) * n) o) (o - (2 ^ 32 - w) * n) v e in
        let le = leb-true ((2 ^ 32 - w) * n) o r.0 in
        address-is b (word2 op.Add o (word2 op.Mul w (n % 2 ^ 32))) (o - (2 ^ 32 - w) * n) (add-negative o w n word le (omega (arith, low, fits))) (omega (arith, low)) ∙ sym r.1
    by false e =
        let r = within b (nat_le (o + w * n) b.size) (o + w * n) v e in
        let le = leb-true (o + w * n) b.size r.0 in
        address-is b (word2 op.Add o (word2 op.Mul w (n % 2 ^ 32))) (o + w * n) (add-word o w n b.size le fits) le ∙ sym r.1
elements-word false unsigned n b o w v word low fits = by (is_negative unsigned w)
  where
    by : (t : Bool) → cond t (moved_up b o ((2 ^ 32 - w) * n)) (moved_down b o (w * n)) ≡ Some v → value2 op.Sub (At b o) (Num (word2 op.Mul w (n % 2 ^ 32))) ≡ v
    by true e =
        let r = within b (nat_le (o + (2 ^ 32 - w) * n) b.size) (o + (2 ^ 32 - w) * n) v e in
        let le = leb-true (o + (2 ^ 32 - w) * n) b.size r.0 in
        address-is b (word2 op.Sub o (word2 op.Mul w (n % 2 ^ 32))) (o + (2 ^ 32 - w) * n) (sub-negative o w n b.size word le fits) le ∙ sym r.1
    by false e =
        let r = within b (nat_le (w * n) o) (o - w * n) v e in
        let le = leb-true (w * n) o r.0 in
        address-is b (word2 op.Sub o (word2 op.Mul w (n % 2 ^ 32))) (o - w * n) (sub-word o w n le (omega (arith, low, fits))) (omega (arith, low)) ∙ sym r.1

-- the same as a line of elements by one
member-word : (b : BlockName) (o n : ℕ) (v : Value) → o ≤ b.size → b.size < 2 ^ 32 → moved_up b o n ≡ Some v → value2 op.Add (At b o) (Num (n % 2 ^ 32)) ≡ v
member-word b o n v low fits e =
    let r = within b (nat_le (o + n) b.size) (o + n) v e in
    let le = leb-true (o + n) b.size r.0 in
    address-is b (word2 op.Add o (n % 2 ^ 32)) (o + n) (omega (arith, le, fits)) le ∙ sym r.1

stepped-word : (up : Bool) (n : ℕ) (b : BlockName) (o : ℕ) (v : Value) → o ≤ b.size → b.size < 2 ^ 32 → elements_on up false n b o 1 ≡ Some v →
    value2 (up-op up) (At b o) (Num (n % 2 ^ 32)) ≡ v
stepped-word true n b o v low fits e = member-word b o n v low fits (sym (ap (moved_up b o) one) ∙ e)
  where
    one : 1 * n ≡ n
    one = omega arith
stepped-word false n b o v low fits e =
    let r = within b (nat_le (1 * n) o) (o - 1 * n) v e in
    let le = leb-true (1 * n) o r.0 in
    address-is b (word2 op.Sub o (n % 2 ^ 32)) (o - 1 * n) (omega (arith, le, low, fits)) (omega (arith, low)) ∙ sym r.1

module _ (w : Direction) (d : Context) (f : Frame) (flow : Flow) (c : IsSoundContext d) (xs : List Datum) (o : Outputs) (t : IsSoundRun xs o) (s : Point) (q : State)
    (h : Holds f flow (read xs o) s.next s.carried q) where
  pub carried-sound : (p : Origin) (v : Value) → read xs o p ≡ val v → IsSound v
  carried-sound p v e = subst IsSoundDatum e (read-sound xs o t p)

  -- a pointer moved by an integer
  moved-line : (k : Op2) (p i : Origin) (n : ℕ) (v : Value) (a : ℕ) → read xs o p ≡ val v → IsBelow s.next p → read xs o i ≡ val (Num a) → IsBelow s.next i →
      Simulates w d (Line f flow q (value2 k v (Num (word2 op.Mul a (n % 2 ^ 32))))) xs o s.next (moved_made k p i n s) (Returned tt [])
  moved-line k p i n v a e below e' below' =
      line-then w d f flow c (Line f flow q (value2 k v (Num x))) xs o s.next t first (λ z u. bind (bin_made op.Mul i z u) (λ m y. bin_made k p m y)) q (Num (n % 2 ^ 32)) (Returned tt [])
      (const-line w d f flow xs o s q h n) (λ o' t' r.
      line-then w d f flow c (Line f flow q (value2 k v (Num x))) xs o' (suc s.next) t' second (λ m y. bin_made k p m y) q (Num x) (Returned tt [])
      (bin-line w d f flow xs o' first.after q r.post.0 op.Mul i (Out s.next 0) (Num a) (Num (n % 2 ^ 32))
      (read-after (Line f flow q (Num (n % 2 ^ 32))) xs o s.next first tt o' r i below' (val (Num a)) e')
      (held-is (read xs o') (suc s.next) (Num (n % 2 ^ 32)) (Out s.next 0) tt r.post.1)) (λ o'' t'' r'.
      bin-line w d f flow xs o'' second.after q r'.post.0 k p (Out (suc s.next) 0) v (Num x)
      (read-after (Line f flow q (Num x)) xs o' (suc s.next) second tt o'' r' p (below-later s.next (suc s.next) p (omega arith) below) (val v)
      (read-after (Line f flow q (Num (n % 2 ^ 32))) xs o s.next first tt o' r p below (val v) e))
      (held-is (read xs o'') (suc (suc s.next)) (Num x) (Out (suc s.next) 0) tt r'.post.1)))
    where
      x : ℕ
      x = word2 op.Mul a (n % 2 ^ 32)

      first : Built Origin
      first = const_made n s

      second : Built Origin
      second = bin_made op.Mul i (Out s.next 0) first.after

  pub pointer-moved-line : (up : Bool) (n : ℕ) (u : TypeTree) (p i : Origin) (a b v : Value) → Held (read xs o) s.next a p → Held (read xs o) s.next b i →
      pointer_moved up n u a b q.memory ≡ Some v → Simulates w d (Line f flow q v) xs o s.next (moved_made (up-op up) p i n s) (Returned tt [])
  pointer-moved-line up n u p i (At b x) (Num a) v g g' z = by (is_live_address (At b x) q.memory) z
    where
      e : read xs o p ≡ val (At b x)
      e = held-is (read xs o) s.next (At b x) p tt g

      e' : read xs o i ≡ val (Num a)
      e' = held-is (read xs o) s.next (Num a) i tt g'

      by : (live : Bool) → cond live (elements_on up (is_unsigned u) n b x a) None ≡ Some v → Simulates w d (Line f flow q v) xs o s.next (moved_made (up-op up) p i n s) (Returned tt [])
      by true z =
          subst (λ y. Simulates w d (Line f flow q y) xs o s.next (moved_made (up-op up) p i n s) (Returned tt []))
          (elements-word up (is_unsigned u) n b x a v (carried-sound i (Num a) e') (carried-sound p (At b x) e).0 (carried-sound p (At b x) e).1 z)
          (moved-line (up-op up) p i n (At b x) a e g.below e' g'.below)
      by false z = absurd cc
  pointer-moved-line up n u p i _ _ v g g' z = absurd cc

  pub pointer-moved-sim : (up : Bool) (n : ℕ) (u : TypeTree) (p i : Origin) (a b : Value) → Held (read xs o) s.next a p → Held (read xs o) s.next b i →
      Simulates w d (Values f flow) xs o s.next (moved_made (up-op up) p i n s) (on_defined (pointer_moved up n u a b q.memory) (gives q))
  pointer-moved-sim up n u p i a b g g' =
      defined-line w d f flow xs o s.next (moved_made (up-op up) p i n s) q (pointer_moved up n u a b q.memory) (λ v z. pointer-moved-line up n u p i a b v g g' z)

  -- the address of a member
  pub member-line : (p : Origin) (a : Value) (n : ℕ) (v : Value) → Held (read xs o) s.next a p → member_address a n q.memory ≡ Some v →
      Simulates w d (Line f flow q v) xs o s.next (at_offset_made p n s) (Returned tt [])
  member-line p (At b x) n v g z = by (is_live_address (At b x) q.memory) z
    where
      e : read xs o p ≡ val (At b x)
      e = held-is (read xs o) s.next (At b x) p tt g

      by : (live : Bool) → cond live (moved_up b x n) None ≡ Some v → Simulates w d (Line f flow q v) xs o s.next (at_offset_made p n s) (Returned tt [])
      by true z =
          subst (λ y. Simulates w d (Line f flow q y) xs o s.next (at_offset_made p n s) (Returned tt []))
          (member-word b x n v (carried-sound p (At b x) e).0 (carried-sound p (At b x) e).1 z)
          (with-const w d f flow c xs o t s q h n (λ y u. bin_made op.Add p y u) (value2 op.Add (At b x) (Num (n % 2 ^ 32)))
          (λ o' y e' u h' k. bin-line w d f flow xs o' u q h' op.Add p y (At b x) (Num (n % 2 ^ 32)) (k p g.below ∙ e) e'))
      by false z = absurd cc
  member-line p (Num k) n v g z = absurd cc
  member-line p Bad n v g z = absurd cc

  -- a pointer moved by one element
  pub stepped-line : (up : Bool) (u : TypeTree) (p : Origin) (a : Value) (n : ℕ) (v : Value) → is_unsigned u ≡ false → Held (read xs o) s.next a p →
      pointer_moved up n u a (Num 1) q.memory ≡ Some v → Simulates w d (Line f flow q v) xs o s.next (bind (const_made n s) (λ z y. bin_made (up-op up) p z y)) (Returned tt [])
  stepped-line up u p (At b x) n v i g z = by (is_live_address (At b x) q.memory) z
    where
      e : read xs o p ≡ val (At b x)
      e = held-is (read xs o) s.next (At b x) p tt g

      by : (live : Bool) → cond live (elements_on up (is_unsigned u) n b x 1) None ≡ Some v →
          Simulates w d (Line f flow q v) xs o s.next (bind (const_made n s) (λ z y. bin_made (up-op up) p z y)) (Returned tt [])
      by true z =
          subst (λ y. Simulates w d (Line f flow q y) xs o s.next (bind (const_made n s) (λ z y. bin_made (up-op up) p z y)) (Returned tt []))
          (stepped-word up n b x v (carried-sound p (At b x) e).0 (carried-sound p (At b x) e).1 (sym (ap (λ j. elements_on up j n b x 1) i) ∙ z))
          (with-const w d f flow c xs o t s q h n (λ y u. bin_made (up-op up) p y u) (value2 (up-op up) (At b x) (Num (n % 2 ^ 32)))
          (λ o' y e' u h' k. bin-line w d f flow xs o' u q h' (up-op up) p y (At b x) (Num (n % 2 ^ 32)) (k p g.below ∙ e) e'))
      by false z = absurd cc
  stepped-line up u p (Num k) n v i g z = absurd cc
  stepped-line up u p Bad n v i g z = absurd cc

  -- the difference of two addresses in one block, in elements
  pub difference-sim : (p r : Origin) (n : ℕ) (a b : Value) → Held (read xs o) s.next a p → Held (read xs o) s.next b r →
      Simulates w d (Values f flow) xs o s.next (difference_made p r n s) (on_defined (pointer_difference n a b q.memory) (gives q))
  difference-sim p r n (At b x) (At k y) g g' = by (same_block b k) (is_live_address (At b x) q.memory) refl
    where
      m : ℕ
      m = word2 op.Sub x y

      first : Built Origin
      first = bin_made op.Sub p r s

      sub-line : same_block b k ≡ true → Simulates w d (Line f flow q (Num m)) xs o s.next first (Returned tt [])
      sub-line one =
          subst (λ v. Simulates w d (Line f flow q v) xs o s.next first (Returned tt [])) (ap (λ z. cond z (Num m) Bad) one)
          (bin-line w d f flow xs o s q h op.Sub p r (At b x) (At k y) (held-is (read xs o) s.next (At b x) p tt g) (held-is (read xs o) s.next (At k y) r tt g'))

      by : (one live : Bool) → same_block b k ≡ one →
          Simulates w d (Values f flow) xs o s.next (difference_made p r n s) (on_defined (cond (one && live) (Some (Num (word2 op.Div m (n % 2 ^ 32)))) None) (gives q))
      by true true one =
          of-line w d f flow xs o s.next (difference_made p r n s) q (Num (word2 op.Div m (n % 2 ^ 32)))
          (line-then w d f flow c (Line f flow q (Num (word2 op.Div m (n % 2 ^ 32)))) xs o s.next t first (λ z u. bind (const_made n u) (λ y v. bin_made op.Div z y v)) q (Num m) (Returned tt [])
          (sub-line one) (λ o' t' j.
          with-const w d f flow c xs o' t' first.after q j.post.0 n (λ y v. bin_made op.Div (Out s.next 0) y v) (Num (word2 op.Div m (n % 2 ^ 32)))
          (λ o'' y e u h' keep.
          bin-line w d f flow xs o'' u q h' op.Div (Out s.next 0) y (Num m) (Num (n % 2 ^ 32))
          (keep (Out s.next 0) (omega arith) ∙ held-is (read xs o') (suc s.next) (Num m) (Out s.next 0) tt j.post.1) e)))
      by true false one = tt
      by false live one = tt
  difference-sim p r n _ _ g g' = tt
