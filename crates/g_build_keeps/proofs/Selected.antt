-- The number of the segment of a `switch`, and `from`, as they are made.
use Rattle.std.proofs.Common.{ℕ, ◌%◌, ◌^◌, List, [], ◌∷◌, ◌++◌, arith}
use Rattle.std.specs.Prelude.{Bool, true, false}
use Rattle.val_core.specs.declared.values.Value.TheVariants.{Num}
use Rattle.val_core.specs.declared.operation.Op2.TheVariants as op
use Rattle.val_core.specs.Words.{word2}
use Rattle.val_core.specs.Refinement.{Direction}
use Rattle.val_core.specs.Answers.{Returned}
use Rattle.c_mean.specs.State.{State}
use Rattle.c_mean.specs.Statements.{Flow, normal}
use Rattle.g_graph.specs.declared.op.Origin.{Origin}
use Rattle.g_build_def.specs.Writer.{hidden, Point, pushed, Built, given, nothing, bind}
use Rattle.g_build_def.specs.Operations.{const_made, bin_made}
use Rattle.g_build_def.specs.Switch.{Label, word_difference, moved_where, Selected, labels_made, segment_made, groups_moved, from_made}
use Rattle.g_mean.specs.Data.{Datum}
use Rattle.g_mean.specs.Meaning.{Context, Outputs, read as read_origin}
use Rattle.g_build_keeps.proofs.Readings.{below-later, IsSoundContext, IsSoundRun}
use Rattle.g_build_keeps.proofs.Toolbox.{Post, Ran, Simulates, sim-given, sim-bind}
use Rattle.g_build_keeps.proofs.Held.{Held, held-is, Frame, Holds}
use Rattle.g_build_keeps.proofs.Nodes.{Line, read-after, line-then, const-line, bin-line}
use Rattle.g_build_keeps.proofs.Targets.{moved, summed}
use Rattle.g_build_keeps.proofs.Turns.{Stepped}
use Rattle.g_build_keeps.proofs.Declarations.{framed}
use Rattle.g_build_keeps.proofs.From.{Reads, with_from, holds-hide}

-- ---- words that are carried

pub reads-of : (rd : Origin → Datum) (n k : ℕ) (p : Origin) → Held rd n (Num k) p → Reads rd n k p
reads-of rd n k p h = (held-is rd n (Num k) p tt h, h.below)

pub reads-after : {B A : Type 0} → (Q : Post B A) (xs : List Datum) (o : Outputs) (n : ℕ) (b : Built A) (y : B) (o' : Outputs) → Ran Q xs o n b y o' → (k : ℕ) (p : Origin) →
    Reads (read_origin xs o) n k p → Reads (read_origin xs o') b.after.next k p
reads-after Q xs o n b y o' r k p h = (read-after Q xs o n b y o' r p h.1 _ h.0, below-later n b.after.next p r.rises h.1)

-- for each label whether the value is equal to its word
abbrev EqualsRead : (rd : Origin → Datum) (n : ℕ) → (value : ℕ) → List Label → List Origin → Type 0
EqualsRead rd n v [] [] = Unit {0}
EqualsRead rd n v (l ∷ ls) (q ∷ qs) = Reads rd n (word2 op.Eq v (l.word % 2 ^ 32)) q × EqualsRead rd n v ls qs
EqualsRead rd n v _ _ = ⊥

equals-after : {B A : Type 0} → (Q : Post B A) (xs : List Datum) (o : Outputs) (n : ℕ) (b : Built A) (y : B) (o' : Outputs) → Ran Q xs o n b y o' → (v : ℕ) (ls : List Label) (qs : List Origin) →
    EqualsRead (read_origin xs o) n v ls qs → EqualsRead (read_origin xs o') b.after.next v ls qs
equals-after Q xs o n b y o' r v [] [] h = tt
equals-after Q xs o n b y o' r v (l ∷ ls) (q ∷ qs) h = (reads-after Q xs o n b y o' r _ q h.0, equals-after Q xs o n b y o' r v ls qs h.1)
equals-after Q xs o n b y o' r v _ _ h = absurd h

module _ (w : Direction) (d : Context) (c : IsSoundContext d) (f : Frame) (flow : Flow) (q : State) where
  abbrev Word : ℕ → Post (Unit {0}) Origin
  Word k = Line f flow q (Num k)

  abbrev WordClaim : (k : ℕ) → (made : Point → Built Origin) → (xs : List Datum) → Outputs → Point → Type 0
  WordClaim k made xs o s = Simulates w d (Word k) xs o s.next (made s) (Returned tt [])

  moved-line : (p r : Origin) (e a b : ℕ) (xs : List Datum) (o : Outputs) → IsSoundRun xs o → (s : Point) → Holds f flow (read_origin xs o) s.next s.carried q →
      Reads (read_origin xs o) s.next b p → Reads (read_origin xs o) s.next a r → WordClaim (moved b e a) (moved_where p e r) xs o s
  moved-line p r e a b xs o t s h g g' =
      line-then w d f flow c (Word (moved b e a)) xs o s.next t first (λ k u. bind (bin_made op.Mul p k u) (λ m v. bin_made op.Add r m v)) q (Num (e % 2 ^ 32)) (Returned tt [])
      (const-line w d f flow xs o s q h e) (λ o1 t1 m1.
      line-then w d f flow c (Word (moved b e a)) xs o1 first.after.next t1 second (λ m v. bin_made op.Add r m v) q (Num (word2 op.Mul b (e % 2 ^ 32))) (Returned tt [])
      (bin-line w d f flow xs o1 first.after q m1.post.0 op.Mul p first.value (Num b) (Num (e % 2 ^ 32)) (reads-after (Word (e % 2 ^ 32)) xs o s.next first tt o1 m1 b p g).0
      (reads-of (read_origin xs o1) first.after.next (e % 2 ^ 32) first.value m1.post.1).0) (λ o2 t2 m2.
      bin-line w d f flow xs o2 second.after q m2.post.0 op.Add r second.value (Num a) (Num (word2 op.Mul b (e % 2 ^ 32)))
      (reads-after (Word (word2 op.Mul b (e % 2 ^ 32))) xs o1 first.after.next second tt o2 m2 a r (reads-after (Word (e % 2 ^ 32)) xs o s.next first tt o1 m1 a r g')).0
      (reads-of (read_origin xs o2) second.after.next (word2 op.Mul b (e % 2 ^ 32)) second.value m2.post.1).0))
    where
      first : Built Origin
      first = const_made e s

      second : Built Origin
      second = bin_made op.Mul p first.value first.after

  -- the number of the segment, and what says which labels are equal to the value
  abbrev pub Selects : (value number : ℕ) → List Label → Post (Unit {0}) Selected
  Selects v k ls _ rd t x = Holds f flow rd t.next t.carried q × Reads rd t.next k x.number × EqualsRead rd t.next v ls x.equals

  labels-sim : (p : Origin) (v e : ℕ) (ls : List Label) (r : Origin) (a : ℕ) (xs : List Datum) (o : Outputs) → IsSoundRun xs o → (s : Point) → Holds f flow (read_origin xs o) s.next s.carried q →
      Reads (read_origin xs o) s.next v p → Reads (read_origin xs o) s.next a r →
      Simulates w d (Selects v (summed v e (λ t. t.segment) a ls) ls) xs o s.next (labels_made p e ls r s) (Returned tt [])
  labels-sim p v e [] r a xs o t s h g g' = sim-given w d (Selects v a []) xs o s.next (record { number = r; equals = [] }) s tt (omega arith) (h, g', tt)
  labels-sim p v e (l ∷ ls) r a xs o t s h g g' =
      line-then w d f flow c Goal xs o s.next t first
      (λ k u. bind (bin_made op.Eq p k u) (λ y u. bind (moved_where y (word_difference l.target.segment e) r u)
      (λ m v. bind (labels_made p e ls m v) (λ x z. given (record { number = x.number; equals = y ∷ x.equals }) z))))
      q (Num (l.word % 2 ^ 32)) (Returned tt []) (const-line w d f flow xs o s q h l.word) (λ o1 t1 m1.
      let p1 = reads-after (Word (l.word % 2 ^ 32)) xs o s.next first tt o1 m1 v p g in
      let r1 = reads-after (Word (l.word % 2 ^ 32)) xs o s.next first tt o1 m1 a r g' in
      line-then w d f flow c Goal xs o1 first.after.next t1 second
      (λ y u. bind (moved_where y (word_difference l.target.segment e) r u) (λ m v. bind (labels_made p e ls m v) (λ x z. given (record { number = x.number; equals = y ∷ x.equals }) z)))
      q (Num equal) (Returned tt [])
      (bin-line w d f flow xs o1 first.after q m1.post.0 op.Eq p first.value (Num v) (Num (l.word % 2 ^ 32)) p1.0
      (reads-of (read_origin xs o1) first.after.next (l.word % 2 ^ 32) first.value m1.post.1).0) (λ o2 t2 m2.
      let p2 = reads-after (Word equal) xs o1 first.after.next second tt o2 m2 v p p1 in
      let r2 = reads-after (Word equal) xs o1 first.after.next second tt o2 m2 a r r1 in
      let y2 = reads-of (read_origin xs o2) second.after.next equal second.value m2.post.1 in
      line-then w d f flow c Goal xs o2 second.after.next t2 third (λ m v. bind (labels_made p e ls m v) (λ x z. given (record { number = x.number; equals = second.value ∷ x.equals }) z))
      q (Num number) (Returned tt []) (moved-line second.value r (word_difference l.target.segment e) a equal xs o2 t2 second.after m2.post.0 y2 r2) (λ o3 t3 m3.
      let p3 = reads-after (Word number) xs o2 second.after.next third tt o3 m3 v p p2 in
      let y3 = reads-after (Word number) xs o2 second.after.next third tt o3 m3 equal second.value y2 in
      sim-bind w d c (Selects v (summed v e (λ t. t.segment) number ls) ls) Goal xs o3 third.after.next t3 last (λ x z. given (record { number = x.number; equals = second.value ∷ x.equals }) z)
      (Returned tt []) (λ _. Returned tt [])
      (labels-sim p v e ls third.value number xs o3 t3 third.after m3.post.0 p3 (reads-of (read_origin xs o3) third.after.next number third.value m3.post.1)) (λ _ o4 t4 m4.
      let y4 = reads-after (Selects v (summed v e (λ t. t.segment) number ls) ls) xs o3 third.after.next last tt o4 m4 equal second.value y3 in
      sim-given w d Goal xs o4 last.after.next (record { number = last.value.number; equals = second.value ∷ last.value.equals }) last.after tt (omega arith)
      (m4.post.0, m4.post.1, (y4, m4.post.2))))))
    where
      equal : ℕ
      equal = word2 op.Eq v (l.word % 2 ^ 32)

      number : ℕ
      number = moved equal (word_difference l.target.segment e) a

      Goal : Post (Unit {0}) Selected
      Goal = Selects v (summed v e (λ t. t.segment) a (l ∷ ls)) (l ∷ ls)

      first : Built Origin
      first = const_made l.word s

      second : Built Origin
      second = bin_made op.Eq p first.value first.after

      third : Built Origin
      third = moved_where second.value (word_difference l.target.segment e) r second.after

      last : Built Selected
      last = labels_made p e ls third.value third.after

  pub segment-sim : (p : Origin) (v e : ℕ) (ls : List Label) (xs : List Datum) (o : Outputs) → IsSoundRun xs o → (s : Point) → Holds f flow (read_origin xs o) s.next s.carried q →
      Reads (read_origin xs o) s.next v p →
      Simulates w d (Selects v (summed v e (λ t. t.segment) (e % 2 ^ 32) ls) ls) xs o s.next (segment_made p e ls s) (Returned tt [])
  segment-sim p v e ls xs o t s h g =
      line-then w d f flow c (Selects v (summed v e (λ t. t.segment) (e % 2 ^ 32) ls) ls) xs o s.next t first (λ n u. labels_made p e ls n u) q (Num (e % 2 ^ 32)) (Returned tt [])
      (const-line w d f flow xs o s q h e) (λ o1 t1 m1.
      labels-sim p v e ls first.value (e % 2 ^ 32) xs o1 t1 first.after m1.post.0 (reads-after (Word (e % 2 ^ 32)) xs o s.next first tt o1 m1 v p g)
      (reads-of (read_origin xs o1) first.after.next (e % 2 ^ 32) first.value m1.post.1))
    where
      first : Built Origin
      first = const_made e s

  groups-sim : (v e : ℕ) (ls : List Label) (qs : List Origin) (r : Origin) (a : ℕ) (xs : List Datum) (o : Outputs) → IsSoundRun xs o → (s : Point) →
      Holds f flow (read_origin xs o) s.next s.carried q →
      EqualsRead (read_origin xs o) s.next v ls qs → Held (read_origin xs o) s.next (Num a) r → WordClaim (summed v e (λ t. t.group) a ls) (groups_moved e ls qs r) xs o s
  groups-sim v e [] [] r a xs o t s h equals g' = sim-given w d (Word a) xs o s.next r s tt (omega arith) (h, g')
  groups-sim v e (l ∷ ls) (p ∷ ps) r a xs o t s h equals g' =
      line-then w d f flow c (Word (summed v e (λ t. t.group) a (l ∷ ls))) xs o s.next t first (λ m u. groups_moved e ls ps m u) q (Num number) (Returned tt [])
      (moved-line p r (word_difference l.target.group e) a (word2 op.Eq v (l.word % 2 ^ 32)) xs o t s h equals.0 (reads-of (read_origin xs o) s.next a r g')) (λ o1 t1 m1.
      groups-sim v e ls ps first.value number xs o1 t1 first.after m1.post.0 (equals-after (Word number) xs o s.next first tt o1 m1 v ls ps equals.1) m1.post.1)
    where
      number : ℕ
      number = moved (word2 op.Eq v (l.word % 2 ^ 32)) (word_difference l.target.group e) a

      first : Built Origin
      first = moved_where p (word_difference l.target.group e) r s
  groups-sim v e [] (p ∷ ps) r a xs o t s h equals g' = absurd equals
  groups-sim v e (l ∷ ls) [] r a xs o t s h equals g' = absurd equals

-- `from` comes into scope
pub from-sim : (w : Direction) (d : Context) → IsSoundContext d → (hs : List ℕ) (n : ℕ) (m : Bool) (q : State) (several : Bool) (v e : ℕ) (ls : List Label) (qs : List Origin) (xs : List Datum)
    (o : Outputs) →
    IsSoundRun xs o → (s : Point) → Holds (framed hs n m) normal (read_origin xs o) s.next s.carried q → EqualsRead (read_origin xs o) s.next v ls qs →
    Simulates w d (Stepped (framed (with_from several hs (summed v e (λ t. t.group) (e % 2 ^ 32) ls)) n m) normal) xs o s.next (from_made several e ls qs s) (Returned q [])
from-sim w d c hs n m q false v e ls qs xs o t s h equals = sim-given w d (Stepped (framed hs n m) normal) xs o s.next tt s q (omega arith) (h, tt)
from-sim w d c hs n m q true v e ls qs xs o t s h equals =
    line-then w d (framed hs n m) normal c Goal xs o s.next t first (λ n u. bind (groups_moved e ls qs n u) (λ m v. nothing (pushed (hidden m) v))) q (Num (e % 2 ^ 32)) (Returned q [])
    (const-line w d (framed hs n m) normal xs o s q h e) (λ o1 t1 m1.
    line-then w d (framed hs n m) normal c Goal xs o1 first.after.next t1 second (λ m v. nothing (pushed (hidden m) v)) q (Num number) (Returned q [])
    (groups-sim w d c (framed hs n m) normal q v e ls qs first.value (e % 2 ^ 32) xs o1 t1 first.after m1.post.0
    (equals-after (Line (framed hs n m) normal q (Num (e % 2 ^ 32))) xs o s.next first tt o1 m1 v ls qs equals) m1.post.1)
    (λ o2 t2 m2.
    sim-given w d Goal xs o2 second.after.next tt (pushed (hidden second.value) second.after) q (omega arith)
    (holds-hide hs n m number normal (read_origin xs o2) second.after.next second.after q second.value (reads-of (read_origin xs o2) second.after.next number second.value m2.post.1) m2.post.0, tt)))
  where
    number : ℕ
    number = summed v e (λ t. t.group) (e % 2 ^ 32) ls

    Goal : Post State (Unit {0})
    Goal = Stepped (framed (hs ++ number ∷ []) n m) normal

    first : Built Origin
    first = const_made e s

    second : Built Origin
    second = groups_moved e ls qs first.value first.after
