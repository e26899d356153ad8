-- A source part and what is made of it do the same: one part after another, parts that make nothing, and one node.
use Rattle.std.proofs.Common.{◌≡◌, ◌≤◌, ℕ, List, [], refl, sym, subst, arith}
use Rattle.std.proofs.lemmas.List.{append-nil}
use Rattle.val_core.specs.Events.{Event}
use Rattle.val_core.specs.Refinement.{Direction, exactly, Refines}
use Rattle.val_core.specs.Answers.{Answer, Returned, then_on}
use Rattle.val_core.proofs.lemmas.Answers.{before-is}
use Rattle.val_core.proofs.lemmas.Refinement.{exactly-goes, refines-then, refines-change, refines-less-goes}
use Rattle.g_graph.specs.declared.op.Op.{Op}
use Rattle.g_graph.specs.declared.op.Origin.{Origin}
use Rattle.g_graph.specs.Plain.{node, nodes_of, no_regions}
use Rattle.g_build_def.specs.Writer.{Point, with_states, Built, given, bind, one_node}
use Rattle.g_mean.specs.Data.{Datum}
use Rattle.g_mean.specs.Meaning.{Context, Outputs, extended, read, node_run, nodes_run}
use Rattle.g_mean.proofs.lemmas.Bounds.{nodes_in_turn}
use Rattle.g_build_keeps.proofs.Readings.{Stay, stay-then, extended-stay, IsSoundContext, AreSoundOutputs, IsSoundRun, nodes-sound, refines-far-gives}

-- how a source result relates to what origins carry, to the point after a part, and to what the part gives
abbrev pub Post : (B A : Type 0) → Type 1
Post B A = B → (Origin → Datum) → Point → A → Type 0

-- The nodes of a part, which begins at this number, have run.
pub record Ran {B A : Type 0} (Q : Post B A) (xs : List Datum) (o : Outputs) (next : ℕ) (b : Built A) (y : B) (o' : Outputs) : Type 0 where
  pub rises : next ≤ b.after.next
  pub stay : Stay next o o'
  pub post : Q y (read xs o') b.after b.value

module _ (w : Direction) (d : Context) where
  -- the source part of this answer, and the nodes of what is made of it
  abbrev pub Simulates : {B A : Type 0} → Post B A → (xs : List Datum) → Outputs → (next : ℕ) → Built A → Answer B → Type 0
  Simulates Q xs o n b a = Refines exactly w (Ran Q xs o n b) a (nodes_run d (nodes_of b.nodes) xs o)

  pub sim-change : {B A : Type 0} → (Q S : Post B A) (xs : List Datum) (o : Outputs) (n : ℕ) (b : Built A) (a : Answer B) →
      ((y : B) (o' : Outputs) → Ran Q xs o n b y o' → S y (read xs o') b.after b.value) → Simulates Q xs o n b a → Simulates S xs o n b a
  sim-change Q S xs o n b a more h =
      refines-change exactly w (Ran Q xs o n b) (Ran S xs o n b) a (nodes_run d (nodes_of b.nodes) xs o)
      (λ y o' r. record { rises = r.rises; stay = r.stay; post = more y o' r }) h

  -- the source goes on without doing anything
  pub sim-goes : {B C A : Type 0} → (Q : Post B A) (S : Post C A) (xs : List Datum) (o : Outputs) (n : ℕ) (b : Built A) (a : Answer B) (f : B → C) →
      ((y : B) (o' : Outputs) → Ran Q xs o n b y o' → S (f y) (read xs o') b.after b.value) → Simulates Q xs o n b a → Simulates S xs o n b (then_on a (λ y. Returned (f y) []))
  sim-goes Q S xs o n b a f more h =
      refines-less-goes exactly exactly-goes w (Ran Q xs o n b) (Ran S xs o n b) a (nodes_run d (nodes_of b.nodes) xs o) f h
      (λ y o' r. record { rises = r.rises; stay = r.stay; post = more y o' r })

  -- a part that makes no node
  pub sim-given : {B A : Type 0} → (Q : Post B A) (xs : List Datum) (o : Outputs) (n : ℕ) (v : A) (t : Point) (y : B) → n ≤ t.next → Q y (read xs o) t v →
      Simulates Q xs o n (given v t) (Returned y [])
  sim-given Q xs o n v t y h q = (record { rises = h; stay = λ id port below. refl; post = q }, refl)

  -- a node without regions
  pub sim-node : {B A : Type 0} → (Q : Post B A) (xs : List Datum) (o : Outputs) (s : Point) (op : Op) (inputs : List Origin) (v : A) (m i : Origin) (y : B) (ys : List Datum) (did : List Event) →
      node_run d (node s.next op inputs no_regions) xs o ≡ Returned ys did → Q y (read xs (extended o s.next ys)) (with_states s m i) v →
      Simulates Q xs o s.next (one_node s op inputs v m i) (Returned y did)
  sim-node {B} {A} Q xs o s op inputs v m i y ys did run q =
      subst (λ a. Refines exactly w (Ran Q xs o s.next b) (Returned y did) (then_on a (λ us. Returned (extended o s.next us) []))) (sym run)
      (subst (λ a. Refines exactly w (Ran Q xs o s.next b) (Returned y did) a) (sym (before-is did (Returned (extended o s.next ys) [])))
      (record { rises = omega arith; stay = extended-stay o s.next ys; post = q }, sym (append-nil did)))
    where
      b : Built A
      b = one_node s op inputs v m i

  -- one part after another
  pub sim-bind : IsSoundContext d → {B A D C : Type 0} → (Q : Post B A) (S : Post D C) (xs : List Datum) (o : Outputs) (n : ℕ) → IsSoundRun xs o → (a : Built A) (k : A → Point → Built C)
      (x : Answer B) (next : B → Answer D) → Simulates Q xs o n a x →
      ((y : B) (o' : Outputs) → IsSoundRun xs o' → Ran Q xs o n a y o' → Simulates S xs o' a.after.next (k a.value a.after) (next y)) →
      Simulates S xs o n (bind a k) (then_on x next)
  sim-bind c {B} {A} {D} {C} Q S xs o n s a k x next h go =
      subst (λ z. Refines exactly w (Ran S xs o n (bind a k)) (then_on x next) z) (sym (nodes_in_turn d a.nodes b.nodes xs o))
      (refines-then exactly exactly-goes (λ y o'. Ran Q xs o n a y o' × AreSoundOutputs o') (Ran S xs o n (bind a k)) w x (nodes_run d (nodes_of a.nodes) xs o) next (nodes_run d (nodes_of b.nodes) xs)
      (refines-far-gives w AreSoundOutputs (Ran Q xs o n a) x (nodes_run d (nodes_of a.nodes) xs o) (nodes-sound d c (nodes_of a.nodes) xs o s) h) after)
    where
      b : Built C
      b = k a.value a.after

      after : (y : B) (o' : Outputs) → Ran Q xs o n a y o' × AreSoundOutputs o' → Refines exactly w (Ran S xs o n (bind a k)) (next y) (nodes_run d (nodes_of b.nodes) xs o')
      after y o' r =
          refines-change exactly w (Ran S xs o' a.after.next b) (Ran S xs o n (bind a k)) (next y) (nodes_run d (nodes_of b.nodes) xs o') (λ z o'' t.
          let up : n ≤ a.after.next = r.0.rises in
          let more : a.after.next ≤ b.after.next = t.rises in
          record { rises = omega (arith, up, more); stay = stay-then n a.after.next o o' o'' up r.0.stay t.stay; post = t.post })
          (go y o' (record { args = s.args; outputs = r.1 }) r.0)
