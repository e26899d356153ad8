-- Statements without loops, from what is claimed of their parts: jumps, choices, and what follows a statement.
use Rattle.std.proofs.Common.{◌≡◌, ◌≤◌, ℕ, zero, suc, List, [], ◌∷◌, map, refl, sym, subst, arith}
use Rattle.std.specs.Prelude.{Bool, true, false}
use Rattle.val_core.specs.declared.values.Value.TheVariants.{Num}
use Rattle.val_core.specs.Refinement.{Direction, exactly}
use Rattle.val_core.specs.Answers.{Answer, Gives}
use Rattle.val_core.proofs.lemmas.Refinement.{refines-gives, refines-change}
use Rattle.c_mean.specs.State.{State}
use Rattle.c_mean.specs.Statements.{Flow, normal, broke, continued, Flowed}
use Rattle.c_mean.specs.Run.{value_at_end}
use Rattle.g_graph.specs.declared.op.Origin.{Origin}
use Rattle.g_graph.specs.declared.op.Origin.TheVariants.{Arg}
use Rattle.g_graph.specs.Plain.{nodes_of}
use Rattle.g_build_def.specs.Writer.{Form, straight, jumping, Carried, Point, with_go_and_ret, Built, Extra, inside, Regions, regions_made, exchanged, choice_one_first, carried_origins}
use Rattle.g_build_def.specs.Laws.{Later}
use Rattle.g_build_def.proofs.lemmas.Later.{Keeps, form_renamed}
use Rattle.g_build_keeps.proofs.lemmas.Exits.{MayJump}
use Rattle.g_mean.specs.Data.{Datum, val}
use Rattle.g_mean.specs.Meaning.{Context, Outputs, no_outputs, read as read_origin, nodes_run}
use Rattle.g_build_keeps.proofs.Readings.{IsSoundRun}
use Rattle.g_build_keeps.proofs.Toolbox.{Post, Ran, Simulates}
use Rattle.g_build_keeps.proofs.Held.{JumpsHeld, Frame, Holds}
use Rattle.g_build_keeps.proofs.Renamed.{holds-inside, inside-sound}
use Rattle.g_build_keeps.proofs.Choice.{After, Nothing, ExtraGives, Gift, picked, gamma-sim}

-- The state after a statement is held after its flow.
abbrev pub Flows : Frame → Post Flowed (Unit {0})
Flows f = After f (λ x. x.flow) (λ x. x.state) Nothing

-- ---- jumps

-- what the function gives is the same after a jump within it
pub jump-left-same : (is_main : Bool) → (value_at_end is_main broke ≡ value_at_end is_main normal) × (value_at_end is_main continued ≡ value_at_end is_main normal)
jump-left-same true = (refl, refl)
jump-left-same false = (refl, refl)

-- `go` and `ret` where the function has them
pub jumps-of : (rd : Origin → Datum) (n : ℕ) (is_main : Bool) (flow : Flow) (form : Form) (g r : Origin) → form ≡ jumping → JumpsHeld rd n is_main flow form g r →
    JumpsHeld rd n is_main flow jumping g r
jumps-of rd n is_main flow form g r e h = subst (λ x. JumpsHeld rd n is_main flow x g r) e h

pub holds-jump : (f : Frame) (now flow : Flow) (rd : Origin → Datum) (n : ℕ) (t : Point) (q : State) (g r : Origin) → t.carried.form ≡ jumping → Holds f now rd n t.carried q →
    JumpsHeld rd n f.is_main flow jumping g r → Holds f flow rd n (with_go_and_ret t g r).carried q
holds-jump f now flow rd n t q g r e h j =
    record {
      slots = h.slots;
      count = h.count;
      jumps = subst (λ x. JumpsHeld rd n f.is_main flow x g r) (sym e) j;
      memory = h.memory;
      memory_below = h.memory_below;
      io = h.io;
      io_below = h.io_below;
    }

-- a form that may jump, where something jumps
pub jumping-form : (form : Form) (b : Bool) → MayJump form b → b ≡ true → form ≡ jumping
jumping-form jumping b h e = refl
jumping-form straight b h e = absurd cc

pub may-later : (s t : Point) (b : Bool) → Later s t → MayJump s.carried.form b → MayJump t.carried.form b
may-later s t b l h = subst (λ x. MayJump x b) (sym l.form) h

pub may-inside : (k : Carried) (n : ℕ) (b : Bool) → MayJump k.form b → MayJump (inside k n).carried.form b
may-inside k n b h = subst (λ x. MayJump x b) (sym (form_renamed k Arg)) h

module _ (w : Direction) (d : Context) (f : Frame) where
  -- a fact of the source's results, added
  pub sim-gives : {B A : Type 0} → (P : B → Type 0) (Q : Post B A) (xs : List Datum) (o : Outputs) (n : ℕ) (b : Built A) (a : Answer B) → Gives P a → Simulates w d Q xs o n b a →
      Simulates w d (λ y rd t v. P y × Q y rd t v) xs o n b a
  sim-gives P Q xs o n b a k h =
      refines-change exactly w (λ y o'. P y × Ran Q xs o n b y o') (Ran (λ y rd t v. P y × Q y rd t v) xs o n b) a (nodes_run d (nodes_of b.nodes) xs o)
      (λ y o' r. record { rises = r.1.rises; stay = r.1.stay; post = (r.0, r.1.post) }) (refines-gives exactly w P (Ran Q xs o n b) a (nodes_run d (nodes_of b.nodes) xs o) k h)

  -- a choice whose region 1 gets its numbers first
  pub one-first-sim : {B A : Type 0} → (flow : B → Flow) (state : B → State) (V W : Gift B A) (x : Extra A) (xs : List Datum) (o : Outputs) → IsSoundRun xs o → (s : Point) (p : Origin) (j : ℕ)
      (g0 g1 : Point → Built A) (a : Answer B) (now : Flow) (q : State) → ExtraGives x xs o s.next V W → read_origin xs o p ≡ val (Num j) → Keeps g0 → Keeps g1 →
      Holds f now (read_origin xs o) s.next s.carried q →
      ((us : List Datum) (n : ℕ) → IsSoundRun us no_outputs → Holds f now (read_origin us no_outputs) n (inside s.carried n).carried q →
      Simulates w d (After f flow state V) us no_outputs n (picked j g0 g1 (inside s.carried n)) a) →
      Simulates w d (After f flow state W) xs o s.next (choice_one_first x s p g0 g1) a
  one-first-sim {B} {A} flow state V W x xs o t s p j g0 g1 a now q fits e k0 k1 h go = by j e go
    where
      us : List Datum
      us = map (read_origin xs o) (carried_origins s.carried)

      r : Regions
      r = let m = regions_made x s.carried (suc s.next) (g1 ∷ g0 ∷ []) in record { regions = exchanged m.regions; next = m.next }

      second : ℕ
      second = (g1 (inside s.carried (suc s.next))).after.next

      low : suc s.next ≤ second
      low = (k1 (inside s.carried (suc s.next))).next

      up : suc s.next ≤ r.next
      up = let more : second ≤ r.next = (k0 (inside s.carried second)).next in omega (arith, low, more)

      sound : IsSoundRun us no_outputs
      sound = inside-sound xs o t (carried_origins s.carried)

      begun : (n : ℕ) → Holds f now (read_origin us no_outputs) n (inside s.carried n).carried q
      begun n = holds-inside f now (read_origin xs o) s.next n s.carried q h

      by : (i : ℕ) → read_origin xs o p ≡ val (Num i) →
          ((us : List Datum) (n : ℕ) → IsSoundRun us no_outputs → Holds f now (read_origin us no_outputs) n (inside s.carried n).carried q →
          Simulates w d (After f flow state V) us no_outputs n (picked i g0 g1 (inside s.carried n)) a) →
          Simulates w d (After f flow state W) xs o s.next (choice_one_first x s p g0 g1) a
      by zero e go =
          gamma-sim w d f flow state V W x xs o s p r second 0 g0 a fits e up (omega (arith, low)) k0 (λ us. refl) (go us second sound (begun second))
      by (suc i) e go =
          gamma-sim w d f flow state V W x xs o s p r (suc s.next) (suc i) g1 a fits e up (omega arith) k1 (λ us. refl) (go us (suc s.next) sound (begun (suc s.next)))
