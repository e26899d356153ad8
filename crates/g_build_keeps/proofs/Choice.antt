-- A choice between two regions: the one that the predicate picks does what the source does.
use Rattle.std.proofs.Common.{◌≡◌, ◌≤◌, ◌<◌, ℕ, zero, suc, List, [], ◌∷◌, ◌++◌, map, refl, sym, ap, ◌∙◌, subst, arith}
use Rattle.val_core.specs.declared.values.Value.{Value}
use Rattle.val_core.specs.declared.values.Value.TheVariants.{Num, Bad}
use Rattle.val_core.specs.Refinement.{Direction, exactly, Refines}
use Rattle.val_core.specs.Answers.{Answer, on_number}
use Rattle.val_core.proofs.lemmas.Refinement.{exactly-goes, refines-far-goes}
use Rattle.c_mean.specs.State.{State}
use Rattle.c_mean.specs.Statements.{Flow}
use Rattle.g_graph.specs.declared.op.Op.TheVariants.{Gamma}
use Rattle.g_graph.specs.declared.op.Origin.{Origin}
use Rattle.g_graph.specs.declared.op.Origin.TheVariants.{Arg, Out}
use Rattle.g_graph.specs.Plain.{node, nodes_of, regions_of}
use Rattle.g_build_def.specs.Writer.{Carried, carried_origins, Point, Built, Extra, no_value, one_value, void_value, inside, region_made, Regions, regions_made, gamma, choice}
use Rattle.g_build_def.specs.Laws.{Later}
use Rattle.g_build_def.proofs.lemmas.Later.{Keeps, later_then, renamed_later}
use Rattle.g_mean.specs.Data.{Datum, val, at_port, value_of}
use Rattle.g_mean.specs.Meaning.{Context, chosen, Outputs, no_outputs, extended, read, region_meaning, node_run, nodes_run, meanings}
use Rattle.g_build_keeps.proofs.Readings.{stay-keeps, extended-here, extended-stay, IsSoundRun}
use Rattle.g_build_keeps.proofs.Toolbox.{Post, Ran, Simulates}
use Rattle.g_build_keeps.proofs.Held.{Held, held-later, Frame, Holds}
use Rattle.g_build_keeps.proofs.Renamed.{renamed-same, holds-renamed, holds-inside, inside-sound}

-- what a part gives besides the state after it
abbrev pub Gift : (B A : Type 0) → Type 1
Gift B A = B → (Origin → Datum) → (next : ℕ) → A → Type 0

-- The state after a part is held after its flow, and so is what it gives.
abbrev pub After : {B A : Type 0} → Frame → (flow : B → Flow) → (state : B → State) → Gift B A → Post B A
After f flow state V y rd t v = Holds f (flow y) rd t.next t.carried (state y) × V y rd t.next v

-- What a region gives before the carried variables is `V`, and what its node then gives is `W`.
pub record ExtraGives {B A : Type 0} (x : Extra A) (xs : List Datum) (o : Outputs) (id : ℕ) (V W : Gift B A) : Type 0 where
  pub ports : (rd : Origin → Datum) (v : A) (rest : List Origin) (j : ℕ) → at_port (map rd (x.results v ++ rest)) (x.port j) ≡ at_port (map rd rest) j
  pub value : (y : B) (rd : Origin → Datum) (n m : ℕ) (v : A) (rest : List Origin) → id < m → V y rd n v → W y (read xs (extended o id (map rd (x.results v ++ rest)))) m (x.value id)

abbrev pub Nothing : {B : Type 0} → Gift B (Unit {0})
Nothing y rd n v = Unit {0}

pub no_value-gives : {B : Type 0} → (xs : List Datum) (o : Outputs) (id : ℕ) → ExtraGives no_value xs o id (Nothing {B = B}) Nothing
no_value-gives xs o id = record { ports = λ rd v rest j. refl; value = λ y rd n m v rest less h. tt }

abbrev pub OneValue : {B : Type 0} → (B → Value) → Gift B Origin
OneValue value y rd n p = Held rd n (value y) p

pub one_value-gives : {B : Type 0} → (value : B → Value) (xs : List Datum) (o : Outputs) (id : ℕ) → ExtraGives one_value xs o id (OneValue value) (OneValue value)
one_value-gives value xs o id =
    record {
      ports = λ rd v rest j. refl;
      value = λ y rd n m v rest less h.
          record { far = h.far; is = extended-here o id (map rd (v ∷ rest)) 0 ∙ h.is; less = h.less; below = less };
    }

-- an origin that carries some value stands for none
pub void_value-gives : {B : Type 0} → (value : B → Value) → ((y : B) → value y ≡ Bad) → (xs : List Datum) (o : Outputs) (id : ℕ) (p : Origin) → Held (read xs o) id Bad p →
    ExtraGives (void_value p) xs o id (OneValue value) (OneValue value)
void_value-gives value none xs o id p held =
    record {
      ports = λ rd v rest j. refl;
      value = λ y rd n m v rest less h.
          subst (λ u. Held (read xs (extended o id (map rd rest))) m u p) (sym (none y))
          (held-later (read xs o) (read xs (extended o id (map rd rest))) id m Bad p (stay-keeps id xs o (extended o id (map rd rest)) (extended-stay o id (map rd rest))) (omega (arith, less)) held);
    }

-- a region has run, and this is what it gives
record Gave {B A : Type 0} (Q : Post B A) (x : Extra A) (us : List Datum) (n : ℕ) (b : Built A) (y : B) (ys : List Datum) : Type 0 where
  outputs : Outputs
  ran : Ran Q us no_outputs n b y outputs
  is : ys ≡ map (read us outputs) (x.results b.value ++ carried_origins b.after.carried)

-- the region of two that a number picks
abbrev pub picked : {A : Type 0} → ℕ → (first second : A) → A
picked zero a b = a
picked (suc n) a b = b

module _ (w : Direction) (d : Context) (f : Frame) where
  region-sim : {B A : Type 0} → (Q : Post B A) (x : Extra A) (k : Carried) (us : List Datum) (n : ℕ) (b : Built A) (a : Answer B) → Simulates w d Q us no_outputs n b a →
      Refines exactly w (Gave Q x us n b) a (region_meaning d (region_made x k b) us)
  region-sim Q x k us n b a h =
      refines-far-goes exactly exactly-goes w (Ran Q us no_outputs n b) (Gave Q x us n b) a (nodes_run d (nodes_of b.nodes) us no_outputs)
      (λ o. map (read us o) (x.results b.value ++ carried_origins b.after.carried)) h (λ y o r. record { outputs = o; ran = r; is = refl })

  -- a Gamma of which one region is known
  pub gamma-sim : {B A : Type 0} → (flow : B → Flow) (state : B → State) (V W : Gift B A) (x : Extra A) (xs : List Datum) (o : Outputs) (s : Point) (p : Origin) (r : Regions) (n j : ℕ)
      (g : Point → Built A)
      (a : Answer B) → ExtraGives x xs o s.next V W → read xs o p ≡ val (Num j) → suc s.next ≤ r.next → s.next ≤ n → Keeps g →
      ((us : List Datum) → chosen j (meanings d (regions_of r.regions)) us ≡ region_meaning d (region_made x s.carried (g (inside s.carried n))) us) →
      Simulates w d (After f flow state V) (map (read xs o) (carried_origins s.carried)) no_outputs n (g (inside s.carried n)) a →
      Simulates w d (After f flow state W) xs o s.next (gamma x s p r) a
  gamma-sim {B} {A} flow state V W x xs o s p r n j g a fits e up low keeps pick h =
      refines-far-goes exactly exactly-goes w (Gave (After f flow state V) x us n b) (Ran (After f flow state W) xs o s.next (gamma x s p r)) a
      (node_run d (node s.next Gamma (p ∷ carried_origins s.carried) (regions_of r.regions)) xs o) (extended o s.next)
      (subst (λ z. Refines exactly w (Gave (After f flow state V) x us n b) a z) (sym run) (region-sim (After f flow state V) x s.carried us n b a h)) after
    where
      us : List Datum
      us = map (read xs o) (carried_origins s.carried)

      b : Built A
      b = g (inside s.carried n)

      run : node_run d (node s.next Gamma (p ∷ carried_origins s.carried) (regions_of r.regions)) xs o ≡ region_meaning d (region_made x s.carried b) us
      run = ap (λ (u : Datum). on_number (value_of u) (λ k. chosen k (meanings d (regions_of r.regions)) us)) e ∙ pick us

      later : Later s b.after
      later = later_then s (inside s.carried n) b.after (renamed_later s n Arg low) (keeps (inside s.carried n))

      after : (y : B) (ys : List Datum) → Gave (After f flow state V) x us n b y ys → Ran (After f flow state W) xs o s.next (gamma x s p r) y (extended o s.next ys)
      after y ys q =
          let out : ℕ → Origin = λ k. Out s.next (x.port k) in
          let rest : List Origin = carried_origins b.after.carried in
          let all : List Datum = map (read us q.outputs) (x.results b.value ++ rest) in
          subst (λ zs. Ran (After f flow state W) xs o s.next (gamma x s p r) y (extended o s.next zs)) (sym q.is)
          (record {
            rises = omega (arith, up);
            stay = extended-stay o s.next all;
            post = (
              subst (λ c. Holds f (flow y) (read xs (extended o s.next all)) r.next c (state y)) (renamed-same s b.after out later)
                  (holds-renamed f (flow y) (read us q.outputs) (read xs (extended o s.next all)) b.after.next r.next b.after.carried (state y) out
                  (record { carries = λ i. extended-here o s.next all (x.port i) ∙ fits.ports (read us q.outputs) b.value rest i; below = λ i. omega (arith, up) }) q.ran.post.0),
              fits.value y (read us q.outputs) b.after.next r.next b.value rest (omega (arith, up)) q.ran.post.1,
            );
          })

  -- a choice whose predicate is a number
  pub choice-sim : {B A : Type 0} → (flow : B → Flow) (state : B → State) (V W : Gift B A) (x : Extra A) (xs : List Datum) (o : Outputs) → IsSoundRun xs o → (s : Point) (p : Origin) (j : ℕ)
      (g0 g1 : Point → Built A) (a : Answer B) (now : Flow) (q : State) → ExtraGives x xs o s.next V W → read xs o p ≡ val (Num j) → Keeps g0 → Keeps g1 → Holds f now (read xs o) s.next s.carried q →
      ((us : List Datum) (n : ℕ) → IsSoundRun us no_outputs → Holds f now (read us no_outputs) n (inside s.carried n).carried q →
      Simulates w d (After f flow state V) us no_outputs n (picked j g0 g1 (inside s.carried n)) a) →
      Simulates w d (After f flow state W) xs o s.next (choice x s p g0 g1) a
  choice-sim {B} {A} flow state V W x xs o t s p j g0 g1 a now q fits e k0 k1 h go = by j e go
    where
      us : List Datum
      us = map (read xs o) (carried_origins s.carried)

      r : Regions
      r = regions_made x s.carried (suc s.next) (g0 ∷ g1 ∷ [])

      second : ℕ
      second = (g0 (inside s.carried (suc s.next))).after.next

      low : suc s.next ≤ second
      low = (k0 (inside s.carried (suc s.next))).next

      up : suc s.next ≤ r.next
      up = let more : second ≤ r.next = (k1 (inside s.carried second)).next in omega (arith, low, more)

      sound : IsSoundRun us no_outputs
      sound = inside-sound xs o t (carried_origins s.carried)

      begun : (n : ℕ) → Holds f now (read us no_outputs) n (inside s.carried n).carried q
      begun n = holds-inside f now (read xs o) s.next n s.carried q h

      by : (i : ℕ) → read xs o p ≡ val (Num i) →
          ((us : List Datum) (n : ℕ) → IsSoundRun us no_outputs → Holds f now (read us no_outputs) n (inside s.carried n).carried q →
          Simulates w d (After f flow state V) us no_outputs n (picked i g0 g1 (inside s.carried n)) a) →
          Simulates w d (After f flow state W) xs o s.next (choice x s p g0 g1) a
      by zero e go =
          gamma-sim flow state V W x xs o s p r (suc s.next) 0 g0 a fits e up (omega arith) k0 (λ us. refl) (go us (suc s.next) sound (begun (suc s.next)))
      by (suc i) e go =
          gamma-sim flow state V W x xs o s p r second (suc i) g1 a fits e up (omega (arith, low)) k1 (λ us. one i us) (go us second sound (begun second))
        where
          one : (i : ℕ) (us : List Datum) →
              chosen (suc i) (meanings d (regions_of r.regions)) us ≡ region_meaning d (region_made x s.carried (g1 (inside s.carried second))) us
          one i us = refl
