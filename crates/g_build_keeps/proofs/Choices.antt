-- A choice among any number of regions: the one that a number picks does what the source does.
use Rattle.std.proofs.Common.{◌≡◌, ◌≤◌, ℕ, zero, suc, List, [], ◌∷◌, map, ap, arith}
use Rattle.std.specs.Prelude.{slice_get, Some}
use Rattle.val_core.specs.declared.values.Value.TheVariants.{Num}
use Rattle.val_core.specs.Refinement.{Direction}
use Rattle.val_core.specs.Answers.{Answer}
use Rattle.c_mean.specs.State.{State}
use Rattle.c_mean.specs.Statements.{Flow}
use Rattle.g_graph.specs.declared.op.Origin.{Origin}
use Rattle.g_graph.specs.Plain.{regions_of}
use Rattle.g_build_def.specs.Writer.{Carried, carried_origins, Point, Built, Extra, inside, region_made, regions_made, choices}
use Rattle.g_build_def.proofs.lemmas.Later.{Keeps, EachKeeps, regions_later}
use Rattle.g_mean.specs.Data.{Datum, val}
use Rattle.g_mean.specs.Meaning.{Context, chosen, Outputs, no_outputs, read, region_meaning, meanings}
use Rattle.g_build_keeps.proofs.Readings.{IsSoundRun}
use Rattle.g_build_keeps.proofs.Toolbox.{Simulates}
use Rattle.g_build_keeps.proofs.Held.{Frame, Holds}
use Rattle.g_build_keeps.proofs.Renamed.{holds-inside, inside-sound}
use Rattle.g_build_keeps.proofs.Unary.{some-inj}
use Rattle.g_build_keeps.proofs.Choice.{Gift, After, ExtraGives, gamma-sim}

-- The number picks the region of this function, whose nodes are numbered from `start` on.
record PicksRegion {A : Type 0} (d : Context) (x : Extra A) (k : Carried) (n j : ℕ) (g : Point → Built A) (fs : List (Point → Built A)) : Type 0 where
  start : ℕ
  low : n ≤ start
  picks : (us : List Datum) → chosen j (meanings d (regions_of (regions_made x k n fs).regions)) us ≡ region_meaning d (region_made x k (g (inside k start))) us

region-at : {A : Type 0} → (d : Context) (x : Extra A) (k : Carried) (n j : ℕ) (g : Point → Built A) (fs : List (Point → Built A)) → slice_get fs j ≡ Some g → EachKeeps fs → PicksRegion d x k n j g fs
region-at d x k n j g [] e h = absurd cc
region-at d x k n zero g (f ∷ []) e h =
    record { start = n; low = omega arith; picks = λ us. ap (λ z. region_meaning d (region_made x k (z (inside k n))) us) (some-inj e) }
region-at d x k n (suc j) g (f ∷ []) e h = absurd cc
region-at d x k n zero g (f ∷ f' ∷ fs) e h =
    record { start = n; low = omega arith; picks = λ us. ap (λ z. region_meaning d (region_made x k (z (inside k n))) us) (some-inj e) }
region-at d x k n (suc j) g (f ∷ f' ∷ fs) e h =
    let up : n ≤ (f (inside k n)).after.next = (h.0 (inside k n)).next in
    let r = region-at d x k (f (inside k n)).after.next j g (f' ∷ fs) e h.1 in
    let more : (f (inside k n)).after.next ≤ r.start = r.low in
    record { start = r.start; low = omega (arith, up, more); picks = r.picks }

module _ (w : Direction) (d : Context) (f : Frame) where
  pub choices-sim : {B A : Type 0} → (flow : B → Flow) (state : B → State) (V W : Gift B A) (x : Extra A) (xs : List Datum) (o : Outputs) → IsSoundRun xs o → (s : Point) (p : Origin) (j : ℕ)
      (g : Point → Built A) (fs : List (Point → Built A)) (a : Answer B) (now : Flow) (q : State) → ExtraGives x xs o s.next V W → read xs o p ≡ val
      (Num j) → slice_get fs j ≡ Some g → Keeps g → EachKeeps fs →
      Holds f now (read xs o) s.next s.carried q →
      ((us : List Datum) (n : ℕ) → IsSoundRun us no_outputs → Holds f now (read us no_outputs) n (inside s.carried n).carried q →
      Simulates w d (After f flow state V) us no_outputs n (g (inside s.carried n)) a) →
      Simulates w d (After f flow state W) xs o s.next (choices x s p fs) a
  choices-sim flow state V W x xs o t s p j g fs a now q fits e there kg keeps h go =
      let r = region-at d x s.carried (suc s.next) j g fs there keeps in
      let low : suc s.next ≤ r.start = r.low in
      gamma-sim w d f flow state V W x xs o s p (regions_made x s.carried (suc s.next) fs) r.start j g a fits e (regions_later x s.carried (suc s.next) fs keeps) (omega (arith, low)) kg r.picks
      (go (map (read xs o) (carried_origins s.carried)) r.start (inside-sound xs o t (carried_origins s.carried)) (holds-inside f now (read xs o) s.next r.start s.carried q h))
