-- A Theta whose body does what a turn of a loop does.
use Rattle.std.proofs.Common.{◌≡◌, ◌≤◌, ℕ, zero, suc, List, [], ◌∷◌, map, refl, sym, ap, ◌∙◌, subst, arith}
use Rattle.std.specs.Prelude.{◌==◌, not, Bool, true, false, cond}
use Rattle.val_core.specs.declared.values.Value.TheVariants.{Num}
use Rattle.val_core.specs.Refinement.{Direction, Forward, Backward, exactly, Refines}
use Rattle.val_core.specs.Answers.{Answer, Returned, Cut, then_on}
use Rattle.val_core.proofs.lemmas.Refinement.{exactly-goes, refines-then, refines-far-goes}
use Rattle.c_mean.specs.State.{State}
use Rattle.c_mean.specs.Statements.{Flow, normal, Flowed, flows}
use Rattle.g_graph.specs.declared.op.Op.TheVariants.{Theta}
use Rattle.g_graph.specs.declared.op.Origin.{Origin}
use Rattle.g_graph.specs.declared.op.Origin.TheVariants.{Arg, Out}
use Rattle.g_graph.specs.Plain.{node, nodes_of, no_regions, region_then}
use Rattle.g_build_def.specs.Writer.{Carried, carried_origins, renamed, Point, Built, one_value, inside, region_made, repeat}
use Rattle.g_build_def.specs.Laws.{Later}
use Rattle.g_build_def.proofs.lemmas.Later.{Keeps, later_then, renamed_later}
use Rattle.g_mean.specs.Data.{Datum, val, at_port}
use Rattle.g_mean.specs.Meaning.{Meaning, Context, again, turns, Outputs, no_outputs, extended, read, region_meaning, node_run, nodes_run}
use Rattle.g_mean.specs.LessDefined.{AreSound}
use Rattle.g_mean.proofs.lemmas.Equal.{exactly-compares}
use Rattle.g_mean.proofs.lemmas.Regions.{less-cut, far-cut}
use Rattle.g_build_keeps.proofs.Readings.{extended-here, extended-stay, IsSoundContext, AreSoundOutputs, IsSoundRun, nodes-sound, refines-far-gives}
use Rattle.g_build_keeps.proofs.Toolbox.{Post, Ran, Simulates}
use Rattle.g_build_keeps.proofs.Held.{Frame, Holds}
use Rattle.g_build_keeps.proofs.Renamed.{renamed-same, holds-renamed, holds-inside, reads-sound}
use Rattle.g_build_keeps.proofs.Choice.{Gift, After}
use Rattle.g_build_keeps.proofs.Claims.{BoundsFit}
use Rattle.g_build_keeps.proofs.Jumps.{Flows}

-- What a turn of a loop gives: whether there is another one, and else how the loop ends.
pub record Turned : Type 0 where
  pub again : Bool
  pub flow : Flow
  pub state : State

-- what follows a turn
abbrev pub turned : (State → Answer Flowed) → Turned → Answer Flowed
turned next y = cond y.again (next y.state) (flows y.state y.flow)

-- A number is carried that is 0 where the loop ends. Before another turn control goes on.
abbrev pub TurnsOn : Gift Turned Origin
TurnsOn y rd n p = ((k : ℕ) × (rd p ≡ val (Num k)) × ((k == 0) ≡ not y.again)) × (y.again ≡ true → y.flow ≡ normal)

-- The state after a turn is held too.
abbrev pub Turns : Frame → Post Turned Origin
Turns f = After f (λ y. y.flow) (λ y. y.state) TurnsOn

-- A loop that takes at most so many turns: the condition is asked before the turn that would be one too many is cut.
pub record IsLoop (turn last : State → Answer Turned) (loops : ℕ → State → Answer Flowed) : Type 0 where
  pub more : (n : ℕ) (s : State) → loops (suc n) s ≡ then_on (turn s) (turned (loops n))
  pub none : (s : State) → loops 0 s ≡ then_on (last s) (turned (λ u. Cut []))

module _ (w : Direction) (d : Context) (c : IsSoundContext d) (f : Frame) (s : Point) (body : Point → Built Origin) (keeps : Keeps body) where
  abbrev n : ℕ
  n = suc s.next

  abbrev b : Built Origin
  b = body (inside s.carried n)

  -- data that carry a state at the start of a turn, or after the loop
  record Carries (flow : Flow) (q : State) (us : List Datum) : Type 0 where
    rd : Origin → Datum
    next : ℕ
    k : Carried
    is : us ≡ map rd (carried_origins k)
    holds : Holds f flow rd next k q
    same : (g : ℕ → Origin) → renamed k g ≡ renamed s.carried g
    sound : AreSound us

  -- what the region of the Theta gives
  record Gave (y : Turned) (ys : List Datum) : Type 0 where
    test : ℕ
    rest : List Datum
    is : ys ≡ val (Num test) ∷ rest
    decides : (test == 0) ≡ not y.again
    goes_on : y.again ≡ true → y.flow ≡ normal
    carries : Carries y.flow y.state rest

  -- the body does what a turn does, wherever the data come from
  abbrev TurnClaim : (State → Answer Turned) → Type 0
  TurnClaim turn =
      (us : List Datum) → IsSoundRun us no_outputs → (q : State) → Holds f normal (read us no_outputs) n (inside s.carried n).carried q → Simulates w d (Turns f) us no_outputs n b (turn q)

  later : Later s b.after
  later = later_then s (inside s.carried n) b.after (renamed_later s n Arg (omega arith)) (keeps (inside s.carried n))

  turn-sim : (turn : State → Answer Turned) → TurnClaim turn → (us : List Datum) (q : State) → Carries normal q us →
      Refines exactly w Gave (turn q) (region_meaning d (region_made one_value s.carried b) us)
  turn-sim turn claim us q g =
      refines-far-goes exactly exactly-goes w (λ y o. Ran (Turns f) us no_outputs n b y o × AreSoundOutputs o) Gave (turn q) (nodes_run d (nodes_of b.nodes) us no_outputs)
      (λ o. map (read us o) (b.value ∷ carried_origins b.after.carried))
      (refines-far-gives w AreSoundOutputs (Ran (Turns f) us no_outputs n b) (turn q) (nodes_run d (nodes_of b.nodes) us no_outputs) (nodes-sound d c (nodes_of b.nodes) us no_outputs sound)
      (claim us sound q begun))
      (λ y o r.
      record {
        test = r.0.post.1.0.0;
        rest = map (read us o) (carried_origins b.after.carried);
        is = ap (λ x. x ∷ map (read us o) (carried_origins b.after.carried)) r.0.post.1.0.1;
        decides = r.0.post.1.0.2;
        goes_on = r.0.post.1.1;
        carries = record {
          rd = read us o;
          next = b.after.next;
          k = b.after.carried;
          is = refl;
          holds = r.0.post.0;
          same = λ h. renamed-same s b.after h later;
          sound = reads-sound us o (record { args = g.sound; outputs = r.1 }) (carried_origins b.after.carried);
        };
      })
    where
      sound : IsSoundRun us no_outputs
      sound = record { args = g.sound; outputs = λ id port. tt }

      begun : Holds f normal (read us no_outputs) n (inside s.carried n).carried q
      begun =
          subst (λ k. Holds f normal (read us no_outputs) n k q) (g.same Arg)
          (subst (λ vs. Holds f normal (read vs no_outputs) n (renamed g.k Arg) q) (sym g.is) (holds-inside f normal g.rd g.next n g.k q g.holds))

  abbrev Over : Flowed → List Datum → Type 0
  Over y us = Carries y.flow y.state us

  after-turn : (next : State → Answer Flowed) (far : Meaning) → ((q : State) (us : List Datum) → Carries normal q us → Refines exactly w Over (next q) (far us)) → (y : Turned) (ys : List Datum) →
      Gave y ys →
      Refines exactly w Over (turned next y) (again far ys)
  after-turn next far go y ys g =
      subst (λ zs. Refines exactly w Over (turned next y) (again far zs)) (sym g.is) (by y.again g.decides g.goes_on)
    where
      by : (more : Bool) → (g.test == 0) ≡ not more → (more ≡ true → y.flow ≡ normal) →
          Refines exactly w Over (cond more (next y.state) (flows y.state y.flow)) (cond (g.test == 0) (Returned g.rest []) (far g.rest))
      by true e same =
          subst (λ t. Refines exactly w Over (next y.state) (cond t (Returned g.rest []) (far g.rest))) (sym e)
          (go y.state g.rest (subst (λ h. Carries h y.state g.rest) (same refl) g.carries))
      by false e same = subst (λ t. Refines exactly w Over (flows y.state y.flow) (cond t (Returned g.rest []) (far g.rest))) (sym e) (g.carries, refl)

  module _ (turn last : State → Answer Turned) (loops : ℕ → State → Answer Flowed) (is : IsLoop turn last loops) (claim : TurnClaim turn) (cutting : w ≡ Forward → TurnClaim last) where
    abbrev region : Meaning
    region = region_meaning d (region_made one_value s.carried b)

    turns-sim : (near far : ℕ) → BoundsFit w near far → (q : State) (us : List Datum) → Carries normal q us → Refines exactly w Over (loops near q) (turns far region us)
    turns-sim zero zero fits q us g = both w fits
      where
        both : (w' : Direction) → BoundsFit w' 0 0 → Refines exactly w' Over (loops 0 q) (Cut [])
        both Forward h = absurd (omega (arith, h))
        both Backward h = far-cut exactly exactly-compares Backward Over 0 (omega arith) (loops 0 q)
    turns-sim (suc near) zero fits q us g = cut w fits
      where
        cut : (w' : Direction) → BoundsFit w' (suc near) 0 → Refines exactly w' Over (loops (suc near) q) (Cut [])
        cut Forward h = absurd (omega (arith, h))
        cut Backward h = far-cut exactly exactly-compares Backward Over near (omega arith) (loops (suc near) q)
    turns-sim zero (suc far) fits q us g =
        subst (λ a. Refines exactly w Over a (turns (suc far) region us)) (sym (is.none q))
        (refines-then exactly exactly-goes Gave Over w (last q) (region us) (turned (λ u. Cut [])) (again (turns far region)) (turn-sim last (cutting (forward w fits)) us q g)
        (after-turn (λ u. Cut []) (turns far region) (λ q' us' g'. none w (forward w fits) (turns far region us'))))
      where
        forward : (w' : Direction) → BoundsFit w' 0 (suc far) → w' ≡ Forward
        forward Forward h = refl
        forward Backward h = absurd (omega (arith, h))

        none : (w' : Direction) → w' ≡ Forward → (a : Answer (List Datum)) → Refines exactly w' Over (Cut []) a
        none Forward e a = less-cut exactly exactly-compares Forward Over 0 (omega arith) a
        none Backward e a = absurd cc
    turns-sim (suc near) (suc far) fits q us g =
        subst (λ a. Refines exactly w Over a (turns (suc far) region us)) (sym (is.more near q))
        (refines-then exactly exactly-goes Gave Over w (turn q) (region us) (turned (loops near)) (again (turns far region)) (turn-sim turn claim us q g)
        (after-turn (loops near) (turns far region) (λ q' us' g'. turns-sim near far (below w fits) q' us' g')))
      where
        below : (w' : Direction) → BoundsFit w' (suc near) (suc far) → BoundsFit w' near far
        below Forward h = omega (arith, h)
        below Backward h = omega (arith, h)

    pub repeat-sim : (near : ℕ) → BoundsFit w near d.bound → (xs : List Datum) (o : Outputs) → IsSoundRun xs o → (q : State) → Holds f normal (read xs o) s.next s.carried q →
        Simulates w d (Flows f) xs o s.next (repeat s body) (loops near q)
    repeat-sim near fits xs o t q h =
        refines-far-goes exactly exactly-goes w Over (Ran (Flows f) xs o s.next (repeat s body)) (loops near q)
        (node_run d (node s.next Theta (carried_origins s.carried) (region_then (region_made one_value s.carried b) no_regions)) xs o) (extended o s.next)
        (turns-sim near d.bound fits q (map (read xs o) (carried_origins s.carried))
        (record { rd = read xs o; next = s.next; k = s.carried; is = refl; holds = h; same = λ g. refl; sound = reads-sound xs o t (carried_origins s.carried) })) after
      where
        up : n ≤ b.after.next
        up = (keeps (inside s.carried n)).next

        after : (y : Flowed) (ys : List Datum) → Over y ys → Ran (Flows f) xs o s.next (repeat s body) y (extended o s.next ys)
        after y ys g =
            record {
              rises = omega (arith, up);
              stay = extended-stay o s.next ys;
              post = (
                subst (λ k. Holds f y.flow (read xs (extended o s.next ys)) b.after.next k y.state) (g.same (λ j. Out s.next j))
                    (holds-renamed f y.flow g.rd (read xs (extended o s.next ys)) g.next b.after.next g.k y.state (λ j. Out s.next j)
                    (record { carries = λ j. extended-here o s.next ys j ∙ ap (λ us. at_port us j) g.is; below = λ j. omega (arith, up) }) g.holds),
                tt,
              );
            }
