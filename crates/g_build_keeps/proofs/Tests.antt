-- Conditions: an operand is tested, and the truth of it picks a region.
use Rattle.std.proofs.Common.{◌≡◌, ℕ, zero, suc, List, [], refl, sym, ap, ◌∙◌, arith}
use Rattle.std.proofs.Math.Path.{fun_ext}
use Rattle.std.specs.Prelude.{◌==◌, not, Bool, true, false, cond, Some, Option, None}
use Rattle.std.proofs.lemmas.Bool.{false≢true}
use Rattle.std.proofs.lemmas.Bool.Decides.{nat_tests}
use Rattle.val_core.specs.declared.values.Value.TheVariants.{Num}
use Rattle.val_core.specs.Refinement.{Direction}
use Rattle.val_core.specs.Answers.{Answer, Returned, then_on, on_defined}
use Rattle.val_core.proofs.lemmas.Answers.{then_associates}
use Rattle.c_type.specs.Trees.{TypeTree}
use Rattle.c_mean.specs.State.{State, Valued, truth}
use Rattle.c_mean.specs.Expressions.{branched}
use Rattle.c_mean.specs.Statements.{Flow}
use Rattle.g_graph.specs.declared.op.Origin.{Origin}
use Rattle.g_build_def.specs.Writer.{Point, Built, Extra, inside, choice}
use Rattle.g_build_def.proofs.lemmas.Later.{Keeps}
use Rattle.g_mean.specs.Data.{Datum, val}
use Rattle.g_mean.specs.Meaning.{Context, Outputs, no_outputs, read}
use Rattle.g_build_keeps.proofs.Readings.{IsBelow, IsSoundRun}
use Rattle.g_build_keeps.proofs.Toolbox.{Post, Simulates}
use Rattle.g_build_keeps.proofs.Held.{Frame, Holds}
use Rattle.g_build_keeps.proofs.Choice.{Gift, After, ExtraGives, choice-sim}

-- what a condition gives: whether it is true, and the state after it
pub record Decided : Type 0 where
  pub truth : Bool
  pub state : State

-- a value of this type as a condition
abbrev pub decided : TypeTree → Valued → Answer Decided
decided t x = on_defined (truth t x.value) (λ b. Returned (record { truth = b; state = x.state }) [])

-- one of two ways by what was decided
abbrev pub ways : {A : Type 0} → (if_true if_false : State → Answer A) → Decided → Answer A
ways a b y = cond y.truth (a y.state) (b y.state)

pub branched-decides : {A : Type 0} → (x : Answer Valued) (t : TypeTree) (a b : State → Answer A) →
    then_on (then_on x (decided t)) (ways a b) ≡ then_on x (λ y. branched t y.value (a y.state) (b y.state))
branched-decides x t a b = then_associates x (decided t) (ways a b) ∙ ap (then_on x) (fun_ext (λ y. by y (truth t y.value)))
  where
    by : (y : Valued) (z : Option Bool) →
        then_on (on_defined z (λ (b : Bool). Returned (record { truth = b; state = y.state }) [])) (ways a b) ≡ on_defined z (λ d. cond d (a y.state) (b y.state))
    by y None = refl
    by y (Some z) = refl

-- The state after a condition is held, and a number is carried that is 0 where the condition is false.
abbrev pub Decides : Frame → Flow → Post Decided Origin
Decides f flow y rd t p = Holds f flow rd t.next t.carried y.state × ((n : ℕ) × (rd p ≡ val (Num n)) × IsBelow t.next p × ((n == 0) ≡ not y.truth))

pub apart : (n : ℕ) → (suc n == 0) ≡ false
apart n = grind (arith, nat_tests)

module _ (w : Direction) (d : Context) (f : Frame) where
  -- a choice on what was decided: region 1 is done where it is true
  pub ways-sim : {B A : Type 0} → (flow : B → Flow) (state : B → State) (V W : Gift B A) (x : Extra A) (xs : List Datum) (o : Outputs) → IsSoundRun xs o → (s : Point) (p : Origin)
      (g0 g1 : Point → Built A)
      (now : Flow) (y : Decided) (a b : State → Answer B) → ExtraGives x xs o s.next V W → Keeps g0 → Keeps g1 → Decides f now y (read xs o) s p →
      ((us : List Datum) (n : ℕ) → IsSoundRun us no_outputs → Holds f now (read us no_outputs) n (inside s.carried n).carried y.state →
      Simulates w d (After f flow state V) us no_outputs n (g1 (inside s.carried n)) (a y.state)) →
      ((us : List Datum) (n : ℕ) → IsSoundRun us no_outputs → Holds f now (read us no_outputs) n (inside s.carried n).carried y.state →
      Simulates w d (After f flow state V) us no_outputs n (g0 (inside s.carried n)) (b y.state)) →
      Simulates w d (After f flow state W) xs o s.next (choice x s p g0 g1) (ways a b y)
  ways-sim {B} {A} flow state V W x xs o t s p g0 g1 now y a b fits k0 k1 h go1 go0 = by y.truth h.1.0 h.1.1 h.1.3
    where
      by : (truth : Bool) (n : ℕ) → read xs o p ≡ val (Num n) → (n == 0) ≡ not truth →
          Simulates w d (After f flow state W) xs o s.next (choice x s p g0 g1) (cond truth (a y.state) (b y.state))
      by true (suc n) e z = choice-sim w d f flow state V W x xs o t s p (suc n) g0 g1 (a y.state) now y.state fits e k0 k1 h.0 go1
      by false zero e z = choice-sim w d f flow state V W x xs o t s p zero g0 g1 (b y.state) now y.state fits e k0 k1 h.0 go0
      by true zero e z = absurd cc
      by false (suc n) e z = absurd (false≢true (sym (apart n) ∙ z))
