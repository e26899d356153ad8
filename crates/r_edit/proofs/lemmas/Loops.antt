-- What the rules on loops ask of what regions and their choices give.
use Rattle.std.specs.Prelude.{◌==◌}
use Rattle.std.proofs.Common.{◌≡◌, ℕ, zero, suc, false, cond, List, [], ◌∷◌, map, length, Some, slice_get, refl, sym, ap, arith}
use Rattle.std.proofs.lemmas.Bool.Decides.{nat_tests}
use Rattle.std.proofs.lemmas.List.{length-map}
use Rattle.std.proofs.lemmas.Option.{get_or_from_slice_get}
use Rattle.val_core.specs.declared.values.Value.{Value}
use Rattle.val_core.specs.declared.values.Value.TheVariants.{Num, At, Bad}
use Rattle.val_core.specs.Answers.{Answer, Returned, then_on, on_number, Gives}
use Rattle.val_core.proofs.lemmas.Answers.{gives-then}
use Rattle.g_graph.specs.declared.op.Kind.{Kind}
use Rattle.g_graph.specs.declared.op.Op.TheVariants.{Theta}
use Rattle.g_graph.specs.declared.op.Origin.{Origin}
use Rattle.g_graph.specs.Plain.{RegionTree, region, NodeTree, node, NodeTrees, no_regions, region_then}
use Rattle.g_mean.specs.Data.{Datum, val, at_port}
use Rattle.g_mean.specs.Meaning.{Meaning, Context, chosen, Outputs, no_outputs, read, region_meaning, nodes_run}

-- a loop with this region
abbrev pub loop_node : (n : ℕ) → (inputs : List Origin) → RegionTree → NodeTree
loop_node n inputs r = node n Theta inputs (region_then r no_regions)

pub then-number : {A B : Type 0} (v : Value) (f : ℕ → Answer A) (next : A → Answer B) → then_on (on_number v f) next ≡ on_number v (λ w. then_on (f w) next)
then-number (Num w) f next = refl
then-number (At b o) f next = refl
then-number Bad f next = refl

pub at-port : (ys : List Datum) (k : ℕ) (y : Datum) → slice_get ys k ≡ Some y → at_port ys k ≡ y
at-port ys k y e = get_or_from_slice_get ys k y (val Bad) e

-- a region gives as many data as it has results
pub gives-results : (c : Context) (args : List Kind) (nodes : NodeTrees) (results : List Origin) (xs : List Datum) →
    Gives (λ ys. length ys ≡ length results) (region_meaning c (region args nodes results) xs)
gives-results c args nodes results xs =
    gives-then (λ o. Unit {0}) (λ ys. length ys ≡ length results) (nodes_run c nodes xs no_outputs) (λ o. Returned (map (read xs o) results) []) (any (nodes_run c nodes xs no_outputs))
    (λ o h. length-map results (read xs o))
  where
    any : (a : Answer Outputs) → Gives (λ o. Unit {0}) a
    any (Returned x o) = tt
    any _ = tt

-- the choice between two
pub chosen-two : (w : ℕ) (stop go : Meaning) (es : List Datum) → chosen w (stop ∷ go ∷ []) es ≡ cond (w == 0) (stop es) (go es)
chosen-two zero stop go es = refl
chosen-two (suc w) stop go es =
    let more : (suc w == 0) ≡ false = grind (arith, nat_tests) in
    sym (ap (λ t. cond t (stop es) (go es)) more)
