-- Laws of what regions, lambdas and programs mean.
use Rattle.std.specs.Prelude.{◌≡◌, ℕ, suc, map, ◌≤◌, List, ◌++◌}
use Rattle.val_core.specs.declared.values.Value.{Value}
use Rattle.val_core.specs.Values.{IsSound}
use Rattle.val_core.specs.Events.{IsPrefixOf}
use Rattle.val_core.specs.Answers.{then_on, events, Gives}
use Rattle.val_core.specs.Refinement.{Forward, exactly, Refines}
use Rattle.val_core.specs.Objects.{Addresses}
use Rattle.g_graph.specs.declared.op.Op.TheVariants.{Theta}
use Rattle.g_graph.specs.declared.op.Origin.{Origin}
use Rattle.g_graph.specs.Plain.{RegionTree, NodeTree, node, nodes_of, no_regions, region_then, PlainLambda, PlainOmega}
use Rattle.g_mean.specs.Data.{Datum}
use Rattle.g_mean.specs.Meaning.{Context, again, turns, Outputs, read, region_meaning, node_run, nodes_run}
use Rattle.g_mean.specs.Calls.{region_at, lambda_at, program_at}
use Rattle.g_mean.specs.LessDefined.{AreSound}

-- A greater bound only extends: what ended stays as it is, and what was cut may go on. So it is with a region,
abbrev pub RegionExtends : Type 0
RegionExtends =
    (n m : ℕ) (ls : List PlainLambda) (r : RegionTree) (xs : List Datum) (addresses : Addresses) → n ≤ m →
    Refines exactly Forward (λ us vs. us ≡ vs) (region_at n ls r xs addresses) (region_at m ls r xs addresses)

-- with a lambda,
abbrev pub LambdaExtends : Type 0
LambdaExtends =
    (n m : ℕ) (ls : List PlainLambda) (global : ℕ → Value) (f : ℕ) (xs : List Datum) → n ≤ m →
    Refines exactly Forward (λ us vs. us ≡ vs) (lambda_at n ls global f xs) (lambda_at m ls global f xs)

-- and with a program.
abbrev pub ProgramExtends : Type 0
ProgramExtends =
    (n m : ℕ) (omega : PlainOmega) (ls : List PlainLambda) (i : List ℕ) → n ≤ m →
    Refines exactly Forward (λ us vs. us ≡ vs) (program_at n omega ls i) (program_at m omega ls i)

-- nodes run one after the other
abbrev pub NodesInTurn : Type 0
NodesInTurn =
    (c : Context) (before after : List NodeTree) (xs : List Datum) (o : Outputs) →
    nodes_run c (nodes_of (before ++ after)) xs o ≡ then_on (nodes_run c (nodes_of before) xs o) (nodes_run c (nodes_of after) xs)

-- What happened stays: the events of a run, at every ending, begin with those of its first nodes.
abbrev pub EventsGrow : Type 0
EventsGrow =
    (c : Context) (before after : List NodeTree) (xs : List Datum) (o : Outputs) →
    IsPrefixOf (events (nodes_run c (nodes_of before) xs o)) (events (nodes_run c (nodes_of (before ++ after)) xs o))

-- sound data stay sound
abbrev pub RegionIsSound : Type 0
RegionIsSound =
    (n : ℕ) (ls : List PlainLambda) (r : RegionTree) (xs : List Datum) (addresses : Addresses) →
    ((k : ℕ) → IsSound (addresses.local k)) → ((k : ℕ) → IsSound (addresses.global k)) → AreSound xs → Gives AreSound (region_at n ls r xs addresses)

abbrev pub LambdaIsSound : Type 0
LambdaIsSound =
    (n : ℕ) (ls : List PlainLambda) (global : ℕ → Value) (f : ℕ) (xs : List Datum) →
    ((k : ℕ) → IsSound (global k)) → AreSound xs → Gives AreSound (lambda_at n ls global f xs)

-- A Theta takes as many turns of its region as the bound allows.
abbrev pub ThetaTurns : Type 0
ThetaTurns =
    (c : Context) (id : ℕ) (inputs : List Origin) (r : RegionTree) (xs : List Datum) (o : Outputs) →
    node_run c (node id Theta inputs (region_then r no_regions)) xs o ≡ turns c.bound (region_meaning c r) (map (read xs o) inputs)

-- At most n + 1 turns of a region are the region once and then, where its predicate is not 0, at most n turns on its
-- other results. What stands around the region, and so the bound inside it, is the same throughout.
abbrev pub TurnsUnroll : Type 0
TurnsUnroll =
    (n : ℕ) (c : Context) (r : RegionTree) (xs : List Datum) →
    turns (suc n) (region_meaning c r) xs ≡ then_on (region_meaning c r xs) (again (turns n (region_meaning c r)))
