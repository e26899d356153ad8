-- What the parts of the walk promise.
use Rattle.std.specs.Prelude.{◌≡◌, ◌+◌, ◌<◌, ◌^◌, ℕ, true, List, length}
use Rattle.r_rule.specs.declared.steps.Step.{Step}
use Rattle.g_graph.specs.declared.op.Origin.{Origin}
use Rattle.g_graph.specs.Plain.{NodeTree, node, RegionTrees, id_of, op_of, nodes_of, has_none}
use Rattle.g_graph.specs.Splice.{joined_nodes}
use Rattle.r_push.specs.Walk.{Exit, shut, choice, loop, growth_of, Cursor, Walking, WrittenNodes}
use Rattle.r_walk.specs.declared.moves.Moves.{Moves}
use Rattle.r_walk.specs.Around.{AreUses}
use Rattle.r_walk.specs.Moves.{AreMoves}
use Rattle.r_push.specs.declared.exit.Exit as code
use Rattle.r_push.specs.declared.exit.Exit.TheVariants.{Shut, Choice, Loop}
use Rattle.r_push.specs.declared.leaving.Outside.{Outside}
use Rattle.r_push.specs.declared.leaving.Place.{Place}

-- an exit of the code
abbrev pub exit_in : code.Exit → Exit
exit_in Shut = shut
exit_in (Choice regions) = choice regions
exit_in Loop = loop

abbrev pub walking : (values : ℕ) → Outside → List Step → Walking
walking values outside steps = record { values = values; steps = steps; inputs = outside.inputs.items; left = outside.left.items }

-- a node with these inputs and regions
abbrev pub remade : NodeTree → (inputs : List Origin) → RegionTrees → NodeTree
remade x inputs rs = node (id_of x) (op_of x) inputs rs

-- The place and the moves of a walk are those of a cursor.
pub record IsCursor (k : Cursor) (place : Place) (moves : Moves) : Type 0 where
  pub exit_is : k.exit ≡ exit_in place.exit
  pub used : AreUses place.uses.now k.uses
  pub results_are : k.results ≡ place.results.now
  pub moved : AreMoves moves k.moved

-- what is written came after these nodes
pub record IsWalked (s : WrittenNodes) (before after : List NodeTree) (moves : Moves) (now : Walking) : Type 0 where
  pub nodes : nodes_of after ≡ joined_nodes (nodes_of before) s.nodes
  pub moved : AreMoves moves s.moved
  pub now_is : now ≡ s.now

-- A node with these regions may leave: its output becomes an argument, and 64 bits count the values then.
pub record HasRoom (exit : code.Exit) (values : ℕ) (outside : Outside) (rs : RegionTrees) : Type 0 where
  pub args : length outside.inputs.items < 2 ^ 32
  pub fits : values + growth_of (exit_in exit) < 2 ^ 64
  pub none : has_none rs ≡ true
