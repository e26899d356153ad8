-- What the parts of the walk promise.
use Rattle.std.specs.Prelude.{◌≡◌, ◌++◌, ◌==◌, ℕ, Bool, true, List, if◌then◌else◌, slice_get, unwrap_or}
use Rattle.g_graph.specs.declared.op.Origin.TheVariants.{Out}
use Rattle.r_rule.specs.declared.steps.Rule.{Rule}
use Rattle.r_rule.specs.declared.steps.Step.{Step}
use Rattle.g_graph.specs.Count.{node_values, nodes_values}
use Rattle.g_graph.specs.Plain.{NodeTree, id_of, nodes_of}
use Rattle.g_graph.specs.Splice.{joined_nodes}
use Rattle.r_walk.specs.Walk.{Cursor, Walking, WrittenNodes, stepped}
use Rattle.g_graph.specs.declared.op.Origin.{Origin}
use Rattle.r_walk.specs.declared.moves.Moves.{Moves}
use Rattle.r_walk.specs.declared.rule.New.{New}
use Rattle.r_walk.specs.declared.uses.Uses.{Uses}
use Rattle.r_walk.specs.declared.words.Words.{Words}
use Rattle.r_walk.specs.Around.{AreWords, IsAround}
use Rattle.r_walk.specs.Moves.{AreMoves, output_in}

-- more steps stand at the end of the log
abbrev pub HasGained : (before after : List Step) → Type 0
HasGained before after = (added : List Step) × (after ≡ before ++ added)

-- The tables of a walk are those of a cursor: the inputs that the region's arguments became, the outputs that moved, and
-- what stands around, where the rule looks.
pub record IsCursor (looks : Bool) (k : Cursor) (inputs : List Origin) (moves : Moves) (words : Words) (uses : Uses) : Type 0 where
  pub inputs_are : k.inputs ≡ inputs
  pub moved : AreMoves moves k.moved
  pub around : IsAround looks words uses k.before k.uses

-- what is written came after these nodes, its moves to those before it
pub record IsWalked (looks : Bool) (k : Cursor) (s : WrittenNodes) (before after : List NodeTree) (moves : Moves) (words : Words) (now : Walking) : Type 0 where
  pub nodes : nodes_of after ≡ joined_nodes (nodes_of before) s.nodes
  pub moved : AreMoves moves (s.moved ++ k.moved)
  pub words_are : looks ≡ true → AreWords words (joined_nodes k.before s.nodes)
  pub now_is : now ≡ s.now

-- a step at a node is made
pub record HasStepped (rule : Rule) (x : NodeTree) (new : New) (before after : List NodeTree) (old moves : Moves) (w now : Walking) : Type 0 where
  pub nodes : after ≡ before ++ new.nodes.items
  pub moved : (n p : ℕ) → output_in moves n p ≡ (if n == id_of x then unwrap_or (slice_get new.outputs.items p) (Out n p) else output_in old n p)
  pub now_is : now ≡ stepped rule (id_of x) (node_values x) (nodes_values (nodes_of new.nodes.items)) new.taken w
