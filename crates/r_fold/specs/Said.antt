-- What the rule says of a node, by its op, where the words of constants and the use of its output are known.
use Rattle.std.specs.Prelude.{ℕ, Bool, if◌then◌else◌, List, [], ◌∷◌}
use Rattle.std.specs.declared.option.Option.{Option}
use Rattle.std.specs.declared.option.Option.TheVariants.{Some, None}
use Rattle.g_graph.specs.declared.op.Op.{Op}
use Rattle.g_graph.specs.declared.op.Op.TheVariants.{Const}
use Rattle.g_graph.specs.declared.op.Origin.{Origin}
use Rattle.g_graph.specs.Nodes.{constant}
use Rattle.g_graph.specs.Plain.{NodeTrees, node, no_nodes, node_then, RegionTrees, no_regions}
use Rattle.r_fold.specs.declared.plan.Plan.{Plan}
use Rattle.r_fold.specs.declared.plan.Plan.TheVariants.{Word, Input, Replacement}
use Rattle.r_fold.specs.Plan.{has_one_turn}
use Rattle.r_fold.specs.Rule.{chosen_place}
use Rattle.r_walk.specs.Walk.{Part, stays, becomes, opened}

-- of a node without regions, by its plan: a constant, or an origin for its output
abbrev pub plan_said : (used : Bool) → (id : ℕ) → Op → (inputs : List Origin) → Option Plan → Part
plan_said used id op inputs None = stays
plan_said used id op inputs (Some (Word w)) = becomes (node_then (node id (Const w) [] no_regions) no_nodes) [] 0
plan_said used id op inputs (Some (Input a)) = if used then becomes (node_then (node id op inputs no_regions) no_nodes) (a ∷ []) 0 else stays
plan_said used id op inputs (Some (Replacement r)) = stays

-- of a Gamma with these entries, by the word of its predicate
abbrev pub opened_on : (entries : List Origin) → RegionTrees → Option ℕ → Part
opened_on entries no_regions w = stays
opened_on entries rs None = stays
opened_on entries rs (Some w) = opened (chosen_place w rs) entries 0

abbrev pub choice_said : NodeTrees → (inputs : List Origin) → RegionTrees → Part
choice_said before [] rs = stays
choice_said before (p ∷ entries) rs = opened_on entries rs (constant before p)

-- of a Theta
abbrev pub loop_said : (inputs : List Origin) → RegionTrees → Part
loop_said inputs rs = if has_one_turn rs then opened 0 inputs 1 else stays
