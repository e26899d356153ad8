-- What a rule says of a node, and what is asked of a rule that looks at one node alone.
use Rattle.std.specs.Prelude.{◌≡◌, ℕ, true, List, option_map}
use Rattle.std.specs.declared.option.Option.{Option}
use Rattle.std.specs.declared.option.Option.TheVariants.{Some, None}
use Rattle.g_graph.specs.declared.op.Op.{Op}
use Rattle.g_graph.specs.declared.op.Origin.{Origin}
use Rattle.r_rule.specs.declared.steps.Step.{Step}
use Rattle.g_graph.specs.Ids.{region_ids, regions_ids}
use Rattle.g_graph.specs.Plain.{RegionTree, NodeTree, node, NodeTrees, no_nodes, node_then, RegionTrees, no_regions, region_then, nodes_of, op_of, regions_in}
use Rattle.g_mean.specs.Copies.{AllClosed}
use Rattle.g_graph.specs.WellFormed.{distinct, every_region, every_in_regions, region_fits, regions_fit, theta_has_states}
use Rattle.r_walk.specs.declared.rule.New.{New}
use Rattle.r_walk.specs.declared.rule.Said.{Said}
use Rattle.r_walk.specs.declared.rule.Said.TheVariants.{Stays, Becomes, Opened}
use Rattle.r_walk.specs.Walk.{Part, stays, becomes, opened, Asked, Walking}

-- what comes in the place of a node
pub record Made : Type 0 where
  pub nodes : NodeTrees
  pub outputs : List Origin
  pub taken : ℕ

abbrev pub made_of : Option New → Option Made
made_of new = option_map (λ it. record { nodes = nodes_of it.nodes.items; outputs = it.outputs.items; taken = it.taken }) new

abbrev pub part_of : Option Made → Part
part_of None = stays
part_of (Some m) = becomes m.nodes m.outputs m.taken

-- what a rule said
abbrev pub said_of : Said → Part
said_of Stays = stays
said_of (Becomes new) = becomes (nodes_of new.nodes.items) new.outputs.items new.taken
said_of (Opened it) = opened it.which it.inputs.items it.from

-- a rule that looks at the node alone
abbrev pub asked_by : ((values next : ℕ) → NodeTree → Option Made) → Asked
asked_by f values next before uses x = part_of (f values next x)

abbrev pub walking : (values next : ℕ) → List Step → Walking
walking values next steps = record { values = values; next = next; steps = steps }

-- A region of a well-formed lambda with so many objects, and the regions of a node there: they fit, with all that is nested
-- in them, and their numbers are unique.
pub record IsSound (r : RegionTree) : Type 0 where
  pub objects : ℕ
  pub fits : every_region (region_fits objects) r ≡ true
  pub unique : distinct (region_ids r) ≡ true

pub record AreSoundIn (op : Op) (rs : RegionTrees) : Type 0 where
  pub objects : ℕ
  pub fits : every_in_regions (region_fits objects) rs ≡ true
  pub unique : distinct (regions_ids rs) ≡ true
  pub of_node : (id : ℕ) (inputs : List Origin) → regions_fit (node id op inputs rs) ≡ true
  pub states : (id : ℕ) (inputs : List Origin) → theta_has_states (node id op inputs rs) ≡ true

abbrev pub AllSound : RegionTrees → Type 0
AllSound no_regions = Unit {0}
AllSound (region_then r rs) = IsSound r × AllSound rs

-- the regions of these nodes are closed, and sound with what is nested in them
abbrev pub AreInnerClosed : NodeTrees → Type 0
AreInnerClosed no_nodes = Unit {0}
AreInnerClosed (node_then x xs) = AllClosed (regions_in x) × AreInnerClosed xs

abbrev pub AreSoundNodes : NodeTrees → Type 0
AreSoundNodes no_nodes = Unit {0}
AreSoundNodes (node_then x xs) = (AreSoundIn (op_of x) (regions_in x) × AllSound (regions_in x)) × AreSoundNodes xs
