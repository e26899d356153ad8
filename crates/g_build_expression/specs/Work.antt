-- Construction under way: the nodes of the region that stands open, the point after them, and the nodes whose regions
-- enclose it, the innermost first.
use Rattle.std.specs.Prelude.{ℕ, suc, Bool, true, false, List, [], ◌∷◌, ◌++◌, Option, None, Some}
use Rattle.g_graph.specs.declared.op.Origin.{Origin}
use Rattle.g_graph.specs.declared.op.Origin.TheVariants.{Arg, Out}
use Rattle.g_graph.specs.declared.op.Op.{Op}
use Rattle.g_graph.specs.declared.op.Op.TheVariants.{Apply}
use Rattle.g_graph.specs.Plain.{RegionTree, region, NodeTree, node, nodes_of, no_regions, regions_of}
use Rattle.g_build_def.specs.Writer.{carried_origins, carried_kinds, renamed, Point, with_states, Built, inside, exchanged}
use Rattle.g_build_expression.specs.Numbers.{origin_from}

-- A node whose regions are being made: the nodes before it, its number, its inputs, and its regions so far.
pub record Enclosing : Type 0 where
  pub nodes : List NodeTree
  pub id : ℕ
  pub inputs : List Origin
  pub regions : List RegionTree

pub record Work : Type 0 where
  pub enclosing : List Enclosing
  pub nodes : List NodeTree
  pub point : Point

-- after a part of a construction
abbrev pub made : {A : Type 0} → Work → Built A → Work
made w b = record { enclosing = w.enclosing; nodes = w.nodes ++ b.nodes; point = b.after }

-- at another point, with no more nodes
abbrev pub moved_to : Work → Point → Work
moved_to w p = record { enclosing = w.enclosing; nodes = w.nodes; point = p }

-- after one more node without regions, with the states as they are
abbrev pub node_added : Op → (inputs : List Origin) → Work → Work
node_added o os w = record {
  enclosing = w.enclosing;
  nodes = w.nodes ++ node w.point.next o os no_regions ∷ [];
  point = record { next = suc w.point.next; carried = w.point.carried };
}

-- after a call that has these inputs
abbrev pub applied : (function : ℕ) → (inputs : List Origin) → Work → Work
applied f os w = record {
  enclosing = w.enclosing;
  nodes = w.nodes ++ node w.point.next (Apply f) os no_regions ∷ [];
  point = with_states w.point (Out w.point.next 1) (Out w.point.next 2);
}

-- with the carried variables from a numbering
abbrev pub carried_from : (node : Option ℕ) → (first : ℕ) → Work → Work
carried_from n first w =
    record { enclosing = w.enclosing; nodes = w.nodes; point = record { next = w.point.next; carried = renamed w.point.carried (origin_from n first) } }

-- with no nodes in the region that stands open, and with other enclosing nodes
abbrev pub without_nodes : Work → Work
without_nodes w = record { enclosing = w.enclosing; nodes = []; point = w.point }

abbrev pub enclosing_is : List Enclosing → Work → Work
enclosing_is rs w = record { enclosing = rs; nodes = w.nodes; point = w.point }

-- the same with the carried variables as they are
abbrev pub opened : (inputs : List Origin) → Work → Work
opened os w = record {
  enclosing = record { nodes = w.nodes; id = w.point.next; inputs = os ++ carried_origins w.point.carried; regions = [] } ∷ w.enclosing;
  nodes = [];
  point = record { next = suc w.point.next; carried = w.point.carried };
}

-- a node with regions begins with these inputs and the carried ones, and its first region stands open
abbrev pub begun : (inputs : List Origin) → Work → Work
begun os w = record {
  enclosing = record { nodes = w.nodes; id = w.point.next; inputs = os ++ carried_origins w.point.carried; regions = [] } ∷ w.enclosing;
  nodes = [];
  point = inside w.point.carried (suc w.point.next);
}

-- the region that stands open
abbrev pub open_region : (results : List Origin) → Work → RegionTree
open_region os w = region (carried_kinds w.point.carried) (nodes_of w.nodes) (os ++ carried_origins w.point.carried)

abbrev pub with_regions : Enclosing → List RegionTree → Enclosing
with_regions a rs = record { nodes = a.nodes; id = a.id; inputs = a.inputs; regions = rs }

abbrev pub region_added : RegionTree → List Enclosing → List Enclosing
region_added r [] = []
region_added r (a ∷ rest) = with_regions a (a.regions ++ r ∷ []) ∷ rest

-- The region that stands open is closed with these results and the carried ones, and another one stands open.
abbrev pub closed : (results : List Origin) → Work → Work
closed os w = record {
  enclosing = region_added (open_region os w) w.enclosing;
  nodes = [];
  point = inside w.point.carried w.point.next;
}

abbrev pub regions_exchanged : List Enclosing → List Enclosing
regions_exchanged [] = []
regions_exchanged (a ∷ rest) = with_regions a (exchanged a.regions) ∷ rest

-- the first two regions change places
abbrev pub with_exchanged : Work → Work
with_exchanged w = record { enclosing = regions_exchanged w.enclosing; nodes = w.nodes; point = w.point }

-- the output of a carried variable, after an extra value or not
abbrev pub port_of : (extra : Bool) → ℕ → ℕ
port_of false k = k
port_of true k = suc k

abbrev pub extra_count : (extra : Bool) → ℕ
extra_count false = 0
extra_count true = 1

-- The node with regions ends: the region that stood open is left out.
abbrev pub ended_in : List Enclosing → Op → (extra : Bool) → Work → Work
ended_in [] o x w = w
ended_in (a ∷ rest) o x w = record {
  enclosing = rest;
  nodes = a.nodes ++ node a.id o a.inputs (regions_of a.regions) ∷ [];
  point = record { next = w.point.next; carried = renamed w.point.carried (λ k. Out a.id (port_of x k)) };
}

-- its number, and the node at its end
abbrev pub ended_id : List Enclosing → Option ℕ
ended_id [] = None
ended_id (a ∷ rest) = Some a.id

abbrev pub node_ended : List Enclosing → Op → Work → Work
node_ended [] o w = w
node_ended (a ∷ rest) o w = record { enclosing = rest; nodes = a.nodes ++ node a.id o a.inputs (regions_of a.regions) ∷ []; point = w.point }

abbrev pub ended : Op → (extra : Bool) → Work → Work
ended o x w = ended_in w.enclosing o x w

-- its first output
abbrev pub ended_value : List Enclosing → Origin
ended_value [] = Arg 0
ended_value (a ∷ rest) = Out a.id 0
