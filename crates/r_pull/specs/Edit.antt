-- The parts of the change, as it is made: the node and the Gamma that uses it, and the lists that are new before the Gamma
-- changes.
use Rattle.std.specs.Prelude.{◌≡◌, ◌<◌, ◌≤◌, ◌+◌, ℕ, suc, not, ◌&&◌, if◌then◌else◌, Bool, false, List, [], ◌∷◌, map, length, drop, Option, None, Some, option_and_then, ⊤, vec_capacity}
use Rattle.g_graph.specs.declared.op.Op.{Op}
use Rattle.g_graph.specs.declared.op.Op.TheVariants.{Gamma}
use Rattle.g_graph.specs.declared.op.Kind.{Kind}
use Rattle.g_graph.specs.declared.op.Origin.{Origin}
use Rattle.g_graph.specs.Plain.{RegionTree, region, NodeTree, node, NodeTrees, no_nodes, node_then, RegionTrees, no_regions, region_then, nodes_of, id_of, nodes_in, regions_in, has_none}
use Rattle.g_graph.specs.Signatures.{is_pure}
use Rattle.g_graph.specs.WellFormed.{some_of}
use Rattle.g_graph.specs.Splice.{joined_nodes}
use Rattle.g_graph.specs.Replace.{nodes_redirected}
use Rattle.r_edit.specs.Uses.{is_output_of}
use Rattle.r_edit.specs.Entries.{node_taking}
use Rattle.r_edit.specs.Removal.{region_without}
use Rattle.r_pull.specs.declared.find.Found.{Found}
use Rattle.r_pull.specs.declared.into.Moved.{Moved}
use Rattle.r_pull.specs.declared.into.Planned.{Planned}
use Rattle.r_pull.specs.declared.plan.NewLists.{NewLists}
use Rattle.r_pull.specs.declared.plan.Plan.{Plan}
use Rattle.r_pull.specs.Rule.{node_uses, only_user, user_changed, copy_used, region_filled, copies_in, Pull, copies_of, gamma_pulled, added, gone, most_next}

-- ---- the node and its user

-- a Gamma whose predicate is no output of node n
abbrev pub takes : (n : ℕ) → NodeTree → Bool
takes n (node id Gamma (p ∷ entries) rs) = not (is_output_of n p)
takes n x = false

abbrev pub where_takes : (n : ℕ) → NodeTree → Option NodeTree
where_takes n x = if takes n x then Some x else None

-- the Gamma that node n of the region moves into
abbrev pub user_of : (n : ℕ) → RegionTree → NodeTree → Option NodeTree
user_of n (region args nodes results) (node id op inputs rs) =
    if is_pure op && has_none rs && not (some_of (is_output_of n) results) then option_and_then (where_takes n) (only_user n nodes) else None

abbrev pub entries_of : NodeTree → List Origin
entries_of (node id op inputs rs) = drop 1 inputs

-- a node, and the Gamma that it moves into
abbrev pub pull_into : NodeTree → NodeTree → Pull
pull_into (node id op inputs rs) (node gamma own entries regions) = record { op = op; inputs = inputs; entries = drop 1 entries; regions = regions }

abbrev pub pull_seen : Found → Pull
pull_seen f = pull_into f.node.now f.user.now

-- The number of copies is that of the change, and all numbers suffice.
pub record IsCounted (next n count : ℕ) (h : Pull) : Type 0 where
  pub copies : count ≡ copies_of n h
  pub numbers : next + count ≤ most_next
  pub index : length h.entries + length h.inputs ≤ 4294967296

-- the first of these nodes that uses node n
abbrev pub first_user : (n : ℕ) → NodeTrees → Option NodeTree
first_user n no_nodes = None
first_user n (node_then x ns) = if node_uses n x then Some x else first_user n ns

abbrev pub user_index : (n first : ℕ) → NodeTrees → Option ℕ
user_index n first no_nodes = None
user_index n first (node_then x ns) = if node_uses n x then Some first else user_index n (suc first) ns

-- ---- new lists of a region

abbrev pub with_args : (args : List Kind) → RegionTree → RegionTree
with_args more (region args nodes results) = region more nodes results

-- the region begins with these nodes, and its own read that copy instead of arguments that go
abbrev pub begun : (stays : List Bool) → (copy : ℕ) → (front : NodeTrees) → RegionTree → RegionTree
begun stays copy front (region args nodes results) = region args (joined_nodes front (nodes_redirected (copy_used stays copy) nodes)) (map (copy_used stays copy) results)

-- where there are such nodes; the first is the copy
abbrev pub begun_where : (stays : List Bool) → (front : List NodeTree) → RegionTree → RegionTree
begun_where stays [] r = r
begun_where stays (x ∷ front) r = begun stays (id_of x) (nodes_of (x ∷ front)) r

abbrev pub region_with : (stays : List Bool) → NewLists → RegionTree → RegionTree
region_with stays lists r = begun_where stays lists.nodes.items (with_args lists.args.items r)

abbrev pub count_nodes : NodeTrees → ℕ
count_nodes no_nodes = 0
count_nodes (node_then x ns) = suc (count_nodes ns)

-- The list of nodes, where it has any, has room for those of the region.
abbrev pub HasRoom : NewLists → RegionTree → Type 0
HasRoom lists r = 0 < length lists.nodes.items → length lists.nodes.items + count_nodes (nodes_in r) ≤ vec_capacity lists.nodes

-- With these lists the region is as it is to be.
pub record AreListsOf (stays : List Bool) (copy first : ℕ) (op : Op) (inputs : List Origin) (r : RegionTree) (lists : NewLists) : Type 0 where
  pub filled : region_with stays lists r ≡ region_filled stays copy first op inputs r
  pub count : length lists.nodes.items ≡ copies_in stays r
  pub room : HasRoom lists r

-- ---- new lists of all regions

abbrev pub regions_with : (stays : List Bool) → List NewLists → RegionTrees → RegionTrees
regions_with stays (m ∷ ms) (region_then r rs) = region_then (region_with stays m r) (regions_with stays ms rs)
regions_with stays ms rs = rs

abbrev pub HaveRoom : List NewLists → RegionTrees → Type 0
HaveRoom [] no_regions = ⊤
HaveRoom (m ∷ ms) (region_then r rs) = HasRoom m r × HaveRoom ms rs
HaveRoom ms rs = ⊥

abbrev pub AreListsOfAll : (stays : List Bool) (copy first : ℕ) (op : Op) (inputs : List Origin) → RegionTrees → List NewLists → Type 0
AreListsOfAll stays copy first op inputs no_regions [] = ⊤
AreListsOfAll stays copy first op inputs (region_then r rs) (m ∷ ms) =
    AreListsOf stays copy first op inputs r m × AreListsOfAll stays (copy + copies_in stays r) first op inputs rs ms
AreListsOfAll stays copy first op inputs rs ms = ⊥

-- ---- the change, once it is planned

-- the Gamma
abbrev pub taking : Plan → NodeTree → NodeTree
taking plan (node id op inputs rs) = node_taking plan.stays.items (node id op plan.inputs.items (regions_with plan.stays.items plan.lists.items rs))

-- what is planned for Gamma g that takes node x
pub record IsPlanFor (next n : ℕ) (x g : NodeTree) (plan : Plan) : Type 0 where
  pub taken : taking plan g ≡ gamma_pulled next n (pull_into x g) g
  pub room : HaveRoom plan.lists.items (regions_in g)

abbrev pub pulled_by : (n : ℕ) → Plan → RegionTree → RegionTree
pulled_by n plan (region args nodes results) = region_without n (region args (user_changed n (taking plan) nodes) results)

abbrev pub planned : (n : ℕ) → RegionTree → Option Plan → Option RegionTree
planned n r None = None
planned n r (Some plan) = Some (pulled_by n plan r)

abbrev pub Fits : (n : ℕ) → NodeTrees → Plan → Type 0
Fits n nodes plan = (g : NodeTree) → first_user n nodes ≡ Some g → HaveRoom plan.lists.items (regions_in g)

abbrev pub FitsPlanned : (n : ℕ) → NodeTrees → Option Plan → Type 0
FitsPlanned n nodes None = ⊤
FitsPlanned n nodes (Some plan) = Fits n nodes plan

-- ---- a move into one Gamma

abbrev pub moved_of : (n : ℕ) → Pull → Moved
moved_of n h = record { copies = copies_of n h; added = added n h; gone = gone n h }

-- the Gamma afterwards
abbrev pub gamma_after : (next n : ℕ) → Option Pull → NodeTree → NodeTree
gamma_after next n None g = g
gamma_after next n (Some h) g = gamma_pulled next n h g

abbrev pub IsPlannedFor : (next n : ℕ) → (x g : NodeTree) → Option Planned → Type 0
IsPlannedFor next n x g None = ⊤
IsPlannedFor next n x g (Some p) = IsPlanFor next n x g p.plan
