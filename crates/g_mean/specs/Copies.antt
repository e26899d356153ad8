-- Nodes whose inputs come from elsewhere and which have new numbers, and copies of regions under new numbers.
use Rattle.std.specs.Prelude.{◌≡◌, ◌≢◌, ℕ, ◌⊎◌, Bool, false, IsTrue, nat_lt, List, [], ◌∷◌, map, length}
use Rattle.val_core.specs.Answers.{Answer, Returned, Cut, Exited, Undefined}
use Rattle.g_graph.specs.declared.op.Origin.{Origin}
use Rattle.g_graph.specs.declared.op.Origin.TheVariants.{Arg, Out}
use Rattle.g_graph.specs.Plain.{RegionTree, region, NodeTree, node, NodeTrees, no_nodes, node_then, RegionTrees, no_regions, region_then, id_of}
use Rattle.g_graph.specs.Ids.{region_ids, nodes_ids}
use Rattle.g_mean.specs.Data.{Datum}
use Rattle.g_mean.specs.Meaning.{Context, Outputs, read, region_meaning, nodes_run}

-- an origin where the nodes have the numbers that `to` gives
abbrev pub renumbered : (to : ℕ → ℕ) → Origin → Origin
renumbered to (Arg k) = Arg k
renumbered to (Out n p) = Out (to n) p

-- A region with the numbers that `to` gives, at any depth; and nodes with such numbers and with the inputs that `move`
-- gives. The regions nested in them have origins of their own.
abbrev mutual
  pub region_copied : (to : ℕ → ℕ) → RegionTree → RegionTree
  region_copied to (region args nodes results) =
      region args (nodes_moved (renumbered to) to nodes) (map (renumbered to) results)

  pub node_moved : (move : Origin → Origin) → (to : ℕ → ℕ) → NodeTree → NodeTree
  node_moved move to (node id op inputs rs) = node (to id) op (map move inputs) (regions_copied to rs)

  pub nodes_moved : (move : Origin → Origin) → (to : ℕ → ℕ) → NodeTrees → NodeTrees
  nodes_moved move to no_nodes = no_nodes
  nodes_moved move to (node_then x ns) = node_then (node_moved move to x) (nodes_moved move to ns)

  pub regions_copied : (to : ℕ → ℕ) → RegionTrees → RegionTrees
  regions_copied to no_regions = no_regions
  regions_copied to (region_then r rs) = region_then (region_copied to r) (regions_copied to rs)

-- ---- what nodes read

abbrev pub IsAmong : ℕ → List ℕ → Type 0
IsAmong n [] = ⊥
IsAmong n (m ∷ ms) = (n ≡ m) ⊎ IsAmong n ms

abbrev pub IsOutputOf : List ℕ → Origin → Type 0
IsOutputOf known (Arg k) = ⊥
IsOutputOf known (Out n p) = IsAmong n known

-- one that `S` names, or an output of a known node
abbrev pub IsRead : (S : Origin → Bool) → (known : List ℕ) → Origin → Type 0
IsRead S known a = IsTrue (S a) ⊎ IsOutputOf known a

abbrev pub AreRead : (S : Origin → Bool) → (known : List ℕ) → List Origin → Type 0
AreRead S known [] = Unit {0}
AreRead S known (a ∷ origins) = IsRead S known a × AreRead S known origins

-- the nodes that are known after these
abbrev pub known_after : List ℕ → NodeTrees → List ℕ
known_after known no_nodes = known
known_after known (node_then x ns) = known_after (id_of x ∷ known) ns

-- one of so many arguments
abbrev pub is_argument : (count : ℕ) → Origin → Bool
is_argument count (Arg k) = nat_lt k count
is_argument count (Out n p) = false

-- Nodes read what `S` names and the outputs of earlier nodes; a closed region reads its arguments and the outputs of
-- its earlier nodes, and so do the regions nested in it.
abbrev mutual
  pub IsClosed : RegionTree → Type 0
  IsClosed (region args nodes results) =
      NodesRead (is_argument (length args)) [] nodes × AreRead (is_argument (length args)) (known_after [] nodes) results

  pub NodesRead : (S : Origin → Bool) → (known : List ℕ) → NodeTrees → Type 0
  NodesRead S known no_nodes = Unit {0}
  NodesRead S known (node_then x ns) = NodeReads S known x × NodesRead S (id_of x ∷ known) ns

  pub NodeReads : (S : Origin → Bool) → (known : List ℕ) → NodeTree → Type 0
  NodeReads S known (node id op inputs rs) = AreRead S known inputs × AllClosed rs

  pub AllClosed : RegionTrees → Type 0
  AllClosed no_regions = Unit {0}
  AllClosed (region_then r rs) = IsClosed r × AllClosed rs

-- ---- the copy law

-- the new numbers of two of these are equal only where they are
abbrev pub IsOneToOne : (ℕ → ℕ) → List ℕ → Type 0
IsOneToOne to ns = (m n : ℕ) → IsAmong m ns → IsAmong n ns → to m ≡ to n → m ≡ n

-- Nodes of these numbers can have other numbers and inputs: the numbers stay apart, each output goes with its node, and
-- what `S` names is no output of these nodes, neither before nor after.
pub record CanMove (S : Origin → Bool) (move : Origin → Origin) (to : ℕ → ℕ) (ids : List ℕ) : Type 0 where
  pub one : IsOneToOne to ids
  pub outputs : (n p : ℕ) → IsAmong n ids → move (Out n p) ≡ Out (to n) p
  pub apart : (a : Origin) (n p : ℕ) → IsTrue (S a) → a ≡ Out n p → IsAmong n ids → ⊥
  pub fresh : (a : Origin) (n p m : ℕ) → IsTrue (S a) → move a ≡ Out n p → IsAmong m ids → n ≢ to m

-- the answers are equal, but that their results relate by `R`
abbrev pub Same : {A B : Type 0} → (A → B → Type 0) → Answer A → Answer B → Type 0
Same R (Returned x o) (Returned y p) = R x y × (o ≡ p)
Same R (Cut o) (Cut p) = o ≡ p
Same R (Exited o s) (Exited p t) = (o ≡ p) × (s ≡ t)
Same R (Undefined o) (Undefined p) = o ≡ p
Same R _ _ = ⊥

-- what is read there carries what is read here
abbrev pub ReadSame : (S : Origin → Bool) → (known : List ℕ) → (move : Origin → Origin) → (xs ys : List Datum) → Outputs → Outputs → Type 0
ReadSame S known move xs ys o q = (a : Origin) → IsRead S known a → read ys q (move a) ≡ read xs o a

-- A region whose nodes have other numbers means the same.
abbrev pub CopiedRegionsMeanTheSame : Type 0
CopiedRegionsMeanTheSame =
    (to : ℕ → ℕ) (r : RegionTree) → IsClosed r → IsOneToOne to (region_ids r) → (c : Context) →
    region_meaning c (region_copied to r) ≡ region_meaning c r

-- Nodes, and the same with other numbers and inputs that carry the same, give the same and do the same.
abbrev pub CopiedNodesMeanTheSame : Type 0
CopiedNodesMeanTheSame =
    (S : Origin → Bool) (move : Origin → Origin) (to : ℕ → ℕ) (ns : NodeTrees) → CanMove S move to (nodes_ids ns) → NodesRead S [] ns →
    (c : Context) (xs ys : List Datum) (o q : Outputs) → ReadSame S [] move xs ys o q →
    Same (ReadSame S (known_after [] ns) move xs ys) (nodes_run c ns xs o) (nodes_run c (nodes_moved move to ns) ys q)

-- a copy under the same numbers is the region itself
abbrev pub CopiesToThemselves : Type 0
CopiesToThemselves = (r : RegionTree) → region_copied (λ n. n) r ≡ r
