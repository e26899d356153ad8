-- Pull: a node that gives a value, and of which every use is an entry of one Gamma, moves into the regions that use it
-- (Reissmann et al., RVSDG, 2020). Its inputs become the last entries.
use Rattle.std.specs.Prelude.{ℕ, zero, suc, ◌+◌, ◌*◌, ◌^◌, nat_le, not, ◌&&◌, if◌then◌else◌, Bool, true, false, List, [], ◌∷◌, ◌++◌, map, length, replicate, Option, None, Some, option_map, option_and_then, is_some, unwrap_or}
use Rattle.std.specs.Option.{option_or}
use Rattle.g_graph.specs.declared.op.Kind.TheVariants.{Value}
use Rattle.g_graph.specs.declared.op.Op.{Op}
use Rattle.g_graph.specs.declared.op.Op.TheVariants.{Gamma}
use Rattle.g_graph.specs.declared.op.Origin.{Origin}
use Rattle.g_graph.specs.declared.op.Origin.TheVariants.{Arg, Out}
use Rattle.g_graph.specs.Plain.{RegionTree, region, NodeTree, node, NodeTrees, no_nodes, node_then, RegionTrees, no_regions, region_then, args_of, nodes_in, has_none, PlainLambda}
use Rattle.g_graph.specs.Signatures.{is_pure}
use Rattle.g_graph.specs.WellFormed.{some_of}
use Rattle.g_graph.specs.Replace.{region_redirected}
use Rattle.g_graph.specs.Change.{lambda_changed}
use Rattle.g_graph.specs.Nodes.{node_at}
use Rattle.g_graph.specs.Program.{lambda_values}
use Rattle.r_edit.specs.Uses.{nodes_read, is_read, is_output_of}
use Rattle.r_edit.specs.Places.{stays_at}
use Rattle.r_edit.specs.Entries.{is_gone_argument, some_reads, node_taking}
use Rattle.r_edit.specs.Removal.{region_without}
use Rattle.r_edit.specs.Size.{may_change_size}

-- ---- the uses of node n

abbrev pub node_uses : (n : ℕ) → NodeTree → Bool
node_uses n (node id op inputs rs) = some_of (is_output_of n) inputs

-- the node that uses it, where that is the only one
abbrev pub only_user : (n : ℕ) → NodeTrees → Option NodeTree
only_user n no_nodes = None
only_user n (node_then x ns) = if node_uses n x then (if nodes_read (is_output_of n) ns then None else Some x) else only_user n ns

-- the first node that uses it is what f makes of it
abbrev pub user_changed : (n : ℕ) → (NodeTree → NodeTree) → NodeTrees → NodeTrees
user_changed n f no_nodes = no_nodes
user_changed n f (node_then x ns) = if node_uses n x then node_then (f x) ns else node_then x (user_changed n f ns)

-- the entries that stay are those that do not use it
abbrev pub other_entries : (n : ℕ) → (entries : List Origin) → List Bool
other_entries n entries = map (λ a. not (is_output_of n a)) entries

-- ---- a region of the Gamma

abbrev pub args_added : (count : ℕ) → RegionTree → RegionTree
args_added count (region args nodes results) = region (args ++ replicate count Value) nodes results

-- arguments from a first one on, as many as there are inputs
abbrev pub args_from : (first : ℕ) → (inputs : List Origin) → List Origin
args_from first [] = []
args_from first (a ∷ inputs) = Arg first ∷ args_from (suc first) inputs

-- the output of the copy instead of the arguments that go
abbrev pub copy_used : (stays : List Bool) → (copy : ℕ) → Origin → Origin
copy_used stays copy (Arg k) = if stays_at stays k then Arg k else Out copy 0
copy_used stays copy (Out n p) = Out n p

abbrev pub begun_with : (x : NodeTree) → RegionTree → RegionTree
begun_with x (region args nodes results) = region args (node_then x nodes) results

-- A region takes one more argument for each of the inputs. Where it reads an argument that goes it begins with a copy
-- of the node on these arguments, and reads that copy.
abbrev pub region_filled : (stays : List Bool) → (copy first : ℕ) → Op → (inputs : List Origin) → RegionTree → RegionTree
region_filled stays copy first op inputs r =
    if is_read (is_gone_argument stays) r
    then begun_with (node copy op (args_from first inputs) no_regions) (region_redirected (copy_used stays copy) (args_added (length inputs) r))
    else args_added (length inputs) r

-- so many copies are made in a region
abbrev pub copies_in : (stays : List Bool) → RegionTree → ℕ
copies_in stays r = if is_read (is_gone_argument stays) r then 1 else 0

-- The copies have consecutive numbers, in the order of the regions.
abbrev pub regions_filled : (stays : List Bool) → (copy first : ℕ) → Op → (inputs : List Origin) → RegionTrees → RegionTrees
regions_filled stays copy first op inputs no_regions = no_regions
regions_filled stays copy first op inputs (region_then r rs) =
    region_then (region_filled stays copy first op inputs r) (regions_filled stays (copy + copies_in stays r) first op inputs rs)

abbrev pub copies : (stays : List Bool) → RegionTrees → ℕ
copies stays no_regions = 0
copies stays (region_then r rs) = copies_in stays r + copies stays rs

-- ---- the Gamma

-- with these inputs as last entries
abbrev pub node_filled : (stays : List Bool) → (copy first : ℕ) → Op → (inputs : List Origin) → NodeTree → NodeTree
node_filled stays copy first op inputs (node id gamma entries rs) = node id gamma (entries ++ inputs) (regions_filled stays copy first op inputs rs)

-- what moves, and where: the op and the inputs of the node, and the entries and regions of the only Gamma that uses it
pub record Pull : Type 0 where
  pub op : Op
  pub inputs : List Origin
  pub entries : List Origin
  pub regions : RegionTrees

abbrev pub stays_of : (n : ℕ) → Pull → List Bool
stays_of n h = other_entries n h.entries

-- Where no region uses an argument that goes no input is carried.
abbrev pub inputs_carried : (n : ℕ) → Pull → List Origin
inputs_carried n h = if some_reads (stays_of n h) h.regions then h.inputs else []

abbrev pub copies_of : (n : ℕ) → Pull → ℕ
copies_of n h = copies (stays_of n h) h.regions

abbrev pub gamma_pulled : (next n : ℕ) → Pull → NodeTree → NodeTree
gamma_pulled next n h g =
    node_taking (stays_of n h) (node_filled (stays_of n h) next (length h.entries) h.op (inputs_carried n h) g)

-- ---- the size

-- so many of the first arguments go
abbrev pub gone_among : (stays : List Bool) → (count : ℕ) → ℕ
gone_among [] count = 0
gone_among (t ∷ ts) zero = 0
gone_among (true ∷ ts) (suc count) = gone_among ts count
gone_among (false ∷ ts) (suc count) = suc (gone_among ts count)

abbrev pub gone_args : (stays : List Bool) → (more : ℕ) → RegionTrees → ℕ
gone_args stays more no_regions = 0
gone_args stays more (region_then r rs) = gone_among stays (length (args_of r) + more) + gone_args stays more rs

abbrev pub more_args : (more : ℕ) → RegionTrees → ℕ
more_args more no_regions = 0
more_args more (region_then r rs) = more + more_args more rs

-- The values that come: arguments, and for each copy a node and its output.
abbrev pub added : (n : ℕ) → Pull → ℕ
added n h = more_args (length (inputs_carried n h)) h.regions + 2 * copies_of n h

-- The values that go: arguments, the node and its output.
abbrev pub gone : (n : ℕ) → Pull → ℕ
gone n h = gone_args (stays_of n h) (length (inputs_carried n h)) h.regions + 2

-- the greatest number that the next node may have
abbrev pub most_next : ℕ
most_next = 4294967295

-- In a lambda of so many values, with that next number: it may change so, and its numbers suffice. So do those of
-- arguments, as they always do in a lambda within the limits.
abbrev pub fits : (values next n : ℕ) → Pull → Bool
fits values next n h =
    may_change_size values (added n h) (gone n h) && nat_le (next + copies_of n h) most_next && nat_le (length h.entries + length h.inputs) (2 ^ 32)

-- ---- the rule

abbrev pub into : (n : ℕ) → Op → (inputs : List Origin) → (user : NodeTree) → Option Pull
into n op inputs (node id Gamma (p ∷ entries) rs) =
    if is_output_of n p then None else Some (record { op = op; inputs = inputs; entries = entries; regions = rs })
into n op inputs x = None

-- A pure node of the region, of which no output is a result, and that one Gamma uses, by entries alone.
abbrev pub pull_of : (n : ℕ) → RegionTree → NodeTree → Option Pull
pull_of n (region args nodes results) (node id op inputs rs) =
    if is_pure op && has_none rs && not (some_of (is_output_of n) results) then option_and_then (into n op inputs) (only_user n nodes) else None

abbrev pub where_fits : (values next n : ℕ) → Pull → Option Pull
where_fits values next n h = if fits values next n h then Some h else None

abbrev pub pull_at : (values next n : ℕ) → RegionTree → Option Pull
pull_at values next n r = option_and_then (where_fits values next n) (option_and_then (pull_of n r) (node_at n (nodes_in r)))

-- the region that holds node n, with the Gamma changed and without the node
abbrev pub region_pulled : (next n : ℕ) → RegionTree → Pull → RegionTree
region_pulled next n (region args nodes results) h = region_without n (region args (user_changed n (gamma_pulled next n h) nodes) results)

abbrev pub pull_here : (values next n : ℕ) → RegionTree → Option RegionTree
pull_here values next n r = option_map (region_pulled next n r) (pull_at values next n r)

-- how many copies the change of a region makes
abbrev pub copies_here : (values next n : ℕ) → RegionTree → Option ℕ
copies_here values next n r = option_map (copies_of n) (pull_at values next n r)

-- of the first region, in pre-order, that has an answer
abbrev mutual
  pub region_answer : {X : Type 0} → (RegionTree → Option X) → RegionTree → Option X
  region_answer f (region args nodes results) = option_or (f (region args nodes results)) (nodes_answer f nodes)

  pub node_answer : {X : Type 0} → (RegionTree → Option X) → NodeTree → Option X
  node_answer f (node id op inputs rs) = regions_answer f rs

  pub nodes_answer : {X : Type 0} → (RegionTree → Option X) → NodeTrees → Option X
  nodes_answer f no_nodes = None
  nodes_answer f (node_then x xs) = option_or (node_answer f x) (nodes_answer f xs)

  pub regions_answer : {X : Type 0} → (RegionTree → Option X) → RegionTrees → Option X
  regions_answer f no_regions = None
  regions_answer f (region_then r rs) = option_or (region_answer f r) (regions_answer f rs)

-- how many copies the rule makes at a node, where it applies
abbrev pub copies_at : PlainLambda → ℕ → Option ℕ
copies_at l n = region_answer (copies_here (lambda_values l) l.next n) l.body

-- whether the rule applies at a node, and the changed lambda, whose next number follows those of the copies
abbrev pub applies : PlainLambda → ℕ → Bool
applies l n = is_some (copies_at l n)

abbrev pub lambda_pulled : ℕ → PlainLambda → PlainLambda
lambda_pulled n l = record (lambda_changed (pull_here (lambda_values l) l.next n) l) { next = l.next + unwrap_or (copies_at l n) 0 }
