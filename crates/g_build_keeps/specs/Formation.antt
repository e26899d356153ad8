-- How well formed regions are put together: a node after those that stand already, a region around its nodes. What is
-- known at a point of a region grows with each node, so nothing is asked of the nodes before it as a list.
use Rattle.std.specs.Prelude.{◌≡◌, ◌⊎◌, ℕ, suc, ◌≤◌, ◌==◌, true, List, [], ◌∷◌, length, map, if◌then◌else◌, slice_get, Option, None, Some}
use Rattle.g_graph.specs.declared.op.Kind.{Kind}
use Rattle.g_graph.specs.declared.op.Kind.TheVariants.{Value, Memory, Io}
use Rattle.g_graph.specs.declared.op.Origin.{Origin}
use Rattle.g_graph.specs.declared.op.Origin.TheVariants.{Arg, Out}
use Rattle.g_graph.specs.declared.op.Op.{Op}
use Rattle.g_graph.specs.declared.op.Op.TheVariants.{Gamma, Theta}
use Rattle.g_graph.specs.Plain.{RegionTree, region, NodeTree, node, NodeTrees, no_nodes, node_then, RegionTrees, no_regions, region_then, id_of}
use Rattle.g_graph.specs.Signatures.{kind_of, inputs_of, op_outputs}
use Rattle.g_graph.specs.Scope.{same_kind}
use Rattle.g_graph.specs.WellFormed.{some_of, one_state_each}

-- ---- points of a region

-- What is known at a point of a region: a number that no node has yet, nor any number after it; the kind of each origin
-- that there is; and the origins of the states.
pub record Standing : Type 0 where
  pub next : ℕ
  pub kind : Origin → Option Kind
  pub memory : Origin
  pub io : Origin

-- the last origin of a kind among these, by a numbering, or the one before
abbrev pub last_origin : Kind → (ℕ → Origin) → List Kind → Origin → Origin
last_origin k f [] o = o
last_origin k f (j ∷ js) o = last_origin k (λ p. f (suc p)) js (if same_kind k j then f 0 else o)

-- the start of a region with these arguments
abbrev pub at_start : (next : ℕ) → (args : List Kind) → Standing
at_start n args =
    record { next = n; kind = kind_of args (λ id p. None); memory = last_origin Memory Arg args (Arg 0); io = last_origin Io Arg args (Arg 0) }

abbrev pub with_outputs : (Origin → Option Kind) → (id : ℕ) → List Kind → Origin → Option Kind
with_outputs kind id ks (Arg k) = kind (Arg k)
with_outputs kind id ks (Out n p) = if id == n then slice_get ks p else kind (Out n p)

-- after one more node, with this number and outputs of these kinds, and with the next number after its regions
abbrev pub after_node : Standing → (id : ℕ) → (outputs : List Kind) → (next : ℕ) → Standing
after_node c id ks m =
    record { next = m; kind = with_outputs c.kind id ks; memory = last_origin Memory (Out id) ks c.memory; io = last_origin Io (Out id) ks c.io }

-- ---- origins that may be used

-- an origin of this kind; of a state the last one
abbrev pub Has : Standing → Kind → Origin → Type 0
Has c Value o = c.kind o ≡ Some Value
Has c Memory o = (c.kind o ≡ Some Memory) × (c.memory ≡ o)
Has c Io o = (c.kind o ≡ Some Io) × (c.io ≡ o)

abbrev pub HasAll : Standing → List Kind → List Origin → Type 0
HasAll c [] [] = Unit {0}
HasAll c (k ∷ ks) (o ∷ os) = Has c k o × HasAll c ks os
HasAll c ks os = ⊥

-- kinds with both states, each once
pub record HasBothStates (ks : List Kind) : Type 0 where
  pub once : one_state_each (map Some ks) ≡ true
  pub memory : some_of (same_kind Memory) ks ≡ true
  pub io : some_of (same_kind Io) ks ≡ true

-- ---- nodes and regions

-- a node without regions
pub record FormsNode (c : Standing) (op : Op) (id : ℕ) (inputs : List Origin) (rs : RegionTrees) (outputs : List Kind) (next : ℕ) : Type 0 where
  pub without : rs ≡ no_regions
  pub takes : HasAll c (inputs_of op (length inputs) no_regions) inputs
  pub gives : outputs ≡ op_outputs op
  pub rises : next ≡ suc id

-- numbers from `low` on and before `high`, and those from `from` on and before `to`, lie within bounds and are apart
pub record AreApart (first low high from to next : ℕ) : Type 0 where
  pub low_within : first ≤ low
  pub high_within : high ≤ next
  pub from_within : first ≤ from
  pub to_within : to ≤ next
  pub apart : (high ≤ from) ⊎ (to ≤ low)

-- a Gamma has regions, and a Theta has one
abbrev pub AreSome : RegionTrees → Type 0
AreSome no_regions = ⊥
AreSome (region_then r rs) = Unit {0}

abbrev pub IsOne : RegionTrees → Type 0
IsOne no_regions = ⊥
IsOne (region_then r no_regions) = Unit {0}
IsOne (region_then r (region_then s rs)) = ⊥

-- A node gives outputs of these kinds, and the next number is this one. Regions of a Gamma have its entries and exits, the
-- region of a Theta its loop variables. Both have both states. The op of each node is allowed with its number of inputs.
abbrev mutual
  pub NodeForms : (Op → ℕ → Type 0) → Standing → NodeTree → (outputs : List Kind) → (next : ℕ) → Type 0
  NodeForms allowed c (node id Gamma inputs rs) ks m =
      (c.next ≤ id) × allowed Gamma (length inputs)
      × ((args : List Kind) × HasAll c (Value ∷ args) inputs × HasBothStates args × HasBothStates ks × AreSome rs × RegionsForm allowed (suc id) args ks rs m)
  NodeForms allowed c (node id Theta inputs rs) ks m =
      (c.next ≤ id) × allowed Theta (length inputs) × (HasAll c ks inputs × HasBothStates ks × IsOne rs × RegionsForm allowed (suc id) ks (Value ∷ ks) rs m)
  NodeForms allowed c (node id op inputs rs) ks m = (c.next ≤ id) × allowed op (length inputs) × FormsNode c op id inputs rs ks m

  -- nodes, one after another, to a point where this holds
  pub NodesForm : (Op → ℕ → Type 0) → Standing → NodeTrees → (Standing → Type 0) → Type 0
  NodesForm allowed c no_nodes P = P c
  NodesForm allowed c (node_then x ns) P =
      (ks : List Kind) × (m : ℕ) × NodeForms allowed c x ks m × NodesForm allowed (after_node c (id_of x) ks m) ns P

  -- a region with these arguments and results, whose nodes have numbers from the first on and before the other
  pub RegionForms : (Op → ℕ → Type 0) → (first : ℕ) → (args results : List Kind) → RegionTree → (next : ℕ) → Type 0
  RegionForms allowed n args outs (region own nodes results) m = (own ≡ args) × NodesForm allowed (at_start n args) nodes (λ c. (c.next ≡ m) × HasAll c outs results)

  -- The numbers of a region come before those of the regions that follow it, or after them.
  pub RegionsForm : (Op → ℕ → Type 0) → (first : ℕ) → (args results : List Kind) → RegionTrees → (next : ℕ) → Type 0
  RegionsForm allowed n args outs no_regions m = n ≤ m
  RegionsForm allowed n args outs (region_then r rs) m =
      (low : ℕ) × (high : ℕ) × (from : ℕ) × (to : ℕ) × RegionForms allowed low args outs r high × RegionsForm allowed from args outs rs to × AreApart n low high from to m
