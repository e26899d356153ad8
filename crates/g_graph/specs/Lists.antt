-- Lists of lambdas in which every call has its callee.
use Rattle.std.specs.Prelude.{◌≡◌, ℕ, ◌+◌, ◌<◌, List, length, Some, slice_get}
use Rattle.g_graph.specs.declared.op.Op.{Op}
use Rattle.g_graph.specs.declared.op.Op.TheVariants.{Apply, Delta}
use Rattle.g_graph.specs.Plain.{RegionTree, region, NodeTree, node, NodeTrees, no_nodes, node_then, RegionTrees, no_regions, region_then, PlainLambda}
use Rattle.g_graph.specs.WellFormed.{IsWellFormed}

-- the property holds of the op of every node, at any depth, and of the number of its inputs
abbrev mutual
  pub RegionOps : (Op → ℕ → Type 0) → RegionTree → Type 0
  RegionOps p (region args nodes results) = NodesOps p nodes

  pub NodeOps : (Op → ℕ → Type 0) → NodeTree → Type 0
  NodeOps p (node id op inputs rs) = p op (length inputs) × RegionsOps p rs

  pub NodesOps : (Op → ℕ → Type 0) → NodeTrees → Type 0
  NodesOps p no_nodes = Unit {0}
  NodesOps p (node_then x xs) = NodeOps p x × NodesOps p xs

  pub RegionsOps : (Op → ℕ → Type 0) → RegionTrees → Type 0
  RegionsOps p no_regions = Unit {0}
  RegionsOps p (region_then r rs) = RegionOps p r × RegionsOps p rs

-- Function f is in the list, and so many inputs are one for each parameter and both states.
pub record HasCallee (ls : List PlainLambda) (f count : ℕ) : Type 0 where
  pub callee : PlainLambda
  pub there : slice_get ls f ≡ Some callee
  pub fits : count ≡ callee.params + 2

-- an Apply with so many inputs has its callee in the list
abbrev pub Calls : List PlainLambda → Op → (count : ℕ) → Type 0
Calls ls (Apply f) count = HasCallee ls f count
Calls ls op count = Unit {0}

-- a Delta names one of so many globals
abbrev pub NamesGlobal : (globals : ℕ) → Op → (count : ℕ) → Type 0
NamesGlobal globals (Delta k) count = k < globals
NamesGlobal globals op count = Unit {0}

-- the lambdas of a program: each is well formed, stands at its number, and calls lambdas of the list
pub record IsComplete (ls : List PlainLambda) : Type 0 where
  pub well_formed : (f : ℕ) (l : PlainLambda) → slice_get ls f ≡ Some l → IsWellFormed l
  pub numbered : (f : ℕ) (l : PlainLambda) → slice_get ls f ≡ Some l → l.number ≡ f
  pub calls : (f : ℕ) (l : PlainLambda) → slice_get ls f ≡ Some l → RegionOps (Calls ls) l.body
