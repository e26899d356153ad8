-- When meanings on two sides, a nearer one to the source and a farther one, refine, and when trees are equal but for
-- some regions.
use Rattle.std.specs.Prelude.{◌≡◌, ℕ, ◌≤◌, ◌⊎◌, List, [], ◌∷◌}
use Rattle.val_core.specs.Events.{Event}
use Rattle.val_core.specs.Refinement.{Direction, Forward, Backward, Comparison, Refines}
use Rattle.val_core.specs.RunLaws.{GoesOn}
use Rattle.g_graph.specs.Plain.{RegionTree, region, NodeTree, node, NodeTrees, no_nodes, node_then, RegionTrees, no_regions, region_then, PlainLambda}
use Rattle.g_mean.specs.Data.{Datum, val}
use Rattle.g_mean.specs.Meaning.{Meaning, Context, region_meaning}
use Rattle.g_mean.specs.LessDefined.{Paired}

-- a comparison that goes on, that holds of equal events, and that is the strongest where both sides have ended
pub record Compares (cmp : Comparison) : Type 0 where
  pub goes : GoesOn cmp
  pub itself : (o : List Event) → cmp.Same o o
  pub near : (o p : List Event) → cmp.Same o p → cmp.NearIsPrefix o p
  pub far : (o p : List Event) → cmp.Same o p → cmp.FarIsPrefix o p

-- the side that may be cut first has the lesser bound
abbrev pub InOrder : Direction → (near far : ℕ) → Type 0
InOrder Forward n m = n ≤ m
InOrder Backward n m = m ≤ n

-- on data that relate by `N` the answers refine
pub record MeaningRefines (cmp : Comparison) (direction : Direction) (N : Datum → Datum → Type 0) (near far : Meaning) : Type 0 where
  pub on : (xs ys : List Datum) → Paired N xs ys → Refines cmp direction (Paired N) (near xs) (far ys)

-- what stands around regions on the two sides
pub record ContextRefines (cmp : Comparison) (direction : Direction) (N : Datum → Datum → Type 0) (c d : Context) : Type 0 where
  pub bounds : InOrder direction c.bound d.bound
  pub calls : (f : ℕ) → MeaningRefines cmp direction N (c.call f) (d.call f)
  pub locals : (k : ℕ) → N (val (c.addresses.local k)) (val (d.addresses.local k))
  pub globals : (k : ℕ) → N (val (c.addresses.global k)) (val (d.addresses.global k))

-- two regions refine wherever what stands around them is, and is as `Q` says
pub record RegionRefines (cmp : Comparison) (direction : Direction) (N : Datum → Datum → Type 0) (Q : Context → Context → Type 0) (r s : RegionTree) : Type 0 where
  pub at : (c d : Context) → ContextRefines cmp direction N c d → Q c d → MeaningRefines cmp direction N (region_meaning c r) (region_meaning d s)

-- trees that are equal but for regions, at any depth, that relate by `P`
abbrev mutual
  pub SameBut : (P : RegionTree → RegionTree → Type 0) → RegionTree → RegionTree → Type 0
  SameBut P (region args nodes results) (region args' nodes' results') =
      P (region args nodes results) (region args' nodes' results') ⊎ ((args ≡ args') × NodesSameBut P nodes nodes' × (results ≡ results'))

  pub NodeSameBut : (P : RegionTree → RegionTree → Type 0) → NodeTree → NodeTree → Type 0
  NodeSameBut P (node id op inputs rs) (node id' op' inputs' rs') =
      (id ≡ id') × (op ≡ op') × (inputs ≡ inputs') × RegionsSameBut P rs rs'

  pub NodesSameBut : (P : RegionTree → RegionTree → Type 0) → NodeTrees → NodeTrees → Type 0
  NodesSameBut P no_nodes no_nodes = Unit {0}
  NodesSameBut P (node_then x xs) (node_then y ys) = NodeSameBut P x y × NodesSameBut P xs ys
  NodesSameBut P _ _ = ⊥

  pub RegionsSameBut : (P : RegionTree → RegionTree → Type 0) → RegionTrees → RegionTrees → Type 0
  RegionsSameBut P no_regions no_regions = Unit {0}
  RegionsSameBut P (region_then r rs) (region_then s ss) = SameBut P r s × RegionsSameBut P rs ss
  RegionsSameBut P _ _ = ⊥

-- lambdas that are equal but for such regions in their bodies, and for the number of the next node
pub record LambdaSameBut (P : RegionTree → RegionTree → Type 0) (l k : PlainLambda) : Type 0 where
  pub number : l.number ≡ k.number
  pub params : l.params ≡ k.params
  pub objects : l.objects ≡ k.objects
  pub body : SameBut P l.body k.body

abbrev pub LambdasSameBut : (P : RegionTree → RegionTree → Type 0) → List PlainLambda → List PlainLambda → Type 0
LambdasSameBut P [] [] = Unit {0}
LambdasSameBut P (l ∷ ls) (k ∷ ks) = LambdaSameBut P l k × LambdasSameBut P ls ks
LambdasSameBut P _ _ = ⊥
