-- What is asked of a rule so that a walk of it is its sweep.
use Rattle.std.specs.Prelude.{◌≡◌, ◌+◌, ◌<◌, ℕ, zero, suc, true, false, List, [], ◌∷◌, ◌++◌, map, Option, None, Some}
use Rattle.g_graph.specs.declared.op.Kind.{Kind}
use Rattle.g_graph.specs.declared.op.Origin.{Origin}
use Rattle.g_graph.specs.declared.op.Origin.TheVariants.{Arg, Out}
use Rattle.g_graph.specs.Ids.{region_ids, node_ids, nodes_ids, regions_ids}
use Rattle.g_graph.specs.Plain.{RegionTree, region, NodeTree, NodeTrees, node_then, RegionTrees, no_regions, region_then, id_of, regions_in, PlainLambda}
use Rattle.g_graph.specs.Program.{lambda_values}
use Rattle.g_graph.specs.Replace.{nodes_redirected}
use Rattle.g_graph.specs.Splice.{outputs_to_results, args_to_inputs, joined_nodes}
use Rattle.g_graph.specs.WellFormed.{IsWellFormed}
use Rattle.g_mean.specs.Copies.{IsAmong}
use Rattle.r_sweep_def.specs.Swept.{Logged, Change, swept_by}
use Rattle.r_walk.specs.Walk.{Part, stays, becomes, opened, Asked, is_in, inputs_of_nodes, results_from, walked}
use Rattle.r_walk.specs.Context.{IsContext}

-- an origin is an argument, or an output of one of these nodes
abbrev pub IsOutputAmong : List ℕ → Origin → Type 0
IsOutputAmong ns (Arg k) = Unit {0}
IsOutputAmong ns (Out n p) = IsAmong n ns

abbrev pub AreOutputsAmong : List ℕ → List Origin → Type 0
AreOutputsAmong ns [] = Unit {0}
AreOutputsAmong ns (o ∷ os) = IsOutputAmong ns o × AreOutputsAmong ns os

abbrev pub region_at : (which : ℕ) → RegionTrees → Option RegionTree
region_at which no_regions = None
region_at zero (region_then r rs) = Some r
region_at (suc which) (region_then r rs) = region_at which rs

-- the region with these nodes in the place of a node, where uses of its outputs become these origins
abbrev pub region_with : (args : List Kind) → (before : NodeTrees) → (node : ℕ) → (nodes : NodeTrees) → (outputs : List Origin) → (after : NodeTrees) → (results : List Origin) → RegionTree
region_with args before n nodes outputs after results =
    region args (joined_nodes before (joined_nodes nodes (nodes_redirected (outputs_to_results n outputs) after))) (map (outputs_to_results n outputs) results)

-- ---- what holds of the rule where it says so of a node x of a region with these nodes around it

module _ (c : Change) (l : PlainLambda) (context : RegionTree → RegionTree) (args : List Kind) (before : NodeTrees) (x : NodeTree) (after : NodeTrees) (results : List Origin) where
  -- The rule makes these nodes of it, and then applies at none of the numbers that were within it. Each new output is there,
  -- and what is numbered anew has a number from the next one on.
  pub record Becomes (nodes : NodeTrees) (outputs : List Origin) (taken : ℕ) : Type 0 where
    pub applies : c.applies l (id_of x) ≡ true
    pub changed : c.changed (id_of x) l ≡ record l { body = context (region_with args before (id_of x) nodes outputs after results); next = l.next + taken }
    pub known : AreOutputsAmong (nodes_ids before ++ node_ids x ++ nodes_ids nodes) outputs
    pub numbers : (n : ℕ) → n < l.next → IsAmong n (nodes_ids nodes) → IsAmong n (node_ids x)
    pub inert : (n : ℕ) → IsAmong n (regions_ids (regions_in x)) → c.applies (c.changed (id_of x) l) n ≡ false

  -- The rule puts the nodes of this region in its place.
  pub record Opens (which : ℕ) (inputs : List Origin) (from : ℕ) : Type 0 where
    pub own : List Kind
    pub nodes : NodeTrees
    pub gives : List Origin
    pub is : region_at which (regions_in x) ≡ Some (region own nodes gives)
    pub applies : c.applies l (id_of x) ≡ true
    pub changed : c.changed (id_of x) l ≡
        record l { body = context (region_with args before (id_of x) (nodes_redirected (args_to_inputs inputs) nodes) (results_from from inputs gives) after results) }
    pub known : AreOutputsAmong (nodes_ids before) inputs

  abbrev pub IsSaid : Part → Type 0
  IsSaid stays = c.applies l (id_of x) ≡ false
  IsSaid (becomes nodes outputs taken) = Becomes nodes outputs taken
  IsSaid (opened which inputs from) = Opens which inputs from

-- What the rule makes of a well-formed lambda is well formed; it applies at no number that the lambda does not have; and
-- of each node it does what it says, where the node's outputs have the uses that later nodes and the results make.
pub record IsLocal (c : Change) (ask : Asked) : Type 0 where
  pub keeps : (l : PlainLambda) (n : ℕ) → IsWellFormed l → c.applies l n ≡ true → IsWellFormed (c.changed n l)
  pub absent : (l : PlainLambda) (n : ℕ) → (IsAmong n (region_ids l.body) → ⊥) → c.applies l n ≡ false
  pub said : (l : PlainLambda) (context : RegionTree → RegionTree) (args : List Kind) (before : NodeTrees) (x : NodeTree) (after : NodeTrees) (results uses : List Origin) →
      IsContext context → IsWellFormed l → l.body ≡ context (region args (joined_nodes before (node_then x after)) results) →
      ((p : ℕ) → is_in uses (Out (id_of x) p) ≡ is_in (inputs_of_nodes after ++ results) (Out (id_of x) p)) →
      IsSaid c l context args before x after results (ask (lambda_values l) l.next before uses x)

-- ---- the law

-- A walk of such a rule over a well-formed lambda makes the steps and the lambda of its sweep.
abbrev pub WalksAreSweeps : Type 0
WalksAreSweeps =
    (c : Change) (ask : Asked) (s : Logged) → IsLocal c ask → IsWellFormed s.lambda → walked c.rule ask s ≡ swept_by c (region_ids s.lambda.body) s
