-- In a complete list each function that is called is there.
use Rattle.std.proofs.Common.{◌<◌, ℕ, zero, suc, List, [], ◌∷◌, length, Contains, inl, inr, arith}
use Rattle.std.proofs.lemmas.Option.{slice_get_within}
use Rattle.std.proofs.lemmas.List.Elements.{Contains-append_cases}
use Rattle.g_graph.specs.declared.op.Op.{Op}
use Rattle.g_graph.specs.declared.op.Op.TheVariants.{Const, Undef, Local, Delta, Bin, Un, Load, Store, Clear, PtrEq, Apply, Put, Exit, Get, Gamma, Theta}
use Rattle.g_graph.specs.Plain.{RegionTree, region, NodeTree, node, NodeTrees, no_nodes, node_then, RegionTrees, no_regions, region_then, PlainLambda}
use Rattle.g_graph.specs.Lists.{RegionOps, NodeOps, NodesOps, RegionsOps, Calls}
use Rattle.g_pass_order.specs.Calls.{op_calls, region_calls, node_calls, nodes_calls, regions_calls}
use Rattle.g_pass_order.specs.Laws.{CompleteListsKnowCalls}
use Rattle.g_pass_order.proofs.lemmas.Contained.{contains-none}

module _ (ls : List PlainLambda) (f : ℕ) where
  none : Contains [] f → f < length ls
  none h = absurd (contains-none f h)

  op-known : (op : Op) (count : ℕ) → Calls ls op count → Contains (op_calls op) f → f < length ls
  op-known (Apply g) count has h = by h
    where
      by : Contains (g ∷ []) f → f < length ls
      by (zero, low, same) = let inside = slice_get_within ls g has.callee has.there in omega (arith, inside, same)
      by (suc k, low, same) = absurd (omega (arith, low))
  op-known (Const w) count has h = none h
  op-known Undef count has h = none h
  op-known (Local k) count has h = none h
  op-known (Delta k) count has h = none h
  op-known (Bin op) count has h = none h
  op-known (Un op) count has h = none h
  op-known (Load w) count has h = none h
  op-known (Store w) count has h = none h
  op-known (Clear k) count has h = none h
  op-known PtrEq count has h = none h
  op-known Put count has h = none h
  op-known Exit count has h = none h
  op-known Get count has h = none h
  op-known Gamma count has h = none h
  op-known Theta count has h = none h

  mutual
    region-known : (r : RegionTree) → RegionOps (Calls ls) r → Contains (region_calls r) f → f < length ls
    region-known (region args nodes results) ops h = nodes-known nodes ops h

    node-known : (x : NodeTree) → NodeOps (Calls ls) x → Contains (node_calls x) f → f < length ls
    node-known (node id op inputs rs) ops h =
        elim (Contains-append_cases (op_calls op) (regions_calls rs) f h) [ inl a ↦ op-known op (length inputs) ops.0 a | inr b ↦ regions-known rs ops.1 b ]

    nodes-known : (xs : NodeTrees) → NodesOps (Calls ls) xs → Contains (nodes_calls xs) f → f < length ls
    nodes-known no_nodes ops h = none h
    nodes-known (node_then x xs) ops h =
        elim (Contains-append_cases (node_calls x) (nodes_calls xs) f h) [ inl a ↦ node-known x ops.0 a | inr b ↦ nodes-known xs ops.1 b ]

    regions-known : (rs : RegionTrees) → RegionsOps (Calls ls) rs → Contains (regions_calls rs) f → f < length ls
    regions-known no_regions ops h = none h
    regions-known (region_then r rs) ops h =
        elim (Contains-append_cases (region_calls r) (regions_calls rs) f h) [ inl a ↦ region-known r ops.0 a | inr b ↦ regions-known rs ops.1 b ]

pub complete_lists_know_calls : CompleteListsKnowCalls
complete_lists_know_calls ls complete j f l at h = region-known ls f l.body (complete.calls j l at) h
