-- Redirected nodes and regions: only inputs and results change. Numbers, counts, kinds, states and what is nested stay.
use Rattle.std.proofs.Common.{◌≡◌, ℕ, ◌+◌, ◌++◌, Bool, ◌&&◌, List, [], ◌∷◌, map, length, refl, ap}
use Rattle.std.specs.Prelude.{◌==◌, ◌||◌, slice_get, if◌then◌else◌}
use Rattle.std.specs.declared.option.Option.{Option}
use Rattle.std.specs.declared.option.Option.TheVariants.{None}
use Rattle.g_graph.specs.declared.op.Kind.{Kind}
use Rattle.g_graph.specs.declared.op.Origin.{Origin}
use Rattle.g_graph.specs.declared.op.Origin.TheVariants.{Out}
use Rattle.g_graph.specs.Plain.{RegionTree, region, NodeTree, node, NodeTrees, no_nodes, node_then, nodes_of}
use Rattle.g_graph.specs.Signatures.{joined, outputs_of, kind_after}
use Rattle.g_graph.specs.Count.{nodes_values, regions_values}
use Rattle.g_graph.specs.Ids.{region_ids, nodes_ids, regions_ids}
use Rattle.g_graph.specs.Scope.{is_of, last_index, origin_at, state_after}
use Rattle.g_graph.specs.WellFormed.{some_of, gives, every_in_nodes, every_in_regions}
use Rattle.g_graph.specs.Replace.{node_redirected, nodes_redirected, region_redirected}

pub nodes_of-redirected : (f : Origin → Origin) (xs : List NodeTree) → nodes_of (map (node_redirected f) xs) ≡ nodes_redirected f (nodes_of xs)
nodes_of-redirected f [] = refl
nodes_of-redirected f (x ∷ xs) = ap (λ ys. node_then (node_redirected f x) ys) (nodes_of-redirected f xs)

pub nodes_ids-redirected : (f : Origin → Origin) (ns : NodeTrees) → nodes_ids (nodes_redirected f ns) ≡ nodes_ids ns
nodes_ids-redirected f no_nodes = refl
nodes_ids-redirected f (node_then (node id op inputs rs) ns) = ap (λ ids. (id ∷ regions_ids rs) ++ ids) (nodes_ids-redirected f ns)

pub region_ids-redirected : (f : Origin → Origin) (r : RegionTree) → region_ids (region_redirected f r) ≡ region_ids r
region_ids-redirected f (region args nodes results) = nodes_ids-redirected f nodes

pub nodes_values-redirected : (f : Origin → Origin) (ns : NodeTrees) → nodes_values (nodes_redirected f ns) ≡ nodes_values ns
nodes_values-redirected f no_nodes = refl
nodes_values-redirected f (node_then (node id op inputs rs) ns) = ap (λ n. 1 + length (outputs_of op rs) + regions_values rs + n) (nodes_values-redirected f ns)

pub kind_after-redirected : (f : Origin → Origin) (ns : NodeTrees) (n p : ℕ) (before : Option Kind) → kind_after (nodes_redirected f ns) n p before ≡ kind_after ns n p before
kind_after-redirected f no_nodes n p before = refl
kind_after-redirected f (node_then (node id op inputs rs) ns) n p before =
    kind_after-redirected f ns n p (if id == n then joined (slice_get (outputs_of op rs) p) else before)

pub state_after-redirected : (f : Origin → Origin) (k : Kind) (ns : NodeTrees) (found : Option Origin) → state_after k (nodes_redirected f ns) found ≡ state_after k ns found
state_after-redirected f k no_nodes found = refl
state_after-redirected f k (node_then (node id op inputs rs) ns) found =
    state_after-redirected f k ns (origin_at (λ p. Out id p) (last_index k 0 (outputs_of op rs) None) found)

pub gives-redirected : (f : Origin → Origin) (k : Kind) (ns : NodeTrees) → gives k (nodes_redirected f ns) ≡ gives k ns
gives-redirected f k no_nodes = refl
gives-redirected f k (node_then (node id op inputs rs) ns) = ap (λ b. some_of (is_of k) (outputs_of op rs) || b) (gives-redirected f k ns)

pub every_in_nodes-redirected : (test : RegionTree → Bool) (f : Origin → Origin) (ns : NodeTrees) → every_in_nodes test (nodes_redirected f ns) ≡ every_in_nodes test ns
every_in_nodes-redirected test f no_nodes = refl
every_in_nodes-redirected test f (node_then (node id op inputs rs) ns) = ap (λ b. every_in_regions test rs && b) (every_in_nodes-redirected test f ns)

-- ---- origins that stay

pub all_unmoved : (f : Origin → Origin) → ((o : Origin) → f o ≡ o) → (os : List Origin) → map f os ≡ os
all_unmoved f e [] = refl
all_unmoved f e (o ∷ os) = λ i. e o i ∷ all_unmoved f e os i

pub nodes_unmoved : (f : Origin → Origin) → ((o : Origin) → f o ≡ o) → (ns : NodeTrees) → nodes_redirected f ns ≡ ns
nodes_unmoved f e no_nodes = refl
nodes_unmoved f e (node_then (node id op inputs rs) ns) = λ i. node_then (node id op (all_unmoved f e inputs i) rs) (nodes_unmoved f e ns i)
