-- How the logic stores a tree, and that a part of a tree is smaller.
use Rattle.std.proofs.Common.{◌≡◌, ◌≤◌, ◌+◌, ℕ, List, [], ◌∷◌, Bool, refl, ap, arith}
use Rattle.std.specs.Coded.{Coded, code_by, coded×, coded_ℕ, coded_bool, coded_list}
use base.Stored.{Gv, gnil, gnum, gcons}
use denote.Param.Weighed.{most}
use Rattle.val_core.specs.contracts.leaf.Leaf as leaf
use Rattle.g_graph.specs.contracts.op.Kind as kind
use Rattle.g_graph.specs.contracts.op.Op as op
use Rattle.g_graph.specs.contracts.op.Origin as origin
use Rattle.g_graph.specs.contracts.link.Link as link
use Rattle.g_graph.specs.declared.op.Kind.{Kind}
use Rattle.g_graph.specs.declared.op.Origin.{Origin}
use Rattle.g_graph.specs.declared.link.Link.{Link}
use Rattle.val_core.specs.declared.leaf.Leaf.{Leaf}
use Rattle.g_graph.specs.Plain.{RegionTree, region, NodeTree, node, NodeTrees, no_nodes, node_then, RegionTrees, no_regions, region_then, nodes_of, regions_of, node_size, region_size, nodes_size, regions_size, PlainObject, PlainLambda, PlainDelta, PlainOmega}

abbrev head : Gv → Gv
head gnil = gnil
head (gnum n) = gnil
head (gcons a b) = a

abbrev tail : Gv → Gv
tail gnil = gnil
tail (gnum n) = gnil
tail (gcons a b) = b

abbrev pub coded_kinds : Coded (List Kind)
coded_kinds = coded_list kind.the_row.coded

abbrev pub coded_origins : Coded (List Origin)
coded_origins = coded_list origin.the_row.coded

abbrev mutual
  pub region_code : RegionTree → Gv
  region_code (region a n r) = gcons (coded_kinds.code a) (gcons (nodes_code n) (coded_origins.code r))

  pub node_code : NodeTree → Gv
  node_code (node i o a r) = gcons (coded_ℕ.code i) (gcons (op.the_row.coded.code o) (gcons (coded_origins.code a) (regions_code r)))

  pub nodes_code : NodeTrees → Gv
  nodes_code no_nodes = gnil
  nodes_code (node_then x xs) = gcons (node_code x) (nodes_code xs)

  pub regions_code : RegionTrees → Gv
  regions_code no_regions = gnil
  regions_code (region_then r rs) = gcons (region_code r) (regions_code rs)

apart : {a b : Gv} → gnil ≡ gcons a b → ⊥
apart p = cc

apart_back : {a b : Gv} → gcons a b ≡ gnil → ⊥
apart_back p = cc

mutual
  pub region_inj : (x y : RegionTree) → region_code x ≡ region_code y → x ≡ y
  region_inj (region a n r) (region b m s) p = λ i. region (coded_kinds.inj a b (ap (λ g. head g) p) i) (nodes_inj n m (ap (λ g. head (tail g)) p) i)
      (coded_origins.inj r s (ap (λ g. tail (tail g)) p) i)

  pub node_inj : (x y : NodeTree) → node_code x ≡ node_code y → x ≡ y
  node_inj (node i o a r) (node j q b s) p = λ k. node (coded_ℕ.inj i j (ap (λ g. head g) p) k) (op.the_row.coded.inj o q (ap (λ g. head (tail g)) p) k)
      (coded_origins.inj a b (ap (λ g. head (tail (tail g))) p) k) (regions_inj r s (ap (λ g. tail (tail (tail g))) p) k)

  pub nodes_inj : (x y : NodeTrees) → nodes_code x ≡ nodes_code y → x ≡ y
  nodes_inj no_nodes no_nodes p = refl
  nodes_inj no_nodes (node_then y ys) p = absurd (apart p)
  nodes_inj (node_then x xs) no_nodes p = absurd (apart_back p)
  nodes_inj (node_then x xs) (node_then y ys) p = λ i. node_then (node_inj x y (ap (λ g. head g) p) i) (nodes_inj xs ys (ap (λ g. tail g) p) i)

  pub regions_inj : (x y : RegionTrees) → regions_code x ≡ regions_code y → x ≡ y
  regions_inj no_regions no_regions p = refl
  regions_inj no_regions (region_then y ys) p = absurd (apart p)
  regions_inj (region_then x xs) no_regions p = absurd (apart_back p)
  regions_inj (region_then x xs) (region_then y ys) p = λ i. region_then (region_inj x y (ap (λ g. head g) p) i) (regions_inj xs ys (ap (λ g. tail g) p) i)

abbrev pub coded_region : Coded RegionTree
coded_region = record { code = region_code; inj = region_inj }

abbrev pub coded_node : Coded NodeTree
coded_node = record { code = node_code; inj = node_inj }

abbrev pub coded_object : Coded PlainObject
coded_object = code_by (ℕ × List Leaf) (coded× coded_ℕ (coded_list leaf.the_row.coded)) (λ o. (o.size, o.leaves)) (λ p. record { size = p.0; leaves = p.1 }) (λ _. refl)

abbrev pub coded_lambda : Coded PlainLambda
coded_lambda =
    code_by (ℕ × (ℕ × (List PlainObject × (RegionTree × ℕ)))) (coded× coded_ℕ (coded× coded_ℕ (coded× (coded_list coded_object) (coded× coded_region coded_ℕ))))
    (λ l. (l.number, (l.params, (l.objects, (l.body, l.next))))) (λ p. record { number = p.0; params = p.1.0; objects = p.1.1.0; body = p.1.1.1.0; next = p.1.1.1.1 }) (λ _. refl)

abbrev pub coded_delta : Coded PlainDelta
coded_delta =
    code_by (List ℕ × (List Link × (List Leaf × Bool))) (coded× (coded_list coded_ℕ) (coded× (coded_list link.the_row.coded) (coded× (coded_list leaf.the_row.coded) coded_bool)))
    (λ d. (d.bytes, (d.links, (d.leaves, d.fixed)))) (λ p. record { bytes = p.0; links = p.1.0; leaves = p.1.1.0; fixed = p.1.1.1 }) (λ _. refl)

abbrev pub coded_omega : Coded PlainOmega
coded_omega =
    code_by (List PlainLambda × (List PlainDelta × List (List ℕ))) (coded× (coded_list coded_lambda) (coded× (coded_list coded_delta) (coded_list (coded_list coded_ℕ))))
    (λ o. (o.lambdas, (o.deltas, o.names))) (λ p. record { lambdas = p.0; deltas = p.1.0; names = p.1.1 }) (λ _. refl)

pub most_nodes : (ns : List NodeTree) → most (λ k. node_size k + 1) ns ≤ nodes_size (nodes_of ns) + 1
most_nodes [] = omega arith
most_nodes (n ∷ ns) = omega (arith, most_nodes ns)

pub most_regions : (rs : List RegionTree) → most (λ k. region_size k + 1) rs ≤ regions_size (regions_of rs) + 1
most_regions [] = omega arith
most_regions (r ∷ rs) = omega (arith, most_regions rs)
