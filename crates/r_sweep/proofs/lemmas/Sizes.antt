-- The list of the nodes of a lambda is no larger than the lambda.
use Rattle.std.proofs.Common.{◌≡◌, ◌≤◌, ◌+◌, ℕ, suc, Bool, true, false, List, [], ◌∷◌, ◌++◌, Option, None, Some, map, length, refl, ap, ◌∙◌, arith}
use Rattle.std.specs.Prelude.{if◌then◌else◌}
use Rattle.g_graph.specs.declared.op.Kind.{Kind}
use Rattle.g_graph.specs.declared.op.Origin.{Origin}
use Rattle.g_graph.specs.declared.op.Origin.TheVariants.{Arg, Out}
use Rattle.g_graph.specs.Plain.{RegionTree, region, node, NodeTrees, no_nodes, node_then, RegionTrees, no_regions, region_then, PlainLambda}
use Rattle.g_graph.specs.Signatures.{outputs_of}
use Rattle.g_graph.specs.WellFormed.{kinds_of}
use Rattle.g_graph.specs.Ids.{region_ids, nodes_ids, regions_ids}
use Rattle.g_graph.specs.Count.{region_values, nodes_values, regions_values}
use Rattle.g_arena_def.specs.declared.place.Place.{Place}
use Rattle.g_arena_def.specs.Flat.{FlatRegion, FlatNode, Flat, body_place, place_in, region_flat, regions_flat, in_region, in_nodes, in_regions, flat_of, is_in}
use Rattle.g_arena_def.specs.Reads.{ids}
use Rattle.g_arena_def.specs.Size.{region_inputs, nodes_inputs, regions_inputs, lambda_size}
use Rattle.r_sweep.proofs.lemmas.Inputs.{map_both}
use Rattle.r_sweep.specs.Measure.{region_size, regions_size, nodes_size, flat_size, named, inputs_named, regions_named, results_named, flat_named}

pub nodes_size-both : (xs ys : List FlatNode) → nodes_size (xs ++ ys) ≡ nodes_size xs + nodes_size ys
nodes_size-both [] ys = omega arith
nodes_size-both (x ∷ xs) ys = omega (arith, nodes_size-both xs ys)

fewer_kinds : (os : List (Option Kind)) → length (kinds_of os) ≤ length os
fewer_kinds [] = omega arith
fewer_kinds (None ∷ os) = omega (arith, fewer_kinds os)
fewer_kinds (Some k ∷ os) = omega (arith, fewer_kinds os)

mutual
  region_fits : (p : Place) (r : RegionTree) → region_size (region_flat r) + nodes_size (in_region p r) ≤ region_values r + region_inputs r
  region_fits p (region args ns results) = omega (arith, nodes_fit p ns)

  nodes_fit : (p : Place) (ns : NodeTrees) → nodes_size (in_nodes p ns) ≤ nodes_values ns + nodes_inputs ns
  nodes_fit p no_nodes = omega arith
  nodes_fit p (node_then (node id op inputs rs) xs) =
      let y : FlatNode = record { id = id; op = op; inputs = inputs; outputs = kinds_of (outputs_of op rs); regions = regions_flat rs; home = p } in
      omega (
        arith,
        nodes_size-both (y ∷ in_regions id 0 rs) (in_nodes p xs),
        fewer_kinds (outputs_of op rs),
        regions_fit id 0 rs,
        nodes_fit p xs,
      )

  regions_fit : (n k : ℕ) (rs : RegionTrees) → regions_size (regions_flat rs) + nodes_size (in_regions n k rs) ≤ regions_values rs + regions_inputs rs
  regions_fit n k no_regions = omega arith
  regions_fit n k (region_then r rs) =
      omega (arith, nodes_size-both (in_region (place_in n k) r) (in_regions n (suc k) rs), region_fits (place_in n k) r, regions_fit n (suc k) rs)

pub size_within : (l : PlainLambda) → flat_size (flat_of l) ≤ lambda_size l
size_within l = region_fits body_place l.body

-- ---- numbers

mutual
  nodes_numbers : (p : Place) (ns : NodeTrees) → map (λ (x : FlatNode). x.id) (in_nodes p ns) ≡ nodes_ids ns
  nodes_numbers p no_nodes = refl
  nodes_numbers p (node_then (node id op inputs rs) xs) =
      ap (λ ns. id ∷ ns) (map_both (λ (x : FlatNode). x.id) (in_regions id 0 rs) (in_nodes p xs)) ∙ (λ i. id ∷ (regions_numbers id 0 rs i ++ nodes_numbers p xs i))

  regions_numbers : (n k : ℕ) (rs : RegionTrees) → map (λ (x : FlatNode). x.id) (in_regions n k rs) ≡ regions_ids rs
  regions_numbers n k no_regions = refl
  regions_numbers n k (region_then (region args ns results) rs) =
      map_both (λ (x : FlatNode). x.id) (in_nodes (place_in n k) ns) (in_regions n (suc k) rs) ∙ (λ i. nodes_numbers (place_in n k) ns i ++ regions_numbers n (suc k) rs i)

pub numbers_are : (l : PlainLambda) → ids (flat_of l) ≡ region_ids l.body
numbers_are l = by l.body
  where
    by : (r : RegionTree) → map (λ (x : FlatNode). x.id) (in_region body_place r) ≡ region_ids r
    by (region args ns results) = nodes_numbers body_place ns

-- ---- uses

named_less : (ns : List ℕ) (os : List Origin) → named ns os ≤ length os
named_less ns [] = omega arith
named_less ns (Arg k ∷ os) = omega (arith, named_less ns os)
named_less ns (Out n k ∷ os) = by (is_in ns (Some n)) (named_less ns os)
  where
    by : (t : Bool) → named ns os ≤ length os → (if t then 1 else 0) + named ns os ≤ suc (length os)
    by true h = omega (arith, h)
    by false h = omega (arith, h)

regions_less : (ns : List ℕ) (rs : List FlatRegion) → regions_named ns rs ≤ regions_size rs
regions_less ns [] = omega arith
regions_less ns (r ∷ rs) = omega (arith, named_less ns r.results, regions_less ns rs)

nodes_less : (ns : List ℕ) (xs : List FlatNode) → length xs + inputs_named ns xs + results_named ns xs ≤ nodes_size xs
nodes_less ns [] = omega arith
nodes_less ns (x ∷ xs) = omega (arith, named_less ns x.inputs, regions_less ns x.regions, nodes_less ns xs)

-- nodes and uses, with one for the body
pub uses_within : (ns : List ℕ) (a : Flat) → 1 + length a.nodes + flat_named ns a ≤ flat_size a
uses_within ns a = omega (arith, named_less ns a.body.results, nodes_less ns a.nodes)
