-- Regions in which no loop is: unrolling changes nothing there, and an unrolled region is one where the loop's region is.
use Rattle.std.specs.Option.{option_or}
use Rattle.std.specs.Prelude.{◌||◌, option_and_then}
use Rattle.std.proofs.Common.{◌≡◌, ℕ, ◌+◌, ◌<◌, ◌==◌, ◌⊎◌, Bool, true, false, cond, [], ◌++◌, length, None, Some, option_map, refl, ap, ap₂, subst, ◌∙◌, inl, inr, arith}
use Rattle.std.proofs.lemmas.Bool.{or_parts}
use Rattle.std.proofs.lemmas.List.{length-append, length-map}
use Rattle.g_graph.specs.declared.op.Op.TheVariants.{Theta}
use Rattle.g_graph.specs.declared.op.Origin.{Origin}
use Rattle.g_graph.specs.Change.{region_changed, nodes_changed, regions_changed}
use Rattle.g_graph.specs.Ids.{region_ids, nodes_ids}
use Rattle.g_graph.specs.Nodes.{node_at, node_set}
use Rattle.g_graph.specs.Plain.{RegionTree, region, NodeTree, node, NodeTrees, no_nodes, node_then, RegionTrees, no_regions, region_then, id_of}
use Rattle.g_graph.specs.Splice.{joined_nodes}
use Rattle.g_graph.specs.Views.{same_op}
use Rattle.g_graph.proofs.lemmas.Splices.{nodes_ids-joined}
use Rattle.g_mean.specs.Copies.{IsAmong, renumbered, region_copied, nodes_moved, regions_copied}
use Rattle.g_mean.proofs.lemmas.Copies.{among-split}
use Rattle.r_edit.specs.Numbering.{node_count, number_from, region_numbered}
use Rattle.r_edit.proofs.lemmas.Numbering.{copied-ids}
use Rattle.r_walk.proofs.lemmas.Copies.{copies_are_new}
use Rattle.r_unroll.specs.Rule.{region_loops, node_loops, nodes_loop, regions_loop, second_turn_of, unrolled, node_unrolled, unroll_here}

-- ---- no loop

not-unrolled : (values next : ℕ) (x : NodeTree) → node_loops x ≡ false → node_unrolled values next x ≡ None
not-unrolled values next (node id Theta inputs rs) e = absurd cc
not-unrolled values next (node id _ inputs rs) e = refl

none-at : (values next n : ℕ) (ns : NodeTrees) → nodes_loop ns ≡ false → option_and_then (node_unrolled values next) (node_at n ns) ≡ None
none-at values next n no_nodes e = refl
none-at values next n (node_then x ns) e = by (id_of x == n) (none-at values next n ns)
  where
    p : (node_loops x ≡ false) × (nodes_loop ns ≡ false)
    p = or_parts (node_loops x) (nodes_loop ns) e

    by : (t : Bool) → (nodes_loop ns ≡ false → option_and_then (node_unrolled values next) (node_at n ns) ≡ None) →
        option_and_then (node_unrolled values next) (cond t (Some x) (node_at n ns)) ≡ None
    by true h = not-unrolled values next x p.0
    by false h = h p.1

module _ (values next n : ℕ) where
  mutual
    pub unchanged_without_loops : (r : RegionTree) → region_loops r ≡ false → region_changed (unroll_here values next n) r ≡ None
    unchanged_without_loops (region args nodes results) e =
        ap₂ (λ a b. option_or (option_map (λ y. region args (node_set n y nodes) results) a) (option_map (λ ns. region args ns results) b)) (none-at values next n nodes e) (nodes-unchanged nodes e)

    nodes-unchanged : (ns : NodeTrees) → nodes_loop ns ≡ false → nodes_changed (unroll_here values next n) ns ≡ None
    nodes-unchanged no_nodes e = refl
    nodes-unchanged (node_then (node id op inputs rs) ns) e =
        let p = or_parts (node_loops (node id op inputs rs)) (nodes_loop ns) e in
        ap₂ (λ a b. option_or (option_map (λ y. node_then y ns) (option_map (λ ss. node id op inputs ss) a)) (option_map (λ ys. node_then (node id op inputs rs) ys) b))
        (regions-unchanged rs (or_parts (same_op op Theta) (regions_loop rs) p.0).1) (nodes-unchanged ns p.1)

    regions-unchanged : (rs : RegionTrees) → regions_loop rs ≡ false → regions_changed (unroll_here values next n) rs ≡ None
    regions-unchanged no_regions e = refl
    regions-unchanged (region_then r rs) e =
        let p = or_parts (region_loops r) (regions_loop rs) e in
        ap₂ (λ a b. option_or (option_map (λ s. region_then s rs) a) (option_map (λ ss. region_then r ss) b)) (unchanged_without_loops r p.0) (regions-unchanged rs p.1)

-- ---- copies, and the unrolled region

module _ (to : ℕ → ℕ) where
  mutual
    copied-loops : (r : RegionTree) → region_loops (region_copied to r) ≡ region_loops r
    copied-loops (region args nodes results) = moved-loops (renumbered to) nodes

    moved-loops : (move : Origin → Origin) (ns : NodeTrees) → nodes_loop (nodes_moved move to ns) ≡ nodes_loop ns
    moved-loops move no_nodes = refl
    moved-loops move (node_then (node id op inputs rs) ns) = λ i. (same_op op Theta || regions-loops rs i) || moved-loops move ns i

    regions-loops : (rs : RegionTrees) → regions_loop (regions_copied to rs) ≡ regions_loop rs
    regions-loops no_regions = refl
    regions-loops (region_then r rs) = λ i. copied-loops r i || regions-loops rs i

loops-joined : (xs ys : NodeTrees) → nodes_loop xs ≡ false → nodes_loop ys ≡ false → nodes_loop (joined_nodes xs ys) ≡ false
loops-joined no_nodes ys a b = b
loops-joined (node_then x xs) ys a b =
    let p = or_parts (node_loops x) (nodes_loop xs) a in
    λ i. p.0 i || loops-joined xs ys p.1 b i

pub unrolled_has_no_loops : (next : ℕ) (r : RegionTree) → region_loops r ≡ false → region_loops (unrolled next r) ≡ false
unrolled_has_no_loops next (region args nodes results) e =
    let r = region args nodes results in
    loops-joined nodes (node_then (second_turn_of next r) no_nodes) e (λ i. ((copied-loops (number_from (next + 2) (region_ids r)) r ∙ e) i || false) || false)

-- ---- numbers

pub unrolled_count : (next : ℕ) (r : RegionTree) → node_count (unrolled next r) ≡ 2 + node_count r + node_count r
unrolled_count next (region args nodes results) =
    let r = region args nodes results in
    let to = number_from (next + 2) (region_ids r) in
    let copy = region_ids (region_numbered (next + 2) r) in
    omega (
      arith,
      ap length (nodes_ids-joined nodes (node_then (second_turn_of next r) no_nodes)),
      length-append (nodes_ids nodes) (nodes_ids (node_then (second_turn_of next r) no_nodes)),
      length-append (copy ++ []) [],
      length-append copy [],
      ap length (copied-ids to r),
      length-map (region_ids r) to,
    )

-- below the next number it has the region's own
pub unrolled_numbers : (next : ℕ) (r : RegionTree) (n : ℕ) → n < next → IsAmong n (region_ids (unrolled next r)) → IsAmong n (region_ids r)
unrolled_numbers next (region args nodes results) n less h =
    by
    (among-split n (nodes_ids nodes) (nodes_ids (node_then (second_turn_of next (region args nodes results)) no_nodes))
    (subst (IsAmong n) (nodes_ids-joined nodes (node_then (second_turn_of next (region args nodes results)) no_nodes)) h))
  where
    old : IsAmong n (region_ids (region_numbered (next + 2) (region args nodes results))) → IsAmong n (nodes_ids nodes)
    old k = absurd (omega (arith, copies_are_new (next + 2) (region args nodes results) n k))

    last : IsAmong n (region_ids (region_numbered (next + 2) (region args nodes results)) ++ []) ⊎ IsAmong n [] → IsAmong n (nodes_ids nodes)
    last (inl k) = either (among-split n (region_ids (region_numbered (next + 2) (region args nodes results))) [] k)
      where
        either : IsAmong n (region_ids (region_numbered (next + 2) (region args nodes results))) ⊎ IsAmong n [] → IsAmong n (nodes_ids nodes)
        either (inl j) = old j
        either (inr j) = absurd j
    last (inr k) = absurd k

    by : IsAmong n (nodes_ids nodes) ⊎ IsAmong n (nodes_ids (node_then (second_turn_of next (region args nodes results)) no_nodes)) → IsAmong n (nodes_ids nodes)
    by (inl k) = k
    by (inr (inl e)) = absurd (omega (arith, e))
    by (inr (inr (inl e))) = absurd (omega (arith, e))
    by (inr (inr (inr k))) = last (among-split n (region_ids (region_numbered (next + 2) (region args nodes results)) ++ []) [] k)
