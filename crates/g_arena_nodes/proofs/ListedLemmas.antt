-- The row of a node stands where one stood for it, and the kinds of the results of a region.
use Rattle.std.proofs.Common.{◌≡◌, ℕ, ◌≤◌, Option, List, [], ◌∷◌, ◌++◌, length, map, set, drop, refl, ap, sym, ◌∙◌, append_assoc}
use Rattle.std.proofs.Math.ListN.{drop_of_length-le}
use Rattle.std.proofs.lemmas.List.{set_at}
use Rattle.g_graph.specs.declared.op.Kind.{Kind}
use Rattle.g_graph.specs.declared.op.Op.{Op}
use Rattle.g_graph.specs.declared.op.Origin.{Origin}
use Rattle.g_graph.specs.Plain.{RegionTree, region, NodeTree, node, nodes_of, regions_of}
use Rattle.g_graph.specs.Signatures.{outputs_of, kind_of, kind_after, result_kinds}
use Rattle.g_arena_def.specs.declared.place.Place.{Place}
use Rattle.g_arena_def.specs.Flat.{FlatNode, region_flat, regions_flat, in_node, in_regions}
use Rattle.g_arena_nodes.specs.Listed.{region_kind, kinds_by, node_row}

pub flat_regions : (rs : List RegionTree) → map region_flat rs ≡ regions_flat (regions_of rs)
flat_regions [] = refl
flat_regions (r ∷ rs) = ap (λ ps. region_flat r ∷ ps) (flat_regions rs)

pub row_stands : (p : Place) (id : ℕ) (op : Op) (inputs : List Origin) (rs : List RegionTree) (x : NodeTree) (before after all : List FlatNode) (z y : FlatNode) (at : ℕ) (kinds : List (Option Kind))
    → node id op inputs (regions_of rs) ≡ x → after ≡ before ++ z ∷ [] → all ≡ after ++ in_regions id 0 (regions_of rs) → at ≡ length before → kinds ≡ outputs_of op (regions_of rs) → y ≡ node_row p x kinds
    → set all at y ≡ before ++ in_node p x
row_stands p id op inputs rs x before after all z y at kinds e f g h k q =
    let row : y ≡ node_row p (node id op inputs (regions_of rs)) (outputs_of op (regions_of rs)) = q ∙ (λ i. node_row p (sym e i) (k i)) in
    ap (λ l. set l at y) (g ∙ ap (λ l. l ++ in_regions id 0 (regions_of rs)) f ∙ append_assoc before (z ∷ []) (in_regions id 0 (regions_of rs)))
    ∙ set_at before z (in_regions id 0 (regions_of rs)) y at (sym h)
    ∙ ap (λ r. before ++ r ∷ in_regions id 0 (regions_of rs)) row
    ∙ ap (λ n. before ++ in_node p n) e

-- where the outputs of the nodes of a region have their kinds, the results have theirs
pub kinds_are : (f : ℕ → ℕ → Option Kind) (r : RegionTree) → ((n p : ℕ) → f n p ≡ region_kind r n p) → kinds_by f r ≡ result_kinds r
kinds_are f (region args nodes results) h = λ i. map (kind_of args (λ n p. h n p i)) results

pub kinds_end : (f : ℕ → ℕ → Option Kind) (r : RegionTree) (items : List NodeTree) (k : ℕ) → length items ≤ k → ((n p : ℕ) → kind_after (nodes_of (drop k items)) n p (f n p) ≡ region_kind r n p) → kinds_by f r ≡ result_kinds r
kinds_end f r items k le h = kinds_are f r (λ n p. sym (ap (λ xs. kind_after (nodes_of xs) n p (f n p)) (drop_of_length-le items le)) ∙ h n p)
