-- The chosen region of a gamma node, and that of a theta node, fit instead of the node.
use Rattle.std.proofs.Common.{◌≡◌, ℕ, zero, suc, List, [], ◌∷◌, map, length, Some, sym, ap, subst, arith}
use Rattle.g_graph.specs.declared.op.Kind.{Kind}
use Rattle.g_graph.specs.declared.op.Kind.TheVariants.{Value}
use Rattle.g_graph.specs.declared.op.Op.TheVariants.{Gamma, Theta}
use Rattle.g_graph.specs.declared.op.Origin.{Origin}
use Rattle.g_graph.specs.Plain.{RegionTree, region, node, NodeTrees, node_then, RegionTrees, no_regions, region_then, PlainLambda}
use Rattle.g_graph.specs.Ids.{region_ids, nodes_ids, regions_ids}
use Rattle.g_graph.specs.Signatures.{first_args}
use Rattle.g_graph.specs.Scope.{known}
use Rattle.g_graph.specs.Splice.{joined_nodes}
use Rattle.g_mean.specs.Copies.{IsAmong, IsClosed, AllClosed}
use Rattle.g_mean.specs.Splices.{FitsInto}
use Rattle.g_mean.specs.Edits.{IsPartOf}
use Rattle.g_mean.proofs.lemmas.Copies.{among-left, among-right}
use Rattle.g_graph.proofs.lemmas.Nodes.{first_kind}
use Rattle.r_fold.specs.Rule.{chosen_region}
use Rattle.r_fold.proofs.Chosen.{chosen_kinds}
use Rattle.g_mean.proofs.lemmas.Inside.{node-here, as-many, inputs-read, regions-closed, inner-fits}

-- ---- the chosen region

chosen-closed : (w : ℕ) (rs : RegionTrees) (r : RegionTree) → chosen_region w rs ≡ Some r → AllClosed rs → IsClosed r
chosen-closed w no_regions r e h = absurd cc
chosen-closed w (region_then s no_regions) r e h = let same : s ≡ r = cc in subst IsClosed same h.0
chosen-closed zero (region_then s (region_then t rs)) r e h = let same : s ≡ r = cc in subst IsClosed same h.0
chosen-closed (suc w) (region_then s (region_then t rs)) r e h = chosen-closed w (region_then t rs) r e h.1

chosen-ids : (w : ℕ) (rs : RegionTrees) (r : RegionTree) → chosen_region w rs ≡ Some r → (n : ℕ) → IsAmong n (region_ids r) → IsAmong n (regions_ids rs)
chosen-ids w no_regions r e n h = absurd cc
chosen-ids w (region_then s no_regions) r e n h =
    let same : r ≡ s = cc in among-left n (region_ids s) [] (subst (λ z. IsAmong n (region_ids z)) same h)
chosen-ids zero (region_then s (region_then t rs)) r e n h =
    let same : r ≡ s = cc in among-left n (region_ids s) (regions_ids (region_then t rs)) (subst (λ z. IsAmong n (region_ids z)) same h)
chosen-ids (suc w) (region_then s (region_then t rs)) r e n h =
    among-right n (region_ids s) (regions_ids (region_then t rs)) (chosen-ids w (region_then t rs) r e n h)

pub gamma-fits : (l : PlainLambda) (args : List Kind) (before : NodeTrees) (id : ℕ) (p : Origin) (entries : List Origin) (rs : RegionTrees) (after : NodeTrees) (results : List Origin) →
    IsPartOf l (region args (joined_nodes before (node_then (node id Gamma (p ∷ entries) rs) after)) results) → (w : ℕ) (own : List Kind) (nodes : NodeTrees) (gives : List Origin) →
    chosen_region w rs ≡ Some (region own nodes gives) → FitsInto args before (node id Gamma (p ∷ entries) rs) after results nodes gives entries
gamma-fits l args before id p entries rs after results part w own nodes gives e =
    let here = node-here l args before (node id Gamma (p ∷ entries) rs) after results part in
    let closed = chosen-closed w rs (region own nodes gives) e (regions-closed l args before id Gamma (p ∷ entries) rs after results part) in
    let own-is = (chosen_kinds id w (p ∷ entries) rs (region own nodes gives) e here.regions).0 in
    let entries-fit = (first_kind (known args before p) (map (known args before) entries) Value (first_args rs) here.inputs).1 in
    let long : length own ≡ length entries = omega (arith, ap length own-is, as-many (known args before) entries (first_args rs) entries-fit) in
    inner-fits l args before id Gamma (p ∷ entries) rs after results part own nodes gives gives entries closed closed.1 long (inputs-read l args before id Gamma (p ∷
    entries) rs after results part).1 (chosen-ids w rs (region own nodes gives) e)

pub theta-fits : (l : PlainLambda) (args : List Kind) (before : NodeTrees) (id : ℕ) (ins : List Origin) (own : List Kind) (nodes : NodeTrees) (p : Origin) (gives : List Origin) (after : NodeTrees)
    (results : List Origin) → IsPartOf l (region args (joined_nodes before (node_then (node id Theta ins (region_then (region own nodes (p ∷ gives)) no_regions)) after)) results) →
    FitsInto args before (node id Theta ins (region_then (region own nodes (p ∷ gives)) no_regions)) after results nodes gives ins
theta-fits l args before id ins own nodes p gives after results part =
    let rs = region_then (region own nodes (p ∷ gives)) no_regions in
    let here = node-here l args before (node id Theta ins rs) after results part in
    let closed = (regions-closed l args before id Theta ins rs after results part).0 in
    let long : length own ≡ length ins = sym (as-many (known args before) ins own here.inputs) in
    inner-fits l args before id Theta ins rs after results part own nodes (p ∷ gives) gives ins closed closed.1.1 long (inputs-read l args before id Theta ins rs after results part)
    (λ n h. among-left n (nodes_ids nodes) [] h)
