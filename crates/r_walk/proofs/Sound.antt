-- Regions of a well-formed lambda are sound, and so are those of each node.
use Rattle.std.proofs.Common.{◌≡◌, ◌==◌, ◌∙◌, nat_lt, ℕ, Bool, true, not, ◌&&◌, List, [], ◌∷◌, ◌++◌, length, refl}
use Rattle.std.proofs.lemmas.Bool.{and_parts}
use Rattle.g_graph.specs.declared.op.Kind.{Kind}
use Rattle.g_graph.specs.declared.op.Kind.TheVariants.{Memory, Io}
use Rattle.g_graph.specs.declared.op.Op.{Op}
use Rattle.g_graph.specs.declared.op.Op.TheVariants.{Gamma, Theta}
use Rattle.g_graph.specs.declared.op.Origin.{Origin}
use Rattle.g_graph.specs.Ids.{region_ids, nodes_ids, regions_ids}
use Rattle.g_graph.specs.Plain.{region, NodeTree, node, NodeTrees, no_nodes, node_then, RegionTrees, no_regions, region_then, nodes_of, PlainLambda}
use Rattle.g_graph.specs.Scope.{each_node}
use Rattle.g_graph.specs.WellFormed.{some_of, distinct, every_region, every_in_nodes, every_in_regions, inputs_fit, inputs_are_last, node_has_one_state_each, has_its_regions, regions_fit, theta_has_states, has_its_width, has_its_object, node_fits, nodes_fit, results_are_last, returns_state, region_has_one_state_each, region_fits, IsWellFormed, well_formed, leaves_fit, body_fits, numbers_fit, all_of}
use Rattle.g_graph.proofs.lemmas.Nests.{regions_of_well_formed}
use Rattle.g_mean.proofs.lemmas.Edits.{distinct-split}
use Rattle.r_walk.specs.Asks.{IsSound, AllSound, AreSoundNodes}

-- ---- what a node's regions must fit

-- what the regions fit does not stand in the number or the inputs
fits_so : (op : Op) (id m : ℕ) (ins os : List Origin) (rs : RegionTrees) → regions_fit (node id op ins rs) ≡ regions_fit (node m op os rs)
fits_so Gamma id m ins os rs = refl
fits_so Theta id m ins os rs = refl
fits_so _ id m ins os rs = refl

states_so : (op : Op) (id m : ℕ) (ins os : List Origin) (rs : RegionTrees) → theta_has_states (node id op ins rs) ≡ theta_has_states (node m op os rs)
states_so Theta id m ins os rs = refl
states_so _ id m ins os rs = refl

-- the two of eight tests
two_of : (a b c d e f g h : Bool) → (a && b && c && d && e && f && g && h) ≡ true → (e ≡ true) × (f ≡ true)
two_of a b c d e f g h t =
    let p = and_parts (a && b && c && d && e && f && g) h t in
    let q = and_parts (a && b && c && d && e && f) g p.0 in
    let r = and_parts (a && b && c && d && e) f q.0 in
    let s = and_parts (a && b && c && d) e r.0 in
    (s.1, r.1)

-- ---- regions

all_sound : (objects : ℕ) (rs : RegionTrees) → every_in_regions (region_fits objects) rs ≡ true → distinct (regions_ids rs) ≡ true → AllSound rs
all_sound objects no_regions t unique = tt
all_sound objects (region_then r rs) t unique =
    let p = and_parts (every_region (region_fits objects) r) (every_in_regions (region_fits objects) rs) t in
    let d = distinct-split (region_ids r) (regions_ids rs) unique in
    (record { objects = objects; fits = p.0; unique = d.0 }, all_sound objects rs p.1 d.1)

-- ---- nodes

sound_nodes : (objects : ℕ) (args : List Kind) (before : List NodeTree) (ns : NodeTrees) → each_node (node_fits objects args) before ns ≡ true → every_in_nodes (region_fits objects) ns ≡ true →
    distinct (nodes_ids ns) ≡ true → AreSoundNodes ns
sound_nodes objects args before no_nodes t nested unique = tt
sound_nodes objects args before (node_then (node id op ins rs) ns) t nested unique =
    let x = node id op ins rs in
    let b = nodes_of before in
    let p = and_parts (node_fits objects args b x) (each_node (node_fits objects args) (before ++ x ∷ []) ns) t in
    let q = and_parts (every_in_regions (region_fits objects) rs) (every_in_nodes (region_fits objects) ns) nested in
    let d = distinct-split (id ∷ regions_ids rs) (nodes_ids ns) unique in
    let own = and_parts (not (some_of (λ m. id == m) (regions_ids rs))) (distinct (regions_ids rs)) d.0 in
    let e = two_of (inputs_fit args b x) (inputs_are_last args b x) (node_has_one_state_each args b x) (has_its_regions x) (regions_fit x) (theta_has_states x) (has_its_width x) (has_its_object objects x) p.0 in (
      (
        record { objects = objects; fits = q.0; unique = own.1; of_node = λ m os. fits_so op m id os ins rs ∙ e.0; states = λ m os. states_so op m id os ins rs ∙ e.1 },
        all_sound objects rs q.0 own.1,
      ),
      sound_nodes objects args (before ++ x ∷ []) ns p.1 q.1 d.1,
    )

pub region_nodes : (args : List Kind) (nodes : NodeTrees) (results : List Origin) → IsSound (region args nodes results) → AreSoundNodes nodes
region_nodes args nodes results s =
    let r = region args nodes results in
    let p = and_parts (region_fits s.objects r) (every_in_nodes (region_fits s.objects) nodes) s.fits in
    let a = and_parts (nodes_fit s.objects r && results_are_last r && returns_state Memory r && returns_state Io r) (region_has_one_state_each r) p.0 in
    let b = and_parts (nodes_fit s.objects r && results_are_last r && returns_state Memory r) (returns_state Io r) a.0 in
    let c = and_parts (nodes_fit s.objects r && results_are_last r) (returns_state Memory r) b.0 in
    let d = and_parts (nodes_fit s.objects r) (results_are_last r) c.0 in
    sound_nodes s.objects args [] nodes d.0 p.1 s.unique

pub body_sound : (l : PlainLambda) → IsWellFormed l → IsSound l.body
body_sound l well = record { objects = length l.objects; fits = regions_of_well_formed l well; unique = unique_of l well }
  where
    unique_of : (k : PlainLambda) → well_formed k ≡ true → distinct (region_ids k.body) ≡ true
    unique_of k t =
        let p = and_parts (body_fits k && numbers_fit k && every_region (region_fits (length k.objects)) k.body) (all_of (λ o. leaves_fit o.size 0 o.leaves) k.objects) t in
        let q = and_parts (body_fits k && numbers_fit k) (every_region (region_fits (length k.objects)) k.body) p.0 in
        let r = and_parts (body_fits k) (numbers_fit k) q.0 in
        (and_parts (distinct (region_ids k.body)) (all_of (λ n. nat_lt n k.next) (region_ids k.body)) r.1).0
