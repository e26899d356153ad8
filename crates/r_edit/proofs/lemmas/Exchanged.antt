-- A node that gives the same in the place of a node: the region stays well formed.
use Rattle.std.proofs.Common.{◌≡◌, ◌≤◌, ℕ, ◌==◌, Bool, true, false, ◌&&◌, ◌||◌, cond, List, [], ◌∷◌, map, refl, sym, subst, ◌∙◌}
use Rattle.g_graph.specs.declared.op.Kind.{Kind}
use Rattle.g_graph.specs.declared.op.Origin.{Origin}
use Rattle.g_graph.specs.declared.op.Origin.TheVariants.{Arg, Out}
use Rattle.g_graph.specs.Plain.{RegionTree, region, NodeTree, node, NodeTrees, no_nodes, node_then, id_of}
use Rattle.g_graph.specs.Ids.{node_ids}
use Rattle.g_graph.specs.Signatures.{output_kinds}
use Rattle.g_graph.specs.WellFormed.{some_of, node_fits, region_fits, every_region, every_in_node}
use Rattle.g_graph.specs.Replace.{nodes_redirected}
use Rattle.g_graph.specs.Splice.{joined_nodes}
use Rattle.g_graph.proofs.lemmas.Nodes.{NodeFits, KeptWithin}
use Rattle.g_graph.proofs.lemmas.Redirects.{all_unmoved, nodes_unmoved}
use Rattle.g_graph.proofs.lemmas.Unique.{times}
use Rattle.r_edit.specs.Uses.{nodes_read}
use Rattle.r_edit.specs.Exits.{output_after, is_gone_output}
use Rattle.r_edit.proofs.lemmas.Kept.{kept_none}
use Rattle.r_edit.proofs.lemmas.Swapped.{RegionStays, swapped_stays, swapped_kept}

-- ---- no output goes

output_stays : (id : ℕ) (o : Origin) → output_after id [] o ≡ o
output_stays id (Arg k) = refl
output_stays id (Out n p) = by (id == n)
  where
    by : (t : Bool) → cond t (Out n p) (Out n p) ≡ Out n p
    by true = refl
    by false = refl

none_gone : (id : ℕ) (o : Origin) → is_gone_output id [] o ≡ false
none_gone id (Arg k) = refl
none_gone id (Out n p) = by (id == n)
  where
    by : (t : Bool) → (t && false) ≡ false
    by true = refl
    by false = refl

some_gone : (id : ℕ) (os : List Origin) → some_of (is_gone_output id []) os ≡ false
some_gone id [] = refl
some_gone id (o ∷ os) = λ i. none_gone id o i || some_gone id os i

nodes_gone : (id : ℕ) (ns : NodeTrees) → nodes_read (is_gone_output id []) ns ≡ false
nodes_gone id no_nodes = refl
nodes_gone id (node_then (node n op is ss) ns) = λ i. some_gone id is i || nodes_gone id ns i

-- ---- the region

module _ (objects : ℕ) (args : List Kind) (before : NodeTrees) (x y : NodeTree) (after : NodeTrees) (here : NodeFits objects args before x after) (number : id_of y ≡ id_of x)
    (outputs : output_kinds y ≡ output_kinds x) where
  abbrev near : List Origin → RegionTree
  near results = region args (joined_nodes before (node_then x after)) results

  abbrev far : List Origin → RegionTree
  far results = region args (joined_nodes before (node_then y after)) results

  abbrev move : Origin → Origin
  move = output_after (id_of x) []

  unmoved : (results : List Origin) → region args (joined_nodes before (node_then y (nodes_redirected move after))) (map move results) ≡ far results
  unmoved results =
      λ i. region args (joined_nodes before (node_then y (nodes_unmoved move (output_stays (id_of x)) after i))) (all_unmoved move (output_stays (id_of x)) results i)

  pub exchanged_stays : (results : List Origin) → (node_fits objects args before x ≡ true → node_fits objects args before y ≡ true) →
      (every_in_node (region_fits objects) x ≡ true → every_in_node (region_fits objects) y ≡ true) → every_region (region_fits objects) (near results) ≡ true →
      RegionStays objects (near results) (far results)
  exchanged_stays results fits_here inside_here fits =
      subst (λ s. RegionStays objects (near results) s) (unmoved results)
      (swapped_stays objects args before x y after [] here number (outputs ∙ sym (kept_none (output_kinds x))) refl results fits_here inside_here fits
      (λ i. nodes_gone (id_of x) (joined_nodes before (node_then x after)) i || some_gone (id_of x) results i))

  -- where it has no numbers but those of the node
  pub exchanged_kept : (results : List Origin) → (node_fits objects args before x ≡ true → node_fits objects args before y ≡ true) →
      (every_in_node (region_fits objects) x ≡ true → every_in_node (region_fits objects) y ≡ true) → ((m : ℕ) → times m (node_ids y) ≤ times m (node_ids x)) →
      every_region (region_fits objects) (near results) ≡ true → KeptWithin objects (near results) (far results)
  exchanged_kept results fits_here inside_here fewer fits =
      subst (λ s. KeptWithin objects (near results) s) (unmoved results)
      (swapped_kept objects args before x y after [] here number (outputs ∙ sym (kept_none (output_kinds x))) refl results fits_here inside_here fewer fits
      (λ i. nodes_gone (id_of x) (joined_nodes before (node_then x after)) i || some_gone (id_of x) results i))
