-- A closed region within a node of a region of a well-formed lambda fits instead of the node.
use Rattle.std.proofs.Common.{◌≡◌, ℕ, ◌==◌, ◌⊎◌, true, not, List, [], ◌∷◌, ◌++◌, map, length, Option, Some, ap, subst, inl, inr, arith}
use Rattle.std.proofs.lemmas.List.{length-map}
use Rattle.std.proofs.lemmas.Bool.{and_parts}
use Rattle.g_graph.specs.declared.op.Kind.{Kind}
use Rattle.g_graph.specs.declared.op.Op.{Op}
use Rattle.g_graph.specs.declared.op.Origin.{Origin}
use Rattle.g_graph.specs.Plain.{region, NodeTree, node, NodeTrees, node_then, RegionTrees, no_regions, region_then, PlainLambda}
use Rattle.g_graph.specs.Ids.{nodes_ids, regions_ids}
use Rattle.g_graph.specs.Scope.{known}
use Rattle.g_graph.specs.WellFormed.{some_of, distinct, are}
use Rattle.g_graph.specs.Splice.{joined_nodes}
use Rattle.g_mean.specs.Copies.{IsAmong, AreRead, NodesRead, known_after, is_argument, IsClosed, AllClosed}
use Rattle.g_mean.specs.Splices.{FitsInto}
use Rattle.g_mean.specs.Edits.{IsPartOf}
use Rattle.g_mean.proofs.lemmas.Copies.{among-left, among-split}
use Rattle.g_mean.proofs.lemmas.Edits.{distinct-split}
use Rattle.g_mean.proofs.lemmas.Holds.{none-among, distinct-apart}
use Rattle.g_graph.proofs.lemmas.Splices.{nodes_ids-joined}
use Rattle.g_mean.proofs.lemmas.Splices.{joined-read}
use Rattle.g_graph.proofs.lemmas.Nodes.{NodeFits, node_fits_here, are_kinds}

-- ---- the node in its region

pub node-here : (l : PlainLambda) (args : List Kind) (before : NodeTrees) (x : NodeTree) (after : NodeTrees) (results : List Origin) →
    IsPartOf l (region args (joined_nodes before (node_then x after)) results) → NodeFits (length l.objects) args before x after
node-here l args before x after results part =
    node_fits_here (length l.objects) l.next args before x after results part.fits (record { unique = part.unique; below = part.below })

-- origins of these kinds are as many
pub as-many : (f : Origin → Option Kind) (os : List Origin) (ks : List Kind) → are (map f os) ks ≡ true → length os ≡ length ks
as-many f os ks t = omega (arith, length-map os f, ap length (are_kinds (map f os) ks t), length-map ks Some)

-- ---- a region of the node

module _ (l : PlainLambda) (args : List Kind) (before : NodeTrees) (id : ℕ) (op : Op) (ins : List Origin) (rs : RegionTrees) (after : NodeTrees) (results : List Origin)
    (part : IsPartOf l (region args (joined_nodes before (node_then (node id op ins rs) after)) results)) where
  reads : NodesRead (is_argument (length args)) [] before × NodesRead (is_argument (length args)) (known_after [] before) (node_then (node id op ins rs) after)
  reads = joined-read (is_argument (length args)) [] before (node_then (node id op ins rs) after) part.closed.0

  pub inputs-read : AreRead (is_argument (length args)) (known_after [] before) ins
  inputs-read = reads.1.0.0

  pub regions-closed : AllClosed rs
  regions-closed = reads.1.0.1

  -- the numbers within the node are unique
  pub inner-distinct : distinct (regions_ids rs) ≡ true
  inner-distinct =
      let all : distinct (nodes_ids before ++ ((id ∷ regions_ids rs) ++ nodes_ids after)) ≡ true = subst (λ zs. distinct zs ≡
      true) (nodes_ids-joined before (node_then (node id op ins rs) after)) part.unique in
      let rest = (distinct-split (nodes_ids before) ((id ∷ regions_ids rs) ++ nodes_ids after) all).1 in
      let own = (distinct-split (id ∷ regions_ids rs) (nodes_ids after) rest).0 in
      (and_parts (not (some_of (λ m. id == m) (regions_ids rs))) (distinct (regions_ids rs)) own).1

  -- the numbers within the node are others
  inner-apart : (n : ℕ) → IsAmong n (regions_ids rs) → IsAmong n (nodes_ids before ++ id ∷ nodes_ids after) → ⊥
  inner-apart n h k = by (among-split n (nodes_ids before) (id ∷ nodes_ids after) k)
    where
      all : distinct (nodes_ids before ++ ((id ∷ regions_ids rs) ++ nodes_ids after)) ≡ true
      all = subst (λ zs. distinct zs ≡ true) (nodes_ids-joined before (node_then (node id op ins rs) after)) part.unique

      rest : distinct ((id ∷ regions_ids rs) ++ nodes_ids after) ≡ true
      rest = (distinct-split (nodes_ids before) ((id ∷ regions_ids rs) ++ nodes_ids after) all).1

      own : distinct (id ∷ regions_ids rs) ≡ true
      own = (distinct-split (id ∷ regions_ids rs) (nodes_ids after) rest).0

      by : IsAmong n (nodes_ids before) ⊎ IsAmong n (id ∷ nodes_ids after) → ⊥
      by (inl j) = distinct-apart (nodes_ids before) ((id ∷ regions_ids rs) ++ nodes_ids after) all n j (among-left n (id ∷ regions_ids rs) (nodes_ids after) (inr h))
      by (inr (inl e)) =
          none-among id (regions_ids rs) (and_parts (not (some_of (λ m. id == m) (regions_ids rs))) (distinct (regions_ids rs)) own).0 (subst (λ z. IsAmong z (regions_ids rs)) e h)
      by (inr (inr j)) = distinct-apart (id ∷ regions_ids rs) (nodes_ids after) rest n (inr h) j

  -- a closed region within the node, on as many inputs as it has arguments
  pub inner-fits : (own : List Kind) (nodes : NodeTrees) (all gives : List Origin) (inputs : List Origin) → IsClosed (region own nodes all) →
      AreRead (is_argument (length own)) (known_after [] nodes) gives → length own ≡ length inputs → AreRead (is_argument (length args)) (known_after [] before) inputs →
      ((n : ℕ) → IsAmong n (nodes_ids nodes) → IsAmong n (regions_ids rs)) → FitsInto args before (node id op ins rs) after results nodes gives inputs
  inner-fits own nodes all gives inputs closed given long known within =
      record {
        closed = part.closed;
        unique = part.unique;
        inputs_known = known;
        part_reads = subst (λ n. NodesRead (is_argument n) [] nodes) long closed.0;
        part_gives = subst (λ n. AreRead (is_argument n) (known_after [] nodes) gives) long given;
        apart = λ n h k. inner-apart n (within n h) k;
      }

pub inner-unique : (l : PlainLambda) (args : List Kind) (before : NodeTrees) (id : ℕ) (op : Op) (ins : List Origin) (own : List Kind) (nodes : NodeTrees) (gives : List Origin) (after : NodeTrees)
    (results : List Origin) → IsPartOf l (region args (joined_nodes before (node_then (node id op ins (region_then (region own nodes gives) no_regions)) after)) results) →
    distinct (nodes_ids nodes) ≡ true
inner-unique l args before id op ins own nodes gives after results part =
    (distinct-split (nodes_ids nodes) [] (inner-distinct l args before id op ins (region_then (region own nodes gives) no_regions) after results part)).0
