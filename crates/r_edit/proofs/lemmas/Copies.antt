-- Copies have the ops of what is copied, and mean the same.
use Rattle.std.proofs.Common.{ℕ, sym, subst}
use Rattle.std.proofs.lemmas.List.{length-map}
use Rattle.g_graph.specs.declared.op.Op.{Op}
use Rattle.g_graph.specs.declared.op.Origin.{Origin}
use Rattle.g_graph.specs.Plain.{RegionTree, region, node, NodeTrees, no_nodes, node_then, RegionTrees, no_regions, region_then}
use Rattle.g_graph.specs.Ids.{region_ids}
use Rattle.g_graph.specs.Lists.{Calls, NamesGlobal, RegionOps, NodesOps, RegionsOps}
use Rattle.g_mean.specs.Copies.{renumbered, region_copied, nodes_moved, regions_copied}
use Rattle.g_mean.proofs.lemmas.Copies.{copied_regions_mean_the_same}
use Rattle.r_edit.specs.CopyLaws.{CopiesCallTheSame, CopiesNameTheSame, NumberedCopiesMeanTheSame}
use Rattle.r_edit.specs.Numbering.{number_from, region_numbered}
use Rattle.r_edit.proofs.lemmas.Numbering.{number_from-one}

module _ (p : Op → ℕ → Type 0) (to : ℕ → ℕ) where
  mutual
    pub copied-ops : (r : RegionTree) → RegionOps p r → RegionOps p (region_copied to r)
    copied-ops (region args nodes results) h = moved-ops (renumbered to) nodes h

    pub moved-ops : (move : Origin → Origin) (ns : NodeTrees) → NodesOps p ns → NodesOps p (nodes_moved move to ns)
    moved-ops move no_nodes h = h
    moved-ops move (node_then (node id op inputs rs) ns) h =
        ((subst (p op) (sym (length-map inputs move)) h.0.0, regions-ops rs h.0.1), moved-ops move ns h.1)

    regions-ops : (rs : RegionTrees) → RegionsOps p rs → RegionsOps p (regions_copied to rs)
    regions-ops no_regions h = h
    regions-ops (region_then r rs) h = (copied-ops r h.0, regions-ops rs h.1)

-- a property of the ops that the region has
pub numbered-ops : (p : Op → ℕ → Type 0) (next : ℕ) (r : RegionTree) → RegionOps p r → RegionOps p (region_numbered next r)
numbered-ops p next r h = copied-ops p (number_from next (region_ids r)) r h

pub copies_call_the_same : CopiesCallTheSame
copies_call_the_same ls next r h = numbered-ops (Calls ls) next r h

pub copies_name_the_same : CopiesNameTheSame
copies_name_the_same globals next r h = numbered-ops (NamesGlobal globals) next r h

pub numbered_copies_mean_the_same : NumberedCopiesMeanTheSame
numbered_copies_mean_the_same next r closed c =
    copied_regions_mean_the_same (number_from next (region_ids r)) r closed (λ m n a b e. number_from-one next (region_ids r) m n e) c
