-- Nodes pushed after others, and their results, make the sequence.
use Rattle.std.proofs.Common.{◌≡◌, List, ◌++◌, map, subst, ◌∙◌}
use Rattle.g_graph.specs.declared.op.Kind.{Kind}
use Rattle.g_graph.specs.declared.op.Origin.{Origin}
use Rattle.g_graph.specs.Plain.{RegionTree, region, NodeTree, nodes_of}
use Rattle.g_graph.specs.Replace.{region_redirected, nodes_redirected}
use Rattle.g_graph.specs.Splice.{args_to_inputs, joined_nodes}
use Rattle.g_graph.proofs.lemmas.Splices.{nodes_of_append}
use Rattle.r_invert.specs.Compose.{in_sequence}

by-parts : (args : List Kind) (ns : List NodeTree) (results : List Origin) (others : List Kind) (ms : List NodeTree) (gets : List Origin) (second : RegionTree) →
    region others (nodes_of ms) gets ≡ region_redirected (args_to_inputs results) second → region args (nodes_of (ns ++ ms)) gets ≡ in_sequence (region args (nodes_of ns) results) second
by-parts args ns results others ms gets (region own ks outs) e =
    let nodes : nodes_of ms ≡ nodes_redirected (args_to_inputs results) ks = cc in
    let given : gets ≡ map (args_to_inputs results) outs = cc in
    λ i. region args ((nodes_of_append ns ms ∙ (λ j. joined_nodes (nodes_of ns) (nodes j))) i) (given i)

pub sequence-made : (args : List Kind) (ns : List NodeTree) (results : List Origin) (others : List Kind) (ms : List NodeTree) (gets : List Origin) (first second : RegionTree) →
    region args (nodes_of ns) results ≡ first → region others (nodes_of ms) gets ≡ region_redirected (args_to_inputs results) second →
    region args (nodes_of (ns ++ ms)) gets ≡ in_sequence first second
sequence-made args ns results others ms gets first second is e =
    subst (λ r. region args (nodes_of (ns ++ ms)) gets ≡ in_sequence r second) is (by-parts args ns results others ms gets second e)
