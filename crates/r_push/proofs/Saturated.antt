-- A count that is saturated decides as the count itself.
use Rattle.std.specs.Option.{option_or}
use Rattle.std.proofs.Common.{◌≡◌, ℕ, ◌&&◌, cond, None, option_map, refl, ap, ap₂, ◌∙◌}
use Rattle.std.proofs.Math.Path.{fun_ext}
use Rattle.g_graph.specs.Plain.{RegionTree, region, NodeTrees, no_nodes, node_then, PlainLambda}
use Rattle.g_graph.specs.Change.{lambda_changed}
use Rattle.g_graph.specs.Program.{lambda_values}
use Rattle.g_graph.specs.Count.{saturated}
use Rattle.g_graph.specs.Splice.{joined_nodes}
use Rattle.r_edit.proofs.lemmas.Size.{saturated-decides}
use Rattle.r_push.specs.Rule.{growth, can_count, pushed, nodes_pushed, push_here, lambda_pushed}

nodes-same : (v n : ℕ) (ns : NodeTrees) → nodes_pushed (saturated v) n ns ≡ nodes_pushed v n ns
nodes-same v n no_nodes = refl
nodes-same v n (node_then x ns) =
    ap₂ (λ t rest. option_or (option_map (λ part. joined_nodes part ns) (cond (t && can_count x) (pushed n x) None)) (option_map (node_then x) rest))
    (saturated-decides v (growth x) 0) (nodes-same v n ns)

here-same : (v n : ℕ) (r : RegionTree) → push_here (saturated v) n r ≡ push_here v n r
here-same v n (region args nodes results) = ap (option_map (λ ns. region args ns results)) (nodes-same v n nodes)

pub limit_same : (v n : ℕ) → push_here (saturated v) n ≡ push_here v n
limit_same v n = fun_ext (λ r. here-same v n r)

-- the change that the code makes
pub limit_of : (v n : ℕ) (l : PlainLambda) → v ≡ saturated (lambda_values l) → push_here v n ≡ push_here (lambda_values l) n
limit_of v n l e = ap (λ u. push_here u n) e ∙ limit_same (lambda_values l) n

-- and the lambda
pub changed_same : (v n : ℕ) (l k : PlainLambda) → v ≡ saturated (lambda_values l) → k ≡ lambda_changed (push_here v n) l → k ≡ lambda_pushed n l
changed_same v n l k e d = d ∙ ap (λ h. lambda_changed h l) (limit_of v n l e)
