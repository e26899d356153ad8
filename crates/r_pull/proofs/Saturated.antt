-- A count that is saturated decides as the count itself.
use Rattle.std.specs.Prelude.{option_and_then, unwrap_or}
use Rattle.std.proofs.Common.{◌≡◌, ℕ, ◌+◌, ◌^◌, nat_le, ◌&&◌, cond, length, Option, None, Some, option_map, ap, sym, ◌∙◌}
use Rattle.std.proofs.Math.Path.{fun_ext}
use Rattle.g_graph.specs.Plain.{RegionTree, PlainLambda, nodes_in}
use Rattle.g_graph.specs.Change.{lambda_changed}
use Rattle.g_graph.specs.Count.{saturated}
use Rattle.g_graph.specs.Nodes.{node_at}
use Rattle.g_graph.specs.Program.{lambda_values}
use Rattle.r_edit.proofs.lemmas.Size.{saturated-decides}
use Rattle.r_pull.specs.Rule.{Pull, added, gone, copies_of, most_next, where_fits, pull_of, pull_at, region_pulled, pull_here, copies_here, region_answer, copies_at, lambda_pulled}

fits-same : (v next n : ℕ) (h : Pull) → where_fits (saturated v) next n h ≡ where_fits v next n h
fits-same v next n h =
    ap (λ t. cond (t && nat_le (next + copies_of n h) most_next && nat_le (length h.entries + length h.inputs) (2 ^ 32)) (Some h) None) (saturated-decides v (added n h) (gone n h))

at-same : (v next n : ℕ) (r : RegionTree) → pull_at (saturated v) next n r ≡ pull_at v next n r
at-same v next n r =
    ap (λ f. option_and_then f (option_and_then (pull_of n r) (node_at n (nodes_in r)))) (fun_ext (λ h. fits-same v next n h))

here-same : (v next n : ℕ) → pull_here (saturated v) next n ≡ pull_here v next n
here-same v next n = fun_ext (λ r. ap (option_map (region_pulled next n r)) (at-same v next n r))

copies-same : (v next n : ℕ) → copies_here (saturated v) next n ≡ copies_here v next n
copies-same v next n = fun_ext (λ r. ap (option_map (copies_of n)) (at-same v next n r))

-- the count of copies that the code makes
pub counted_same : (v n : ℕ) (l : PlainLambda) (o : Option ℕ) → v ≡ saturated (lambda_values l) → o ≡ region_answer (copies_here v l.next n) l.body → o ≡ copies_at l n
counted_same v n l o e d = d ∙ ap (λ h. region_answer h l.body) (ap (λ u. copies_here u l.next n) e ∙ copies-same (lambda_values l) l.next n)

-- the lambda that the code makes, with x for the next number
pub pulled_lambda : (v n c x : ℕ) (l k : PlainLambda) → v ≡ saturated (lambda_values l) → copies_at l n ≡ Some c → x ≡ l.next → k ≡ lambda_changed (pull_here v x n) l →
    record k { next = x + c } ≡ lambda_pulled n l
pulled_lambda v n c x l k e a b d =
    ap (λ (z : PlainLambda). record z { next = x + c }) d
    ∙ ap (λ y. record (lambda_changed (pull_here v y n) l) { next = y + c }) b
    ∙ ap (λ h. record (lambda_changed h l) { next = l.next + c }) (ap (λ u. pull_here u l.next n) e ∙ here-same (lambda_values l) l.next n)
    ∙ ap (λ o. record (lambda_changed (pull_here (lambda_values l) l.next n) l) { next = l.next + unwrap_or o 0 }) (sym a)
