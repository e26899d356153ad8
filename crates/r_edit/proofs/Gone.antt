-- The node that goes, by its index.
use Rattle.std.proofs.Common.{◌≡◌, ℕ, zero, suc, ◌+◌, ◌==◌, Bool, true, false, cond, List, [], ◌∷◌, ◌++◌, take, drop, None, Some, refl, ap, ◌∙◌, add-one, arith}
use Rattle.std.proofs.lemmas.Option.{same_Some}
use Rattle.g_graph.specs.Plain.{NodeTree, NodeTrees, no_nodes, node_then, nodes_of, id_of}
use Rattle.g_graph.specs.Change.{node_index}
use Rattle.g_graph.proofs.lemmas.Splices.{node_index_least}
use Rattle.r_edit.specs.Removal.{nodes_without}

pub without_none : (n first : ℕ) (ns : NodeTrees) → node_index n first ns ≡ None → nodes_without n ns ≡ ns
without_none n first no_nodes e = refl
without_none n first (node_then x ns) e = by (id_of x == n) e (without_none n (suc first) ns)
  where
    by : (t : Bool) → cond t (Some first) (node_index n (suc first) ns) ≡ None → (node_index n (suc first) ns ≡ None → nodes_without n ns ≡ ns) →
        cond t ns (node_then x (nodes_without n ns)) ≡ node_then x ns
    by true e h = absurd cc
    by false e h = ap (node_then x) (h e)

without_from : (n first p : ℕ) (xs : List NodeTree) → node_index n first (nodes_of xs) ≡ Some (first + p) → nodes_without n (nodes_of xs) ≡ nodes_of (take p xs ++ drop (suc p) xs)
without_from n first p [] e = absurd cc
without_from n first zero (x ∷ xs) e = by (id_of x == n) e
  where
    by : (t : Bool) → cond t (Some first) (node_index n (suc first) (nodes_of xs)) ≡ Some (first + 0) → cond t (nodes_of xs) (node_then x (nodes_without n (nodes_of xs))) ≡ nodes_of xs
    by true e = refl
    by false e = absurd (omega (arith, node_index_least n (suc first) (first + 0) (nodes_of xs) e))
without_from n first (suc p) (x ∷ xs) e = by (id_of x == n) e (without_from n (suc first) p xs)
  where
    by : (t : Bool) → cond t (Some first) (node_index n (suc first) (nodes_of xs)) ≡ Some (first + suc p) →
        (node_index n (suc first) (nodes_of xs) ≡ Some (suc first + p) → nodes_without n (nodes_of xs) ≡ nodes_of (take p xs ++ drop (suc p) xs)) →
        cond t (nodes_of xs) (node_then x (nodes_without n (nodes_of xs))) ≡ node_then x (nodes_of (take p xs ++ drop (suc p) xs))
    by true e h = absurd (omega (arith, same_Some first (first + suc p) e))
    by false e h = ap (node_then x) (h (e ∙ ap Some (omega arith)))

pub without_at : (n p : ℕ) (xs : List NodeTree) → node_index n 0 (nodes_of xs) ≡ Some p → nodes_without n (nodes_of xs) ≡ nodes_of (take p xs ++ drop (p + 1) xs)
without_at n p xs e = rw add-one (without_from n 0 p xs (e ∙ ap Some (omega arith)))
