-- Numbers of nodes that are below the next one.
use Rattle.std.specs.Prelude.{nat_lt}
use Rattle.std.proofs.Common.{◌≡◌, ◌⊎◌, ◌<◌, ℕ, true, List, [], ◌∷◌, ◌++◌, inl, inr, arith}
use Rattle.std.proofs.lemmas.Bool.{and_parts}
use Rattle.std.proofs.lemmas.Bool.Decides.{nat_tests}
use Rattle.g_graph.specs.Plain.{NodeTrees}
use Rattle.g_graph.specs.Ids.{nodes_ids}
use Rattle.g_graph.specs.WellFormed.{all_of}
use Rattle.g_mean.specs.Copies.{IsAmong}
use Rattle.g_mean.proofs.lemmas.Copies.{among-left, among-right, among-split}

pub below : (m next : ℕ) (ns : List ℕ) → all_of (λ n. nat_lt n next) ns ≡ true → IsAmong m ns → m < next
below m next [] a h = absurd h
below m next (n ∷ ns) a (inl e) =
    let own : nat_lt n next ≡ true = (and_parts (nat_lt n next) (all_of (λ k. nat_lt k next) ns) a).0 in
    grind (arith, nat_tests)
below m next (n ∷ ns) a (inr h) = below m next ns (and_parts (nat_lt n next) (all_of (λ k. nat_lt k next) ns) a).1 h

-- the numbers of the nodes apart from those inside the node
pub among-whole : (m : ℕ) (before : NodeTrees) (id : ℕ) (inner after : List ℕ) → IsAmong m (nodes_ids before ++ id ∷ after) → IsAmong m (nodes_ids before ++ ((id ∷ inner) ++ after))
among-whole m before id inner after h = by (among-split m (nodes_ids before) (id ∷ after) h)
  where
    rest : IsAmong m (id ∷ after) → IsAmong m ((id ∷ inner) ++ after)
    rest (inl e) = inl e
    rest (inr k) = inr (among-right m inner after k)

    by : IsAmong m (nodes_ids before) ⊎ IsAmong m (id ∷ after) → IsAmong m (nodes_ids before ++ ((id ∷ inner) ++ after))
    by (inl k) = among-left m (nodes_ids before) ((id ∷ inner) ++ after) k
    by (inr k) = among-right m (nodes_ids before) ((id ∷ inner) ++ after) (rest k)
