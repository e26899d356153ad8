-- What a copy of a callee's body gives: inputs of the call, arguments, or outputs of the nodes that come.
use Rattle.std.specs.Prelude.{slice_get, unwrap_or}
use Rattle.std.proofs.Common.{◌≡◌, ℕ, zero, suc, ◌⊎◌, true, false, List, [], ◌∷◌, map, length, sym, ap, subst, ◌∙◌, inl, inr}
use Rattle.g_graph.specs.declared.op.Origin.{Origin}
use Rattle.g_graph.specs.declared.op.Origin.TheVariants.{Arg, Out}
use Rattle.g_graph.specs.Ids.{nodes_ids}
use Rattle.g_graph.specs.Plain.{RegionTree, region, nodes_in, results_of}
use Rattle.g_graph.specs.Replace.{region_redirected}
use Rattle.g_graph.specs.Splice.{args_to_inputs}
use Rattle.g_graph.proofs.lemmas.Redirects.{nodes_ids-redirected}
use Rattle.g_mean.specs.Copies.{renumbered, nodes_moved, IsAmong, AreRead, known_after, is_argument, IsClosed}
use Rattle.g_mean.proofs.lemmas.Splices.{known-among}
use Rattle.r_edit.specs.Numbering.{number_from, region_numbered}
use Rattle.r_edit.proofs.lemmas.Numbering.{moved-ids}
use Rattle.r_walk.specs.Laws.{IsOutputAmong, AreOutputsAmong}

-- what is read is there
pub read_outputs : (count : ℕ) (known ks : List ℕ) → ((n : ℕ) → IsAmong n known → IsAmong n ks) → (os : List Origin) → AreRead (is_argument count) known os → AreOutputsAmong ks os
read_outputs count known ks h [] r = tt
read_outputs count known ks h (Arg k ∷ os) r = (tt, read_outputs count known ks h os r.1)
read_outputs count known ks h (Out n p ∷ os) r = (by r.0, read_outputs count known ks h os r.1)
  where
    by : (false ≡ true) ⊎ IsAmong n known → IsAmong n ks
    by (inl e) = absurd cc
    by (inr k) = h n k

input-there : (ks : List ℕ) (os : List Origin) → AreOutputsAmong ks os → (k : ℕ) (d : Origin) → IsOutputAmong ks d → IsOutputAmong ks (unwrap_or (slice_get os k) d)
input-there ks [] h zero d e = e
input-there ks [] h (suc k) d e = e
input-there ks (o ∷ os) h zero d e = h.0
input-there ks (o ∷ os) h (suc k) d e = input-there ks os h.1 k d e

outputs-there : (inputs : List Origin) (to : ℕ → ℕ) (count : ℕ) (known ks : List ℕ) → AreOutputsAmong ks inputs → ((n : ℕ) → IsAmong n known → IsAmong (to n) ks) → (os : List Origin) →
    AreRead (is_argument count) known os → AreOutputsAmong ks (map (args_to_inputs inputs) (map (renumbered to) os))
outputs-there inputs to count known ks a h [] r = tt
outputs-there inputs to count known ks a h (Arg k ∷ os) r = (input-there ks inputs a k (Arg k) tt, outputs-there inputs to count known ks a h os r.1)
outputs-there inputs to count known ks a h (Out n p ∷ os) r = (by r.0, outputs-there inputs to count known ks a h os r.1)
  where
    by : (false ≡ true) ⊎ IsAmong n known → IsAmong (to n) ks
    by (inl e) = absurd cc
    by (inr k) = h n k

among-map : (to : ℕ → ℕ) (n : ℕ) (ns : List ℕ) → IsAmong n ns → IsAmong (to n) (map to ns)
among-map to n [] h = absurd h
among-map to n (m ∷ ns) (inl e) = inl (ap to e)
among-map to n (m ∷ ns) (inr h) = inr (among-map to n ns h)

pub copied_outputs : (next : ℕ) (inputs : List Origin) (r : RegionTree) → IsClosed r → (ks : List ℕ) → AreOutputsAmong ks inputs →
    ((n : ℕ) → IsAmong n (nodes_ids (nodes_in (region_redirected (args_to_inputs inputs) (region_numbered next r)))) → IsAmong n ks) →
    AreOutputsAmong ks (results_of (region_redirected (args_to_inputs inputs) (region_numbered next r)))
copied_outputs next inputs (region own ns gives) closed ks a h =
    outputs-there inputs to (length own) (known_after [] ns) ks a
    (λ n k. h (to n) (subst (IsAmong (to n)) (sym (nodes_ids-redirected (args_to_inputs inputs) (nodes_moved (renumbered to) to ns) ∙ moved-ids (renumbered to) to ns)) (among-map to n (nodes_ids ns) (own-one n k))))
    gives closed.1
  where
    to : ℕ → ℕ
    to = number_from next (nodes_ids ns)

    own-one : (n : ℕ) → IsAmong n (known_after [] ns) → IsAmong n (nodes_ids ns)
    own-one n k = by (known-among [] ns n k)
      where
        by : IsAmong n [] ⊎ IsAmong n (nodes_ids ns) → IsAmong n (nodes_ids ns)
        by (inl j) = absurd j
        by (inr j) = j
