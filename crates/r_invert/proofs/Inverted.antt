-- The numbers of an inverted loop are new, and what it gives are outputs of its last node.
use Rattle.std.proofs.Common.{◌≡◌, ℕ, zero, suc, ◌+◌, ◌*◌, ◌≤◌, ◌⊎◌, List, [], ◌∷◌, ◌++◌, map, length, cond, Option, None, Some, refl, sym, ap, subst, ◌∙◌, inl, inr, arith}
use Rattle.std.specs.Prelude.{option_and_then}
use Rattle.std.proofs.lemmas.List.{length-append, length-map}
use Rattle.std.proofs.lemmas.Option.{cond_some}
use Rattle.g_graph.specs.declared.op.Kind.{Kind}
use Rattle.g_graph.specs.declared.op.Op.{Op}
use Rattle.g_graph.specs.declared.op.Op.TheVariants.{Theta}
use Rattle.g_graph.specs.declared.op.Origin.{Origin}
use Rattle.g_graph.specs.declared.op.Origin.TheVariants.{Out}
use Rattle.g_graph.specs.Ids.{region_ids, nodes_ids, regions_ids}
use Rattle.g_graph.specs.Plain.{RegionTree, region, NodeTree, node, NodeTrees, RegionTrees, no_regions, region_then, args_of, nodes_in, results_of}
use Rattle.g_graph.specs.Replace.{nodes_redirected, region_redirected}
use Rattle.g_graph.specs.Splice.{args_to_inputs}
use Rattle.g_graph.proofs.lemmas.Redirects.{nodes_ids-redirected, region_ids-redirected}
use Rattle.g_graph.proofs.lemmas.Splices.{nodes_ids-joined}
use Rattle.g_mean.specs.Copies.{IsAmong}
use Rattle.g_mean.proofs.lemmas.Copies.{among-right, among-split}
use Rattle.r_edit.specs.Numbering.{node_count, number_from, region_numbered}
use Rattle.r_edit.proofs.lemmas.Numbering.{copied-ids}
use Rattle.r_edit.specs.Origins.{origins_from}
use Rattle.r_invert.specs.Compose.{in_sequence, alone}
use Rattle.r_invert.specs.Rule.{Parts, parts_of, turn, remaining, choice, inverted, new_nodes, may_invert, in_place}
use Rattle.r_walk.specs.Laws.{AreOutputsAmong}
use Rattle.r_walk.proofs.lemmas.Copies.{copies_are_new}
use Rattle.r_walk.proofs.lemmas.Local.{ids_in}

-- ---- numbers

-- these numbers are a first one or come after it
abbrev AreFrom : (next : ℕ) → List ℕ → Type 0
AreFrom next ids = (n : ℕ) → IsAmong n ids → next ≤ n

from-both : (next : ℕ) (is js : List ℕ) → AreFrom next is → AreFrom next js → AreFrom next (is ++ js)
from-both next is js a b n h = by (among-split n is js h)
  where
    by : IsAmong n is ⊎ IsAmong n js → next ≤ n
    by (inl k) = a n k
    by (inr k) = b n k

from-none : (next : ℕ) → AreFrom next []
from-none next n h = absurd h

sequence-ids : (a b : RegionTree) → region_ids (in_sequence a b) ≡ region_ids a ++ region_ids b
sequence-ids (region args ns results) (region own ms gives) =
    nodes_ids-joined ns (nodes_redirected (args_to_inputs results) ms) ∙ ap (λ ids. nodes_ids ns ++ ids) (nodes_ids-redirected (args_to_inputs results) ms)

sequence-from : (next : ℕ) (a b : RegionTree) → AreFrom next (region_ids a) → AreFrom next (region_ids b) → AreFrom next (region_ids (in_sequence a b))
sequence-from next a b h k = subst (AreFrom next) (sym (sequence-ids a b)) (from-both next (region_ids a) (region_ids b) h k)

alone-from : (next id : ℕ) (op : Op) (args : List Kind) (results : ℕ) (rs : RegionTrees) → next ≤ id → AreFrom next (regions_ids rs) → AreFrom next (region_ids (alone id op args results rs))
alone-from next id op args results rs less h = from-both next (id ∷ regions_ids rs) [] own (from-none next)
  where
    own : AreFrom next (id ∷ regions_ids rs)
    own n (inl e) = omega (arith, e)
    own n (inr k) = h n k

copy-from : (next first : ℕ) (r : RegionTree) → next ≤ first → AreFrom next (region_ids (region_numbered first r))
copy-from next first r less n h = omega (arith, copies_are_new first r n h)

turn-from : (next first : ℕ) (p : Parts) → next ≤ first → AreFrom next (region_ids (turn first p))
turn-from next first p less =
    sequence-from next (region_numbered first p.go) (region_numbered (first + node_count p.go) p.test) (copy-from next first p.go less)
    (copy-from next (first + node_count p.go) p.test (omega arith))

remaining-from : (next first : ℕ) (p : Parts) → next ≤ first → AreFrom next (region_ids (remaining first p))
remaining-from next first p less =
    sequence-from next (alone first Theta (args_of p.go) (length (args_of p.go)) (region_then (turn (suc first) p) no_regions))
    (region_numbered (suc first + (node_count p.go + node_count p.test)) p.stop)
    (alone-from next first Theta (args_of p.go) (length (args_of p.go)) (region_then (turn (suc first) p) no_regions) less
    (from-both next (region_ids (turn (suc first) p)) [] (turn-from next (suc first) p (omega arith)) (from-none next)))
    (copy-from next (suc first + (node_count p.go + node_count p.test)) p.stop (omega arith))

choice-from : (next first : ℕ) (p : Parts) → next ≤ first → AreFrom next (region_ids (choice first p))
choice-from next first p less =
    let stop = region_numbered (suc first) p.stop in
    let rest = remaining (suc first + node_count p.stop) p in
    from-both next (first ∷ (region_ids stop ++ (region_ids rest ++ []))) [] own (from-none next)
  where
    own : AreFrom next (first ∷ (region_ids (region_numbered (suc first) p.stop) ++ (region_ids (remaining (suc first + node_count p.stop) p) ++ [])))
    own n (inl e) = omega (arith, e)
    own n (inr h) =
        from-both next (region_ids (region_numbered (suc first) p.stop)) (region_ids (remaining (suc first + node_count p.stop) p) ++ []) (copy-from next (suc first) p.stop (omega arith))
        (from-both next (region_ids (remaining (suc first + node_count p.stop) p)) [] (remaining-from next (suc first + node_count p.stop) p (omega arith)) (from-none next)) n h

inverted-from : (next : ℕ) (p : Parts) → AreFrom next (region_ids (inverted next p))
inverted-from next p =
    sequence-from next (region_numbered next p.test) (choice (next + node_count p.test) p) (copy-from next next p.test (omega arith)) (choice-from next (next + node_count p.test) p (omega arith))

-- how many they are
copy-count : (first : ℕ) (r : RegionTree) → length (region_ids (region_numbered first r)) ≡ node_count r
copy-count first r = ap length (copied-ids (number_from first (region_ids r)) r) ∙ length-map (region_ids r) (number_from first (region_ids r))

sequence-count : (a b : RegionTree) → node_count (in_sequence a b) ≡ node_count a + node_count b
sequence-count a b = ap length (sequence-ids a b) ∙ length-append (region_ids a) (region_ids b)

turn-count : (first : ℕ) (p : Parts) → node_count (turn first p) ≡ node_count p.go + node_count p.test
turn-count first p =
    omega (
      arith,
      sequence-count (region_numbered first p.go) (region_numbered (first + node_count p.go) p.test),
      copy-count first p.go,
      copy-count (first + node_count p.go) p.test,
    )

remaining-count : (first : ℕ) (p : Parts) → node_count (remaining first p) ≡ 1 + node_count p.go + node_count p.test + node_count p.stop
remaining-count first p =
    let loop = turn (suc first) p in
    omega (
      arith,
      sequence-count (alone first Theta (args_of p.go) (length (args_of p.go)) (region_then loop no_regions)) (region_numbered (suc first + (node_count p.go + node_count p.test)) p.stop),
      length-append (region_ids loop ++ []) [],
      length-append (region_ids loop) [],
      turn-count (suc first) p,
      copy-count (suc first + (node_count p.go + node_count p.test)) p.stop,
    )

choice-count : (first : ℕ) (p : Parts) → node_count (choice first p) ≡ 2 + node_count p.go + node_count p.test + 2 * node_count p.stop
choice-count first p =
    let stop = region_numbered (suc first) p.stop in
    let rest = remaining (suc first + node_count p.stop) p in
    omega (
      arith,
      length-append (region_ids stop ++ (region_ids rest ++ [])) [],
      length-append (region_ids stop) (region_ids rest ++ []),
      length-append (region_ids rest) [],
      copy-count (suc first) p.stop,
      remaining-count (suc first + node_count p.stop) p,
    )

pub inverted_count : (next : ℕ) (p : Parts) → node_count (inverted next p) ≡ new_nodes p
inverted_count next p =
    omega (
      arith,
      sequence-count (region_numbered next p.test) (choice (next + node_count p.test) p),
      copy-count next p.test,
      choice-count (next + node_count p.test) p,
    )

-- ---- results

outs-known : (ks : List ℕ) (m : ℕ) → IsAmong m ks → (is js : List Origin) (start count : ℕ) → AreOutputsAmong ks (map (args_to_inputs is) (map (args_to_inputs js) (origins_from (Out m) start count)))
outs-known ks m h is js start zero = tt
outs-known ks m h is js start (suc count) = (h, outs-known ks m h is js (suc start) count)

sequence-known : (ks : List ℕ) (m : ℕ) → IsAmong m ks → (inputs : List Origin) (a : RegionTree) (own : List Kind) (ms : NodeTrees) (count : ℕ) →
    AreOutputsAmong ks (results_of (region_redirected (args_to_inputs inputs) (in_sequence a (region own ms (origins_from (Out m) 0 count)))))
sequence-known ks m h inputs (region args ns results) own ms count = outs-known ks m h inputs results 0 count

-- ---- what comes in the place of a loop

-- a region that comes in the place of a node, whose numbers are new, and which gives outputs of its own nodes
pub record IsNew (next : ℕ) (r : RegionTree) : Type 0 where
  pub numbers : (n : ℕ) → IsAmong n (nodes_ids (nodes_in r)) → next ≤ n
  pub known : (ks : List ℕ) → ((n : ℕ) → IsAmong n (nodes_ids (nodes_in r)) → IsAmong n ks) → AreOutputsAmong ks (results_of r)

new-of : (next : ℕ) (inputs : List Origin) (p : Parts) → IsNew next (region_redirected (args_to_inputs inputs) (inverted next p))
new-of next inputs p = record {
  numbers = λ n h. inverted-from next p n (subst (IsAmong n) ids h);
  known = λ ks h.
      sequence-known ks (next + node_count p.test) (h (next + node_count p.test) (subst (IsAmong (next + node_count p.test)) (sym ids) last)) inputs (region_numbered next p.test)
      (args_of (choice (next + node_count p.test) p)) (nodes_in (choice (next + node_count p.test) p)) (length (results_of p.stop));
}
  where
    ids : nodes_ids (nodes_in (region_redirected (args_to_inputs inputs) (inverted next p))) ≡ region_ids (inverted next p)
    ids = ids_in (region_redirected (args_to_inputs inputs) (inverted next p)) ∙ region_ids-redirected (args_to_inputs inputs) (inverted next p)

    last : IsAmong (next + node_count p.test) (region_ids (inverted next p))
    last =
        subst (IsAmong (next + node_count p.test)) (sym (sequence-ids (region_numbered next p.test) (choice (next + node_count p.test) p)))
        (among-right (next + node_count p.test) (region_ids (region_numbered next p.test)) (region_ids (choice (next + node_count p.test) p)) (inl refl))

pub is_new : (values next : ℕ) (x : NodeTree) (r : RegionTree) → in_place values next x ≡ Some r → IsNew next r
is_new values next (node id Theta inputs (region_then body no_regions)) r e = by (parts_of body) e
  where
    by : (o : Option Parts) → option_and_then (λ p. cond (may_invert values next body p) (Some (region_redirected (args_to_inputs inputs) (inverted next p))) None) o ≡ Some r → IsNew next r
    by None d = absurd cc
    by (Some p) d =
        let c = cond_some (may_invert values next body p) (region_redirected (args_to_inputs inputs) (inverted next p)) r d in
        subst (IsNew next) c.1 (new-of next inputs p)
is_new values next (node id Theta inputs no_regions) r e = absurd cc
is_new values next (node id Theta inputs (region_then body (region_then t rs))) r e = absurd cc
is_new values next (node id _ inputs rs) r e = absurd cc
